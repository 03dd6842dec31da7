use Rattle.std.proofs.Common.{◌∙◌, ◌++◌, ap, subst, map, List}
use Rattle.base_model.specs.Text.{Text, In}
use Rattle.base_model.specs.Values.{FileEntry, file_entry_of, manifest_of}
use Rattle.restore_make.specs.Options.{log_fetch_of}
use Rattle.restore_make.specs.Recovered.{line_end, without_targets, settings_block}
use Rattle.restore_make.specs.Settings.{HoldsConf}
use Rattle.restore_make.proofs.Lines.{settings_there}
use Rattle.restore_make.proofs.settings.add_fetch.Goals as goal

pub read_conf-requires-clause-entries : goal.read_conf-requires-clause-entries
read_conf-requires-clause-entries g c = λ e i.
    let m = manifest_of c.args.what.now.manifest.now in
    (m.folders, c.requires.rules.files e (subst (λ (es : List FileEntry). In e es) (ap (map file_entry_of) c.deref.ensures.value) i))

pub returns-clause-added : goal.returns-clause-added
returns-clause-added g c =
    let m = manifest_of c.args.what.now.manifest.now in
    let links = map g.L.Link.link_state c.args.pool.now.links.items in
    settings_there c.args.what.now.stanza.now m.label links m.files (log_fetch_of c.args.fetch.now) c.in_ok-held.held.items c.deref-3.result.now (g.T.DataFolder.state c.write_settings.new.tree).nodes
    (subst (λ (es : List FileEntry). HoldsConf c.args.what.now.stanza.now m.label links es c.in_ok-held.held.items) (ap (map file_entry_of) c.deref.ensures.value) c.in_ok-held.ensures.conf)
    (c.deref-3.ensures.value ∙ c.in_ok-text.ensures ∙ ap (λ (t : Text). line_end (without_targets t) ++ settings_block (log_fetch_of c.args.fetch.now)) c.deref-2.ensures.value)
    c.in_ok-write_settings.ensures.conf c.in_ok-write_settings.ensures.signal
