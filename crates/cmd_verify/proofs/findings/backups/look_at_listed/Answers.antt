use Rattle.std.proofs.Common.{◌∙◌}
use Rattle.base_model.specs.Values.{entry_of}
use Rattle.repo_text_lemmas.proofs.Manifests.{one_manifest}
use Rattle.cmd_verify.proofs.Listed.{unread_listed, read_listed}
use Rattle.cmd_verify.proofs.findings.backups.look_at_listed.Goals as goal

pub returns-clause-adds : goal.returns-clause-adds
returns-clause-adds g c =
    let D = g.D.Disk in
    read_listed c.args.stanza.now c.args.history.now (entry_of c.args.entry.now) c.in_ok-manifest.field-0 c.args.found.now.items c.look_at_backup.new.found.items (D.state c.args.d.now).view.now
    c.in_ok-manifest.ensures.value c.in_ok-manifest.ensures.adds c.in-Some.manifest c.in-Some.is one_manifest c.as_str.result.now (c.as_str.ensures.value ∙ c.in_ok-name.ensures) c.tell_unlike.new.found.items c.in_ok-tell_unlike.ensures

pub returns-in_default-clause-adds : goal.returns-in_default-clause-adds
returns-in_default-clause-adds g c =
    let D = g.D.Disk in
    unread_listed c.args.stanza.now c.args.history.now (entry_of c.args.entry.now) c.in_ok-manifest.field-0 c.args.found.now.items c.look_at_backup.new.found.items (D.state c.args.d.now).view.now
    c.in_ok-manifest.ensures.value c.in_ok-manifest.ensures.adds c.in_default.is
