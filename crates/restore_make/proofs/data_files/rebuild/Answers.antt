use Rattle.std.proofs.Common.{◌≡◌, ◌∙◌, Bool, true, sym, ap, subst, List, map}
use Rattle.std.proofs.lemmas.Result.{on_ok_weaker}
use Rattle.base_devices.specs.Order.{are_in_order}
use Rattle.base_model.specs.Text.{In}
use Rattle.base_model.specs.Values.{FileEntry, file_entry_of, manifest_of}
use Rattle.restore_steps.specs.Clearing.{control_path, seen_of}
use Rattle.restore_steps.proofs.Nodes.{none_at}
use Rattle.restore_make.specs.Options.{options_of}
use Rattle.restore_make.specs.Kept.{marked}
use Rattle.restore_make.specs.KeptTimes.{AreThere, IsUnmarked, SetsTimes}
use Rattle.restore_make.specs.Entries.{reads_of, Fills}
use Rattle.restore_make.specs.Listed.{AreHoused}
use Rattle.restore_make.proofs.Proper.{housed, prepared_folders, timed_folders, filled_folders, still_listed}
use Rattle.restore_make.proofs.ReadEntries.{ordinary_off}
use Rattle.restore_make.proofs.Rebuilt.{kept_there, rebuilt}
use Rattle.restore_make.proofs.data_files.rebuild.Goals as goal

pub time_kept-requires : goal.time_kept-requires
time_kept-requires g c = record { order = subst (λ (es : List FileEntry). are_in_order (map (λ (e : FileEntry). e.path) es) ≡ true) (sym (ap (map file_entry_of) c.deref.ensures.value)) c.requires.rules.file_order }

pub fill-requires-clause-entries : goal.fill-requires-clause-entries
fill-requires-clause-entries g c = λ e i.
    let m = manifest_of c.args.what.now.manifest.now in
    (m.folders, c.requires.rules.files e (subst (λ (es : List FileEntry). In e es) (ap (map file_entry_of) c.deref-2.ensures.value) i))

pub returns-clause-rebuilds : goal.returns-clause-rebuilds
returns-clause-rebuilds g c =
    let m = manifest_of c.args.what.now.manifest.now in
    let o = options_of c.args.what.now.options in
    let links = map g.L.Link.link_state c.args.pool.now.links.items in
    let old = (g.T.DataFolder.state c.args.tree.now).nodes in
    let mid = (g.T.DataFolder.state c.prepare.new.tree).nodes in
    let timed = (g.T.DataFolder.state c.time_kept.new.tree).nodes in
    let new = (g.T.DataFolder.state c.fill.new.tree).nodes in
    let times = subst (λ (es : List FileEntry). SetsTimes (marked es c.args.marks.now) mid timed) (ap (map file_entry_of) c.deref.ensures.value) c.in_ok-time_kept.ensures.timed in
    on_ok_weaker c.fill.result
    (λ fills. rebuilt c.args.what.now.stanza.now links o m c.args.marks.now c.requires.rules (map seen_of c.args.what.now.seen.now) old mid timed new c.requires.seen c.in_ok-prepare.ensures.ready times
    (subst (λ (es : List FileEntry). Fills c.args.what.now.stanza.now m.label links (reads_of o.recovery (marked es c.args.marks.now)) timed new) (ap (map file_entry_of) c.deref-2.ensures.value) fills))
    c.fill.ensures.fills

pub returns-clause-folders : goal.returns-clause-folders
returns-clause-folders g c =
    let m = manifest_of c.args.what.now.manifest.now in
    let o = options_of c.args.what.now.options in
    let links = map g.L.Link.link_state c.args.pool.now.links.items in
    let old = (g.T.DataFolder.state c.args.tree.now).nodes in
    let mid = (g.T.DataFolder.state c.prepare.new.tree).nodes in
    let timed = (g.T.DataFolder.state c.time_kept.new.tree).nodes in
    let new = (g.T.DataFolder.state c.fill.new.tree).nodes in
    let times = subst (λ (es : List FileEntry). SetsTimes (marked es c.args.marks.now) mid timed) (ap (map file_entry_of) c.deref.ensures.value) c.in_ok-time_kept.ensures.timed in
    on_ok_weaker c.fill.result
    (λ fills. filled_folders m c.requires.rules c.args.what.now.stanza.now links o.recovery c.args.marks.now timed new
    (subst (λ (es : List FileEntry). Fills c.args.what.now.stanza.now m.label links (reads_of o.recovery (marked es c.args.marks.now)) timed new) (ap (map file_entry_of) c.deref-2.ensures.value) fills)
    (timed_folders m c.requires.rules c.args.marks.now mid timed times (prepared_folders m c.requires.rules (map seen_of c.args.what.now.seen.now) old mid c.in_ok-prepare.ensures.ready)))
    c.fill.ensures.fills

pub returns-in_err-prepare-clause-proper : goal.returns-in_err-prepare-clause-proper
returns-in_err-prepare-clause-proper g c = c.prepare.ensures.proper (still_listed (map seen_of c.args.what.now.seen.now) (g.T.DataFolder.state c.args.tree.now).nodes c.requires.seen)

pub returns-in_err-time_kept-clause-proper : goal.returns-in_err-time_kept-clause-proper
returns-in_err-time_kept-clause-proper g c =
    let m = manifest_of c.args.what.now.manifest.now in
    let o = options_of c.args.what.now.options in
    let seen = map seen_of c.args.what.now.seen.now in
    let old = (g.T.DataFolder.state c.args.tree.now).nodes in
    let mid = (g.T.DataFolder.state c.prepare.new.tree).nodes in
    c.time_kept.ensures.proper (subst (λ (es : List FileEntry). AreThere (marked es c.args.marks.now) mid) (sym (ap (map file_entry_of) c.deref.ensures.value)) (kept_there o m c.args.marks.now seen c.requires.rules c.requires.marks old mid c.requires.seen c.in_ok-prepare.ensures.ready))
    ∙ c.prepare.ensures.proper (still_listed seen old c.requires.seen)

pub returns-clause-proper : goal.returns-clause-proper
returns-clause-proper g c =
    let m = manifest_of c.args.what.now.manifest.now in
    let o = options_of c.args.what.now.options in
    let seen = map seen_of c.args.what.now.seen.now in
    let old = (g.T.DataFolder.state c.args.tree.now).nodes in
    let mid = (g.T.DataFolder.state c.prepare.new.tree).nodes in
    let timed = (g.T.DataFolder.state c.time_kept.new.tree).nodes in
    let times = subst (λ (es : List FileEntry). SetsTimes (marked es c.args.marks.now) mid timed) (ap (map file_entry_of) c.deref.ensures.value) c.in_ok-time_kept.ensures.timed in
    c.fill.ensures.proper
    (subst (λ (es : List FileEntry). AreHoused es timed) (sym (ap (map file_entry_of) c.deref-2.ensures.value)) (housed m c.requires.rules timed (timed_folders m c.requires.rules c.args.marks.now mid timed times (prepared_folders m c.requires.rules seen old mid c.in_ok-prepare.ensures.ready))))
    ∙ c.time_kept.ensures.proper (subst (λ (es : List FileEntry). AreThere (marked es c.args.marks.now) mid) (sym (ap (map file_entry_of) c.deref.ensures.value)) (kept_there o m c.args.marks.now seen c.requires.rules c.requires.marks old mid c.requires.seen c.in_ok-prepare.ensures.ready))
    ∙ c.prepare.ensures.proper (still_listed seen old c.requires.seen)

pub returns-in_err-time_kept-clause-control : goal.returns-in_err-time_kept-clause-control
returns-in_err-time_kept-clause-control g c = λ was.
    let o = options_of c.args.what.now.options in
    let mid = (g.T.DataFolder.state c.prepare.new.tree).nodes in
    let timed = (g.T.DataFolder.state c.time_kept.new.tree).nodes in
    none_at control_path mid timed
    (c.time_kept.ensures.others control_path
    (subst (λ (es : List FileEntry). IsUnmarked (marked es c.args.marks.now) control_path) (sym (ap (map file_entry_of) c.deref.ensures.value))
    (λ e i is. ordinary_off o.recovery e (c.requires.marks e i).0 (sym is))))
    (c.prepare.ensures.control was)

pub returns-clause-control : goal.returns-clause-control
returns-clause-control g c = λ was.
    let o = options_of c.args.what.now.options in
    let mid = (g.T.DataFolder.state c.prepare.new.tree).nodes in
    let timed = (g.T.DataFolder.state c.time_kept.new.tree).nodes in
    c.fill.ensures.control
    (none_at control_path mid timed
    (c.time_kept.ensures.others control_path
    (subst (λ (es : List FileEntry). IsUnmarked (marked es c.args.marks.now) control_path) (sym (ap (map file_entry_of) c.deref.ensures.value))
    (λ e i is. ordinary_off o.recovery e (c.requires.marks e i).0 (sym is))))
    (c.prepare.ensures.control was))
