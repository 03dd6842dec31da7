use Rattle.std.proofs.Common.{◌≡◌, ◌∙◌, false, ap, map}
use Rattle.std.proofs.lemmas.Result.{on_ok_weaker, IfErr-weaker}
use Rattle.base_model.specs.Values.{file_entry_of}
use Rattle.worker_protocol.specs.Views.{job_of}
use Rattle.restore_steps.specs.Sources.{reading}
use Rattle.restore_steps.proofs.Fitting.{fits_reading}
use Rattle.restore_steps.specs.Clearing.{control_path}
use Rattle.restore_steps.proofs.Nodes.{none_at}
use Rattle.restore_make.specs.Options.{recovery_of}
use Rattle.restore_make.specs.Kept.{marked}
use Rattle.restore_make.specs.Entries.{reads_of, want_of, want_in}
use Rattle.restore_make.proofs.Filled.{fills, fill_fails, have_folders, none_of_control}
use Rattle.restore_make.proofs.ReadJobs.{all_fit, are_jobs, apart}
use Rattle.restore_make.proofs.ReadEntries.{in_read, marked_in, marked_order}
use Rattle.restore_make.proofs.data_files.fill.Goals as goal

pub write_files-requires-clause-fits : goal.write_files-requires-clause-fits
write_files-requires-clause-fits g c =
    let es = map file_entry_of c.args.chosen.now.files.now in
    let r = recovery_of c.args.chosen.now.recovery in
    let ps = marked es c.args.chosen.now.marks.now in
    all_fit (reading c.args.chosen.now.stanza.now c.args.chosen.now.own.now) (reads_of r ps) c.deref.result.now (ap (map job_of) c.deref.ensures.value ∙ c.in_ok-planned.ensures.jobs)
    (λ e i. fits_reading c.args.chosen.now.stanza.now c.requires.stanza c.args.chosen.now.own.now c.requires.own e (c.requires.entries e (marked_in es c.args.chosen.now.marks.now (e, false) (in_read r ps e i).0)))

pub write_files-requires-clause-jobs : goal.write_files-requires-clause-jobs
write_files-requires-clause-jobs g c =
    are_jobs c.args.chosen.now.stanza.now c.args.chosen.now.own.now (recovery_of c.args.chosen.now.recovery) (marked (map file_entry_of c.args.chosen.now.files.now) c.args.chosen.now.marks.now) (map job_of c.deref.result.now) c.deref-2.result.now (ap (map job_of) c.deref.ensures.value ∙ c.in_ok-planned.ensures.jobs) (ap (map want_in) c.deref-2.ensures.value ∙ c.in_ok-planned.ensures.wanted)

pub write_files-requires-clause-apart : goal.write_files-requires-clause-apart
write_files-requires-clause-apart g c =
    apart c.args.chosen.now.stanza.now c.args.chosen.now.own.now (recovery_of c.args.chosen.now.recovery) (marked (map file_entry_of c.args.chosen.now.files.now) c.args.chosen.now.marks.now) (map job_of c.deref.result.now) c.deref-2.result.now (ap (map job_of) c.deref.ensures.value ∙ c.in_ok-planned.ensures.jobs) (ap (map want_in) c.deref-2.ensures.value ∙ c.in_ok-planned.ensures.wanted)
    (marked_order (map file_entry_of c.args.chosen.now.files.now) c.args.chosen.now.marks.now c.requires.order) (λ e i. (c.requires.entries e (marked_in (map file_entry_of c.args.chosen.now.files.now) c.args.chosen.now.marks.now (e, false) i)).1.lasting)

pub returns-clause-fills : goal.returns-clause-fills
returns-clause-fills g c =
    let links = map g.L.Link.link_state c.args.pool.now.links.items in
    let es = map file_entry_of c.args.chosen.now.files.now in
    let old = (g.T.DataFolder.state c.args.tree.now).nodes in
    let new = (g.T.DataFolder.state c.write_files.new.tree).nodes in
    on_ok_weaker c.write_files.result
    (λ fetched. fills c.args.chosen.now.stanza.now c.args.chosen.now.own.now links (recovery_of c.args.chosen.now.recovery) es c.args.chosen.now.marks.now (map job_of c.deref.result.now) c.deref-2.result.now (ap (map job_of) c.deref.ensures.value ∙ c.in_ok-planned.ensures.jobs) (ap (map want_in) c.deref-2.ensures.value ∙ c.in_ok-planned.ensures.wanted) old new fetched c.write_files.ensures.others)
    c.write_files.ensures.fetched

pub returns-clause-control : goal.returns-clause-control
returns-clause-control g c =
    let links = map g.L.Link.link_state c.args.pool.now.links.items in
    none_at control_path (g.T.DataFolder.state c.args.tree.now).nodes (g.T.DataFolder.state c.write_files.new.tree).nodes
    (c.write_files.ensures.others control_path
    (none_of_control c.args.chosen.now.stanza.now c.args.chosen.now.own.now links (recovery_of c.args.chosen.now.recovery) (map file_entry_of c.args.chosen.now.files.now) c.args.chosen.now.marks.now (map job_of c.deref.result.now) c.deref-2.result.now (ap (map job_of) c.deref.ensures.value ∙ c.in_ok-planned.ensures.jobs) (ap (map want_in) c.deref-2.ensures.value ∙ c.in_ok-planned.ensures.wanted)))

pub returns-clause-proper : goal.returns-clause-proper
returns-clause-proper g c = λ housed.
    let links = map g.L.Link.link_state c.args.pool.now.links.items in
    c.write_files.ensures.proper
    (have_folders c.args.chosen.now.stanza.now c.args.chosen.now.own.now links (recovery_of c.args.chosen.now.recovery) (map file_entry_of c.args.chosen.now.files.now) c.args.chosen.now.marks.now (map job_of c.deref.result.now) c.deref-2.result.now (ap (map job_of) c.deref.ensures.value ∙ c.in_ok-planned.ensures.jobs) (ap (map want_in) c.deref-2.ensures.value ∙ c.in_ok-planned.ensures.wanted)
    (g.T.DataFolder.state c.args.tree.now).nodes housed)

pub returns-clause-fault : goal.returns-clause-fault
returns-clause-fault g c =
    let links = map g.L.Link.link_state c.args.pool.now.links.items in
    IfErr-weaker c.write_files.result _ _
    (fill_fails c.args.chosen.now.stanza.now c.args.chosen.now.own.now links (recovery_of c.args.chosen.now.recovery) (map file_entry_of c.args.chosen.now.files.now) c.args.chosen.now.marks.now (map job_of c.deref.result.now) c.deref-2.result.now (ap (map job_of) c.deref.ensures.value ∙ c.in_ok-planned.ensures.jobs) (ap (map want_in) c.deref-2.ensures.value ∙ c.in_ok-planned.ensures.wanted)
    (map g.L.Link.link_state c.write_files.new.pool.links.items) c.args.pool.now.lost.items c.write_files.new.pool.lost.items (g.T.DataFolder.state c.args.tree.now).faults (g.T.DataFolder.state c.write_files.new.tree).faults)
    c.write_files.ensures.fault
