use Rattle.std.proofs.Common.{◌≡◌, ◌+◌, ◌∙◌, ◌++◌, ◌∷◌, [], sym, ap, map, take, Bool, List, arith}
use Rattle.std.proofs.lemmas.List.{length-map}
use Rattle.base_model.specs.Values.{file_entry_of}
use Rattle.worker_protocol.specs.Views.{job_of}
use Rattle.restore_steps.proofs.Bare.{in_at}
use Rattle.restore_steps.proofs.Paths.{take_whole}
use Rattle.restore_steps.proofs.Listing.{got, map_get}
use Rattle.restore_steps.specs.Sources.{reading}
use Rattle.restore_make.specs.Options.{recovery_of}
use Rattle.restore_make.specs.Kept.{mark_at, marked}
use Rattle.restore_make.specs.Entries.{read_one, reads_of, want_of, want_in}
use Rattle.restore_make.proofs.ReadEntries.{marked_more, marked_long}
use Rattle.restore_make.proofs.ReadJobs.{Marked, planned_more}
use Rattle.restore_make.proofs.restore_plan.add_files.Goals as goal

pub add_file-requires-clause-entry : goal.add_file-requires-clause-entry
add_file-requires-clause-entry c = c.requires.entries (file_entry_of c.index-files-place.result) (in_at file_entry_of c.args.chosen.now.files.now c.loop-place.place c.index-files-place.result c.loop-place-test.true c.index-files-place.is)

pub loop-place-preserved : goal.loop-place-preserved
loop-place-preserved c =
    let n = c.loop-place.place in
    let fs = c.args.chosen.now.files.now in
    let marks = c.args.chosen.now.marks.now in
    let e = file_entry_of c.index-files-place.result in
    let es = map file_entry_of fs in
    let r = recovery_of c.args.chosen.now.recovery in
    let read = reading c.args.chosen.now.stanza.now c.args.chosen.now.own.now in
    let list : take (n + 1) (marked es marks) ≡ take n (marked es marks) ++ (e, mark_at marks n) ∷ [] = marked_more es marks n e (map_get file_entry_of fs n c.index-files-place.result (got fs n c.index-files-place.result c.loop-place-test.true c.index-files-place.is)) in
    let kept : c.mark_at-kept.result ≡ mark_at marks n = c.mark_at-kept.ensures in
    let start = c.args.planned.now in
    let now = c.loop-place.planned in
    let new = c.add_file.new.planned in
    record {
      jobs = planned_more r read (map job_of start.jobs.items) (map job_of now.jobs.items) (map job_of new.jobs.items) (take n (marked es marks)) (e, mark_at marks n) c.loop-place.invariant.jobs (c.in_ok-add_file.ensures.jobs ∙ ap (λ (b : Bool). map job_of now.jobs.items ++ map read (read_one r (e, b))) kept)
          ∙ ap (λ (l : List Marked). map job_of start.jobs.items ++ map read (reads_of r l)) (sym list);
      wanted = planned_more r want_of (map want_in start.wanted.items) (map want_in now.wanted.items) (map want_in new.wanted.items) (take n (marked es marks)) (e, mark_at marks n) c.loop-place.invariant.wanted (c.in_ok-add_file.ensures.wanted ∙ ap (λ (b : Bool). map want_in now.wanted.items ++ map want_of (read_one r (e, b))) kept)
          ∙ ap (λ (l : List Marked). map want_in start.wanted.items ++ map want_of (reads_of r l)) (sym list);
    }

pub returns-clause-jobs : goal.returns-clause-jobs
returns-clause-jobs c =
    let es = map file_entry_of c.args.chosen.now.files.now in
    let marks = c.args.chosen.now.marks.now in
    c.loop-place.invariant.jobs
    ∙ ap (λ (l : List Marked). map job_of c.args.planned.now.jobs.items ++ map (reading c.args.chosen.now.stanza.now c.args.chosen.now.own.now) (reads_of (recovery_of c.args.chosen.now.recovery) l)) (take_whole (marked es marks) c.loop-place.place (marked_long es marks ∙ length-map c.args.chosen.now.files.now file_entry_of ∙ (omega (arith, c.loop-place-test.false, c.loop-place.auto.place-end))))

pub returns-clause-wanted : goal.returns-clause-wanted
returns-clause-wanted c =
    let es = map file_entry_of c.args.chosen.now.files.now in
    let marks = c.args.chosen.now.marks.now in
    c.loop-place.invariant.wanted
    ∙ ap (λ (l : List Marked). map want_in c.args.planned.now.wanted.items ++ map want_of (reads_of (recovery_of c.args.chosen.now.recovery) l)) (take_whole (marked es marks) c.loop-place.place (marked_long es marks ∙ length-map c.args.chosen.now.files.now file_entry_of ∙ (omega (arith, c.loop-place-test.false, c.loop-place.auto.place-end))))
