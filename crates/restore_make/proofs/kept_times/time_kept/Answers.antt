use Rattle.std.proofs.Common.{◌≡◌, ◌+◌, ◌∙◌, ◌++◌, ◌∷◌, [], sym, ap, subst, map, take, Bool, List, arith}
use Rattle.std.proofs.lemmas.List.{length-map}
use Rattle.base_model.specs.Values.{file_entry_of}
use Rattle.restore_steps.proofs.Listing.{got, map_get}
use Rattle.restore_steps.proofs.Paths.{take_whole}
use Rattle.restore_make.specs.Kept.{mark_at, marked}
use Rattle.restore_make.specs.KeptTimes.{IsUnmarked, AreThere, SetsTimes}
use Rattle.restore_make.proofs.KeptTimes.{Marked, earlier_apart, more_timed, no_times, next_in, next_there, taken_unmarked, part_unmarked}
use Rattle.restore_make.proofs.ReadEntries.{marked_more, marked_long}
use Rattle.restore_make.proofs.kept_times.time_kept.Goals as goal

pub loop-place-preserved : goal.loop-place-preserved
loop-place-preserved g c =
    let n = c.loop-place.place in
    let fs = c.args.files.now in
    let marks = c.args.marks.now in
    let es = map file_entry_of fs in
    let e = file_entry_of c.index-files-place.result in
    let p : Marked = (e, mark_at marks n) in
    let kept : c.mark_at-kept.result ≡ mark_at marks n = c.mark_at-kept.ensures in
    let list : take (n + 1) (marked es marks) ≡ take n (marked es marks) ++ p ∷ [] = marked_more es marks n e (map_get file_entry_of fs n c.index-files-place.result (got fs n c.index-files-place.result c.loop-place-test.true c.index-files-place.is)) in
    let old = (g.T.DataFolder.state c.args.tree.now).nodes in
    let now = (g.T.DataFolder.state c.loop-place.tree).nodes in
    let new = (g.T.DataFolder.state c.time_one.new.tree).nodes in
    let apart = earlier_apart es marks n p c.requires.order list in
    record {
      timed = subst (λ (l : List Marked). SetsTimes l old new) (sym list)
          (more_timed (take n (marked es marks)) p old now new apart c.loop-place.invariant.timed (subst (λ (b : Bool). SetsTimes ((e, b) ∷ []) now new) kept c.in_ok-time_one.ensures.timed));
      proper = λ there.
          c.time_one.ensures.proper (subst (λ (b : Bool). AreThere ((e, b) ∷ []) now) (sym kept)
          (next_there (take n (marked es marks)) p (marked es marks) old now apart (next_in n (marked es marks) p list) c.loop-place.invariant.timed there))
          ∙ c.loop-place.invariant.proper there;
      opened = c.time_one.ensures.opened ∙ c.loop-place.invariant.opened;
      later = omega (arith, c.loop-place.invariant.later, c.time_one.ensures.cause.later);
    }

pub returns-in_err-time_one-clause-others : goal.returns-in_err-time_one-clause-others
returns-in_err-time_one-clause-others g c = λ q off.
    let n = c.loop-place.place in
    let fs = c.args.files.now in
    let marks = c.args.marks.now in
    let es = map file_entry_of fs in
    let e = file_entry_of c.index-files-place.result in
    let p : Marked = (e, mark_at marks n) in
    let kept : c.mark_at-kept.result ≡ mark_at marks n = c.mark_at-kept.ensures in
    let list : take (n + 1) (marked es marks) ≡ take n (marked es marks) ++ p ∷ [] = marked_more es marks n e (map_get file_entry_of fs n c.index-files-place.result (got fs n c.index-files-place.result c.loop-place-test.true c.index-files-place.is)) in
    c.time_one.ensures.others q (subst (λ (b : Bool). IsUnmarked ((e, b) ∷ []) q) (sym kept) (part_unmarked p (marked es marks) q (next_in n (marked es marks) p list) off))
    ∙ c.loop-place.invariant.timed.others q (taken_unmarked n (marked es marks) q off)

pub returns-in_err-time_one-clause-proper : goal.returns-in_err-time_one-clause-proper
returns-in_err-time_one-clause-proper g c = λ there.
    let n = c.loop-place.place in
    let fs = c.args.files.now in
    let marks = c.args.marks.now in
    let es = map file_entry_of fs in
    let e = file_entry_of c.index-files-place.result in
    let p : Marked = (e, mark_at marks n) in
    let kept : c.mark_at-kept.result ≡ mark_at marks n = c.mark_at-kept.ensures in
    let list : take (n + 1) (marked es marks) ≡ take n (marked es marks) ++ p ∷ [] = marked_more es marks n e (map_get file_entry_of fs n c.index-files-place.result (got fs n c.index-files-place.result c.loop-place-test.true c.index-files-place.is)) in
    let old = (g.T.DataFolder.state c.args.tree.now).nodes in
    let now = (g.T.DataFolder.state c.loop-place.tree).nodes in
    c.time_one.ensures.proper (subst (λ (b : Bool). AreThere ((e, b) ∷ []) now) (sym kept)
    (next_there (take n (marked es marks)) p (marked es marks) old now (earlier_apart es marks n p c.requires.order list) (next_in n (marked es marks) p list) c.loop-place.invariant.timed there))
    ∙ c.loop-place.invariant.proper there

pub returns-clause-timed : goal.returns-clause-timed
returns-clause-timed g c =
    let es = map file_entry_of c.args.files.now in
    let marks = c.args.marks.now in
    subst (λ (l : List Marked). SetsTimes l (g.T.DataFolder.state c.args.tree.now).nodes (g.T.DataFolder.state c.loop-place.tree).nodes)
    (take_whole (marked es marks) c.loop-place.place (marked_long es marks ∙ length-map c.args.files.now file_entry_of ∙ (omega (arith, c.loop-place-test.false, c.loop-place.auto.place-end))))
    c.loop-place.invariant.timed

pub returns-clause-others : goal.returns-clause-others
returns-clause-others g c = λ q off. c.loop-place.invariant.timed.others q (taken_unmarked c.loop-place.place (marked (map file_entry_of c.args.files.now) c.args.marks.now) q off)
