use Rattle.archive_lookup.specs.Ends.{ShowsWhole, PassesWhole}
use Rattle.std.proofs.Common.{sym}
use Rattle.archive_lookup.proofs.Picked.{step_tell, step_pass}
use Rattle.archive_lookup.proofs.Bounding.{path_as}
use Rattle.archive_lookup.proofs.stored.bounds.whole_among.Goals as goal
use Rattle.archive_lookup.proofs.stored.bounds.whole_among.Goals.{in-Some+in_ok-push, in_default}

pub loop-name-preserved : goal.loop-name-preserved
loop-name-preserved c =
    let prefix = c.args.prefix.now in
    let id = c.args.id in
    let l = c.loop-name in
    elim c.match-read_whole_segment.branch [
      | in-Some+in_ok-push w ↦
          step_tell (ShowsWhole prefix id) (PassesWhole prefix id) c.args.found.now l.name-index c.loop-name-item.result l.segments.items c.match-read_whole_segment.segments.items w.in-Some.segment c.loop-name-test.true c.loop-name-item.is l.invariant
          (path_as prefix _ _ _ id w.in-Some.segment w.in-Some.ensures.value c.as_bytes-in-loop-name.ensures.value c.as_bytes.ensures.value) (let e = w.in_ok-push.ensures.items in cc)
      | in_default w ↦
          step_pass (ShowsWhole prefix id) (PassesWhole prefix id) c.args.found.now l.name-index c.loop-name-item.result l.segments.items c.match-read_whole_segment.segments.items c.loop-name-test.true c.loop-name-item.is l.invariant
          (λ s p. w.in_default.ensures.none s (path_as _ prefix _ _ id s p (sym c.as_bytes-in-loop-name.ensures.value) (sym c.as_bytes.ensures.value))) (cc)
    ]
