use Rattle.std.proofs.Common.{◌∙◌, refl}
use Rattle.archive_lookup.specs.declared.stored.stored_lookup.StoredFile.{StoredFile}
use Rattle.archive_lookup.specs.Listing.{ShowsSum, PassesSum}
use Rattle.archive_lookup.proofs.Picked.{step_tell, step_pass}
use Rattle.archive_lookup.proofs.Looked.{shows_sum, passes_sum}
use Rattle.archive_lookup.proofs.stored.stored_lookup.kept_among.Goals as goal
use Rattle.archive_lookup.proofs.stored.stored_lookup.kept_among.Goals.{in-Some+in_ok-path+in_ok-push, in_default}

pub loop-name-preserved : goal.loop-name-preserved
loop-name-preserved c =
    elim c.match-read_stored.branch [
      | in-Some+in_ok-path+in_ok-push w ↦
          let new : StoredFile = record { path = w.in_ok-path.path; sum = w.in-Some.sum; size = c.loop-name-item.result.size } in
          step_tell (ShowsSum c.args.prefix.now) (PassesSum c.args.prefix.now) c.args.found.now c.loop-name.name-index c.loop-name-item.result c.loop-name.kept.items c.match-read_stored.kept.items new c.loop-name-test.true c.loop-name-item.is c.loop-name.invariant
          (shows_sum c.args.prefix.now _ _ c.loop-name-item.result new w.in-Some.ensures c.as_bytes-in-loop-name.ensures.value c.as_bytes.ensures.value (w.in_ok-path.ensures.ok ∙ w.as_str.ensures.value) refl) (let e = w.in_ok-push.ensures.items in cc)
      | in_default w ↦
          step_pass (ShowsSum c.args.prefix.now) (PassesSum c.args.prefix.now) c.args.found.now c.loop-name.name-index c.loop-name-item.result c.loop-name.kept.items c.match-read_stored.kept.items c.loop-name-test.true c.loop-name-item.is c.loop-name.invariant
          (passes_sum c.args.prefix.now _ _ c.loop-name-item.result w.in_default.ensures c.as_bytes-in-loop-name.ensures.value c.as_bytes.ensures.value) (cc)
    ]
