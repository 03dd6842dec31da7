use Rattle.archive_lookup.proofs.Picked.{step_tell, step_pass}
use Rattle.cmd_archive_push_async.specs.Ready.{ShowsReady, PassesReady}
use Rattle.cmd_archive_push_async.proofs.files.ready.names_among.Goals as goal
use Rattle.cmd_archive_push_async.proofs.files.ready.names_among.Goals.{in-Some+in_ok-push, in_default}

pub loop-each-preserved : goal.loop-each-preserved
loop-each-preserved c =
    elim c.match-ready_name.branch [
      | in-Some+in_ok-push w ↦
          step_tell ShowsReady PassesReady c.args.seen.now c.loop-each.each-index c.each-item.result c.loop-each.names.items c.match-ready_name.names.items w.in-Some.name c.loop-each-test.true c.each-item.is c.loop-each.invariant
          w.in-Some.ensures.value (let e = w.in_ok-push.ensures.items in cc)
      | in_default w ↦
          step_pass ShowsReady PassesReady c.args.seen.now c.loop-each.each-index c.each-item.result c.loop-each.names.items c.match-ready_name.names.items c.loop-each-test.true c.each-item.is c.loop-each.invariant
          w.in_default.ensures.none (cc)
    ]
