use Rattle.std.proofs.Common.{◌≡◌, ◌∙◌, sym, ap, subst, arith, map, Option}
use Rattle.std.specs.Prelude.{IfSome}
use Rattle.worker_protocol.specs.PartSinkState.{JobItems}
use Rattle.worker_pool.specs.Holdings.{done_item, state_of}
use Rattle.worker_pool.specs.Digests.{first_end}
use Rattle.worker_pool.proofs.Digests.{end_more}
use Rattle.worker_pool.proofs.digest_runs.digest_run.ends_of.Goals as goal

pub loop-job-preserved : goal.loop-job-preserved
loop-job-preserved c =
    let kept = (state_of c.args.keep.now).kept in
    let n = c.loop-job.job in
    c.in_ok-push.ensures.items
    ∙ end_more kept n c.loop-job.ends.items c.first_of.result (omega (arith, c.loop-job-test.true, c.requires)) c.loop-job.invariant
    (λ k is. c.first_of.ensures ∙ ap first_end (sym (subst (λ (o : Option JobItems). IfSome o (λ (x : JobItems). x.done ≡ map done_item c.ended.result.now)) is c.ended.ensures.items)))
