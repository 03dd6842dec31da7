use Rattle.std.proofs.Common.{◌∙◌, ap, refl, arith}
use Rattle.std.specs.Prelude.{map, string_bytes}
use Rattle.cmd_trait.specs.Code.{place_of}
use Rattle.cmd_trait.proofs.Ends.{rose_to, all_later}
use Rattle.run_archive_push.proofs.QueueEffects.{queued_part, starved}
use Rattle.run_archive_push.proofs.queue.ArchivePushQueuedCommand.run.Goals as goal

pub returns-in_err-arguments-clause-ran : goal.returns-in_err-arguments-clause-ran
returns-in_err-arguments-clause-ran g c =
    let x = c.args.self.now in
    starved (place_of c.args.places.now) _ x.path.now x.spool.now x.turns c.from_residual.result c.from_residual.ensures.1

pub returns-clause-ran : goal.returns-clause-ran
returns-clause-ran g c =
    let e = c.queue_push-ended.ensures in
    let o = c.args.order in
    let x = c.args.self.now in
    queued_part (place_of c.args.places.now) _ _ refl e.looks.nodes x.path.now x.spool.now x.turns o c.requires.order c.queue_push-ended.result c.queue_end.result c.queue_end.ensures
    (map string_bytes c.deref.result.now) (ap (map string_bytes) c.deref.ensures.value ∙ c.in_ok-arguments.ensures)
    _ (rose_to _ _ _ (λ h. h) (λ h. h) (λ h. h) (λ h. absurd h) (λ h. h) (λ h. absurd h) (λ h. absurd h) (λ h. absurd h) (λ h. absurd h))
    e.started e.few e.takes e.beside e.stored e.cause
    (record { spool = e.spool_frame.opened; repo = e.repo_frame.opened; tree = e.looks.opened })
    (all_later _ _ e.repo_frame.later e.spool_frame.later e.looks.later (omega arith) e.later (omega arith) (omega arith) (omega arith) (omega arith))
