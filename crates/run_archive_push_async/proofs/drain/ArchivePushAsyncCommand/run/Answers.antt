use Rattle.std.proofs.Common.{refl, arith}
use Rattle.cmd_trait.specs.Code.{place_of}
use Rattle.cmd_trait.proofs.Ends.{rose_to, all_later}
use Rattle.run_archive_push_async.proofs.PartEffects.{drained_effect, drained_ran}
use Rattle.run_archive_push_async.proofs.drain.ArchivePushAsyncCommand.run.Goals as goal

pub returns-clause-ran : goal.returns-clause-ran
returns-clause-ran g c =
    let e = c.drain_stanza.ensures in
    drained_ran (place_of c.args.places.now) _ _ refl e.looks.nodes c.args.self.now.spool.now c.in-Some-Some.control
    c.args.ready.control c.in-Some-Some.is-0 (c.requires.ready.control refl)
    c.drain_stanza.result (drained_effect (place_of c.args.places.now).stanza (g.D.Disk.state c.args.outside.now.repo).view (g.D.Disk.state c.drain_stanza.new.repo).view e.puts_only) e.stays e.pair e.beside e.spool_beside e.runs e.drained
    _ (rose_to _ _ _ (λ h. h) (λ h. h) (λ h. h) (λ h. absurd h) (λ h. absurd h) (λ h. absurd h) (λ h. absurd h) (λ h. absurd h) (λ h. absurd h)) e.cause
    (record { spool = e.spool_frame.opened; repo = e.repo_frame.opened; tree = e.looks.opened })
    (all_later _ _ e.repo_frame.later e.spool_frame.later e.looks.later (omega arith) (omega arith) (omega arith) (omega arith) (omega arith) (omega arith))
