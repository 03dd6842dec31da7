use Rattle.std.proofs.Common.{refl, sym, subst, arith}
use Rattle.cmd_restore.specs.Words.{ShowsChoice}
use Rattle.run_restore.specs.Restoring.{RestoreHow}
use Rattle.cmd_trait.specs.Code.{place_of}
use Rattle.cmd_trait.proofs.Ends.{rose_to, all_later}
use Rattle.run_restore.specs.Code.{set_of, how_of, ordered_how}
use Rattle.run_restore.proofs.PartEffects.{restored_ran}
use Rattle.run_restore.proofs.restore.RestoreCommand.run.Goals as goal

pub returns-clause-ran : goal.returns-clause-ran
returns-clause-ran g c =
    let e = c.restore_backup.ensures in
    let is = c.requires.order in
    restored_ran (place_of c.args.places.now) _ _ refl (record { now = e.looks.now; time = e.looks.time }) (set_of c.args.self.now) c.args.order.choice (ordered_how c.args.order) (subst (λ (how : RestoreHow). ShowsChoice (set_of c.args.self.now) how.recovery c.args.order.choice) (sym is.2) is.3) c.restore_backup.result (how_of c.args.self.now) is.2 e.restored e.given e.synced e.control e.unchanged
    _ (λ h. h) (rose_to _ _ _ (λ h. h) (λ h. absurd h) (λ h. h) (λ h. absurd h) (λ h. absurd h) (λ h. absurd h) (λ h. absurd h) (λ h. absurd h) (λ h. absurd h)) e.cause
    (record { spool = refl; repo = e.looks.opened; tree = e.opened })
    (all_later _ _ e.looks.later (omega arith) e.later (omega arith) (omega arith) (omega arith) (omega arith) (omega arith) (omega arith))
