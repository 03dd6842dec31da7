-- The order of a restore, from the clauses of what reads it.
use Rattle.std.proofs.Common.{◌≡◌, Option, Result, Ok, Err, IfOk}
use Rattle.std.specs.Prelude.{OnOk}
use Rattle.base_model.specs.Text.{Text}
use Rattle.cmd_types.specs.declared.stages.halt.Halt.{Halt}
use Rattle.cmd_restore.specs.declared.fault.RestoreCommandFault.{RestoreCommandFault}
use Rattle.cmd_restore.specs.declared.order.RecoverOrder.{RecoverOrder}
use Rattle.cmd_restore.specs.Fetching.{RecoveryType, recovery_type}
use Rattle.cmd_restore.specs.Words.{ShowsChoice}
use Rattle.cmd_trait.specs.Meaning.{Place}
use Rattle.run_restore.specs.declared.restore.Restore.{Restore}
use Rattle.run_restore.specs.Code.{set_of, IsOrderOf}
use Rattle.run_restore.specs.Restoring.{Chooses}

module _ (c : Restore) (p : Place) where
  pub order_is : (r : Result RecoverOrder (Halt RestoreCommandFault)) → IfOk r (λ o. (o.data_folder.now ≡ p.data_folder) × (o.repository.now ≡ p.repository)) → IfOk r (λ o. (o.workers ≡ c.workers) × (o.delta ≡ c.delta)) →
      IfOk r (λ o. recovery_type o.recovery ≡ recovery_type c.recovery) → IfOk r (λ o. ShowsChoice (set_of c) (recovery_type c.recovery) o.choice) → IfOk r (IsOrderOf c p)
  order_is (Ok o) folders options recovery set = (folders.0, folders.1, (let workers = options.0 in let delta = options.1 in cc), set)
  order_is (Err e) folders options recovery set = tt

pub chooses : (set : Option Text) (recovery : RecoveryType) (r : Result RecoverOrder (Halt RestoreCommandFault)) → IfOk r (λ o. ShowsChoice set recovery o.choice) → OnOk r (Chooses set recovery)
chooses set recovery (Ok o) is = (o.choice, is)
chooses set recovery (Err e) is = tt
