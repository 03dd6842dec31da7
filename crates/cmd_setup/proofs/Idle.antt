-- The locks that a plan doesn't take have no name.
use Rattle.std.proofs.Common.{◌≡◌, ◌∙◌, false, None, ap}
use Rattle.base_model.specs.Text.{Text}
use Rattle.cmd_types.specs.declared.stages.plan.Plan.{Plan}
use Rattle.cmd_types.specs.Plans.{backup_lock, archive_lock, when}
use Rattle.cmd_setup.specs.declared.command_locks.LockNames.{LockNames}
use Rattle.cmd_setup.specs.Taking.{name_of, AreNames}

module _ (names : LockNames) (plan : Plan) (stanza : Text) (are : AreNames names plan stanza) where
  pub no_first : plan.backup_lock ≡ false → name_of names.first ≡ None
  no_first is = are.0 ∙ ap (λ b. when b (backup_lock stanza)) is

  pub no_second : plan.archive_lock ≡ false → name_of names.second ≡ None
  no_second is = are.1 ∙ ap (λ b. when b (archive_lock stanza)) is
