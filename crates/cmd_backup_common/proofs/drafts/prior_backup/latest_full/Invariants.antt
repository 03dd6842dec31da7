use Rattle.std.proofs.Common.{◌≡◌, map, take}
use Rattle.base_model.specs.Values.{entry_of}
use Rattle.cmd_backup_common.specs.Priors.{latest_full}
use Rattle.cmd_backup_common.proofs.drafts.prior_backup.latest_full.Given as goal

abbrev pub invariant-loop-entry : goal.invariant-loop-entry
invariant-loop-entry l = l.latest ≡ latest_full (map entry_of (take l.entry-index l.backups))
