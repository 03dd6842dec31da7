use Rattle.std.proofs.Common.{◌≡◌, map, take, option_map}
use Rattle.base_model.specs.Values.{entry_of}
use Rattle.cmd_backup_common.specs.Priors.{may_base, last_of}
use Rattle.cmd_backup_common.proofs.drafts.prior_backup.prior_of.Given as goal

abbrev pub invariant-loop-entry : goal.invariant-loop-entry
invariant-loop-entry l = option_map (λ e. entry_of e.now) l.prior ≡ last_of (may_base l.kind l.cluster l.full) (map entry_of (take l.entry-index l.backups))
