use Rattle.std.proofs.Common.{◌≡◌}
use Rattle.base_model.specs.Values.{entry_of}
use Rattle.repo_keys.proofs.Seeking.{Whole, Ahead}
use Rattle.restore_choice.proofs.backup_choice.has_label.Given as goal

-- a backup of the label is to come, and the backups to come are of the whole
abbrev pub invariant-loop-entry : goal.invariant-loop-entry
invariant-loop-entry l = record {
  ahead : Ahead entry_of (λ e. e.label ≡ l.label) l.backups l.entry-index;
  whole : Whole entry_of l.backups l.entry-index;
}
