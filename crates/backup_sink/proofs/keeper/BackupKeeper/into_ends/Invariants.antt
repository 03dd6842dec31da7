use Rattle.std.proofs.Common.{◌≡◌, map}
use Rattle.backup_sink.proofs.keeper.BackupKeeper.into_ends.Given as goal

abbrev pub invariant-loop-state : goal.invariant-loop-state
invariant-loop-state l = map (λ v. v.items) l.ends.items ≡ map (λ s. s.ended.items) l.yielded
