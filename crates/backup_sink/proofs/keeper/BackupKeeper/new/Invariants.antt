use Rattle.std.proofs.Common.{◌≡◌, map, vec_len}
use Rattle.std.specs.Prelude.{All}
use Rattle.backup_sink.specs.Keeping.{progress_of, nothing}
use Rattle.backup_sink.proofs.keeper.BackupKeeper.new.Given as goal

abbrev pub invariant-loop-name : goal.invariant-loop-name
invariant-loop-name l = (vec_len l.states ≡ l._name-index) × All (λ p. p ≡ nothing) (map progress_of l.states.items)
