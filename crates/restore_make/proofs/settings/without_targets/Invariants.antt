use Rattle.std.proofs.Common.{◌≡◌, ◌++◌, length}
use Rattle.repo_ini.specs.Reading.{rest_pieces}
use Rattle.restore_make.specs.Recovered.{without_targets}
use Rattle.restore_make.proofs.Targets.{following}
use Rattle.restore_make.proofs.settings.without_targets.Given as goal

abbrev pub invariant-loop-rest : goal.invariant-loop-rest
invariant-loop-rest l = without_targets l.held ≡ l.text.items ++ following l.rest

abbrev pub decreases-loop-rest : goal.decreases-loop-rest
decreases-loop-rest l = length (rest_pieces l.rest)
