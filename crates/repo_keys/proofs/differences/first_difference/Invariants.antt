use Rattle.std.proofs.Common.{◌-◌, length}
use Rattle.repo_ini.specs.Parts.{key_of}
use Rattle.repo_keys.proofs.Walked.{Walked}
use Rattle.repo_keys.proofs.differences.first_difference.Given as goal

abbrev pub invariant-loop-i : goal.invariant-loop-i
invariant-loop-i l = Walked key_of l.a l.b l.i

abbrev pub decreases-loop-i : goal.decreases-loop-i
decreases-loop-i l = length l.a - l.i
