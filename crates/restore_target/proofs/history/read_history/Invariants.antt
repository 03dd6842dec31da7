use Rattle.std.proofs.Common.{◌≡◌, ◌+◌, ◌++◌, ℕ, List, length}
use Rattle.repo_ini.specs.Form.{pieces}
use Rattle.repo_ini.specs.Reading.{rest_pieces}
use Rattle.restore_target.specs.declared.history.Ancestor.{Ancestor}
use Rattle.restore_target.specs.History.{AreAncestors, IsWrongAt}
use Rattle.restore_target.proofs.history.read_history.Given as goal

-- what is left states ancestors, or is wrong, after what was found
abbrev pub invariant-loop-rest : goal.invariant-loop-rest
invariant-loop-rest l = record {
  right : (xs : List Ancestor) → AreAncestors l.timeline l.least (rest_pieces l.rest) xs → AreAncestors l.timeline 0 (pieces l.fn.bytes) (l.found.items ++ xs);
  wrong : (n : ℕ) → IsWrongAt l.timeline l.least (rest_pieces l.rest) n → IsWrongAt l.timeline 0 (pieces l.fn.bytes) (l.number + n);
  count : l.number + length (rest_pieces l.rest) ≡ length (pieces l.fn.bytes);
}

abbrev pub decreases-loop-rest : goal.decreases-loop-rest
decreases-loop-rest l = length (rest_pieces l.rest)
