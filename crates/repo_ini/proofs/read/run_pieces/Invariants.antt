use Rattle.std.proofs.Common.{◌≡◌, ◌+◌, length}
use Rattle.repo_ini.specs.Form.{pieces}
use Rattle.repo_ini.specs.Reading.{start, rest_pieces, run}
use Rattle.repo_ini.specs.States.{state_of}
use Rattle.repo_ini.proofs.read.run_pieces.Given as goal

abbrev pub invariant-loop-rest : goal.invariant-loop-rest
invariant-loop-rest l = record {
  read : run (state_of l.state) (l.line + 1) (rest_pieces l.rest) ≡ run start 1 (pieces l.fn.bytes);
  count : l.line + length (rest_pieces l.rest) ≡ length (pieces l.fn.bytes);
}

abbrev pub decreases-loop-rest : goal.decreases-loop-rest
decreases-loop-rest l = length (rest_pieces l.rest)
