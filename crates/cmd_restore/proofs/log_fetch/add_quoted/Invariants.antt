use Rattle.std.proofs.Common.{◌≡◌, ◌++◌, take}
use Rattle.cmd_restore.specs.Fetching.{quoted}
use Rattle.cmd_restore.proofs.log_fetch.add_quoted.Given as goal

abbrev pub invariant-loop-byte : goal.invariant-loop-byte
invariant-loop-byte l = l.line.items ≡ l.fn.line.items ++ quoted (take l.byte-index l.text)
