use Rattle.std.specs.Prelude.{◌≡◌, ◌++◌, drop, map, string_bytes}
use Rattle.memory_processes.proofs.others.copy_of.Given as goal

abbrev pub invariant-loop-word : goal.invariant-loop-word
invariant-loop-word l = map string_bytes l.copy.items ++ map string_bytes (drop l.word-index l.arguments) ≡ map string_bytes l.arguments
