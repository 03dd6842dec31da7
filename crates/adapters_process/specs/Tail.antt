-- The last bytes of a stream. Own.
use Rattle.std.specs.Prelude.{ℕ, List, take}
use Rattle.adapters_process.specs.declared.workers.tail.Tail.{Tail}

-- the bytes that are kept
abbrev pub tail_of : Tail → List ℕ
tail_of t = take t.count t.bytes
