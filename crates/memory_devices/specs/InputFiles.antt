-- What is left of a configuration file in memory.
use Rattle.std.specs.Prelude.{◌≡◌, ℕ, List, [], drop, unwrap_or, string_bytes}
use Rattle.memory_devices.specs.declared.source.MemInputFiles.{MemInputFiles}
use Rattle.memory_devices.specs.Replay.{value_of}

-- the bytes that weren't read since it was opened
abbrev pub left_of : MemInputFiles → List ℕ
left_of s = drop s.at (unwrap_or (value_of s.file) [])

-- it is at the same place of the same file
abbrev pub IsUnmoved : MemInputFiles → MemInputFiles → Type 0
IsUnmoved old new = (new.at ≡ old.at) × (string_bytes new.place ≡ string_bytes old.place)
