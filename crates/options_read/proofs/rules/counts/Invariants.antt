use Rattle.std.proofs.Common.{◌≡◌, drop, map, string_bytes}
use Rattle.options_read.specs.Settings.{counts}
use Rattle.options_read.proofs.rules.counts.Given as goal

abbrev pub invariant-loop-s : goal.invariant-loop-s
invariant-loop-s l = counts (map string_bytes (drop l.s-index l.sections)) l.section ≡ counts (map string_bytes l.sections) l.section
