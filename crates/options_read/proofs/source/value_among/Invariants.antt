use Rattle.std.proofs.Common.{◌≡◌, drop, map, string_bytes}
use Rattle.repo_ini.specs.Views.{settings_of}
use Rattle.options_read.specs.Settings.{value_among}
use Rattle.options_read.proofs.source.value_among.Given as goal

abbrev pub invariant-loop-section : goal.invariant-loop-section
invariant-loop-section l = value_among (settings_of l.lines) (map string_bytes (drop l.section-index l.sections)) l.key ≡ value_among (settings_of l.lines) (map string_bytes l.sections) l.key
