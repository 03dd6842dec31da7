use Rattle.std.proofs.Common.{◌≡◌, drop, map, string_bytes}
use Rattle.repo_ini.specs.Views.{settings_of}
use Rattle.options_read.specs.Settings.{all_among}
use Rattle.options_read.proofs.source.all_among.Given as goal

abbrev pub invariant-loop-section : goal.invariant-loop-section
invariant-loop-section l = all_among (settings_of l.lines) (map string_bytes (drop l.section-index l.sections)) l.key ≡ all_among (settings_of l.lines) (map string_bytes l.sections) l.key
