use Rattle.std.proofs.Common.{◌≡◌, ◌++◌, drop, map, string_bytes}
use Rattle.repo_ini.specs.Views.{settings_of}
use Rattle.options_read.specs.Settings.{unknown_keys}
use Rattle.options_read.proofs.rules.unknown_keys.Given as goal

abbrev pub invariant-loop-line : goal.invariant-loop-line
invariant-loop-line l = map string_bytes l.keys.items ++ unknown_keys l.table (map string_bytes l.sections) (settings_of (drop l.line-index l.lines)) ≡ unknown_keys l.table (map string_bytes l.sections) (settings_of l.lines)
