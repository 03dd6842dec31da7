use Rattle.std.proofs.Common.{◌≡◌, drop}
use Rattle.repo_ini.specs.Views.{settings_of}
use Rattle.options_read.specs.Settings.{value_in}
use Rattle.options_read.proofs.source.value_in.Given as goal

abbrev pub invariant-loop-line : goal.invariant-loop-line
invariant-loop-line l = value_in (settings_of (drop l.line-index l.lines)) l.section l.key ≡ value_in (settings_of l.lines) l.section l.key
