use Rattle.std.proofs.Common.{◌≡◌, ◌++◌, drop, map}
use Rattle.repo_ini.specs.Views.{settings_of}
use Rattle.options_read.specs.Settings.{all_in}
use Rattle.options_read.proofs.source.all_in.Given as goal

abbrev pub invariant-loop-line : goal.invariant-loop-line
invariant-loop-line l = map (λ t. t.now) l.values.items ++ all_in (settings_of (drop l.line-index l.lines)) l.section l.key ≡ all_in (settings_of l.lines) l.section l.key
