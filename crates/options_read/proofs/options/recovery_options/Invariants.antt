use Rattle.std.proofs.Common.{◌≡◌, ◌++◌, drop, map, string_bytes}
use Rattle.options_read.specs.Settings.{stated_all}
use Rattle.options_read.specs.Sources.{source_view}
use Rattle.options_table.specs.declared.table.Opt.TheVariants.{RecoveryOption}
use Rattle.options_read.proofs.options.recovery_options.Given as goal

abbrev pub invariant-loop-text : goal.invariant-loop-text
invariant-loop-text l = map string_bytes l.settings.items ++ map (λ t. t.now) (drop l.text-index l.text-items) ≡ stated_all (source_view l.source) RecoveryOption
