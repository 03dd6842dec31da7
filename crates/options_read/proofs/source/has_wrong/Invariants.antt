use Rattle.std.proofs.Common.{◌≡◌, drop, map, is_none}
use Rattle.std.specs.List.{list_any}
use Rattle.options_table.specs.Values.{value_of}
use Rattle.options_table.specs.Views.{kind_view}
use Rattle.options_read.proofs.source.has_wrong.Given as goal

abbrev pub invariant-loop-text : goal.invariant-loop-text
invariant-loop-text l = list_any (λ t. is_none (value_of (kind_view l.kind) t)) (map (λ t. t.now) (drop l.text-index l.texts)) ≡ list_any (λ t. is_none (value_of (kind_view l.kind) t)) (map (λ t. t.now) l.texts)
