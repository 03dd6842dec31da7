use Rattle.std.proofs.Common.{◌≡◌, drop, map, bytes_eq}
use Rattle.std.specs.List.{list_any}
use Rattle.options_read.proofs.source.is_one_of.Given as goal

abbrev pub invariant-loop-w : goal.invariant-loop-w
invariant-loop-w l = list_any (λ t. bytes_eq t l.word) (map (λ t. t.now) (drop l.w-index l.words)) ≡ list_any (λ t. bytes_eq t l.word) (map (λ t. t.now) l.words)
