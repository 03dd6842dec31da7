use Rattle.std.proofs.Common.{◌≡◌, drop, map}
use Rattle.options_table.specs.Values.{is_word}
use Rattle.options_table.proofs.value.is_word.Given as goal

abbrev pub invariant-loop-w : goal.invariant-loop-w
invariant-loop-w l = is_word (map (λ w. w.now) (drop l.w-index l.allowed)) l.text ≡ is_word (map (λ w. w.now) l.allowed) l.text
