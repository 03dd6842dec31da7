use Rattle.std.proofs.Common.{◌≡◌, ◌++◌, ◌∷◌, [], drop, map}
use Rattle.std.specs.List.{flat_map}
use Rattle.restore_make.proofs.settings.add_lines.Given as goal

abbrev pub invariant-loop-line : goal.invariant-loop-line
invariant-loop-line l = l.text.items ++ flat_map (λ line. line ++ 10 ∷ []) (map (λ line. line.items) (drop l.line-index l.lines)) ≡ l.fn.text.items ++ flat_map (λ line. line ++ 10 ∷ []) (map (λ line. line.items) l.lines)
