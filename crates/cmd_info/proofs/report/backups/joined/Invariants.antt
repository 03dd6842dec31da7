use Rattle.std.proofs.Common.{◌≡◌, ◌++◌, ◌∷◌, drop, flat_map, codes, string_bytes}
use Rattle.std.specs.List.{join_by}
use Rattle.base_model.specs.Names.{label_text}
use Rattle.cmd_info.proofs.report.backups.joined.Given as goal

-- the text that is there and that to come are the whole
abbrev pub invariant-loop-label : goal.invariant-loop-label
invariant-loop-label l = string_bytes l.text ++ flat_map (λ y. codes ", " ++ label_text y) (drop l.label-index l.others) ≡ join_by label_text (codes ", ") (l.first ∷ l.others)
