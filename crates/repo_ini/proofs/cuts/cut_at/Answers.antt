use Rattle.std.proofs.Common.{◌≡◌, ℕ, ◌+◌, ◌-◌, List, length, take, drop, Some, option_map, ap, ap₂, ◌∙◌}
use Rattle.std.proofs.lemmas.List.{take_rest, drop-drop}
use Rattle.repo_ini.proofs.cuts.cut_at.Goals as goal

pub returns-in-Some : goal.returns-in-Some
returns-in-Some c =
    let xs = c.args.bytes.now in
    let back = c.split_at.result.1.now in
    let rest : take (length back - 1) (drop 1 back) ≡ drop (c.in-Some.place + 1) xs =
    take_rest back 1 ∙ ap (drop 1) c.split_at.ensures.back ∙ drop-drop 1 c.in-Some.place xs in
    ap₂ (λ (a b : List ℕ). Some (a, b)) c.split_at.ensures.front rest
    ∙ ap (option_map (λ i. (take i xs, drop (i + 1) xs))) c.in-Some.ensures
