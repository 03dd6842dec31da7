-- Digits only add to a number.
use Rattle.std.proofs.Common.{◌≡◌, ℕ, suc, ◌+◌, ◌-◌, ◌*◌, ◌≤◌, ◌<◌, List, [], ◌∷◌, length, drop, get_or, drop-cons, ap, arith}
use Rattle.options_table.specs.Amounts.{value_from}

pub value_from-ge : (n : ℕ) (ds : List ℕ) → n ≤ value_from n ds
value_from-ge n [] = omega arith
value_from-ge n (d ∷ ds) = omega (arith, value_from-ge (n * 10 + (d - 48)) ds)

pub too_large : (m n i : ℕ) (ds : List ℕ) → i < length ds → value_from n (drop i ds) ≡ value_from 0 ds → m < n * 10 + (get_or ds i 0 - 48) → m < value_from 0 ds
too_large m n i ds h same over =
    let step = ap (value_from n) (drop-cons ds i 0 h) in
    omega (arith, step, value_from-ge (n * 10 + (get_or ds i 0 - 48)) (drop (suc i) ds))
