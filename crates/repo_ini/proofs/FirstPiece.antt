-- The first piece of a text, and how many there are.
use Rattle.std.proofs.Common.{◌≡◌, ℕ, ◌+◌, ◌≤◌, Bool, true, false, cond, List, [], ◌∷◌, length, take, drop, Option, Some, None, option_map, refl, sym, ap, ◌∙◌, arith, ◌==◌, nat_lt, ltb-false, ltb-true}
use Rattle.std.specs.List.{position_or_len}
use Rattle.std.proofs.lemmas.List.Elements.{All-from_get_or}
use Rattle.std.proofs.lemmas.List.Sums.{fails_before_first, count_by-le-length}
use Rattle.std.proofs.lemmas.List.Splits.{slice_split_first, slice_split_none, length-slice_split}
use Rattle.repo_ini.specs.Form.{pieces}
use Rattle.repo_ini.specs.Reading.{cut_at}

abbrev parts_of : List ℕ → Option (List ℕ × List ℕ) → List (List ℕ)
parts_of bs None = bs ∷ []
parts_of bs (Some k) = k.0 ∷ pieces k.1

by_test : (bs : List ℕ) (b : Bool) → nat_lt (position_or_len (λ b. b == 10) bs) (length bs) ≡ b
    → pieces bs ≡ parts_of bs (option_map (λ i. (take i bs, drop (i + 1) bs)) (cond b (Some (position_or_len (λ b. b == 10) bs)) None))
by_test bs true e = slice_split_first (λ b. b == 10) bs 0 (ltb-true _ _ e)
by_test bs false e =
    let all = ltb-false (position_or_len (λ b. b == 10) bs) (length bs) e in
    slice_split_none (λ b. b == 10) bs (All-from_get_or (λ x. (x == 10) ≡ false) bs 0 (λ i below. fails_before_first (λ b. b == 10) bs i 0 (omega arith)))

pieces-cut_at : (bs : List ℕ) → pieces bs ≡ parts_of bs (cut_at 10 bs)
pieces-cut_at bs = by_test bs (nat_lt (position_or_len (λ b. b == 10) bs) (length bs)) refl

pub cut_some : (bs a b : List ℕ) → Some (a, b) ≡ cut_at 10 bs → pieces bs ≡ a ∷ pieces b
cut_some bs a b h = pieces-cut_at bs ∙ ap (parts_of bs) (sym h)

pub cut_none : (bs : List ℕ) → None ≡ cut_at 10 bs → pieces bs ≡ bs ∷ []
cut_none bs h = pieces-cut_at bs ∙ ap (parts_of bs) (sym h)

pub length-pieces : (bs : List ℕ) → length (pieces bs) ≤ length bs + 1
length-pieces bs = let l = length-slice_split (λ b. b == 10) bs in let c = count_by-le-length (λ b. b == 10) bs in omega arith
