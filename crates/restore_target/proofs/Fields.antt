-- The fields of a line of a history: its tabs part it in one way.
use Rattle.std.proofs.Common.{◌≡◌, ℕ, ◌<◌, ◌≤◌, ◌^◌, ◌==◌, false, [], ◌∷◌, ◌++◌, All, Some, decimal, refl, sym, ap, subst, ◌∙◌, arith}
use Rattle.std.specs.Char.{digit_value}
use Rattle.std.specs.Str.Parse.{AllDigits}
use Rattle.std.proofs.lemmas.Bool.Decides.{nat_tests}
use Rattle.std.proofs.lemmas.Fmt.{decimal_is_IsNumeral, decimal_injective}
use Rattle.std.proofs.lemmas.List.Elements.{All-nil, All-cons, All-append}
use Rattle.std.proofs.lemmas.Option.{some_pair_parts}
use Rattle.base_model.specs.Text.{Text}
use Rattle.repo_ini.specs.Reading.{cut_at}
use Rattle.repo_ini.proofs.Pieces.{cut_at-at}
use Rattle.repo_names.specs.Lsn.{IsLsn}
use Rattle.restore_target.specs.History.{TellsEnd}

abbrev NoTab : Text → Type 0
NoTab text = All (λ x. (x == 9) ≡ false) text

digit_no_tab : (c : ℕ) → digit_value c < 16 → (c == 9) ≡ false
digit_no_tab c h = grind (arith, nat_tests)

digits_no_tab : (radix : ℕ) (ds : Text) → radix ≤ 16 → AllDigits radix ds → NoTab ds
digits_no_tab radix [] few h = All-nil (λ x. (x == 9) ≡ false)
digits_no_tab radix (c ∷ cs) few h = All-cons (λ x. (x == 9) ≡ false) c cs (digit_no_tab c (omega (arith, h.0))) (digits_no_tab radix cs few h.1)

decimal_no_tab : (n : ℕ) → n < 2 ^ 64 → NoTab (decimal n)
decimal_no_tab n h = digits_no_tab 10 (decimal n) (omega arith) (decimal_is_IsNumeral n h).0.1

place_no_tab : (place : Text) (at : ℕ) → IsLsn place at → NoTab place
place_no_tab place at l =
    let high = digits_no_tab 16 l.high (omega arith) l.high_digits.0.1 in
    let low : NoTab (47 ∷ l.low) = All-cons (λ x. (x == 9) ≡ false) 47 l.low refl (digits_no_tab 16 l.low (omega arith) l.low_digits.0.1) in
    subst NoTab (sym l.is) (All-append (λ x. (x == 9) ≡ false) l.high (47 ∷ l.low) high low)

module _ (line : Text) (timeline until : ℕ) (fits : timeline < 2 ^ 64) (x : TellsEnd line timeline until) where
  pub first_cut : cut_at 9 line ≡ Some (decimal timeline, x.place ++ 9 ∷ x.reason)
  first_cut = ap (cut_at 9) x.is ∙ cut_at-at 9 (decimal timeline) (x.place ++ 9 ∷ x.reason) (decimal_no_tab timeline fits)

  pub second_cut : cut_at 9 (x.place ++ 9 ∷ x.reason) ≡ Some (x.place, x.reason)
  second_cut = cut_at-at 9 x.place x.reason (place_no_tab x.place until x.is_place)

  -- where the first tab is found
  pub first_is : (number more : Text) → Some (number, more) ≡ cut_at 9 line → (number ≡ decimal timeline) × (more ≡ x.place ++ 9 ∷ x.reason)
  first_is number more e = some_pair_parts number (decimal timeline) more (x.place ++ 9 ∷ x.reason) (e ∙ first_cut)

  -- and the second one
  pub second_is : (number more place rest : Text) → Some (number, more) ≡ cut_at 9 line → Some (place, rest) ≡ cut_at 9 more → place ≡ x.place
  second_is number more place rest e d =
      let same = (first_is number more e).1 in
      (some_pair_parts place x.place rest x.reason (d ∙ ap (cut_at 9) same ∙ second_cut)).0

-- a line states one timeline
pub one_timeline : (line : Text) (a b u v : ℕ) → a < 2 ^ 64 → b < 2 ^ 64 → TellsEnd line a u → TellsEnd line b v → a ≡ b
one_timeline line a b u v lt below x y =
    let same = first_is line a u lt x (decimal b) (y.place ++ 9 ∷ y.reason) (sym (first_cut line b v below y)) in
    decimal_injective a b lt below (sym same.0)
