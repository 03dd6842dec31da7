-- The two numbers of a position.
use Rattle.std.proofs.Common.{◌≡◌, ℕ, zero, suc, ◌+◌, ◌<◌, ◌≤◌, ◌^◌, ◌==◌, true, false, [], ◌∷◌, ◌++◌, length, take, drop, Some, Result, Ok, Err, IfNone, IsUtf8, IsAscii, inl, inr, nat_lt, refl, ap, ◌∙◌, subst, arith, lit<, length-append}
use Rattle.std.specs.List.{position, position_or_len}
use Rattle.std.specs.Char.{digit_value}
use Rattle.std.specs.Result.{result_ok}
use Rattle.std.specs.Str.Parse.{AllDigits, IsNumeral, digits_value, without_leading_plus, ParsesUnsigned}
use Rattle.std.proofs.Math.Nat.{pow-le-pow_right}
use Rattle.std.proofs.Math.Seq.{take-append_seam, drop-append-add}
use Rattle.std.proofs.lemmas.Bool.{cases_eq, ltb-true}
use Rattle.std.proofs.lemmas.Option.{cond_some}
use Rattle.std.proofs.lemmas.Bool.Decides.{nat_tests}
use Rattle.std.proofs.lemmas.Int.Digits.{digits_value-lt}
use Rattle.std.proofs.lemmas.Str.{IsUtf8-from_ascii}
use Rattle.base_model.specs.Text.{Text}
use Rattle.repo_names.specs.Lsn.{IsHalf, IsLsn}

digit_bounds : (c : ℕ) → digit_value c < 16 → (47 < c) × (c < 128)
digit_bounds c h = (grind (arith, nat_tests), grind (arith, nat_tests))

ascii : (ds : Text) → AllDigits 16 ds → IsAscii ds
ascii [] h i = lit< tt
ascii (c ∷ cs) h zero = (digit_bounds c h.0).1
ascii (c ∷ cs) h (suc i) = ascii cs h.1 i

pub IsUtf8-half : (ds : Text) → IsHalf ds → IsUtf8 ds
IsUtf8-half ds h = IsUtf8-from_ascii ds (ascii ds h.0.1)

no_plus : (ds : Text) → IsNumeral 16 ds → without_leading_plus ds ≡ ds
no_plus [] h = absurd (omega arith)
no_plus (c ∷ cs) h = let b = digit_bounds c h.1.0 in grind (arith, nat_tests)

pub half_fits : (ds : Text) → IsHalf ds → digits_value 16 ds < 2 ^ 32
half_fits ds h =
    let few : 16 ^ length ds ≤ 16 ^ 8 = pow-le-pow_right {n = 16} (lit< tt) {i = length ds} {j = 8} h.1 in
    omega (arith, digits_value-lt 16 ds h.0.1)

pub half_none : {E : Type 0} (ds : Text) (r : Result ℕ E) → ParsesUnsigned 32 16 ds r → IfNone (result_ok r) (¬ IsHalf ds)
half_none ds (Ok x) p = tt
half_none ds (Err e) p = λ h. subst (λ t. ¬ (IsNumeral 16 t × (digits_value 16 t < 2 ^ 32))) (no_plus ds h.0) p (h.0, half_fits ds h)

-- the first slash ends the digits
slash_at : (high low : Text) → AllDigits 16 high → position_or_len (λ c. c == 47) (high ++ 47 ∷ low) ≡ length high
slash_at [] low h = refl
slash_at (c ∷ cs) low h = let b = digit_bounds c h.0 in let rest = slash_at cs low h.1 in grind (arith, nat_tests)

position_at : (high low : Text) → AllDigits 16 high → position (λ c. c == 47) (high ++ 47 ∷ low) ≡ Some (length high)
position_at high low h = let e = slash_at high low h in let long = length-append high (47 ∷ low) in rw e (grind (arith, nat_tests))

-- a text is cut at its first slash
cut : (text : Text) → position_or_len (λ c. c == 47) text < length text → text ≡ take (position_or_len (λ c. c == 47) text) text ++ 47 ∷ drop (position_or_len (λ c. c == 47) text + 1) text
cut [] h = absurd (omega arith)
cut (c ∷ cs) h = elim (cases_eq c 47) [
  | inl slash ↦ let is : (c == 47) ≡ true = grind (arith, nat_tests) in rw is (ap (λ x. x ∷ cs) slash)
  | inr other ↦
      let n = position_or_len (λ c. c == 47) cs in
      let is_not : (c == 47) ≡ false = grind (arith, nat_tests, other) in
      let place : 1 + n ≡ suc n = omega arith in
      let after : suc n + 1 ≡ suc (n + 1) = omega arith in
      let inside : 1 + n < length (c ∷ cs) = rw is_not at h in
      rw (is_not, place, after) (ap (λ l. c ∷ l) (cut cs (omega arith)))
]

pub cut_at : (text : Text) (slash : ℕ) → position (λ c. c == 47) text ≡ Some slash → text ≡ take slash text ++ 47 ∷ drop (slash + 1) text
cut_at text slash e =
    let found = cond_some (nat_lt (position_or_len (λ c. c == 47) text) (length text)) (position_or_len (λ c. c == 47) text) slash e in
    subst (λ n. text ≡ take n text ++ 47 ∷ drop (n + 1) text) found.1 (cut text (ltb-true (position_or_len (λ c. c == 47) text) (length text) found.0))

module _ (text : Text) (at : ℕ) (l : IsLsn text at) where
  pub slash_is : position (λ c. c == 47) text ≡ Some (length l.high)
  slash_is = ap (position (λ c. c == 47)) l.is ∙ position_at l.high l.low l.high_digits.0.1

  pub high_is : (slash : ℕ) → position (λ c. c == 47) text ≡ Some slash → take slash text ≡ l.high
  high_is slash e =
      let same : slash ≡ length l.high = cc (e, slash_is) in
      rw (same, l.is) (take-append_seam l.high (47 ∷ l.low))

  pub low_is : (slash : ℕ) → position (λ c. c == 47) text ≡ Some slash → drop (slash + 1) text ≡ l.low
  low_is slash e =
      let same : slash ≡ length l.high = cc (e, slash_is) in
      rw (same, l.is) (drop-append-add l.high (47 ∷ l.low) 1)
