-- The digits of a number of four bytes.
use Rattle.std.proofs.Common.{◌≡◌, ℕ, zero, suc, ◌/◌, ◌%◌, ◌==◌, ◌&&◌, ◌<◌, Bool, true, List, [], ◌∷◌, inl, inr, refl, ap, ap₂, ◌∙◌, arith, slice_index}
use Rattle.std.specs.Int.{w32, to_be_bytes}
use Rattle.std.proofs.lemmas.Bool.{and_parts, cases_eq, eqb-true}
use Rattle.hex.specs.Hex.{upper_digits, encode_with, encode_upper}
use Rattle.base_model.specs.Text.{hex_digit, hex_upper}

abbrev digit : ℕ → ℕ
digit n = slice_index upper_digits n

-- the digits below n
abbrev alike_below : ℕ → Bool
alike_below zero = true
alike_below (suc n) = (digit n == hex_digit n) && alike_below n

alike : (n : ℕ) → alike_below n ≡ true → (x : ℕ) → x < n → digit x ≡ hex_digit x
alike zero e x h = absurd (omega arith)
alike (suc n) e x h =
    let p = and_parts (digit n == hex_digit n) (alike_below n) e in
    elim (cases_eq x n) [ inl same ↦ rw same (eqb-true (digit n) (hex_digit n) p.0) | inr differ ↦ alike n p.1 x (omega arith) ]

sixteen : alike_below 16 ≡ true
sixteen = refl

same : (n m : ℕ) → n ≡ m → m < 16 → digit n ≡ hex_digit m
same n m e h = ap digit e ∙ alike 16 sixteen m h

next : (n m : ℕ) (xs ys : List ℕ) → n ≡ m → m < 16 → xs ≡ ys → digit n ∷ xs ≡ hex_digit m ∷ ys
next n m xs ys e h more = ap₂ (λ x l. x ∷ l) (same n m e h) more

pub encode_upper-word : (v : ℕ) → encode_upper (to_be_bytes w32 v) ≡ hex_upper 8 v
unfolding encode_with hex_upper
encode_upper-word v =
    next (v / 16777216 % 256 / 16) (v / 16 / 16 / 16 / 16 / 16 / 16 / 16 % 16) _ _ (omega arith) (omega arith)
    (next (v / 16777216 % 256 % 16) (v / 16 / 16 / 16 / 16 / 16 / 16 % 16) _ _ (omega arith) (omega arith)
    (next (v / 65536 % 256 / 16) (v / 16 / 16 / 16 / 16 / 16 % 16) _ _ (omega arith) (omega arith)
    (next (v / 65536 % 256 % 16) (v / 16 / 16 / 16 / 16 % 16) _ _ (omega arith) (omega arith)
    (next (v / 256 % 256 / 16) (v / 16 / 16 / 16 % 16) _ _ (omega arith) (omega arith)
    (next (v / 256 % 256 % 16) (v / 16 / 16 % 16) _ _ (omega arith) (omega arith)
    (next (v % 256 / 16) (v / 16 % 16) _ _ (omega arith) (omega arith)
    (next (v % 256 % 16) (v % 16) [] [] (omega arith) (omega arith) refl)))))))
