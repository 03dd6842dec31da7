-- A text is cut at the first of some bytes.
use Rattle.std.proofs.Common.{◌≡◌, ◌≢◌, ℕ, zero, suc, ◌+◌, ◌-◌, ◌<◌, ◌≤◌, ◌/◌, ◌%◌, ◌==◌, Bool, true, false, if◌then◌else◌, cond, [], ◌∷◌, ◌++◌, length, take, drop, Some, None, inl, inr, nat_lt, refl, ap, subst, arith}
use Rattle.std.specs.Prelude.{decimal}
use Rattle.std.specs.Fmt.{digits, digits_onto, digit_glyph}
use Rattle.std.specs.List.{position, position_or_len}
use Rattle.std.proofs.lemmas.Bool.{cases_eq, ltb-true, ltb-false}
use Rattle.std.proofs.lemmas.Option.{cond_some}
use Rattle.std.proofs.lemmas.Bool.Decides.{nat_tests}
use Rattle.std.proofs.lemmas.Grind.{common_steps}
use Rattle.base_model.specs.Text.{Text, hex_upper, hex_digit}
use Rattle.archive_lookup.specs.Paths.{Lacks}

-- ---- the first of the bytes

cut_here : (byte : ℕ) (text : Text) → position_or_len (λ b. b == byte) text < length text
    → (text ≡ take (position_or_len (λ b. b == byte) text) text ++ byte ∷ drop (position_or_len (λ b. b == byte) text + 1) text) × Lacks byte (take (position_or_len (λ b. b == byte) text) text)
cut_here byte [] h = absurd (omega arith)
cut_here byte (c ∷ cs) h = elim (cases_eq c byte) [
  | inl here ↦ let is : (c == byte) ≡ true = grind (arith, nat_tests) in rw is (ap (λ x. x ∷ cs) here, tt)
  | inr other ↦
      let n = position_or_len (λ b. b == byte) cs in
      let is_not : (c == byte) ≡ false = grind (arith, nat_tests, other) in
      let place : 1 + n ≡ suc n = omega arith in
      let after : suc n + 1 ≡ suc (n + 1) = omega arith in
      let inside : 1 + n < length (c ∷ cs) = rw is_not at h in
      let more = cut_here byte cs (omega arith) in
      rw (is_not, place, after) (ap (λ l. c ∷ l) more.0, (other, more.1))
]

pub cut_some : (byte : ℕ) (text : Text) (at : ℕ) → position (λ b. b == byte) text ≡ Some at → (text ≡ take at text ++ byte ∷ drop (at + 1) text) × Lacks byte (take at text)
cut_some byte text at e =
    let found = cond_some (nat_lt (position_or_len (λ b. b == byte) text) (length text)) (position_or_len (λ b. b == byte) text) at e in
    subst (λ n. (text ≡ take n text ++ byte ∷ drop (n + 1) text) × Lacks byte (take n text)) found.1 (cut_here byte text (ltb-true (position_or_len (λ b. b == byte) text) (length text) found.0))

none_here : (byte : ℕ) (text : Text) → length text ≤ position_or_len (λ b. b == byte) text → Lacks byte text
none_here byte [] h = tt
none_here byte (c ∷ cs) h = elim (cases_eq c byte) [
  | inl here ↦ let is : (c == byte) ≡ true = grind (arith, nat_tests) in let none : length (c ∷ cs) ≤ 0 = rw is at h in absurd (omega arith)
  | inr other ↦
      let is_not : (c == byte) ≡ false = grind (arith, nat_tests, other) in
      let more : length (c ∷ cs) ≤ 1 + position_or_len (λ b. b == byte) cs = rw is_not at h in
      (other, none_here byte cs (omega arith))
]

pub cut_none : (byte : ℕ) (text : Text) → position (λ b. b == byte) text ≡ None → Lacks byte text
cut_none byte text e = by (nat_lt (position_or_len (λ b. b == byte) text) (length text)) refl e
  where
    by : (inside : Bool) → nat_lt (position_or_len (λ b. b == byte) text) (length text) ≡ inside → cond inside (Some (position_or_len (λ b. b == byte) text)) None ≡ None → Lacks byte text
    by true is e = cc e
    by false is e = none_here byte text (ltb-false (position_or_len (λ b. b == byte) text) (length text) is)

-- ---- a text is cut in one way

pub divided : (byte : ℕ) (a b x y : Text) → Lacks byte a → Lacks byte b → a ++ byte ∷ x ≡ b ++ byte ∷ y → (a ≡ b) × (x ≡ y)
divided s [] [] x y p q e = (refl, cc)
divided s [] (d ∷ b) x y p q e = absurd (q.0 (let h : d ≡ s = cc in h))
divided s (c ∷ a) [] x y p q e = absurd (p.0 (let h : c ≡ s = cc in h))
divided s (c ∷ a) (d ∷ b) x y p q e =
    let k : c ≡ d = cc in
    let r = divided s a b x y p.1 q.1 (let h : a ++ s ∷ x ≡ b ++ s ∷ y = cc in h) in
    let t : a ≡ b = r.0 in (cc, r.1)

pub undivided : (byte : ℕ) (a x : Text) → Lacks byte (a ++ byte ∷ x) → ⊥
undivided s [] x p = p.0 refl
undivided s (c ∷ a) x p = undivided s a x p.1

-- ---- texts without a byte

pub lacks_append : (byte : ℕ) (a b : Text) → Lacks byte a → Lacks byte b → Lacks byte (a ++ b)
lacks_append c [] b p q = q
lacks_append c (d ∷ a) b p q = (p.0, lacks_append c a b p.1 q)

glyph_lacks : (c d : ℕ) → c < 48 → d < 10 → digit_glyph false d ≢ c
glyph_lacks c d low small e = grind (arith, common_steps)

onto_lacks : (c k n : ℕ) (rest : Text) → c < 48 → Lacks c rest → Lacks c (digits_onto k 10 false n rest)
onto_lacks c zero n rest low h = h
onto_lacks c (suc k) n rest low h = by (n / 10 == 0) (onto_lacks c k (n / 10) (digit_glyph false (n % 10) ∷ rest) low (glyph_lacks c (n % 10) low (omega arith), h))
  where
    by : (last : Bool) → Lacks c (digits_onto k 10 false (n / 10) (digit_glyph false (n % 10) ∷ rest)) → Lacks c (if last then digit_glyph false (n % 10) ∷ rest else digits_onto k 10 false (n / 10) (digit_glyph false (n % 10) ∷ rest))
    by true more = (glyph_lacks c (n % 10) low (omega arith), h)
    by false more = more

pub decimal_lacks : (c n : ℕ) → c < 48 → Lacks c (decimal n)
unfolding digits
decimal_lacks c n low = onto_lacks c 64 n [] low tt

digit_lacks : (c d : ℕ) → c < 48 → hex_digit d ≢ c
digit_lacks c d low e = by (nat_lt d 10) e
  where
    by : (small : Bool) → (if small then 48 + d else 65 + (d - 10)) ≡ c → ⊥
    by true e = absurd (omega arith)
    by false e = absurd (omega arith)

pub hex_lacks : (c n v : ℕ) → c < 48 → Lacks c (hex_upper n v)
unfolding hex_upper
hex_lacks c zero v low = tt
hex_lacks c (suc n) v low = lacks_append c (hex_upper n (v / 16)) (hex_digit (v % 16) ∷ []) (hex_lacks c n (v / 16) low) (digit_lacks c (v % 16) low, tt)
