-- The digits of half a position.
use Rattle.std.proofs.Common.{◌≡◌, ℕ, zero, suc, ◌+◌, ◌-◌, ◌*◌, ◌/◌, ◌%◌, ◌<◌, ◌≤◌, ◌^◌, ◌==◌, ◌⊎◌, inl, inr, Bool, true, false, if◌then◌else◌, [], ◌∷◌, ◌++◌, length, refl, sym, ap, ◌∙◌, subst, arith, append_assoc}
use Rattle.std.specs.Char.{digit_value}
use Rattle.std.specs.Str.Parse.{AllDigits, digits_value}
use Rattle.std.specs.Fmt.{digits, digits_onto, digit_glyph}
use Rattle.std.proofs.lemmas.Bool.{cases_eq, cases_lt}
use Rattle.std.proofs.lemmas.Bool.Decides.{nat_tests}
use Rattle.std.proofs.lemmas.List.{append-nil}
use Rattle.std.proofs.lemmas.Int.Digits.{digits_value_push}
use Rattle.base_model.specs.Text.{Text, hex_digit, hex_upper, without_zeros}
use Rattle.repo_names.specs.Lsn.{IsHalf}
use Rattle.repo_names.proofs.Digits.{length-hex_upper}

-- the numbers of this many digits are below this one
abbrev top : ℕ → ℕ
top zero = 1
top (suc k) = 16 * top k

digit_is : (n : ℕ) → n < 16 → digit_value (hex_digit n) ≡ n
digit_is n h = elim (cases_lt n 10) [
  | inl low ↦ let e : hex_digit n ≡ 48 + n = grind (arith, nat_tests) in rw e (grind (arith, nat_tests))
  | inr high ↦ let e : hex_digit n ≡ 65 + (n - 10) = grind (arith, nat_tests) in rw e (grind (arith, nat_tests))
]

glyph_is : (n : ℕ) → n < 16 → digit_glyph true n ≡ hex_digit n
glyph_is n h = elim (cases_lt n 10) [ inl low ↦ grind (arith, nat_tests) | inr high ↦ grind (arith, nat_tests) ]

-- ---- the value of the digits

hex_value : (k v : ℕ) → v < top k → digits_value 16 (hex_upper k v) ≡ v
unfolding hex_upper
hex_value zero v h = omega arith
hex_value (suc k) v h =
    let small : v < 16 * top k = h in
    let prefix = hex_value k (v / 16) (omega arith) in
    let last = digit_is (v % 16) (omega arith) in
    let push = digits_value_push 16 (hex_upper k (v / 16)) (hex_digit (v % 16)) in
    omega (arith, prefix, last, push)

-- a zero in front counts for nothing
zeros_value : (ds : Text) → digits_value 16 (without_zeros ds) ≡ digits_value 16 ds
zeros_value [] = refl
zeros_value (c ∷ []) = refl
zeros_value (c ∷ d ∷ ds) = elim (cases_eq c 48) [
  | inl e ↦ let is : c ≡ 48 = e in subst (λ (x : ℕ). digits_value 16 (without_zeros (x ∷ d ∷ ds)) ≡ digits_value 16 (x ∷ d ∷ ds)) (sym is) (zeros_value (d ∷ ds))
  | inr off ↦ let is_not : (c == 48) ≡ false = grind (arith, nat_tests, off) in rw is_not refl
]

-- ---- they are digits, and not too many

all_append : (xs ys : Text) → AllDigits 16 xs → AllDigits 16 ys → AllDigits 16 (xs ++ ys)
all_append [] ys h g = g
all_append (x ∷ xs) ys h g = (h.0, all_append xs ys h.1 g)

hex_digits : (k v : ℕ) → AllDigits 16 (hex_upper k v)
unfolding hex_upper
hex_digits zero v = tt
hex_digits (suc k) v =
    let last = digit_is (v % 16) (omega arith) in
    all_append (hex_upper k (v / 16)) (hex_digit (v % 16) ∷ []) (hex_digits k (v / 16)) (omega (arith, last), tt)

zeros_digits : (ds : Text) → AllDigits 16 ds → AllDigits 16 (without_zeros ds)
zeros_digits [] h = h
zeros_digits (c ∷ []) h = h
zeros_digits (c ∷ d ∷ ds) h = by (zeros_digits (d ∷ ds) h.1) (c == 48)
  where
    by : AllDigits 16 (without_zeros (d ∷ ds)) → (b : Bool) → AllDigits 16 (if b then without_zeros (d ∷ ds) else c ∷ d ∷ ds)
    by more true = more
    by more false = h

zeros_length : (ds : Text) → length (without_zeros ds) ≤ length ds
zeros_length [] = omega arith
zeros_length (c ∷ []) = omega arith
zeros_length (c ∷ d ∷ ds) = by (zeros_length (d ∷ ds)) (c == 48)
  where
    by : length (without_zeros (d ∷ ds)) ≤ length (d ∷ ds) → (b : Bool) → length (if b then without_zeros (d ∷ ds) else c ∷ d ∷ ds) ≤ length (c ∷ d ∷ ds)
    by more true = omega (arith, more)
    by more false = omega arith

zeros_some : (ds : Text) → 0 < length ds → 0 < length (without_zeros ds)
zeros_some [] h = h
zeros_some (c ∷ []) h = h
zeros_some (c ∷ d ∷ ds) h = by (zeros_some (d ∷ ds) (omega arith)) (c == 48)
  where
    by : 0 < length (without_zeros (d ∷ ds)) → (b : Bool) → 0 < length (if b then without_zeros (d ∷ ds) else c ∷ d ∷ ds)
    by more true = more
    by more false = omega arith

-- the digits of a half
abbrev pub half : ℕ → Text
half v = without_zeros (hex_upper 8 v)

pub half_is : (v : ℕ) → IsHalf (half v)
half_is v =
    let long = length-hex_upper 8 v in
    let most = zeros_length (hex_upper 8 v) in
    ((zeros_some (hex_upper 8 v) (omega (arith, long)), zeros_digits (hex_upper 8 v) (hex_digits 8 v)), omega (arith, long, most))

pub half_value : (v : ℕ) → v < 2 ^ 32 → digits_value 16 (half v) ≡ v
half_value v h = let e : top 8 ≡ 4294967296 = refl in zeros_value (hex_upper 8 v) ∙ hex_value 8 v (omega (arith, e))

-- ---- they are what is written of the number

skip : (xs ys : Text) (c : ℕ) → without_zeros (48 ∷ (xs ++ c ∷ ys)) ≡ without_zeros (xs ++ c ∷ ys)
skip [] ys c = refl
skip (x ∷ xs) ys c = refl

zeros_prefix : (n : ℕ) → hex_upper (suc n) 0 ≡ 48 ∷ hex_upper n 0
unfolding hex_upper
zeros_prefix zero = refl
zeros_prefix (suc n) = ap (λ (t : Text). t ++ 48 ∷ []) (zeros_prefix n)

zeros_gone : (n c : ℕ) → without_zeros (hex_upper n 0 ++ c ∷ []) ≡ c ∷ []
unfolding hex_upper
zeros_gone zero c = refl
zeros_gone (suc n) c = ap (λ (t : Text). without_zeros (t ++ c ∷ [])) (zeros_prefix n) ∙ skip (hex_upper n 0) [] c ∙ zeros_gone n c

lone : (c : ℕ) (ys : Text) → (c == 48) ≡ false → without_zeros (c ∷ ys) ≡ c ∷ ys
lone c [] h = refl
lone c (y ∷ ys) h = rw h refl

-- what follows digits that aren't all zeros stays
kept : (xs ys : Text) → 0 < digits_value 16 xs → without_zeros (xs ++ ys) ≡ without_zeros xs ++ ys
kept [] ys h = absurd (omega arith)
kept (c ∷ []) ys h = elim (cases_eq c 48) [
  | inl e ↦ let is : c ≡ 48 = e in let none : 0 < 0 = subst (λ (x : ℕ). 0 < digits_value 16 (x ∷ [])) is h in absurd (omega (arith, none))
  | inr off ↦ lone c ys (grind (arith, nat_tests, off))
]
kept (c ∷ d ∷ ds) ys h = elim (cases_eq c 48) [
  | inl e ↦ let is : c ≡ 48 = e in
      let more : 0 < digits_value 16 (d ∷ ds) = subst (λ (x : ℕ). 0 < digits_value 16 (x ∷ d ∷ ds)) is h in
      subst (λ (x : ℕ). without_zeros (x ∷ d ∷ (ds ++ ys)) ≡ without_zeros (x ∷ d ∷ ds) ++ ys) (sym is) (kept (d ∷ ds) ys more)
  | inr off ↦ let is_not : (c == 48) ≡ false = grind (arith, nat_tests, off) in rw is_not refl
]

one : (v : ℕ) → hex_upper 1 v ≡ hex_digit (v % 16) ∷ []
unfolding hex_upper
one v = refl

step : (k v : ℕ) → hex_upper (suc k) v ≡ hex_upper k (v / 16) ++ hex_digit (v % 16) ∷ []
unfolding hex_upper
step k v = refl

-- the digits that are written of a number of at most this many
hex_onto : (k j v : ℕ) (acc : Text) → v < top (suc k) → k < j → digits_onto j 16 true v acc ≡ without_zeros (hex_upper (suc k) v) ++ acc
hex_onto k zero v acc small fuel = absurd (omega arith)
hex_onto k (suc j) v acc small fuel = by (λ n low more. hex_onto n j (v / 16) (digit_glyph true (v % 16) ∷ acc) low more) k small fuel (cases_eq (v / 16) 0)
  where
    same : digit_glyph true (v % 16) ≡ hex_digit (v % 16)
    same = glyph_is (v % 16) (omega arith)

    onto : Bool → Text
    onto b = if b then digit_glyph true (v % 16) ∷ acc else digits_onto j 16 true (v / 16) (digit_glyph true (v % 16) ∷ acc)

    first : v / 16 ≡ 0 → digits_onto (suc j) 16 true v acc ≡ hex_digit (v % 16) ∷ acc
    first e = let yes : (v / 16 == 0) ≡ true = grind (arith, nat_tests, e) in ap onto yes ∙ ap (λ (c : ℕ). c ∷ acc) same

    by : ((n : ℕ) → v / 16 < top (suc n) → n < j → digits_onto j 16 true (v / 16) (digit_glyph true (v % 16) ∷ acc) ≡ without_zeros (hex_upper (suc n) (v / 16)) ++ digit_glyph true (v % 16) ∷ acc) → (k : ℕ) → v < top (suc k) → k < suc j → (v / 16 ≡ 0) ⊎ (v / 16 ≡ 0 → ⊥) → digits_onto (suc j) 16 true v acc ≡ without_zeros (hex_upper (suc k) v) ++ acc
    by rest zero low more (inl e) = first e ∙ sym (ap (λ (t : Text). without_zeros t ++ acc) (one v))
    by rest zero low more (inr off) = let bound : v < 16 * 1 = low in let none : v / 16 ≡ 0 = omega (arith, bound) in absurd (off none)
    by rest (suc k) low more (inl e) =
        let split = step (suc k) v ∙ ap (λ (q : ℕ). hex_upper (suc k) q ++ hex_digit (v % 16) ∷ []) e in
        first e ∙ sym (ap (λ (t : Text). without_zeros t ++ acc) split ∙ ap (λ (t : Text). t ++ acc) (zeros_gone (suc k) (hex_digit (v % 16))))
    by rest (suc k) low more (inr off) =
        let bound : v < 16 * top (suc k) = low in
        let no : (v / 16 == 0) ≡ false = grind (arith, nat_tests, off) in
        let prefix = hex_upper (suc k) (v / 16) in
        let value = hex_value (suc k) (v / 16) (omega (arith, bound)) in
        let some : 0 < v / 16 = omega (arith, off) in
        let next = rest k (omega (arith, bound)) (omega (arith, more)) in
        let keeps = kept prefix (hex_digit (v % 16) ∷ []) (subst (λ (n : ℕ). 0 < n) (sym value) some) in
        ap onto no ∙ next ∙ ap (λ (c : ℕ). without_zeros prefix ++ c ∷ acc) same
        ∙ sym (ap (λ (t : Text). without_zeros t ++ acc) (step (suc k) v) ∙ ap (λ (t : Text). t ++ acc) keeps ∙ append_assoc (without_zeros prefix) (hex_digit (v % 16) ∷ []) acc)

pub written : (v : ℕ) → v < 2 ^ 32 → digits 16 true v ≡ half v
unfolding digits
written v h = let e : top 8 ≡ 4294967296 = refl in hex_onto 7 64 v [] (omega (arith, e)) (omega arith) ∙ append-nil (half v)
