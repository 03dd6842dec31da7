-- The order of names by their bytes.
use Rattle.std.proofs.Common.{Less, Equal, Greater, ◌≡◌, ℕ, zero, suc, ◌+◌, ◌-◌, ◌/◌, ◌%◌, ◌<◌, ◌^◌, [], ◌∷◌, ◌++◌, length, inl, inr, refl, sym, ap, ap₂, ◌∙◌, arith, pow-suc, length-append}
use Rattle.std.specs.declared.cmp.Ordering.{Ordering}
use Rattle.std.specs.Ordering.{nat_cmp, ordering_then}
use Rattle.std.proofs.lemmas.Bool.{cases_lt}
use Rattle.std.proofs.lemmas.Bool.Decides.{nat_tests}
use Rattle.base_model.specs.declared.wal.Segment.{Segment}
use Rattle.base_model.specs.Text.{Text, text_cmp, hex_digit, hex_upper}
use Rattle.base_model.specs.Names.{segment_text}
use Rattle.repo_names.proofs.Digits.{length-hex_upper}

then_assoc : (p q r : Ordering) → ordering_then (ordering_then p q) r ≡ ordering_then p (ordering_then q r)
then_assoc Less q r = refl
then_assoc Equal q r = refl
then_assoc Greater q r = refl

then_equal : (p : Ordering) → ordering_then p Equal ≡ p
then_equal Less = refl
then_equal Equal = refl
then_equal Greater = refl

-- texts of one length in front decide
pub text_cmp-append : (a b xs ys : Text) → length a ≡ length b → text_cmp (a ++ xs) (b ++ ys) ≡ ordering_then (text_cmp a b) (text_cmp xs ys)
text_cmp-append [] [] xs ys long = refl
text_cmp-append [] (y ∷ b) xs ys long = absurd (omega arith)
text_cmp-append (x ∷ a) [] xs ys long = absurd (omega arith)
text_cmp-append (x ∷ a) (y ∷ b) xs ys long =
    ap (ordering_then (nat_cmp x y)) (text_cmp-append a b xs ys (omega arith)) ∙ sym (then_assoc (nat_cmp x y) (text_cmp a b) (text_cmp xs ys))

less : (x y : ℕ) → x < y → nat_cmp x y ≡ Less
less x y h = grind (arith, nat_tests)

equal : (x y : ℕ) → x ≡ y → nat_cmp x y ≡ Equal
equal x y h = grind (arith, nat_tests)

greater : (x y : ℕ) → y < x → nat_cmp x y ≡ Greater
greater x y h = grind (arith, nat_tests)

low_digit : (n : ℕ) → n < 10 → hex_digit n ≡ 48 + n
low_digit n h = grind (arith, nat_tests)

high_digit : (n k : ℕ) → n ≡ 10 + k → hex_digit n ≡ 65 + k
high_digit n k h = grind (arith, nat_tests)

-- a higher digit is a higher byte
digit_rises : (m n : ℕ) → m < n → n < 16 → hex_digit m < hex_digit n
digit_rises m n h small = elim (cases_lt m 10) [
  | inl m_low ↦ elim (cases_lt n 10) [
    | inl n_low ↦ omega (arith, low_digit m m_low, low_digit n n_low)
    | inr n_high ↦ omega (arith, low_digit m m_low, high_digit n (n - 10) (omega arith))
  ]
  | inr m_high ↦ omega (arith, high_digit m (m - 10) (omega arith), high_digit n (n - 10) (omega arith))
]

digit_cmp : (m n : ℕ) → m < 16 → n < 16 → nat_cmp (hex_digit m) (hex_digit n) ≡ nat_cmp m n
digit_cmp m n h g = elim (cases_lt m n) [
  | inl below ↦ less (hex_digit m) (hex_digit n) (digit_rises m n below g) ∙ sym (less m n below)
  | inr not_below ↦ elim (cases_lt n m) [
    | inl above ↦ greater (hex_digit m) (hex_digit n) (digit_rises n m above h) ∙ sym (greater m n above)
    | inr not_above ↦ let same : m ≡ n = omega arith in equal (hex_digit m) (hex_digit n) (ap hex_digit same) ∙ sym (equal m n same)
  ]
]

-- the last digit decides where those before are alike
number_cmp : (v w : ℕ) → ordering_then (nat_cmp (v / 16) (w / 16)) (nat_cmp (v % 16) (w % 16)) ≡ nat_cmp v w
number_cmp v w = elim (cases_lt (v / 16) (w / 16)) [
  | inl below ↦ rw (less (v / 16) (w / 16) below) (sym (less v w (omega arith)))
  | inr not_below ↦ elim (cases_lt (w / 16) (v / 16)) [
    | inl above ↦ rw (greater (v / 16) (w / 16) above) (sym (greater v w (omega arith)))
    | inr not_above ↦ rw (equal (v / 16) (w / 16) (omega arith)) (elim (cases_lt v w) [
      | inl less_last ↦ less (v % 16) (w % 16) (omega arith) ∙ sym (less v w less_last)
      | inr not_less ↦ elim (cases_lt w v) [
        | inl more_last ↦ greater (v % 16) (w % 16) (omega arith) ∙ sym (greater v w more_last)
        | inr not_more ↦ let same : v ≡ w = omega arith in equal (v % 16) (w % 16) (ap (λ n. n % 16) same) ∙ sym (equal v w same)
      ]
    ])
  ]
]

pub text_cmp-hex_upper : (n v w : ℕ) → v < 16 ^ n → w < 16 ^ n → text_cmp (hex_upper n v) (hex_upper n w) ≡ nat_cmp v w
unfolding hex_upper
text_cmp-hex_upper zero v w h g = sym (equal v w (omega arith))
text_cmp-hex_upper (suc n) v w h g =
    let v_small : v / 16 < 16 ^ n = omega (arith, pow-suc 16 n) in
    let w_small : w / 16 < 16 ^ n = omega (arith, pow-suc 16 n) in
    text_cmp-append (hex_upper n (v / 16)) (hex_upper n (w / 16)) (hex_digit (v % 16) ∷ []) (hex_digit (w % 16) ∷ []) (length-hex_upper n (v / 16) ∙ sym (length-hex_upper n (w / 16)))
    ∙ ap₂ ordering_then (text_cmp-hex_upper n (v / 16) (w / 16) v_small w_small) (then_equal (nat_cmp (hex_digit (v % 16)) (hex_digit (w % 16))) ∙ digit_cmp (v % 16) (w % 16) (omega arith) (omega arith))
    ∙ number_cmp v w

length-folder : (s : Segment) → length (hex_upper 8 s.timeline ++ hex_upper 8 s.log) ≡ 16
length-folder s = omega (arith, length-append (hex_upper 8 s.timeline) (hex_upper 8 s.log), length-hex_upper 8 s.timeline, length-hex_upper 8 s.log)

-- timelines decide, then logs, then segments
pub text_cmp-segment_text : (a b : Segment) → a.timeline < 2 ^ 32 → b.timeline < 2 ^ 32 → a.log < 2 ^ 32 → b.log < 2 ^ 32 → a.seg < 2 ^ 32 → b.seg < 2 ^ 32
    → text_cmp (segment_text a) (segment_text b) ≡ ordering_then (ordering_then (nat_cmp a.timeline b.timeline) (nat_cmp a.log b.log)) (nat_cmp a.seg b.seg)
text_cmp-segment_text a b h0 h1 h2 h3 h4 h5 =
    let prefix = text_cmp-append (hex_upper 8 a.timeline) (hex_upper 8 b.timeline) (hex_upper 8 a.log) (hex_upper 8 b.log) (length-hex_upper 8 a.timeline ∙ sym (length-hex_upper 8 b.timeline)) in
    text_cmp-append (hex_upper 8 a.timeline ++ hex_upper 8 a.log) (hex_upper 8 b.timeline ++ hex_upper 8 b.log) (hex_upper 8 a.seg) (hex_upper 8 b.seg) (length-folder a ∙ sym (length-folder b))
    ∙ ap₂ ordering_then (prefix ∙ ap₂ ordering_then (text_cmp-hex_upper 8 a.timeline b.timeline h0 h1) (text_cmp-hex_upper 8 a.log b.log h2 h3)) (text_cmp-hex_upper 8 a.seg b.seg h4 h5)
