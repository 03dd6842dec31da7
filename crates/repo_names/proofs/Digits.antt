-- The digits of fields.
use Rattle.std.proofs.Common.{◌≡◌, ℕ, zero, suc, ◌+◌, ◌*◌, ◌/◌, ◌%◌, ◌<◌, ◌^◌, [], ◌∷◌, ◌++◌, length, get_or, take, drop, inl, inr, refl, sym, ap, ◌∙◌, arith, add-one, length-append, pow-suc}
use Rattle.std.proofs.Math.ListN.{get_or-append}
use Rattle.std.proofs.Math.Seq.{take-append_seam, drop-append_seam, get_or-append_seam}
use Rattle.std.proofs.lemmas.Bool.{cases_lt}
use Rattle.base_model.specs.Text.{Text, hex_digit, hex_upper}

pub length-hex_upper : (n v : ℕ) → length (hex_upper n v) ≡ n
unfolding hex_upper
length-hex_upper zero v = refl
length-hex_upper (suc n) v = omega (arith, length-append (hex_upper n (v / 16)) (hex_digit (v % 16) ∷ []), length-hex_upper n (v / 16))

pub hex_upper-push : (n v d : ℕ) → d < 16 → hex_upper (n + 1) (v * 16 + d) ≡ hex_upper n v ++ hex_digit d ∷ []
unfolding hex_upper
hex_upper-push n v d h =
    let high : (v * 16 + d) / 16 ≡ v = omega arith in
    let low : (v * 16 + d) % 16 ≡ d = omega arith in
    rw (add-one, high, low) refl

-- each byte is a digit
pub hex_upper-at : (n v i : ℕ) → i < n → (d : ℕ) × (d < 16) × (get_or (hex_upper n v) i 0 ≡ hex_digit d)
unfolding hex_upper
hex_upper-at zero v i h = absurd (omega arith)
hex_upper-at (suc n) v i h =
    let prefix = hex_upper n (v / 16) in
    let long = length-hex_upper n (v / 16) in
    elim (cases_lt i n) [
      | inl before ↦
          let w = hex_upper-at n (v / 16) i before in
          (w.0, w.1, get_or-append prefix (hex_digit (v % 16) ∷ []) 0 i (omega arith) ∙ w.2)
      | inr after ↦ (v % 16, omega arith, let last : i ≡ length prefix = omega arith in ap (λ k. get_or (prefix ++ hex_digit (v % 16) ∷ []) k 0) last ∙ get_or-append_seam prefix (hex_digit (v % 16)) [] 0)
    ]

-- texts of one length in front are the same
pub seam : (a b xs ys : Text) → length a ≡ length b → a ++ xs ≡ b ++ ys → (a ≡ b) × (xs ≡ ys)
seam a b xs ys long e = (
  sym (take-append_seam a xs) ∙ ap (take (length a)) e ∙ ap (λ n. take n (b ++ ys)) long ∙ take-append_seam b ys,
  sym (drop-append_seam a xs) ∙ ap (drop (length a)) e ∙ ap (λ n. drop n (b ++ ys)) long ∙ drop-append_seam b ys,
)

pub fits-push : (n v d : ℕ) → v < 16 ^ n → d < 16 → v * 16 + d < 16 ^ (n + 1)
fits-push n v d h small = rw (add-one, pow-suc) (omega arith)

pub take-hex_upper : (n : ℕ) (xs : Text) → take 8 (hex_upper 8 n ++ xs) ≡ hex_upper 8 n
take-hex_upper n xs = ap (λ k. take k (hex_upper 8 n ++ xs)) (sym (length-hex_upper 8 n)) ∙ take-append_seam (hex_upper 8 n) xs

-- eight digits in front are the same
pub same_prefix : (n m : ℕ) (xs ys : Text) → hex_upper 8 n ++ xs ≡ hex_upper 8 m ++ ys → (hex_upper 8 n ≡ hex_upper 8 m) × (xs ≡ ys)
same_prefix n m xs ys e = seam (hex_upper 8 n) (hex_upper 8 m) xs ys (length-hex_upper 8 n ∙ sym (length-hex_upper 8 m)) e
