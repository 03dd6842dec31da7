-- What a reader takes from the prefix of what is left, and what can be read so again.
use Rattle.std.proofs.Common.{◌≡◌, ℕ, ◌+◌, ◌-◌, ◌^◌, ◌<◌, ◌≤◌, Bool, true, false, [], ◌∷◌, ◌++◌, length, get_or, take, drop, Option, Some, None, Result, Ok, Err, refl, sym, ap, subst, ◌∙◌, append_assoc, arith, inl, inr}
use Rattle.std.specs.Prelude.{nat_lt, nat_le, if◌then◌else◌, slice_index}
use Rattle.std.specs.Int.{Width, w16, w32, w64, byte_len, from_be_bytes, to_be_bytes}
use Rattle.std.proofs.lemmas.Bool.{cases_lt}
use Rattle.std.proofs.lemmas.Bool.Decides.{nat_tests}
use Rattle.std.proofs.lemmas.List.{take_at, drop_at, take-append-drop, length-append, length-take, get_or-drop, get_or-take, get_or_past}
use Rattle.std.proofs.lemmas.Nat.{be_bytes_2, be_bytes_4, be_bytes_8, from_be_bytes-to_be_bytes_2, from_be_bytes-to_be_bytes_4, from_be_bytes-to_be_bytes_8}
use Rattle.base_model.specs.Text.{Text}
use Rattle.worker_protocol.specs.declared.frames.fault.FrameFault.{FrameFault}
use Rattle.worker_protocol.specs.declared.frames.fault.FrameFault.TheVariants.{Short, Form}
use Rattle.worker_protocol.specs.Frames.{short_text}
use Rattle.worker_protocol.specs.Reading.{◌>>=◌, Rest, field_at, number_at, chosen, letter_at, text_at}

abbrev pub IsBytes : Text → Type 0
IsBytes bytes = (i : ℕ) → get_or bytes i 0 < 256

pub IsBytes-drop : (n : ℕ) (bytes : Text) → IsBytes bytes → IsBytes (drop n bytes)
IsBytes-drop n bytes h i = rw get_or-drop (h (n + i))

pub IsBytes-take : (n : ℕ) (bytes : Text) → IsBytes bytes → IsBytes (take n bytes)
IsBytes-take n bytes h i =
    elim (cases_lt i n) [
      | inl lt ↦ rw (get_or-take n bytes i 0 lt) (h i)
      | inr le ↦ rw (get_or_past (take n bytes) i 0 (omega (arith, length-take n bytes))) (omega arith)
    ]

-- the value of a step that did not fail
pub bind_ok : {A B : Type 0} (r : Result A FrameFault) (f : A → Result B FrameFault) (y : B) → (r >>= f) ≡ Ok y → (x : A) × (r ≡ Ok x) × (f x ≡ Ok y)
bind_ok (Ok x) f y e = (x, refl, e)
bind_ok (Err d) f y e = absurd cc

-- a test that did not fail
pub test_ok : {A : Type 0} (b : Bool) (d : FrameFault) (x y : A) → (if b then Ok x else Err d) ≡ Ok y → (b ≡ true) × (x ≡ y)
test_ok true d x y e = (refl, cc)
test_ok false d x y e = absurd cc

abbrev pub done : {A : Type 0} → A → Result A FrameFault
done x = Ok x

pub ok_is : {A : Type 0} (x y : A) → done x ≡ done y → x ≡ y
ok_is x y e = cc

-- this text was taken, by its bytes and by the length of the body
pub record Takes (before : Rest) (text : Text) (after : Rest) : Type 0 where
  pub parts : before.bytes ≡ text ++ after.bytes
  pub left : before.left ≡ length text + after.left

pub takes_then : (a b c : Rest) (x y : Text) → Takes a x b → Takes b y c → Takes a (x ++ y) c
takes_then a b c x y p q = record { parts = p.parts ∙ ap (λ (t : Text). x ++ t) q.parts ∙ sym (append_assoc x y c.bytes); left = omega (arith, p.left, q.left, length-append x y) }

pub takes_none : (a : Rest) → Takes a [] a
takes_none a = record { parts = refl; left = omega arith }

abbrev pub past : ℕ → Rest → Rest
past n r = record { left = r.left - n; bytes = drop n r.bytes }

-- what takes two texts takes the one and then the other
pub takes_apart : (a c : Rest) (x y : Text) → Takes a (x ++ y) c → Takes a x (past (length x) a) × Takes (past (length x) a) y c
takes_apart a c x y p =
    let whole : a.bytes ≡ x ++ (y ++ c.bytes) = p.parts ∙ append_assoc x y c.bytes in
    let back : drop (length x) a.bytes ≡ y ++ c.bytes = ap (drop (length x)) whole ∙ drop_at x (y ++ c.bytes) (length x) refl in
    (record { parts = whole ∙ ap (λ (t : Text). x ++ t) (sym back); left = omega (arith, p.left, length-append x y) }, record { parts = back; left = omega (arith, p.left, length-append x y) })

pub bytes_after : (a b : Rest) (x : Text) → Takes a x b → IsBytes a.bytes → IsBytes b.bytes
bytes_after a b x p h = subst IsBytes (ap (drop (length x)) p.parts ∙ drop_at x b.bytes (length x) refl) (IsBytes-drop (length x) a.bytes h)

bytes_taken : (a b : Rest) (x : Text) → Takes a x b → IsBytes a.bytes → IsBytes x
bytes_taken a b x p h = subst IsBytes (ap (take (length x)) p.parts ∙ take_at x b.bytes (length x) refl) (IsBytes-take (length x) a.bytes h)

-- ---- a field

field_ok : {A : Type 0} (b c d : Bool) (f : FrameFault) (x y : A) → (if b then (if c then Err Short else Ok x) else (if d then Err Short else Err f)) ≡ Ok y → (b ≡ true) × (c ≡ false) × (x ≡ y)
field_ok true true d f x y e = absurd cc
field_ok true false d f x y e = (refl, refl, cc)
field_ok false c true f x y e = absurd cc
field_ok false c false f x y e = absurd cc

pub field_takes : (size end : ℕ) (rest : Rest) (x : Text × Rest) → field_at size end rest ≡ Ok x → Takes rest x.0 x.1 × (length x.0 ≡ size)
field_takes size end rest x e =
    let g = field_ok (nat_le size rest.left) (nat_lt (length rest.bytes) size) (nat_lt (length rest.bytes) rest.left) (Form (end - rest.left)) (take size rest.bytes, past size rest) x e in
    let inside : size ≤ rest.left = grind (arith, nat_tests, g.0) in
    let there : size ≤ length rest.bytes = grind (arith, nat_tests, g.1) in
    let len : length (take size rest.bytes) ≡ size = omega (arith, length-take size rest.bytes) in
    let one : Takes rest (take size rest.bytes) (past size rest) = record { parts = sym (take-append-drop size rest.bytes); left = omega (arith, len) } in
    subst (λ (y : Text × Rest). Takes rest y.0 y.1 × (length y.0 ≡ size)) g.2 (one, len)

pub field_again : (size end : ℕ) (rest after : Rest) (text : Text) → Takes rest text after → length text ≡ size → field_at size end rest ≡ Ok (text, after)
field_again size end rest after text t len =
    let long : length rest.bytes ≡ length text + length after.bytes = ap length t.parts ∙ length-append text after.bytes in
    let inside : nat_le size rest.left ≡ true = grind (arith, nat_tests, t.left) in
    let there : nat_lt (length rest.bytes) size ≡ false = grind (arith, nat_tests, long) in
    let prefix : take size rest.bytes ≡ text = ap (take size) t.parts ∙ take_at text after.bytes size len in
    let back : drop size rest.bytes ≡ after.bytes = ap (drop size) t.parts ∙ drop_at text after.bytes size len in
    let left : rest.left - size ≡ after.left = omega (arith, t.left) in
    rw (inside, there, prefix, back, left) refl

-- ---- numbers

pub record IsWide (w : Width) (limit : ℕ) : Type 0 where
  pub len : (n : ℕ) → length (to_be_bytes w n) ≡ byte_len w
  pub back : (bytes : Text) → length bytes ≡ byte_len w → IsBytes bytes → to_be_bytes w (from_be_bytes w bytes) ≡ bytes
  pub again : (n : ℕ) → n < limit → from_be_bytes w (to_be_bytes w n) ≡ n
  pub below : (bytes : Text) → IsBytes bytes → from_be_bytes w bytes < limit

pub wide16 : IsWide w16 (2 ^ 16)
wide16 = record {
  len = λ n. refl;
  back = λ bytes len fits. be_bytes_2 bytes _ len fits refl;
  again = λ n lt. from_be_bytes-to_be_bytes_2 n lt;
  below = λ bytes fits. omega (arith, fits 0, fits 1);
}

pub wide32 : IsWide w32 (2 ^ 32)
wide32 = record {
  len = λ n. refl;
  back = λ bytes len fits. be_bytes_4 bytes _ len fits refl;
  again = λ n lt. from_be_bytes-to_be_bytes_4 n lt;
  below = λ bytes fits. omega (arith, fits 0, fits 1, fits 2, fits 3);
}

pub wide64 : IsWide w64 (2 ^ 64)
wide64 = record {
  len = λ n. refl;
  back = λ bytes len fits. be_bytes_8 bytes _ len fits refl;
  again = λ n lt. from_be_bytes-to_be_bytes_8 n lt;
  below = λ bytes fits. omega (arith, fits 0, fits 1, fits 2, fits 3, fits 4, fits 5, fits 6, fits 7);
}

pub number_takes : (w : Width) (limit : ℕ) (wide : IsWide w limit) (end : ℕ) (rest : Rest) (x : ℕ × Rest) → IsBytes rest.bytes → number_at w end rest ≡ Ok x → Takes rest (to_be_bytes w x.0) x.1 × (x.0 < limit)
unfolding number_at
number_takes w limit wide end rest x fits e =
    let b = bind_ok (field_at (byte_len w) end rest) (λ f. Ok (from_be_bytes w f.0, f.1)) x e in
    let f = b.0 in
    let t = field_takes (byte_len w) end rest f b.1 in
    let bytes : IsBytes f.0 = bytes_taken rest f.1 f.0 t.0 fits in
    let prefix : f.0 ≡ to_be_bytes w (from_be_bytes w f.0) = sym (wide.back f.0 t.1 bytes) in
    subst (λ (y : ℕ × Rest). Takes rest (to_be_bytes w y.0) y.1 × (y.0 < limit)) (ok_is (from_be_bytes w f.0, f.1) x b.2) (subst (λ (u : Text). Takes rest u f.1) prefix t.0, wide.below f.0 bytes)

pub number_again : (w : Width) (limit : ℕ) (wide : IsWide w limit) (end : ℕ) (rest after : Rest) (n : ℕ) → Takes rest (to_be_bytes w n) after → n < limit → number_at w end rest ≡ Ok (n, after)
unfolding number_at
number_again w limit wide end rest after n t lt = rw (field_again (byte_len w) end rest after (to_be_bytes w n) t (wide.len n), wide.again n lt) refl

-- ---- letters

chosen_ok : {X : Type 0} (at : ℕ) (after : Rest) (o : Option X) (y : X × Rest) → chosen at after o ≡ Ok y → (o ≡ Some y.0) × (after ≡ y.1)
chosen_ok {X} at after None y e = absurd cc
chosen_ok {X} at after (Some x) y e = let p = ok_is (x, after) y e in (ap (λ (q : X × Rest). Some q.0) p, ap (λ (q : X × Rest). q.1) p)

one_letter : (text : Text) → length text ≡ 1 → slice_index text 0 ∷ [] ≡ text
one_letter [] e = absurd cc
one_letter (c ∷ []) e = refl
one_letter (c ∷ d ∷ more) e = absurd (omega arith)

pub letter_takes : {X : Type 0} (value : ℕ → Option X) (letter : X → ℕ) → ((c : ℕ) (x : X) → value c ≡ Some x → letter x ≡ c)
    → (end : ℕ) (rest : Rest) (x : X × Rest) → letter_at value end rest ≡ Ok x → Takes rest (letter x.0 ∷ []) x.1
unfolding letter_at
letter_takes value letter same end rest x e =
    let b = bind_ok (field_at 1 end rest) (λ f. chosen (end - rest.left) f.1 (value (slice_index f.0 0))) x e in
    let f = b.0 in
    let t = field_takes 1 end rest f b.1 in
    let c = chosen_ok (end - rest.left) f.1 (value (slice_index f.0 0)) x b.2 in
    let text : f.0 ≡ letter x.0 ∷ [] = sym (one_letter f.0 t.1) ∙ ap (λ (n : ℕ). n ∷ []) (sym (same (slice_index f.0 0) x.0 c.0)) in
    subst (λ (r : Rest). Takes rest (letter x.0 ∷ []) r) c.1 (subst (λ (u : Text). Takes rest u f.1) text t.0)

pub letter_again : {X : Type 0} (value : ℕ → Option X) (letter : X → ℕ) → ((x : X) → value (letter x) ≡ Some x)
    → (end : ℕ) (rest after : Rest) (x : X) → Takes rest (letter x ∷ []) after → letter_at value end rest ≡ Ok (x, after)
unfolding letter_at
letter_again value letter same end rest after x t = rw (field_again 1 end rest after (letter x ∷ []) t refl, same x) refl

-- ---- texts

pub text_takes : (good : Text → Bool) (end : ℕ) (rest : Rest) (x : Text × Rest) → IsBytes rest.bytes → text_at good end rest ≡ Ok x → Takes rest (short_text x.0) x.1 × (good x.0 ≡ true) × (length x.0 < 2 ^ 16)
unfolding text_at
text_takes good end rest x fits e =
    let a = bind_ok (number_at w16 end rest) (λ n. field_at n.0 end n.1 >>= λ text. if good text.0 then Ok text else Err (Form (end - n.1.left))) x e in
    let n = a.0 in
    let b = bind_ok (field_at n.0 end n.1) (λ text. if good text.0 then Ok text else Err (Form (end - n.1.left))) x a.2 in
    let text = b.0 in
    let g = test_ok (good text.0) (Form (end - n.1.left)) text x b.2 in
    let first = number_takes w16 (2 ^ 16) wide16 end rest n fits a.1 in
    let second = field_takes n.0 end n.1 text b.1 in
    let both = takes_then rest n.1 text.1 (to_be_bytes w16 n.0) text.0 first.0 second.0 in
    let whole : Takes rest (short_text text.0) text.1 = subst (λ (k : ℕ). Takes rest (to_be_bytes w16 k ++ text.0) text.1) (sym second.1) both in
    subst (λ (y : Text × Rest). Takes rest (short_text y.0) y.1 × (good y.0 ≡ true) × (length y.0 < 2 ^ 16)) g.1 (whole, g.0, omega (arith, first.1, second.1))

pub text_again : (good : Text → Bool) (end : ℕ) (rest after : Rest) (text : Text) → Takes rest (short_text text) after → good text ≡ true → length text < 2 ^ 16 → text_at good end rest ≡ Ok (text, after)
unfolding text_at
text_again good end rest after text t is_good short =
    let p = takes_apart rest after (to_be_bytes w16 (length text)) text t in
    let mid = past (length (to_be_bytes w16 (length text))) rest in
    rw (number_again w16 (2 ^ 16) wide16 end rest mid (length text) p.0 short, field_again (length text) end mid after text p.1 refl, is_good) refl
