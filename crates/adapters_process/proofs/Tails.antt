-- The last bytes of two texts.
use Rattle.std.proofs.Common.{ℕ, zero, suc, ◌≡◌, ◌<◌, ◌+◌, ◌-◌, List, ◌∷◌, [], ◌++◌, length, take, drop, ap, sym, refl, ◌∙◌, arith, length-append, length-drop, append_assoc}
use Rattle.std.proofs.Math.ListN.{get_or}
use Rattle.std.proofs.lemmas.Grind.{take_at_read}
use Rattle.std.proofs.Math.Seq.{drop-append_seam, drop-append-add, take-length}
use Rattle.base_devices.specs.Links.{last_five}
use Rattle.worker_protocol.proofs.Prefixes.{five_joins}

five_short : (t b : List ℕ) → length b - 5 ≡ 0 → last_five (t ++ last_five b) ≡ last_five (t ++ b)
five_short t b e = ap (λ k. last_five (t ++ drop k b)) e

five_long : (t b : List ℕ) (n : ℕ) → length b - 5 ≡ suc n → last_five (t ++ last_five b) ≡ last_five (t ++ b)
five_long t b n e =
    let m : length (last_five b) ≡ 5 = omega (arith, length-drop (length b - 5) b) in
    let k : length (t ++ last_five b) - 5 ≡ length t = omega (arith, m, length-append t (last_five b)) in
    let j : length t + (length b - 5) ≡ length (t ++ b) - 5 = omega (arith, length-append t b) in
    ap (λ i. drop i (t ++ last_five b)) k ∙ drop-append_seam t (last_five b) ∙ sym (drop-append-add t b (length b - 5)) ∙ ap (λ i. drop i (t ++ b)) j

five_by : (t b : List ℕ) (n : ℕ) → length b - 5 ≡ n → last_five (t ++ last_five b) ≡ last_five (t ++ b)
five_by t b zero e = five_short t b e
five_by t b (suc n) e = five_long t b n e

-- of a later text its last five bytes are enough
pub five_following : (t b : List ℕ) → last_five (t ++ last_five b) ≡ last_five (t ++ b)
five_following t b = five_by t b (length b - 5) refl

-- one byte more
pub five_next : (t done : List ℕ) (b : ℕ) → last_five (last_five (t ++ done) ++ b ∷ []) ≡ last_five (t ++ (done ++ b ∷ []))
five_next t done b = five_joins (t ++ done) (b ∷ []) ∙ ap last_five (append_assoc t done (b ∷ []))

-- a round of a loop that adds a list's items one by one
pub five_turn : (t xs now new : List ℕ) (i d : ℕ) → i < length xs → now ≡ last_five (t ++ take i xs) → new ≡ last_five (now ++ get_or xs i d ∷ []) → new ≡ last_five (t ++ take (i + 1) xs)
five_turn t xs now new i d h p q =
    q ∙ ap (λ l. last_five (l ++ get_or xs i d ∷ [])) p ∙ five_next t (take i xs) (get_or xs i d) ∙ ap (λ l. last_five (t ++ l)) (sym (take_at_read xs i d h).1)

-- its end, where the list has the last bytes of another
pub five_over : (t b xs now : List ℕ) (i : ℕ) → xs ≡ last_five b → i ≡ length xs → now ≡ last_five (t ++ take i xs) → now ≡ last_five (t ++ b)
five_over t b xs now i e k p =
    p ∙ ap (λ j. last_five (t ++ take j xs)) k ∙ ap (λ l. last_five (t ++ l)) (take-length xs) ∙ ap (λ l. last_five (t ++ l)) e ∙ five_following t b
