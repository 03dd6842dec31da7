-- The texts of seconds and of offsets state them.
use Rattle.std.proofs.Common.{◌≡◌, ℕ, zero, suc, ◌≤◌, ◌+◌, Bool, true, false, [], ◌∷◌, ◌++◌, length, drop, get_or, if◌then◌else◌, refl, sym, ap, ◌∙◌, arith}
use Rattle.std.proofs.Math.Seq.{drop-cons}
use Rattle.base_devices.specs.States.{last_second}
use Rattle.base_model.specs.Dates.{two, stamp}
use Rattle.base_model.specs.Text.{Text}
use Rattle.repo_names.proofs.StampTexts.{same_two, stamp_parts, same_stamp}
use Rattle.restore_target.specs.Moments.{written, Offset, offset_text, IsOffset, seconds_east, seconds_west}

-- the bytes of a text from a place on, each by its index, and the rest
abbrev heads : ℕ → ℕ → Text → Text
heads zero i xs = drop i xs
heads (suc n) i xs = get_or xs i 0 ∷ heads n (suc i) xs

heads_are : (n i : ℕ) (xs : Text) → n + i ≤ length xs → drop i xs ≡ heads n i xs
heads_are zero i xs h = refl
heads_are (suc n) i xs h = drop-cons xs i 0 (omega arith) ∙ ap (λ l. get_or xs i 0 ∷ l) (heads_are n (suc i) xs (omega arith))

-- the digits of a written second, as a label has them
abbrev pub label_in : Text → Text
label_in xs = get_or xs 0 0 ∷ get_or xs 1 0 ∷ get_or xs 2 0 ∷ get_or xs 3 0 ∷ get_or xs 5 0 ∷ get_or xs 6 0
    ∷ get_or xs 8 0 ∷ get_or xs 9 0 ∷ 45 ∷ get_or xs 11 0 ∷ get_or xs 12 0 ∷ get_or xs 14 0 ∷ get_or xs 15 0
    ∷ get_or xs 17 0 ∷ get_or xs 18 0 ∷ 70 ∷ []

pub label_in-written : (t : ℕ) (rest : Text) → label_in (written t ++ rest) ≡ stamp t ++ 70 ∷ []
label_in-written t rest = sym (stamp_parts t (70 ∷ []))

pub same_written : (t u : ℕ) (r s : Text) → t ≤ last_second → u ≤ last_second → written t ++ r ≡ written u ++ s → (t ≡ u) × (r ≡ s)
same_written t u r s h g e =
    let label = sym (label_in-written t r) ∙ ap label_in e ∙ label_in-written u s in
    ((same_stamp t u (70 ∷ []) (70 ∷ []) h g label).0, ap (drop 19) e)

-- nineteen bytes with these between the digits
abbrev parted : ℕ → ℕ → ℕ → ℕ → ℕ → Text → Text
parted a b c d e xs = get_or xs 0 0 ∷ get_or xs 1 0 ∷ get_or xs 2 0 ∷ get_or xs 3 0 ∷ a ∷ get_or xs 5 0 ∷ get_or xs 6 0
    ∷ b ∷ get_or xs 8 0 ∷ get_or xs 9 0 ∷ c ∷ get_or xs 11 0 ∷ get_or xs 12 0 ∷ d ∷ get_or xs 14 0 ∷ get_or xs 15 0
    ∷ e ∷ get_or xs 17 0 ∷ get_or xs 18 0 ∷ drop 19 xs

-- a label's digits with what separates them in a written second
abbrev spread : Text → Text → Text
spread rest ds = get_or ds 0 0 ∷ get_or ds 1 0 ∷ get_or ds 2 0 ∷ get_or ds 3 0 ∷ 45 ∷ get_or ds 4 0 ∷ get_or ds 5 0
    ∷ 45 ∷ get_or ds 6 0 ∷ get_or ds 7 0 ∷ 32 ∷ get_or ds 9 0 ∷ get_or ds 10 0 ∷ 58 ∷ get_or ds 11 0 ∷ get_or ds 12 0
    ∷ 58 ∷ get_or ds 13 0 ∷ get_or ds 14 0 ∷ rest

marks : (xs : Text) (a b c d e : ℕ) → a ≡ 45 → b ≡ 45 → c ≡ 32 → d ≡ 58 → e ≡ 58 → parted a b c d e xs ≡ parted 45 45 32 58 58 xs
marks xs a b c d e p q r s t = rw (p, q, r, s, t) refl

pub is_written : (xs : Text) (t : ℕ) → 19 ≤ length xs → get_or xs 4 0 ≡ 45 → get_or xs 7 0 ≡ 45 → get_or xs 10 0 ≡ 32 → get_or xs 13 0 ≡ 58 → get_or xs 16 0 ≡ 58 → label_in xs ≡ stamp t ++ 70 ∷ [] → xs ≡ written t ++ drop 19 xs
is_written xs t h p q r s u e =
    heads_are 19 0 xs h
    ∙ marks xs (get_or xs 4 0) (get_or xs 7 0) (get_or xs 10 0) (get_or xs 13 0) (get_or xs 16 0) p q r s u
    ∙ ap (spread (drop 19 xs)) (e ∙ stamp_parts t (70 ∷ []))

same_east : (a b : Bool) → ◌≡◌ {A = ℕ} (if a then 43 else 45) (if b then 43 else 45) → a ≡ b
same_east true true e = refl
same_east true false e = absurd (omega (arith, e))
same_east false true e = absurd (omega (arith, e))
same_east false false e = refl

same_minutes : (a b : Bool) (m n : ℕ) → m ≤ 59 → n ≤ 59 → (a ≡ true → m ≡ 0) → (b ≡ true → n ≡ 0) → ◌≡◌ {A = Text} (if a then [] else 58 ∷ two m) (if b then [] else 58 ∷ two n) → m ≡ n
same_minutes true true m n h g zero_m zero_n e = zero_m refl ∙ sym (zero_n refl)
same_minutes true false m n h g zero_m zero_n e = cc e
same_minutes false true m n h g zero_m zero_n e = cc e
same_minutes false false m n h g zero_m zero_n e =
    let digits : two m ++ [] ≡ two n ++ [] = cc e in
    (same_two m n [] [] (omega arith) (omega arith) digits).0

abbrev minutes_text : Offset → Text
minutes_text o = if o.short then [] else 58 ∷ two o.minutes

pub same_offset : (o q : Offset) → IsOffset o → IsOffset q → offset_text o ≡ offset_text q → (seconds_east o ≡ seconds_east q) × (seconds_west o ≡ seconds_west q)
same_offset o q h g e =
    let sign : ◌≡◌ {A = ℕ} (if o.east then 43 else 45) (if q.east then 43 else 45) = cc e in
    let east = same_east o.east q.east sign in
    let following : two o.hours ++ minutes_text o ≡ two q.hours ++ minutes_text q = cc e in
    let hours = same_two o.hours q.hours (minutes_text o) (minutes_text q) (omega (arith, h.0)) (omega (arith, g.0)) following in
    let minutes = same_minutes o.short q.short o.minutes q.minutes h.1 g.1 h.2 g.2 hours.1 in
    (rw (east, hours.0, minutes) refl, rw (east, hours.0, minutes) refl)
