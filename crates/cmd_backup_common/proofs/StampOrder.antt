-- The digits of a later second come later in byte order.
use Rattle.std.proofs.Common.{◌≡◌, ◌⊎◌, inl, inr, ⊎_elim, ℕ, zero, suc, ◌+◌, ◌*◌, ◌-◌, ◌/◌, ◌%◌, ◌<◌, ◌≤◌, Bool, true, false, List, [], ◌∷◌, ◌++◌, None, refl, sym, ap, ◌∙◌, subst, arith}
use Rattle.std.specs.Prelude.{if◌then◌else◌, nat_lt}
use Rattle.std.specs.Ordering.{nat_cmp, ordering_then, match_ordering}
use Rattle.std.specs.Cmp.{nat_cmp_is}
use Rattle.std.specs.Cmp.Lexicographic.{slice_cmp}
use Rattle.std.specs.declared.cmp.Ordering.{Ordering}
use Rattle.std.specs.declared.cmp.Ordering.TheVariants.{Less, Equal}
use Rattle.base_devices.specs.Order.{is_before}
use Rattle.base_devices.specs.States.{last_second}
use Rattle.base_model.specs.Dates.{Date, two, date_digits, clock_digits, date_after, next_day, days_in_month, stamp}
use Rattle.base_model.specs.Names.{label_text, later_text}
use Rattle.base_model.specs.declared.labels.Label.{Label}
use Rattle.repo_names.proofs.StampTexts.{HasDigits, digits_of_day, stamp_parts}

-- ---- bytes

pub apart : (a b : ℕ) → a ≤ b → (a < b) ⊎ (a ≡ b)
apart zero zero h = inr refl
apart zero (suc b) h = inl (omega arith)
apart (suc a) zero h = absurd (omega (arith, h))
apart (suc a) (suc b) h = ⊎_elim (λ (x : a < b). inl (omega (arith, x))) (λ (x : a ≡ b). inr (ap suc x)) (apart a b (omega (arith, h)))

-- the first byte decides where it differs, and else those after it
first_before : (x y : ℕ) (r s : List ℕ) → x < y → is_before (x ∷ r) (y ∷ s) ≡ true
first_before x y r s h = ap (λ (o : Ordering). match_ordering (ordering_then o (slice_cmp nat_cmp r s)) true false false) (sym (nat_cmp_is x y Less h))

pub rest_before : (x y : ℕ) (r s : List ℕ) → x ≡ y → is_before r s ≡ true → is_before (x ∷ r) (y ∷ s) ≡ true
rest_before x y r s e h = ap (λ (o : Ordering). match_ordering (ordering_then o (slice_cmp nat_cmp r s)) true false false) (sym (nat_cmp_is x y Equal e)) ∙ h

two_before : (a b : ℕ) (r s : List ℕ) → a < b → is_before (two a ++ r) (two b ++ s) ≡ true
two_before a b r s h = ⊎_elim
    (λ (x : a / 10 < b / 10). first_before (48 + a / 10) (48 + b / 10) ((48 + a % 10) ∷ r) ((48 + b % 10) ∷ s) (omega (arith, x)))
    (λ (x : a / 10 ≡ b / 10). rest_before (48 + a / 10) (48 + b / 10) ((48 + a % 10) ∷ r) ((48 + b % 10) ∷ s) (omega (arith, x)) (first_before (48 + a % 10) (48 + b % 10) r s (omega (arith, x, h))))
    (apart (a / 10) (b / 10) (omega (arith, h)))

two_rest : (a b : ℕ) (r s : List ℕ) → a ≡ b → is_before r s ≡ true → is_before (two a ++ r) (two b ++ s) ≡ true
two_rest a b r s e h = subst (λ n. is_before (two a ++ r) (two n ++ s) ≡ true) e (rest_before (48 + a / 10) (48 + a / 10) ((48 + a % 10) ∷ r) ((48 + a % 10) ∷ s) refl (rest_before (48 + a % 10) (48 + a % 10) r s refl h))

-- ---- dates

-- one number for the whole date
abbrev rank : Date → ℕ
rank d = d.year * 10000 + d.month * 100 + d.day

rank_next : (d : Date) → HasDigits d → rank d < rank (next_day d)
rank_next d h = by (nat_lt d.day (days_in_month d.year d.month)) (nat_lt d.month 12)
  where
    by : (a b : Bool) → rank d < rank (if a then record { year = d.year; month = d.month; day = d.day + 1 } else if b then record { year = d.year; month = d.month + 1; day = 1 } else record { year = d.year + 1; month = 1; day = 1 })
    by true b = omega arith
    by false true = omega (arith, h.day)
    by false false = omega (arith, h.month, h.day)

rank_step : (days : ℕ) → days ≤ 2_932_896 → rank (date_after days) < rank (date_after (suc days))
unfolding date_after
rank_step days h = rank_next (date_after days) (digits_of_day days h)

rank_later : (days more : ℕ) → days + suc more ≤ 2_932_896 → rank (date_after days) < rank (date_after (days + suc more))
rank_later days zero h = subst (λ n. rank (date_after days) < rank (date_after n)) (let e : suc days ≡ days + 1 = omega arith in e) (rank_step days (omega (arith, h)))
rank_later days (suc more) h =
    let before = rank_later days more (omega (arith, h)) in
    let step = rank_step (days + suc more) (omega (arith, h)) in
    subst (λ n. rank (date_after days) < rank (date_after n)) (let e : suc (days + suc more) ≡ days + suc (suc more) = omega arith in e) (omega (arith, before, step))

-- the year's first two digits, and its last two
year_before : (a b : ℕ) (r s : List ℕ) → a < b → is_before (two (a / 100) ++ (two (a % 100) ++ r)) (two (b / 100) ++ (two (b % 100) ++ s)) ≡ true
year_before a b r s h = ⊎_elim
    (λ (x : a / 100 < b / 100). two_before (a / 100) (b / 100) (two (a % 100) ++ r) (two (b % 100) ++ s) x)
    (λ (x : a / 100 ≡ b / 100). two_rest (a / 100) (b / 100) (two (a % 100) ++ r) (two (b % 100) ++ s) x (two_before (a % 100) (b % 100) r s (omega (arith, x, h))))
    (apart (a / 100) (b / 100) (omega (arith, h)))

year_rest : (a b : ℕ) (r s : List ℕ) → a ≡ b → is_before r s ≡ true → is_before (two (a / 100) ++ (two (a % 100) ++ r)) (two (b / 100) ++ (two (b % 100) ++ s)) ≡ true
year_rest a b r s e h = two_rest (a / 100) (b / 100) (two (a % 100) ++ r) (two (b % 100) ++ s) (ap (λ n. n / 100) e) (two_rest (a % 100) (b % 100) r s (ap (λ n. n % 100) e) h)

date_before : (d e : Date) (r s : List ℕ) → HasDigits d → HasDigits e → rank d < rank e → is_before (date_digits d ++ r) (date_digits e ++ s) ≡ true
date_before d e r s h g less = ⊎_elim
    (λ (x : d.year < e.year). year_before d.year e.year (two d.month ++ (two d.day ++ r)) (two e.month ++ (two e.day ++ s)) x)
    (λ (x : d.year ≡ e.year). year_rest d.year e.year (two d.month ++ (two d.day ++ r)) (two e.month ++ (two e.day ++ s)) x (⊎_elim
    (λ (y : d.month < e.month). two_before d.month e.month (two d.day ++ r) (two e.day ++ s) y)
    (λ (y : d.month ≡ e.month). two_rest d.month e.month (two d.day ++ r) (two e.day ++ s) y (two_before d.day e.day r s (omega (arith, x, y, less))))
    (apart d.month e.month (omega (arith, x, less, h.day, g.day)))))
    (apart d.year e.year (omega (arith, less, h.day, g.day, h.month, g.month)))

-- ---- seconds

clock_before : (a b : ℕ) (r s : List ℕ) → a < b → is_before (clock_digits a ++ r) (clock_digits b ++ s) ≡ true
clock_before a b r s h = ⊎_elim
    (λ (x : a / 3600 < b / 3600). two_before (a / 3600) (b / 3600) (two (a % 3600 / 60) ++ (two (a % 60) ++ r)) (two (b % 3600 / 60) ++ (two (b % 60) ++ s)) x)
    (λ (x : a / 3600 ≡ b / 3600). two_rest (a / 3600) (b / 3600) (two (a % 3600 / 60) ++ (two (a % 60) ++ r)) (two (b % 3600 / 60) ++ (two (b % 60) ++ s)) x (⊎_elim
    (λ (y : a % 3600 / 60 < b % 3600 / 60). two_before (a % 3600 / 60) (b % 3600 / 60) (two (a % 60) ++ r) (two (b % 60) ++ s) y)
    (λ (y : a % 3600 / 60 ≡ b % 3600 / 60). two_rest (a % 3600 / 60) (b % 3600 / 60) (two (a % 60) ++ r) (two (b % 60) ++ s) y (two_before (a % 60) (b % 60) r s (omega (arith, x, y, h))))
    (apart (a % 3600 / 60) (b % 3600 / 60) (omega (arith, x, h)))))
    (apart (a / 3600) (b / 3600) (omega (arith, h)))

date_rest : (d e : Date) (x y : List ℕ) → d ≡ e → is_before x y ≡ true → is_before (date_digits d ++ x) (date_digits e ++ y) ≡ true
date_rest d e x y same b = subst (λ z. is_before (date_digits d ++ x) (date_digits z ++ y) ≡ true) same
    (year_rest d.year d.year (two d.month ++ (two d.day ++ x)) (two d.month ++ (two d.day ++ y)) refl (two_rest d.month d.month (two d.day ++ x) (two d.day ++ y) refl (two_rest d.day d.day x y refl b)))

-- a later second's digits come later, whatever is after them
pub stamp_before : (t u : ℕ) (r s : List ℕ) → t < u → u ≤ last_second → is_before (stamp t ++ r) (stamp u ++ s) ≡ true
stamp_before t u r s h last = subst (λ x. is_before x (stamp u ++ s) ≡ true) (sym (stamp_parts t r)) (subst (λ y. is_before (date_digits (date_after (t / 86400)) ++ (45 ∷ (clock_digits (t % 86400) ++ r))) y ≡ true) (sym (stamp_parts u s)) parts)
  where
    old : HasDigits (date_after (t / 86400))
    old = digits_of_day (t / 86400) (omega (arith, h, last))

    new : HasDigits (date_after (u / 86400))
    new = digits_of_day (u / 86400) (omega (arith, last))

    parts : is_before (date_digits (date_after (t / 86400)) ++ (45 ∷ (clock_digits (t % 86400) ++ r))) (date_digits (date_after (u / 86400)) ++ (45 ∷ (clock_digits (u % 86400) ++ s))) ≡ true
    parts = ⊎_elim
        (λ (x : t / 86400 < u / 86400). date_before (date_after (t / 86400)) (date_after (u / 86400)) (45 ∷ (clock_digits (t % 86400) ++ r)) (45 ∷ (clock_digits (u % 86400) ++ s)) old new
        (subst (λ n. rank (date_after (t / 86400)) < rank (date_after n)) (let e : t / 86400 + suc (u / 86400 - t / 86400 - 1) ≡ u / 86400 = omega (arith, x) in e)
        (rank_later (t / 86400) (u / 86400 - t / 86400 - 1) (omega (arith, x, last)))))
        (λ (x : t / 86400 ≡ u / 86400). date_rest (date_after (t / 86400)) (date_after (u / 86400)) (45 ∷ (clock_digits (t % 86400) ++ r)) (45 ∷ (clock_digits (u % 86400) ++ s)) (ap date_after x) (rest_before 45 45 (clock_digits (t % 86400) ++ r) (clock_digits (u % 86400) ++ s) refl (clock_before (t % 86400) (u % 86400) r s (omega (arith, x, h)))))
        (apart (t / 86400) (u / 86400) (omega (arith, h)))

-- the label of a full backup of a later second comes after a label whose full backup is of an earlier one
pub label_before : (l : Label) (t : ℕ) → l.full < t → t ≤ last_second → is_before (label_text l) (label_text (record { full = t; later = None })) ≡ true
label_before l t h last = stamp_before l.full t (70 ∷ later_text l.later) (70 ∷ []) h last
