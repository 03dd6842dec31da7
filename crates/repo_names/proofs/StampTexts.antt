-- The digits of a second state it, and where they end.
use Rattle.std.proofs.Common.{◌≡◌, ℕ, ◌+◌, ◌*◌, ◌/◌, ◌%◌, ◌<◌, ◌≤◌, List, ◌∷◌, ◌++◌, refl, sym, ap, ◌∙◌, subst, arith, ℤ, pos, negsuc, ◌≤ℤ◌, unsigned_abs}
use Rattle.jiff_core.specs.Calendar.{IsCivilDate, days_from_civil}
use Rattle.jiff_core.specs.declared.civil.date.Date as calendar
use Rattle.jiff_core.specs.Date.{epoch_day}
use Rattle.jiff_core.proofs.SignedLemmas.{signed_arith}
use Rattle.jiff_core.proofs.CalendarLemmas.{days_in_month_bounds}
use Rattle.jiff_core.proofs.DateLemmas.{civil}
use Rattle.base_devices.specs.States.{last_second}
use Rattle.base_model.specs.Dates.{Date, two, date_digits, clock_digits, date_after, stamp}
use Rattle.repo_names.specs.Calendar.{parts_of}
use Rattle.repo_names.proofs.Dates.{IsDated, number, number_of_day, in_calendar, IsDated-date_after}

pub same_two : (a b : ℕ) (r s : List ℕ) → a < 100 → b < 100 → two a ++ r ≡ two b ++ s → (a ≡ b) × (r ≡ s)
same_two a b r s h g e =
    let tens : 48 + a / 10 ≡ 48 + b / 10 = cc in
    let units : 48 + a % 10 ≡ 48 + b % 10 = cc in
    let rest : r ≡ s = cc in
    (omega (arith, tens, units), rest)

pub same_year : (a b : ℕ) (r s : List ℕ) → a < 10000 → b < 10000 → two (a / 100) ++ (two (a % 100) ++ r) ≡ two (b / 100) ++ (two (b % 100) ++ s) → (a ≡ b) × (r ≡ s)
same_year a b r s h g e =
    let century = same_two (a / 100) (b / 100) (two (a % 100) ++ r) (two (b % 100) ++ s) (omega arith) (omega arith) e in
    let year = same_two (a % 100) (b % 100) r s (omega arith) (omega arith) century.1 in
    (omega (arith, century.0, year.0), year.1)

-- ---- dates

-- the parts have their digits
pub record HasDigits (d : Date) : Type 0 where
  pub year : d.year < 10000
  pub month : d.month < 100
  pub day : d.day < 100

pub same_date : (d e : Date) (r s : List ℕ) → HasDigits d → HasDigits e → date_digits d ++ r ≡ date_digits e ++ s → (d ≡ e) × (r ≡ s)
same_date d e r s h g same =
    let year = same_year d.year e.year (two d.month ++ (two d.day ++ r)) (two e.month ++ (two e.day ++ s)) h.year g.year same in
    let month = same_two d.month e.month (two d.day ++ r) (two e.day ++ s) h.month g.month year.1 in
    let day = same_two d.day e.day r s h.day g.day month.1 in
    let parts : ◌≡◌ {A = Date} (record { year = d.year; month = d.month; day = d.day }) (record { year = e.year; month = e.month; day = e.day }) = rw (year.0, month.0, day.0) refl in
    (parts, day.1)

digits_dated : (d : Date) → IsDated d → HasDigits d
digits_dated d h =
    let long = days_in_month_bounds (pos d.year) d.month in
    record { year = omega (arith, h.last_year); month = omega (arith, h.last_month); day = omega (arith, h.last_day, long) }

pub digits_of_day : (days : ℕ) → days ≤ 2_932_896 → HasDigits (date_after days)
digits_of_day days h = digits_dated (date_after days) (IsDated-date_after days h)

whole_year : (z : ℤ) → pos 0 ≤ℤ z → z ≡ pos (unsigned_abs z)
whole_year (pos n) h = refl
whole_year (negsuc n) h = absurd (omega (arith, signed_arith, h))

-- the calendar's dates from the year 0 on
pub digits_civil : (d : calendar.Date) → pos 0 ≤ℤ d.year → HasDigits (parts_of d)
digits_civil d h =
    let c = civil d in
    let long = days_in_month_bounds d.year d.month in
    let whole = whole_year d.year h in
    record { year = omega (arith, signed_arith, c.0, whole); month = omega (arith, c.1.0); day = omega (arith, c.1.1, long) }

-- the calendar has each of its dates
pub no_date : (d : calendar.Date) → pos 0 ≤ℤ d.year → (year month day : ℕ) → year ≡ unsigned_abs d.year → month ≡ d.month → day ≡ d.day → ¬ IsCivilDate (pos year) month day → ⊥
no_date d h year month day y m e none =
    let from : d.year ≡ pos year = whole_year d.year h ∙ ap (λ (n : ℕ). pos n) (sym y) in
    none (subst (λ (z : ℤ). IsCivilDate z month day) from (subst (λ (k : ℕ). IsCivilDate d.year k day) (sym m) (subst (λ (k : ℕ). IsCivilDate d.year d.month k) (sym e) (civil d))))

-- the date this many days after 1970 began is one of the calendar
pub civil_of_day : (days : ℕ) → days ≤ 2_932_896 → (d : calendar.Date) × (pos 0 ≤ℤ d.year) × (parts_of d ≡ date_after days)
unfolding in_calendar
civil_of_day days h = let dated = IsDated-date_after days h in (in_calendar (date_after days) dated, omega (arith, signed_arith), refl)

-- a date of the calendar with the parts of that day is that day
pub day_of_parts : (days : ℕ) → days ≤ 2_932_896 → (d : calendar.Date) → pos 0 ≤ℤ d.year → parts_of d ≡ date_after days → epoch_day d ≡ pos days
day_of_parts days h d from same =
    let year = whole_year d.year from in
    let there : epoch_day d ≡ number (parts_of d) = ap (λ (y : ℤ). days_from_civil y d.month d.day) year in
    there ∙ ap number same ∙ number_of_day days h

pub same_day : (a b : ℕ) → a ≤ 2_932_896 → b ≤ 2_932_896 → date_after a ≡ date_after b → a ≡ b
same_day a b h g same = let e = sym (number_of_day a h) ∙ ap number same ∙ number_of_day b g in omega (arith, signed_arith, e)

-- ---- times of a day

pub same_clock : (a b : ℕ) (r s : List ℕ) → a < 86400 → b < 86400 → clock_digits a ++ r ≡ clock_digits b ++ s → (a ≡ b) × (r ≡ s)
same_clock a b r s h g e =
    let hour = same_two (a / 3600) (b / 3600) (two (a % 3600 / 60) ++ (two (a % 60) ++ r)) (two (b % 3600 / 60) ++ (two (b % 60) ++ s)) (omega arith) (omega arith) e in
    let minute = same_two (a % 3600 / 60) (b % 3600 / 60) (two (a % 60) ++ r) (two (b % 60) ++ s) (omega arith) (omega arith) hour.1 in
    let second = same_two (a % 60) (b % 60) r s (omega arith) (omega arith) minute.1 in
    (omega (arith, hour.0, minute.0, second.0), second.1)

-- ---- seconds

pub stamp_parts : (t : ℕ) (rest : List ℕ) → stamp t ++ rest ≡ date_digits (date_after (t / 86400)) ++ (45 ∷ (clock_digits (t % 86400) ++ rest))
unfolding stamp
stamp_parts t rest = refl

pub stamp_of : (days clock : ℕ) (rest : List ℕ) → clock < 86400 → date_digits (date_after days) ++ (45 ∷ (clock_digits clock ++ rest)) ≡ stamp (days * 86400 + clock) ++ rest
stamp_of days clock rest h =
    let day : days ≡ (days * 86400 + clock) / 86400 = omega arith in
    let time : clock ≡ (days * 86400 + clock) % 86400 = omega arith in
    ap (λ (n : ℕ). date_digits (date_after n) ++ (45 ∷ (clock_digits clock ++ rest))) day ∙ ap (λ (n : ℕ). date_digits (date_after ((days * 86400 + clock) / 86400)) ++ (45 ∷ (clock_digits n ++ rest))) time ∙ sym (stamp_parts (days * 86400 + clock) rest)

pub same_stamp : (t u : ℕ) (r s : List ℕ) → t ≤ last_second → u ≤ last_second → stamp t ++ r ≡ stamp u ++ s → (t ≡ u) × (r ≡ s)
same_stamp t u r s h g e =
    let following = λ (x : ℕ) (rest : List ℕ). clock_digits (x % 86400) ++ rest in
    let date = same_date (date_after (t / 86400)) (date_after (u / 86400)) (45 ∷ following t r) (45 ∷ following u s) (digits_of_day (t / 86400) (omega arith)) (digits_of_day (u / 86400) (omega arith)) (sym (stamp_parts t r) ∙ e ∙ stamp_parts u s) in
    let after : following t r ≡ following u s = cc (date.1) in
    let clock = same_clock (t % 86400) (u % 86400) r s (omega arith) (omega arith) after in
    let day = same_day (t / 86400) (u / 86400) (omega arith) (omega arith) date.0 in
    (omega (arith, day, clock.0), clock.1)
