-- The date this many days after 1970 began, by the calendar's day numbers.
use Rattle.std.proofs.Common.{◌≡◌, ℕ, zero, suc, ◌+◌, ◌<◌, ◌≤◌, Bool, true, false, nat_lt, if◌then◌else◌, inl, inr, refl, sym, ◌∙◌, arith, ℤ, pos, ◌+ℤ◌, ◌<ℤ◌, unsigned_abs}
use Rattle.std.proofs.lemmas.Bool.{cases_lt}
use Rattle.std.proofs.lemmas.Bool.Decides.{nat_tests}
use Rattle.jiff_core.specs.declared.civil.date.Date as calendar
use Rattle.jiff_core.specs.Calendar.{days_from_civil}
use Rattle.jiff_core.specs.Date.{epoch_day}
use Rattle.jiff_core.proofs.SignedLemmas.{signed_arith}
use Rattle.jiff_core.proofs.CalendarLemmas.{days_in_month_bounds}
use Rattle.jiff_core.proofs.DateLemmas.{epoch_day_injective, days_from_civil-day, days_from_civil-next_month, days_from_civil-next_year, days_from_civil-max}
use Rattle.base_model.specs.Dates.{Date, days_in_month, next_day, date_after}

-- the date lies in the calendar, from 1970 to 9999
pub record IsDated (d : Date) : Type 0 where
  pub first_year : 1970 ≤ d.year
  pub last_year : d.year ≤ 9999
  pub first_month : 1 ≤ d.month
  pub last_month : d.month ≤ 12
  pub first_day : 1 ≤ d.day
  pub last_day : d.day ≤ days_in_month d.year d.month

abbrev pub number : Date → ℤ
number d = days_from_civil (pos d.year) d.month d.day

-- the same date of the calendar
unfoldable pub in_calendar : (d : Date) → IsDated d → calendar.Date
in_calendar d h = record {
  year = pos d.year;
  month = d.month;
  day = d.day;
  year_in = (omega (arith, signed_arith), omega (arith, signed_arith));
  month_in = (h.first_month, h.last_month);
  day_in = (h.first_day, h.last_day);
}

-- the day after
record Follows (d e : Date) : Type 0 where
  dated : IsDated e
  next : number e ≡ number d +ℤ pos 1

next_in_month : (d : Date) → IsDated d → d.day < days_in_month d.year d.month → Follows d (record { year = d.year; month = d.month; day = d.day + 1 })
next_in_month d h less = record {
  dated = record { first_year = h.first_year; last_year = h.last_year; first_month = h.first_month; last_month = h.last_month; first_day = omega arith; last_day = omega arith };
  next = omega (arith, signed_arith, days_from_civil-day (pos d.year) d.month d.day (d.day + 1) h.first_day (omega arith));
}

next_month : (d : Date) → IsDated d → d.day ≡ days_in_month d.year d.month → d.month < 12 → Follows d (record { year = d.year; month = d.month + 1; day = 1 })
next_month d h last less = record {
  dated = record { first_year = h.first_year; last_year = h.last_year; first_month = omega arith; last_month = omega arith; first_day = omega arith; last_day = let bounds = days_in_month_bounds (pos d.year) (d.month + 1) in omega arith };
  next = days_from_civil-next_month (pos d.year) d.month d.day h.first_month last;
}

next_year : (d : Date) → IsDated d → d.month ≡ 12 → d.day ≡ 31 → d.year < 9999 → Follows d (record { year = d.year + 1; month = 1; day = 1 })
next_year d h month day less = record {
  dated = record { first_year = omega arith; last_year = omega arith; first_month = omega arith; last_month = omega arith; first_day = omega arith; last_day = omega arith };
  next = rw (month, day) (days_from_civil-next_year (pos d.year) (pos (d.year + 1)) (omega (arith, signed_arith)) (omega (arith, signed_arith)));
}

number_last : (d : Date) → d.year ≡ 9999 → d.month ≡ 12 → d.day ≡ 31 → number d ≡ pos 2_932_896
number_last d year month day = rw (year, month, day) days_from_civil-max

not_last : (d : Date) → IsDated d → d.month ≡ 12 → d.day ≡ 31 → number d <ℤ pos 2_932_896 → d.year < 9999
not_last d h month day before =
    elim (cases_lt d.year 9999) [
      | inl less ↦ less
      | inr most ↦ let year : d.year ≡ 9999 = omega (arith, h.last_year) in absurd (omega (arith, signed_arith, number_last d year month day))
    ]

follows : (d : Date) → IsDated d → number d <ℤ pos 2_932_896 → Follows d (next_day d)
follows d h before = by_place (nat_lt d.day (days_in_month d.year d.month)) refl (nat_lt d.month 12) refl
  where
    within : nat_lt d.day (days_in_month d.year d.month) ≡ true → d.day < days_in_month d.year d.month
    within e = grind (arith, nat_tests)

    last : nat_lt d.day (days_in_month d.year d.month) ≡ false → d.day ≡ days_in_month d.year d.month
    last e = let past : days_in_month d.year d.month ≤ d.day = grind (arith, nat_tests) in omega (arith, h.last_day)

    same_year : nat_lt d.month 12 ≡ true → d.month < 12
    same_year e = grind (arith, nat_tests)

    december : nat_lt d.month 12 ≡ false → d.month ≡ 12
    december e = let past : 12 ≤ d.month = grind (arith, nat_tests) in omega (arith, h.last_month)

    of_december : d.month ≡ 12 → d.day ≡ days_in_month d.year d.month → d.day ≡ 31
    of_december month day = day ∙ rw month refl

    by_place : (b : Bool) → nat_lt d.day (days_in_month d.year d.month) ≡ b → (c : Bool) → nat_lt d.month 12 ≡ c
        → Follows d (if b then record { year = d.year; month = d.month; day = d.day + 1 } else if c then record { year = d.year; month = d.month + 1; day = 1 } else record { year = d.year + 1; month = 1; day = 1 })
    by_place true e c f = next_in_month d h (within e)
    by_place false e true f = next_month d h (last e) (same_year f)
    by_place false e false f = let day = of_december (december f) (last e) in next_year d h (december f) day (not_last d h (december f) day before)

first_is : number (date_after 0) ≡ pos 0
unfolding date_after days_from_civil
first_is = omega (arith, signed_arith)

-- each day until the end of 9999 has its date
dated : (days : ℕ) → days ≤ 2_932_896 → IsDated (date_after days) × (number (date_after days) ≡ pos days)
unfolding date_after
dated zero h = (record { first_year = omega arith; last_year = omega arith; first_month = omega arith; last_month = omega arith; first_day = omega arith; last_day = omega arith }, first_is)
dated (suc days) h =
    let (now, is) = dated days (omega arith) in
    let more = follows (date_after days) now (omega (arith, signed_arith)) in
    (more.dated, more.next ∙ omega (arith, signed_arith))

pub date_of_day : (days : ℕ) → days ≤ 2_932_896 → (d : calendar.Date) → epoch_day d ≡ pos days → record { year = unsigned_abs d.year; month = d.month; day = d.day } ≡ date_after days
unfolding in_calendar
date_of_day days h d e =
    let (there, is) = dated days h in
    let same = epoch_day_injective d (in_calendar (date_after days) there) (e ∙ sym is) in
    rw (same.0, same.1, same.2) refl

pub IsDated-date_after : (days : ℕ) → days ≤ 2_932_896 → IsDated (date_after days)
IsDated-date_after days h = (dated days h).0

pub number_of_day : (days : ℕ) → days ≤ 2_932_896 → number (date_after days) ≡ pos days
number_of_day days h = (dated days h).1
