-- The digits of a second, `YYYYMMDD-HHMMSS`, in UTC by the Gregorian calendar.
use Rattle.std.specs.Prelude.{ℕ, zero, suc, ◌+◌, ◌/◌, ◌%◌, ◌==◌, ◌&&◌, ◌||◌, not, nat_lt, Bool, [], ◌∷◌, ◌++◌, if◌then◌else◌}
use Rattle.base_model.specs.Text.{Text}

-- a day of the calendar
pub record Date : Type 0 where
  pub year : ℕ
  pub month : ℕ
  pub day : ℕ

-- every fourth year, but of the centuries only every fourth
abbrev pub is_leap_year : ℕ → Bool
is_leap_year y = (y % 4 == 0) && (not (y % 100 == 0) || (y % 400 == 0))

abbrev pub days_in_month : ℕ → ℕ → ℕ
days_in_month y m =
    if m == 2 then (if is_leap_year y then 29 else 28)
    else (if (m == 4) || (m == 6) || (m == 9) || (m == 11) then 30 else 31)

abbrev pub next_day : Date → Date
next_day d =
    if nat_lt d.day (days_in_month d.year d.month) then record { year = d.year; month = d.month; day = d.day + 1 }
    else if nat_lt d.month 12 then record { year = d.year; month = d.month + 1; day = 1 }
    else record { year = d.year + 1; month = 1; day = 1 }

-- the date this many days after 1 January 1970
unfoldable pub date_after : ℕ → Date
date_after zero = record { year = 1970; month = 1; day = 1 }
date_after (suc days) = next_day (date_after days)

-- two digits
abbrev pub two : ℕ → Text
two n = (48 + n / 10) ∷ (48 + n % 10) ∷ []

abbrev pub date_digits : Date → Text
date_digits d = two (d.year / 100) ++ two (d.year % 100) ++ two d.month ++ two d.day

-- the time of a day, by its second
abbrev pub clock_digits : ℕ → Text
clock_digits s = two (s / 3600) ++ two (s % 3600 / 60) ++ two (s % 60)

-- the digits of a second, counted from 1970 on
unfoldable pub stamp : ℕ → Text
stamp t = date_digits (date_after (t / 86400)) ++ 45 ∷ clock_digits (t % 86400)
