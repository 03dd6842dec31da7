-- The year, month and day of a date of the calendar, from 1970 on, and their digits.
use Rattle.std.specs.Prelude.{ℕ, ◌/◌, ◌%◌, ◌++◌, unsigned_abs}
use Rattle.jiff_core.specs.declared.civil.date.Date as calendar
use Rattle.base_model.specs.Text.{Text}
use Rattle.base_model.specs.Dates.{Date, two, date_digits}

-- what a day of the library's calendar represents
abbrev pub parts_of : calendar.Date → Date
parts_of d = record { year = unsigned_abs d.year; month = d.month; day = d.day }

-- the four digits of a year, before these bytes
abbrev pub year_before : ℕ → Text → Text
year_before year rest = two (year / 100) ++ two (year % 100) ++ rest

-- the digits of a day
abbrev pub day_digits : calendar.Date → Text
day_digits d = date_digits (parts_of d)
