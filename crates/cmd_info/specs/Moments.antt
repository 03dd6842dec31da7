-- Seconds since 1970 as a reader sees them, `2024-01-02 03:04:05+00`.
use Rattle.std.specs.Prelude.{ℕ, ◌/◌, ◌%◌, ◌∷◌, ◌++◌, codes}
use Rattle.base_model.specs.Dates.{Date, two, date_after}
use Rattle.base_model.specs.Text.{Text}

-- `2024-01-02`
abbrev pub shown_date : Date → Text
shown_date d = two (d.year / 100) ++ two (d.year % 100) ++ 45 ∷ (two d.month ++ 45 ∷ two d.day)

-- `03:04:05`, the time of a day by its second
abbrev pub shown_clock : ℕ → Text
shown_clock s = two (s / 3600) ++ 58 ∷ (two (s % 3600 / 60) ++ 58 ∷ two (s % 60))

unfoldable pub moment : ℕ → Text
moment t = shown_date (date_after (t / 86400)) ++ 32 ∷ (shown_clock (t % 86400) ++ codes "+00")
