-- A moment as a person writes it, with its offset from UTC (PostgreSQL manual, "Date/Time Input").
use Rattle.std.specs.Prelude.{ℕ, ◌≡◌, ◌⊎◌, ◌+◌, ◌*◌, ◌/◌, ◌%◌, ◌≤◌, ◌==◌, nat_le, ◌&&◌, ◌||◌, Bool, true, false, [], ◌∷◌, ◌++◌, length, if◌then◌else◌}
use Rattle.std.specs.List.{list_all, list_any}
use Rattle.base_devices.specs.States.{last_second}
use Rattle.base_model.specs.Dates.{Date, two, stamp, date_after}
use Rattle.base_model.specs.Text.{Text}

-- a day, `YYYY-MM-DD`
abbrev pub written_date : Date → Text
written_date d = two (d.year / 100) ++ two (d.year % 100) ++ 45 ∷ two d.month ++ 45 ∷ two d.day

-- the time of a day by its second, `HH:MM:SS`
abbrev pub written_clock : ℕ → Text
written_clock s = two (s / 3600) ++ 58 ∷ two (s % 3600 / 60) ++ 58 ∷ two (s % 60)

-- a second, counted from 1970 on
abbrev pub written : ℕ → Text
written t = written_date (date_after (t / 86400)) ++ 32 ∷ written_clock (t % 86400)

-- the text begins with this second, and this follows
abbrev pub Begins : Text → ℕ → Text → Type 0
Begins text t rest = text ≡ written t ++ rest

-- the text of the label of a full backup of this second
abbrev pub full_label : ℕ → Text
full_label t = stamp t ++ 70 ∷ []

-- whichever second the text begins with, its label's text is this one
abbrev pub IsLabelWithin : Text → Text → Type 0
IsLabelWithin text label = (t : ℕ) (rest : Text) → Begins text t rest → label ≡ full_label t

-- a decimal digit
abbrev pub is_digit : ℕ → Bool
is_digit c = nat_le 48 c && nat_le c 57

-- a plus or a minus
abbrev pub is_sign : ℕ → Bool
is_sign c = (c == 43) || (c == 45)

-- no sign is in the text
abbrev pub HasNoSign : Text → Type 0
HasNoSign text = list_any is_sign text ≡ false

-- a sign is first
abbrev pub begins_with_sign : Text → Bool
begins_with_sign [] = false
begins_with_sign (c ∷ cs) = is_sign c

-- a part of a second: none, or a point and one to six digits
abbrev pub IsPart : Text → Type 0
IsPart part = (part ≡ []) ⊎ ((digits : Text) × (part ≡ 46 ∷ digits) × (1 ≤ length digits)
    × (length digits ≤ 6) × (list_all is_digit digits ≡ true))

-- how far the written clock is from UTC: east of it or west, `+HH` or `+HH:MM`
pub record Offset : Type 0 where
  pub east : Bool
  pub hours : ℕ
  pub minutes : ℕ
  pub short : Bool

-- the sign of an offset: a plus where it is east
abbrev pub sign_of : Bool → ℕ
sign_of east = if east then 43 else 45

-- its text
abbrev pub offset_text : Offset → Text
offset_text o = sign_of o.east ∷ two o.hours ++ (if o.short then [] else 58 ∷ two o.minutes)

-- at most 15 hours and 59 minutes, and no minutes where none are written
abbrev pub IsOffset : Offset → Type 0
IsOffset o = (o.hours ≤ 15) × (o.minutes ≤ 59) × (o.short ≡ true → o.minutes ≡ 0)

-- how many seconds the offset is east of UTC
abbrev pub seconds_east : Offset → ℕ
seconds_east o = if o.east then o.hours * 3600 + o.minutes * 60 else 0

-- how many seconds it is west of UTC
abbrev pub seconds_west : Offset → ℕ
seconds_west o = if o.east then 0 else o.hours * 3600 + o.minutes * 60

-- this is the second in UTC of a clock that is so far from it
abbrev pub IsSecondOf : ℕ → Offset → ℕ → Type 0
IsSecondOf clock offset second = second + seconds_east offset ≡ clock + seconds_west offset

-- the text is that of a moment, whose second in UTC, from 1970 on, is this one: a part of it is dropped
pub record IsMomentText (text : Text) (second : ℕ) : Type 0 where
  pub clock : ℕ
  pub within : clock ≤ last_second
  pub part : Text
  pub is_part : IsPart part
  pub offset : Offset
  pub is_offset : IsOffset offset
  pub is : text ≡ written clock ++ part ++ offset_text offset
  pub moment : IsSecondOf clock offset second
