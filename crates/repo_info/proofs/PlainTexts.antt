-- Numbers, labels and segments are of digits, capital letters, dashes and underlines.
use Rattle.std.proofs.Common.{◌≡◌, ℕ, zero, suc, ◌+◌, ◌-◌, ◌/◌, ◌%◌, ◌<◌, ◌≤◌, ◌^◌, decimal, true, nat_lt, List, [], ◌∷◌, ◌++◌, length, Option, Some, None, IsUtf8, refl, arith, inl, inr, length-append}
use Rattle.std.specs.List.{AllByRecursion, list_all}
use Rattle.std.specs.Str.Parse.{AllDigits}
use Rattle.std.proofs.lemmas.Bool.{cases_lt}
use Rattle.std.proofs.lemmas.Fmt.{decimal_is_IsNumeral}
use Rattle.std.proofs.lemmas.Str.Parse.{digit_from_value}
use Rattle.std.proofs.lemmas.Bool.Decides.{nat_tests}
use Rattle.std.specs.Prelude.{IfSome}
use Rattle.json.proofs.Printed.Utf8.{are_ascii, IsUtf8-are_ascii}
use Rattle.jiff_core.proofs.CalendarLemmas.{days_in_month_bounds}
use Rattle.std.specs.Prelude.{pos}
use Rattle.base_model.specs.declared.labels.BackupKind.{BackupKind}
use Rattle.base_model.specs.declared.labels.BackupKind.TheVariants.{Full, Diff, Incr}
use Rattle.base_model.specs.declared.labels.Later.{Later}
use Rattle.base_model.specs.declared.labels.Label.{Label}
use Rattle.base_model.specs.declared.wal.Segment.{Segment}
use Rattle.base_model.specs.Text.{hex_digit, hex_upper}
use Rattle.base_devices.specs.States.{last_second}
use Rattle.base_model.specs.Dates.{Date, two, date_digits, clock_digits, date_after, stamp}
use Rattle.base_model.specs.Names.{letter, later_text, label_text, segment_text}
use Rattle.base_model.specs.InfoText.{is_key_byte, begins_well, is_key}
use Rattle.base_model.specs.InfoFiles.{IsLabel}
use Rattle.repo_names.proofs.Dates.{IsDated, IsDated-date_after}

-- a byte from `-` on, before the small letters, that is no `=` and no `[`
record IsPlain (c : ℕ) : Type 0 where
  from : 45 ≤ c
  before : c < 96
  no_equals : c ≡ 61 → ⊥
  no_bracket : c ≡ 91 → ⊥

abbrev ArePlain : List ℕ → Type 0
ArePlain cs = AllByRecursion IsPlain cs

plain_append : (xs ys : List ℕ) → ArePlain xs → ArePlain ys → ArePlain (xs ++ ys)
plain_append [] ys h g = g
plain_append (x ∷ xs) ys h g = (h.0, plain_append xs ys h.1 g)

-- ---- what plain bytes are

key_byte : (c : ℕ) → IsPlain c → is_key_byte c ≡ true
key_byte c h = grind (arith, nat_tests, h.no_equals)

key_bytes : (cs : List ℕ) → ArePlain cs → list_all is_key_byte cs ≡ true
key_bytes [] h = refl
key_bytes (c ∷ cs) h = rw (key_byte c h.0) (key_bytes cs h.1)

begins_key : (c : ℕ) (cs : List ℕ) → IsPlain c → begins_well (c ∷ cs) ≡ true
begins_key c cs h = grind (arith, nat_tests, h.no_bracket)

plain_key : (cs : List ℕ) → 0 < length cs → ArePlain cs → is_key cs ≡ true
plain_key [] some h = absurd (omega arith)
plain_key (c ∷ cs) some h = rw (begins_key c cs h.0) (key_bytes (c ∷ cs) h)

ascii : (cs : List ℕ) → ArePlain cs → are_ascii cs ≡ true
ascii [] h = refl
ascii (c ∷ cs) h = let low : nat_lt c 128 ≡ true = grind (arith, nat_tests) in rw low (ascii cs h.1)

plain_utf8 : (cs : List ℕ) → ArePlain cs → IsUtf8 cs
plain_utf8 cs h = IsUtf8-are_ascii cs (ascii cs h)

-- ---- what is plain

digit : (n : ℕ) → n ≤ 9 → IsPlain (48 + n)
digit n h = record { from = omega arith; before = omega arith; no_equals = λ e. omega arith; no_bracket = λ e. omega arith }

digits_plain : (ds : List ℕ) → AllDigits 10 ds → ArePlain ds
digits_plain [] h = tt
digits_plain (c ∷ cs) h =
    let r = digit_from_value c h.0 in
    (record { from = omega arith; before = omega arith; no_equals = λ e. omega arith; no_bracket = λ e. omega arith }, digits_plain cs h.1)

pub is_key-decimal : (n : ℕ) → n < 2 ^ 64 → is_key (decimal n) ≡ true
is_key-decimal n h = let d = (decimal_is_IsNumeral n h).0 in plain_key (decimal n) d.0 (digits_plain (decimal n) d.1)

two_plain : (n : ℕ) → n < 100 → ArePlain (two n)
two_plain n h = (digit (n / 10) (omega arith), (digit (n % 10) (omega arith), tt))

date_plain : (d : Date) → IsDated d → ArePlain (date_digits d)
date_plain d h =
    let long = days_in_month_bounds (pos d.year) d.month in
    let day : d.day < 100 = omega (arith, h.last_day) in
    plain_append (two (d.year / 100) ++ two (d.year % 100) ++ two d.month) (two d.day)
    (plain_append (two (d.year / 100) ++ two (d.year % 100)) (two d.month)
    (plain_append (two (d.year / 100)) (two (d.year % 100)) (two_plain (d.year / 100) (omega (arith, h.last_year))) (two_plain (d.year % 100) (omega arith)))
    (two_plain d.month (omega (arith, h.last_month))))
    (two_plain d.day day)

clock_plain : (s : ℕ) → s < 86400 → ArePlain (clock_digits s)
clock_plain s h =
    plain_append (two (s / 3600) ++ two (s % 3600 / 60)) (two (s % 60))
    (plain_append (two (s / 3600)) (two (s % 3600 / 60)) (two_plain (s / 3600) (omega arith)) (two_plain (s % 3600 / 60) (omega arith)))
    (two_plain (s % 60) (omega arith))

of_capital : (c : ℕ) → 65 ≤ c → c ≤ 90 → IsPlain c
of_capital c h g = record { from = omega arith; before = omega arith; no_equals = λ e. omega arith; no_bracket = λ e. omega arith }

dash : IsPlain 45
dash = record { from = omega arith; before = omega arith; no_equals = λ e. omega arith; no_bracket = λ e. omega arith }

underline : IsPlain 95
underline = record { from = omega arith; before = omega arith; no_equals = λ e. omega arith; no_bracket = λ e. omega arith }

stamp_plain : (t : ℕ) → t ≤ last_second → ArePlain (stamp t)
unfolding stamp
stamp_plain t h =
    let date = date_after (t / 86400) in
    plain_append (date_digits date) (45 ∷ clock_digits (t % 86400)) (date_plain date (IsDated-date_after (t / 86400) (omega arith))) (dash, clock_plain (t % 86400) (omega arith))

letter_plain : (k : BackupKind) → IsPlain (letter k)
letter_plain Full = of_capital 70 (omega arith) (omega arith)
letter_plain Diff = of_capital 68 (omega arith) (omega arith)
letter_plain Incr = of_capital 73 (omega arith) (omega arith)

later_plain : (o : Option Later) → IfSome o (λ p. (p.time ≤ last_second) × (p.kind ≡ Full → ⊥)) → ArePlain (later_text o)
later_plain None h = tt
later_plain (Some l) h = (underline, plain_append (stamp l.time) (letter l.kind ∷ []) (stamp_plain l.time h.0) (letter_plain l.kind, tt))

label_plain : (l : Label) → IsLabel l → ArePlain (label_text l)
label_plain l h = plain_append (stamp l.full) (70 ∷ later_text l.later) (stamp_plain l.full h.full) (of_capital 70 (omega arith) (omega arith), later_plain l.later h.later)

pub label_some : (l : Label) → 0 < length (label_text l)
label_some l = omega (arith, length-append (stamp l.full) (70 ∷ later_text l.later))

pub is_key-label_text : (l : Label) → IsLabel l → is_key (label_text l) ≡ true
is_key-label_text l h = plain_key (label_text l) (label_some l) (label_plain l h)

pub IsUtf8-label_text : (l : Label) → IsLabel l → IsUtf8 (label_text l)
IsUtf8-label_text l h = plain_utf8 (label_text l) (label_plain l h)

hex_plain : (n : ℕ) → n < 16 → IsPlain (hex_digit n)
hex_plain n h = elim (cases_lt n 10) [
  | inl low ↦ let e : hex_digit n ≡ 48 + n = grind (arith, nat_tests) in rw e (digit n (omega arith))
  | inr high ↦ let e : hex_digit n ≡ 65 + (n - 10) = grind (arith, nat_tests) in rw e (of_capital (65 + (n - 10)) (omega arith) (omega arith))
]

field_plain : (n v : ℕ) → ArePlain (hex_upper n v)
unfolding hex_upper
field_plain zero v = tt
field_plain (suc n) v = plain_append (hex_upper n (v / 16)) (hex_digit (v % 16) ∷ []) (field_plain n (v / 16)) (hex_plain (v % 16) (omega arith), tt)

pub IsUtf8-segment_text : (s : Segment) → IsUtf8 (segment_text s)
IsUtf8-segment_text s =
    plain_utf8 (segment_text s)
    (plain_append (hex_upper 8 s.timeline ++ hex_upper 8 s.log) (hex_upper 8 s.seg) (plain_append (hex_upper 8 s.timeline) (hex_upper 8 s.log) (field_plain 8 s.timeline) (field_plain 8 s.log)) (field_plain 8 s.seg))
