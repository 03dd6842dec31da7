-- A configuration: lines that open a section or give a key of it a value.
use Rattle.std.specs.Prelude.{ℕ, ◌+◌, ◌||◌, ◌==◌, Bool, List, [], ◌∷◌, ◌++◌, length, reverse, Option, Some, None, Result, Ok, Err, if◌then◌else◌}
use Rattle.std.specs.Option.{option_map_or}
use Rattle.std.specs.Str.{is_utf8}
use Rattle.base_model.specs.Text.{Text}
use Rattle.repo_ini.specs.Form.{pieces}
use Rattle.repo_ini.specs.Reading.{cut_at, name_in}

-- a key with its value: the section that it is in, and its line, counted from 1
pub record Setting : Type 0 where
  pub section : Text
  pub key : Text
  pub value : Text
  pub line : ℕ

-- ---- one line

-- a blank or a tab
abbrev pub is_blank : ℕ → Bool
is_blank b = (b == 32) || (b == 9)

abbrev pub trim_start : Text → Text
trim_start [] = []
trim_start (b ∷ bs) = if is_blank b then trim_start bs else b ∷ bs

abbrev pub trim_end : Text → Text
trim_end bs = reverse (trim_start (reverse bs))

abbrev pub trim : Text → Text
trim bs = trim_end (trim_start bs)

-- what a line says
pub data Row : Type 0 where
  blank : Row
  opens : (name : Text) → Row
  sets : (key value : Text) → Row
  bad : Row

abbrev pub section_row : Text → Row
section_row name = if is_utf8 name then opens name else bad

abbrev pub key_row : Text → Text → Row
key_row key value = if is_utf8 key then (if is_utf8
    value then (if length key == 0 then bad else sets key value) else bad) else bad

-- `[name]`, or a key and its value on the two sides of the first `=`
abbrev pub plain_row : Text → Row
plain_row text = option_map_or section_row (name_in text)
    (option_map_or (λ p. key_row (trim_end p.0) (trim_start p.1)) (cut_at 61 text) bad)

-- an empty line and a comment say nothing
abbrev pub text_row : Text → Row
text_row [] = blank
text_row (b ∷ bs) = if b == 35 then blank else plain_row (b ∷ bs)

abbrev pub row_of : Text → Row
row_of line = if is_utf8 line then text_row (trim line) else bad

-- ---- all lines

-- the section that is open, and the settings so far
pub record Config : Type 0 where
  pub open_section : Option Text
  pub settings : List Setting

abbrev pub start : Config
start = record { open_section = None; settings = [] }

abbrev pub set_in : Option Text → List Setting → ℕ → Text → Text → Option Config
set_in None before line key value = None
set_in (Some section) before line key value =
    Some (record {
      open_section = Some section;
      settings = before ++ record { section = section; key = key; value = value; line = line } ∷ [];
    })

-- a key is taken where a section is open
abbrev pub set : Config → ℕ → Text → Text → Option Config
set c line key value = set_in c.open_section c.settings line key value

abbrev pub step : Config → ℕ → Row → Option Config
step c line blank = Some c
step c line (opens name) = Some (record { open_section = Some name; settings = c.settings })
step c line (sets key value) = set c line key value
step c line bad = None

-- the settings after these lines, the first of which has this number; or the first line that is not valid
abbrev pub run : Config → ℕ → List Text → Result (List Setting) ℕ
run c line [] = Ok c.settings
run c line (p ∷ ps) = option_map_or (λ d. run d (line + 1) ps) (step c line (row_of p)) (Err line)

-- the settings of a configuration, or its first line that is not valid
abbrev pub settings : Text → Result (List Setting) ℕ
settings bytes = run start 1 (pieces bytes)
