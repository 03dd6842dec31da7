-- What a command is given by its parameters and by the options in force (pgBackRest configuration reference).
use Rattle.std.specs.Prelude.{◌≡◌, ℕ, Bool, false, List, [], ◌∷◌, Option, None, Some}
use Rattle.base_model.specs.Text.{Text}
use Rattle.options_read.specs.Filled.{text_in, number_in, amount_in, flag_in, or_else}
use Rattle.options_read.specs.Settings.{Source, Resolved, value}
use Rattle.options_table.specs.declared.table.Opt.{Opt}
use Rattle.options_table.specs.declared.table.Opt.TheVariants.{Pg1Path, Repo1Path, LockPath}
use Rattle.cmd_trait.specs.Meaning.{Place}

-- ---- parameters, in their order; nothing where there is none

-- the first
abbrev pub first_of : List Text → Text
first_of [] = []
first_of (x ∷ xs) = x

-- the second
abbrev pub second_of : List Text → Text
second_of [] = []
second_of (x ∷ xs) = first_of xs

-- ---- options

-- the text of an option, or nothing
abbrev pub path_in : Source → Opt → Text
path_in source option = or_else [] (text_in (value source option))

-- it is on
abbrev pub is_on : Source → Opt → Bool
is_on source option = or_else false (flag_in (value source option))

-- its number, or 0
abbrev pub count_in : Source → Opt → ℕ
count_in source option = or_else 0 (number_in (value source option))

-- its amount, or 0
abbrev pub size_in : Source → Opt → ℕ
size_in source option = or_else 0 (amount_in (value source option))

-- the places that are named
abbrev pub place_in : Resolved → Place
place_in s = record {
  stanza = s.stanza;
  data_folder = path_in s.source Pg1Path;
  repository = path_in s.source Repo1Path;
  lock_folder = path_in s.source LockPath;
}
