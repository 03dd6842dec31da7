-- What holds of the table as a whole.
use Rattle.std.specs.Prelude.{Bool, true, ◌&&◌, ◌||◌, not, List, [], ◌∷◌, map, bytes_eq, is_none, is_some, option_and_then}
use Rattle.std.specs.List.{list_any, filter, Contains}
use Rattle.base_model.specs.Text.{Text}
use Rattle.options_table.specs.declared.table.TheConstants.{TABLE}
use Rattle.options_table.specs.declared.table.Opt.{Opt}
use Rattle.options_table.specs.declared.table.Verb.{Verb}
use Rattle.options_table.specs.Table.{fallback_text, is_for, row}
use Rattle.options_table.specs.Values.{value_of}

-- a default is a value that the option takes
unfoldable pub default_is_right : Opt → Bool
default_is_right o = is_none (fallback_text (row o).fallback)
    || is_some (option_and_then (value_of (row o).kind) (fallback_text (row o).fallback))

abbrev pub all_distinct : List Text → Bool
all_distinct [] = true
all_distinct (t ∷ ts) = not (list_any (bytes_eq t) ts) && all_distinct ts

-- no two options of a command have one name
unfoldable pub names_are_distinct : Verb → Bool
names_are_distinct verb = all_distinct (map (λ o. (row o).name) (filter (is_for verb) TABLE))

-- the table has each option
abbrev pub HasEach : Type 0
HasEach = (o : Opt) → Contains TABLE o
