-- Where the configuration lies.
use Rattle.std.specs.Prelude.{◌==◌, List, [], ◌∷◌, length, codes, bytes_eq, is_some, unwrap_or, Option, Some, None, Result, Ok, Err, if◌then◌else◌}
use Rattle.base_model.specs.Text.{Text}
use Rattle.options_table.specs.declared.table.TheConstants.{TABLE}
use Rattle.options_read.specs.Faults.{Fault, option_repeated, option_value, ◌>>=◌}
use Rattle.options_read.specs.Words.{Token, unknown, gives, denies, plain, tokens}

-- nowhere by `--no-config`; the usual path where the arguments don't say
pub data Path : Type 0 where
  nowhere : Path
  usual : (path : Text) → Path
  named : (path : Text) → Path

-- the path so far, with what one more token states
abbrev pub add_path : Option Path → Token → Result (Option Path) Fault
add_path found (unknown word) = Ok found
add_path found (gives name value) = if bytes_eq name
    (codes "config") then (if is_some found then Err (option_repeated name) else if length value
    == 0 then Err (option_value name) else Ok (Some (named value))) else Ok found
add_path found (denies name) = if bytes_eq name
    (codes "config") then (if is_some found then Err (option_repeated name) else Ok (Some nowhere)) else Ok found
add_path found (plain word) = Ok found

abbrev pub path_after : Option Path → List Token → Result (Option Path) Fault
path_after found [] = Ok found
path_after found (t ∷ ts) = add_path found t >>= λ f. path_after f ts

-- where the arguments say that the configuration lies
unfoldable pub path_of_arguments : List Text → Result Path Fault
path_of_arguments arguments = path_after None (tokens TABLE arguments) >>= λ found. Ok
    (unwrap_or found (usual (codes "/etc/pgbackrest/pgbackrest.conf")))
