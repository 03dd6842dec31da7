-- The configuration that the code's values represent.
use Rattle.std.specs.Prelude.{◌≡◌, ℕ, List, map, option_map, string_bytes, Result, Ok, Err}
use Rattle.repo_ini.specs.declared.fault.IniFault.{IniFault}
use Rattle.repo_ini.specs.declared.fault.IniFault.TheVariants as faults
use Rattle.repo_ini.specs.declared.row.Row as code
use Rattle.repo_ini.specs.declared.row.Row.TheVariants as rows
use Rattle.repo_ini.specs.declared.config.Config as held
use Rattle.repo_ini.specs.declared.config.ConfigLine.{ConfigLine}
use Rattle.repo_ini.specs.Config.{Setting, Row, blank, opens, sets, bad, Config}

-- what the rows and settings of the code represent
abbrev pub row_view : code.Row → Row
row_view rows.Blank = blank
row_view (rows.Opens name) = opens name.now
row_view (rows.Sets key value) = sets key.now value.now
row_view rows.Bad = bad

abbrev pub setting_of : ConfigLine → Setting
setting_of l = record {
  section = string_bytes l.section;
  key = string_bytes l.key;
  value = string_bytes l.value;
  line = l.line;
}

abbrev pub settings_of : List ConfigLine → List Setting
settings_of ls = map setting_of ls

abbrev pub config_of : held.Config → Config
config_of c = record { open_section = option_map string_bytes c.open; settings = settings_of c.lines.items }

-- the line is the one that is not valid, unless memory ran out; a configuration has no sum
abbrev pub Fails : {Y : Type 0} → IniFault → Result Y ℕ → Type 0
Fails faults.NoMemory read = Unit {0}
Fails (faults.Syntax line) read = read ≡ Err line
Fails (faults.Sum known found) read = ⊥

-- the result is what reading gives, unless memory ran out
abbrev pub Gives : {X Y : Type 0} → (X → Y) → Result X IniFault → Result Y ℕ → Type 0
Gives view (Ok x) read = read ≡ Ok (view x)
Gives view (Err e) read = Fails e read
