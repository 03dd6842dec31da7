-- The sections that a program's parts represent.
use Rattle.std.specs.Prelude.{◌≡◌, false, ℕ, List, map, String, string_bytes}
use Rattle.std.specs.List.{AllByRecursion}
use Rattle.std.specs.declared.alloc.Global.{Global}
use Rattle.serde_json.specs.Data.{Data}
use Rattle.serde_json.specs.View.{view}
use Rattle.serde_json.specs.Written.{has_float}
use Rattle.serde_json.specs.declared.value.Value.{Value}
use Rattle.base_model.specs.InfoText.{Section}
use Rattle.repo_ini.specs.declared.part.Part.{Part}

-- what the keys and sections of the code represent
abbrev pub key_of : String Global × Value → List ℕ × Data
key_of k = (string_bytes k.0, view k.1)

abbrev pub keys_of : Part → List (List ℕ × Data)
keys_of p = map key_of p.keys.items

abbrev pub section_of : Part → Section
section_of p = record { name = string_bytes p.name; keys = keys_of p }

abbrev pub sections_of : List Part → List Section
sections_of ps = map section_of ps

-- no value is or has a float
abbrev pub NoFloats : List (String Global × Value) → Type 0
NoFloats ks = AllByRecursion (λ k. has_float (view k.1) ≡ false) ks
