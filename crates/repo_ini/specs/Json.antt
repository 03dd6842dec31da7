-- The members of the JSON text of which an info text's sum is taken.
use Rattle.std.specs.Prelude.{◌∷◌, ◌++◌, Bool, false, true, List}
use Rattle.json.specs.Print.{quoted}
use Rattle.serde_json.specs.Data.{Data}
use Rattle.serde_json.specs.Written.{compact_text, comma_if, members_text}
use Rattle.base_model.specs.Text.{Text}
use Rattle.base_model.specs.InfoText.{Section, members_from, sections_from}

-- that of one key, with a comma in front where it isn't the first
abbrev pub key_json : Bool → Text × Data → Text
key_json later k = comma_if later ++ (quoted k.0 ++ 58 ∷ compact_text k.1)

-- those of all keys of a section, and the closing brace
abbrev pub keys_json : List (Text × Data) → Text
keys_json ks = members_text false (members_from ks)

-- that of a section, with a comma in front
abbrev pub section_json : Section → Text
section_json s = 44 ∷ (quoted s.name ++ 58 ∷ 123 ∷ keys_json s.keys)

-- those of all sections, and the closing brace
abbrev pub sections_json : List Section → Text
sections_json ss = members_text true (sections_from ss)
