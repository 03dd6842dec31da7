-- An info text: sections of keys with JSON values, between a head and a checksum. The layout is that of pgBackRest's
-- info files (user guide, "Create the Stanza"); the checksum's rule is this project's own.
use Rattle.std.specs.Prelude.{◌≡◌, ℕ, ◌&&◌, ◌==◌, not, nat_lt, Bool, true, false, List, [], ◌∷◌, ◌++◌, map, codes, IsUtf8}
use Rattle.std.specs.List.{flat_map, list_all, list_any, AllByRecursion}
use Rattle.base_devices.specs.Order.{are_after}
use Rattle.sha1.specs.Sha1.{sha1}
use Rattle.serde_json.specs.Data.{Data, number, unsigned, object, Members, no_members, member}
use Rattle.serde_json.specs.Written.{compact_text}
use Rattle.base_text.specs.Sum.{sum_text}
use Rattle.base_model.specs.Json.{IsValue}

-- a section of an information file: its name, and its keys with their values
pub record Section : Type 0 where
  pub name : List ℕ
  pub keys : List (List ℕ × Data)

-- `key=value` and a newline
abbrev pub key_line : List ℕ × Data → List ℕ
key_line k = k.0 ++ 61 ∷ (compact_text k.1 ++ 10 ∷ [])

-- `[name]` and a newline
abbrev pub name_line : List ℕ → List ℕ
name_line name = 91 ∷ (name ++ 93 ∷ 10 ∷ [])

-- a section, and the empty line after it
abbrev pub section_text : Section → List ℕ
section_text s = name_line s.name ++ (flat_map key_line s.keys ++ 10 ∷ [])

abbrev pub head_name : List ℕ
head_name = codes "backrest"

-- the first section
abbrev pub head : Section
head = record { name = head_name; keys = (codes "backrest-format", number (unsigned 5)) ∷ [] }

-- the text of the sections, with these digits as its checksum
unfoldable pub text_with : List ℕ → List Section → List ℕ
text_with digits sections = flat_map section_text (head ∷ sections)
    ++ (codes "[backrest]\nbackrest-checksum=\"" ++ (digits ++ 34 ∷ 10 ∷ []))

abbrev pub members_from : List (List ℕ × Data) → Members
members_from [] = no_members
members_from (k ∷ ks) = member k.0 k.1 (members_from ks)

-- each section under its name
abbrev pub sections_from : List Section → Members
sections_from [] = no_members
sections_from (s ∷ ss) = member s.name (object (members_from s.keys)) (sections_from ss)

-- what the checksum is taken of
unfoldable pub signed_text : List Section → List ℕ
signed_text sections = compact_text (object (sections_from (head ∷ sections)))

abbrev pub info_text : List Section → List ℕ
info_text sections = text_with (sum_text (sha1 (signed_text sections))) sections

-- ---- the rules of its sections

-- the byte may be in a name or a key
abbrev pub is_key_byte : ℕ → Bool
is_key_byte c = not (nat_lt c 32) && not (c == 127) && not (c == 61)

abbrev pub begins_well : List ℕ → Bool
begins_well [] = false
begins_well (c ∷ cs) = not (c == 91) && not (c == 35)

abbrev pub is_key : List ℕ → Bool
is_key k = begins_well k && list_all is_key_byte k

abbrev pub is_name : List ℕ → Bool
is_name n = is_key n && not (list_any (λ c. c == 93) n)

abbrev pub has_keys : List (List ℕ × Data) → Bool
has_keys [] = false
has_keys (k ∷ ks) = true

pub record IsKey (k : List ℕ × Data) : Type 0 where
  pub name : is_key k.0 ≡ true
  pub utf8 : IsUtf8 k.0
  pub value : IsValue k.1

-- The keys of a section: the empty text comes before every key.
pub record IsSection (s : Section) : Type 0 where
  pub name : is_name s.name ≡ true
  pub utf8 : IsUtf8 s.name
  pub some : has_keys s.keys ≡ true
  pub keys : AllByRecursion IsKey s.keys
  pub order : are_after [] (map (λ k. k.0) s.keys) ≡ true

-- what has an info text
pub record IsInfo (ss : List Section) : Type 0 where
  pub sections : AllByRecursion IsSection ss
  pub order : are_after head_name (map (λ s. s.name) ss) ≡ true
