-- When sections have the same at a key.
use Rattle.std.specs.Prelude.{◌≡◌, ◌≢◌, ◌⊎◌, List, [], map, true, codes, string_bytes}
use Rattle.serde_json.specs.Data.{Data}
use Rattle.base_devices.specs.Order.{is_before, are_after}
use Rattle.base_model.specs.Text.{Text, In}
use Rattle.base_model.specs.InfoText.{Section}
use Rattle.base_model.specs.Fields.{Field}
use Rattle.repo_ini.specs.declared.part.Part.{Part}
use Rattle.repo_ini.specs.Parts.{section_of, sections_of}

-- the section of that name has this value at the key
pub record HasKey (ss : List Section) (section key : Text) (d : Data) : Type 0 where
  pub at : Section
  pub found : In at ss
  pub named : at.name ≡ section
  pub holds : In (key, d) at.keys

-- both have the same value at the key, or both have none
pub record AgreeAt (ss ts : List Section) (section key : Text) : Type 0 where
  pub there : (d : Data) → HasKey ss section key d → HasKey ts section key d
  pub back : (d : Data) → HasKey ts section key d → HasKey ss section key d

-- the keys are in byte order, each once
abbrev pub IsOrdered : List Field → Type 0
IsOrdered ks = are_after [] (map (λ k. k.0) ks) ≡ true

-- both have the same value at the key, or both have none
pub record KeysAgree (xs ys : List Field) (key : Text) : Type 0 where
  pub there : (d : Data) → In (key, d) xs → In (key, d) ys
  pub back : (d : Data) → In (key, d) ys → In (key, d) xs

-- one has at each earlier key what the other has
abbrev pub KeysAgreeBefore : List Field → List Field → Text → Type 0
KeysAgreeBefore xs ys key = (earlier : Text) → is_before earlier key ≡ true → KeysAgree xs ys earlier

-- up to this key the two are the same, and at it they differ
pub record IsFirstDifference (xs ys : List Field) (key : Text) : Type 0 where
  pub before : KeysAgreeBefore xs ys key
  pub here : ¬ KeysAgree xs ys key

-- the keys of the section of this name, and none where there is no such section
abbrev pub IsKeysOf : List Section → Text → List Field → Type 0
IsKeysOf ss name ks = In (record { name = name; keys = ks }) ss
    ⊎ (((s : Section) → In s ss → s.name ≢ name) × (ks ≡ []))

-- the part is one of these, and its section has this name
abbrev pub IsPartNamed : List Part → Text → Part → Type 0
IsPartNamed parts name part = In (section_of part) (sections_of parts) × (string_bytes part.name ≡ name)

-- the part states the section of this name with these keys
abbrev pub StatesSection : Text → List Field → Part → Type 0
StatesSection name ks part = section_of part ≡ record { name = name; keys = ks }

-- ---- the sections of both kinds

-- the sections of the current cluster and of the history
abbrev pub db : Text
db = codes "db"

abbrev pub db_history : Text
db_history = codes "db:history"
