-- Sections and objects by their keys.
use Rattle.std.specs.Prelude.{ℕ, List, [], ◌∷◌, ◌-◌, Option, Some, None, if◌then◌else◌, slice_get}
use Rattle.serde_json.specs.Data.{Data, null, number, unsigned, array, object, Items, no_items, item}
use Rattle.base_devices.specs.Order.{is_before}
use Rattle.base_model.specs.Text.{Text}
use Rattle.base_model.specs.InfoText.{Section, members_from}

-- a key with its value
abbrev pub Field : Type 0
Field = Text × Data

abbrev pub whole : ℕ → Data
whole n = number (unsigned n)

-- an object of these fields, whose keys are in byte order
abbrev pub fields : List Field → Data
fields ks = object (members_from ks)

abbrev pub items_from : List Data → Items
items_from [] = no_items
items_from (d ∷ ds) = item d (items_from ds)

abbrev pub list_of : List Data → Data
list_of ds = array (items_from ds)

-- a value, or null
abbrev pub or_null : {X : Type 0} → (X → Data) → Option X → Data
or_null f None = null
or_null f (Some x) = f x

-- a section of these keys, left out where there is none
abbrev pub section : Text → List Field → List Section
section name [] = []
section name (k ∷ ks) = record { name = name; keys = k ∷ ks } ∷ []

-- one field more, in byte order of the keys
abbrev pub with_field : List Field → Field → List Field
with_field [] k = k ∷ []
with_field (x ∷ xs) k = if is_before k.0 x.0 then k ∷ x ∷ xs else x ∷ with_field xs k

abbrev pub with_fields : List Field → List Field → List Field
with_fields xs [] = xs
with_fields xs (k ∷ ks) = with_fields (with_field xs k) ks

-- the fields in byte order of their keys
abbrev pub by_key : List Field → List Field
by_key ks = with_fields [] ks

-- what has this number in a history, whose numbers are 1, 2, 3 and so on
abbrev pub at_number : {X : Type 0} → ℕ → List X → Option X
at_number n xs = slice_get xs (n - 1)

-- the fields of what may be there
abbrev pub fields_of : {X : Type 0} → (X → List Field) → Option X → List Field
fields_of f None = []
fields_of f (Some x) = f x
