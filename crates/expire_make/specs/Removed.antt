-- How many files are removed.
use Rattle.std.specs.Prelude.{◌≡◌, ◌↔◌, ℕ, ◌-◌, ◌^◌, min, List, [], ◌∷◌, length, Option, Some, None, IsSome, option_map, string_bytes}
use Rattle.base_devices.specs.declared.disk.Found.{Found}
use Rattle.base_devices.specs.Content.{Name, Content, IsThere, put}
use Rattle.base_devices.specs.States.{DiskState}
use Rattle.base_model.specs.Text.{Text, In}
use Rattle.base_model.specs.Represents.{IsArchiveFile}

-- a name with the length of its bytes, as a listing reports it
abbrev pub pair_of : Found → Name × ℕ
pair_of x = (string_bytes x.name, x.size)

-- each name once
abbrev pub AreDistinct : List Name → Type 0
AreDistinct [] = Unit {0}
AreDistinct (n ∷ ns) = ¬ In n ns × AreDistinct ns

-- these names, the last one first, were removed one after another, each where it had bytes
pub data Took (these : Name → Type 0) : List Name → Option Content → Option Content → Type 0 where
  Nothing : (old new : Option Content) → new ≡ old → Took these [] old new
  Further : (ns : List Name) (old mid new : Option Content) (n : Name) → Took these ns old mid → these n → IsThere mid n
      → new ≡ option_map (put n None) mid → Took these (n ∷ ns) old new

-- a count is still at its type's end
abbrev pub IsCount : ℕ → List Name → Type 0
IsCount k ns = k ≡ min (length ns) (2 ^ 64 - 1)

-- k of these names were removed, and nothing else changed
pub record Counted (these : Name → Type 0) (k : ℕ) (old new : Option Content) : Type 0 where
  pub names : List Name
  pub ever_taken : Took these names old new
  pub count : IsCount k names

-- k archive files are gone that the disk had, where that is known
pub record CountsGone (stanza : Text) (k : ℕ) (old new : Option Content) : Type 0 where
  pub counts : (f g : Content) → old ≡ Some f → new ≡ Some g
      → (names : List Name) × AreDistinct names
      × ((n : Name) → In n names ↔ (IsArchiveFile stanza n × IsSome (f n) × (g n ≡ None))) × IsCount k names

-- the same for two states of a disk
abbrev pub NumberGone : Text → ℕ → DiskState → DiskState → Type 0
NumberGone stanza k old new = CountsGone stanza k old.view.now new.view.now
