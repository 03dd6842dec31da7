-- Disks on which a command works: all that may be left of them represents one repository.
use Rattle.std.specs.Prelude.{◌≡◌, ◌≤◌, ℕ, Bool, false, List, ◌∷◌, IsSome}
use Rattle.base_devices.specs.Content.{Content, Name, Value}
use Rattle.base_devices.specs.Moments.{View, is_unsynced}
use Rattle.base_devices.specs.Crash.{Leaves}
use Rattle.base_model.specs.Text.{Text}
use Rattle.base_model.specs.Repository.{Repository, IsSound}
use Rattle.base_model.specs.Represents.{Represents}
use Rattle.base_model.specs.Steps.{Command}
use Rattle.base_model.specs.Log.{Done, Reaches, IsFixed, IsPlaceOf, RepresentsAfter, KeepsRepository, Keeps}

-- the disk and all that a crash now leaves represent this repository, and no name that is looked at is unsynced
pub record IsSteady (stanza : Text) (r : Repository) (v : View) : Type 0 where
  pub fixed : (name : Text) → IsFixed stanza name → is_unsynced v name ≡ false
  pub places : (f : Content) → Leaves v v.moment f → (name : Text) → IsPlaceOf stanza f name → is_unsynced v name ≡
      false
  pub represents : (f : Content) → Leaves v v.moment f → Represents stanza f r

-- the disk is steady at a sound repository that the log reaches
pub record IsBegun (stanza : Text) (q : Repository) (log : List Done) (v : View) : Type 0 where
  pub repository : Repository
  pub reached : Reaches q log repository
  pub sound : IsSound repository
  pub steady : IsSteady stanza repository v

-- where the disk was known and kept a log, it is begun
abbrev pub BeginsCommand : Text → View → View → Type 0
BeginsCommand stanza old new = (q : Repository) (log : List Done) → KeepsRepository stanza q log old → IsSome old.now
    → IsBegun stanza q log new

-- A command's way from old to new: at each moment all that may be left has P, the past stays, and at its end no name
-- that is looked at is unsynced.
pub record EachImage (stanza : Text) (P : Content → Type 0) (old new : View) : Type 0 where
  pub later : old.moment ≤ new.moment
  pub past : (t : ℕ) (n : Name) (v : Value) → t ≤ old.moment → new.kept t n v → old.kept t n v
  pub past_unsynced : (t : ℕ) (n : Name) → t ≤ old.moment → new.unsynced t n ≡ old.unsynced t n
  pub known : IsSome new.now
  pub fixed : (name : Text) → IsFixed stanza name → is_unsynced new name ≡ false
  pub places : (f : Content) → Leaves new new.moment f → (name : Text) → IsPlaceOf stanza f name
      → is_unsynced new name ≡ false
  pub leaves : (t : ℕ) (f : Content) → old.moment ≤ t → t ≤ new.moment → Leaves new t f → P f

-- at each moment between the two all that may be left has P
abbrev pub LeavesOnly : (Content → Type 0) → View → View → Type 0
LeavesOnly P old new = (t : ℕ) (f : Content) → old.moment ≤ t → t ≤ new.moment → Leaves new t f → P f

-- ---- what a command does to a log

-- A command takes a disk that keeps a log on to the log with the command: the whole of it, or a part.
pub record CarriesOn (stanza : Text) (command : Command) (whole : Bool) (old new : View) : Type 0 where
  pub keeps : (q : Repository) (log : List Done) → IsSome old.now → KeepsRepository stanza q log old
      → KeepsRepository stanza q (record { command = command; acknowledged = whole } ∷ log) new

-- The same for the repository's disk and the spool's.
abbrev pub KeepsOn : Text → Command → Bool → View → View → View → View → Type 0
KeepsOn stanza command whole repo spool new_repo new_spool =
    (q : Repository) (log : List Done) → IsSome repo.now → Keeps stanza q log repo spool
    → Keeps stanza q (record { command = command; acknowledged = whole } ∷ log) new_repo new_spool

-- At each moment of the command all that may be left represents the log with a part of the command.
pub record PassesOnly (stanza : Text) (command : Command) (old new : View) : Type 0 where
  pub between : (q : Repository) (log : List Done) → IsSome old.now → KeepsRepository stanza q log old
      → LeavesOnly (RepresentsAfter stanza q (record { command = command; acknowledged = false } ∷ log)) old new
