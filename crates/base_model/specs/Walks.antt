-- What a command does, image by image.
use Rattle.std.specs.Prelude.{◌≡◌, ◌≤◌, ℕ, false, List, Some, IsSome}
use Rattle.base_devices.specs.Content.{Name, Value, Content}
use Rattle.base_devices.specs.Moments.{View, is_unsynced}
use Rattle.base_devices.specs.Crash.{Leaves, Ends}
use Rattle.base_model.specs.Text.{Text}
use Rattle.base_model.specs.Repository.{Repository}
use Rattle.base_model.specs.Represents.{Represents}
use Rattle.base_model.specs.Steps.{Step, Command, IsPartOf, after, all_of, steps_of}
use Rattle.base_model.specs.Log.{IsFixed, IsPlaceOf}

-- no name that is looked at is unsynced
pub record IsSynced (stanza : Text) (v : View) : Type 0 where
  pub fixed : (name : Text) → IsFixed stanza name → is_unsynced v name ≡ false
  pub places : (f : Content) → Leaves v v.moment f → (name : Text) → IsPlaceOf stanza f name → is_unsynced v name ≡
      false

-- A way from old to new, image by image: at each moment all that may be left comes by Step from what old may leave, the
-- past stays, and at its end no name that is looked at is unsynced.
pub record Walks (stanza : Text) (Step : Content → Content → Type 0) (old new : View) : Type 0 where
  pub later : old.moment ≤ new.moment
  pub past : (t : ℕ) (n : Name) (v : Value) → t ≤ old.moment → new.kept t n v → old.kept t n v
  pub past_unsynced : (t : ℕ) (n : Name) → t ≤ old.moment → new.unsynced t n ≡ old.unsynced t n
  pub known : IsSome new.now
  pub synced : IsSynced stanza new
  pub comes : (t : ℕ) (g : Content) → old.moment ≤ t → t ≤ new.moment → Leaves new t g
      → (f : Content) × Leaves old old.moment f × Step f g

-- whatever f represents, g represents it
abbrev pub RepresentsStill : Text → Content → Content → Type 0
RepresentsStill stanza f g = (r : Repository) → Represents stanza f r → Represents stanza g r

-- whatever f represents, g represents it after a part of the command's steps
abbrev pub DoesPart : Text → Command → Content → Content → Type 0
DoesPart stanza command f g = (r : Repository) → Represents stanza f r
    → (done : List Step) × IsPartOf done (steps_of command r) × Represents stanza g (after r done)

-- whatever f represents, g represents it after all of the command's steps
abbrev pub DoesAll : Text → Command → Content → Content → Type 0
DoesAll stanza command f g = (r : Repository) → Represents stanza f r
    → Represents stanza g (after r (all_of (steps_of command r)))

-- what the disk holds is known, and represents a repository
pub record RepresentsNow (stanza : Text) (v : View) : Type 0 where
  pub content : Content
  pub now : v.now ≡ Some content
  pub repository : Repository
  pub represents : Represents stanza content repository

-- Where no name that is looked at is unsynced, all that may be left at each moment comes by a part of the command from
-- what might have been left before it.
pub record GoesEach (stanza : Text) (command : Command) (old new : View) : Type 0 where
  pub goes : IsSynced stanza old → RepresentsNow stanza old → Walks stanza (DoesPart stanza command) old new

-- there all that may be left at its end comes by all of the command
pub record EndsEach (stanza : Text) (command : Command) (old new : View) : Type 0 where
  pub ends : IsSynced stanza old → RepresentsNow stanza old → Ends (DoesAll stanza command) old new
