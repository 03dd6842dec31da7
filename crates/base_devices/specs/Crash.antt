-- What a call leaves, by where each content comes from.
use Rattle.std.specs.Prelude.{◌≡◌, ◌⊎◌, ◌≤◌, ◌++◌, ℕ, false, List, [], ◌∷◌, Option, Some, IsSome, codes}
use Rattle.base_devices.specs.Content.{Name, Value, Content, put}
use Rattle.base_devices.specs.Moments.{View, IsImage, is_unsynced}

-- a name for bytes that are still to be published
pub record IsTemporary (name : Name) : Type 0 where
  pub prefix : Name
  pub is : name ≡ prefix ++ codes ".pgbackrest.tmp"

-- the two have the same at every name that isn't temporary
pub record Alike (f g : Content) : Type 0 where
  pub same : (n : Name) → ¬ IsTemporary n → g n ≡ f n

-- the disk holds it, or a crash at that moment leaves it
abbrev pub Leaves : View → ℕ → Content → Type 0
Leaves v t f = (v.now ≡ Some f) ⊎ IsImage v t f

-- all that a crash now leaves has at these names what the disk holds
abbrev pub IsAlikeAt : (Name → Type 0) → View → Type 0
IsAlikeAt these v = (f g : Content) → v.now ≡ Some f → Leaves v v.moment g → (n : Name) → these n → g n ≡ f n

-- All that the call may leave, at each moment, comes by Step from what might have been left before it. Only temporary
-- names become unsynced.
pub record Crash (Step : Content → Content → Type 0) (old new : View) : Type 0 where
  pub later : old.moment ≤ new.moment
  pub past : (t : ℕ) (n : Name) (v : Value) → t ≤ old.moment → new.kept t n v → old.kept t n v
  pub past_unsynced : (t : ℕ) (n : Name) → t ≤ old.moment → new.unsynced t n ≡ old.unsynced t n
  pub known : IsSome old.now → IsSome new.now
  pub synced : (t : ℕ) (n : Name) → old.moment ≤ t → t ≤ new.moment → ¬ IsTemporary n → is_unsynced old n ≡ false
      → new.unsynced t n ≡ false
  pub comes : IsSome old.now → (t : ℕ) (g : Content) → old.moment ≤ t → t ≤ new.moment → Leaves new t g
      → (f : Content) × Leaves old old.moment f × Step f g

-- all that may be left at its end comes by Step
pub record Ends (Step : Content → Content → Type 0) (old new : View) : Type 0 where
  pub comes : IsSome old.now → (g : Content) → Leaves new new.moment g
      → (f : Content) × Leaves old old.moment f × Step f g

-- one write: a name and its bytes
abbrev pub Write : Type 0
Write = Name × List ℕ

-- all of the writes were made
abbrev pub AllOf : List Write → Content → Content → Type 0
AllOf [] f g = Alike f g
AllOf (w ∷ ws) f g = AllOf ws (put w.0 (Some w.1) f) g

-- the first of them were made
abbrev pub FirstOf : List Write → Content → Content → Type 0
FirstOf [] f g = Alike f g
FirstOf (w ∷ ws) f g = Alike f g ⊎ FirstOf ws (put w.0 (Some w.1) f) g

-- some of the writes were made, in their order
abbrev pub SomeOf : List Write → Content → Content → Type 0
SomeOf [] f g = Alike f g
SomeOf (w ∷ ws) f g = SomeOf ws f g ⊎ SomeOf ws (put w.0 (Some w.1) f) g

-- what the disk holds, where it is known, comes by Step from what it held
pub record NowChanges (Step : Content → Content → Type 0) (old new : Option Content) : Type 0 where
  pub known : IsSome old → IsSome new
  pub goes : (f g : Content) → old ≡ Some f → new ≡ Some g → Step f g
