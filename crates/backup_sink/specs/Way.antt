-- What a crash leaves of a backup that is being made. Own.
use Rattle.std.specs.Prelude.{◌≡◌, ◌≢◌, ◌⊎◌, ◌≤◌, ℕ, Bool, true, false, IsSome}
use Rattle.base_devices.specs.Content.{Name, Value, Content}
use Rattle.base_devices.specs.Moments.{View, is_unsynced}
use Rattle.base_devices.specs.Crash.{IsTemporary, Leaves}
use Rattle.base_model.specs.Names.{copy_of}

-- All that a call may leave, at each moment, comes by Step from what might have been left before it. Only names of this
-- kind become unsynced.
pub record Way (may : Name → Type 0) (Step : Content → Content → Type 0) (old new : View) : Type 0 where
  pub later : old.moment ≤ new.moment
  pub past : (t : ℕ) (n : Name) (v : Value) → t ≤ old.moment → new.kept t n v → old.kept t n v
  pub past_unsynced : (t : ℕ) (n : Name) → t ≤ old.moment → new.unsynced t n ≡ old.unsynced t n
  pub known : IsSome old.now → IsSome new.now
  pub synced : (t : ℕ) (n : Name) → old.moment ≤ t → t ≤ new.moment → ¬ may n → is_unsynced old n ≡ false
      → new.unsynced t n ≡ false
  pub comes : IsSome old.now → (t : ℕ) (g : Content) → old.moment ≤ t → t ≤ new.moment → Leaves new t g
      → (f : Content) × Leaves old old.moment f × Step f g

-- an own name of a backup, or a temporary one
abbrev pub MayUnsync : (Name → Bool) → Name → Type 0
MayUnsync own n = (own n ≡ true) ⊎ IsTemporary n

-- the same but at own names, at temporary ones, and at the two members of this pair
pub record IsBeside (own : Name → Bool) (pair : Name) (f g : Content) : Type 0 where
  pub others : (n : Name) → own n ≡ false → ¬ IsTemporary n → n ≢ pair → n ≢ copy_of pair → g n ≡ f n
