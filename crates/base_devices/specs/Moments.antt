-- What a crash leaves, at each moment of a disk.
use Rattle.std.specs.Prelude.{◌≡◌, ◌⊎◌, ◌≤◌, ℕ, Bool, true, false, Option, None, IsTrue, IsSome}
use Rattle.base_devices.specs.Content.{Name, Value, Content, Holds}

-- what names may hold after a crash at each moment, and which may hold any bytes
abbrev pub KeptValues : Type 1
KeptValues = ℕ → Name → Value → Type 0

abbrev pub Unsynced : Type 0
Unsynced = ℕ → Name → Bool

-- a disk as known
pub record View : Type 1 where
  -- what it holds, where that is known
  pub now : Option Content
  -- the moment, as a number that doesn't fall
  pub moment : ℕ
  -- what a crash at each moment so far may leave at a name
  pub kept : KeptValues
  -- the names at which a crash at each moment so far may leave any bytes
  pub unsynced : Unsynced

-- a crash now may leave any bytes there
abbrev pub is_unsynced : View → Name → Bool
is_unsynced v n = v.unsynced v.moment n

-- a crash now may leave this value there
abbrev pub MayKeep : View → Name → Value → Type 0
MayKeep v n x = v.kept v.moment n x

-- a crash at that moment may leave this content
abbrev pub IsImage : View → ℕ → Content → Type 0
IsImage v t f = (name : Name) → v.kept t name (f name) ⊎ (IsTrue (v.unsynced t name) × IsSome (f name))

-- Time continues. What earlier moments may leave stays, and what the later ones may leave grows by no more than this.
pub record GrowsBy (added : Name → Value → Type 0) (newly_unsynced : Name → Type 0) (old new : View) : Type 0 where
  pub later : old.moment ≤ new.moment
  pub same : (t : ℕ) (n : Name) (v : Value) → t ≤ old.moment → new.kept t n v → old.kept t n v
  pub stays : (t : ℕ) (n : Name) (v : Value) → t ≤ old.moment → old.kept t n v → new.kept t n v
  pub same_unsynced : (t : ℕ) (n : Name) → t ≤ old.moment → new.unsynced t n ≡ old.unsynced t n
  pub grows : (t : ℕ) (n : Name) (v : Value) → old.moment ≤ t → t ≤ new.moment → new.kept t n v
      → old.kept old.moment n v ⊎ added n v
  pub unsyncs : (t : ℕ) (n : Name) → old.moment ≤ t → t ≤ new.moment → new.unsynced t n ≡ true
      → (old.unsynced old.moment n ≡ true) ⊎ newly_unsynced n

-- nothing was added and nothing became unsynced
abbrev pub LeavesNoMore : View → View → Type 0
LeavesNoMore old new = GrowsBy (λ _ _. ⊥) (λ _. ⊥) old new

-- by no more than what the disk holds at these names, and these may become unsynced
abbrev pub GrowsBySync : (Name → Type 0) → View → View → Type 0
GrowsBySync these old new = GrowsBy (λ n v. these n × Holds old.now n v) these old new

-- by no more than the value of the one name at the other, and nothing at the one; the other may be as unsynced as it
abbrev pub GrowsByMove : Name → Name → View → View → Type 0
GrowsByMove from to old new = GrowsBy (λ n v. ((n ≡ to) × Holds old.now from v) ⊎ ((n ≡ from) × (v ≡ None)))
    (λ n. (n ≡ to) × IsTrue (is_unsynced old from)) old new

-- a crash leaves at each of these names that wasn't unsynced what the disk held
abbrev pub SyncsFolders : (Name → Type 0) → View → View → Type 0
SyncsFolders these old new = (n : Name) (v : Value) → these n → is_unsynced old n ≡ false → MayKeep new n v → Holds
    old.now n v
