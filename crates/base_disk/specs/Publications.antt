-- What is left where the bytes of one name are given to another.
use Rattle.std.specs.Prelude.{◌≡◌, ◌⊎◌, None, false}
use Rattle.base_devices.specs.Content.{Name, Value, Holds}
use Rattle.base_devices.specs.Moments.{MayKeep, is_unsynced}
use Rattle.base_devices.specs.States.{DiskState, Works}

-- a crash leaves at the one only what the other held, if the one wasn't unsynced
abbrev pub IsPublishedFrom : Name → Name → DiskState → DiskState → Type 0
IsPublishedFrom from name old new = is_unsynced old.view name ≡ false → (v : Value) → MayKeep new.view name v
    → Holds old.view.now from v

-- a call that adds no more than the value of the one name at the other, and nothing at the one
abbrev pub OnlyMoves : Name → Name → DiskState → DiskState → Type 0
OnlyMoves from name old new =
    Works (λ n v. ((n ≡ name) × Holds old.view.now from v) ⊎ ((n ≡ from) × (v ≡ None))) (λ _. ⊥) old new
