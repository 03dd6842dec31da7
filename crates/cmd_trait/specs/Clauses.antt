-- What the clauses of a command and of its stages speak of: what the objects report before and after. Own.
use Rattle.std.specs.Prelude.{◌≡◌, ℕ, false, List, map, String, string_bytes, Result, OnOk}
use Rattle.std.specs.declared.alloc.Global.{Global}
use Rattle.base_devices.specs.Content.{Name}
use Rattle.base_devices.specs.States.{DiskState, DataFolderState}
use Rattle.base_model.specs.Text.{Text}
use Rattle.cmd_setup.specs.declared.ready.Ready.{Ready}
use Rattle.cmd_setup.specs.Readies.{IsReady}
use Rattle.cmd_types.specs.declared.stages.halt.Halt.{Halt}
use Rattle.cmd_types.specs.declared.stages.outcome.Outcome.{Outcome}
use Rattle.cmd_types.specs.declared.stages.plan.Plan.{Plan}
use Rattle.cmd_types.specs.Plans.{AreHeld}
use Rattle.cmd_types.specs.World.{World}
use Rattle.cmd_trait.specs.declared.fault.Fault.{Fault}
use Rattle.cmd_trait.specs.declared.places.Places.{Places}
use Rattle.cmd_trait.specs.Code.{place_of}
use Rattle.cmd_trait.specs.Faults.{own_of}
use Rattle.cmd_trait.specs.Meaning.{Place, Meaning}

-- this holds between what the objects reported before it and what they report after it
abbrev pub Between : {W : Type 0} → (W → World) → (World → World → Type 0) → W → W → Type 0
Between known P old new = P (known old) (known new)

-- and so it does of its result
abbrev pub OnKnown : {W R : Type 0} → (W → World) → (World → World → R → Type 0) → W → W → R → Type 0
OnKnown known P old new result = P (known old) (known new) result

-- and of a command at these places
abbrev pub OnCall : {W R F : Type 0} → (W → World) → (Place → Meaning F → World → World → R → Type 0) → Places
    → Meaning F → W → W → R → Type 0
OnCall known P places m old new result = P (place_of places) m (known old) (known new) result

-- of the result of its own part
abbrev pub OnOwn : {W F : Type 0} → (W → World) → (Place → Meaning F → World → World → Result Outcome (Fault F) → Type 0)
    → Places → Meaning F → W → W → Result Outcome (Halt F) → Type 0
OnOwn known P places m old new result = P (place_of places) m (known old) (known new) (own_of result)

-- whatever its result
abbrev pub OnPlaces : {W F : Type 0} → (W → World) → (Place → Meaning F → World → World → Type 0) → Places → Meaning F
    → W → W → Type 0
OnPlaces known P places m old new = P (place_of places) m (known old) (known new)

-- where its result is Ok
abbrev pub AtOk : {W R E F : Type 0} → (W → World) → (Place → Meaning F → World → World → Type 0) → Places → Meaning F
    → W → W → Result R E → Type 0
AtOk known P places m old new result = OnOk result (P (place_of places) m (known old) (known new))

-- and of the keys of the configuration that are no options
abbrev pub OnUnknown : {W F : Type 0} → (W → World) → (Place → Meaning F → List Text → World → World → ℕ → Type 0)
    → Places → Meaning F → List (String Global) → W → W → ℕ → Type 0
OnUnknown known P places m unknown old new result =
    P (place_of places) m (map string_bytes unknown) (known old) (known new) result

-- the command's locks are held
abbrev pub HoldsLocks : {F : Type 0} → Meaning F → Places → List Name → Type 0
HoldsLocks m places held = AreHeld m.plan places.stanza.now held

-- what it needs of the repository and the data folder was made ready
abbrev pub IsReadyFor : {F : Type 0} → Meaning F → Places → DiskState → DataFolderState → Ready → Type 0
IsReadyFor m places repo tree ready = IsReady m.plan places.stanza.now repo.view.now tree.nodes ready

-- this holds where the plan takes no lock
abbrev pub WhereNoLock : Plan → Type 0 → Type 0
WhereNoLock plan P = plan.backup_lock ≡ false → plan.archive_lock ≡ false → P
