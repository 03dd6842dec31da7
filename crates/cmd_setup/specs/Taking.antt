-- Which locks are held while they are taken.
use Rattle.std.specs.Prelude.{◌≡◌, ◌⊎◌, ℕ, List, String, [], ◌∷◌, Option, Some, None, option_map, string_bytes}
use Rattle.std.specs.declared.alloc.Global.{Global}
use Rattle.base_devices.specs.Cause.{Rises}
use Rattle.base_devices.specs.Content.{Name}
use Rattle.base_devices.specs.Locking.{without}
use Rattle.base_devices.specs.States.{LocksState}
use Rattle.base_model.specs.Text.{Text}
use Rattle.cmd_types.specs.declared.stages.plan.Plan.{Plan}
use Rattle.cmd_types.specs.declared.stages.fault.StageFault.{StageFault}
use Rattle.cmd_types.specs.declared.stages.fault.StageFault.TheVariants.{Held}
use Rattle.cmd_types.specs.declared.stages.halt.Halt.{Halt}
use Rattle.cmd_types.specs.declared.stages.object.Object.TheVariants.{Locks}
use Rattle.cmd_types.specs.Halts.{HaltCause, Only}
use Rattle.cmd_types.specs.Plans.{with_one, first_lock, second_lock, IsLockOf, TakesLocks}
use Rattle.cmd_setup.specs.declared.command_locks.LockNames.{LockNames}

-- the lock is held too, or none more than before
abbrev pub MayHold : Option Text → List Name → List Name → Type 0
MayHold None old new = new ≡ old
MayHold (Some name) old new = (new ≡ old) ⊎ (new ≡ name ∷ old)

-- all locks that are held are those of these two names
pub record HoldsOnly (first second : Option Text) (held : List Name) : Type 0 where
  pub with_first : List Name
  pub is_first : MayHold first [] with_first
  pub is_second : MayHold second with_first held

-- no locks are held but those of the plan
abbrev pub HoldsAtMost : Plan → Text → List Name → Type 0
HoldsAtMost plan stanza held = HoldsOnly (first_lock plan stanza) (second_lock plan stanza) held

-- those of other names
abbrev pub released : Option Text → List Name → List Name
released None held = held
released (Some name) held = without name held

-- the lock of this name was held
abbrev pub IsHeldName : Option Text → Type 0 → StageFault → Type 0
IsHeldName which held (Held name) = (which ≡ Some (string_bytes name)) × held
IsHeldName which held other = ⊥

-- one of the plan's locks was held
abbrev pub HeldCause : Plan → Text → Type 0 → StageFault → Type 0
HeldCause plan stanza held (Held name) = IsLockOf plan stanza (string_bytes name) × held
HeldCause plan stanza held other = ⊥

-- a call on the locks was refused for one that was held, or the locks failed
abbrev pub LocksCause : (Type 0 → StageFault → Type 0) → LocksState → LocksState → Halt StageFault → Type 0
LocksCause why old new halt =
    HaltCause (why (Rises old.refusals new.refusals)) (Only Locks (Rises old.faults new.faults)) halt

-- the name of a lock, where there is one
abbrev pub name_of : Option (String Global) → Option Text
name_of name = option_map string_bytes name

-- the names of the plan's locks
abbrev pub AreNames : LockNames → Plan → Text → Type 0
AreNames names plan stanza = (name_of names.first ≡ first_lock plan stanza)
    × (name_of names.second ≡ second_lock plan stanza)

-- the plan's first lock was taken, or none was
abbrev pub MayTake : Plan → Text → Text → Option (List (Text × Text)) → Option (List (Text × Text)) → Type 0
MayTake plan folder stanza old new = (new ≡ old) ⊎ (new ≡ option_map (with_one folder (first_lock plan stanza)) old)

-- ---- by what is known of the locks before and after

-- the lock of this name was taken, where there is one
abbrev pub TakesOne : Text → Option Text → LocksState → LocksState → Type 0
TakesOne folder name old new = new.ever_taken ≡ option_map (with_one folder name) old.ever_taken

-- the plan's locks were taken
abbrev pub TakesPlanned : Plan → Text → Text → LocksState → LocksState → Type 0
TakesPlanned plan folder stanza old new = TakesLocks plan folder stanza old.ever_taken new.ever_taken

-- the plan's first lock was taken, or none was
abbrev pub MayTakeFirst : Plan → Text → Text → LocksState → LocksState → Type 0
MayTakeFirst plan folder stanza old new = MayTake plan folder stanza old.ever_taken new.ever_taken
