-- The disk model name by name, and its changes followed anew.
use Rattle.std.specs.declared.alloc.Global.{Global}
use Rattle.std.specs.BTreeMap.{BTreeMap, get_by_text}
use Rattle.std.specs.Prelude.{◌≡◌, bytes_eq, ℕ, Bool, true, false, ◌||◌, ◌&&◌, is_some, List, [], ◌∷◌, ◌++◌, Option, Some, None, option_map, String, Vec, string_bytes, map, filter, fold, if◌then◌else◌}
use Rattle.base_devices.specs.Content.{Name, Value, set_at}
use Rattle.memory_devices.specs.declared.change.Change.{Change}
use Rattle.memory_devices.specs.declared.change.Change.TheVariants.{Begun, Appended, Unsynced, Synced, Renamed, Removed, Swept}
use Rattle.memory_devices.specs.declared.change.Sweep.{Sweep}
use Rattle.memory_devices.specs.declared.change.Sweep.TheVariants.{SyncFolders, SyncFolder, Sync}
use Rattle.memory_devices.specs.declared.trace.Trace.{Trace}
use Rattle.memory_devices.specs.State.{State, takes_in}

-- the state of a disk at one name
pub record NameState : Type 0 where
  pub now : Value
  pub kept : List Value
  pub unsynced : Bool

-- a state for each name
abbrev pub NameStates : Type 0
NameStates = Name → NameState

-- a name that keeps this value alone
abbrev pub first_at : Value → NameState
first_at value = record { now = value; kept = value ∷ []; unsynced = false }

-- the table of the disk model for the name that a call is about: no bytes
abbrev pub begun_at : NameState → NameState
begun_at s = record s { now = Some []; unsynced = true }

-- bytes at the end
abbrev pub appended_at : List ℕ → NameState → NameState
appended_at bytes s = record s { now = option_map (λ (old : List ℕ). old ++ bytes) s.now; unsynced = true }

-- a call on it failed
abbrev pub unsynced_at : NameState → NameState
unsynced_at s = record s { unsynced = true }

-- what it holds is kept too
abbrev pub synced_at : NameState → NameState
synced_at s = record s { kept = s.kept ++ s.now ∷ []; unsynced = false }

-- nothing, which is kept too
abbrev pub removed_at : NameState → NameState
removed_at s = record s { now = None; kept = s.kept ++ None ∷ [] }

-- a value that comes from another name, which is unsynced or not
abbrev pub arrived_at : Value → Bool → NameState → NameState
arrived_at value unsynced s = record { now = value; kept = s.kept ++ value ∷ []; unsynced = s.unsynced || unsynced }

-- what it holds is kept alone, unless it is unsynced
abbrev pub settled_at : NameState → NameState
settled_at s = if s.unsynced then s else record s { kept = s.now ∷ [] }

-- what it holds is kept too, where it is unsynced and has bytes
abbrev pub all_synced_at : NameState → NameState
all_synced_at s = if s.unsynced && is_some s.now then synced_at s else s

-- what a sweep does to each name
abbrev pub swept_at : Sweep → NameState → NameState
swept_at SyncFolders = settled_at
swept_at SyncFolder = settled_at
swept_at Sync = all_synced_at

-- another state at one name
abbrev pub changed_at : Name → (NameState → NameState) → NameStates → NameStates
changed_at name change f = set_at name (change (f name)) f

-- one name's value goes to another
abbrev pub renamed_at : Name → Name → NameStates → NameStates
renamed_at from to f = set_at to (arrived_at (f from).now (f from).unsynced (f to)) (changed_at from removed_at f)

-- each name that the sweep takes in is swept
abbrev pub swept_names : Sweep → Name → NameStates → NameStates
swept_names sweep folder f q = if takes_in sweep folder q then swept_at sweep (f q) else f q

-- after a change
abbrev pub step_at : NameStates → Change → NameStates
step_at f (Begun name) = changed_at (string_bytes name) begun_at f
step_at f (Appended name bytes) = changed_at (string_bytes name) (appended_at bytes.items) f
step_at f (Unsynced name) = changed_at (string_bytes name) unsynced_at f
step_at f (Synced name) = changed_at (string_bytes name) synced_at f
step_at f (Renamed from to) = renamed_at (string_bytes from) (string_bytes to) f
step_at f (Removed name) = changed_at (string_bytes name) removed_at f
step_at f (Swept sweep folder) = swept_names sweep (string_bytes folder) f

-- the state of a disk, name by name
abbrev pub states_of : State → NameStates
states_of s q = record { now = s.now q; kept = s.kept q; unsynced = s.unsynced q }

-- the bytes of a value in memory
abbrev pub value_of : Option (Vec ℕ Global) → Value
value_of = option_map (λ (v : Vec ℕ Global). v.items)

-- the state that a trace holds
abbrev pub state_of_trace : Trace → NameState
state_of_trace t = record { now = value_of t.bytes; kept = map value_of t.kept.items; unsynced = t.unsynced }

-- a name without a trace never had bytes
abbrev pub found_state : Option NameState → NameState
found_state None = first_at None
found_state (Some s) = s

-- the states that a map of traces holds
abbrev pub states_in : BTreeMap (String Global) Trace → NameStates
states_in traces q = found_state (option_map state_of_trace (get_by_text traces q))

-- the names of a map that pass a test
abbrev pub names_under : {X : Type 0} → (Name → Bool) → List (String Global × X) → List Name
names_under these entries = map (λ e. string_bytes e.0) (filter (λ e. these (string_bytes e.0)) entries)

-- each of the names is swept
abbrev pub each_swept : Sweep → List (String Global) → NameStates → NameStates
each_swept sweep names f = fold (λ g n. changed_at (string_bytes n) (swept_at sweep) g) f names

-- a name that is given the value of another
abbrev pub with_arrived : Name → Option (Vec ℕ Global) → Bool → NameStates → NameStates
with_arrived name value unsynced f = changed_at name (arrived_at (value_of value) unsynced) f

-- the same for one name's state
abbrev pub arrived : Option (Vec ℕ Global) → Bool → NameState → NameState
arrived value unsynced s = arrived_at (value_of value) unsynced s

-- what the change makes, unless the two names are the same
abbrev pub unless_same : {X : Type 0} → Name → Name → (X → X) → X → X
unless_same from to change x = if bytes_eq from to then x else change x

-- a name that is removed, unless it is the other one
abbrev pub removed_other : Name → Name → NameStates → NameStates
removed_other from to f = unless_same from to (changed_at from removed_at) f

-- the two have the same states at each other name
abbrev pub AgreeBut : Name → NameStates → NameStates → Type 0
AgreeBut name old new = (s : NameState) → set_at name s new ≡ set_at name s old
