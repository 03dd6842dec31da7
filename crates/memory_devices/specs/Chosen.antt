-- What a crash leaves of a disk in memory, as it is chosen, and which choices are refused.
use Rattle.std.specs.declared.alloc.Global.{Global}
use Rattle.std.specs.BTreeMap.{BTreeMap}
use Rattle.std.specs.Prelude.{◌≡◌, ℕ, false, List, String, Vec}
use Rattle.base_devices.specs.Content.{Name, Value, Content}
use Rattle.memory_devices.specs.declared.held.Held.{Held}
use Rattle.memory_devices.specs.declared.trace.Trace.{Trace}
use Rattle.memory_devices.specs.Agrees.{bytes_at}
use Rattle.memory_devices.specs.Image.{states_then, left_value, left_of, image_of, are_unsynced, are_kept, positions_in}
use Rattle.memory_devices.specs.Replay.{NameStates, states_in, state_of_trace}
use Rattle.memory_devices.specs.State.{given_at}

-- these names are what a crash at the moment leaves by this choice
abbrev pub LeavesChosen : Held → ℕ → List (String Global × ℕ) → List (String Global × Vec ℕ Global)
    → List (String Global × Vec ℕ Global) → Type 0
LeavesChosen held moment choice unsynced names =
    given_at names ≡ image_of (states_then held moment) choice unsynced

-- bytes are given for a name that isn't unsynced
abbrev pub AreNotUnsynced : NameStates → List (String Global × Vec ℕ Global) → Type 0
AreNotUnsynced states unsynced = are_unsynced states unsynced ≡ false

-- one that isn't so at the moment
abbrev pub NotUnsyncedAt : Held → ℕ → List (String Global × Vec ℕ Global) → Type 0
NotUnsyncedAt held moment unsynced = AreNotUnsynced (states_then held moment) unsynced

-- a position isn't one of a value that the name kept at the moment
abbrev pub NotKeptAt : Held → ℕ → List (String Global × ℕ) → Type 0
NotKeptAt held moment choice = are_kept (states_then held moment) choice ≡ false

-- what a crash leaves by positions and bytes that are in maps
abbrev pub left_by : BTreeMap (String Global) Trace → BTreeMap (String Global) ℕ
    → BTreeMap (String Global) (Vec ℕ Global) → Content
left_by traces positions given = left_of (states_in traces) (positions_in positions) (bytes_at given)

-- what it leaves at the name of a trace
abbrev pub value_left : Name → Trace → BTreeMap (String Global) ℕ → BTreeMap (String Global) (Vec ℕ Global) → Value
value_left name trace positions given =
    left_value (state_of_trace trace) (positions_in positions name) (bytes_at given name)
