-- What a crash at a moment leaves of a disk in memory, as it is chosen.
use Rattle.std.specs.declared.alloc.Global.{Global}
use Rattle.std.specs.BTreeMap.{BTreeMap, get_by_text}
use Rattle.std.specs.Prelude.{ℕ, ◌-◌, Bool, List, [], ◌∷◌, Option, Some, None, String, Vec, string_bytes, length, map, filter, fold, nat_lt, slice_index_or}
use Rattle.std.specs.List.{list_all}
use Rattle.std.specs.Option.{unwrap_or}
use Rattle.base_devices.specs.Content.{Name, Value, Content, set_at}
use Rattle.memory_devices.specs.declared.trace.Trace.{Trace}
use Rattle.memory_devices.specs.declared.held.Held.{Held}
use Rattle.memory_devices.specs.State.{state_at, first_state, given_at}
use Rattle.memory_devices.specs.Replay.{NameState, NameStates, states_of, state_of_trace}

-- a disk at a moment, name by name
abbrev pub states_then : Held → ℕ → NameStates
states_then h t = states_of (state_at (first_state h.given.items) h.changes.items t)

-- the positions that were chosen, the last of each name counting
abbrev pub positions_at : List (String Global × ℕ) → Name → Option ℕ
positions_at = fold (λ f x. set_at (string_bytes x.0) (Some x.1) f) (λ _. None)

-- the kept value at the position, or the last one
abbrev pub picked : List Value → Option ℕ → Value
picked kept position = slice_index_or kept (unwrap_or position (length kept - 1)) None

-- the bytes given for an unsynced name, or the kept value that was picked
abbrev pub left_value : NameState → Option ℕ → Value → Value
left_value s position None = picked s.kept position
left_value s position (Some bytes) = Some bytes

-- what a crash leaves, with these positions and the bytes of the unsynced names
abbrev pub left_of : NameStates → (Name → Option ℕ) → Content → Content
left_of states positions unsynced q = left_value (states q) (positions q) (unsynced q)

-- what a crash leaves, as it is chosen
abbrev pub image_of : NameStates → List (String Global × ℕ) → List (String Global × Vec ℕ Global) → Content
image_of states choice unsynced = left_of states (positions_at choice) (given_at unsynced)

-- bytes are given for unsynced names alone
abbrev pub are_unsynced : NameStates → List (String Global × Vec ℕ Global) → Bool
are_unsynced states = list_all (λ x. (states (string_bytes x.0)).unsynced)

-- each position is below the number of the name's kept values
abbrev pub are_kept : NameStates → List (String Global × ℕ) → Bool
are_kept states = list_all (λ x. nat_lt x.1 (length (states (string_bytes x.0)).kept))

-- the positions in a map
abbrev pub positions_in : BTreeMap (String Global) ℕ → Name → Option ℕ
positions_in m q = get_by_text m q

-- the unsynced names of a map
abbrev pub unsynced_names : List (String Global × Trace) → List Name
unsynced_names entries = map (λ e. string_bytes e.0) (filter (λ e. (state_of_trace e.1).unsynced) entries)

-- one name more, where it has bytes
abbrev pub with_value : Name → Value → List (Name × List ℕ) → List (Name × List ℕ)
with_value name None others = others
with_value name (Some bytes) others = (name, bytes) ∷ others

-- the names with bytes that a crash leaves of these traces
abbrev pub left_names : (Name → Option ℕ) → Content → List (String Global × Trace) → List (Name × List ℕ)
left_names positions unsynced [] = []
left_names positions unsynced (e ∷ es) = let n = string_bytes e.0 in
    with_value n (left_value (state_of_trace e.1) (positions n) (unsynced n)) (left_names positions unsynced es)

-- names with their bytes
abbrev pub named : List (String Global × Vec ℕ Global) → List (Name × List ℕ)
named = map (λ x. (string_bytes x.0, x.1.items))
