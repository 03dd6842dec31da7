-- The disk model: what each change does to what a disk holds, keeps and has unsynced.
use Rattle.std.specs.declared.alloc.Global.{Global}
use Rattle.std.specs.Prelude.{◌≡◌, ◌≤◌, ◌+◌, length, String, Vec, ◌⊎◌, ◌&&◌, ◌||◌, not, is_some, drop, nat_eq, ℕ, Bool, true, false, List, [], ◌∷◌, ◌++◌, Some, None, string_bytes, if◌then◌else◌, fold, take}
use Rattle.std.specs.List.{list_any}
use Rattle.base_devices.specs.Moments.{View}
use Rattle.base_devices.specs.Content.{Name, Value, Content, set_at, put, lengthened, moved, is_below}
use Rattle.memory_devices.specs.declared.change.Change.{Change}
use Rattle.memory_devices.specs.declared.change.Change.TheVariants.{Begun, Appended, Unsynced, Synced, Renamed, Removed, Swept}
use Rattle.memory_devices.specs.declared.change.Sweep.{Sweep}
use Rattle.memory_devices.specs.declared.change.Sweep.TheVariants.{SyncFolders, SyncFolder, Sync}

-- what a disk holds, the values that a crash may leave at each name, and where it may leave any bytes
pub record State : Type 0 where
  pub now : Content
  pub kept : Name → List Value
  pub unsynced : Name → Bool

-- the table of the disk model, a row for each call
abbrev pub begun : Name → State → State
begun n s = record s { now = put n (Some []) s.now; unsynced = set_at n true s.unsynced }

abbrev pub appended : Name → List ℕ → State → State
appended n bytes s = record s { now = lengthened n bytes s.now; unsynced = set_at n true s.unsynced }

abbrev pub after_sync : Name → State → State
after_sync n s = record s { kept = set_at n (s.kept n ++ s.now n ∷ []) s.kept; unsynced = set_at n false s.unsynced }

abbrev pub renamed : Name → Name → State → State
renamed a b s = record {
  now = moved a b s.now;
  kept = set_at b (s.kept b ++ s.now a ∷ []) (set_at a (s.kept a ++ None ∷ []) s.kept);
  unsynced = set_at b (s.unsynced b || s.unsynced a) s.unsynced;
}

abbrev pub removed : Name → State → State
removed n s = record s { now = put n None s.now; kept = set_at n (s.kept n ++ None ∷ []) s.kept }

abbrev pub settled : (Name → Bool) → State → State
settled these s = record s { kept = λ q. if these q && not (s.unsynced q) then s.now q ∷ [] else s.kept q }

-- an unsynced name that has bytes is synced, any other stays unchanged
abbrev pub all_synced : (Name → Bool) → State → State
all_synced these s = record s {
  kept = λ q. if these q && (s.unsynced q && is_some (s.now q)) then s.kept q ++ s.now q
      ∷ [] else s.kept q;
  unsynced = λ q. if these q && (s.unsynced q && is_some (s.now q)) then false else s.unsynced q;
}

-- the name lies in the folder, and in none within it
abbrev pub is_directly_in : Name → Name → Bool
is_directly_in folder name = is_below folder name && not (list_any (nat_eq 47) (drop (length folder + 1) name))

-- the names that a sweep of a folder takes in
abbrev pub takes_in : Sweep → Name → Name → Bool
takes_in SyncFolders = is_below
takes_in SyncFolder = is_directly_in
takes_in Sync = is_below

abbrev pub swept : Sweep → Name → State → State
swept SyncFolders folder = settled (takes_in SyncFolders folder)
swept SyncFolder folder = settled (takes_in SyncFolder folder)
swept Sync folder = all_synced (takes_in Sync folder)

-- a begin, an append or a sync that failed
abbrev pub newly_unsynced : Name → State → State
newly_unsynced n s = record s { unsynced = set_at n true s.unsynced }

abbrev pub step : Change → State → State
step (Begun name) = begun (string_bytes name)
step (Appended name bytes) = appended (string_bytes name) bytes.items
step (Unsynced name) = newly_unsynced (string_bytes name)
step (Synced name) = after_sync (string_bytes name)
step (Renamed from to) = renamed (string_bytes from) (string_bytes to)
step (Removed name) = removed (string_bytes name)
step (Swept sweep folder) = swept sweep (string_bytes folder)

-- after these changes, the first of them first
abbrev pub after : State → List Change → State
after s [] = s
after s (change ∷ changes) = after (step change s) changes

-- what these names hold, the last of each counting
abbrev pub given_at : List (String Global × Vec ℕ Global) → Content
given_at = fold (λ f x. put (string_bytes x.0) (Some x.1.items) f) (λ _. None)

-- each name keeps what it holds alone, and none is unsynced
abbrev pub first_state : List (String Global × Vec ℕ Global) → State
first_state given = record { now = given_at given; kept = λ q. given_at given q ∷ []; unsynced = λ _. false }

-- one of them is this
abbrev pub Among : Value → List Value → Type 0
Among v [] = ⊥
Among v (x ∷ xs) = (v ≡ x) ⊎ Among v xs

-- the state at a moment, a change being a moment
abbrev pub state_at : State → List Change → ℕ → State
state_at first changes t = after first (take t changes)

abbrev pub kept_at : State → List Change → ℕ → Name → Value → Type 0
kept_at first changes t n v = Among v ((state_at first changes t).kept n)

abbrev pub has_unsynced_at : State → List Change → ℕ → Name → Bool
has_unsynced_at first changes t n = (state_at first changes t).unsynced n

-- the disk after these changes, as known
abbrev pub view_at : State → List Change → View
view_at first cs = record {
  now = Some (after first cs).now;
  moment = length cs;
  kept = kept_at first cs;
  unsynced = has_unsynced_at first cs;
}

-- the changes are one more, which does this to the state
pub record Adds (first : State) (next : State → State) (old new : List Change) : Type 0 where
  pub one : length new ≡ length old + 1
  pub past : (t : ℕ) → t ≤ length old → state_at first new t ≡ state_at first old t
  pub last : after first new ≡ next (after first old)
