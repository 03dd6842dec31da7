-- What is known of a disk in memory, and what a call did to it.
use Rattle.std.specs.Prelude.{◌≡◌, Bool, false, Some, MatchBool}
use Rattle.base_devices.specs.Content.{Name, Value, Content}
use Rattle.base_devices.specs.Moments.{View, MayKeep, is_unsynced}
use Rattle.memory_devices.specs.declared.disk.MemDisk.{MemDisk}
use Rattle.memory_devices.specs.declared.held.Held.{Held}
use Rattle.memory_devices.specs.Counts.{is_to_fail}
use Rattle.memory_devices.specs.State.{State, after, first_state, view_at, Adds, newly_unsynced}

-- what a disk in memory holds, and what is known of it
abbrev pub state_of : Held → State
state_of h = after (first_state h.given.items) h.changes.items

abbrev pub view_of : Held → View
view_of h = view_at (first_state h.given.items) h.changes.items

-- one change more, which does this to the state
pub record Notes (next : State → State) (old new : Held) : Type 0 where
  pub given : new.given.items ≡ old.given.items
  pub adds : Adds (first_state old.given.items) next old.changes.items new.changes.items

-- nothing was done
pub record IsAsBefore (old new : Held) : Type 0 where
  pub given : new.given.items ≡ old.given.items
  pub changes : new.changes.items ≡ old.changes.items

-- a begin, an append or a sync that is to fail makes its name unsynced
abbrev pub FailsAt : Name → Bool → Held → Held → Type 0
FailsAt name to_fail old new = MatchBool to_fail (Notes (newly_unsynced name) old new) (IsAsBefore old new)

-- so on a disk, whose next call may be one that is to fail
abbrev pub FailsAtName : Name → MemDisk → MemDisk → Type 0
FailsAtName name old new = FailsAt name (is_to_fail old.failing) old.held new.held

-- a disk with this content at its first moment, of which a crash leaves nothing else
pub record StartsWith (content : Content) (v : View) : Type 0 where
  pub now : v.now ≡ Some content
  pub moment : v.moment ≡ 0
  pub kept : (n : Name) (x : Value) → MayKeep v n x → x ≡ content n
  pub synced : (n : Name) → is_unsynced v n ≡ false
