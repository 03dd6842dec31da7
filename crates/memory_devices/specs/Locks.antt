-- What is known of locks in memory.
use Rattle.std.specs.Prelude.{◌≡◌, ℕ, List, String, map, string_bytes}
use Rattle.std.specs.declared.alloc.Global.{Global}
use Rattle.base_devices.specs.Content.{Name}
use Rattle.base_devices.specs.declared.locks.LockAnswer.{LockAnswer}
use Rattle.base_devices.specs.declared.locks.LockAnswer.TheVariants.{Acquired, Busy}
use Rattle.base_devices.specs.Locking.{with_lock}
use Rattle.memory_devices.specs.declared.locks.MemLocks.{MemLocks}
use Rattle.memory_devices.specs.Counts.{risen}

-- the names that these texts are
abbrev pub names_in : List (String Global) → List Name
names_in = map string_bytes

-- the folders and names of these locks
abbrev pub locks_in : List (String Global × String Global) → List (Name × Name)
locks_in = map (λ (x : String Global × String Global). (string_bytes x.0, string_bytes x.1))

-- how often a lock was held, after one more take
abbrev pub refused : LockAnswer → ℕ → ℕ
refused Busy n = risen n
refused Acquired n = n

-- the names that it took and didn't release, and all locks that it ever took
abbrev pub taken_names : MemLocks → List Name
taken_names l = names_in l.taken.items

abbrev pub all_taken : MemLocks → List (Name × Name)
all_taken l = locks_in l.ever_taken.items

-- the lock is added to all that it ever took, where it was taken
abbrev pub AddsLock : LockAnswer → Name × Name → MemLocks → MemLocks → Type 0
AddsLock answer lock old new = all_taken new ≡ with_lock answer lock (all_taken old)

-- it has those that it had
abbrev pub KeepsLocks : MemLocks → MemLocks → Type 0
KeepsLocks old new = (new.taken.items ≡ old.taken.items) × (new.ever_taken.items ≡ old.ever_taken.items)
