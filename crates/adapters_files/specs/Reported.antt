-- What the adapters of the system's files report. Own.
use Rattle.std.specs.Prelude.{◌≡◌, ◌≢◌, ◌⊎◌, ◌∷◌, ◌++◌, List, String, map, string_bytes}
use Rattle.std.specs.declared.alloc.Global.{Global}
use Rattle.std.specs.declared.io.ErrorKind.{ErrorKind}
use Rattle.std.specs.declared.io.ErrorKind.TheVariants.{NotFound, NotADirectory}
use Rattle.base_devices.specs.Content.{Name}
use Rattle.base_devices.specs.Locking.{with_lock}
use Rattle.base_devices.specs.States.{last_opened}
use Rattle.base_devices.specs.declared.locks.LockAnswer.{LockAnswer}
use Rattle.adapters_files.specs.declared.locks.Lock.{Lock}

-- the names of locks
abbrev pub lock_names : List Lock → List Name
lock_names locks = map (λ (x : Lock). string_bytes x.name) locks

-- the lock of this name was taken, or it was held
abbrev pub AddsLock : Name → List Lock → List Lock → LockAnswer → Type 0
AddsLock name old new taken = lock_names new ≡ with_lock taken name (lock_names old)

-- the places that were opened
abbrev pub places_of : List (String Global) → List Name
places_of opened = map string_bytes opened

-- it is the path of this name below the place that was opened last
abbrev pub IsPathBelow : List (String Global) → Name → String Global → Type 0
IsPathBelow opened name path = string_bytes path ≡ last_opened (places_of opened) ++ 47 ∷ name

-- the name is absent, or it leads through a file
abbrev pub IsAbsence : ErrorKind → Type 0
IsAbsence kind = (kind ≡ NotFound) ⊎ (kind ≡ NotADirectory)

-- this holds of any other error
abbrev pub WhereNoAbsence : ErrorKind → Type 0 → Type 0
WhereNoAbsence kind P = kind ≢ NotFound → kind ≢ NotADirectory → P
