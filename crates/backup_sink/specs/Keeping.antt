-- What a backup holds of its jobs, and the names at which it holds it. Own.
use Rattle.std.specs.Prelude.{◌≡◌, ◌+◌, ◌||◌, ℕ, Bool, true, false, List, [], ◌∷◌, ◌++◌, length, take, drop, Option, Some, option_map, unwrap_or, IfSome, IsSomeAnd, if◌then◌else◌, slice_get, slice_set, codes}
use Rattle.base_devices.specs.Content.{Name, Value, Content, at, is_below}
use Rattle.base_devices.specs.Crash.{IsTemporary}
use Rattle.base_devices.specs.Cause.{Rises}
use Rattle.base_devices.specs.declared.device_error.DeviceError.{DeviceError}
use Rattle.base_devices.specs.declared.device_error.DeviceError.TheVariants.{Failed, NoMemory}
use Rattle.base_model.specs.Text.{Text, ◌⫽◌}
use Rattle.worker_protocol.specs.declared.sinks.ItemEnd.{ItemEnd}
use Rattle.worker_protocol.specs.PartSinkState.{Done, JobItems}
use Rattle.backup_sink.specs.declared.keeper.Stored.{Stored}
use Rattle.backup_sink.specs.declared.keeper.EndedItem.{EndedItem}

-- ---- one job

-- how far a job has come: whether its name is begun, which items have ended, and how many bytes were received of the
-- next
pub record Progress : Type 0 where
  pub begun : Bool
  pub ended : List EndedItem
  pub count : ℕ

abbrev pub progress_of : Stored → Progress
progress_of s = record { begun = s.begun; ended = s.ended.items; count = s.count }

-- nothing has come
abbrev pub nothing : Progress
nothing = record { begun = false; ended = []; count = 0 }

-- this many bytes of the next item have come
abbrev pub grown : ℕ → Progress → Progress
grown count p = record { begun = true; ended = p.ended; count = count }

-- the next item ended so
abbrev pub after_end : ItemEnd → Progress → Progress
after_end how p = record { begun = p.begun; ended = p.ended ++ (record { count = p.count; how = how }) ∷ []; count = 0 }

-- the one job has this progress now
pub record Becomes (job : ℕ) (after : Progress) (old new : List Progress) : Type 0 where
  pub is : new ≡ slice_set old job after

-- the one job has what this makes of its progress
abbrev pub BecomesBy : ℕ → (Progress → Progress) → List Progress → List Progress → Type 0
BecomesBy job change old new = IfSome (slice_get old job) (λ p. Becomes job (change p) old new)

-- what a name holds after these bytes were added, where it was begun, or were the first
abbrev pub lengthened_from : Bool → Text → Option Value → Option Value
lengthened_from begun bytes = option_map (λ (v : Value). Some ((if begun then unwrap_or v [] else []) ++ bytes))

-- ---- what is held

-- how many bytes were received of the items that have ended
abbrev pub total : List EndedItem → ℕ
total [] = 0
total (e ∷ es) = e.count + total es

-- the bytes of the job so far, where they are known
abbrev pub job_bytes : Progress → Option Value → Option Text
job_bytes p value = option_map (λ (v : Value). if p.begun then unwrap_or v [] else []) value

-- the bytes of its items that have ended lie one after another
abbrev pub dones : List EndedItem → Option Text → List Done
dones [] b = []
dones (e ∷ es) b = (record { held = record { count = e.count; known = option_map (take e.count) b }; end = e.how })
    ∷ dones es (option_map (drop e.count) b)

-- what is held of a job whose name has this value
abbrev pub kept_of : Progress → Option Value → JobItems
kept_of p value = record {
  done = dones p.ended (job_bytes p value);
  held = record { count = p.count; known = option_map (drop (total p.ended)) (job_bytes p value) };
}

-- what is held of each job, by the name at which its bytes lie
abbrev pub keeps : List Name → List Progress → Option Content → List JobItems
keeps [] ps now = []
keeps (n ∷ ns) [] now = []
keeps (n ∷ ns) (p ∷ ps) now = kept_of p (at n now) ∷ keeps ns ps now

-- the disk has at the job's name as many bytes as were received
pub record IsKept (p : Progress) (value : Option Value) : Type 0 where
  pub none : p.begun ≡ false → (total p.ended ≡ 0) × (p.count ≡ 0)
  pub bytes : p.begun ≡ true → IfSome value (λ v. IsSomeAnd v (λ b. length b ≡ total p.ended + p.count))

-- the same for each job
abbrev pub Agrees : List Name → List Progress → Option Content → Type 0
Agrees names ps now = (j : ℕ) (n : Name) (p : Progress) → slice_get names j ≡ Some n → slice_get ps j ≡ Some p
    → IsKept p (at n now)

-- ---- names

-- a name at which a backup in this folder keeps bytes
abbrev pub is_own : Name → Name → Bool
is_own folder name = is_below (folder ⫽ codes "pg_data") name || is_below (folder ⫽ codes "bundle") name

-- the jobs have names of their own in the folder, none of them temporary
pub record IsPlan (folder : Name) (names : List Name) : Type 0 where
  pub own : (j : ℕ) (n : Name) → slice_get names j ≡ Some n → is_own folder n ≡ true
  pub apart : (i j : ℕ) (n : Name) → slice_get names i ≡ Some n → slice_get names j ≡ Some n → i ≡ j
  pub lasting : (j : ℕ) (n : Name) → slice_get names j ≡ Some n → ¬ IsTemporary n

-- ---- faults

-- a failed call of the disk is counted
abbrev pub CountsFault : DeviceError → ℕ → ℕ → Type 0
CountsFault Failed old new = Rises old new
CountsFault NoMemory old new = new ≡ old
