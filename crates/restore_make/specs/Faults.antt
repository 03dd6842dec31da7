-- Why the files of a backup aren't all in their places. Own.
use Rattle.std.specs.Prelude.{ℕ, false, ◌≡◌, ◌<◌, [], ◌∷◌, List, ◌++◌, length, Option, Some, None, map, string_bytes, slice_get}
use Rattle.sha1.specs.Sha1.{sha1}
use Rattle.base_devices.specs.Cause.{Rises}
use Rattle.base_devices.specs.Links.{LinkState, last_five}
use Rattle.base_devices.specs.declared.device_error.DeviceError.{DeviceError}
use Rattle.base_devices.specs.declared.device_error.DeviceError.TheVariants as stops
use Rattle.base_text.specs.declared.sum.Sum.{Sum}
use Rattle.base_model.specs.declared.labels.Label.{Label}
use Rattle.base_model.specs.Text.{Text, In}
use Rattle.base_model.specs.Values.{FileEntry}
use Rattle.worker_protocol.specs.Frames.{Item, Job, spell}
use Rattle.worker_protocol.specs.Frames.Frame.{Unread}
use Rattle.worker_protocol.specs.declared.sinks.ItemEnd.{ItemEnd}
use Rattle.worker_protocol.specs.declared.sinks.ItemEnd.TheVariants.{Whole, Vanished}
use Rattle.worker_pool.specs.Reads.{UnreadBy, IsSteadyWorker}
use Rattle.worker_pool.specs.Run.{AllLost, UnreadLeaves, begun}
use Rattle.worker_pool.specs.declared.dispatch.fault.Lost.{Lost}
use Rattle.worker_pool.specs.declared.dispatch.fault.DispatchFault.{DispatchFault}
use Rattle.worker_pool.specs.declared.dispatch.fault.DispatchFault.TheVariants as dispatch
use Rattle.restore_steps.specs.declared.contents.files.Wanted.{Wanted}
use Rattle.restore_steps.specs.declared.contents.files.Filed.{Filed}
use Rattle.restore_steps.specs.Files.{is_wanted}
use Rattle.restore_steps.specs.Sources.{source}
use Rattle.restore_make.specs.declared.fault.FillFault.{FillFault}
use Rattle.restore_make.specs.declared.fault.FillFault.TheVariants as faults
use Rattle.restore_make.specs.Written.{IsReadOf}
use Rattle.restore_make.specs.Entries.{AreOf}

-- which fault it is that a call of the data folder failed
abbrev pub of_stop : DeviceError → FillFault
of_stop stops.Failed = faults.DataFolder
of_stop stops.NoMemory = faults.NoMemory

-- ---- what a run of jobs reports

-- the digest that was found, where there is one
abbrev pub found_by : Option ItemEnd → Sum → Sum
found_by None known = known
found_by (Some (Whole n sum)) known = sum
found_by (Some Vanished) known = known

-- the fault reports this file, that it isn't as requested
abbrev pub ShowsDamage : Filed → FillFault → Type 0
ShowsDamage f (faults.FileDamaged path known found) = (string_bytes path ≡ f.wanted.path.now) × (known ≡ f.wanted.sum)
    × (found ≡ found_by f.end f.wanted.sum)
ShowsDamage f faults.WorkersLost = ⊥
ShowsDamage f (faults.Unread path) = ⊥
ShowsDamage f faults.DataFolder = ⊥
ShowsDamage f faults.NoMemory = ⊥

-- the file is one of these, and isn't as requested
abbrev pub IsWrongAmong : List Filed → Filed → Type 0
IsWrongAmong fs f = (i : ℕ) × (slice_get fs i ≡ Some f) × (is_wanted f.wanted f.end ≡ false)

-- one of these files isn't as requested, and the fault reports it; or memory ran out
abbrev pub ShowsWrong : List Filed → FillFault → Type 0
ShowsWrong fs (faults.FileDamaged path known found) = (i : ℕ) × (f : Filed) × (slice_get fs i ≡ Some f)
    × (is_wanted f.wanted f.end ≡ false) × ShowsDamage f (faults.FileDamaged path known found)
ShowsWrong fs faults.WorkersLost = ⊥
ShowsWrong fs (faults.Unread path) = ⊥
ShowsWrong fs faults.DataFolder = ⊥
ShowsWrong fs faults.NoMemory = Unit {0}

-- where a worker couldn't read a job, there is a file for the job
abbrev pub HasItsFile : DispatchFault → ℕ → Type 0
HasItsFile dispatch.WorkersLost n = Unit {0}
HasItsFile (dispatch.Unread j item) n = j < n
HasItsFile dispatch.PartSink n = Unit {0}
HasItsFile dispatch.NoMemory n = Unit {0}

-- the fault of the run, by the names of files; or memory ran out
abbrev pub Names : List Wanted → DispatchFault → FillFault → Type 0
Names ws fault (faults.FileDamaged path known found) = ⊥
Names ws fault faults.WorkersLost = fault ≡ dispatch.WorkersLost
Names ws fault (faults.Unread path) = (j item : ℕ) × (w : Wanted) × (fault ≡ dispatch.Unread j item)
    × (slice_get ws j ≡ Some w) × (string_bytes path ≡ w.path.now)
Names ws fault faults.DataFolder = fault ≡ dispatch.PartSink
Names ws fault faults.NoMemory = Unit {0}

-- ---- why files weren't written

-- a link read bytes of another number or digest than are requested
pub record IsWrongFile (links : List LinkState) (jobs : List Job) (ws : List Wanted) (path : Text)
    (known found : Sum) : Type 0 where
  pub place : ℕ
  pub wanted : Wanted
  pub wanted_is : slice_get ws place ≡ Some wanted
  pub job : Job
  pub job_is : slice_get jobs place ≡ Some job
  pub path_is : path ≡ wanted.path.now
  pub known_fact_is : known ≡ wanted.sum
  pub item : Item
  pub items : job.items ≡ item ∷ []
  pub bytes : Text
  pub read : IsReadOf links item bytes
  pub found_is : found.0 ≡ sha1 bytes
  pub wrong : ¬ ((length bytes ≡ wanted.size) × (sha1 bytes ≡ wanted.sum.0))

-- the worker on the one link that is left couldn't read the file's job
pub record IsUnreadFile (jobs : List Job) (ws : List Wanted) (links left : List LinkState) (before : List Lost)
    (path : Text) : Type 0 where
  pub place : ℕ
  pub item : ℕ
  pub wanted : Wanted
  pub wanted_is : slice_get ws place ≡ Some wanted
  pub path_is : path ≡ wanted.path.now
  pub leaves : UnreadLeaves jobs (begun links before) place item (map Some left)

abbrev pub WriteFails : FillFault → List Job → List Wanted → List LinkState → List LinkState → List Lost → List Lost → ℕ
    → ℕ → Type 0
WriteFails (faults.FileDamaged path known found) jobs ws links left before after old new =
    IsWrongFile links jobs ws (string_bytes path) known found
WriteFails faults.WorkersLost jobs ws links left before after old new = AllLost jobs (begun links before) after
WriteFails (faults.Unread path) jobs ws links left before after old new =
    IsUnreadFile jobs ws links left before (string_bytes path)
WriteFails faults.DataFolder jobs ws links left before after old new = Rises old new
WriteFails faults.NoMemory jobs ws links left before after old new = Unit {0}

-- ---- why a backup's files weren't

-- a link read other bytes at an entry's place than the entry states
pub record IsDamaged (stanza : Text) (own : Label) (links : List LinkState) (es : List FileEntry) (path : Text)
    (known found : Sum) : Type 0 where
  pub entry : FileEntry
  pub listed : In entry es
  pub path_is : path ≡ entry.path
  pub known_fact_is : known.0 ≡ entry.sum
  pub bytes : Text
  pub read : IsReadOf links (source stanza own entry) bytes
  pub found_is : found.0 ≡ sha1 bytes
  pub wrong : ¬ AreOf entry bytes

-- the worker on the one link that is left couldn't read an entry's job
pub record IsUnread (stanza : Text) (own : Label) (links left : List LinkState) (es : List FileEntry)
    (path : Text) : Type 0 where
  pub entry : FileEntry
  pub listed : In entry es
  pub path_is : path ≡ entry.path
  pub now : LinkState
  pub is : left ≡ now ∷ []
  pub given : last_five now.given ≡ spell Unread
  pub link : ℕ
  pub from : LinkState
  pub from_is : slice_get links link ≡ Some from
  pub unread : UnreadBy from.known (source stanza own entry)

-- each of these links has an entry, and none is a steady worker
pub record AreLost (links : List LinkState) (before after : List Lost) : Type 0 where
  pub entries : List Lost
  pub is : after ≡ before ++ entries
  pub count : length entries ≡ length links
  pub unsteady : (i : ℕ) (s : LinkState) → slice_get links i ≡ Some s → ¬ IsSteadyWorker s.known

abbrev pub FillFails : FillFault → Text → Label → List FileEntry → List LinkState → List LinkState → List Lost
    → List Lost → ℕ → ℕ → Type 0
FillFails (faults.FileDamaged path known found) stanza own es links left before after old new =
    IsDamaged stanza own links es (string_bytes path) known found
FillFails faults.WorkersLost stanza own es links left before after old new = AreLost links before after
FillFails (faults.Unread path) stanza own es links left before after old new =
    IsUnread stanza own links left es (string_bytes path)
FillFails faults.DataFolder stanza own es links left before after old new = Rises old new
FillFails faults.NoMemory stanza own es links left before after old new = Unit {0}

-- the fault of a file that was written under another name, by its own
abbrev pub Renames : Text → FillFault → FillFault → Type 0
Renames path (faults.FileDamaged at known found) (faults.FileDamaged own known' found') = (string_bytes own ≡ path)
    × (known' ≡ known) × (found' ≡ found)
Renames path (faults.Unread at) (faults.Unread own) = string_bytes own ≡ path
Renames path faults.WorkersLost faults.WorkersLost = Unit {0}
Renames path faults.DataFolder faults.DataFolder = Unit {0}
Renames path faults.NoMemory faults.NoMemory = Unit {0}
Renames path old new = ⊥
