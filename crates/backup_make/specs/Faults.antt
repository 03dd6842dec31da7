-- Why a backup isn't made, and what is left then. Own.
use Rattle.std.specs.Prelude.{◌≡◌, ◌<◌, ℕ, List, [], ◌∷◌, Option, Some, None, length, slice_get, string_bytes}
use Rattle.base_devices.specs.Links.{LinkState, last_five}
use Rattle.base_devices.specs.Cause.{Rises}
use Rattle.base_devices.specs.declared.device_error.DeviceError.{DeviceError}
use Rattle.base_devices.specs.declared.device_error.DeviceError.TheVariants as stops
use Rattle.worker_protocol.specs.Frames.{Item, Job, spell}
use Rattle.worker_protocol.specs.Frames.Frame.{Unread}
use Rattle.base_model.specs.Text.{Text, In}
use Rattle.base_model.specs.InfoText.{info_text}
use Rattle.base_model.specs.InfoFiles.{backup_sections, info_limit}
use Rattle.base_model.specs.ManifestText.{manifest_limit}
use Rattle.base_model.specs.Values.{BackupInfo}
use Rattle.repo_pair.specs.declared.fault.SaveFault.{SaveFault}
use Rattle.repo_pair.specs.declared.fault.SaveFault.TheVariants as saves
use Rattle.repo_manifest.specs.declared.write_fault.WriteFault.{WriteFault}
use Rattle.repo_manifest.specs.declared.write_fault.WriteFault.TheVariants as writes
use Rattle.repo_manifest.specs.Keeping.{manifest_text}
use Rattle.worker_protocol.specs.PartSinkState.{JobItems}
use Rattle.backup_sink.specs.declared.keeper.EndedItem.{EndedItem}
use Rattle.worker_pool.specs.declared.dispatch.fault.Lost.{Lost}
use Rattle.worker_pool.specs.Reads.{UnreadBy}
use Rattle.worker_pool.specs.Run.{AllDone, AllLost, begun}
use Rattle.backup_record.specs.declared.manifest_record.RecordFault.{RecordFault}
use Rattle.backup_record.specs.declared.manifest_record.RecordFault.TheVariants as records
use Rattle.backup_record.specs.Ends.{AreAllEnds}
use Rattle.backup_record.specs.Faults.{IsMissing}
use Rattle.backup_record.specs.Making.{IsListWith}
use Rattle.backup_make.specs.declared.draft.Draft.{Draft}
use Rattle.backup_make.specs.declared.fault.MakeFault.{MakeFault}
use Rattle.backup_make.specs.declared.fault.MakeFault.TheVariants as faults
use Rattle.backup_make.specs.Draft.{jobs_in, list_in, files_with, manifest_for}
use Rattle.backup_make.specs.Online.{Online}

-- why a call of the disk stopped
abbrev pub fault_of : DeviceError → MakeFault
fault_of stops.Failed = faults.Disk
fault_of stops.NoMemory = faults.NoMemory

abbrev pub fault_of_record : RecordFault → MakeFault
fault_of_record (records.ControlMissing path) = faults.ControlMissing path
fault_of_record records.NoMemory = faults.NoMemory

abbrev pub fault_of_write : WriteFault → MakeFault
fault_of_write (writes.TooLong length) = faults.ManifestTooLong length
fault_of_write writes.Disk = faults.Disk
fault_of_write writes.NoMemory = faults.NoMemory

abbrev pub fault_of_save : SaveFault → MakeFault
fault_of_save saves.Disk = faults.Disk
fault_of_save saves.NoMemory = faults.NoMemory

-- A worker on one of these links couldn't read an item of this path, which is one of the jobs', and answered so. Its
-- link alone is left.
pub record IsUnread (jobs : List Job) (links left : List LinkState) (path : Text) : Type 0 where
  pub now : LinkState
  pub is : left ≡ now ∷ []
  pub given : last_five now.given ≡ spell Unread
  pub link : ℕ
  pub from : LinkState
  pub from_is : slice_get links link ≡ Some from
  pub job : Job
  pub asked : In job jobs
  pub item : Item
  pub of_job : In item job.items
  pub path_is : item.path ≡ path
  pub unread : UnreadBy from.known item

-- Why the jobs over these links weren't stored. Each link is lost, and its entry states why; or the worker on the one
-- link that is left couldn't read a file; or the disk failed, which its count shows; or memory ran out.
abbrev pub StoreFails : MakeFault → List Job → List LinkState → List LinkState → List Lost → List Lost → ℕ → ℕ → Type 0
StoreFails faults.WorkersLost jobs links left before after old new = AllLost jobs (begun links before) after
StoreFails (faults.Unread path) jobs links left before after old new = IsUnread jobs links left (string_bytes path)
StoreFails (faults.ControlMissing path) jobs links left before after old new = ⊥
StoreFails (faults.ManifestTooLong n) jobs links left before after old new = ⊥
StoreFails (faults.ListTooLong n) jobs links left before after old new = ⊥
StoreFails faults.Clock jobs links left before after old new = ⊥
StoreFails faults.Disk jobs links left before after old new = Rises old new
StoreFails faults.NoMemory jobs links left before after old new = Unit {0}

-- ---- after the jobs

-- the list would be too long with the manifest's backup
pub record IsListLong (d : Draft) (o : Option Online) (ends : List (List EndedItem)) (n : ℕ) : Type 0 where
  pub stop : ℕ
  pub list : BackupInfo
  pub listed : IsListWith (list_in d) (manifest_for d o ends stop) list
  pub count : n ≡ length (info_text (backup_sections list))
  pub past : info_limit < n

-- the manifest would be
pub record IsManifestLong (d : Draft) (o : Option Online) (ends : List (List EndedItem)) (n : ℕ) : Type 0 where
  pub stop : ℕ
  pub count : n ≡ length (manifest_text (manifest_for d o ends stop))
  pub past : manifest_limit < n

-- so they would be of a stopped server's backup
abbrev pub IsListTooLong : Draft → List (List EndedItem) → ℕ → Type 0
IsListTooLong d ends n = IsListLong d None ends n

abbrev pub IsManifestTooLong : Draft → List (List EndedItem) → ℕ → Type 0
IsManifestTooLong d ends n = IsManifestLong d None ends n

-- Why no second is given.
abbrev pub StopFails : MakeFault → ℕ → ℕ → Type 0
StopFails faults.WorkersLost old new = ⊥
StopFails (faults.Unread path) old new = ⊥
StopFails (faults.ControlMissing path) old new = ⊥
StopFails (faults.ManifestTooLong n) old new = ⊥
StopFails (faults.ListTooLong n) old new = ⊥
StopFails faults.Clock old new = Rises old new
StopFails faults.Disk old new = ⊥
StopFails faults.NoMemory old new = Unit {0}

-- Why a list of this many bytes has no text.
abbrev pub ListFails : MakeFault → ℕ → Type 0
ListFails faults.WorkersLost count = ⊥
ListFails (faults.Unread path) count = ⊥
ListFails (faults.ControlMissing path) count = ⊥
ListFails (faults.ManifestTooLong n) count = ⊥
ListFails (faults.ListTooLong n) count = (n ≡ count) × (info_limit < n)
ListFails faults.Clock count = ⊥
ListFails faults.Disk count = ⊥
ListFails faults.NoMemory count = Unit {0}

-- Why nothing is prepared of a draft whose jobs ended so.
abbrev pub PrepareFails : MakeFault → Draft → Option Online → List (List EndedItem) → Type 0
PrepareFails faults.WorkersLost d o ends = ⊥
PrepareFails (faults.Unread path) d o ends = ⊥
PrepareFails (faults.ControlMissing path) d o ends = IsMissing path.now (files_with d ends)
PrepareFails (faults.ManifestTooLong n) d o ends = ⊥
PrepareFails (faults.ListTooLong n) d o ends = IsListLong d o ends n
PrepareFails faults.Clock d o ends = ⊥
PrepareFails faults.Disk d o ends = ⊥
PrepareFails faults.NoMemory d o ends = Unit {0}

-- Why it isn't published, between two counts of the disk's faults.
abbrev pub PublishFails : MakeFault → Draft → Option Online → List (List EndedItem) → ℕ → ℕ → Type 0
PublishFails faults.WorkersLost d o ends old new = ⊥
PublishFails (faults.Unread path) d o ends old new = ⊥
PublishFails (faults.ControlMissing path) d o ends old new = IsMissing path.now (files_with d ends)
PublishFails (faults.ManifestTooLong n) d o ends old new = IsManifestLong d o ends n
PublishFails (faults.ListTooLong n) d o ends old new = IsListLong d o ends n
PublishFails faults.Clock d o ends old new = ⊥
PublishFails faults.Disk d o ends old new = Rises old new
PublishFails faults.NoMemory d o ends old new = Unit {0}

-- Why a file isn't written.
abbrev pub WriteFails : MakeFault → ℕ → ℕ → Type 0
WriteFails faults.WorkersLost old new = ⊥
WriteFails (faults.Unread path) old new = ⊥
WriteFails (faults.ControlMissing path) old new = ⊥
WriteFails (faults.ManifestTooLong n) old new = ⊥
WriteFails (faults.ListTooLong n) old new = ⊥
WriteFails faults.Clock old new = ⊥
WriteFails faults.Disk old new = Rises old new
WriteFails faults.NoMemory old new = Unit {0}

-- Why the stop isn't taken of a running server's backup, between two counts of the disk's faults, and two of the
-- clock's.
abbrev pub CloseFails : MakeFault → ℕ → ℕ → ℕ → ℕ → Type 0
CloseFails faults.WorkersLost old new known shows = ⊥
CloseFails (faults.Unread path) old new known shows = ⊥
CloseFails (faults.ControlMissing path) old new known shows = ⊥
CloseFails (faults.ManifestTooLong n) old new known shows = ⊥
CloseFails (faults.ListTooLong n) old new known shows = ⊥
CloseFails faults.Clock old new known shows = Rises known shows
CloseFails faults.Disk old new known shows = Rises old new
CloseFails faults.NoMemory old new known shows = Unit {0}

-- links of these did the jobs, and each item ended so
pub record IsDone (d : Draft) (links : List LinkState) (ends : List (List EndedItem)) : Type 0 where
  pub kept : List JobItems
  pub received : AllDone (jobs_in d) links kept
  pub are : AreAllEnds ends kept

-- the same for jobs that were done
abbrev pub WhereDone : Draft → List LinkState → (List (List EndedItem) → Type 0) → Type 0
WhereDone d links P = (ends : List (List EndedItem)) × IsDone d links ends × P ends

-- Why a backup isn't made: of what is reported above, and of what ended.
abbrev pub MakeFails : MakeFault → Draft → List LinkState → List LinkState → List Lost → List Lost → ℕ → ℕ → ℕ → ℕ
    → Type 0
MakeFails faults.WorkersLost d links left before after old new known shows =
    AllLost (jobs_in d) (begun links before) after
MakeFails (faults.Unread path) d links left before after old new known shows =
    IsUnread (jobs_in d) links left (string_bytes path)
MakeFails (faults.ControlMissing path) d links left before after old new known shows =
    WhereDone d links (λ ends. IsMissing path.now (files_with d ends))
MakeFails (faults.ManifestTooLong n) d links left before after old new known shows =
    WhereDone d links (λ ends. IsManifestTooLong d ends n)
MakeFails (faults.ListTooLong n) d links left before after old new known shows =
    WhereDone d links (λ ends. IsListTooLong d ends n)
MakeFails faults.Clock d links left before after old new known shows = Rises known shows
MakeFails faults.Disk d links left before after old new known shows = Rises old new
MakeFails faults.NoMemory d links left before after old new known shows = Unit {0}
