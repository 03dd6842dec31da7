-- The second by which a backup's label is named (pgBackRest user guide, "Backup").
use Rattle.std.specs.Prelude.{◌≡◌, ◌⊎◌, ◌≤◌, ◌<◌, ◌+◌, ℕ, max, Bool, true, List, Option, Some, None, IfSome, IsSome, IsTrue}
use Rattle.base_devices.specs.Cause.{Rises}
use Rattle.base_devices.specs.Content.{Name, Content, is_below}
use Rattle.base_devices.specs.States.{ClockState, DiskState, ShowsSecond, last_second}
use Rattle.base_model.specs.declared.clusters.BackupInfo as rust_backup
use Rattle.base_model.specs.declared.labels.Label.{Label}
use Rattle.base_model.specs.declared.labels.Later.{Later}
use Rattle.base_model.specs.Names.{label_folder}
use Rattle.base_model.specs.Text.{Text, In}
use Rattle.base_model.specs.Values.{BackupInfo, backup_info_of}
use Rattle.backup_record.specs.Making.{labels_of}
use Rattle.cmd_backup_common.specs.declared.drafts.fault.SecondFault.{SecondFault}
use Rattle.cmd_backup_common.specs.declared.drafts.fault.SecondFault.TheVariants.{ClockBehind, Clock, Disk, NoMemory}

-- the later one of the seconds that a label states
abbrev pub later_second : ℕ → Option Later → ℕ
later_second full None = full
later_second full (Some l) = max full l.time

abbrev pub second_of : Label → ℕ
second_of l = later_second l.full l.later

-- each of the labels states an earlier second
abbrev pub AreBefore : List Label → ℕ → Type 0
AreBefore labels second = (l : Label) → In l labels → second_of l < second

-- a second by which the label of a further backup may be named
pub record IsNext (second : ℕ) (list : BackupInfo) : Type 0 where
  pub later : AreBefore (labels_of list.backups) second
  pub in_range : second ≤ last_second

-- A backup began in the one second and stopped in the other: the clock showed both, and the first isn't the later one.
pub record ShowsTimes (start stop : ℕ) (old new : ClockState) : Type 0 where
  pub began : ShowsSecond start old new
  pub stopped : ShowsSecond stop old new
  pub order : start ≤ stop

-- ---- the latest one

-- one of the labels states this second
abbrev pub ListsSecond : List Label → ℕ → Type 0
ListsSecond labels second = (l : Label) × In l labels × (second_of l ≡ second)

-- a name with bytes lies below the folder
abbrev pub HasFilesBelow : Text → Content → Type 0
HasFilesBelow folder f = (name : Name) × IsTrue (is_below folder name) × IsSome (f name)

-- a label of this second is that of a folder with files
abbrev pub NamesSecond : Text → ℕ → Content → Type 0
NamesSecond stanza second f = (l : Label) × (second_of l ≡ second) × HasFilesBelow (label_folder stanza l) f

-- a label of this second is that of a listed backup, or of a folder with files
abbrev pub StatesSecond : Text → BackupInfo → Option Content → ℕ → Type 0
StatesSecond stanza list now second =
    ListsSecond (labels_of list.backups) second ⊎ IfSome now (NamesSecond stanza second)

-- it is the one that is listed, or at most ten seconds ahead of the present one, or that of a folder with files
abbrev pub MayCount : Text → ℕ → ℕ → Option Content → ℕ → Type 0
MayCount stanza listed present now latest =
    (latest ≡ listed) ⊎ ((latest ≤ present + 10) ⊎ IfSome now (NamesSecond stanza latest))

-- ---- why no second is given

-- the clock failed
abbrev pub ClockFails : SecondFault → ClockState → ClockState → Type 0
ClockFails Clock old new = Rises old.faults new.faults
ClockFails NoMemory old new = Unit {0}
ClockFails other old new = ⊥

abbrev pub DiskFails : SecondFault → ℕ → ℕ → Type 0
DiskFails Disk old new = Rises old new
DiskFails NoMemory old new = Unit {0}
DiskFails other old new = ⊥

-- an object failed; or the clock is more than ten seconds behind the latest label
abbrev pub SecondCause : (ℕ → Type 0) → SecondFault → ℕ → ℕ → ClockState → ClockState → Type 0
SecondCause Stated (ClockBehind latest now) old new clock new_clock =
    (now + 10 < latest) × (clock.least ≤ now) × Stated latest
SecondCause Stated Clock old new clock new_clock = Rises clock.faults new_clock.faults
SecondCause Stated Disk old new clock new_clock = Rises old new
SecondCause Stated NoMemory old new clock new_clock = Unit {0}

-- ---- by the code's values and the devices

-- a folder has files, as it is reported
abbrev pub ShowsFiles : Text → DiskState → Bool → Type 0
ShowsFiles folder d has = has ≡ true → IfSome d.view.now (HasFilesBelow folder)

-- a second too far ahead of the present one is that of a label
abbrev pub StatesFar : Text → rust_backup.BackupInfo → ℕ → DiskState → ℕ → Type 0
StatesFar stanza list present d latest = present + 10 < latest
    → StatesSecond stanza (backup_info_of list) d.view.now latest

-- why no second is given, by the disk and the clock before and after
abbrev pub SecondFails : {D C : Type 0} → Text → rust_backup.BackupInfo → (D → DiskState) → D → D → (C → ClockState)
    → C → C → SecondFault → Type 0
SecondFails stanza list state before after clock first last fault =
    SecondCause (StatesSecond stanza (backup_info_of list) (state before).view.now) fault (state before).faults
    (state after).faults (clock first) (clock last)
