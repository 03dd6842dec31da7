-- What a timeline goes back to, by its history file in the archive (PostgreSQL manual, "Timelines").
use Rattle.std.specs.Prelude.{ℕ, ◌≡◌, ◌≢◌, ◌⊎◌, ◌<◌, ◌^◌, List, [], Option, Some, None, option_map, IfSome, string_bytes}
use Rattle.sha1.specs.Sha1.{sha1}
use Rattle.base_devices.specs.Content.{Content}
use Rattle.base_devices.specs.States.{DiskState, DiskFailed}
use Rattle.base_model.specs.declared.clusters.ArchiveInfo.{ArchiveInfo}
use Rattle.base_model.specs.declared.clusters.Cluster.{Cluster}
use Rattle.base_model.specs.declared.clusters.ClusterId.{ClusterId}
use Rattle.base_model.specs.declared.wal.ArchiveId.{ArchiveId}
use Rattle.base_model.specs.declared.wal.ArchiveName.TheVariants.{History}
use Rattle.base_model.specs.Fields.{at_number}
use Rattle.base_model.specs.Repository.{Stanza, current_number, id_of}
use Rattle.base_model.specs.Text.{Text, In}
use Rattle.repo_ini.specs.Form.{pieces}
use Rattle.archive_lookup.specs.declared.stored.fault.ArchiveFault.{ArchiveFault}
use Rattle.archive_lookup.specs.declared.stored.fault.ArchiveFault.TheVariants.{NotFound, TooLong, Disk}
use Rattle.archive_lookup.specs.Causes.{StoresBytes, StoresLong}
use Rattle.archive_lookup.specs.Stored.{StoresNone, archived_file}
use Rattle.restore_target.specs.declared.history.Ancestor.{Ancestor}
use Rattle.restore_target.specs.declared.history.HistoryFault.{HistoryFault}
use Rattle.restore_target.specs.declared.history.HistoryFault.TheVariants.{Form, NoMemory as HistoryMemory}
use Rattle.restore_target.specs.History.{AreAncestors, IsWrongAt}
use Rattle.cmd_types.specs.Current.{HasCurrent, id_kept}
use Rattle.cmd_types.specs.Halts.{HaltCause, Only}
use Rattle.cmd_types.specs.declared.stages.halt.Halt.{Halt}
use Rattle.cmd_types.specs.declared.stages.halt.Halt.TheVariants.{Refused, Failed, NoMemory}
use Rattle.cmd_types.specs.declared.stages.object.Object.TheVariants.{Repo}
use Rattle.restore_choice.specs.declared.ancestry.Ancestry as rust
use Rattle.restore_choice.specs.declared.fault.ChoiceFault.{ChoiceFault}
use Rattle.restore_choice.specs.declared.fault.ChoiceFault.TheVariants.{HistoryMissing, HistoryForm, HistoryLong}
use Rattle.restore_choice.specs.Views.{Ancestry, ancestry_of}

-- ---- by the bytes of its history file, where this says which they are

-- the first timeline goes back to none; another one to those that its history states
abbrev pub GoesBackBy : (ℕ → Text → Type 0) → ℕ → List Ancestor → Type 0
GoesBackBy HasBytes timeline ancestors = ((timeline ≡ 1) × (ancestors ≡ []))
    ⊎ ((timeline ≢ 1)
    × ((bytes : Text) × HasBytes timeline bytes × AreAncestors timeline 0 (pieces bytes) ancestors))

-- the timeline of this number, and those that it goes back to; none where no number is asked for
abbrev pub IsAncestryBy : (ℕ → Text → Type 0) → Option ℕ → Option Ancestry → Type 0
IsAncestryBy HasBytes None ancestry = ancestry ≡ None
IsAncestryBy HasBytes (Some n) ancestry = (ancestors : List Ancestor)
    × (ancestry ≡ Some (record { timeline = n; ancestors = ancestors })) × GoesBackBy HasBytes n ancestors

-- the id is that of the pair's current cluster
abbrev pub IsCurrentId : ArchiveInfo → ArchiveId → Type 0
IsCurrentId info id = (c : ClusterId) × (at_number info.current info.history.items ≡ Some c) × (id ≡ id_kept c)

-- ---- in what a disk holds

-- f has these bytes as the history of the timeline, whose number has 32 bits, in the archive of the current cluster
abbrev pub HasHistory : Text → Content → ℕ → Text → Type 0
HasHistory stanza f timeline bytes = (timeline < 2 ^ 32) × ((c : ClusterId) × HasCurrent stanza f c
    × StoresBytes stanza (id_kept c) (History timeline) f (sha1 bytes) bytes)

-- f has no history of the timeline there
abbrev pub LacksHistory : Text → Content → ℕ → Type 0
LacksHistory stanza f timeline = (timeline < 2 ^ 32) × ((c : ClusterId) × HasCurrent stanza f c
    × StoresNone stanza (id_kept c) (History timeline) f)

-- f has a history of the timeline there, at this path, which is longer than the limit
abbrev pub HasLongHistory : Text → Content → ℕ → Text → ℕ → Type 0
HasLongHistory stanza f timeline path limit = (c : ClusterId) × HasCurrent stanza f c × (limit ≡ 2 ^ 20)
    × StoresLong stanza (id_kept c) (History timeline) f path limit

abbrev pub HasAncestry : Text → Content → Option ℕ → Option Ancestry → Type 0
HasAncestry stanza f = IsAncestryBy (HasHistory stanza f)

-- why it isn't known what the timeline goes back to
abbrev pub HistoryCause : Text → Content → ℕ → ChoiceFault → Type 0
HistoryCause stanza f n (HistoryMissing timeline) = (timeline ≡ n) × (n ≢ 1) × LacksHistory stanza f n
HistoryCause stanza f n (HistoryForm timeline line) = (timeline ≡ n) × (n ≢ 1)
    × ((bytes : Text) × HasHistory stanza f n bytes × IsWrongAt n 0 (pieces bytes) line)
HistoryCause stanza f n (HistoryLong name limit) = (n ≢ 1) × HasLongHistory stanza f n (string_bytes name) limit
HistoryCause stanza f n other = ⊥

abbrev pub AncestryCause : Text → Content → Option ℕ → ChoiceFault → Type 0
AncestryCause stanza f None fault = ⊥
AncestryCause stanza f (Some n) fault = HistoryCause stanza f n fault

-- ---- in a stanza

-- these bytes are archived as the history of the timeline, under the id of the current cluster
abbrev pub ArchivesHistory : Stanza → ℕ → Text → Type 0
ArchivesHistory s timeline bytes = (c : Cluster) × (at_number (current_number s) s.history ≡ Some c)
    × In (archived_file (id_of c) (History timeline) bytes) s.archived

abbrev pub IsAncestryOf : Stanza → Option ℕ → Option Ancestry → Type 0
IsAncestryOf s = IsAncestryBy (ArchivesHistory s)

-- ---- over the repository's states

-- which refusal a fault of the archive is, where the history of a timeline is read
abbrev pub of_archive : ℕ → ArchiveFault → Halt ChoiceFault
of_archive timeline NotFound = Refused (HistoryMissing timeline)
of_archive timeline (TooLong name limit) = Refused (HistoryLong name limit)
of_archive timeline Disk = Failed Repo
of_archive timeline other = NoMemory

-- and a fault of the history
abbrev pub of_history : ℕ → HistoryFault → Halt ChoiceFault
of_history timeline (Form line) = Refused (HistoryForm timeline line)
of_history timeline HistoryMemory = NoMemory

-- where the repository is known, it has these bytes as the history
abbrev pub ReadsHistory : Text → DiskState → ℕ → Text → Type 0
ReadsHistory stanza disk timeline bytes = IfSome disk.view.now (λ f. HasHistory stanza f timeline bytes)

-- why the history file isn't read
abbrev pub FileCause : Text → Content → ℕ → ChoiceFault → Type 0
FileCause stanza f n (HistoryMissing timeline) = (timeline ≡ n) × LacksHistory stanza f n
FileCause stanza f n (HistoryLong name limit) = HasLongHistory stanza f n (string_bytes name) limit
FileCause stanza f n other = ⊥

abbrev pub HistoryHalts : Text → ℕ → DiskState → DiskState → Halt ChoiceFault → Type 0
HistoryHalts stanza timeline old new halt =
    HaltCause (λ fault. IfSome old.view.now (λ f. FileCause stanza f timeline fault)) (Only Repo (DiskFailed old new)) halt

-- where the repository is known, the timeline goes back to these
abbrev pub GoesBack : Text → DiskState → ℕ → List Ancestor → Type 0
GoesBack stanza disk timeline ancestors =
    IfSome disk.view.now (λ f. GoesBackBy (HasHistory stanza f) timeline ancestors)

abbrev pub BackHalts : Text → ℕ → DiskState → DiskState → Halt ChoiceFault → Type 0
BackHalts stanza timeline old new halt =
    HaltCause (λ fault. IfSome old.view.now (λ f. HistoryCause stanza f timeline fault)) (Only Repo (DiskFailed old new))
    halt

-- where the repository is known, this is what is asked for
abbrev pub ReadsAncestry : Text → DiskState → Option ℕ → Option rust.Ancestry → Type 0
ReadsAncestry stanza disk timeline ancestry =
    IfSome disk.view.now (λ f. HasAncestry stanza f timeline (option_map ancestry_of ancestry))

abbrev pub AncestryHalts : Text → Option ℕ → DiskState → DiskState → Halt ChoiceFault → Type 0
AncestryHalts stanza timeline old new halt =
    HaltCause (λ fault. IfSome old.view.now (λ f. AncestryCause stanza f timeline fault)) (Only Repo (DiskFailed old new))
    halt
