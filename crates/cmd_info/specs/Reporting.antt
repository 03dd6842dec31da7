-- What info reports (pgBackRest command reference, "Info Command").
use Rattle.std.specs.Prelude.{◌≡◌, false, List, map, Option, Some, None, IfSome, IsSome}
use Rattle.base_devices.specs.Content.{Content}
use Rattle.base_devices.specs.Order.{is_before}
use Rattle.base_devices.specs.States.{DiskState}
use Rattle.base_model.specs.declared.clusters.ClusterId.{ClusterId}
use Rattle.base_model.specs.declared.clusters.ArchiveInfo as rust_archive_info
use Rattle.base_model.specs.declared.clusters.BackupInfo as rust_backup_info
use Rattle.base_model.specs.declared.wal.ArchiveId.{ArchiveId}
use Rattle.base_model.specs.declared.wal.ArchiveName.TheVariants.{Segment as Whole}
use Rattle.base_model.specs.declared.wal.Segment.{Segment}
use Rattle.base_model.specs.Text.{Text, In}
use Rattle.base_model.specs.Names.{segment_text}
use Rattle.base_model.specs.Values.{ArchiveInfo, BackupInfo, archive_info_of, backup_info_of}
use Rattle.base_model.specs.Now.{NowRepresents}
use Rattle.base_model.specs.Repository.{Archived, Stanza}
use Rattle.base_model.specs.Represents.{archive_value, backup_value}
use Rattle.options_read.specs.declared.options.OutputWord.{OutputWord}
use Rattle.options_read.specs.declared.options.OutputWord.TheVariants.{Text as AsText, Json as AsJson}
use Rattle.repo_stanza.specs.Pairs.{HavePairs}
use Rattle.archive_lookup.specs.Ends.{AreEnds, StoresWhole}
use Rattle.cmd_info.specs.declared.report.report.ArchivedName.{ArchivedName}
use Rattle.cmd_info.specs.declared.report.report.Report.{Report}
use Rattle.cmd_info.specs.ReportText.{report_text_of}
use Rattle.cmd_info.specs.ReportData.{report_json_of}
use Rattle.cmd_types.specs.declared.stages.outcome.Outcome.{Outcome}
use Rattle.cmd_types.specs.Current.{id_kept}
use Rattle.cmd_types.specs.Reached.{OnFinished}

-- ---- what is reported

-- the report in this form
abbrev pub report_by : OutputWord → Text → ArchiveInfo → BackupInfo → List ArchivedName → Text
report_by AsText stanza archive backup names = report_text_of stanza archive backup names
report_by AsJson stanza archive backup names = report_json_of stanza archive backup names

-- of what the code reports
abbrev pub report_in : OutputWord → Report → Text
report_in form r = report_by form r.stanza.now (archive_info_of r.archive.now) (backup_info_of r.info.now)
    r.archived.now

-- a whole segment under an id, as a report states it
abbrev pub named : ArchiveId → Segment → ArchivedName
named id segment = record { id = id; name = Whole segment }

-- One of these names under the id is at or before the segment in byte order, and one at or after it.
pub record AreRound (id : ArchiveId) (segment : Segment) (names : List ArchivedName) : Type 0 where
  pub first : (t : Segment) × In (named id t) names × (is_before (segment_text segment) (segment_text t) ≡ false)
  pub last : (t : Segment) × In (named id t) names × (is_before (segment_text t) (segment_text segment) ≡ false)

-- The names are of stored whole segments of these clusters, and of each cluster all that are stored lie between them.
-- So they have the first and the last.
pub record HaveEnds (stanza : Text) (history : List ClusterId) (f : Content) (names : List ArchivedName) : Type 0 where
  pub each : (n : ArchivedName) → In n names → (c : ClusterId) × (segment : Segment) × In c history
      × (n ≡ named (id_kept c) segment) × StoresWhole stanza (id_kept c) f segment
  pub round : (c : ClusterId) → In c history → (segment : Segment) → StoresWhole stanza (id_kept c) f segment
      → AreRound (id_kept c) segment names

-- the lines are the report on what the repository holds: the values of its two pairs, and the first and the last stored
-- segment of each cluster
pub record IsReported (stanza : Text) (form : OutputWord) (repo : Option Content) (lines : Text) : Type 0 where
  pub archive : ArchiveInfo
  pub backup : BackupInfo
  pub names : List ArchivedName
  pub pairs : IfSome repo (λ f. HavePairs stanza f archive backup)
  pub ends : IfSome repo (λ f. HaveEnds stanza archive.history f names)
  pub is : lines ≡ report_by form stanza archive backup names

-- ---- of the abstract repository

-- an archived file, as a report states it
abbrev pub archived_as : Archived → ArchivedName
archived_as a = record { id = a.id; name = a.name }

-- the lines are the report on the stanza: its history, its backups, and its archived files
abbrev pub ReportsStanza : OutputWord → Text → Stanza → Text → Type 0
ReportsStanza form stanza s lines =
    lines ≡ report_by form stanza (archive_value s) (backup_value s None) (map archived_as s.archived)

-- ---- of a disk's state

-- its two pairs have the values of these
abbrev pub HoldsPairs : Text → rust_archive_info.ArchiveInfo → rust_backup_info.BackupInfo → DiskState → Type 0
HoldsPairs stanza archive backup d = IfSome d.view.now
    (λ f. HavePairs stanza f (archive_info_of archive) (backup_info_of backup))

-- it stores these segments under the id, and all others between them
abbrev pub AreEndsIn : Text → ArchiveId → List Segment → DiskState → Type 0
AreEndsIn stanza id segments d = IfSome d.view.now (λ f. AreEnds stanza id f segments)

-- the same for each cluster
abbrev pub HaveEndsIn : Text → List ClusterId → List ArchivedName → DiskState → Type 0
HaveEndsIn stanza history names d = IfSome d.view.now (λ f. HaveEnds stanza history f names)

-- the lines are the report on the stanza that it represents
abbrev pub ReportsRepresented : OutputWord → Text → DiskState → Outcome → Type 0
ReportsRepresented form stanza d outcome = (s : Stanza) → IsSome d.view.now
    → NowRepresents stanza (Some s) d.view.now → OnFinished outcome (ReportsStanza form stanza s)
