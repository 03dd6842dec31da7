-- What is seen of contradictions.
use Rattle.std.specs.Prelude.{◌≡◌, List, map, Option, string_bytes}
use Rattle.base_devices.specs.Content.{Content}
use Rattle.base_model.specs.declared.clusters.ArchiveInfo as rust_archive_info
use Rattle.base_model.specs.declared.clusters.BackupInfo as rust_backup_info
use Rattle.base_model.specs.declared.clusters.ClusterId.{ClusterId}
use Rattle.base_model.specs.declared.labels.Entry as rust_entry
use Rattle.base_model.specs.InfoFiles.{IsArchiveText, IsBackupText}
use Rattle.base_model.specs.Names.{archive_info, backup_info}
use Rattle.base_model.specs.Text.{Text}
use Rattle.base_model.specs.Values.{archive_info_of, backup_info_of, entry_of}
use Rattle.archive_lookup.specs.declared.stored.files.Stored.{Stored}
use Rattle.archive_lookup.specs.Stored.{AreStored}
use Rattle.repo_stanza.specs.Pairs.{AreTogether}
use Rattle.cmd_verify.specs.Adding.{Adds, OfSome}
use Rattle.cmd_verify.specs.Contradictions.{EntryContradicts, FileContradicts, HasId, HasOtherPrior, HistoriesContradict, IsAt}
use Rattle.cmd_verify.specs.Looking.{FindingList}
use Rattle.cmd_verify.specs.Members.{ValueSo}
use Rattle.cmd_verify.specs.What.{What, Contradiction, Contradicts, HistoriesDiffer, NoCluster, OtherPrior, Shows, contradiction_line}
use Rattle.cmd_verify.specs.declared.findings.finding.Finding.{Finding}

-- the finding states that the name deviates by the contradiction that has this line
abbrev pub ShowsLine : Text → Text → Finding → Type 0
ShowsLine name line x = (c : Contradiction) → line ≡ contradiction_line c → Shows x name (Contradicts c)

-- ---- the pairs, and the archive's names

-- the file lies under an id of no cluster of the history
abbrev pub IsOutsideOf : List ClusterId → Stored → Text → What → Type 0
IsOutsideOf history file = IsAt (string_bytes file.path) (Contradicts NoCluster) (¬ HasId history file.id)

-- which of these do, where the archive pair has this value, or none
abbrev pub AddsOutside : Option rust_archive_info.ArchiveInfo → List Stored → FindingList → FindingList → Type 0
AddsOutside archive files old new = (stanza : Text) (f : Content)
    → ValueSo IsArchiveText archive_info_of f (archive_info stanza) archive → AreStored stanza f files
    → Adds (FileContradicts stanza f) old.items new.items

-- that the histories of two values don't fit together
abbrev pub AddsApart : Text → rust_archive_info.ArchiveInfo → rust_backup_info.BackupInfo → FindingList → FindingList
    → Type 0
AddsApart name a b old new = Adds
    (IsAt name (Contradicts HistoriesDiffer) (¬ AreTogether (archive_info_of a) (backup_info_of b))) old.items new.items

-- the same, where these are the values of the pairs
abbrev pub AddsHistories : Text → Option rust_archive_info.ArchiveInfo → Option rust_backup_info.BackupInfo → FindingList
    → FindingList → Type 0
AddsHistories name archive backup old new = (stanza : Text) (f : Content) → name ≡ backup_info stanza
    → ValueSo IsArchiveText archive_info_of f (archive_info stanza) archive
    → ValueSo IsBackupText backup_info_of f (backup_info stanza) backup
    → Adds (HistoriesContradict stanza f) old.items new.items

-- ---- the list

-- that the entry's prior is of another cluster
abbrev pub AddsPrior : Text → List rust_entry.Entry → rust_entry.Entry → FindingList → FindingList → Type 0
AddsPrior name entries entry old new =
    Adds (IsAt name (Contradicts OtherPrior) (HasOtherPrior (map entry_of entries) (entry_of entry))) old.items new.items

-- what an entry contradicts in its list
abbrev pub AddsEntry : Text → List rust_entry.Entry → rust_entry.Entry → FindingList → FindingList → Type 0
AddsEntry stanza entries entry old new =
    Adds (EntryContradicts stanza (map entry_of entries) (entry_of entry)) old.items new.items

-- the same for each of them
abbrev pub AddsEntries : Text → List rust_entry.Entry → FindingList → FindingList → Type 0
AddsEntries stanza entries old new =
    Adds (OfSome (EntryContradicts stanza (map entry_of entries)) (map entry_of entries)) old.items new.items
