-- What is read of the two pairs, and what is reported by it.
use Rattle.std.specs.Prelude.{List, IfSome}
use Rattle.base_devices.specs.Content.{Content}
use Rattle.base_devices.specs.States.{DiskState}
use Rattle.base_model.specs.declared.clusters.BackupInfo as rust_backup_info
use Rattle.base_model.specs.InfoFiles.{IsArchiveInfo, IsArchiveText, IsBackupInfo, IsBackupText}
use Rattle.base_model.specs.Names.{archive_info, backup_info}
use Rattle.base_model.specs.Pair.{PairIs}
use Rattle.base_model.specs.Text.{Text}
use Rattle.base_model.specs.Values.{archive_info_of, backup_info_of}
use Rattle.archive_lookup.specs.declared.stored.files.Stored.{Stored}
use Rattle.archive_lookup.specs.Stored.{AreStored}
use Rattle.cmd_verify.specs.declared.findings.whole_check.PairsRead.{PairsRead}
use Rattle.cmd_verify.specs.Adding.{Adds}
use Rattle.cmd_verify.specs.Contradictions.{IsContradiction}
use Rattle.cmd_verify.specs.Looking.{FindingList}
use Rattle.cmd_verify.specs.Members.{ValueSo}

-- f's pairs have these values, or none
abbrev pub HavePairsRead : Text → Content → PairsRead → Type 0
HavePairsRead stanza f pairs = ValueSo IsArchiveText archive_info_of f (archive_info stanza) pairs.archive
    × ValueSo IsBackupText backup_info_of f (backup_info stanza) pairs.backup

-- what the disk holds has them
abbrev pub HoldsPairs : Text → DiskState → PairsRead → Type 0
HoldsPairs stanza d pairs = IfSome d.view.now (λ f. HavePairsRead stanza f pairs)

-- the values keep their rules
abbrev pub ArePairsValid : PairsRead → Type 0
ArePairsValid pairs = IfSome pairs.archive (λ a. IsArchiveInfo (archive_info_of a))
    × IfSome pairs.backup (λ b. IsBackupInfo (backup_info_of b))

-- what f contradicts in itself, where its pairs have these values, and these are the archive's files
abbrev pub AddsContradictions : Text → PairsRead → rust_backup_info.BackupInfo → List Stored → FindingList → FindingList
    → Type 0
AddsContradictions stanza pairs listed files old new = (f : Content) → HavePairsRead stanza f pairs
    → PairIs IsBackupText f (backup_info stanza) (backup_info_of listed) → AreStored stanza f files
    → Adds (IsContradiction stanza f) old.items new.items
