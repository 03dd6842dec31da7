-- What an expiry is going to leave in the backup pair.
use Rattle.std.specs.Prelude.{◌≡◌, ℕ, Bool, false, not, List, filter, IfSome, IsSome}
use Rattle.base_devices.specs.Content.{Content}
use Rattle.base_devices.specs.Moments.{View, is_unsynced}
use Rattle.base_devices.specs.Crash.{Crash, Ends, IsAlikeAt, NowChanges, Write, FirstOf, AllOf}
use Rattle.base_devices.specs.States.{DiskState}
use Rattle.base_model.specs.declared.labels.Label.{Label}
use Rattle.base_model.specs.declared.wal.ArchiveId.{ArchiveId}
use Rattle.base_model.specs.declared.wal.ArchiveName.{ArchiveName}
use Rattle.base_model.specs.Text.{Text}
use Rattle.base_model.specs.Names.{archive_info, backup_info, copy_of}
use Rattle.base_model.specs.Values.{ArchiveInfo, BackupInfo, Entry, archive_info_of, backup_info_of}
use Rattle.base_model.specs.InfoText.{info_text}
use Rattle.base_model.specs.InfoFiles.{IsArchiveText, IsBackupText, backup_sections}
use Rattle.base_model.specs.Pair.{PairIs}
use Rattle.base_model.specs.Create.{member_writes}
use Rattle.base_model.specs.Walks.{IsSynced}
use Rattle.repo_pair.specs.Member.{IsMember}
use Rattle.repo_stanza.specs.Judging.{HasList}
use Rattle.repo_stanza.specs.Pairs.{AgreeAt}
use Rattle.expire_rules.specs.declared.rules.Rules.{Rules}
use Rattle.expire_rules.specs.Condemned.{is_condemned, condemned_labels}
use Rattle.expire_rules.specs.Needed.{keeping_of, keeps_file}
use Rattle.expire_make.specs.declared.expiry_plan.Planned.{Planned}

-- the value without the condemned backups
abbrev pub left_of : Rules → ℕ → BackupInfo → BackupInfo
left_of rules moment v = record {
  current = v.current;
  history = v.history;
  backups = filter (λ e. not (is_condemned rules moment v.backups e.label)) v.backups;
}

-- the text of a list
unfoldable pub list_text : BackupInfo → Text
list_text v = info_text (backup_sections v)

-- ---- what the disk holds

-- where its contents are known, the archive pair has this value
abbrev pub HoldsArchivePair : Text → ArchiveInfo → DiskState → Type 0
HoldsArchivePair stanza v d = IfSome d.view.now (λ f. PairIs IsArchiveText f (archive_info stanza) v)

-- the backup pair has it
abbrev pub HoldsBackupPair : Text → BackupInfo → DiskState → Type 0
HoldsBackupPair stanza v d = IfSome d.view.now (λ f. PairIs IsBackupText f (backup_info stanza) v)

-- where they were known, the members of the backup pair have one text
abbrev pub BackupPairAgrees : Text → DiskState → DiskState → Type 0
BackupPairAgrees stanza old new = IsSome old.view.now → IfSome new.view.now (AgreeAt (backup_info stanza))

-- where they were known, and no name that is looked at was unsynced, all that a crash leaves has of both members what
-- the disk holds
abbrev pub BackupPairLasts : Text → View → View → Type 0
BackupPairLasts stanza old new = IsSynced stanza old → IsSome old.now → IsAlikeAt (IsMember (backup_info stanza)) new

-- ---- the plan

-- of f's list this is left, in a text that isn't too long, and these labels expire
pub record IsPlan (stanza : Text) (rules : Rules) (moment : ℕ) (f : Content) (labels : List Label) (left : BackupInfo)
    (archive : ArchiveInfo) : Type 0 where
  pub list : BackupInfo
  pub has : HasList stanza f archive list
  pub is_left : left ≡ left_of rules moment list
  pub fits : IsBackupText left (list_text left)
  pub are_gone : labels ≡ condemned_labels rules moment list.backups

-- it is a plan wherever the two pairs have these values
abbrev pub PlansFor : ArchiveInfo → BackupInfo → Rules → ℕ → Planned → Type 0
PlansFor archive list rules moment p = (stanza : Text) (f : Content) → HasList stanza f archive list
    → IsPlan stanza rules moment f p.labels.items (backup_info_of p.left) (archive_info_of p.archive)

-- the disk's contents, where they are known, have this plan
abbrev pub HoldsPlan : Text → Rules → ℕ → Planned → DiskState → Type 0
HoldsPlan stanza rules moment p d = IfSome d.view.now (λ f. IsPlan stanza rules moment f p.labels.items
    (backup_info_of p.left) (archive_info_of p.archive))

-- ---- the list is saved

-- the text of the list at both members of the backup pair
abbrev pub list_writes : Text → BackupInfo → List Write
list_writes stanza list = member_writes (backup_info stanza) (list_text list)

-- at each moment of it a crash leaves the first of these writes, where no member was unsynced
abbrev pub SavesByCrash : Text → BackupInfo → DiskState → DiskState → Type 0
SavesByCrash stanza list old new = is_unsynced old.view (backup_info stanza) ≡ false
    → is_unsynced old.view (copy_of (backup_info stanza)) ≡ false
    → Crash (FirstOf (list_writes stanza list)) old.view new.view

-- at its end a crash leaves all of them
abbrev pub SavesByEnd : Text → BackupInfo → DiskState → DiskState → Type 0
SavesByEnd stanza list old new = is_unsynced old.view (backup_info stanza) ≡ false
    → is_unsynced old.view (copy_of (backup_info stanza)) ≡ false
    → Ends (AllOf (list_writes stanza list)) old.view new.view

-- the disk holds the first of these writes, or all of them
abbrev pub SavesPartNow : Text → BackupInfo → DiskState → DiskState → Type 0
SavesPartNow stanza list old new = NowChanges (FirstOf (list_writes stanza list)) old.view.now new.view.now

abbrev pub SavesAllNow : Text → BackupInfo → DiskState → DiskState → Type 0
SavesAllNow stanza list old new = NowChanges (AllOf (list_writes stanza list)) old.view.now new.view.now

-- ---- the archive

-- whether a file of an id is kept, with these backups listed
abbrev pub keeps_by : Rules → ℕ → List Entry → ArchiveId → ArchiveName → Bool
keeps_by rules current es id name = keeps_file (keeping_of rules current es id.number) name
