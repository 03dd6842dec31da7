-- How a backup of any kind is made, from what was read. Own.
use Rattle.std.specs.Prelude.{◌≡◌, ◌⊎◌, ℕ, Bool, true, false, List, Option, None, Some, IfSome, IsSome}
use Rattle.std.specs.FinMap.{get}
use Rattle.base_devices.specs.Content.{Content}
use Rattle.base_devices.specs.Links.{LinkState}
use Rattle.base_devices.specs.DataFolder.{Nodes, IsTreeListing}
use Rattle.base_devices.specs.States.{ClockState}
use Rattle.base_model.specs.InfoFiles.{IsBackupText}
use Rattle.base_model.specs.ManifestText.{IsManifestText}
use Rattle.base_model.specs.Names.{backup_info, manifest_name}
use Rattle.base_model.specs.Now.{NowRepresents}
use Rattle.base_model.specs.Pair.{PairIs}
use Rattle.base_model.specs.declared.labels.Label.{Label}
use Rattle.base_model.specs.Repository.{Backup, File, Stanza}
use Rattle.base_model.specs.Represents.{IsAncestor, IsEntryOf, IsListed}
use Rattle.base_model.specs.Text.{Text, In}
use Rattle.base_model.specs.Values.{ArchiveInfo, BackupInfo, FileEntry, Manifest}
use Rattle.worker_pool.specs.declared.dispatch.fault.Lost.{Lost}
use Rattle.worker_pool.specs.Payloads.{AllRead}
use Rattle.worker_pool.specs.Left.{IsLeft}
use Rattle.backup_plan.specs.Filter.{ListedNode, kept, files_of, folders_of}
use Rattle.backup_plan.specs.Layout.{layout}
use Rattle.backup_plan.specs.Listed.{Taken}
use Rattle.backup_record.specs.Making.{backup_with, labels_of, list_with}
use Rattle.cmd_types.specs.Current.{HasValue}
use Rattle.repo_stanza.specs.Judging.{Validates}
use Rattle.repo_stanza.specs.Pairs.{AgreeAt}
use Rattle.backup_make.specs.Draft.{IsDraft}
use Rattle.backup_make.specs.declared.draft.Draft.{Draft}
use Rattle.backup_make.specs.Kept.{IsKeptUnlessAbsent}
use Rattle.cmd_backup_common.specs.Priors.{made_label}
use Rattle.cmd_backup_common.specs.Seconds.{AreBefore, ShowsTimes}
use Rattle.backup_lemmas.specs.Backups.{IsReadOrLeft, AddsBackup, IsOfFolder, bytes_in}
use Rattle.cmd_backup_common.specs.declared.parts.fault.BackupFault.{BackupFault}
use Rattle.cmd_backup_common.specs.Making.{MakeCause}
use Rattle.cmd_backup_offline.specs.declared.order.OfflineOrder.{OfflineOrder}
use Rattle.cmd_backup_offline.specs.Basing.{base_in, base_label, old_files, ReadsBase}
use Rattle.cmd_backup_offline.specs.Drafting.{IsDraftedBy, StopCause}
use Rattle.cmd_backup_offline.specs.Bundling.{IsLaidBy}
use Rattle.cmd_backup_offline.specs.Equal.{AreMarked, IsEntryBy}
use Rattle.cmd_backup_offline.specs.Folder.{ShowsFrom}
use Rattle.cmd_backup_offline.specs.Texts.{offline_lines}

-- The list is that of the pairs that the disk holds, and these are the files of the manifest, which it holds too, of
-- the backup on which one of this order is based.
pub record BeginsFrom (stanza : Text) (o : OfflineOrder) (now : Option Content) (list : BackupInfo)
    (old : List FileEntry) : Type 0 where
  pub archive : ArchiveInfo
  pub backup : BackupInfo
  pub archive_read : IfSome now (λ f. HasValue stanza f archive)
  pub backup_read : IfSome now (λ f. PairIs IsBackupText f (backup_info stanza) backup)
  pub settles : Validates archive backup list
  pub base : Option Manifest
  pub reads : ReadsBase stanza now (base_label o.kind list) base
  pub old_is : old ≡ old_files base

-- each label that the backup refers to is listed in the stanza, and is that of its prior or of one before that
abbrev pub RefersTo : Stanza → Backup → Type 0
RefersTo s b = (l : Label) → In l b.entry.references → IsAncestor s.backups l b × IsListed s.backups l

-- The disk has the backup's manifest. Of its entries those of files that are the prior backup's refer to others, and no
-- others do; files that are stored together by the order lie in one bundle. It is of the whole folder: each file and
-- each folder of the listing that a backup takes is in it, except for files that were absent when they were to be read.
pub record HasEntries (stanza : Text) (o : OfflineOrder) (seen : List ListedNode) (list : BackupInfo)
    (links : List LinkState) (old new : Option Content) (b : Backup) : Type 0 where
  pub base : Option Manifest
  pub reads : ReadsBase stanza old (base_label o.kind list) base
  pub manifest : Manifest
  pub held : IsSome old → IfSome new (λ f. PairIs IsManifestText f (manifest_name stanza b.entry.label) manifest)
  pub each : (e : FileEntry) → In e manifest.files
      → IsEntryBy links o.settings.delta (old_files base) (files_of (kept false seen)) e
  -- of which files links reported the digest of the prior backup's
  pub equal : List Bool
  pub marked : o.settings.delta ≡ true → AreMarked links (old_files base) (files_of (kept false seen)) equal
  -- each lies as the order's settings lay the files out
  pub laid : (e : FileEntry) → In e manifest.files → IsLaidBy
      (layout o.settings (old_files base) (files_of (kept false seen)) equal).choices (files_of (kept false seen)) e
  pub all : (f : Taken) → In f (files_of (kept false seen)) → IsKeptUnlessAbsent links manifest.files f
  pub folders : manifest.folders ≡ folders_of (kept false seen)
  -- no part of the log belongs to it
  pub wal : manifest.wal ≡ None
  -- what the backup and its entry in the list state besides files and references is stated by the manifest, or follows
  -- from that, as its sizes
  pub states : b ≡ backup_with manifest b.entry.references b.files

-- g has the backup, whatever else it has: in its list after those of this one, and with its manifest in both members of
-- its pair. The bytes of each file that isn't an earlier backup's lie at their place.
pub record HasAdded (stanza : Text) (list : BackupInfo) (b : Backup) (m : Manifest) (g : Content) : Type 0 where
  pub listed : PairIs IsBackupText g (backup_info stanza) (list_with b.entry list)
  pub manifest : PairIs IsManifestText g (manifest_name stanza b.entry.label) m
  pub copies : AgreeAt (manifest_name stanza b.entry.label) g
  pub files : (e : FileEntry) → In e m.files → e.reference ≡ None
      → (file : File) × (get b.files e.path ≡ Some file) × IsEntryOf stanza g b.entry.label file e

-- One backup more is made, which these lines state: it is based on the backup of the list that its kind asks for, of
-- what the links read and of what that backup has.
pub record IsMade (stanza : Text) (o : OfflineOrder) (list : BackupInfo) (seen : List ListedNode) (links : List LinkState)
    (old new : Option Content) (clock new_clock : ClockState) (lines : Text) : Type 0 where
  pub backup : Backup
  pub second : ℕ
  pub later : AreBefore (labels_of list.backups) second
  pub label : backup.entry.label ≡ made_label o.kind (base_in o.kind list) second
  -- it began in the second of its label; the clock showed that second, and then the one in which it stopped
  pub start : backup.entry.start ≡ second
  pub times : ShowsTimes backup.entry.start backup.entry.stop clock new_clock
  pub prior : backup.entry.prior ≡ base_label o.kind list
  pub line : lines ≡ offline_lines o.kind (base_in o.kind list) backup.entry.label
  pub choices : backup.choices ≡ record { bundle = o.settings.bundle; delta = o.settings.delta }
  pub read : IsReadOrLeft links stanza old backup
  pub entries : HasEntries stanza o seen list links old new backup
  pub refers : (s : Stanza) → IsSome old → NowRepresents stanza (Some s) old → RefersTo s backup
  pub adds : AddsBackup stanza backup old new
  -- whatever else the disk held, it has the backup now
  pub added : IsSome old → IfSome new (HasAdded stanza list backup entries.manifest)
  -- where the links read the folder that was listed, it is the folder's, as far as files that are left can be
  -- distinguished from others
  pub folder : (f : Nodes) (repo : Content) → IsTreeListing f seen → IsSome old → AllRead (bytes_in f) repo links
      → ((l : Label) → backup.entry.prior ≡ Some l → ShowsFrom stanza old o.settings.delta f l) → IsOfFolder f backup
  -- both members of the backup pair are alike
  pub alike : IsSome old → IfSome new (AgreeAt (backup_info stanza))

-- a draft of this order isn't made over those of these links that are left
pub record DraftFails (stanza : Text) (o : OfflineOrder) (seen : List ListedNode) (list : BackupInfo)
    (old : List FileEntry) (links : List LinkState) (before : List Lost) (fault : BackupFault) : Type 0 where
  pub draft : Draft
  pub is : IsDraft draft
  pub second : ℕ
  pub later : IsDraftedBy stanza o seen list old second links draft
  pub now : List LinkState
  pub lost : List Lost
  pub left : IsLeft links now before lost
  pub cause : MakeCause draft now lost fault

-- there is no draft of it, or it isn't made
abbrev pub MakingCause : Text → OfflineOrder → List ListedNode → BackupInfo → List FileEntry → ℕ → (ℕ → Type 0)
    → List LinkState → List Lost → BackupFault → Type 0
MakingCause stanza o seen list old least Stated links before fault = StopCause seen least Stated links before old fault
    ⊎ DraftFails stanza o seen list old links before fault
