-- What looking at a part of a repository adds to the findings.
use Rattle.std.specs.Prelude.{◌≡◌, ℕ, List, [], map, Option, IfSome, IsSomeAnd, Vec, length, string_bytes}
use Rattle.std.specs.declared.alloc.Global.{Global}
use Rattle.base_devices.specs.Content.{Content}
use Rattle.base_devices.specs.States.{DiskState}
use Rattle.base_model.specs.declared.clusters.Cluster.{Cluster}
use Rattle.base_model.specs.declared.files.FileEntry as rust_file_entry
use Rattle.base_model.specs.declared.files.Manifest as rust_manifest
use Rattle.base_model.specs.declared.labels.Entry as rust_entry
use Rattle.base_model.specs.declared.labels.Label.{Label}
use Rattle.base_model.specs.InfoFiles.{IsBackupText}
use Rattle.base_model.specs.ManifestText.{IsManifestText}
use Rattle.base_model.specs.Names.{backup_info, copy_of, manifest_name}
use Rattle.base_model.specs.Pair.{PairIs}
use Rattle.base_model.specs.Repository.{Stanza, IsSoundStanza}
use Rattle.base_model.specs.Represents.{HasStanza}
use Rattle.base_model.specs.Text.{Text}
use Rattle.base_model.specs.Values.{BackupInfo, Entry, entry_of, file_entry_of, manifest_of}
use Rattle.archive_lookup.specs.declared.stored.files.Stored.{Stored}
use Rattle.archive_lookup.specs.Stored.{AreStored, IsStoredFile}
use Rattle.cmd_verify.specs.declared.findings.finding.Finding.{Finding}
use Rattle.cmd_verify.specs.declared.findings.pairs.Member.{Member}
use Rattle.cmd_verify.specs.declared.findings.place_sum.Lies.{Lies}
use Rattle.cmd_verify.specs.declared.findings.shared_files.BackupFiles.{BackupFiles}
use Rattle.cmd_verify.specs.Adding.{Adds, AddsMost, OfSome, Never}
use Rattle.cmd_verify.specs.Archived.{HasOther, SecondDeviates}
use Rattle.cmd_verify.specs.Clean.{MembersAgree}
use Rattle.cmd_verify.specs.Entries.{IsUnlikeAt}
use Rattle.cmd_verify.specs.Exact.{PairsDeviate}
use Rattle.cmd_verify.specs.Findings.{BackupDeviates, BothDeviate, EntryDeviates, FileDeviates, ListedDeviates, MemberDeviates, PairDeviates, SpanDeviates}
use Rattle.cmd_verify.specs.Lies.{LiesSo}
use Rattle.cmd_verify.specs.Members.{MemberSo, ValueSo}
use Rattle.cmd_verify.specs.References.{AreUnlisted}
use Rattle.cmd_verify.specs.Sharing.{AreFilesOf, IsElsewhere, OwnDeviates, OwnEntryDeviates, ReferredDeviates, SharedDeviates}
use Rattle.cmd_verify.specs.What.{What}

-- a list of findings in the code
abbrev pub FindingList : Type 0
FindingList = Vec Finding Global

-- exactly those are added of which this is true, of what the disk holds, where that is known
abbrev pub AddsHeld : (Content → Text → What → Type 0) → DiskState → FindingList → FindingList → Type 0
AddsHeld P d old new = IfSome d.view.now (λ f. Adds (P f) old.items new.items)

-- some of them, with all own ones; each other one or it is elsewhere
abbrev pub AddsMostHeld : Text → (Content → Text → What → Type 0) → (Content → Text → What → Type 0) → DiskState
    → FindingList → FindingList → Type 0
AddsMostHeld stanza P Own d old new = IfSome d.view.now
    (λ f. AddsMost (P f) (Own f) (IsElsewhere stanza f) old.items new.items)

-- ---- a pair

module _ {X V : Type 0} (IsTextOf : V → Text → Type 0) (value : X → V) where
  -- the member that the disk holds is so
  abbrev pub HoldsMember : Text → DiskState → Member X → Type 0
  HoldsMember name d member = IfSome d.view.now (λ f. MemberSo IsTextOf value (f name) member)

  -- its pair has this value, or none
  abbrev pub HoldsValue : Text → DiskState → Option X → Type 0
  HoldsValue name d v = IfSome d.view.now (λ f. ValueSo IsTextOf value f name v)

  -- a pair of two such members has this value, or none
  abbrev pub HaveValue : Member X → Member X → Option X → Type 0
  HaveValue main copy v = (f : Content) (name : List ℕ) → MemberSo IsTextOf value (f name) main
      → MemberSo IsTextOf value (f (copy_of name)) copy → ValueSo IsTextOf value f name v

  -- what deviates in the member is added
  abbrev pub AddsMember : Text → Member X → FindingList → FindingList → Type 0
  AddsMember name member old new = (f : Content) → MemberSo IsTextOf value (f name) member
      → Adds (MemberDeviates IsTextOf f name) old.items new.items

  -- and that the two differ
  abbrev pub AddsBoth : Text → Member X → Member X → FindingList → FindingList → Type 0
  AddsBoth name main copy old new = (f : Content) → MemberSo IsTextOf value (f name) main
      → MemberSo IsTextOf value (f (copy_of name)) copy → Adds (BothDeviate IsTextOf f name) old.items new.items

-- what deviates in the pair
abbrev pub AddsPair : {V : Type 0} → (V → Text → Type 0) → Text → DiskState → FindingList → FindingList → Type 0
AddsPair IsTextOf name d old new = AddsHeld (λ f. PairDeviates IsTextOf f name) d old new

-- the label's manifest has this value, or none
abbrev pub HoldsManifest : Text → Label → DiskState → Option rust_manifest.Manifest → Type 0
HoldsManifest stanza own d v = HoldsValue IsManifestText manifest_of (manifest_name stanza own) d v

-- the backup pair has this value
abbrev pub HoldsBackupPair : Text → BackupInfo → DiskState → Type 0
HoldsBackupPair stanza v d = IfSome d.view.now (λ f. PairIs IsBackupText f (backup_info stanza) v)

-- what deviates in the two pairs of the stanza
abbrev pub AddsPairs : Text → DiskState → FindingList → FindingList → Type 0
AddsPairs stanza d old new = AddsHeld (PairsDeviate stanza) d old new

-- ---- the archive

-- so the file's bytes lie that the disk holds, where there are as many as were listed
abbrev pub HoldsStored : Stored → DiskState → Lies → Type 0
HoldsStored file d lies = IfSome d.view.now
    (λ f. IsSomeAnd (f (string_bytes file.path)) (λ bytes. length bytes ≡ file.size)
    → LiesSo (f (string_bytes file.path)) 0 file.size lies)

-- that the file's bytes have another sum than its name states
abbrev pub AddsStored : Stored → DiskState → FindingList → FindingList → Type 0
AddsStored file d old new = IfSome d.view.now
    (λ f. (stanza : Text) → IsStoredFile stanza f file → Adds (HasOther f file) old.items new.items)

-- the same for each file
abbrev pub AddsBytes : List Stored → DiskState → FindingList → FindingList → Type 0
AddsBytes files d old new = IfSome d.view.now
    (λ f. (stanza : Text) → AreStored stanza f files → Adds (OfSome (HasOther f) files) old.items new.items)

-- which of the files have an earlier name too
abbrev pub AddsSeconds : List Stored → FindingList → FindingList → Type 0
AddsSeconds files old new = (stanza : Text) (f : Content) → AreStored stanza f files
    → Adds (SecondDeviates stanza f) old.items new.items

-- all that deviates in them
abbrev pub AddsArchive : List Stored → DiskState → FindingList → FindingList → Type 0
AddsArchive files d old new = IfSome d.view.now
    (λ f. (stanza : Text) → AreStored stanza f files → Adds (FileDeviates stanza f) old.items new.items)

-- all that deviates in the stanza's archive
abbrev pub AddsArchiveOf : Text → DiskState → FindingList → FindingList → Type 0
AddsArchiveOf stanza d old new = AddsHeld (FileDeviates stanza) d old new

-- ---- a backup's files

-- how a file deviates
abbrev pub AddsFile : Text → Label → rust_file_entry.FileEntry → DiskState → FindingList → FindingList → Type 0
AddsFile stanza own file d old new = AddsHeld (λ f. EntryDeviates stanza f own (file_entry_of file)) d old new

-- where it lies in the backup's own folder
abbrev pub AddsOwnFile : Text → Label → rust_file_entry.FileEntry → DiskState → FindingList → FindingList → Type 0
AddsOwnFile stanza own file d old new = AddsHeld (λ f. OwnEntryDeviates stanza f own (file_entry_of file)) d old new

-- how those of the files deviate that do
abbrev pub AddsOwnFiles : Text → Label → List rust_file_entry.FileEntry → DiskState → FindingList → FindingList → Type 0
AddsOwnFiles stanza own files d old new =
    AddsHeld (λ f. OfSome (OwnEntryDeviates stanza f own) (map file_entry_of files)) d old new

-- the disk has these files in a listed backup of the label
abbrev pub HoldsFilesOf : Text → Label → List rust_file_entry.FileEntry → DiskState → Type 0
HoldsFilesOf stanza label files d = IfSome d.view.now (λ f. AreFilesOf stanza f label (map file_entry_of files))

-- how a file deviates, where it lies in the folder of the other backup
abbrev pub AddsShared : Text → Label → BackupFiles → rust_file_entry.FileEntry → DiskState → FindingList → FindingList
    → Type 0
AddsShared stanza own other file d old new = AddsMostHeld stanza
    (λ f. ReferredDeviates stanza f own other.label.now (file_entry_of file)) (λ _. Never) d old new

-- how those of a backup's files deviate that do
abbrev pub AddsLabel : Text → BackupFiles → BackupFiles → DiskState → FindingList → FindingList → Type 0
AddsLabel stanza backup other d old new = AddsMostHeld stanza
    (λ f. OfSome (ReferredDeviates stanza f backup.label.now other.label.now) (map file_entry_of backup.files.now))
    (λ _. Never) d old new

-- the same for each of these labels
abbrev pub AddsLabels : Text → BackupFiles → List Label → DiskState → FindingList → FindingList → Type 0
AddsLabels stanza backup labels d old new = AddsMostHeld stanza
    (λ f. OfSome (SharedDeviates stanza f backup.label.now (map file_entry_of backup.files.now)) labels) (λ _. Never)
    d old new

-- how the files of the backup deviate
abbrev pub AddsFiles : Text → Label → List rust_file_entry.FileEntry → DiskState → FindingList → FindingList → Type 0
AddsFiles stanza own files d old new = AddsMostHeld stanza
    (λ f. OfSome (EntryDeviates stanza f own) (map file_entry_of files))
    (λ f. OfSome (OwnEntryDeviates stanza f own) (map file_entry_of files)) d old new

-- ---- a backup

-- that the manifest is unlike the entry
abbrev pub AddsUnlike : Text → List Cluster → rust_entry.Entry → rust_manifest.Manifest → FindingList → FindingList
    → Type 0
AddsUnlike name history entry manifest old new =
    Adds (IsUnlikeAt name history (entry_of entry) (manifest_of manifest)) old.items new.items

-- which segments that the backup needs aren't among the files
abbrev pub AddsSpan : Text → Label → rust_manifest.Manifest → List Stored → FindingList → FindingList → Type 0
AddsSpan stanza own manifest files old new = (f : Content) → AreStored stanza f files
    → Adds (SpanDeviates stanza f own (manifest_of manifest)) old.items new.items

-- which labels the files refer to that aren't listed
abbrev pub AddsUnlisted : Text → List rust_file_entry.FileEntry → List Label → FindingList → FindingList → Type 0
AddsUnlisted name files listed old new = Adds (AreUnlisted name (map file_entry_of files) listed) old.items new.items

-- what deviates in the backup of this label
abbrev pub AddsOfBackup : Text → Label → DiskState → FindingList → FindingList → Type 0
AddsOfBackup stanza own d old new =
    AddsMostHeld stanza (λ f. BackupDeviates stanza f own) (λ f. OwnDeviates stanza f own) d old new

-- in it and in its entry
abbrev pub AddsListed : Text → List Cluster → rust_entry.Entry → DiskState → FindingList → FindingList → Type 0
AddsListed stanza history entry d old new = AddsMostHeld stanza
    (λ f. ListedDeviates stanza f history (entry_of entry)) (λ f. OwnDeviates stanza f entry.label) d old new

-- the same for each entry
abbrev pub AddsBackups : Text → List Cluster → List rust_entry.Entry → DiskState → FindingList → FindingList → Type 0
AddsBackups stanza history entries d old new = AddsMostHeld stanza
    (λ f. OfSome (ListedDeviates stanza f history) (map entry_of entries))
    (λ f. OfSome (λ (e : Entry). OwnDeviates stanza f e.label) (map entry_of entries)) d old new

-- ---- the whole

-- where the stanza that the disk holds is sound and its members agree, there are none
abbrev pub NoneIfSound : Text → DiskState → FindingList → Type 0
NoneIfSound stanza d found = IfSome d.view.now (λ f. (s : Stanza) → HasStanza stanza f s → IsSoundStanza s
    → MembersAgree stanza f s → found.items ≡ [])
