-- Why archive-push answers so.
use Rattle.std.specs.Prelude.{◌≡◌, ◌≢◌, ◌⊎◌, ◌∷◌, [], Option, Some, IfSome}
use Rattle.sha1.specs.Sha1.{sha1}
use Rattle.base_devices.specs.Content.{Content}
use Rattle.base_devices.specs.Moments.{View}
use Rattle.base_devices.specs.Crash.{NowChanges, AllOf, IsAlikeAt}
use Rattle.base_devices.specs.DataFolder.{Nodes}
use Rattle.base_model.specs.declared.clusters.ArchiveInfo as rust_archive_info
use Rattle.base_model.specs.declared.clusters.ClusterId.{ClusterId}
use Rattle.base_model.specs.declared.wal.ArchiveId.{ArchiveId}
use Rattle.base_model.specs.declared.wal.ArchiveName.{ArchiveName}
use Rattle.base_model.specs.Fields.{at_number}
use Rattle.base_model.specs.Text.{Text}
use Rattle.base_model.specs.Names.{wal_text}
use Rattle.repo_stanza.specs.declared.control.Control.{Control}
use Rattle.repo_stanza.specs.declared.fault.Identity.{Identity}
use Rattle.repo_stanza.specs.Pairs.{identity_kept, identity_known}
use Rattle.archive_lookup.specs.declared.stored.fault.ArchiveFault.{ArchiveFault}
use Rattle.archive_lookup.specs.declared.stored.fault.ArchiveFault.TheVariants.{HeaderForm as FormOf, SegmentSize as SizeOf, HeaderMismatch as MismatchOf, Ambiguous as AmbiguousOf, Duplicate as DuplicateOf, TooLong as LongOf}
use Rattle.archive_lookup.specs.Causes.{IsFileOf, limit_of, PushCause as StoringCause}
use Rattle.archive_store.specs.Pushes.{IsPathOf}
use Rattle.archive_lookup.specs.Stored.{archive_path, StoresNone, StoresOnly}
use Rattle.cmd_types.specs.declared.stages.halt.Halt.{Halt}
use Rattle.cmd_types.specs.declared.stages.halt.Halt.TheVariants.{Refused}
use Rattle.cmd_types.specs.Cluster.{FolderShows}
use Rattle.cmd_types.specs.Current.{HasCurrent, id_kept}
use Rattle.cmd_archive_push.specs.declared.fault.PushFault.{PushFault}
use Rattle.cmd_archive_push.specs.declared.fault.PushFault.TheVariants.{SegmentName, PathOutside, StanzaMismatch, SegmentMissing, TooLong, HeaderForm, SegmentSize, HeaderMismatch, Ambiguous, Duplicate}
use Rattle.cmd_archive_push.specs.WalPath.{IsWalPath, HasWal}
use Rattle.cmd_archive_push.specs.WalCause.{WordCause, FileCause}
use Rattle.cmd_archive_push.specs.Outcomes.{same_line}

-- the data folder reports this cluster, and the archive pair has it as its current one
pub record IsCurrent (stanza : Text) (repo : Option Content) (nodes : Option Nodes) (known : Control)
    (c : ClusterId) : Type 0 where
  pub shows : IfSome nodes (λ f. FolderShows f known)
  pub current : IfSome repo (λ f. HasCurrent stanza f c)
  pub same : identity_kept c ≡ identity_known known

-- and the argument names a file of the log, of which the data folder has these bytes
pub record IsReady (stanza folder path : Text) (repo : Option Content) (nodes : Option Nodes) (wal : ArchiveName)
    (bytes : Text) (known : Control) (c : ClusterId) : Type 0 where
  pub has : IfSome nodes (λ f. HasWal f folder path wal bytes)
  pub of : IsCurrent stanza repo nodes known c

-- the stanza's current cluster isn't the one that the data folder reports
abbrev pub MismatchCause : Text → Option Content → Option Nodes → Identity → Identity → Type 0
MismatchCause stanza repo nodes kept found = (known : Control) × IfSome nodes (λ f. FolderShows f known)
    × ((kept ≢ found) × (found ≡ identity_known known)
    × ((c : ClusterId) × (kept ≡ identity_kept c) × IfSome repo (λ f. HasCurrent stanza f c)))

-- the id is that of the pair's current cluster, which is the data folder's
abbrev pub IsIdOfCurrent : rust_archive_info.ArchiveInfo → Control → ArchiveId → Type 0
IsIdOfCurrent info known id = (c : ClusterId) × (at_number info.current info.history.items ≡ Some c)
    × (id ≡ id_kept c) × (identity_kept c ≡ identity_known known)

-- the pair's current cluster is another than the data folder's, and that is the refusal
abbrev pub HasOtherCurrent : rust_archive_info.ArchiveInfo → Control → Halt PushFault → Type 0
HasOtherCurrent info known halt = (c : ClusterId) × (at_number info.current info.history.items ≡ Some c)
    × (halt ≡ Refused (StanzaMismatch (identity_kept c) (identity_known known)))
    × (identity_kept c ≢ identity_known known)

-- the file is refused for its content
pub record IsRefusedPush (stanza folder path : Text) (repo : Option Content) (nodes : Option Nodes)
    (fault : ArchiveFault) : Type 0 where
  pub wal : ArchiveName
  pub bytes : Text
  pub known : Control
  pub current : ClusterId
  pub ready : IsReady stanza folder path repo nodes wal bytes known current
  pub cause : StoringCause stanza (id_kept current) wal known.system bytes repo ⊥ fault

-- the file isn't there or is too long, and all that is looked at before is valid
pub record IsRefusedFile (stanza folder path : Text) (repo : Option Content) (nodes : Option Nodes)
    (fault : PushFault) : Type 0 where
  pub wal : ArchiveName
  pub named : IsWalPath folder path wal
  pub known : Control
  pub current : ClusterId
  pub of : IsCurrent stanza repo nodes known current
  pub cause : FileCause path (wal_text wal) (limit_of wal) nodes fault

-- Why archive-push is refused, from what the repository and the data folder held as it began to store the file.
abbrev pub PushCause : Text → Text → Text → Option Content → Option Nodes → PushFault → Type 0
PushCause stanza folder path repo nodes (SegmentName word) = WordCause folder path (SegmentName word)
PushCause stanza folder path repo nodes (PathOutside word) = WordCause folder path (PathOutside word)
PushCause stanza folder path repo nodes (StanzaMismatch kept found) = MismatchCause stanza repo nodes kept found
PushCause stanza folder path repo nodes (SegmentMissing word) =
    IsRefusedFile stanza folder path repo nodes (SegmentMissing word)
PushCause stanza folder path repo nodes (TooLong word limit) =
    IsRefusedFile stanza folder path repo nodes (TooLong word limit)
    ⊎ IsRefusedPush stanza folder path repo nodes (LongOf word limit)
PushCause stanza folder path repo nodes (HeaderForm info) = IsRefusedPush stanza folder path repo nodes (FormOf info)
PushCause stanza folder path repo nodes (SegmentSize known found) =
    IsRefusedPush stanza folder path repo nodes (SizeOf known found)
PushCause stanza folder path repo nodes (HeaderMismatch kept found) =
    IsRefusedPush stanza folder path repo nodes (MismatchOf kept found)
PushCause stanza folder path repo nodes (Ambiguous first second) =
    IsRefusedPush stanza folder path repo nodes (AmbiguousOf first second)
PushCause stanza folder path repo nodes (Duplicate kept found) =
    IsRefusedPush stanza folder path repo nodes (DuplicateOf kept found)

-- the file was stored nowhere, and these bytes are put at its path; no other file changes
pub record IsPut (stanza : Text) (id : ArchiveId) (wal : ArchiveName) (bytes : Text)
    (old new : Option Content) : Type 0 where
  pub none : IfSome old (λ f. StoresNone stanza id wal f)
  pub puts : NowChanges (AllOf ((archive_path stanza id wal (sha1 bytes), bytes) ∷ [])) old new

-- the file was stored with the sum of these bytes alone, and no file changes
pub record IsKept (stanza : Text) (id : ArchiveId) (wal : ArchiveName) (bytes : Text)
    (old new : Option Content) : Type 0 where
  pub only : IfSome old (λ f. StoresOnly stanza id wal f (sha1 bytes))
  pub same : new ≡ old

-- Ok of archive-push, with its lines: none where the file is put, and a warning where it was stored with the same sum.
pub record IsStored (stanza folder path : Text) (nodes : Option Nodes) (old new : Option Content)
    (lines : Text) : Type 0 where
  pub wal : ArchiveName
  pub bytes : Text
  pub known : Control
  pub current : ClusterId
  pub ready : IsReady stanza folder path old nodes wal bytes known current
  pub valid : IsFileOf wal bytes known.system
  pub known_by : ((lines ≡ []) × IsPut stanza (id_kept current) wal bytes old new)
      ⊎ ((lines ≡ same_line (wal_text wal)) × IsKept stanza (id_kept current) wal bytes old new)

-- In all that a crash leaves the file has at its paths what the repository has there.
pub record IsLasting (stanza folder path : Text) (v : View) : Type 0 where
  pub wal : ArchiveName
  pub named : IsWalPath folder path wal
  pub current : ClusterId
  pub has : IfSome v.now (λ f. HasCurrent stanza f current)
  pub alike : IsAlikeAt (IsPathOf stanza (id_kept current) wal) v
