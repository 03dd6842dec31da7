-- What deviates in a repository. Only listed backups are looked at (own).
use Rattle.std.specs.Prelude.{◌≡◌, ◌≢◌, ◌⊎◌, ◌↔◌, ◌<◌, ℕ, true, List, Option, Some, None, IsSome, IsSomeAnd, length, take, drop, option_map}
use Rattle.sha1.specs.Sha1.{sha1}
use Rattle.base_text.specs.Sum.{sum_text}
use Rattle.base_devices.specs.Content.{Value, Content}
use Rattle.base_devices.specs.Order.{is_before}
use Rattle.base_model.specs.declared.labels.Label.{Label}
use Rattle.base_model.specs.declared.clusters.Cluster.{Cluster}
use Rattle.base_model.specs.declared.wal.Segment.{Segment}
use Rattle.base_model.specs.declared.wal.ArchiveId.{ArchiveId}
use Rattle.base_model.specs.declared.wal.ArchiveName.{ArchiveName}
use Rattle.base_model.specs.declared.wal.ArchiveName.TheVariants.{Segment as Whole, Partial}
use Rattle.base_model.specs.Text.{Text, In}
use Rattle.base_model.specs.Names.{archive_info, backup_info, manifest_name, label_folder, copy_of, archive_name}
use Rattle.base_model.specs.declared.wal.WalPart.{WalPart}
use Rattle.base_model.specs.Values.{Entry, BackupInfo, FileEntry, Manifest}
use Rattle.base_model.specs.InfoFiles.{IsArchiveText, IsBackupText}
use Rattle.base_model.specs.ManifestText.{IsManifestText}
use Rattle.base_model.specs.Pair.{PairIs}
use Rattle.base_model.specs.Place.{place}
use Rattle.base_model.specs.Repository.{IsWithinSpan}
use Rattle.base_model.specs.Represents.{IsArchivePlace}
use Rattle.base_model.specs.Log.{Lists}
use Rattle.cmd_verify.specs.Contradictions.{IsContradiction}
use Rattle.cmd_verify.specs.What.{What, MemberAbsent, MemberBad, MembersDiffer, Absent, Short, Digest, Second, Gap, Reference, Unlike}

-- ---- a pair

-- the bytes are a text of the kind
abbrev pub IsText : {V : Type 0} → (V → Text → Type 0) → Text → Type 0
IsText {V} IsTextOf bytes = (v : V) × IsTextOf v bytes

-- the member at a name has to be a text of the kind, and deviates so
abbrev pub MemberDeviates : {V : Type 0} → (V → Text → Type 0) → Content → Text → Text → What → Type 0
MemberDeviates IsTextOf f at name MemberAbsent = (name ≡ at) × (f at ≡ None)
MemberDeviates IsTextOf f at name MemberBad = (name ≡ at) × IsSomeAnd (f at) (λ bytes. ¬ IsText IsTextOf bytes)
MemberDeviates IsTextOf f at name what = ⊥

-- both members are texts of the kind, and they differ; that is reported at the main one
abbrev pub BothDeviate : {V : Type 0} → (V → Text → Type 0) → Content → Text → Text → What → Type 0
BothDeviate IsTextOf f main name MembersDiffer = (name ≡ main) × IsSomeAnd (f main)
    (λ a. IsSomeAnd (f (copy_of main)) (λ b. IsText IsTextOf a × IsText IsTextOf b × (a ≢ b)))
BothDeviate IsTextOf f main name what = ⊥

-- the pair of this main name deviates so
pub data PairDeviates {V : Type 0} (IsTextOf : V → Text → Type 0) (f : Content) (main name : Text) (what : What)
    : Type 0 where
  OfMain : MemberDeviates IsTextOf f main name what → PairDeviates IsTextOf f main name what
  OfCopy : MemberDeviates IsTextOf f (copy_of main) name what → PairDeviates IsTextOf f main name what
  OfBoth : BothDeviate IsTextOf f main name what → PairDeviates IsTextOf f main name what

-- ---- the archive

-- the segment of which the file is the whole or a part
abbrev pub segment_of : ArchiveName → Option Segment
segment_of (Whole s) = Some s
segment_of (Partial s) = Some s
segment_of other = None

-- the name is the one that a segment, whole or partial, with this sum is stored under
pub record IsStoredName (stanza : Text) (id : ArchiveId) (file : ArchiveName) (segment : Segment) (sum name : Text)
    : Type 0 where
  pub fits : IsArchivePlace id file sum
  pub whole_or_part : segment_of file ≡ Some segment
  pub is : name ≡ archive_name stanza id file (sum_text sum)

-- f stores the segment under the name, and its bytes have another sum than the name states
pub record IsOther (stanza : Text) (f : Content) (name known found : Text) : Type 0 where
  pub id : ArchiveId
  pub file : ArchiveName
  pub segment : Segment
  pub stored : IsStoredName stanza id file segment known name
  pub lies : IsSomeAnd (f name) (λ bytes. sha1 bytes ≡ found)
  pub other : found ≢ known

-- f stores the segment under the name, and under one before it
pub record IsSecond (stanza : Text) (f : Content) (name : Text) (segment : Segment) : Type 0 where
  pub id : ArchiveId
  pub file : ArchiveName
  pub sum : Text
  pub stored : IsStoredName stanza id file segment sum name
  pub there : IsSome (f name)
  pub first : Text
  pub first_sum : Text
  pub first_stored : IsStoredName stanza id file segment first_sum first
  pub first_there : IsSome (f first)
  pub before : is_before first name ≡ true

-- a stored segment deviates so
abbrev pub FileDeviates : Text → Content → Text → What → Type 0
FileDeviates stanza f name (Digest known found) = IsOther stanza f name known found
FileDeviates stanza f name (Second segment) = IsSecond stanza f name segment
FileDeviates stanza f name what = ⊥

-- ---- a backup

-- what lies from a place on, at most this many bytes
abbrev pub part : Text → ℕ → ℕ → Text
part whole at size = take size (drop at whole)

-- this many bytes with this sum have to lie at a place of what is at a name, and that deviates so
abbrev pub BytesDeviate : Value → ℕ → ℕ → Text → What → Type 0
BytesDeviate None at size sum Absent = Unit {0}
BytesDeviate (Some whole) at size sum (Short known found) =
    (known ≡ size) × (found ≡ length (part whole at size)) × (found < size)
BytesDeviate (Some whole) at size sum (Digest known found) =
    (length (part whole at size) ≡ size) × (known ≡ sum) × (found ≡ sha1 (part whole at size)) × (found ≢ known)
BytesDeviate value at size sum what = ⊥

-- the bytes of a manifest's file deviate so at a name; a file without bytes has no place
pub record EntryDeviates (stanza : Text) (f : Content) (own : Label) (e : FileEntry) (name : Text) (what : What)
    : Type 0 where
  pub filled : 0 < e.size
  pub is : name ≡ (place stanza own e).0
  pub deviates : BytesDeviate (f name) (place stanza own e).1 e.size e.sum what

-- f stores the whole segment under the cluster's id
abbrev pub IsStored : Text → Content → Cluster → Segment → Type 0
IsStored stanza f c s = (sum : Text) × (name : Text)
    × IsStoredName stanza (record { version = c.version; number = c.id }) (Whole s) s sum name × IsSome (f name)

-- the backup needs a segment that isn't stored
abbrev pub SpanDeviates : Text → Content → Label → Manifest → Text → What → Type 0
SpanDeviates stanza f own m name (Gap s) = (name ≡ label_folder stanza own)
    × IsSomeAnd m.wal (λ w. IsWithinSpan w.size.0 w.span s) × ¬ IsStored stanza f m.cluster s
SpanDeviates stanza f own m name what = ⊥

-- the backup refers to a label that f doesn't list
abbrev pub ReferenceDeviates : Text → Content → Label → Manifest → Text → What → Type 0
ReferenceDeviates stanza f own m name (Reference l) = (name ≡ manifest_name stanza own)
    × ((e : FileEntry) × In e m.files × (e.reference ≡ Some l)) × ¬ Lists stanza f l
ReferenceDeviates stanza f own m name what = ⊥

-- what a manifest states deviates so
pub data ManifestDeviates (stanza : Text) (f : Content) (own : Label) (m : Manifest) (name : Text) (what : What)
    : Type 0 where
  OfEntry : (e : FileEntry) → In e m.files → EntryDeviates stanza f own e name what
      → ManifestDeviates stanza f own m name what
  OfSpan : SpanDeviates stanza f own m name what → ManifestDeviates stanza f own m name what
  OfReference : ReferenceDeviates stanza f own m name what → ManifestDeviates stanza f own m name what

-- the backup of this label deviates so
pub data BackupDeviates (stanza : Text) (f : Content) (own : Label) (name : Text) (what : What) : Type 0 where
  OfMembers : PairDeviates IsManifestText f (manifest_name stanza own) name what
      → BackupDeviates stanza f own name what
  OfManifest : (m : Manifest) → PairIs IsManifestText f (manifest_name stanza own) m
      → ManifestDeviates stanza f own m name what → BackupDeviates stanza f own name what

-- ---- a backup's entry

-- the manifest states the backup that the entry does, of a cluster of the history
pub record IsOfEntry (history : List Cluster) (e : Entry) (m : Manifest) : Type 0 where
  pub label : m.label ≡ e.label
  pub kind : m.kind ≡ e.kind
  pub prior : m.prior ≡ e.prior
  pub start : m.start ≡ e.start
  pub stop : m.stop ≡ e.stop
  pub cluster : In m.cluster history × (m.cluster.id ≡ e.db)
  pub span : option_map (λ (w : WalPart). w.span) m.wal ≡ e.span
  pub references : (l : Label) → In l e.references ↔ ((x : FileEntry) × In x m.files × (x.reference ≡ Some l))

-- the entry's manifest states another backup
abbrev pub EntryIsUnlike : Text → Content → List Cluster → Entry → Text → What → Type 0
EntryIsUnlike stanza f history e name Unlike = (name ≡ manifest_name stanza e.label)
    × ((m : Manifest) × PairIs IsManifestText f (manifest_name stanza e.label) m × ¬ IsOfEntry history e m)
EntryIsUnlike stanza f history e name what = ⊥

-- a listed backup deviates so, or its manifest is unlike its entry
abbrev pub ListedDeviates : Text → Content → List Cluster → Entry → Text → What → Type 0
ListedDeviates stanza f history e name what =
    BackupDeviates stanza f e.label name what ⊎ EntryIsUnlike stanza f history e name what

-- ---- the whole

-- f deviates so at the name: in one of its two pairs, a stored segment, a listed backup, or an entry's manifest; or it
-- contradicts itself
pub data IsFinding (stanza : Text) (f : Content) (name : Text) (what : What) : Type 0 where
  OfArchivePair : PairDeviates IsArchiveText f (archive_info stanza) name what → IsFinding stanza f name what
  OfBackupPair : PairDeviates IsBackupText f (backup_info stanza) name what → IsFinding stanza f name what
  OfFile : FileDeviates stanza f name what → IsFinding stanza f name what
  OfBackup : (own : Label) → Lists stanza f own → BackupDeviates stanza f own name what
      → IsFinding stanza f name what
  OfListed : (v : BackupInfo) → PairIs IsBackupText f (backup_info stanza) v → (e : Entry) → In e v.backups
      → EntryIsUnlike stanza f v.history e name what → IsFinding stanza f name what
  OfContradiction : IsContradiction stanza f name what → IsFinding stanza f name what
