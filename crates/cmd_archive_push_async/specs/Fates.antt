-- What becomes of files that are ready, one after the other.
use Rattle.std.specs.Prelude.{◌≡◌, ◌≢◌, ◌⊎◌, ◌+◌, ℕ, List, [], ◌∷◌, ◌++◌, Some, None}
use Rattle.sha1.specs.Sha1.{sha1}
use Rattle.base_devices.specs.Content.{Content}
use Rattle.base_devices.specs.Crash.{Write}
use Rattle.base_devices.specs.DataFolder.{Nodes, file_bytes}
use Rattle.base_model.specs.declared.wal.ArchiveId.{ArchiveId}
use Rattle.base_model.specs.declared.wal.ArchiveName.{ArchiveName}
use Rattle.base_model.specs.Names.{receipt_name, wal_text}
use Rattle.base_model.specs.Repository.{Archived, Stanza}
use Rattle.base_model.specs.Steps.{Named}
use Rattle.base_model.specs.Text.{Text, In}
use Rattle.archive_lookup.specs.Causes.{HeaderCause, IsFileOf}
use Rattle.archive_lookup.specs.Stored.{StoresOnly}
use Rattle.archive_lookup.specs.declared.stored.fault.ArchiveFault.TheVariants.{HeaderForm as FormOf, SegmentSize as SizeOf, HeaderMismatch as MismatchOf}
use Rattle.archive_lookup.specs.Turns.{refusal_name}
use Rattle.cmd_archive_push.specs.declared.fault.PushFault.{PushFault}
use Rattle.cmd_archive_push.specs.declared.fault.PushFault.TheVariants.{HeaderForm, SegmentSize, HeaderMismatch, Duplicate}
use Rattle.cmd_archive_push.specs.Texts.{push_status, content_text}
use Rattle.cmd_archive_push.specs.WalPath.{wal_path}
use Rattle.archive_spool.specs.Marks.{named, receipt_text, refusal_text}
use Rattle.cmd_archive_push_async.specs.declared.files.push_marks.Drained.{Drained}
use Rattle.cmd_archive_push_async.specs.Storing.{stored}

-- what became of a file: the data folder doesn't have it, it was stored with these bytes, or it was refused with this
-- status and line
pub data Fate : Type 0 where
  absent : Fate
  saved : Text → Fate
  refused : ℕ → Text → Fate

-- a name, and what became of its file
pub record Entry : Type 0 where
  pub name : ArchiveName
  pub fate : Fate

abbrev pub names_of : List Entry → List ArchiveName
names_of [] = []
names_of (e ∷ es) = e.name ∷ names_of es

-- ---- which are stored, and which are refused

-- the file, where it was stored
abbrev pub kept_of : ArchiveName → Fate → List Named
kept_of name (saved bytes) = named name bytes ∷ []
kept_of name other = []

-- the files that were stored, in their order
abbrev pub kept_files : List Entry → List Named
kept_files [] = []
kept_files (e ∷ es) = kept_of e.name e.fate ++ kept_files es

abbrev pub refused_count : Fate → ℕ
refused_count (refused code line) = 1
refused_count other = 0

abbrev pub kept_count : Fate → ℕ
kept_count (saved bytes) = 1
kept_count other = 0

-- how many were stored
abbrev pub kept_number : List Entry → ℕ
kept_number [] = 0
kept_number (e ∷ es) = kept_count e.fate + kept_number es

-- how many were refused
abbrev pub refused_number : List Entry → ℕ
refused_number [] = 0
refused_number (e ∷ es) = refused_count e.fate + refused_number es

-- ---- their marks

-- the mark of one
abbrev pub marks_of : Text → ArchiveName → Fate → List Write
marks_of stanza name absent = []
marks_of stanza name (saved bytes) = (receipt_name stanza name, receipt_text (sha1 bytes)) ∷ []
marks_of stanza name (refused code line) = (refusal_name stanza name, refusal_text code line) ∷ []

-- the marks of all, in their order: a receipt of each that was stored, and a refusal of each that was refused
abbrev pub all_marks : Text → List Entry → List Write
all_marks stanza [] = []
all_marks stanza (e ∷ es) = marks_of stanza e.name e.fate ++ all_marks stanza es

-- ---- why this is the result

-- the stanza has another file of this id and name archived, with this sum
pub record HasOther (s : Stanza) (id : ArchiveId) (name : ArchiveName) (sum : Text) : Type 0 where
  pub file : Archived
  pub archived : In file s.archived
  pub of_id : file.id ≡ id
  pub of_name : file.name ≡ name
  pub of_sum : sha1 file.bytes ≡ sum

-- each file of this id and name that the stanza has archived has this sum
pub record HasNoOther (s : Stanza) (id : ArchiveId) (name : ArchiveName) (sum : Text) : Type 0 where
  pub each : (file : Archived) → In file s.archived → file.id ≡ id → file.name ≡ name → sha1 file.bytes ≡ sum

-- the bytes are refused so as a file of this name: they aren't one of the cluster with this system identifier, or this
-- holds of another sum
abbrev pub IsContentOf : (other : Text → Type 0) → ℕ → ArchiveName → Text → PushFault → Type 0
IsContentOf other system name bytes (HeaderForm info) = HeaderCause name bytes system (FormOf info)
IsContentOf other system name bytes (SegmentSize known found) = HeaderCause name bytes system (SizeOf known found)
IsContentOf other system name bytes (HeaderMismatch kept found) = HeaderCause name bytes system (MismatchOf kept found)
IsContentOf other system name bytes (Duplicate kept found) = IsFileOf name bytes system × (found.0 ≡ sha1 bytes)
    × (found.0 ≢ kept.0) × other kept.0
IsContentOf other system name bytes fault = ⊥

-- such a refusal has this status and this line
abbrev pub IsRefusedAs : (other : Text → Type 0) → ℕ → ArchiveName → Text → ℕ → Text → Type 0
IsRefusedAs other system name bytes code line = (fault : PushFault) × IsContentOf other system name bytes fault
    × (code ≡ push_status fault) × (content_text fault ≡ Some line)

-- this is the result for the bytes: they are stored, and this holds of their sum; or they are refused, as they aren't
-- one of the cluster, or as that holds of another sum
abbrev pub IsFateOf : (own other : Text → Type 0) → ℕ → ArchiveName → Text → Fate → Type 0
IsFateOf own other system name bytes absent = ⊥
IsFateOf own other system name bytes (saved kept) = (kept ≡ bytes) × IsFileOf name bytes system × own (sha1 bytes)
IsFateOf own other system name bytes (refused code line) = IsRefusedAs other system name bytes code line

-- this is the result for the file that the data folder has under the name
abbrev pub IsFate : Nodes → (own other : Text → Type 0) → ℕ → ArchiveName → Fate → Type 0
IsFate f own other system name fate = ((file_bytes (f (wal_path (wal_text name))) ≡ None) × (fate ≡ absent))
    ⊎ ((bytes : Text) × (file_bytes (f (wal_path (wal_text name))) ≡ Some bytes)
    × IsFateOf own other system name bytes fate)

-- This is the result for them in a stanza, one after the other: what is stored the stanza doesn't have with another
-- sum, and what is refused for its sum it has so.
abbrev pub AreFates : Nodes → Stanza → ArchiveId → ℕ → List Entry → Type 0
AreFates f s id system [] = Unit {0}
AreFates f s id system (e ∷ es) = IsFate f (HasNoOther s id e.name) (HasOther s id e.name) system e.name e.fate
    × AreFates f (stored s id (kept_of e.name e.fate)) id system es

-- This is the result for them by what the repository then holds, whatever else lies there. A file that is stored has
-- its name there with the sum of its bytes alone. One that is refused for its sum has it with another sum alone.
abbrev pub AreFound : Nodes → Text → ArchiveId → ℕ → Content → List Entry → Type 0
AreFound f stanza id system g [] = Unit {0}
AreFound f stanza id system g (e ∷ es) = IsFate f (StoresOnly stanza id e.name g) (StoresOnly stanza id e.name g)
    system e.name e.fate × AreFound f stanza id system g es

-- ---- what is counted

-- of one file
pub record IsCountOf (fate : Fate) (drained : Drained) : Type 0 where
  pub pushed : drained.pushed ≡ kept_count fate
  pub refused : drained.refused ≡ refused_count fate

-- of all of them: this many were stored, and this many refused
pub record Counts (entries : List Entry) (drained : Drained) : Type 0 where
  pub pushed : drained.pushed ≡ kept_number entries
  pub refused : drained.refused ≡ refused_number entries
