-- What disks keep of a list of calls: the logs of all stanzas, and the files that were pushed.
use Rattle.std.specs.Prelude.{◌≡◌, ◌⊎◌, ◌++◌, ℕ, true, List, [], ◌∷◌, Some, None, IsSome}
use Rattle.sha1.specs.Sha1.{sha1}
use Rattle.base_devices.specs.Content.{Content}
use Rattle.base_devices.specs.Moments.{View, IsImage}
use Rattle.base_devices.specs.Crash.{Leaves}
use Rattle.base_model.specs.declared.wal.ArchiveId.{ArchiveId}
use Rattle.base_model.specs.Text.{Text, In}
use Rattle.base_model.specs.Repository.{Archived, Stanza, Repository}
use Rattle.base_model.specs.Represents.{Represents}
use Rattle.base_model.specs.Steps.{Named, Step, Forget, ArchivePush, after, is_same_file, steps_of}
use Rattle.base_model.specs.Log.{Done, IsDone, Reaches, RepresentsAfter, Keeps}
use Rattle.base_crash_lists.specs.Beside.{IsStanza}
use Rattle.base_crash_lists.specs.Trace.{Disks, Call, IsWithin, HasReceiptsOf, log_of}
use Rattle.archive_lookup.specs.Stored.{archive_path}

-- ---- a file that was pushed

-- the push of the file, acknowledged
abbrev pub pushed : Named → Done
pushed n = record { command = ArchivePush n; acknowledged = true }

-- the log is these later commands after an acknowledged push of the file
abbrev pub IsSince : Named → List Done → List Done → Type 0
IsSince n later log = (earlier : List Done) × (log ≡ later ++ pushed n ∷ earlier)

-- the archived file is of the name, and its bytes are of the SHA-1
abbrev pub IsFile : Named → Archived → Type 0
IsFile n a = (a.name ≡ n.name) × (sha1 a.bytes ≡ sha1 n.bytes)

-- the repository has such a file
abbrev pub HasFile : Named → Repository → Type 0
HasFile n None = ⊥
HasFile n (Some s) = (a : Archived) × In a s.archived × IsFile n a

-- this holds of a log, from some repository on, of which each repository that it reaches has the file
pub record FromFile (n : Named) (P : Repository → List Done → Type 0) : Type 0 where
  pub from : Repository
  pub log : List Done
  pub has : (r : Repository) → Reaches from log r → HasFile n r
  pub holds : P from log

-- ---- all stanzas

-- This holds of the log of each stanza, by the earlier calls and then these, from its repository on. And of each push
-- among these that was acknowledged it holds of the later commands, after a log that leaves the file.
pub record OnLogs (P : Text → Repository → List Done → Type 0) (q : Text → Repository) (earlier calls : List Call) :
    Type 0 where
  pub logs : (stanza : Text) → IsStanza stanza → P stanza (q stanza) (log_of stanza (calls ++ earlier))
  pub files : (stanza : Text) → IsStanza stanza → (n : Named) (later : List Done)
      → IsSince n later (log_of stanza calls) → FromFile n (λ from log. P stanza from (later ++ log))

-- the contents of both disks are known, and they keep these logs
pub record KeepsCalls (q : Text → Repository) (earlier calls : List Call) (d : Disks) : Type 0 where
  pub known : IsSome d.repo.now
  pub spool_known : IsSome d.spool.now
  pub keeps : OnLogs (λ stanza from log. Keeps stanza from log d.repo d.spool) q earlier calls

-- f represents of the stanza a repository of the log, and g has receipts of it
abbrev pub StandFor : Content → Content → Text → Repository → List Done → Type 0
StandFor f g stanza from log = RepresentsAfter stanza from log f × HasReceiptsOf stanza from log g

-- So does all that a crash leaves, of each disk at a moment of its own.
abbrev pub LeaveCalls : (Text → Repository) → List Call → List Call → Disks → Disks → Type 0
LeaveCalls q earlier calls old new = (t u : ℕ) (f g : Content) → IsWithin old.repo new.repo t → IsImage new.repo t f
    → IsWithin old.spool new.spool u → IsImage new.spool u g → OnLogs (StandFor f g) q earlier calls

-- ---- what a reader of the disk finds

-- some id has bytes of this SHA-1 at the file's name
abbrev pub HasStored : Text → Named → Content → Type 0
HasStored stanza n f = (id : ArchiveId) × (bytes : Text)
    × (f (archive_path stanza id n.name (sha1 n.bytes)) ≡ Some bytes) × (sha1 bytes ≡ sha1 n.bytes)

-- one of the steps removes the file of this one's id and name
abbrev pub Forgets : Archived → List Step → Type 0
Forgets a steps = (b : Archived) × In (Forget b) steps × (is_same_file b a ≡ true)

-- from one repository the log leads to the other, and a step on the way removes the file
abbrev pub Removes : Archived → Repository → List Done → Repository → Type 0
Removes a q [] r = ⊥
Removes a q (d ∷ log) r = (mid : Repository) × (steps : List Step) × (r ≡ after mid steps)
    × IsDone d.acknowledged steps (steps_of d.command mid)
    × (Removes a q log mid ⊎ (Reaches q log mid × Forgets a steps))

-- from a stanza that had the file the later commands lead to what f represents, and a step on the way removes it
pub record IsRemoved (stanza : Text) (n : Named) (later : List Done) (f : Content) : Type 0 where
  pub had : Stanza
  pub file : Archived
  pub archived : In file had.archived
  pub is : IsFile n file
  pub repository : Repository
  pub removes : Removes file (Some had) later repository
  pub represents : Represents stanza f repository

-- the file is there, or one of these later commands has removed it
abbrev pub IsThere : Text → Named → List Done → Content → Type 0
IsThere stanza n later f = HasStored stanza n f ⊎ IsRemoved stanza n later f

-- so is each file of which one of the calls is an acknowledged push, in what the disk holds and all that a crash now
-- leaves
abbrev pub AreThere : List Call → View → Type 0
AreThere calls v = (stanza : Text) → IsStanza stanza → (n : Named) (later : List Done)
    → IsSince n later (log_of stanza calls) → (f : Content) → Leaves v v.moment f → IsThere stanza n later f
