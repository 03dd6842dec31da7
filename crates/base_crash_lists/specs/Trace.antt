-- What can happen to a repository's disk and a spool's: calls, crashes at any moment, and reopenings.
use Rattle.std.specs.Prelude.{◌≡◌, ◌⊎◌, ◌≤◌, ℕ, true, false, List, [], ◌∷◌, None, IsSome, bytes_eq, if◌then◌else◌}
use Rattle.base_devices.specs.Content.{Name, Value, Content, Holds}
use Rattle.base_devices.specs.Moments.{View, IsImage, MayKeep, LeavesNoMore, is_unsynced}
use Rattle.base_model.specs.declared.wal.ArchiveName.{ArchiveName}
use Rattle.base_model.specs.Text.{Text}
use Rattle.base_model.specs.Repository.{Repository}
use Rattle.base_model.specs.Represents.{IsWalName}
use Rattle.base_model.specs.Steps.{Command}
use Rattle.base_model.specs.Log.{Done, Reaches, HasReceipt, IsDrained, RepresentsAfter, Keeps}
use Rattle.base_model.specs.Steady.{LeavesOnly}
use Rattle.base_model.proofs.Reopened.{IsReopened}
use Rattle.base_crash_lists.specs.Beside.{IsStanza, StaysBeside}

-- the two disks of the program
pub record Disks : Type 1 where
  pub repo : View
  pub spool : View

-- ---- logs of all stanzas

-- a command of a stanza, acknowledged or not
pub record Call : Type 0 where
  pub stanza : Text
  pub done : Done

-- the same command, stopped
abbrev pub stopped : Call → Call
stopped c = record { stanza = c.stanza; done = record { command = c.done.command; acknowledged = false } }

-- the log continues by the call where it is of this stanza
abbrev pub went_on : Text → Call → List Done → List Done
went_on stanza c log = if bytes_eq stanza c.stanza then c.done ∷ log else log

-- of these calls, of which the newest is the first, the log of a stanza
abbrev pub log_of : Text → List Call → List Done
log_of stanza [] = []
log_of stanza (c ∷ calls) = went_on stanza c (log_of stanza calls)

-- ---- a call

-- the contents of both are known
abbrev pub AreKnown : Disks → Type 0
AreKnown d = IsSome d.repo.now × IsSome d.spool.now

-- each receipt that f has is of a file that a repository has stored which the log reaches
abbrev pub HasReceiptsOf : Text → Repository → List Done → Content → Type 0
HasReceiptsOf stanza q log f = (name : ArchiveName) (sum : Text) → IsWalName name → HasReceipt stanza f name sum
    → (r : Repository) × Reaches q log r × IsDrained r name sum

-- At each moment of the command all that a crash leaves of the spool has receipts of the log with a part of it.
pub record PassesReceipts (stanza : Text) (command : Command) (old new : Disks) : Type 0 where
  pub between : (q : Repository) (log : List Done) → AreKnown old → Keeps stanza q log old.repo old.spool
      → LeavesOnly (HasReceiptsOf stanza q (record { command = command; acknowledged = false } ∷ log)) old.spool
      new.spool

-- What a call of the program does, from the two disks as they were to the two as they are.
pub record Does (c : Call) (old new : Disks) : Type 0 where
  pub is_stanza : IsStanza c.stanza
  -- their contents stay known
  pub known : IsSome old.repo.now → IsSome new.repo.now
  pub spool_known : IsSome old.spool.now → IsSome new.spool.now
  -- disks that keep a log of its stanza keep it with the command
  pub keeps : (q : Repository) (log : List Done) → AreKnown old → Keeps c.stanza q log old.repo old.spool
      → Keeps c.stanza q (c.done ∷ log) new.repo new.spool
  -- at each moment all that a crash leaves is of the log with a part of the command
  pub between : (q : Repository) (log : List Done) → AreKnown old → Keeps c.stanza q log old.repo old.spool
      → LeavesOnly (RepresentsAfter c.stanza q ((stopped c).done ∷ log)) old.repo new.repo
  pub receipts : PassesReceipts c.stanza c.done.command old new
  -- and it keeps to its stanza
  pub beside : StaysBeside c.stanza old.repo new.repo
  pub spool_beside : StaysBeside c.stanza old.spool new.spool

-- Only was read: both disks hold what they held, and a crash leaves no more than before.
pub record AreStill (old new : Disks) : Type 0 where
  pub now : new.repo.now ≡ old.repo.now
  pub time : LeavesNoMore old.repo new.repo
  pub spool_now : new.spool.now ≡ old.spool.now
  pub spool_time : LeavesNoMore old.spool new.spool

-- ---- a story

-- a crash now may leave what the disk holds (the law of `Disk`)
abbrev pub IsFair : View → Type 0
IsFair v = (n : Name) (x : Value) → Holds v.now n x → MayKeep v n x ⊎ (is_unsynced v n ≡ true)

pub record AreFair (d : Disks) : Type 0 where
  pub repo : IsFair d.repo
  pub spool : IsFair d.spool

abbrev pub nothing : Content
nothing = λ _. None

-- the moment lies within the call
abbrev pub IsWithin : View → View → ℕ → Type 0
IsWithin old new t = (old.moment ≤ t) × (t ≤ new.moment)

-- The two disks were opened anew on what a crash in the call from old to new left, of each disk at a moment of its own.
pub record AreLeft (old new opened : Disks) : Type 1 where
  pub at_repo : ℕ
  pub within : IsWithin old.repo new.repo at_repo
  pub repo : Content
  pub image : IsImage new.repo at_repo repo
  pub repo_opened : IsReopened repo opened.repo
  pub at_spool : ℕ
  pub spool_within : IsWithin old.spool new.spool at_spool
  pub spool : Content
  pub spool_image : IsImage new.spool at_spool spool
  pub spool_opened : IsReopened spool opened.spool

-- What can have happened up to the present state of the two disks: the calls, of which the newest is the first.
pub data Trace : List Call → Disks → Type 1 where
  -- both were empty
  begins : (d : Disks) → IsReopened nothing d.repo → IsReopened nothing d.spool → Trace [] d
  -- a call ended
  calls : (before : List Call) (old new : Disks) (c : Call) → Trace before old → AreFair old → Does c old new
      → Trace (c ∷ before) new
  -- a call was stopped at some moment, and the disks were opened anew
  stops : (before : List Call) (old new opened : Disks) (c : Call) → Trace before old → AreFair old → Does c old new
      → AreLeft old new opened → Trace (stopped c ∷ before) opened
  -- a call was refused before it did anything
  refuses : (before : List Call) (old new : Disks) → Trace before old → AreStill old new → Trace before new
  -- such a call was stopped, or a crash came between two calls
  reopens : (before : List Call) (old new opened : Disks) → Trace before old → AreStill old new → AreLeft old new opened
      → Trace before opened

-- ---- what a story leads to

-- The contents of both disks are known, and they keep the log of each stanza.
pub record KeepsAll (before : List Call) (d : Disks) : Type 0 where
  pub known : IsSome d.repo.now
  pub spool_known : IsSome d.spool.now
  pub keeps : (stanza : Text) → IsStanza stanza → Keeps stanza None (log_of stanza before) d.repo d.spool

-- Of each stanza f represents a repository of its log, and g has receipts of it.
pub record StandAll (before : List Call) (f g : Content) : Type 0 where
  pub represents : (stanza : Text) → IsStanza stanza → RepresentsAfter stanza None (log_of stanza before) f
  pub receipts : (stanza : Text) → IsStanza stanza → HasReceiptsOf stanza None (log_of stanza before) g

-- So does all that a crash leaves, of each disk at a moment of its own.
abbrev pub LeaveAll : List Call → Disks → Disks → Type 0
LeaveAll before old new = (t u : ℕ) (f g : Content) → IsWithin old.repo new.repo t → IsImage new.repo t f
    → IsWithin old.spool new.spool u → IsImage new.spool u g → StandAll before f g
