-- What a command's own part does to the repository and the spool, and what the whole command then does.
use Rattle.std.specs.Prelude.{◌≡◌, ◌≤◌, ℕ, Bool, true, false, List, ◌∷◌, Some, IsSome}
use Rattle.base_devices.specs.Content.{Content, Name, Value}
use Rattle.base_devices.specs.Moments.{View}
use Rattle.base_devices.specs.Crash.{Leaves, Ends}
use Rattle.base_model.specs.Text.{Text}
use Rattle.base_model.specs.Repository.{Repository, IsSound}
use Rattle.base_model.specs.Represents.{Represents}
use Rattle.base_model.specs.Steps.{Step, Command, ArchivePushAsync, MakeBackup, Reading, IsPartOf, after, all_of, steps_of}
use Rattle.base_model.specs.Log.{Done, RepresentsAfter, KeepsRepository, KeepsSpool, Keeps}
use Rattle.base_model.specs.Steady.{IsSteady, IsBegun, EachImage, LeavesOnly, CarriesOn, KeepsOn}
use Rattle.base_model.specs.Now.{NowEffect}
use Rattle.base_model.specs.Values.{ArchiveInfo}
use Rattle.base_model.specs.Walks.{IsSynced, Walks, RepresentsNow, RepresentsStill}
use Rattle.base_crash_lists.specs.Beside.{StaysBeside}
use Rattle.base_crash_lists.specs.Trace.{HasReceiptsOf}
use Rattle.cmd_types.specs.declared.stages.plan.SyncScope.{SyncScope}
use Rattle.cmd_types.specs.declared.stages.plan.SyncScope.TheVariants.{Whole, Looked}
use Rattle.cmd_types.specs.Current.{HasValue}

-- how far a command came: to its end, or it was refused before its own first step, or it stopped somewhere
pub data Reached : Type 0 where
  to_end : Reached
  turned_back : Reached
  stopped : Reached

abbrev pub OnAll : Reached → Type 0 → Type 0
OnAll to_end P = P
OnAll other P = Unit {0}

abbrev pub OnNone : Reached → Type 0 → Type 0
OnNone turned_back P = P
OnNone other P = Unit {0}

-- what a command has done that is refused before its own first step: the pushes of the steps of others that it waited
-- for
abbrev pub turns_of : Command → Command
turns_of (ArchivePushAsync turns) = ArchivePushAsync turns
turns_of (MakeBackup turns b kept) = ArchivePushAsync turns
turns_of other = Reading

-- g represents a sound repository, r after a part of the command's steps
abbrev pub IsPart : Text → Command → Repository → Content → Type 0
IsPart stanza command r g = (done : List Step) × IsPartOf done (steps_of command r) × Represents stanza g (after r done)
    × IsSound (after r done)

-- ---- where names were synced before

-- whatever sound repository f represents, g represents a sound one after a part of the command's steps
abbrev pub PartEach : Text → Command → Content → Content → Type 0
PartEach stanza command f g = (r : Repository) → Represents stanza f r → IsSound r → IsPart stanza command r g

-- g represents a sound repository, r after all of the command's steps
abbrev pub IsWhole : Text → Command → Repository → Content → Type 0
IsWhole stanza command r g = Represents stanza g (after r (all_of (steps_of command r)))
    × IsSound (after r (all_of (steps_of command r)))

abbrev pub WholeEach : Text → Command → Content → Content → Type 0
WholeEach stanza command f g = (r : Repository) → Represents stanza f r → IsSound r → IsWhole stanza command r g

-- all that a crash leaves has the value of the archive pair that the disk has
abbrev pub PairAlike : Text → View → Type 0
PairAlike stanza v = (f g : Content) (x : ArchiveInfo) → v.now ≡ Some f → Leaves v v.moment g → HasValue stanza f x
    → HasValue stanza g x

-- What a command begins from that syncs what it looks at alone: no name that is looked at is unsynced, the disk
-- represents a repository, and all that a crash leaves has its archive pair.
pub record IsLookedAt (stanza : Text) (v : View) : Type 0 where
  pub synced : IsSynced stanza v
  pub now : RepresentsNow stanza v
  pub pair : PairAlike stanza v

-- At each moment all that may be left comes by a part of the command: from the one repository, or each from what might
-- have been left before.
abbrev pub Goes : SyncScope → Text → Command → View → View → Type 0
Goes Whole stanza command repo new_repo = (r : Repository) → IsSome repo.now → IsSteady stanza r repo → IsSound r
    → EachImage stanza (IsPart stanza command r) repo new_repo
Goes Looked stanza command repo new_repo = IsLookedAt stanza repo → Walks stanza (PartEach stanza command) repo new_repo

-- at the end it comes by all of the command
abbrev pub Comes : SyncScope → Text → Command → View → View → Type 0
Comes Whole stanza command repo new_repo =
    (r : Repository) → IsSome repo.now → IsSteady stanza r repo → IsSound r
    → IsSteady stanza (after r (all_of (steps_of command r))) new_repo × IsSound (after r (all_of (steps_of command r)))
Comes Looked stanza command repo new_repo = IsLookedAt stanza repo → Ends (WholeEach stanza command) repo new_repo

-- a part of the command, at each moment
pub record DoesPart (how : SyncScope) (stanza : Text) (command : Command) (repo new_repo : View) : Type 0 where
  pub part : NowEffect stanza command false repo.now new_repo.now
  pub goes : Goes how stanza command repo new_repo

-- all of it
pub record DoesWhole (how : SyncScope) (stanza : Text) (command : Command) (repo new_repo : View) : Type 0 where
  pub done : NowEffect stanza command true repo.now new_repo.now
  pub ends : Comes how stanza command repo new_repo

-- What a command's own part does to the repository: a part of its steps, and all of them where it reaches its end.
-- Where it is refused before its first step it does none but the steps of others that it waited for.
pub record RepoEffect (how : SyncScope) (stanza : Text) (command : Command) (reached : Reached) (repo new_repo : View) :
    Type
    0 where
  pub part : DoesPart how stanza command repo new_repo
  pub whole : OnAll reached (DoesWhole how stanza command repo new_repo)
  pub turned : OnNone reached (DoesPart how stanza (turns_of command) repo new_repo)

-- ---- the spool too

-- what earlier moments may leave stays
pub record Past (old new : View) : Type 0 where
  pub later : old.moment ≤ new.moment
  pub kept : (t : ℕ) (n : Name) (v : Value) → t ≤ old.moment → new.kept t n v → old.kept t n v
  pub unsynced : (t : ℕ) (n : Name) → t ≤ old.moment → new.unsynced t n ≡ old.unsynced t n

-- what the repository's disk is as a command's own part begins: steady at one repository that the log reaches; or it
-- keeps the log
abbrev pub BeginsWith : SyncScope → Text → Repository → List Done → View → Type 0
BeginsWith Whole stanza q log repo = IsBegun stanza q log repo
BeginsWith Looked stanza q log repo = KeepsRepository stanza q log repo

-- Where the two disks begin with a log, the spool keeps it with the command. At each moment each receipt that the spool
-- has, or a crash leaves, is of a file that the log with a part of the command has stored.
pub record SpoolEffect (how : SyncScope) (stanza : Text) (command : Command) (whole : Bool)
    (repo spool new_spool : View) : Type 0 where
  pub known : IsSome spool.now → IsSome new_spool.now
  pub past : Past spool new_spool
  pub keeps : (q : Repository) (log : List Done) → IsSome repo.now → IsSome spool.now → BeginsWith how stanza q log repo
      → KeepsSpool stanza q log spool → KeepsSpool stanza q (record { command = command; acknowledged = whole } ∷ log)
      new_spool
  pub between : (q : Repository) (log : List Done) → IsSome repo.now → IsSome spool.now
      → BeginsWith how stanza q log repo → KeepsSpool stanza q log spool
      → LeavesOnly (HasReceiptsOf stanza q (record { command = command; acknowledged = false } ∷ log)) spool new_spool

-- a part of the command, at each moment
pub record RunsPart (how : SyncScope) (stanza : Text) (command : Command) (repo spool new_repo new_spool : View) : Type
    0 where
  pub does : DoesPart how stanza command repo new_repo
  pub marks : SpoolEffect how stanza command false repo spool new_spool

-- all of it
pub record RunsWhole (how : SyncScope) (stanza : Text) (command : Command) (repo spool new_repo new_spool : View) : Type
    0 where
  pub does : DoesWhole how stanza command repo new_repo
  pub marks : SpoolEffect how stanza command true repo spool new_spool

-- What a command's own part does: a part of its steps; all of them where it reaches its end; and none but the steps of
-- others that it waited for where it is refused.
pub record DisksEffect (how : SyncScope) (stanza : Text) (command : Command) (reached : Reached)
    (repo spool new_repo new_spool : View) : Type 0 where
  pub part : RunsPart how stanza command repo spool new_repo new_spool
  pub whole : OnAll reached (RunsWhole how stanza command repo spool new_repo new_spool)
  pub turned : OnNone reached (RunsPart how stanza (turns_of command) repo spool new_repo new_spool)

-- ---- from any disk

-- where a log is kept, all that may be left at each moment represents the log with a part of the command
pub record Passes (stanza : Text) (command : Command) (old new : View) : Type 0 where
  pub between : (q : Repository) (log : List Done) → IsSome old.now → KeepsRepository stanza q log old
      → Past old new × LeavesOnly (RepresentsAfter stanza q (record { command = command; acknowledged = false } ∷ log))
      old
      new

-- where the two disks keep a log, all that a crash leaves of the spool at each moment has receipts of the log with a
-- part of the command
pub record PassesReceipts (stanza : Text) (command : Command) (repo spool new_spool : View) : Type 0 where
  pub past : Past spool new_spool
  pub between : (q : Repository) (log : List Done) → IsSome repo.now → IsSome spool.now → Keeps stanza q log repo spool
      → LeavesOnly (HasReceiptsOf stanza q (record { command = command; acknowledged = false } ∷ log)) spool new_spool

-- What the disks hold and all that a crash leaves continue by this: the repository by itself, whatever the spool has,
-- and the two together.
pub record Leads (stanza : Text) (command : Command) (whole : Bool) (repo spool new_repo new_spool : View) : Type
    0 where
  pub now : NowEffect stanza command whole repo.now new_repo.now
  pub repository : CarriesOn stanza command whole repo new_repo
  pub spool_known : IsSome spool.now → IsSome new_spool.now
  pub keeps : IsSome spool.now → KeepsOn stanza command whole repo spool new_repo new_spool

-- where a log is kept, the disk is steady at one repository, which the log with the whole command reaches: all that a
-- crash leaves represents it
pub record EndsAtOne (stanza : Text) (command : Command) (old new : View) : Type 0 where
  pub begun : (q : Repository) (log : List Done) → IsSome old.now → KeepsRepository stanza q log old
      → IsBegun stanza q (record { command = command; acknowledged = true } ∷ log) new

-- this holds where the whole stanza was synced
abbrev pub OnWhole : SyncScope → Type 0 → Type 0
OnWhole Whole P = P
OnWhole Looked P = Unit {0}

-- What a command does: a part of its steps after every answer and at each moment, all of them where it reached its end,
-- and none but the steps of others that it waited for where it was refused.
pub record Takes (how : SyncScope) (stanza : Text) (command : Command) (reached : Reached)
    (repo spool new_repo new_spool : View) : Type 0 where
  pub part : Leads stanza command false repo spool new_repo new_spool
  pub between : Passes stanza command repo new_repo
  pub receipts : PassesReceipts stanza command repo spool new_spool
  pub whole : OnAll reached (Leads stanza command true repo spool new_repo new_spool)
  pub ends : OnAll reached (OnWhole how (EndsAtOne stanza command repo new_repo))
  pub turned : OnNone reached (Leads stanza (turns_of command) false repo spool new_repo new_spool)

-- ---- the stages before a command

-- The stages before a command leave what the disk represents, and keep to the stanza.
pub record Quiet (stanza : Text) (old new : View) : Type 0 where
  pub now : NowEffect stanza Reading true old.now new.now
  pub beside : StaysBeside stanza old new
  pub keeps : (q : Repository) (log : List Done) → IsSome old.now → KeepsRepository stanza q log old
      → KeepsRepository stanza q log new
  pub between : (q : Repository) (log : List Done) → IsSome old.now → KeepsRepository stanza q log old
      → Past old new × LeavesOnly (RepresentsAfter stanza q log) old new

-- What the reading or healing of the pairs does: whatever each content that may be left came from represented, it
-- represents it. It keeps to the stanza.
pub record HealsPair (stanza : Text) (old new : View) : Type 0 where
  pub now : NowEffect stanza Reading true old.now new.now
  pub beside : StaysBeside stanza old new
  pub walks : IsLookedAt stanza old → Walks stanza (RepresentsStill stanza) old new

-- What a command's own part can begin from, after the stages: a disk that is steady at one repository, or one of which
-- all that a crash leaves has the same archive pair.
abbrev pub Begins : SyncScope → Text → View → View → Type 0
Begins Whole stanza old new = (q : Repository) (log : List Done) → KeepsRepository stanza q log old → IsSome old.now
    → IsBegun stanza q log new
Begins Looked stanza old new = IsSynced stanza old → IsSome old.now → PairAlike stanza new

-- ---- which command

-- each command of this kind, or one of them; or one of them where this is known
pub data Manner : Type 1 where
  each : (Command → Type 0) → Manner
  one : (Command → Type 0) → Manner
  provided : (known : Type 0) → (Command → Type 0) → Manner

abbrev pub On : Manner → (Command → Type 0) → Type 0
On (each Is) P = (command : Command) → Is command → P command
On (one Is) P = (command : Command) × Is command × P command
On (provided known Is) P = known → (command : Command) × Is command × P command
