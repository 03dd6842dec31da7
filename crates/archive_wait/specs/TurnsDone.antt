-- What other processes did while a command waited for several of their steps.
use Rattle.std.specs.Prelude.{◌≡◌, ◌≤◌, ◌+◌, ◌-◌, ◌^◌, ◌&&◌, ℕ, min, Bool, true, List, [], ◌∷◌, ◌++◌, false, map, Option, Some, IfSome, IsSome}
use Rattle.base_devices.specs.Moments.{View}
use Rattle.base_devices.specs.States.{DiskState}
use Rattle.base_model.specs.Now.{NowRepresents, NowEffect}
use Rattle.base_model.specs.Log.{Done, Keeps, KeepsSpool}
use Rattle.base_model.specs.Repository.{Repository, IsSound}
use Rattle.base_model.specs.Steady.{CarriesOn, PassesOnly, LeavesOnly}
use Rattle.base_model.specs.Steps.{Turn, ArchivePushAsync, after, all_of, steps_of}
use Rattle.base_model.specs.Text.{Text}
use Rattle.base_crash_lists.specs.Trace.{HasReceiptsOf}
use Rattle.archive_lookup.specs.Stored.{ChangesArchive}
use Rattle.archive_lookup.specs.Turns.{Turned, Account, ProcessesState}

-- all of the steps of others succeeded
abbrev pub all_ended : List Turn → Bool
all_ended [] = true
all_ended (t ∷ ts) = t.ended && all_ended ts

-- the steps of others alone, as a command's log has them
abbrev pub turns_of : List Turned → List Turn
turns_of ts = map (λ t. t.turn) ts

-- The repository changes as by a command that waits for these steps of others alone.
pub record GoesByTurns (stanza : Text) (ts : List Turn) (old new : View) : Type 0 where
  pub does : NowEffect stanza (ArchivePushAsync ts) (all_ended ts) old.now new.now
  pub carries : CarriesOn stanza (ArchivePushAsync ts) (all_ended ts) old new
  pub between : PassesOnly stanza (ArchivePushAsync ts) old new
  -- whatever sound repository it represented, that is sound with all of them
  pub sound : (r : Repository) → IsSome old.now → NowRepresents stanza r old.now → IsSound r →
      IsSound (after r (all_of (steps_of (ArchivePushAsync ts) r)))

-- The spool keeps the log of a command that waits for these steps of others, as the repository does. At each moment
-- each receipt that the spool has, or a crash leaves, is of a file that a log with a part of them has stored.
pub record MarksByTurns (stanza : Text) (ts : List Turn) (repo spool new_spool : View) : Type 0 where
  pub known : IsSome spool.now → IsSome new_spool.now
  pub keeps : (q : Repository) (log : List Done) → IsSome repo.now → IsSome spool.now → Keeps stanza q log repo spool →
      KeepsSpool stanza q (record { command = ArchivePushAsync ts; acknowledged = all_ended ts } ∷ log) new_spool
  pub between : (q : Repository) (log : List Done) → IsSome repo.now → IsSome spool.now →
      Keeps stanza q log repo spool → LeavesOnly
      (HasReceiptsOf stanza q (record { command = ArchivePushAsync ts; acknowledged = false } ∷ log)) spool new_spool

-- The account continued by steps of others, and these are all that was done to the repository and the spool. With
-- `whole` each of them succeeded.
pub record TurnsDone (whole : Bool) (old : Option Account) (new : Account) (repo new_repo old_spool new_spool : View)
    : Type 0 where
  pub before : List Turned
  pub turned : List Turned
  pub was : old ≡ Some (record { stanza = new.stanza; turns = before })
  pub is : new.turns ≡ before ++ turned
  pub ended : whole ≡ true → all_ended (turns_of turned) ≡ true
  pub repository : GoesByTurns new.stanza (turns_of turned) repo new_repo
  pub spool : MarksByTurns new.stanza (turns_of turned) repo old_spool new_spool
  pub repo_only : ChangesArchive new.stanza repo new_repo
  pub spool_only : ChangesArchive new.stanza old_spool new_spool

-- this many steps of others more succeeded; the count ends at 2^64 - 1
pub record Counts (turns before after : ℕ) : Type 0 where
  pub none : turns ≡ 0 → after ≡ before
  pub some : 1 ≤ turns → after ≡ min (before + turns) (2 ^ 64 - 1)

-- where the steps of others are known, these are all that was done
abbrev pub WentByTurns : {A D S : Type 0} → (A → ProcessesState) → (D → DiskState) → (S → DiskState) → Bool
    → A → A → D → D → S → S → Type 0
WentByTurns others disk spooled whole old new repo new_repo spool new_spool = IfSome (others new).account
    (λ a. TurnsDone whole (others old).account a (disk repo).view (disk new_repo).view
    (spooled spool).view (spooled new_spool).view)

-- one step of others more succeeded
abbrev pub CountsTurn : ProcessesState → ProcessesState → Type 0
CountsTurn old new = new.turns ≡ min (old.turns + 1) (2 ^ 64 - 1)
