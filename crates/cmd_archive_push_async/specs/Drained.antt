-- archive-push:async: which command of the log it is, what it promises, and why it is refused.
use Rattle.std.specs.Prelude.{◌≡◌, ◌⊎◌, ℕ, Bool, true, false, List, [], Option, Some, IsSome, IfSome}
use Rattle.base_devices.specs.Content.{Content}
use Rattle.base_devices.specs.Crash.{NowChanges, AllOf, IsAlikeAt}
use Rattle.base_devices.specs.DataFolder.{Nodes}
use Rattle.base_devices.specs.Moments.{View}
use Rattle.base_model.specs.declared.clusters.ClusterId.{ClusterId}
use Rattle.base_model.specs.declared.wal.ArchiveName.{ArchiveName}
use Rattle.base_model.specs.Now.{NowRepresents}
use Rattle.base_model.specs.Repository.{Stanza}
use Rattle.base_model.specs.Steps.{Command, Named, ArchivePushDrain}
use Rattle.base_model.specs.Text.{Text, In}
use Rattle.repo_stanza.specs.declared.control.Control.{Control}
use Rattle.repo_stanza.specs.declared.fault.Identity.{Identity}
use Rattle.cmd_types.specs.Current.{id_kept}
use Rattle.cmd_archive_push.specs.declared.fault.PushFault.{PushFault}
use Rattle.cmd_archive_push.specs.declared.fault.PushFault.TheVariants.{StanzaMismatch, TooLong}
use Rattle.cmd_archive_push.specs.Causes.{IsCurrent, MismatchCause}
use Rattle.cmd_archive_push.specs.Putting.{PutsFiles}
use Rattle.archive_spool.specs.Clearing.{IsStale, IsCleared}
use Rattle.archive_store.specs.Pushes.{IsPathOf}
use Rattle.cmd_archive_push_async.specs.Draining.{AreOf}
use Rattle.cmd_archive_push_async.specs.Fates.{Entry, names_of, all_marks, kept_files, AreFates, AreFound}
use Rattle.cmd_archive_push_async.specs.Ready.{AreReady}
use Rattle.cmd_archive_push_async.specs.Storing.{stored}
use Rattle.cmd_archive_push_async.specs.Whole.{EndCauseReady}

-- It stores these files, some of those that the data folder has of these names, in their order. Where it succeeds
-- these are the files that are ready.
pub record IsDrainOf (f : Nodes) (whole : Bool) (command : Command) : Type 0 where
  pub names : List ArchiveName
  pub files : List Named
  pub ready : whole ≡ true → AreReady f names
  pub of_names : AreOf f names files
  pub is : command ≡ ArchivePushDrain files

-- Ok: this is what became of the files that are ready, by what the repository then holds, whatever else lies there. The
-- bytes of those that were stored were put, and nothing else of it changed. Of the stanza that it represented it
-- represents what comes by their stores. The marks of no use were removed, and then each file got its mark. It prints
-- no line.
pub record IsDrained (stanza : Text) (f : Nodes) (known : Control) (repo new_repo spool new_spool : Option Content)
    (lines : Text) : Type 0 where
  pub current : ClusterId
  pub of : IsCurrent stanza repo (Some f) known current
  pub names : List ArchiveName
  pub ready : AreReady f names
  pub entries : List Entry
  pub all : names_of entries ≡ names
  pub fates : (s : Stanza) → IsSome repo → NowRepresents stanza (Some s) repo
      → AreFates f s (id_kept current) known.system entries
  pub found : IsSome repo → IfSome new_repo
      (λ g. AreFound f stanza (id_kept current) known.system g entries)
  pub puts : NowChanges (PutsFiles stanza (id_kept current) (kept_files entries)) repo new_repo
  pub stores : (s : Stanza) → IsSome repo → NowRepresents stanza (Some s) repo
      → NowRepresents stanza (Some (stored s (id_kept current) (kept_files entries))) new_repo
  pub held : Option Content
  pub cleared : IsCleared (IsStale stanza names) spool held
  pub marked : NowChanges (AllOf (all_marks stanza entries)) held new_spool
  pub quiet : lines ≡ []

-- Under the id of the disk's current cluster these are results for the files that are ready, by what it holds; and all
-- that a crash leaves has at the paths of each that was stored what the disk has.
pub record AreLasting (stanza : Text) (f : Nodes) (known : Control) (v : View) : Type 0 where
  pub current : ClusterId
  pub of : IsCurrent stanza v.now (Some f) known current
  pub names : List ArchiveName
  pub ready : AreReady f names
  pub entries : List Entry
  pub all : names_of entries ≡ names
  pub found : IfSome v.now (λ g. AreFound f stanza (id_kept current) known.system g entries)
  pub alike : (n : Named) → In n (kept_files entries) → IsAlikeAt (IsPathOf stanza (id_kept current) n.name) v

-- of the refusals only that of another cluster comes before the first step
abbrev pub drain_early : PushFault → Bool
drain_early (StanzaMismatch kept found) = true
drain_early fault = false

-- the status of each refusal (own): after files were stored it is never that of a command that did nothing
abbrev pub drain_status : PushFault → ℕ
drain_status (StanzaMismatch kept found) = 23
drain_status (TooLong name limit) = 74
drain_status other = 75

-- why it is refused: the data folder is of another cluster, or a file that is ready is too long or stored twice
abbrev pub DrainCause : Text → Option Content → Option Content → Option Nodes → PushFault → Type 0
DrainCause stanza repo new_repo nodes fault =
    ((kept : Identity) × (found : Identity) × (fault ≡ StanzaMismatch kept found)
    × MismatchCause stanza repo nodes kept found)
    ⊎ ((known : Control) × (c : ClusterId) × IsCurrent stanza repo nodes known c
    × EndCauseReady stanza (id_kept c) nodes new_repo fault)
