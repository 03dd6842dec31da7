-- What a drain does to the repository and the spool.
use Rattle.std.specs.Prelude.{◌≡◌, ◌⊎◌, ℕ, List, [], ◌∷◌, ◌++◌, Option, Some, None, Result, Ok, Err, IfSome, IsSome}
use Rattle.base_devices.specs.Content.{Content}
use Rattle.base_devices.specs.Crash.{NowChanges, AllOf, FirstOf}
use Rattle.base_devices.specs.Moments.{View}
use Rattle.base_devices.specs.DataFolder.{Nodes, file_bytes}
use Rattle.base_model.specs.declared.wal.ArchiveId.{ArchiveId}
use Rattle.base_model.specs.declared.wal.ArchiveName.{ArchiveName}
use Rattle.base_model.specs.Names.{wal_text}
use Rattle.base_model.specs.Now.{NowRepresents}
use Rattle.base_model.specs.Repository.{Stanza}
use Rattle.base_model.specs.Steps.{Named}
use Rattle.base_model.specs.Text.{Text}
use Rattle.cmd_types.specs.declared.stages.halt.Halt.{Halt}
use Rattle.cmd_archive_push.specs.declared.fault.PushFault.{PushFault}
use Rattle.cmd_archive_push.specs.WalPath.{wal_path}
use Rattle.archive_spool.specs.Marks.{named, GivesMarks}
use Rattle.cmd_archive_push_async.specs.declared.files.push_marks.Drained.{Drained}
use Rattle.cmd_archive_push_async.specs.Fates.{Entry, names_of, Counts, kept_files, all_marks, AreFates}
use Rattle.cmd_archive_push_async.specs.Putting.{PutsFrom}
use Rattle.cmd_archive_push_async.specs.Storing.{GoesByStores}

-- these are some of the files of these names, in their order, with the bytes that the folder has
abbrev pub AreOf : Nodes → List ArchiveName → List Named → Type 0
AreOf f [] files = files ≡ []
AreOf f (name ∷ names) files = AreOf f names files
    ⊎ ((bytes : Text) × (rest : List Named) × (files ≡ named name bytes ∷ rest)
    × (file_bytes (f (wal_path (wal_text name))) ≡ Some bytes) × AreOf f names rest)

-- what a drain that succeeded counted
abbrev pub end_of : Result Drained (Halt PushFault) → Option Drained
end_of (Ok drained) = Some drained
end_of (Err halt) = None

-- This is the result of files, and each is marked once that is so, in what the spool held then. Where the drain
-- succeeds these are all of the names; else a part of some more files may be stored, which aren't marked.
pub record DrainsFrom (stanza : Text) (id : ArchiveId) (system : ℕ) (f : Nodes) (names : List ArchiveName)
    (end : Option Drained) (held : Option Content) (repo new_repo spool new_spool : View) : Type 0 where
  pub entries : List Entry
  pub more : List Named
  pub of_names : AreOf f names (kept_files entries ++ more)
  pub ended : IsSome end → (names_of entries ≡ names) × (more ≡ [])
  pub counted : IfSome end (Counts entries)
  pub repository : GoesByStores stanza id (kept_files entries) more repo new_repo
  pub puts : PutsFrom stanza id system f names entries more repo new_repo
  pub fates : (s : Stanza) → IsSome repo.now → NowRepresents stanza (Some s) repo.now → AreFates f s id system entries
  pub marks : GivesMarks stanza (kept_files entries) spool new_spool
  pub part : NowChanges (FirstOf (all_marks stanza entries)) held new_spool.now
  pub whole : IsSome end → NowChanges (AllOf (all_marks stanza entries)) held new_spool.now

-- from what the spool holds as they begin
abbrev pub Drains : Text → ArchiveId → ℕ → Nodes → List ArchiveName → Option Drained → View → View → View → View
    → Type 0
Drains stanza id system f names end repo new_repo spool new_spool =
    DrainsFrom stanza id system f names end spool.now repo new_repo spool new_spool
