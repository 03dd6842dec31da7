-- What a drain of all files that are ready does.
use Rattle.std.specs.Prelude.{ℕ, Option, IfSome, IsSome, List, ◌≡◌, false, codes}
use Rattle.base_devices.specs.Content.{Name, Value, Content, LiesDirectlyIn, Holds}
use Rattle.base_devices.specs.Crash.{IsTemporary}
use Rattle.base_devices.specs.Moments.{View, MayKeep, is_unsynced}
use Rattle.base_devices.specs.DataFolder.{Nodes}
use Rattle.base_model.specs.declared.wal.ArchiveId.{ArchiveId}
use Rattle.base_model.specs.declared.wal.ArchiveName.{ArchiveName}
use Rattle.base_model.specs.Names.{archive_folder}
use Rattle.base_model.specs.Text.{Text, ◌⫽◌, In}
use Rattle.cmd_archive_push.specs.declared.fault.PushFault.{PushFault}
use Rattle.archive_spool.specs.Clearing.{IsStale, IsCleared}
use Rattle.cmd_archive_push_async.specs.declared.files.push_marks.Drained.{Drained}
use Rattle.cmd_archive_push_async.specs.Ends.{EndCause}
use Rattle.cmd_archive_push_async.specs.Keeping.{DrainsLog}
use Rattle.cmd_archive_push_async.specs.Putting.{AreApart}
use Rattle.cmd_archive_push_async.specs.Ready.{IsReady, AreReady}

-- A drain of these names: the marks of no use are removed, and then the result of each file is marked.
pub record DrainsNamed (stanza : Text) (id : ArchiveId) (system : ℕ) (f : Nodes) (names : List ArchiveName)
    (end : Option Drained) (repo new_repo spool new_spool : View) : Type 0 where
  pub held : Option Content
  pub cleared : IsSome end → IsCleared (IsStale stanza names) spool.now held
  pub log : DrainsLog stanza id system f names end held repo new_repo spool new_spool

-- A drain of files that are ready, of each once. Where it succeeds these are all of them.
pub record DrainsReady (stanza : Text) (id : ArchiveId) (system : ℕ) (f : Nodes) (end : Option Drained)
    (repo new_repo spool new_spool : View) : Type 0 where
  pub names : List ArchiveName
  pub each : (name : ArchiveName) → In name names → IsReady f name
  pub apart : AreApart names
  pub ready : IsSome end → AreReady f names
  pub named : DrainsNamed stanza id system f names end repo new_repo spool new_spool

-- where the marks lie
abbrev pub marks_folder : Text → Text
marks_folder stanza = archive_folder stanza ⫽ codes "out"

-- all that a crash leaves has at each mark's name what the spool holds, where that wasn't unsynced before
abbrev pub HasMarksOf : Text → View → View → Type 0
HasMarksOf stanza old new = (n : Name) (v : Value) → LiesDirectlyIn (marks_folder stanza) n → ¬ IsTemporary n
    → is_unsynced old n ≡ false → MayKeep new n v → Holds new.now n v

-- a file that is ready ends it so
abbrev pub EndCauseReady : Text → ArchiveId → Option Nodes → Option Content → PushFault → Type 0
EndCauseReady stanza id nodes now fault = (name : ArchiveName) × IfSome nodes (λ f. IsReady f name)
    × EndCause stanza id nodes now name fault
