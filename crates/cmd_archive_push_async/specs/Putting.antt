-- What a drain puts in the repository, and what then lies there of its files, whatever else the repository holds.
use Rattle.std.specs.Prelude.{◌≢◌, ◌∷◌, ◌++◌, ℕ, List, [], IfSome, IfOk, IsSome, Result}
use Rattle.base_text.specs.Sum.{IsSum}
use Rattle.base_devices.specs.Crash.{IsAlikeAt}
use Rattle.base_devices.specs.DataFolder.{Nodes}
use Rattle.base_devices.specs.Moments.{View}
use Rattle.base_model.specs.declared.wal.ArchiveId.{ArchiveId}
use Rattle.base_model.specs.declared.wal.ArchiveName.{ArchiveName}
use Rattle.base_model.specs.Represents.{IsArchivePlace}
use Rattle.base_model.specs.Steps.{Named}
use Rattle.base_model.specs.Text.{Text, In}
use Rattle.base_model.specs.Walks.{IsSynced}
use Rattle.archive_lookup.specs.Stored.{StoresOnly}
use Rattle.archive_store.specs.Pushes.{IsPathOf}
use Rattle.archive_spool.specs.Marks.{named}
use Rattle.cmd_types.specs.declared.stages.halt.Halt.{Halt}
use Rattle.cmd_archive_push.specs.declared.fault.PushFault.{PushFault}
use Rattle.cmd_archive_push.specs.Putting.{Puts}
use Rattle.cmd_archive_push_async.specs.declared.files.pushing.Tried.{Tried}
use Rattle.cmd_archive_push_async.specs.Fates.{Entry, absent, AreFound, IsFateOf, kept_files}
use Rattle.cmd_archive_push_async.specs.Pushing.{fate_of, stored_of, tried_of}

-- each name is there once
abbrev pub AreApart : List ArchiveName → Type 0
AreApart [] = Unit {0}
AreApart (name ∷ names) = ¬ In name names × AreApart names

-- ---- one file

-- the file, where it may have been put
abbrev pub put_of : Result Tried (Halt PushFault) → Named → List Named
put_of result n = stored_of result n ++ tried_of result n

-- A push puts its file at most, of which there is a path for each sum. By what the disk then holds this is the result
-- for its bytes; and where they are stored, all that a crash leaves has at the file's paths what the disk has.
pub record PutsOne (stanza : Text) (id : ArchiveId) (system : ℕ) (name : ArchiveName) (bytes : Text)
    (result : Result Tried (Halt PushFault)) (old new : View) : Type 0 where
  pub place : (sum : Text) → IsSum sum → IsArchivePlace id name sum
  pub puts : Puts stanza id (put_of result (named name bytes)) old new
  pub found : IfOk result (λ tried. IsSome old.now → IfSome new.now (λ g. IsFateOf
      (StoresOnly stanza id name g) (StoresOnly stanza id name g) system name bytes (fate_of tried bytes)))
  pub alike : IsSynced stanza old → IsSome old.now → (n : Named) → In n (stored_of result (named name bytes))
      → IsAlikeAt (IsPathOf stanza id n.name) new

-- ---- all of them

-- A drain puts the files that were stored, and some more at most. Of each file that is there, there is a path for each
-- sum. Where each name is there once, by what the disk then holds this is the result for them; and all that a crash
-- leaves has at the paths of those that were stored what the disk has.
pub record PutsFrom (stanza : Text) (id : ArchiveId) (system : ℕ) (f : Nodes) (names : List ArchiveName)
    (entries : List Entry) (more : List Named) (old new : View) : Type 0 where
  pub place : (e : Entry) → In e entries → e.fate ≢ absent → (sum : Text) → IsSum sum → IsArchivePlace id e.name sum
  pub puts : Puts stanza id (kept_files entries ++ more) old new
  pub found : AreApart names → IsSome old.now → IfSome new.now (λ g. AreFound f stanza id system g entries)
  pub alike : AreApart names → IsSynced stanza old → IsSome old.now → (n : Named) → In n (kept_files entries)
      → IsAlikeAt (IsPathOf stanza id n.name) new
