-- What a push leaves, image by image.
use Rattle.std.specs.Prelude.{◌≡◌, ◌∷◌, [], List, map, Option, Some, IfSome, IsSome}
use Rattle.sha1.specs.Sha1.{sha1}
use Rattle.base_text.specs.Sum.{IsSum}
use Rattle.base_devices.specs.Content.{Content}
use Rattle.base_devices.specs.Moments.{View}
use Rattle.base_devices.specs.Crash.{Write, Crash, Ends, NowChanges, FirstOf, AllOf, IsAlikeAt}
use Rattle.base_devices.specs.States.{DiskState}
use Rattle.base_model.specs.declared.wal.ArchiveId.{ArchiveId}
use Rattle.base_model.specs.declared.wal.ArchiveName.{ArchiveName}
use Rattle.base_model.specs.Text.{Text}
use Rattle.base_model.specs.Repository.{Stanza}
use Rattle.base_model.specs.Represents.{Represents, HasStanza}
use Rattle.base_model.specs.Steps.{Step, One, IsPartOf, after, after_all, push_of}
use Rattle.base_model.specs.Walks.{IsSynced, Walks}
use Rattle.archive_lookup.specs.Stored.{archived_file, archive_path, ChangesArchive, StoresNone, StoresOnly}
use Rattle.archive_store.specs.declared.pushing.Pushed.{Pushed}
use Rattle.archive_store.specs.declared.pushing.Pushed.TheVariants.{New, Same}

-- the name is the file's, with some sum
abbrev pub IsPathOf : Text → ArchiveId → ArchiveName → Text → Type 0
IsPathOf stanza id name n = (sum : Text) × IsSum sum × (n ≡ archive_path stanza id name sum)

-- the one write of a push: the bytes, at the path with their sum
abbrev pub writes_of : Text → ArchiveId → ArchiveName → Text → List Write
writes_of stanza id name bytes = (archive_path stanza id name (sha1 bytes), bytes) ∷ []

-- whatever stanza f has, g represents it after a part of the push
abbrev pub PushesPart : Text → ArchiveId → ArchiveName → Text → Content → Content → Type 0
PushesPart stanza id name bytes f g = (s : Stanza) → HasStanza stanza f s
    → (done : List Step) × IsPartOf done (map One (push_of s (archived_file id name bytes)))
    × Represents stanza g (after (Some s) done)

-- whatever stanza f has, g represents it after all of the push
abbrev pub PushesAll : Text → ArchiveId → ArchiveName → Text → Content → Content → Type 0
PushesAll stanza id name bytes f g = (s : Stanza) → HasStanza stanza f s
    → Represents stanza g (Some (after_all s (push_of s (archived_file id name bytes))))

-- After every answer what the disk holds comes by a part of the push from what it held; so does all that a crash
-- leaves, at each moment.
pub record LeavesPart (stanza : Text) (id : ArchiveId) (name : ArchiveName) (bytes : Text) (old new : View) : Type
    0 where
  pub now : NowChanges (PushesPart stanza id name bytes) old.now new.now
  pub walks : IsSynced stanza old → IsSome old.now → Walks stanza (PushesPart stanza id name bytes) old new

-- At Ok it comes by all of the push.
pub record LeavesAll (stanza : Text) (id : ArchiveId) (name : ArchiveName) (bytes : Text) (old new : View) : Type
    0 where
  pub now : NowChanges (PushesAll stanza id name bytes) old.now new.now
  pub ends : IsSynced stanza old → IsSome old.now → Ends (PushesAll stanza id name bytes) old new

-- Of the bytes the one write is made or not: what the disk holds comes by it, and so does all that a crash leaves, at
-- each moment.
pub record Writes (stanza : Text) (id : ArchiveId) (name : ArchiveName) (bytes : Text) (old new : View) : Type 0 where
  pub now : NowChanges (FirstOf (writes_of stanza id name bytes)) old.now new.now
  pub crash : IsSynced stanza old → IsSome old.now → Crash (FirstOf (writes_of stanza id name bytes)) old new

-- What a push leaves after every answer: of its file a part or all, where the bytes are known. Only the file's path and
-- temporary names change, none outside the stanza's folder of the archive.
pub record Leaves (stanza : Text) (id : ArchiveId) (name : ArchiveName) (model : Option Text) (old new : View) : Type
    0 where
  pub part : IfSome model (λ bytes. LeavesPart stanza id name bytes old new)
  pub writes : (bytes : Text) × IfSome model (λ b. b ≡ bytes) × Writes stanza id name bytes old new
  pub only : ChangesArchive stanza old new

-- What it leaves at Ok: the file, and alike in all that a crash leaves.
pub record LeavesFile (stanza : Text) (id : ArchiveId) (name : ArchiveName) (model : Option Text)
    (old new : View) : Type 0 where
  pub all : IfSome model (λ bytes. LeavesAll stanza id name bytes old new)
  pub alike : IsSynced stanza old → IsSome old.now → IsAlikeAt (IsPathOf stanza id name) new

-- ---- on a disk

-- what a push leaves of it after every answer
abbrev pub Pushes : Text → ArchiveId → ArchiveName → Option Text → DiskState → DiskState → Type 0
Pushes stanza id name model old new = Leaves stanza id name model old.view new.view

-- what it leaves of it at Ok
abbrev pub HasPushed : Text → ArchiveId → ArchiveName → Option Text → DiskState → DiskState → Type 0
HasPushed stanza id name model old new = LeavesFile stanza id name model old.view new.view

-- it doesn't store the file, where what it holds is known
abbrev pub LacksFile : Text → ArchiveId → ArchiveName → DiskState → Type 0
LacksFile stanza id name disk = IfSome disk.view.now (StoresNone stanza id name)

-- where the answer is that the file is new, exactly these bytes are put at its path
abbrev pub WritesIfNew : Text → ArchiveId → ArchiveName → Text → DiskState → DiskState → Pushed → Type 0
WritesIfNew stanza id name bytes old new pushed = pushed ≡ New
    → NowChanges (AllOf (writes_of stanza id name bytes)) old.view.now new.view.now

-- where the answer is that it was stored already, it was so with the sum of these bytes, and the disk holds the same
abbrev pub KeepsIfSame : Text → ArchiveId → ArchiveName → Text → DiskState → DiskState → Pushed → Type 0
KeepsIfSame stanza id name bytes old new pushed = pushed ≡ Same
    → IfSome old.view.now (λ f. StoresOnly stanza id name f (sha1 bytes)) × (new.view.now ≡ old.view.now)
