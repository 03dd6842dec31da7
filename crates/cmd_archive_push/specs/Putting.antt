-- What pushes put in the repository, whatever else lies there.
use Rattle.std.specs.Prelude.{◌≡◌, ◌⊎◌, List, Option, Some, IsSome}
use Rattle.sha1.specs.Sha1.{sha1}
use Rattle.base_devices.specs.Content.{Content, Name}
use Rattle.base_devices.specs.Crash.{Crash, IsTemporary, NowChanges}
use Rattle.base_devices.specs.Moments.{View}
use Rattle.base_model.specs.declared.clusters.ClusterId.{ClusterId}
use Rattle.base_model.specs.declared.wal.ArchiveId.{ArchiveId}
use Rattle.base_model.specs.Names.{archive_info}
use Rattle.base_model.specs.Represents.{IsArchivePlace}
use Rattle.base_model.specs.Steps.{Named}
use Rattle.base_model.specs.Text.{Text, In}
use Rattle.base_model.specs.Walks.{IsSynced}
use Rattle.repo_pair.specs.Member.{IsMember}
use Rattle.archive_lookup.specs.Stored.{archive_path}
use Rattle.cmd_types.specs.Current.{HasCurrent, id_kept}

-- the name is the path of one of these files with the sum of its bytes, and there the disk has them
pub record IsPutAt (stanza : Text) (id : ArchiveId) (files : List Named) (g : Content) (n : Name) : Type 0 where
  pub file : Named
  pub one : In file files
  pub place : IsArchivePlace id file.name (sha1 file.bytes)
  pub is : n ≡ archive_path stanza id file.name (sha1 file.bytes)
  pub has : g n ≡ Some file.bytes

-- nothing changes but paths of these files, at which their bytes are put, and temporary names
abbrev pub PutsFiles : Text → ArchiveId → List Named → Content → Content → Type 0
PutsFiles stanza id files f g = (n : Name) → ¬ IsTemporary n → (g n ≡ f n) ⊎ IsPutAt stanza id files g n

-- What the disk holds changes by the puts of these files, and so does all that a crash leaves at each moment, where no
-- name that is looked at was unsynced. Then none is afterwards.
pub record Puts (stanza : Text) (id : ArchiveId) (files : List Named) (old new : View) : Type 0 where
  pub now : NowChanges (PutsFiles stanza id files) old.now new.now
  pub crash : IsSynced stanza old → IsSome old.now → Crash (PutsFiles stanza id files) old new
  pub synced : IsSynced stanza old → IsSome old.now → IsSynced stanza new

-- ---- with the archive pair

-- nothing changes but members of the archive pair, paths of these files, at which their bytes are put, and temporary
-- names
abbrev pub HealsAndPuts : Text → ArchiveId → List Named → Content → Content → Type 0
HealsAndPuts stanza id files f g = (n : Name) → ¬ IsMember (archive_info stanza) n → ¬ IsTemporary n
    → (g n ≡ f n) ⊎ IsPutAt stanza id files g n

-- Of what the disk holds no more changes, whatever else it holds. The files are put under the id of the current cluster.
pub record PutsAtMost (stanza : Text) (files : List Named) (old new : Option Content) : Type 0 where
  pub id : ArchiveId
  pub only : (f g : Content) → old ≡ Some f → new ≡ Some g → HealsAndPuts stanza id files f g
  pub of : (f g : Content) → old ≡ Some f → new ≡ Some g → (file : Named) → In file files
      → (c : ClusterId) × (id ≡ id_kept c) × HasCurrent stanza g c
