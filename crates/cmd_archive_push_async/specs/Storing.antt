-- What the stores of files one after another do to a repository: each file is pushed, where it isn't archived, and
-- noted, where it isn't archived with another sum.
use Rattle.std.specs.Prelude.{◌≡◌, List, ◌++◌, map, Option, Some, IsSome}
use Rattle.std.specs.List.{flat_map}
use Rattle.sha1.specs.Sha1.{sha1}
use Rattle.base_devices.specs.Content.{Content}
use Rattle.base_devices.specs.Moments.{View}
use Rattle.base_devices.specs.Crash.{Leaves}
use Rattle.base_model.specs.declared.wal.ArchiveId.{ArchiveId}
use Rattle.base_model.specs.Text.{Text, In}
use Rattle.base_model.specs.Repository.{Archived, Stanza}
use Rattle.base_model.specs.Represents.{Represents, stored_name}
use Rattle.base_model.specs.Steps.{Step, One, Named, IsPartOf, after, after_all, stores_of}
use Rattle.base_model.specs.Now.{NowRepresents}
use Rattle.base_model.specs.Steady.{IsSteady, EachImage}
use Rattle.archive_lookup.specs.Stored.{archive_path}

-- the steps of the stores of files, one file after the other
abbrev pub store_steps : Stanza → ArchiveId → List Named → List Step
store_steps s id files = flat_map (λ g. g) (stores_of s id files)

-- the stanza with these files stored
abbrev pub stored : Stanza → ArchiveId → List Named → Stanza
stored s id files = after_all s (store_steps s id files)

-- g represents the stanza after a part of the stores
abbrev pub IsPartOfStores : Text → Stanza → ArchiveId → List Named → Content → Type 0
IsPartOfStores stanza s id files g = (done : List Step) × IsPartOf done (map One (store_steps s id files))
    × Represents stanza g (after (Some s) done)

-- the disk represents it, where that is known
abbrev pub NowPartOfStores : Text → Stanza → ArchiveId → List Named → Option Content → Type 0
NowPartOfStores stanza s id files now = (done : List Step) × IsPartOf done (map One (store_steps s id files))
    × NowRepresents stanza (after (Some s) done) now

-- the stanza has a file archived at the name that the file and its sum give, and it has that sum
pub record IsArchivedIn (stanza : Text) (s : Stanza) (id : ArchiveId) (n : Named) : Type 0 where
  pub file : Archived
  pub archived : In file s.archived
  pub lies : stored_name stanza file ≡ archive_path stanza id n.name (sha1 n.bytes)
  pub sum : sha1 file.bytes ≡ sha1 n.bytes

-- The repository changes by the stores of files, and then by a part of those of some more: in what the disk holds, and
-- in all that a crash leaves at each moment. At its end all that is left has the files whole, and each file is noted.
pub record GoesByStores (stanza : Text) (id : ArchiveId) (files more : List Named) (old new : View) : Type 0 where
  pub known : IsSome old.now → IsSome new.now
  pub now : (s : Stanza) → IsSome old.now → NowRepresents stanza (Some s) old.now
      → NowPartOfStores stanza (stored s id files) id more new.now
  pub moves : (s : Stanza) → IsSteady stanza (Some s) old → IsSome old.now
      → EachImage stanza (IsPartOfStores stanza s id (files ++ more)) old new
  pub ends : (s : Stanza) → IsSteady stanza (Some s) old → IsSome old.now → (g : Content) → Leaves new new.moment g
      → IsPartOfStores stanza (stored s id files) id more g
  pub held : (s : Stanza) → IsSteady stanza (Some s) old → IsSome old.now → (n : Named) → In n files
      → IsArchivedIn stanza (stored s id files) id n
  pub noted : (s : Stanza) → IsSome old.now → NowRepresents stanza (Some s) old.now → (n : Named) → In n files
      → In (record { name = n.name; sum = sha1 n.bytes }) (stored s id files).drained
