-- What a disk whose contents are known represents.
use Rattle.std.specs.Prelude.{◌≡◌, Bool, List, Option, Some, None, IsSome}
use Rattle.base_devices.specs.Content.{Content}
use Rattle.base_model.specs.declared.clusters.Cluster.{Cluster}
use Rattle.base_model.specs.Text.{Text}
use Rattle.base_model.specs.Names.{archive_info, backup_info, copy_of}
use Rattle.base_model.specs.Repository.{Repository, IsSound}
use Rattle.base_model.specs.Represents.{Represents}
use Rattle.base_model.specs.Create.{first_archive_text, first_backup_text}
use Rattle.base_model.specs.Steps.{Command, StanzaCreate, StanzaUpgrade, ArchivePush, ArchivePushAsync, ArchivePushDrain, MakeBackup, Expire, Then, Reading, Step, after, steps_of}
use Rattle.base_model.specs.Log.{IsDone}

-- what the disk holds, where it is known, represents r
pub record NowRepresents (stanza : Text) (r : Repository) (now : Option Content) : Type 0 where
  pub represents : (f : Content) → now ≡ Some f → Represents stanza f r

-- both members of both pairs have the texts of a new stanza of this cluster
pub record HasNewPairs (stanza : Text) (c : Cluster) (f : Content) : Type 0 where
  pub archive : f (archive_info stanza) ≡ Some (first_archive_text c)
  pub archive_copy : f (copy_of (archive_info stanza)) ≡ Some (first_archive_text c)
  pub backup : f (backup_info stanza) ≡ Some (first_backup_text c)
  pub backup_copy : f (copy_of (backup_info stanza)) ≡ Some (first_backup_text c)

-- what a command asks of the repository that it begins from: one with an expiry, that it is sound
abbrev pub BeginsFrom : Command → Repository → Type 0
BeginsFrom (StanzaCreate c) r = Unit {0}
BeginsFrom (StanzaUpgrade c) r = Unit {0}
BeginsFrom (ArchivePush n) r = Unit {0}
BeginsFrom (ArchivePushAsync turns) r = Unit {0}
BeginsFrom (ArchivePushDrain ns) r = Unit {0}
BeginsFrom (MakeBackup turns b None) r = Unit {0}
BeginsFrom (MakeBackup turns b (Some kept)) r = IsSound r
BeginsFrom (Expire kept) r = IsSound r
BeginsFrom (Then first second) r = IsSound r
BeginsFrom Reading r = Unit {0}

-- From old to new the disk changes by all of the command's steps, or by a part of them, whatever repository it
-- represented that the command begins from.
pub record NowEffect (stanza : Text) (command : Command) (whole : Bool) (old new : Option Content) : Type 0 where
  pub known : IsSome old → IsSome new
  pub does : (r : Repository) → BeginsFrom command r → IsSome old → NowRepresents stanza r old
      → (done : List Step) × IsDone whole done (steps_of command r) × NowRepresents stanza (after r done) new
