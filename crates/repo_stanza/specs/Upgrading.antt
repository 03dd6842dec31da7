-- A further cluster of a stanza, which becomes its current one (pgBackRest command reference, "Stanza Upgrade Command"):
-- the values and texts of its two pairs, and what it does to the repository, from one state of the disk to another.
use Rattle.std.specs.Prelude.{◌⊎◌, ℕ, ◌+◌, List, [], ◌∷◌, ◌++◌, length, IfSome, IsSome}
use Rattle.base_devices.specs.Crash.{Write}
use Rattle.base_devices.specs.States.{DiskState}
use Rattle.base_model.specs.declared.clusters.ArchiveInfo as rust_archive_info
use Rattle.base_model.specs.declared.clusters.BackupInfo as rust_backup_info
use Rattle.base_model.specs.declared.clusters.Cluster.{Cluster}
use Rattle.base_model.specs.Text.{Text}
use Rattle.base_model.specs.Names.{archive_info, backup_info}
use Rattle.base_model.specs.Values.{ArchiveInfo, BackupInfo, archive_info_of, backup_info_of}
use Rattle.base_model.specs.Create.{member_writes}
use Rattle.base_model.specs.Repository.{Repository, identity_of}
use Rattle.base_model.specs.Represents.{Represents}
use Rattle.base_model.specs.Steps.{upgraded}
use Rattle.base_model.specs.Steady.{IsSteady, EachImage}
use Rattle.base_model.specs.Now.{NowRepresents}
use Rattle.repo_stanza.specs.declared.control.Control.{Control}
use Rattle.repo_stanza.specs.declared.stanza_upgrade.Upgraded.{Upgraded}
use Rattle.repo_stanza.specs.declared.stanza_upgrade.Upgraded.TheVariants.{New, Same}
use Rattle.repo_stanza.specs.ControlFile.{first_cluster}
use Rattle.repo_stanza.specs.HealingPair.{archive_text, backup_text, HaveTexts}

-- ---- the values, and their texts

-- no cluster is added to a history with this many (own)
abbrev pub most_clusters : ℕ
most_clusters = 1000

-- the values with one cluster more, which is then the current one
abbrev pub longer_archive : ArchiveInfo → Cluster → ArchiveInfo
longer_archive a c = record { current = c.id; history = a.history ++ identity_of c ∷ [] }

abbrev pub longer_list : BackupInfo → Cluster → BackupInfo
longer_list w c = record { current = c.id; history = w.history ++ c ∷ []; backups = w.backups }

-- the cluster that is given, under the number that follows this history
abbrev pub stated_next : Control → ArchiveInfo → Cluster
stated_next known a = record {
  id = length a.history + 1;
  system = known.system;
  version = known.version;
  control = known.control;
  catalog = known.catalog;
}

-- the texts of the two values with this cluster
abbrev pub longer_backup_text : Control → ArchiveInfo → BackupInfo → Text
longer_backup_text known a w = backup_text (longer_list w (stated_next known a))

abbrev pub longer_archive_text : Control → ArchiveInfo → Text
longer_archive_text known a = archive_text (longer_archive a (stated_next known a))

-- the backup pair, and then the archive pair, whose main member upgrades the stanza
abbrev pub upgrade_writes : Text → Text → Text → List Write
upgrade_writes stanza backup archive =
    member_writes (backup_info stanza) backup ++ member_writes (archive_info stanza) archive

-- ---- how it ends

-- what holds of its number where the cluster was added
abbrev pub IfAdded : Upgraded → (ℕ → Type 0) → Type 0
IfAdded (New number) P = P number
IfAdded Same P = Unit {0}

-- what holds where it was the current one
abbrev pub IfKept : Upgraded → Type 0 → Type 0
IfKept (New number) P = Unit {0}
IfKept Same P = P

-- ---- what is there now

-- the repository once this cluster is its current one
abbrev pub with_cluster : Control → Repository → Repository
with_cluster control r = upgraded (first_cluster control) r

-- the repository is as before, or of the cluster
abbrev pub MayUpgrade : Text → Control → DiskState → DiskState → Type 0
MayUpgrade stanza control old new = (r : Repository) → IsSome old.view.now → NowRepresents stanza r old.view.now
    → NowRepresents stanza r new.view.now ⊎ NowRepresents stanza (with_cluster control r) new.view.now

-- it is of the cluster
abbrev pub HasUpgraded : Text → Control → DiskState → DiskState → Type 0
HasUpgraded stanza control old new = (r : Repository) → IsSome old.view.now → NowRepresents stanza r old.view.now
    → NowRepresents stanza (with_cluster control r) new.view.now

-- where the cluster was added, both members of both pairs have the texts of the longer values
abbrev pub LengthensPairs : Text → Control → rust_archive_info.ArchiveInfo → rust_backup_info.BackupInfo → DiskState
    → DiskState → Upgraded → Type 0
LengthensPairs stanza control a w old new u = IfAdded u (λ n. IsSome old.view.now → IfSome new.view.now
    (HaveTexts stanza (longer_archive_text control (archive_info_of a))
    (longer_backup_text control (archive_info_of a) (backup_info_of w))))

-- ---- what a crash leaves

-- of a steady repository each image is as before, or of the cluster
abbrev pub ImagesMayUpgrade : Text → Control → DiskState → DiskState → Type 0
ImagesMayUpgrade stanza control old new = (r : Repository) → IsSteady stanza r old.view → IsSome old.view.now
    → EachImage stanza (λ g. Represents stanza g r ⊎ Represents stanza g (with_cluster control r)) old.view new.view

-- it is steady again, of the cluster
abbrev pub HasUpgradedSteady : Text → Control → DiskState → DiskState → Type 0
HasUpgradedSteady stanza control old new = (r : Repository) → IsSteady stanza r old.view → IsSome old.view.now
    → IsSteady stanza (with_cluster control r) new.view
