-- The texts of the code's values with a further cluster, and why they aren't had.
use Rattle.std.specs.Prelude.{◌≡◌, ◌<◌, ℕ, length, string_bytes}
use Rattle.base_model.specs.declared.clusters.ArchiveInfo as rust_archive_info
use Rattle.base_model.specs.declared.clusters.BackupInfo as rust_backup_info
use Rattle.base_model.specs.declared.clusters.Cluster.{Cluster}
use Rattle.base_model.specs.InfoFiles.{info_limit}
use Rattle.base_model.specs.Text.{Text}
use Rattle.base_model.specs.Values.{archive_info_of, backup_info_of}
use Rattle.repo_stanza.specs.declared.upgrade_fault.UpgradeFault.{UpgradeFault}
use Rattle.repo_stanza.specs.declared.upgrade_fault.UpgradeFault.TheVariants.{TooLong, NoMemory}
use Rattle.repo_stanza.specs.HealingPair.{archive_text, backup_text}
use Rattle.repo_stanza.specs.UpgradeCauses.{IsFirstLong}
use Rattle.repo_stanza.specs.Upgrading.{longer_archive, longer_list}

-- the texts of the two values with this cluster
abbrev pub archive_with : rust_archive_info.ArchiveInfo → Cluster → Text
archive_with a c = archive_text (longer_archive (archive_info_of a) c)

abbrev pub list_with : rust_backup_info.BackupInfo → Cluster → Text
list_with w c = backup_text (longer_list (backup_info_of w) c)

-- the text of this name is longer than the limit, or memory failed
abbrev pub IsTooLong : ℕ → Text → Text → UpgradeFault → Type 0
IsTooLong most name text (TooLong word limit) = (string_bytes word ≡ name) × (limit ≡ most) × (most < length text)
IsTooLong most name text NoMemory = Unit {0}
IsTooLong most name text other = ⊥

-- one of the two texts is too long, or memory failed
abbrev pub AreTooLong : Text → Text → Text → UpgradeFault → Type 0
AreTooLong stanza backup archive (TooLong word limit) =
    (limit ≡ info_limit) × IsFirstLong stanza backup archive (string_bytes word)
AreTooLong stanza backup archive NoMemory = Unit {0}
AreTooLong stanza backup archive other = ⊥

-- where it is one of the two texts of the code's values
abbrev pub LongerTooLong : Text → rust_archive_info.ArchiveInfo → rust_backup_info.BackupInfo → Cluster
    → UpgradeFault → Type 0
LongerTooLong stanza a w c e = AreTooLong stanza (list_with w c) (archive_with a c) e
