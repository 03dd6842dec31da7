-- The two texts of a new stanza are those of their values.
use Rattle.std.proofs.Common.{◌≡◌, ◌≤◌, refl, arith, lit≤}
use Rattle.std.proofs.lemmas.Fmt.{length-decimal-le}
use Rattle.base_model.specs.declared.clusters.Cluster.{Cluster}
use Rattle.base_model.specs.InfoFiles.{archive_sections, backup_sections, IsClusterId, IsCluster, IsArchiveInfo, IsBackupInfo, IsArchiveText, IsBackupText}
use Rattle.base_model.specs.Repository.{identity_of}
use Rattle.base_model.specs.Create.{first_archive, first_backup, first_archive_text, first_backup_text}
use Rattle.repo_ini.proofs.Sizes.{SectionsAreBuilt, sections_size, length-info_text}
use Rattle.repo_info.proofs.Clusters.{built_identity_fields, built_identity, built_cluster_fields, built_cluster}

IsClusterId-identity_of : (c : Cluster) → IsCluster c → IsClusterId (identity_of c)
IsClusterId-identity_of c h = record { id = h.id; system = h.system; version = h.version }

archive_rules : (c : Cluster) → IsCluster c → c.id ≡ 1 → IsArchiveInfo (first_archive c)
archive_rules c h one = record { clusters = (IsClusterId-identity_of c h, tt); numbers = (one, tt); current = (lit≤ tt, lit≤ tt) }

backup_rules : (c : Cluster) → IsCluster c → c.id ≡ 1 → IsBackupInfo (first_backup c)
backup_rules c h one = record { clusters = (h, tt); numbers = (one, tt); current = (lit≤ tt, lit≤ tt); backups = tt; order = refl }

archive_built : (c : Cluster) → IsCluster c → SectionsAreBuilt (archive_sections (first_archive c))
unfolding archive_sections
archive_built c h = let i = IsClusterId-identity_of c h in (built_identity_fields (identity_of c) i, ((built_identity (identity_of c) i, tt), tt))

backup_built : (c : Cluster) → IsCluster c → SectionsAreBuilt (backup_sections (first_backup c))
unfolding backup_sections
backup_built c h = (built_cluster_fields c h, ((built_cluster c h, tt), tt))

archive_size : (c : Cluster) → IsCluster c → sections_size (archive_sections (first_archive c)) ≤ 1000
unfolding archive_sections
archive_size c h = omega (arith, length-decimal-le 20 c.id, length-decimal-le 20 c.version)

backup_size : (c : Cluster) → IsCluster c → sections_size (backup_sections (first_backup c)) ≤ 1000
unfolding backup_sections
backup_size c h = omega (arith, length-decimal-le 20 c.id, length-decimal-le 20 c.version)

pub first_archive_is : (c : Cluster) → IsCluster c → c.id ≡ 1 → IsArchiveText (first_archive c) (first_archive_text c)
unfolding first_archive_text
first_archive_is c h one = record {
  rules = archive_rules c h one;
  spelled = refl;
  within = omega (arith, archive_size c h, length-info_text (archive_sections (first_archive c)) (archive_built c h));
}

pub first_backup_is : (c : Cluster) → IsCluster c → c.id ≡ 1 → IsBackupText (first_backup c) (first_backup_text c)
unfolding first_backup_text
first_backup_is c h one = record {
  rules = backup_rules c h one;
  spelled = refl;
  within = omega (arith, backup_size c h, length-info_text (backup_sections (first_backup c)) (backup_built c h));
}
