-- The pairs of a new stanza as they are saved.
use Rattle.std.proofs.Common.{◌≡◌, ◌≤◌, length, codes, Option, refl, sym, ap, subst, rules, false}
use Rattle.base_devices.specs.Content.{Content}
use Rattle.base_devices.specs.Moments.{View, is_unsynced}
use Rattle.base_devices.specs.Crash.{Crash, Ends, NowChanges, FirstOf, AllOf}
use Rattle.base_model.specs.declared.clusters.Cluster.{Cluster}
use Rattle.base_model.specs.Text.{Text}
use Rattle.base_model.specs.Names.{archive_info, backup_info, archive_folder, backup_folder, copy_of}
use Rattle.base_model.specs.Values.{ArchiveInfo, BackupInfo}
use Rattle.base_model.specs.InfoText.{info_text}
use Rattle.base_model.specs.InfoFiles.{archive_sections, backup_sections, info_limit, IsCluster, IsArchiveInfo, IsBackupInfo}
use Rattle.base_model.specs.Create.{first_archive, first_backup, first_archive_text, first_backup_text, member_writes}
use Rattle.base_model.proofs.Temporary.{info_lasts}
use Rattle.repo_pair.specs.Member.{IsMemberName}
use Rattle.repo_info.proofs.First.{first_archive_is, first_backup_is}

archive_named : (stanza : Text) → IsMemberName (archive_info stanza)
archive_named stanza = record { folder = archive_folder stanza; last = codes "archive.info"; is = refl; plain = search rules; lasting = info_lasts (archive_folder stanza) (codes "archive") (archive_info stanza) refl }

backup_named : (stanza : Text) → IsMemberName (backup_info stanza)
backup_named stanza = record { folder = backup_folder stanza; last = codes "backup.info"; is = refl; plain = search rules; lasting = info_lasts (backup_folder stanza) (codes "backup") (backup_info stanza) refl }

pub archive_name_is : (stanza name : Text) → name ≡ archive_info stanza → IsMemberName name
archive_name_is stanza name is = subst IsMemberName (sym is) (archive_named stanza)

pub backup_name_is : (stanza name : Text) → name ≡ backup_info stanza → IsMemberName name
backup_name_is stanza name is = subst IsMemberName (sym is) (backup_named stanza)

module _ (c : Cluster) (is_cluster : IsCluster c) (first : c.id ≡ 1) where
  pub archive_valid : (v : ArchiveInfo) → v ≡ first_archive c → IsArchiveInfo v
  archive_valid v is = subst IsArchiveInfo (sym is) (first_archive_is c is_cluster first).rules

  pub backup_valid : (v : BackupInfo) → v ≡ first_backup c → IsBackupInfo v
  backup_valid v is = subst IsBackupInfo (sym is) (first_backup_is c is_cluster first).rules

pub archive_spelled : (c : Cluster) (v : ArchiveInfo) → v ≡ first_archive c → info_text (archive_sections v) ≡ first_archive_text c
unfolding first_archive_text
archive_spelled c v is = ap (λ (x : ArchiveInfo). info_text (archive_sections x)) is

pub backup_spelled : (c : Cluster) (v : BackupInfo) → v ≡ first_backup c → info_text (backup_sections v) ≡ first_backup_text c
unfolding first_backup_text
backup_spelled c v is = ap (λ (x : BackupInfo). info_text (backup_sections x)) is

pub archive_within : (c : Cluster) (v : ArchiveInfo) → IsCluster c → c.id ≡ 1 → v ≡ first_archive c → length (info_text (archive_sections v)) ≤ info_limit
archive_within c v h one is = subst (λ (t : Text). length t ≤ info_limit) (sym (archive_spelled c v is)) (first_archive_is c h one).within

pub backup_within : (c : Cluster) (v : BackupInfo) → IsCluster c → c.id ≡ 1 → v ≡ first_backup c → length (info_text (backup_sections v)) ≤ info_limit
backup_within c v h one is = subst (λ (t : Text). length t ≤ info_limit) (sym (backup_spelled c v is)) (first_backup_is c h one).within

-- what holds of a name and a text holds of what they are equal to
under : (P : Text → Text → Type 0) (n m t u : Text) → n ≡ m → t ≡ u → P n t → P m u
under P n m t u named spelled p = subst (λ (x : Text). P x u) named (subst (λ (x : Text). P n x) spelled p)

module _ (n m t u : Text) (old new : Option Content) (named : n ≡ m) (spelled : t ≡ u) where
  pub part_as : NowChanges (FirstOf (member_writes n t)) old new → NowChanges (FirstOf (member_writes m u)) old new
  part_as goes = under (λ x y. NowChanges (FirstOf (member_writes x y)) old new) n m t u named spelled goes

  pub whole_as : NowChanges (AllOf (member_writes n t)) old new → NowChanges (AllOf (member_writes m u)) old new
  whole_as goes = under (λ x y. NowChanges (AllOf (member_writes x y)) old new) n m t u named spelled goes

-- where neither member is unsynced
abbrev SyncedAll : Type 0 → Text → View → Type 0
SyncedAll P n old = is_unsynced old n ≡ false → is_unsynced old (copy_of n) ≡ false → P

module _ (n m t u : Text) (old new : View) (named : n ≡ m) (spelled : t ≡ u) where
  pub crash_as : SyncedAll (Crash (FirstOf (member_writes n t)) old new) n old → SyncedAll (Crash (FirstOf (member_writes m u)) old new) m old
  crash_as goes = under (λ x y. SyncedAll (Crash (FirstOf (member_writes x y)) old new) x old) n m t u named spelled goes

  pub ends_as : SyncedAll (Ends (AllOf (member_writes n t)) old new) n old → SyncedAll (Ends (AllOf (member_writes m u)) old new) m old
  ends_as goes = under (λ x y. SyncedAll (Ends (AllOf (member_writes x y)) old new) x old) n m t u named spelled goes
