-- The list that a disk's two pairs have is one, and a disk that represents a stanza has that of the stanza.
use Rattle.std.proofs.Common.{◌≡◌, List, [], ◌∷◌, ◌++◌, length, Option, Some, None, refl, sym, ◌∙◌, ap, subst, arith, length-append}
use Rattle.std.proofs.lemmas.List.{length-map}
use Rattle.base_devices.specs.Content.{Content}
use Rattle.base_model.specs.declared.clusters.Cluster.{Cluster}
use Rattle.base_model.specs.Text.{Text, In}
use Rattle.base_model.specs.Names.{archive_info, backup_info}
use Rattle.base_model.specs.Values.{ArchiveInfo, BackupInfo, Entry}
use Rattle.base_model.specs.Repository.{Backup, Stanza, identity_of}
use Rattle.base_model.specs.Represents.{HasStanza, IsPending, archive_value, backup_value}
use Rattle.repo_info.proofs.OneArchive.{one_archive_pair}
use Rattle.repo_keys.proofs.Numbers.{map_in}
use Rattle.repo_stanza.specs.Judging.{HasList, Validates, As, Without}
use Rattle.repo_stanza.proofs.Settled.{one_pair, same_prefix}
use Rattle.repo_text_lemmas.proofs.Lists.{one_list}

-- what two values validate to is one list
one_validated : (a b : ArchiveInfo) (x y v w : BackupInfo) → a ≡ b → x ≡ y → Validates a x v → Validates b y w → v ≡ w
one_validated a b x y v w archive backup (As same is) (As also is') = is ∙ backup ∙ sym is'
one_validated a b x y v w archive backup (As same is) (Without q is') =
    absurd (omega (arith, ap (λ (r : ArchiveInfo). length r.history) archive, ap length same, length-map x.history identity_of, ap (λ (r : BackupInfo). length r.history) backup, ap length q.whole, ap length q.same, length-map q.earlier identity_of, length-append q.earlier (q.last ∷ [])))
one_validated a b x y v w archive backup (Without p is) (As same is') =
    absurd (omega (arith, ap (λ (r : ArchiveInfo). length r.history) archive, ap length same, length-map y.history identity_of, ap (λ (r : BackupInfo). length r.history) backup, ap length p.whole, ap length p.same, length-map p.earlier identity_of, length-append p.earlier (p.last ∷ [])))
one_validated a b x y v w archive backup (Without p is) (Without q is') =
    let earlier : p.earlier ≡ q.earlier = same_prefix p.earlier q.earlier p.last q.last (sym p.whole ∙ ap (λ (r : BackupInfo). r.history) backup ∙ q.whole) in
    is
    ∙ ap (λ (cs : List Cluster). (let r : BackupInfo = record { current = length cs; history = cs; backups = x.backups } in r)) earlier
    ∙ ap (λ (es : List Entry). (let r : BackupInfo = record { current = length q.earlier; history = q.earlier; backups = es } in r)) (ap (λ (r : BackupInfo). r.backups) backup)
    ∙ sym is'

module _ (stanza : Text) (f : Content) where
  -- both values are one
  pub same_list : (a b : ArchiveInfo) (v w : BackupInfo) → HasList stanza f a v → HasList stanza f b w → (a ≡ b) × (v ≡ w)
  same_list a b v w h k =
      let archive = one_archive_pair f (archive_info stanza) a b h.pairs.archive k.pairs.archive in
      let backup = one_pair one_list f (backup_info stanza) h.backup k.backup h.pairs.backup k.pairs.backup in
      (archive, one_validated a b h.backup k.backup v w archive backup h.settles k.settles)

  -- the value of the backup pair validates to that without a cluster that is still to come
  settles : (s : Stanza) (c : Option Cluster) → IsPending s c → Validates (archive_value s) (backup_value s c) (backup_value s None)
  settles s None pending = As refl refl
  settles s (Some c) pending = Without (record {
    earlier = s.history;
    last = c;
    whole = refl;
    same = refl;
    current = refl;
    unused = λ e at same.
        let x = map_in (λ (b : Backup). b.entry) s.backups e at in
        pending x.0 x.1 (ap (λ (r : Entry). r.db) (sym x.2) ∙ same);
  }) refl

  pub list_of : (s : Stanza) → HasStanza stanza f s → HasList stanza f (archive_value s) (backup_value s None)
  list_of s h = record {
    backup = backup_value s h.pending;
    pairs = record { archive = h.archive_pair; backup = h.backup_pair };
    settles = settles s h.pending h.is_pending;
  }
