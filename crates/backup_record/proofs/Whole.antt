-- The record of what was received keeps the rules of its two texts.
use Rattle.std.proofs.Common.{◌≡◌, ◌<◌, ◌≤◌, ◌^◌, suc, true, List, [], ◌∷◌, length, map, Option, Some, None, refl, sym, ap, subst, arith}
use Rattle.std.specs.Prelude.{IfSome}
use Rattle.base_devices.specs.Order.{are_in_order}
use Rattle.base_model.specs.Text.{Text}
use Rattle.base_model.specs.InfoFiles.{IsBackupInfo}
use Rattle.base_model.specs.ManifestText.{IsManifest}
use Rattle.base_model.specs.Values.{BackupInfo, FileEntry, Manifest}
use Rattle.backup_plan.specs.declared.values.Choice.{Choice}
use Rattle.backup_plan.specs.Filter.{IsListing, most_bytes, version_path}
use Rattle.backup_plan.specs.Layout.{Layout}
use Rattle.backup_plan.specs.Listed.{Taken, control_path}
use Rattle.backup_plan.specs.Spots.{HaveItems}
use Rattle.backup_record.specs.declared.manifest_record.Head.{Head}
use Rattle.backup_record.specs.Bounds.{KeepsBounds, MayFollow}
use Rattle.backup_record.specs.Entries.{BackupRun, entries}
use Rattle.backup_record.specs.Faults.{HasControl}
use Rattle.backup_record.specs.Further.{MayBeAdded, with_further}
use Rattle.backup_record.specs.Making.{manifest_with, size_of, IsListWith}
use Rattle.backup_record.proofs.Following.{prior_label, own_cluster, list_rules}
use Rattle.backup_record.proofs.Extended.{further_rules}
use Rattle.backup_record.proofs.Putting.{put_sum, entry_stays}
use Rattle.backup_record.proofs.Rules.{entries_in_order, sizes, is_manifest}

same_count : (old : List FileEntry) (l : Layout) (fs : List Taken) (cs : List Choice) → HaveItems old l fs cs → length cs ≡ length fs
same_count old l [] [] have = refl
same_count old l [] (c ∷ cs) have = absurd have
same_count old l (f ∷ fs) [] have = absurd have
same_count old l (f ∷ fs) (c ∷ cs) have = ap suc (same_count old l fs cs have.1)

module _ (w : BackupRun) (fs : List Taken) (cs : List Choice) (folders : List Text) (listing : IsListing fs folders) (k : KeepsBounds w fs cs) where
  pub count : length cs ≡ length fs
  count = same_count w.old k.layout fs cs k.have

  pub order : are_in_order (map (λ (e : FileEntry). e.path) (entries w fs cs)) ≡ true
  order = entries_in_order w fs cs listing.file_order

  few : size_of (entries w fs cs) ≤ most_bytes
  few =
      let a = sizes w k.layout folders k.old_folders k.bounds fs cs k.have k.within in
      let b = listing.sizes in
      omega (arith, a, b)

  module _ (x : Option FileEntry) (may : IfSome x (MayBeAdded fs folders)) where
    pub small : size_of (with_further x (entries w fs cs)) < 2 ^ 64
    small = by x may
      where
        by : (o : Option FileEntry) → IfSome o (MayBeAdded fs folders) → size_of (with_further o (entries w fs cs)) < 2 ^ 64
        by None m = let a = few in omega (arith, a)
        by (Some e) m = let a = few in let b = put_sum (λ (d : FileEntry). d.path) e (λ (d : FileEntry). d.size) (entries w fs cs) in let c = m.short in omega (arith, a, b, c)

    module _ (h : Head) (before : BackupInfo) (rules : IsBackupInfo before) (follows : MayFollow h before) (m : Manifest) (is : m ≡ manifest_with h (with_further x (entries w fs cs)) folders) where
      pub small_manifest : size_of m.files < 2 ^ 64
      small_manifest = subst (λ (n : Manifest). size_of n.files < 2 ^ 64) (sym is) small

      listed_rules : IsManifest (manifest_with h (entries w fs cs) folders)
      listed_rules = is_manifest w k.layout folders k.old_folders k.bounds (manifest_with h (entries w fs cs) folders) fs cs refl refl listing k.have k.within
          follows.label refl (follows.prior, prior_label h before rules follows) follows.start follows.stop (own_cluster h before rules follows) follows.wal

      pub manifest_rules : IsManifest m
      manifest_rules = subst IsManifest (sym is) (by x may)
        where
          by : (o : Option FileEntry) → IfSome o (MayBeAdded fs folders) → IsManifest (manifest_with h (with_further o (entries w fs cs)) folders)
          by None m = listed_rules
          by (Some e) m = further_rules w fs cs folders h e m listing.file_order few listed_rules

      pub info_rules : (list : BackupInfo) → IsListWith before m list → IsBackupInfo list
      info_rules list x_list = list_rules h before rules follows (with_further x (entries w fs cs)) folders small list (subst (λ (n : Manifest). IsListWith before n list) is x_list)

    -- what a backup can't do without is there with the further file too
    pub still_control : HasControl (entries w fs cs) → HasControl (with_further x (entries w fs cs))
    still_control has = by x
      where
        by : (o : Option FileEntry) → HasControl (with_further o (entries w fs cs))
        by None = has
        by (Some e) = record { version = entry_stays e version_path (entries w fs cs) has.version; control = entry_stays e control_path (entries w fs cs) has.control }
