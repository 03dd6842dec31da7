-- What a backup is based on stays while its own is staged, and while steps of others are waited for.
use Rattle.std.proofs.Common.{◌≡◌, ◌≢◌, inl, inr, Bool, true, false, List, [], get_or, Option, Some, None, refl, sym, ◌∙◌, ap, subst, arith}
use Rattle.std.proofs.lemmas.Bool.{false_from_ne_true}
use Rattle.std.specs.declared.cmp.Ordering.{Ordering}
use Rattle.std.specs.declared.cmp.Ordering.TheVariants.{Less, Equal, Greater}
use Rattle.std.specs.Ordering.{match_ordering}
use Rattle.std.specs.Prelude.{IfSome, IsSome, codes}
use Rattle.base_devices.specs.Content.{Name, Value, Content, at, is_below}
use Rattle.base_devices.specs.Crash.{IsTemporary}
use Rattle.base_devices.specs.Moments.{View}
use Rattle.base_devices.specs.DataFolder.{Nodes}
use Rattle.base_model.specs.declared.labels.Label.{Label}
use Rattle.base_model.specs.Log.{Manifested}
use Rattle.base_model.specs.ManifestText.{IsManifestText}
use Rattle.base_model.specs.Names.{archive_folder, copy_of, label_folder, label_text, manifest_name}
use Rattle.base_model.specs.Pair.{PairIs}
use Rattle.base_model.specs.Text.{Text, In, ◌⫽◌}
use Rattle.base_model.specs.Values.{BackupInfo, Entry, FileEntry, Manifest}
use Rattle.base_model.proofs.Frame.{pair_same}
use Rattle.base_model.proofs.Temporary.{fixed_lasts}
use Rattle.repo_ini.proofs.Orders.{not_itself}
use Rattle.base_crash_lists.specs.Beside.{StaysBeside}
use Rattle.archive_lookup.specs.Stored.{ChangesArchive}
use Rattle.backup_sink.proofs.Ways.{Law}
use Rattle.backup_record.proofs.Made.{in_map}
use Rattle.backup_make.specs.declared.draft.Draft.{Draft}
use Rattle.backup_make.specs.Draft.{stanza_of, folder_of, pair_of, is_own_of, list_in, IsDraft}
use Rattle.backup_make.specs.Made.{LeavesList}
use Rattle.backup_make.proofs.Far.{below_is, copy_in, heads_apart, own_is, parts}
use Rattle.backup_lemmas.proofs.Based.{BasedOn}
use Rattle.backup_lemmas.proofs.Begun.{BeginsBackup, known_as}
use Rattle.cmd_backup_offline.specs.declared.order.OfflineOrder.{OfflineOrder}
use Rattle.cmd_backup_offline.specs.Making.{BeginsFrom}
use Rattle.cmd_backup_offline.proofs.Bases.{begins_later}
use Rattle.cmd_backup_online.specs.Drafting.{IsDraftFrom}

-- what a draft begins from
pub begins_of : (stanza : Text) (o : OfflineOrder) (nodes : Option Nodes) (list : BackupInfo) (files : List FileEntry) (d : Draft) → IsDraftFrom stanza o nodes list files d → (b : View) → Law b → BeginsFrom stanza o b.now list files → BeginsBackup d b
begins_of stanza o nodes list files d from b law begins = begins_later true stanza o from.seen list files from.second d from.later b law begins from.is_draft

-- ---- what is known of a disk

known_at : (o w : Option Content) (n : Name) → at n w ≡ at n o → IsSome w → IsSome o
known_at None None n e h = h
known_at None (Some g) n e h = let x : ◌≡◌ {A = Option Value} (Some (g n)) None = e in cc
known_at (Some f) w n e h = refl

-- what is known after a call besides the stanza was known before it
pub known_before : (stanza : Text) (a b : View) → StaysBeside stanza a b → IsSome b.now → IsSome a.now
known_before stanza a b beside = known_at a.now b.now [] (beside.now [] refl)

same_at : (o w : Option Content) (n : Name) → at n w ≡ at n o → (f g : Content) → o ≡ Some f → w ≡ Some g → g n ≡ f n
same_at o w n e f g is_f is_g =
    let x : ◌≡◌ {A = Option Value} (Some (g n)) (Some (f n)) = sym (ap (at n) is_g) ∙ e ∙ ap (at n) is_f in
    cc

-- ---- the manifest of a listed backup

module _ (d : Draft) (is_draft : IsDraft d) where
  -- it has another label
  other : (e : Entry) → In e (list_in d).backups → label_text e.label ≢ label_text d.label
  other e at same = not_itself (label_text e.label) (label_text d.label)
      (less_of _ ((is_draft.follows 0 (omega arith)).later e.label (in_map (λ (x : Entry). x.label) e (list_in d).backups at))) same
    where
      less_of : (r : Ordering) → match_ordering r true false false ≡ true → r ≡ Less
      less_of Less h = refl
      less_of Equal h = let e : ◌≡◌ {A = Bool} false true = h in cc
      less_of Greater h = let e : ◌≡◌ {A = Bool} false true = h in cc

  module _ (l : Label) (off : label_text l ≢ label_text d.label) where
    abbrev stanza : Text
    stanza = stanza_of d

    -- a name in its folder isn't the draft's own
    out : (r : Text) → is_own_of d (label_folder (stanza_of d) l ⫽ r) ≡ false
    out r = false_from_ne_true (is_own_of d (label_folder stanza l ⫽ r)) (λ h. let x = own_is stanza d.label (label_folder stanza l ⫽ r) h in off (parts stanza d.label l r (x.0 ⫽ x.1) x.2).0)

    pair_off : (r : Text) → label_folder (stanza_of d) l ⫽ r ≢ pair_of d
    pair_off r e = off (parts stanza d.label l r (codes "backup.manifest") e).0

    copy_off : (r : Text) → label_folder (stanza_of d) l ⫽ r ≢ copy_of (pair_of d)
    copy_off r e = off (parts stanza d.label l r (codes "backup.manifest.copy") (e ∙ copy_in stanza d.label (folder_of d) (codes "backup.manifest"))).0

    not_archived : (r : Text) → is_below (archive_folder (stanza_of d)) (label_folder (stanza_of d) l ⫽ r) ≡ true → ⊥
    not_archived r h = let q = below_is (archive_folder stanza) (label_folder stanza l ⫽ r) h in heads_apart (label_folder stanza l ⫽ r) (label_folder stanza l ⫽ r) (ap (λ (m : Name). get_or m 0 0) q.1) refl refl

    module _ (b c w : View) (leaves : LeavesList d b c) (only : ChangesArchive (stanza_of d) c w) (before : IsSome c.now → IsSome b.now) where
      stays : (r : Text) → ¬ IsTemporary (label_folder (stanza_of d) l ⫽ r) → (f h g : Content) → b.now ≡ Some f → c.now ≡ Some h → w.now ≡ Some g → g (label_folder (stanza_of d) l ⫽ r) ≡ f (label_folder (stanza_of d) l ⫽ r)
      stays r lasts f h g is_f is_h is_g =
          same_at c.now w.now (label_folder stanza l ⫽ r) (only.now (label_folder stanza l ⫽ r) (not_archived r)) h g is_h is_g
          ∙ (leaves.now.goes f h is_f is_h).others (label_folder stanza l ⫽ r) (out r) lasts (pair_off r) (copy_off r)

      main_lasts : ¬ IsTemporary (manifest_name (stanza_of d) l)
      main_lasts = fixed_lasts stanza (manifest_name stanza l) (Manifested (l, inl refl))

      copy_is : copy_of (manifest_name (stanza_of d) l) ≡ label_folder (stanza_of d) l ⫽ codes "backup.manifest.copy"
      copy_is = copy_in stanza l (label_folder stanza l) (codes "backup.manifest")

      copy_lasts : ¬ IsTemporary (label_folder (stanza_of d) l ⫽ codes "backup.manifest.copy")
      copy_lasts = subst (λ (n : Name). ¬ IsTemporary n) copy_is (fixed_lasts stanza (copy_of (manifest_name stanza l)) (Manifested (l, inr refl)))

      -- so its manifest can be read still
      read_still : (m : Manifest) → IfSome b.now (λ f. PairIs IsManifestText f (manifest_name (stanza_of d) l) m) → IfSome w.now (λ f. PairIs IsManifestText f (manifest_name (stanza_of d) l) m)
      read_still m read = by w.now refl
        where
          there : (g : Content) → w.now ≡ Some g → PairIs IsManifestText g (manifest_name (stanza_of d) l) m
          there g is_g =
              let h = known_as c.now (known_at c.now w.now (manifest_name stanza l) (only.now (manifest_name stanza l) (not_archived (codes "backup.manifest"))) (subst (λ (n : Option Content). IsSome n) (sym is_g) refl)) in
              let f = known_as b.now (before (subst (λ (n : Option Content). IsSome n) (sym h.1) refl)) in
              let read_f : IfSome (Some f.0) (λ k. PairIs IsManifestText k (manifest_name stanza l) m) = subst (λ (n : Option Content). IfSome n (λ k. PairIs IsManifestText k (manifest_name stanza l) m)) f.1 read in
              pair_same IsManifestText f.0 g (manifest_name stanza l) m
              (stays (codes "backup.manifest") main_lasts f.0 h.0 g f.1 h.1 is_g)
              (subst (λ (n : Name). g n ≡ f.0 n) (sym copy_is) (stays (codes "backup.manifest.copy") copy_lasts f.0 h.0 g f.1 h.1 is_g))
              read_f

          by : (o : Option Content) → w.now ≡ o → IfSome o (λ f. PairIs IsManifestText f (manifest_name (stanza_of d) l) m)
          by None is = tt
          by (Some g) is = there g is

  -- what the draft is based on is still there after the wait
  pub based_after : (b c w : View) → BasedOn d b d.prior → LeavesList d b c → ChangesArchive (stanza_of d) c w → (IsSome c.now → IsSome b.now) → Law w → BasedOn d w d.prior
  based_after b c w based leaves only before law = by d.prior based
    where
      by : (p : Option Label) → BasedOn d b p → BasedOn d w p
      by None none = none
      by (Some l) base = record {
        entry = base.entry;
        listed = base.listed;
        label = base.label;
        db = base.db;
        manifest = base.manifest;
        read = read_still l (subst (λ (k : Label). label_text k ≢ label_text d.label) base.label (other base.entry base.listed)) b c w leaves only before base.manifest base.read;
        old_is = base.old_is;
        settings = base.settings;
        equal = base.equal;
        same = base.same;
        choices = base.choices;
        delta = base.delta;
        law = law;
      }
