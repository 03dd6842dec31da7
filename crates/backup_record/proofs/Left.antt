-- The bytes of a prior backup's file lie at the place that a new manifest states, wherever the prior's manifest is the
-- one that was read.
use Rattle.std.proofs.Common.{◌≡◌, ◌<◌, ⊎_elim, inl, inr, ℕ, List, [], ◌∷◌, length, map, Option, Some, None, refl, sym, ◌∙◌, ap, subst, option_map}
use Rattle.std.specs.Prelude.{unwrap_or}
use Rattle.std.specs.FinMap.{get}
use Rattle.sha1.specs.Sha1.{sha1}
use Rattle.base_devices.specs.Content.{Content}
use Rattle.base_model.specs.declared.labels.Label.{Label}
use Rattle.base_model.specs.declared.clusters.Cluster.{Cluster}
use Rattle.base_model.specs.declared.files.Bundled.{Bundled}
use Rattle.base_model.specs.Text.{Text, In}
use Rattle.base_model.specs.Names.{copy_of, manifest_name, file_name, bundle_name}
use Rattle.base_model.specs.Values.{Entry, FileEntry, Manifest}
use Rattle.base_model.specs.ManifestText.{IsManifestText}
use Rattle.base_model.specs.Pair.{MemberIs, PairIs}
use Rattle.base_model.specs.Place.{place, place_by, holder, LiesAt}
use Rattle.base_model.specs.Repository.{File, Backup, Stanza}
use Rattle.base_model.specs.Represents.{HasStanza, IsManifestOf, IsAncestor, IsListed, Prior, Earlier, backup_value}
use Rattle.base_model.specs.Log.{Lists}
use Rattle.backup_record.specs.Entries.{BackupRun}
use Rattle.backup_record.specs.Rows.{IsPriorFile}
use Rattle.backup_record.specs.Record.{PriorRead, HasPrior, IsLeft}

-- one text, one manifest
abbrev pub OneManifest : Type 0
OneManifest = (a b : Manifest) (t : Text) → IsManifestText a t → IsManifestText b t → a ≡ b

member_one : OneManifest → (f : Content) (n : Text) (a b : Manifest) → MemberIs IsManifestText f n a → MemberIs IsManifestText f n b → a ≡ b
member_one one f n a b x y =
    let same : x.0 ≡ y.0 = (let z : ◌≡◌ {A = Option Text} (Some x.0) (Some y.0) = sym x.1 ∙ y.1 in cc) in
    one a b y.0 (subst (IsManifestText a) same x.2) y.2

pub pair_one : OneManifest → (f : Content) (n : Text) (a b : Manifest) → PairIs IsManifestText f n a → PairIs IsManifestText f n b → a ≡ b
pair_one one f n a b (inl x) (inl y) = member_one one f n a b x y
pair_one one f n a b (inl x) (inr y) = absurd (y.0 a x)
pair_one one f n a b (inr x) (inl y) = absurd (x.0 b y)
pair_one one f n a b (inr x) (inr y) = member_one one f (copy_of n) a b x.1 y.1

listed_in : (b : Backup) (bs : List Backup) → In b bs → In b.entry (map (λ (x : Backup). x.entry) bs)
listed_in b [] h = absurd h
listed_in b (y ∷ bs) h = ⊎_elim (λ (e : b ≡ y). inl (ap (λ (x : Backup). x.entry) e)) (λ (k : In b bs). inr (listed_in b bs k)) h

value_backups : (s : Stanza) (c : Option Cluster) → (backup_value s c).backups ≡ map (λ (x : Backup). x.entry) s.backups
value_backups s None = refl
value_backups s (Some c) = refl

place_left : (stanza : Text) (label own : Label) (e entry : FileEntry) (b : Option Bundled) → holder label e ≡ holder own entry → e.path ≡ entry.path → place_by stanza label e b ≡ place_by stanza own entry b
place_left stanza label own e entry None h p = ap (λ (l : Label). (file_name stanza l e.path, 0)) h ∙ ap (λ (q : Text). (file_name stanza (holder own entry) q, 0)) p
place_left stanza label own e entry (Some b) h p = ap (λ (l : Label). (bundle_name stanza l b.number, b.at)) h

module _ (one : OneManifest) (stanza : Text) (s : Stanza) (p : Backup) (at : In p s.backups) (m : Manifest) where
  abbrev pub read : Option PriorRead
  read = Some (record { label = p.entry.label; manifest = m })

  of_prior : (f : Content) → HasPrior stanza s read f → IsManifestOf stanza f s p m
  of_prior f h = let x = h.has.manifests p at in subst (λ (n : Manifest). IsManifestOf stanza f s p n) (pair_one one f (manifest_name stanza p.entry.label) x.0 m x.1 h.reads) x.2

  lists : (f : Content) → HasStanza stanza f s → Lists stanza f p.entry.label
  lists f h = (backup_value s h.pending, h.backup_pair, (p.entry, subst (λ (es : List Entry). In p.entry es) (sym (value_backups s h.pending)) (listed_in p s.backups at), refl))

  module _ (w : BackupRun) (prior_is : w.prior ≡ p.entry.label) (old_is : w.old ≡ m.files) (e : FileEntry) (l : Label) (bytes : Text) (refers : e.reference ≡ Some l) (x : IsPriorFile w p.files e l bytes) where
    in_m : In x.entry m.files
    in_m = subst (λ (es : List FileEntry). In x.entry es) old_is x.of_it

    some : 0 < x.entry.size
    some = subst (λ (n : ℕ). 0 < n) x.size x.some

    same_place : (label : Label) → place stanza label e ≡ place stanza p.entry.label x.entry
    same_place label =
        let held : holder label e ≡ holder p.entry.label x.entry = ap (λ (o : Option Label). unwrap_or o label) refers ∙ x.holder ∙ ap (λ (k : Label). unwrap_or x.entry.reference k) prior_is in
        ap (λ (b : Option Bundled). place_by stanza label e b) x.bundle ∙ place_left stanza label p.entry.label e x.entry x.entry.bundle held x.path

    bytes_of : (file : File) → get p.files x.entry.path ≡ Some file → bytes ≡ file.bytes
    bytes_of file is = x.bytes_are ∙ ap (λ (o : Option File). unwrap_or (option_map (λ (f : File). f.bytes) o) []) is

    -- in each content that has the stanza with that manifest
    pub is_left : (label : Label) (f : Content) → HasPrior stanza s read f → IsLeft stanza s read label e bytes
    is_left label f h =
        let y = (of_prior f h).files x.entry in_m in
        let b = bytes_of y.0 y.1 in
        record {
          size = x.size ∙ y.2.size ∙ ap (λ (t : Text). length t) (sym b);
          sum = x.sum ∙ y.2.sum ∙ ap sha1 (sym b);
          place_is = λ g k. record { label = p.entry.label; listed = lists g k.has; manifest = m; reads = k.reads; entry = x.entry; of_it = in_m; filled = some; is = ap (λ (q : Text × ℕ). q.0) (same_place label) };
          lies = λ g k. (
              let z = (of_prior g k).files x.entry in_m in
              let there : LiesAt g (place stanza p.entry.label x.entry) bytes = subst (λ (t : Text). LiesAt g (place stanza p.entry.label x.entry) t) (sym (bytes_of z.0 z.1)) (z.2.stored some) in
              subst (λ (q : Text × ℕ). LiesAt g q bytes) (sym (same_place label)) there
              );
        }

    -- the backup that has them is the prior or one before it, and is listed
    pub is_ancestor : (b : Backup) (f : Content) → HasPrior stanza s read f → b.entry.prior ≡ Some p.entry.label → IsAncestor s.backups l b × IsListed s.backups l
    is_ancestor b f h prior = by x.entry.reference refl x.holder
      where
        by : (o : Option Label) → x.entry.reference ≡ o → l ≡ unwrap_or o w.prior → IsAncestor s.backups l b × IsListed s.backups l
        by None is same =
            let own : l ≡ p.entry.label = same ∙ prior_is in
            (Prior b l (prior ∙ ap (λ (k : Label). Some k) (sym own)), (p, at, sym own))
        by (Some r) is same =
            let y = of_prior f h in
            let z = y.ancestors r ((y.references r).1 (x.entry, in_m, is)) in
            subst (λ (k : Label). IsAncestor s.backups k b × IsListed s.backups k) (sym same) (Earlier b p r at prior z.0, z.1)
