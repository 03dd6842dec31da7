-- The manifest of a listed backup, in another content and in a stanza that has its cluster and its ancestors.
use Rattle.std.proofs.Common.{◌≡◌, List, map, Option, Some, None, refl, ◌∙◌, sym, subst}
use Rattle.base_devices.specs.Content.{Content}
use Rattle.base_model.specs.declared.clusters.Cluster.{Cluster}
use Rattle.base_model.specs.declared.labels.Label.{Label}
use Rattle.base_model.specs.Text.{Text, In}
use Rattle.base_model.specs.Names.{manifest_name}
use Rattle.base_model.specs.Values.{Entry, Manifest}
use Rattle.base_model.specs.ManifestText.{IsManifestText}
use Rattle.base_model.specs.Pair.{PairIs}
use Rattle.base_model.specs.Repository.{Stanza, Backup}
use Rattle.base_model.specs.Represents.{HasStanza, IsManifestOf, IsAncestor, IsListed, backup_value}
use Rattle.base_model.specs.Log.{IsPlaceOf, Lists}
use Rattle.repo_keys.proofs.Numbers.{in_map}

-- the list's value has the entries of the backups, whatever cluster is still to come
pub entries_of : (s : Stanza) (c : Option Cluster) → (backup_value s c).backups ≡ map (λ b. b.entry) s.backups
entries_of s None = refl
entries_of s (Some c) = refl

module _ (stanza : Text) (f : Content) (s : Stanza) (h : HasStanza stanza f s) (b : Backup) (at : In b s.backups) where
  pub lists : Lists stanza f b.entry.label
  lists = (backup_value s h.pending, h.backup_pair, (b.entry, subst (λ (es : List Entry). In b.entry es) (sym (entries_of s h.pending)) (in_map (λ (b : Backup). b.entry) s.backups b at), refl))

  module _ (g : Content) (t : Stanza) (places : (n : Text) → IsPlaceOf stanza f n → g n ≡ f n)
      (clusters : (c : Cluster) → In c s.history → In c t.history) (ancestors : (l : Label) → IsAncestor s.backups l b × IsListed s.backups l → IsAncestor t.backups l b × IsListed t.backups l) where
    pub manifest_kept : (m : Manifest) → PairIs IsManifestText f (manifest_name stanza b.entry.label) m → IsManifestOf stanza f s b m → IsManifestOf stanza g t b m
    manifest_kept m reads of = record {
      label = of.label;
      kind = of.kind;
      prior = of.prior;
      start = of.start;
      stop = of.stop;
      cluster = (clusters m.cluster of.cluster.0, of.cluster.1);
      wal = of.wal;
      choices = of.choices;
      folders = of.folders;
      paths = of.paths;
      references = of.references;
      ancestors = λ l referred. ancestors l (of.ancestors l referred);
      files = λ e in_m. let x = of.files e in_m in (
        x.0,
        x.1,
        record {
          size = x.2.size;
          time = x.2.time;
          sum = x.2.sum;
          stored = λ filled.
              let y = x.2.stored filled in
              let p : IsPlaceOf stanza f _ = record { label = b.entry.label; listed = lists; manifest = m; reads = reads; entry = e; of_it = in_m; filled = filled; is = refl } in
              (y.0, places _ p ∙ y.1, y.2);
        },
      );
    }
