-- Contents that agree on what a stanza's list leads to represent the same; and one backup more.
use Rattle.std.proofs.Common.{◌≡◌, ◌↔◌, ⊎_elim, inl, inr, List, [], ◌∷◌, ◌++◌, map, Option, Some, None, refl, sym, ◌∙◌, ap, subst}
use Rattle.std.proofs.lemmas.List.{append-nil}
use Rattle.base_devices.specs.Content.{Content}
use Rattle.base_model.specs.declared.labels.Label.{Label}
use Rattle.base_model.specs.declared.clusters.Cluster.{Cluster}
use Rattle.base_model.specs.Text.{Text, In}
use Rattle.base_model.specs.Names.{copy_of, archive_info, backup_info, manifest_name}
use Rattle.base_model.specs.Values.{Entry, FileEntry, Manifest, BackupInfo}
use Rattle.base_model.specs.InfoText.{info_text}
use Rattle.base_model.specs.InfoFiles.{IsArchiveText, IsBackupText, backup_sections}
use Rattle.base_model.specs.ManifestText.{IsManifestText}
use Rattle.base_model.specs.Pair.{PairIs}
use Rattle.base_model.specs.Repository.{File, Backup, Archived, Stanza}
use Rattle.base_model.specs.Represents.{HasStanza, IsArchiveFile, IsManifestOf, IsEntryOf, IsAncestor, IsListed, Prior, Earlier, stored_name, archive_value, backup_value}
use Rattle.base_model.specs.Steps.{changed, AddBackup}
use Rattle.base_model.specs.Log.{IsPlaceOf, Lists}
use Rattle.base_model.proofs.Frame.{pair_same}
use Rattle.base_model.proofs.Pushed.{in_left, in_either}
use Rattle.repo_manifest.specs.Keeping.{manifest_text}

in_map : {X Y : Type 0} (f : X → Y) (x : X) (xs : List X) → In x xs → In (f x) (map f xs)
in_map f x [] h = absurd h
in_map f x (y ∷ ys) h = ⊎_elim (λ (e : x ≡ y). inl (ap f e)) (λ h. inr (in_map f x ys h)) h

-- g has what f has at the archive's names, and at the manifests and places of the labels that f lists
pub record AgreesBelow (stanza : Text) (f g : Content) : Type 0 where
  pub archive : (g (archive_info stanza) ≡ f (archive_info stanza)) × (g (copy_of (archive_info stanza)) ≡ f (copy_of (archive_info stanza)))
  pub files : (n : Text) → IsArchiveFile stanza n → g n ≡ f n
  pub manifests : (l : Label) → Lists stanza f l → (g (manifest_name stanza l) ≡ f (manifest_name stanza l)) × (g (copy_of (manifest_name stanza l)) ≡ f (copy_of (manifest_name stanza l)))
  pub places : (n : Text) → IsPlaceOf stanza f n → g n ≡ f n

module _ (stanza : Text) (f g : Content) (agrees : AgreesBelow stanza f g) (s : Stanza) (h : HasStanza stanza f s) where
  entries_of : (c : Option Cluster) → (backup_value s c).backups ≡ map (λ b. b.entry) s.backups
  entries_of None = refl
  entries_of (Some c) = refl

  lists : (b : Backup) → In b s.backups → Lists stanza f b.entry.label
  lists b at = (backup_value s h.pending, h.backup_pair, (b.entry, subst (λ (es : List Entry). In b.entry es) (sym (entries_of h.pending)) (in_map (λ b. b.entry) b s.backups at), refl))

  entry_same : (b : Backup) (at : In b s.backups) (m : Manifest) → PairIs IsManifestText f (manifest_name stanza b.entry.label) m → (e : FileEntry) → In e m.files → (file : File) → IsEntryOf stanza f b.entry.label file e → IsEntryOf stanza g b.entry.label file e
  entry_same b at m reads e in_m file x = record {
    size = x.size;
    time = x.time;
    sum = x.sum;
    stored = λ filled. let y = x.stored filled in (y.0, agrees.places _ (record { label = b.entry.label; listed = lists b at; manifest = m; reads = reads; entry = e; of_it = in_m; filled = filled; is = refl }) ∙ y.1, y.2);
  }

  -- the manifest of a listed backup, in a stanza with further backups at its end
  module _ (more : List Backup) where
    abbrev longer : Stanza
    longer = record s { backups = s.backups ++ more }

    ancestor_more : (l : Label) (b : Backup) → IsAncestor s.backups l b → IsAncestor (s.backups ++ more) l b
    ancestor_more _ _ (Prior b l e) = Prior b l e
    ancestor_more _ _ (Earlier b p l at e rest) = Earlier b p l (in_left p s.backups more at) e (ancestor_more l p rest)

    listed_more : (l : Label) → IsListed s.backups l → IsListed (s.backups ++ more) l
    listed_more l x = (x.0, in_left x.0 s.backups more x.1, x.2)

    manifest_more : (b : Backup) → In b s.backups → (m : Manifest) → PairIs IsManifestText f (manifest_name stanza b.entry.label) m → IsManifestOf stanza f s b m → IsManifestOf stanza g longer b m
    manifest_more b at m reads of = record {
      label = of.label;
      kind = of.kind;
      prior = of.prior;
      start = of.start;
      stop = of.stop;
      cluster = of.cluster;
      wal = of.wal;
      choices = of.choices;
      folders = of.folders;
      paths = of.paths;
      references = of.references;
      ancestors = λ l in_refs. let x = of.ancestors l in_refs in (ancestor_more l b x.0, listed_more l x.1);
      files = λ e in_m. let x = of.files e in_m in (x.0, x.1, entry_same b at m reads e in_m x.0 x.2);
    }

    pub manifest_kept : (b : Backup) → In b s.backups → (m : Manifest) × PairIs IsManifestText g (manifest_name stanza b.entry.label) m × IsManifestOf stanza g longer b m
    manifest_kept b at =
        let x = h.manifests b at in
        let y = agrees.manifests b.entry.label (lists b at) in
        (x.0, pair_same IsManifestText f g (manifest_name stanza b.entry.label) x.0 y.0 y.1 x.1, manifest_more b at x.0 x.1 x.2)

  archived_same : (n bytes : Text) → IsArchiveFile stanza n → (g n ≡ Some bytes) ↔ ((a : Archived) × In a s.archived × (n ≡ stored_name stanza a) × (bytes ≡ a.bytes))
  archived_same n bytes file = ((λ is. (h.archived n bytes file).0 (sym (agrees.files n file) ∙ is)), (λ x. agrees.files n file ∙ (h.archived n bytes file).1 x))

  -- with one backup more
  module _ (b : Backup) (m : Manifest) (v : BackupInfo) (v_is : v ≡ backup_value (changed (AddBackup b) s) None) (v_valid : IsBackupText v (info_text (backup_sections v))) (m_valid : IsManifestText m (manifest_text m))
      (info_is : g (backup_info stanza) ≡ Some (info_text (backup_sections v))) (manifest_is : g (manifest_name stanza b.entry.label) ≡ Some (manifest_text m)) (new : IsManifestOf stanza g (changed (AddBackup b) s) b m) where
    pub listed_more_represents : HasStanza stanza g (changed (AddBackup b) s)
    listed_more_represents = record {
      archive_pair = pair_same IsArchiveText f g (archive_info stanza) (archive_value s) agrees.archive.0 agrees.archive.1 h.archive_pair;
      pending = None;
      is_pending = tt;
      backup_pair = subst (λ (w : BackupInfo). PairIs IsBackupText g (backup_info stanza) w) v_is (inl (info_text (backup_sections v), info_is, v_valid));
      manifests = λ x at. ⊎_elim (λ was. manifest_kept (b ∷ []) x was) (λ (e : x ≡ b). subst (λ (y : Backup). (w : Manifest) × PairIs IsManifestText g (manifest_name stanza y.entry.label) w × IsManifestOf stanza g (changed (AddBackup b) s) y w) (sym e) (m, inl (manifest_text m, manifest_is, m_valid), new)) (in_either x b s.backups at);
      archived = archived_same;
      named = h.named;
    }

  -- where the list is unchanged
  module _ (main : (g (backup_info stanza) ≡ f (backup_info stanza)) × (g (copy_of (backup_info stanza)) ≡ f (copy_of (backup_info stanza)))) where
    same_stanza : (record s { backups = s.backups ++ [] }) ≡ s
    same_stanza = ap (λ (bs : List Backup). record s { backups = bs }) (append-nil s.backups)

    pub still_represents : HasStanza stanza g s
    still_represents = record {
      archive_pair = pair_same IsArchiveText f g (archive_info stanza) (archive_value s) agrees.archive.0 agrees.archive.1 h.archive_pair;
      pending = h.pending;
      is_pending = h.is_pending;
      backup_pair = pair_same IsBackupText f g (backup_info stanza) (backup_value s h.pending) main.0 main.1 h.backup_pair;
      manifests = λ b at. let x = manifest_kept [] b at in (x.0, x.1, subst (λ (t : Stanza). IsManifestOf stanza g t b x.0) same_stanza x.2);
      archived = archived_same;
      named = h.named;
    }
