-- A stanza of which backups are left, with all that they need.
use Rattle.std.proofs.Common.{◌≡◌, ◌↔◌, ◌<◌, List, map, Option, Some, None, refl, ap, ◌∙◌, sym, subst}
use Rattle.sha1.specs.Sha1.{sha1}
use Rattle.base_devices.specs.Content.{Content}
use Rattle.base_model.specs.declared.clusters.Cluster.{Cluster}
use Rattle.base_model.specs.declared.labels.Label.{Label}
use Rattle.base_model.specs.Text.{Text, In}
use Rattle.base_model.specs.Names.{archive_info, backup_info, copy_of, manifest_name, label_text}
use Rattle.base_model.specs.Values.{Entry, FileEntry, Manifest}
use Rattle.base_model.specs.Fields.{Field}
use Rattle.base_model.specs.InfoFiles.{IsArchiveText, IsBackupText, entry_field}
use Rattle.base_model.specs.ManifestText.{IsManifestText}
use Rattle.base_model.specs.Pair.{PairIs}
use Rattle.base_model.specs.Place.{place}
use Rattle.base_model.specs.Repository.{Archived, Backup, Stanza}
use Rattle.base_model.specs.Represents.{HasStanza, IsManifestOf, IsAncestor, IsListed, IsPending, IsArchiveFile, IsArchivePlace, stored_name, archive_value, backup_value}
use Rattle.base_model.specs.Log.{IsPlaceOf, Lists}
use Rattle.base_model.proofs.Frame.{pair_same}
use Rattle.repo_stanza.proofs.OneBackup.{pair_agrees}
use Rattle.repo_keys.proofs.Numbers.{in_map, map_in}
use Rattle.base_model.proofs.BackupNames.{manifest_same, place_same}

pub entries_of : (s : Stanza) (c : Option Cluster) → (backup_value s c).backups ≡ map (λ b. b.entry) s.backups
entries_of s None = refl
entries_of s (Some c) = refl

-- Each of these is a backup of the stanza, and its ancestors are among them.
pub record AreKept (s : Stanza) (kept : List Backup) : Type 0 where
  pub of_it : (b : Backup) → In b kept → In b s.backups
  pub lines : (b : Backup) → In b kept → (l : Label) → IsAncestor s.backups l b → IsListed s.backups l → IsAncestor kept l b × IsListed kept l

pub all_kept : (s : Stanza) → AreKept s s.backups
all_kept s = record { of_it = λ b at. at; lines = λ b at l ancestor listed. (ancestor, listed) }

-- g has what f has of the archive pair, and of the manifests and the places of these backups.
pub record AgreesOn (stanza : Text) (s : Stanza) (kept : List Backup) (f g : Content) : Type 0 where
  pub archive : g (archive_info stanza) ≡ f (archive_info stanza)
  pub archive_copy : g (copy_of (archive_info stanza)) ≡ f (copy_of (archive_info stanza))
  pub listed : (b : Backup) → In b kept → (g (manifest_name stanza b.entry.label) ≡ f (manifest_name stanza b.entry.label)) × (g (copy_of (manifest_name stanza b.entry.label)) ≡ f (copy_of (manifest_name stanza b.entry.label)))
  pub places : (b : Backup) → In b kept → (m : Manifest) → IsManifestOf stanza f s b m → (e : FileEntry) → In e m.files → 0 < e.size → g (place stanza b.entry.label e).0 ≡ f (place stanza b.entry.label e).0

-- f has this archived file at the name
abbrev pub IsStoredIn : Text → List Archived → Text → Text → Type 0
IsStoredIn stanza files n bytes = (a : Archived) × In a files × (n ≡ stored_name stanza a) × (bytes ≡ a.bytes)

module _ (stanza : Text) (f g : Content) (s : Stanza) (kept : List Backup) (files : List Archived) (h : HasStanza stanza f s) (are : AreKept s kept) (agrees : AgreesOn stanza s kept f g) where
  abbrev left : Stanza
  left = record s { backups = kept; archived = files }

  manifest_of : (b : Backup) → In b kept → (m : Manifest) → IsManifestOf stanza f s b m → IsManifestOf stanza g left b m
  manifest_of b at m of = record {
    label = of.label;
    kind = of.kind;
    prior = of.prior;
    start = of.start;
    stop = of.stop;
    cluster = of.cluster;
    wal = of.wal;
    choices = of.choices;
    folders = of.folders;
    paths = of.paths;
    references = of.references;
    ancestors = λ l referred. let x = of.ancestors l referred in are.lines b at l x.0 x.1;
    files = λ e in_m. let x = of.files e in_m in (
      x.0,
      x.1,
      record {
        size = x.2.size;
        time = x.2.time;
        sum = x.2.sum;
        stored = λ filled. let y = x.2.stored filled in (y.0, agrees.places b at m of e in_m filled ∙ y.1, y.2);
      },
    );
  }

  still_pending : (c : Option Cluster) → IsPending s c → IsPending left c
  still_pending None p = tt
  still_pending (Some c) p = λ b at. p b (are.of_it b at)

  module _ (pending : Option Cluster) (fits : IsPending s pending) (pair : PairIs IsBackupText g (backup_info stanza) (backup_value (record s { backups = kept; archived = files }) pending)) where
    pub has_left : ((a : Archived) → In a files → IsArchivePlace a.id a.name (sha1 a.bytes)) → ((n bytes : Text) → IsArchiveFile stanza n → (g n ≡ Some bytes) ↔ IsStoredIn stanza files n bytes) → HasStanza stanza g (record s { backups = kept; archived = files })
    has_left named archived = record {
      archive_pair = pair_same IsArchiveText f g (archive_info stanza) (archive_value s) agrees.archive agrees.archive_copy h.archive_pair;
      pending = pending;
      is_pending = still_pending pending fits;
      backup_pair = pair;
      manifests = λ b at. let x = h.manifests b (are.of_it b at) in (x.0, pair_same IsManifestText f g (manifest_name stanza b.entry.label) x.0 (agrees.listed b at).0 (agrees.listed b at).1 x.1, manifest_of b at x.0 x.2);
      archived = archived;
      named = named;
    }

    -- a place of what g lists is one of what f lists
    pub place_left : (n : Text) → IsPlaceOf stanza g n → IsPlaceOf stanza f n
    place_left n p =
        let agree = pair_agrees g (backup_info stanza) p.listed.0 (backup_value left pending) p.listed.1 pair in
        let at = subst (λ (ks : List Field). In (entry_field p.listed.2.0) ks) (agree.entries ∙ ap (map entry_field) (entries_of left pending)) (in_map entry_field p.listed.0.backups p.listed.2.0 p.listed.2.1) in
        let (e, there, same) = map_in entry_field (map (λ (b : Backup). b.entry) kept) (entry_field p.listed.2.0) at in
        let (b, in_b, is_b) = map_in (λ (b : Backup). b.entry) kept e there in
        let text : label_text p.label ≡ label_text b.entry.label = ap label_text (sym p.listed.2.2) ∙ ap (λ (k : Field). k.0) same ∙ ap (λ (x : Entry). label_text x.label) is_b in
        let lists : Lists stanza f b.entry.label = (backup_value s h.pending, h.backup_pair, (b.entry, subst (λ (es : List Entry). In b.entry es) (sym (entries_of s h.pending)) (in_map (λ (b : Backup). b.entry) s.backups b (are.of_it b in_b)), refl)) in
        let in_g = subst (λ (k : Text). PairIs IsManifestText g k p.manifest) (manifest_same stanza p.label b.entry.label text) p.reads in
        record {
          label = b.entry.label;
          listed = lists;
          manifest = p.manifest;
          reads = pair_same IsManifestText g f (manifest_name stanza b.entry.label) p.manifest (sym (agrees.listed b in_b).0) (sym (agrees.listed b in_b).1) in_g;
          entry = p.entry;
          of_it = p.of_it;
          filled = p.filled;
          is = p.is ∙ place_same stanza p.label b.entry.label text p.entry;
        }
