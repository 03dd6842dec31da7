-- A sound repository contradicts itself nowhere.
use Rattle.std.proofs.Common.{◌≡◌, ⊎_elim, inl, inr, List, [], ◌∷◌, ◌++◌, map, Option, Some, None, refl, sym, subst, ap, ◌∙◌, append_assoc}
use Rattle.base_devices.specs.Content.{Content}
use Rattle.base_model.specs.declared.labels.Label.{Label}
use Rattle.base_model.specs.declared.clusters.Cluster.{Cluster}
use Rattle.base_model.specs.declared.wal.ArchiveId.{ArchiveId}
use Rattle.base_model.specs.InfoFiles.{IsArchiveText, IsBackupText, IsBackupInfo}
use Rattle.base_model.specs.Names.{archive_folder, archive_info, backup_info}
use Rattle.base_model.specs.Pair.{PairIs}
use Rattle.base_model.specs.Repository.{Backup, Stanza, IsSoundStanza, IsSoundBackup, AreSound, id_of, identity_of}
use Rattle.base_model.specs.Represents.{HasStanza, IsPending, backup_value, archive_value}
use Rattle.base_model.specs.Text.{Text, In}
use Rattle.base_model.specs.Values.{ArchiveInfo, BackupInfo, Entry}
use Rattle.base_model.proofs.Pushed.{in_either}
use Rattle.archive_lookup.proofs.OnePath.{one_path}
use Rattle.archive_lookup.proofs.Orders.{in_map, from_map}
use Rattle.repo_stanza.specs.Pairs.{AreTogether}
use Rattle.cmd_verify.specs.Contradictions.{IsOutside, EntryContradicts, IsContradiction, OfHistories, OfArchived, OfContradicting}
use Rattle.cmd_verify.specs.What.{What}
use Rattle.cmd_verify.proofs.Contradicted.{one_entry}
use Rattle.cmd_verify.proofs.Sound.{one_value}
use Rattle.cmd_verify.proofs.Values.{IsOfOne, if_at, some_of}

-- a backup of those that are sound, with those before it
sound_among : (s : Stanza) (all earlier bs : List Backup) → ((p : Backup) → In p earlier → In p all) → ((p : Backup) → In p bs → In p all) → AreSound s earlier bs → (b : Backup) → In b bs
    → (before : List Backup) × ((p : Backup) → In p before → In p all) × IsSoundBackup s before b
sound_among s all earlier [] known of are b at = absurd at
sound_among s all earlier (c ∷ bs) known of are b (inl e) = (earlier, known, subst (λ (k : Backup). IsSoundBackup s earlier k) (sym e) are.0)
sound_among s all earlier (c ∷ bs) known of are b (inr at) =
    sound_among s all (earlier ++ c ∷ []) bs (λ p i. ⊎_elim (known p) (λ (e : p ≡ c). of p (inl e)) (in_either p c earlier i)) (λ p i. of p (inr i)) are.1 b at

pub rules_of : (f : Content) (name : Text) (v : BackupInfo) → PairIs IsBackupText f name v → IsBackupInfo v
rules_of f name v (inl m) = let t = m.2 in t.rules
rules_of f name v (inr m) = let c = m.1 in let t = c.2 in t.rules

pub entries_of : (s : Stanza) (p : Option Cluster) → (backup_value s p).backups ≡ map (λ (b : Backup). b.entry) s.backups
entries_of s None = refl
entries_of s (Some c) = refl

together : (s : Stanza) (p : Option Cluster) → IsPending s p → AreTogether (archive_value s) (backup_value s p)
together s None pending = inl refl
together s (Some c) pending = inr (record {
  earlier = s.history;
  last = c;
  whole = refl;
  same = refl;
  current = refl;
  unused = λ e at same. let b = from_map (λ (b : Backup). b.entry) s.backups e at in pending b.0 b.1 (sym (ap (λ (x : Entry). x.db) b.2) ∙ same);
})

module _ (stanza : Text) (f : Content) (s : Stanza) (h : HasStanza stanza f s) (sound : IsSoundStanza s) (one_archive : IsOfOne IsArchiveText) (one_backup : IsOfOne IsBackupText) where
  abbrev value : BackupInfo
  value = backup_value s h.pending

  abbrev entries : List Entry
  entries = map (λ (b : Backup). b.entry) s.backups

  among : (b : Backup) → In b s.backups → (before : List Backup) × ((p : Backup) → In p before → In p s.backups) × IsSoundBackup s before b
  among b at = sound_among s s.backups [] s.backups (λ p none. absurd none) (λ p i. i) sound.backups b at

  -- its prior is a backup of its cluster
  prior_of : (b : Backup) → In b s.backups → (l : Label) → b.entry.prior ≡ Some l → (p : Backup) × In p s.backups × (p.entry.label ≡ l) × (p.entry.db ≡ b.entry.db)
  prior_of b at l is =
      let k = among b at in
      let sound_is = k.2 in
      let p = if_at (λ (l : Label). (p : Backup) × In p k.0 × (p.entry.label ≡ l) × (p.entry.db ≡ b.entry.db)) b.entry.prior l is sound_is.prior in
      (p.0, k.1 p.0 p.1, p.2, p.3)

  one_of : (p q : Entry) → In p entries → In q entries → p.label ≡ q.label → p ≡ q
  one_of p q i j same =
      let fits = rules_of f (backup_info stanza) value h.backup_pair in
      one_entry value.backups fits.order p q (subst (λ (es : List Entry). In p es) (sym (entries_of s h.pending)) i) (subst (λ (es : List Entry). In q es) (sym (entries_of s h.pending)) j) same

  consistent_entry : (b : Backup) → In b s.backups → (name : Text) (what : What) → ¬ EntryContradicts stanza entries b.entry name what
  consistent_entry b at name what d =
      let q = d.2 in
      let other = q.2 in
      let p = prior_of b at q.0.label other.0 in
      let same : q.0 ≡ p.0.entry = one_of q.0 p.0.entry q.1 (in_map (λ (x : Backup). x.entry) s.backups p.0 p.1) (sym p.2) in
      other.1 (ap (λ (x : Entry). x.db) same ∙ p.3)

  outside : (name : Text) → ¬ IsOutside stanza f (archive_value s).history name
  outside name d =
      let b = some_of (f name) d.there in
      let x = (h.archived name b.0 (record { id = d.id; file = d.file; sum = d.sum; fits = d.fits; is = d.is })).0 b.1 in
      let a = x.0 in
      let fits = h.named a x.1 in
      let path = sym x.2 ∙ d.is in
      let same = one_path (archive_folder stanza ++ 47 ∷ []) a.id d.id a.name d.file _ d.sum fits d.fits
      (append_assoc (archive_folder stanza) (47 ∷ []) _ ∙ path ∙ sym (append_assoc (archive_folder stanza) (47 ∷ []) _)) in
      let c = sound.ids a x.1 in
      let under : d.id ≡ id_of c.0 = sym same.0 ∙ c.2 in
      d.none (identity_of c.0, in_map identity_of s.history c.0 c.1, (ap (λ (i : ArchiveId). i.version) under, ap (λ (i : ArchiveId). i.number) under))

  pub consistent : (name : Text) (what : What) → ¬ IsContradiction stanza f name what
  consistent name what (OfHistories d) =
      let pairs = d.2.2 in
      let same_a : d.2.0 ≡ archive_value s = one_value IsArchiveText f (archive_info stanza) one_archive d.2.0 (archive_value s) pairs.archive h.archive_pair in
      let same_b : d.2.1 ≡ value = one_value IsBackupText f (backup_info stanza) one_backup d.2.1 value pairs.backup h.backup_pair in
      d.2.3 (subst (λ (v : ArchiveInfo). AreTogether v d.2.1) (sym same_a) (subst (λ (v : BackupInfo). AreTogether (archive_value s) v) (sym same_b) (together s h.pending h.is_pending)))
  consistent name what (OfArchived d) =
      let k = d.1 in
      let same : k.0 ≡ archive_value s = one_value IsArchiveText f (archive_info stanza) one_archive k.0 (archive_value s) k.1 h.archive_pair in
      outside name (subst (λ (v : ArchiveInfo). IsOutside stanza f v.history name) same k.2)
  consistent name what (OfContradicting v p e at d) =
      let same : v ≡ value = one_value IsBackupText f (backup_info stanza) one_backup v value p h.backup_pair in
      let is : v.backups ≡ entries = ap (λ (w : BackupInfo). w.backups) same ∙ entries_of s h.pending in
      let b = from_map (λ (b : Backup). b.entry) s.backups e (subst (λ (es : List Entry). In e es) is at) in
      consistent_entry b.0 b.1 name what
      (subst (λ (x : Entry). EntryContradicts stanza entries x name what) b.2 (subst (λ (es : List Entry). EntryContradicts stanza es e name what) is d))
