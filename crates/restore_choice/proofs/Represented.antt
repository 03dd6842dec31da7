-- The chosen backup of a disk that represents a stanza is the stanza's.
use Rattle.std.proofs.Common.{◌≡◌, ◌≢◌, ◌<◌, ◌^◌, ◌-◌, ℕ, zero, suc, inl, inr, List, [], ◌∷◌, ◌++◌, map, Bool, true, false, Option, Some, None, Err, slice_get, refl, sym, ap, ◌∙◌, subst, ⊎_elim}
use Rattle.base_devices.specs.Content.{Content}
use Rattle.base_model.specs.declared.clusters.Cluster.{Cluster}
use Rattle.base_model.specs.declared.clusters.ClusterId.{ClusterId}
use Rattle.base_model.specs.declared.labels.Label.{Label}
use Rattle.base_model.specs.declared.wal.ArchiveName.TheVariants.{History}
use Rattle.base_model.specs.declared.wal.WalPart.{WalPart}
use Rattle.base_model.specs.Fields.{at_number}
use Rattle.base_model.specs.InfoFiles.{IsArchiveText, IsBackupText}
use Rattle.base_model.specs.ManifestText.{IsManifestText}
use Rattle.base_model.specs.Names.{archive_info, backup_info, copy_of, manifest_name}
use Rattle.base_model.specs.Now.{NowRepresents}
use Rattle.base_model.specs.Pair.{MemberIs, PairIs}
use Rattle.base_model.specs.Represents.{HasStanza, IsManifestOf, archive_value, backup_value}
use Rattle.base_model.specs.Repository.{Backup, Stanza, current_number, identity_of, id_of}
use Rattle.base_model.specs.Text.{Text, In}
use Rattle.base_model.specs.Values.{ArchiveInfo, BackupInfo, Entry, Manifest}
use Rattle.repo_info.proofs.OneArchive.{one_archive_pair}
use Rattle.repo_keys.proofs.Numbers.{map_in, get_in}
use Rattle.repo_text_lemmas.proofs.Lists.{one_list}
use Rattle.repo_text_lemmas.proofs.Manifests.{one_manifest}
use Rattle.archive_lookup.specs.Causes.{StoresBytes, IsUnarchived}
use Rattle.archive_lookup.specs.Stored.{StoresNone, archived_file}
use Rattle.sha1.specs.Sha1.{sha1}
use Rattle.archive_lookup.specs.declared.stored.fault.ArchiveFault.TheVariants.{NotFound}
use Rattle.archive_store.proofs.Got.{got_archived, answer_none}
use Rattle.restore_target.specs.declared.history.Ancestor.{Ancestor}
use Rattle.cmd_types.specs.Current.{HasCurrent, id_kept}
use Rattle.cmd_types.proofs.Places.{place_of}
use Rattle.restore_choice.specs.declared.choice.Choice.{Choice}
use Rattle.restore_choice.specs.declared.choice.Choice.TheVariants.{Labelled, Last}
use Rattle.restore_choice.specs.declared.choice.Deadline.{Deadline}
use Rattle.restore_choice.specs.declared.choice.Deadline.TheVariants.{Moment, Position}
use Rattle.restore_choice.specs.Ancestries.{GoesBackBy, IsAncestryBy, HasHistory, LacksHistory, HasAncestry, ArchivesHistory, IsAncestryOf}
use Rattle.restore_choice.specs.Choosing.{EndedBefore, LogFits, Qualifies, needs_log, OfManifest, QualifiesOn, IsExcludedOn, IsLastOn, IsLastOf, IsChosen, IsChosenOf}
use Rattle.restore_choice.specs.Loading.{IsThere, HasManifest}
use Rattle.restore_choice.specs.Views.{Ancestry}

-- ---- one text, one value

module _ {V : Type 0} (IsTextOf : V → Text → Type 0) (one : (v w : V) (t : Text) → IsTextOf v t → IsTextOf w t → v ≡ w) (f : Content) where
  one_member : (name : Text) (v w : V) → MemberIs IsTextOf f name v → MemberIs IsTextOf f name w → v ≡ w
  one_member name v w h g =
      let e : ◌≡◌ {A = Option Text} (Some h.0) (Some g.0) = sym h.1 ∙ g.1 in
      let same : h.0 ≡ g.0 = cc in
      one v w g.0 (subst (IsTextOf v) same h.2) g.2

  one_pair : (name : Text) (v w : V) → PairIs IsTextOf f name v → PairIs IsTextOf f name w → v ≡ w
  one_pair name v w (inl m) (inl n) = one_member name v w m n
  one_pair name v w (inl m) (inr n) = absurd (n.0 v m)
  one_pair name v w (inr m) (inl n) = absurd (m.0 w n)
  one_pair name v w (inr m) (inr n) = one_member (copy_of name) v w m.1 n.1

-- ---- lists by which others are made

split_in : {X Y : Type 0} (g : X → Y) (xs : List X) (y : Y) (front back : List Y) → map g xs ≡ front ++ y ∷ back
    → (a : List X) × (x : X) × (b : List X) × (xs ≡ a ++ x ∷ b) × (g x ≡ y) × (map g b ≡ back)
split_in g [] y [] back e = cc
split_in g [] y (z ∷ front) back e = cc
split_in {X} {Y} g (x ∷ xs) y [] back e = let h : ◌≡◌ {A = List Y} (g x ∷ map g xs) (y ∷ back) = e in ([], x, xs, refl, cc, cc)
split_in {X} {Y} g (x ∷ xs) y (z ∷ front) back e =
    let h : ◌≡◌ {A = List Y} (g x ∷ map g xs) (z ∷ (front ++ y ∷ back)) = e in
    let rest : map g xs ≡ front ++ y ∷ back = cc in
    let r = split_in g xs y front back rest in
    (x ∷ r.0, r.1, r.2, ap (λ (l : List X). x ∷ l) r.3, r.4, r.5)

in_mapped : {X Y : Type 0} (g : X → Y) (xs : List X) (x : X) → In x xs → In (g x) (map g xs)
in_mapped g [] x i = absurd i
in_mapped g (z ∷ xs) x (inl same) = inl (ap g same)
in_mapped g (z ∷ xs) x (inr i) = inr (in_mapped g xs x i)

get_mapped : {X Y : Type 0} (g : X → Y) (xs : List X) (i : ℕ) (y : Y) → slice_get (map g xs) i ≡ Some y → (x : X) × (slice_get xs i ≡ Some x) × (y ≡ g x)
get_mapped g [] i y e = cc
get_mapped {X} {Y} g (x ∷ xs) zero y e = let h : ◌≡◌ {A = Option Y} (Some (g x)) (Some y) = e in (x, refl, cc)
get_mapped g (x ∷ xs) (suc i) y e = get_mapped g xs i y e

in_back : {X : Type 0} (front back : List X) (x y : X) → In y back → In y (front ++ x ∷ back)
in_back [] back x y i = inr i
in_back (z ∷ front) back x y i = inr (in_back front back x y i)

in_middle : {X : Type 0} (front back : List X) (x : X) → In x (front ++ x ∷ back)
in_middle [] back x = inl refl
in_middle (z ∷ front) back x = inr (in_middle front back x)

-- ---- a part of the log that isn't looked at

free_log : (deadline : Option Deadline) (line : Option Ancestry) (log : Option WalPart) → needs_log deadline line ≡ false → LogFits deadline line log
free_log (Some (Position at)) line log h = cc
free_log (Some (Moment second)) None log h = (tt, tt)
free_log (Some (Moment second)) (Some a) log h = cc
free_log None None log h = (tt, tt)
free_log None (Some a) log h = cc

-- ---- an ancestry by another source of the bytes

back_by : (P Q : ℕ → Text → Type 0) → ((n : ℕ) (bytes : Text) → P n bytes → Q n bytes) → (n : ℕ) (ancestors : List Ancestor) → GoesBackBy P n ancestors → GoesBackBy Q n ancestors
back_by P Q to n ancestors (inl first) = inl first
back_by P Q to n ancestors (inr (other, (bytes, has, are))) = inr (other, (bytes, to n bytes has, are))

ancestry_by : (P Q : ℕ → Text → Type 0) → ((n : ℕ) (bytes : Text) → P n bytes → Q n bytes) → (o : Option ℕ) (line : Option Ancestry) → IsAncestryBy P o line → IsAncestryBy Q o line
ancestry_by P Q to None line h = h
ancestry_by P Q to (Some n) line (ancestors, is, back) = (ancestors, is, back_by P Q to n ancestors back)

module _ (stanza : Text) (f : Content) (s : Stanza) (now : NowRepresents stanza (Some s) (Some f)) where
  has : HasStanza stanza f s
  has = now.represents f refl

  -- ---- the archive

  current_is : (c : ClusterId) → HasCurrent stanza f c → (d : Cluster) × (at_number (current_number s) s.history ≡ Some d) × (c ≡ identity_of d)
  current_is c (v, pair, at) =
      let same : v ≡ archive_value s = one_archive_pair f (archive_info stanza) v (archive_value s) pair has.archive_pair in
      get_mapped identity_of s.history (current_number s - 1) c (subst (λ (a : ArchiveInfo). at_number a.current a.history ≡ Some c) same at)

  archives : (n : ℕ) (bytes : Text) → HasHistory stanza f n bytes → ArchivesHistory s n bytes
  archives n bytes (fits, (c, current, stores)) =
      let d = current_is c current in (
        d.0,
        d.1,
        got_archived stanza (id_of d.0) (History n) (place_of stanza f s now (History n) fits d.0 (get_in (λ (x : Cluster). x.id) s.history (current_number s - 1) d.0 d.1)) (Some f) bytes
            (subst (λ (x : ClusterId). StoresBytes stanza (id_kept x) (History n) f (sha1 bytes) bytes) d.2 stores) s refl now,
      )

  -- where it lacks a history, the stanza has none archived
  pub lacks : (n : ℕ) → LacksHistory stanza f n → (d : Cluster) × (at_number (current_number s) s.history ≡ Some d) × IsUnarchived (id_of d) (History n) s.archived
  lacks n (fits, (c, current, none)) =
      let d = current_is c current in (
        d.0,
        d.1,
        answer_none stanza (id_of d.0) (History n) (place_of stanza f s now (History n) fits d.0 (get_in (λ (x : Cluster). x.id) s.history (current_number s - 1) d.0 d.1)) {T = Text} (Some f) ⊥ (Err NotFound)
            (subst (λ (x : ClusterId). StoresNone stanza (id_kept x) (History n) f) d.2 none) refl s refl now,
      )

  pub ancestry_is : (o : Option ℕ) (line : Option Ancestry) → HasAncestry stanza f o line → IsAncestryOf s o line
  ancestry_is o line h = ancestry_by (HasHistory stanza f) (ArchivesHistory s) archives o line h

  -- ---- a backup

  -- the list of a stanza that the repository represents
  pub backups_of : (v : BackupInfo) → PairIs IsBackupText f (backup_info stanza) v → v.backups ≡ map (λ (b : Backup). b.entry) s.backups
  backups_of v pair = by has.pending (one_pair IsBackupText one_list f (backup_info stanza) v (backup_value s has.pending) pair has.backup_pair)
    where
      by : (o : Option Cluster) → v ≡ backup_value s o → v.backups ≡ map (λ (b : Backup). b.entry) s.backups
      by None is = ap (λ (w : BackupInfo). w.backups) is
      by (Some c) is = ap (λ (w : BackupInfo). w.backups) is

  -- it has the manifest that was read
  pub manifest_of_one : (b : Backup) → In b s.backups → (label : Label) → b.entry.label ≡ label → (m : Manifest) → HasManifest stanza label m f → IsManifestOf stanza f s b m
  manifest_of_one b listed label is m pair =
      let x = has.manifests b listed in
      let same : x.0 ≡ m = one_pair IsManifestText one_manifest f (manifest_name stanza b.entry.label) x.0 m x.1 (subst (λ (l : Label). IsThere stanza l m f) (sym is) pair.1) in
      subst (λ (n : Manifest). IsManifestOf stanza f s b n) same x.2

  log_is : (b : Backup) → In b s.backups → (P : Option WalPart → Type 0) → OfManifest stanza f b.entry.label P → P b.wal
  log_is b listed P (m, there, p) = subst P (manifest_of_one b listed b.entry.label refl m there).wal p

  module _ (deadline : Option Deadline) (line : Option Ancestry) where
    fits_of : (b : Backup) → In b s.backups → (needs : Bool) → needs_log deadline line ≡ needs → (needs_log deadline line ≡ true → OfManifest stanza f b.entry.label (LogFits deadline line)) → LogFits deadline line b.wal
    fits_of b listed true is h = log_is b listed (LogFits deadline line) (h is)
    fits_of b listed false is h = free_log deadline line b.wal is

    qualifies_of : (b : Backup) → In b s.backups → QualifiesOn stanza f deadline line b.entry → Qualifies deadline line b.entry.stop b.wal
    qualifies_of b listed h = (h.0, fits_of b listed (needs_log deadline line) refl h.1)

    excluded_of : (b : Backup) → In b s.backups → IsExcludedOn stanza f deadline line b.entry → ¬ Qualifies deadline line b.entry.stop b.wal
    excluded_of b listed (inl late) q = late q.0
    excluded_of b listed (inr off) q = log_is b listed (λ log. ¬ LogFits deadline line log) off.1 q.1

    last_of : (entries : List Entry) → entries ≡ map (λ (b : Backup). b.entry) s.backups → (e : Entry) → IsLastOn stanza f deadline line entries e → (b : Backup) × IsLastOf deadline line s.backups b × In b s.backups × (b.entry ≡ e)
    last_of entries same e ((front, back, is, off), q) =
        let r = split_in (λ (b : Backup). b.entry) s.backups e front back (sym same ∙ is) in
        let listed : In r.1 s.backups = subst (λ (l : List Backup). In r.1 l) (sym r.3) (in_middle r.0 r.2 r.1) in (
          r.1,
          (
            r.0,
            r.2,
            r.3,
            qualifies_of r.1 listed (subst (λ (d : Entry). QualifiesOn stanza f deadline line d) (sym r.4) q),
            λ c i. excluded_of c (subst (λ (l : List Backup). In c l) (sym r.3) (in_back r.0 r.2 r.1 c i)) (off c.entry (subst (λ (l : List Entry). In c.entry l) r.5 (in_mapped (λ (b : Backup). b.entry) r.2 c i))),
          ),
          listed,
          r.4,
        )

  -- ---- the chosen one

  pub chosen_of : (choice : Choice) (v : BackupInfo) → PairIs IsBackupText f (backup_info stanza) v → (label : Label) → IsChosen stanza choice f v label → (b : Backup) × IsChosenOf choice s b × In b s.backups × (b.entry.label ≡ label)
  chosen_of (Labelled asked) v pair label h =
      let listed = h.1 in
      let x = map_in (λ (b : Backup). b.entry) s.backups listed.0 (subst (λ (es : List Entry). In listed.0 es) (backups_of v pair) listed.1) in
      let is : x.0.entry.label ≡ label = ap (λ (e : Entry). e.label) (sym x.2) ∙ listed.2 in
      (x.0, (x.1, is ∙ h.0), x.1, is)
  chosen_of (Last bounds) v pair label (line, known, (e, last, is)) =
      let b = last_of bounds.deadline line v.backups (backups_of v pair) e last in
      (b.0, (line, ancestry_is bounds.timeline line known, b.1), b.2, ap (λ (d : Entry). d.label) b.3 ∙ is)
