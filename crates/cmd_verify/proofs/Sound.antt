-- A sound repository whose members agree has no deviation.
use Rattle.std.proofs.Common.{◌≡◌, ◌≢◌, inl, inr, ℕ, ◌+◌, ◌-◌, true, List, [], ◌∷◌, ◌++◌, length, map, take, drop, Option, Some, None, refl, sym, subst, ap, ap₂, ◌∙◌, arith, append_assoc}
use Rattle.std.specs.Prelude.{IsSomeAnd, option_map, slice_range}
use Rattle.std.proofs.lemmas.List.{append_cancel_left}
use Rattle.sha1.specs.Sha1.{sha1}
use Rattle.base_text.specs.Sum.{IsSum, sum_text}
use Rattle.base_text.proofs.Sums.{sum_text-injective}
use Rattle.base_devices.specs.Content.{Value, Content}
use Rattle.base_devices.specs.Order.{is_before}
use Rattle.base_model.specs.declared.labels.Label.{Label}
use Rattle.base_model.specs.declared.clusters.Cluster.{Cluster}
use Rattle.base_model.specs.declared.wal.Segment.{Segment}
use Rattle.base_model.specs.declared.wal.WalPart.{WalPart}
use Rattle.base_model.specs.declared.wal.ArchiveId.{ArchiveId}
use Rattle.base_model.specs.declared.wal.ArchiveName.{ArchiveName}
use Rattle.base_model.specs.declared.wal.ArchiveName.TheVariants.{Segment as Whole, Partial, History, Backup as BackupHistory}
use Rattle.base_model.specs.Text.{Text, In}
use Rattle.base_model.specs.Names.{archive_info, backup_info, manifest_name, copy_of, archive_folder, archive_name}
use Rattle.base_model.specs.Values.{BackupInfo, Entry, FileEntry, Manifest}
use Rattle.base_model.specs.InfoFiles.{IsArchiveText, IsBackupText}
use Rattle.base_model.specs.ManifestText.{IsManifestText}
use Rattle.base_model.specs.Pair.{PairIs}
use Rattle.base_model.specs.Place.{place}
use Rattle.base_model.specs.Repository.{Backup, Archived, Stanza, IsSoundStanza, IsSoundBackup, AreSound, AreApart, IsWithinSpan, id_of}
use Rattle.base_model.specs.Represents.{HasStanza, IsManifestOf, IsArchivePlace, stored_name, backup_value, archive_value}
use Rattle.base_model.specs.Log.{Lists}
use Rattle.archive_lookup.specs.Stored.{archive_path}
use Rattle.archive_lookup.specs.Paths.{has_sum}
use Rattle.archive_lookup.specs.OnlyReads.{file_prefix, sum_digits}
use Rattle.archive_lookup.proofs.OnePath.{one_path}
use Rattle.archive_lookup.proofs.Looked.{with_prefix}
use Rattle.archive_lookup.proofs.Orders.{in_map, from_map, not_itself}
use Rattle.cmd_verify.specs.What.{What, MemberAbsent, MemberBad, MembersDiffer, Absent, Short, Digest, Second, Gap, Reference, Unlike, Contradicts}
use Rattle.cmd_verify.specs.Contradictions.{IsContradiction}
use Rattle.cmd_verify.specs.Findings.{IsText, MemberDeviates, BothDeviate, PairDeviates, OfMain, OfCopy, OfBoth, segment_of, IsStoredName, FileDeviates, part, BytesDeviate, EntryDeviates, SpanDeviates, ReferenceDeviates, ManifestDeviates, OfEntry, OfSpan, OfReference, BackupDeviates, OfMembers, OfManifest, IsFinding, OfArchivePair, OfBackupPair, OfFile, OfBackup, OfListed, OfContradiction, EntryIsUnlike}
use Rattle.base_model.proofs.Pushed.{in_left}
use Rattle.cmd_verify.specs.Clean.{AgreeAt, MembersAgree}
use Rattle.cmd_verify.proofs.Values.{IsOfOne}
use Rattle.cmd_verify.proofs.Values.{not_none, some_at, if_at, value_of, some_of, is_some, same_some}

-- ---- a pair

module _ {V : Type 0} (IsTextOf : V → Text → Type 0) (f : Content) (main : Text) where
  -- members that agree have the pair's value, both
  pub both : (v : V) → PairIs IsTextOf f main v → AgreeAt f main → (bytes : Text) × (f main ≡ Some bytes) × (f (copy_of main) ≡ Some bytes) × IsTextOf v bytes
  both v (inl m) agree = (m.0, m.1, agree.0 ∙ m.1, m.2)
  both v (inr m) agree = let c = m.1 in (c.0, sym agree.0 ∙ c.1, c.1, c.2)

  -- a pair has one value
  pub one_value : IsOfOne IsTextOf → (v w : V) → PairIs IsTextOf f main v → PairIs IsTextOf f main w → v ≡ w
  one_value one v w (inl p) (inl q) = one v w p.0 p.2 (subst (λ t. IsTextOf w t) (same_some (f main) q.0 p.0 q.1 p.1) q.2)
  one_value one v w (inl p) (inr q) = absurd (q.0 v p)
  one_value one v w (inr p) (inl q) = absurd (p.0 w q)
  one_value one v w (inr p) (inr q) = let x = p.1 in let y = q.1 in one v w x.0 x.2 (subst (λ t. IsTextOf w t) (same_some (f (copy_of main)) y.0 x.0 y.1 x.1) y.2)

  clean_member : (at : Text) (v : V) (bytes : Text) → f at ≡ Some bytes → IsTextOf v bytes → (name : Text) (what : What) → ¬ MemberDeviates IsTextOf f at name what
  clean_member at v bytes is text name MemberAbsent d = not_none (f at) bytes is d.1
  clean_member at v bytes is text name MemberBad d = some_at (λ t. ¬ IsText IsTextOf t) (f at) bytes is d.1 (v, text)
  clean_member at v bytes is text name MembersDiffer d = d
  clean_member at v bytes is text name Absent d = d
  clean_member at v bytes is text name (Short known found) d = d
  clean_member at v bytes is text name (Digest known found) d = d
  clean_member at v bytes is text name (Second s) d = d
  clean_member at v bytes is text name (Gap s) d = d
  clean_member at v bytes is text name (Reference l) d = d
  clean_member at v bytes is text name Unlike d = d
  clean_member at v bytes is text name (Contradicts t) d = d

  clean_both : (bytes : Text) → f main ≡ Some bytes → f (copy_of main) ≡ Some bytes → (name : Text) (what : What) → ¬ BothDeviate IsTextOf f main name what
  clean_both bytes is same name MembersDiffer d =
      let x = some_at (λ a. IsSomeAnd (f (copy_of main)) (λ c. IsText IsTextOf a × IsText IsTextOf c × (a ≢ c))) (f main) bytes is d.1 in
      let y = some_at (λ c. IsText IsTextOf bytes × IsText IsTextOf c × (bytes ≢ c)) (f (copy_of main)) bytes same x in
      y.2 refl
  clean_both bytes is same name MemberAbsent d = d
  clean_both bytes is same name MemberBad d = d
  clean_both bytes is same name Absent d = d
  clean_both bytes is same name (Short known found) d = d
  clean_both bytes is same name (Digest known found) d = d
  clean_both bytes is same name (Second s) d = d
  clean_both bytes is same name (Gap s) d = d
  clean_both bytes is same name (Reference l) d = d
  clean_both bytes is same name Unlike d = d
  clean_both bytes is same name (Contradicts t) d = d

  pub clean_pair : (v : V) → PairIs IsTextOf f main v → AgreeAt f main → (name : Text) (what : What) → ¬ PairDeviates IsTextOf f main name what
  clean_pair v p agree name what (OfMain d) = let b = both v p agree in clean_member main v b.0 b.1 b.3 name what d
  clean_pair v p agree name what (OfCopy d) = let b = both v p agree in clean_member (copy_of main) v b.0 b.2 b.3 name what d
  clean_pair v p agree name what (OfBoth d) = let b = both v p agree in clean_both b.0 b.1 b.2 name what d

-- ---- the archive

pub summed : (file : ArchiveName) (s : Segment) → segment_of file ≡ Some s → has_sum file ≡ true
summed (Whole k) s e = refl
summed (Partial k) s e = refl
summed (History t) s e = cc e
summed (BackupHistory k o) s e = cc e

-- a name with a sum states it
pub one_sum : (stanza : Text) (id : ArchiveId) (file : ArchiveName) (s t : Text) → has_sum file ≡ true → IsSum s → IsSum t → archive_path stanza id file s ≡ archive_path stanza id file t → s ≡ t
one_sum stanza id file s t on ps pt e =
    let digits : sum_digits (has_sum file) s ≡ sum_digits (has_sum file) t = append_cancel_left (file_prefix stanza id file) _ _ (sym (with_prefix stanza id file s) ∙ e ∙ with_prefix stanza id file t) in
    sum_text-injective s t ps pt (subst (λ b. sum_digits b s ≡ sum_digits b t) on digits)

-- one of files that are apart
one_file : (files : List Archived) → AreApart files → (a b : Archived) → In a files → In b files → b.id ≡ a.id → b.name ≡ a.name → a ≡ b
one_file [] apart a b p q i n = absurd p
one_file (x ∷ xs) apart a b (inl p) (inl q) i n = p ∙ sym q
one_file (x ∷ xs) apart a b (inl p) (inr q) i n = absurd (apart.0 b q (subst (λ k. b.id ≡ k.id) p i, subst (λ k. b.name ≡ k.name) p n))
one_file (x ∷ xs) apart a b (inr p) (inl q) i n = absurd (apart.0 a p (subst (λ k. a.id ≡ k.id) q (sym i), subst (λ k. a.name ≡ k.name) q (sym n)))
one_file (x ∷ xs) apart a b (inr p) (inr q) i n = one_file xs apart.1 a b p q i n

module _ (stanza : Text) (f : Content) (s : Stanza) (h : HasStanza stanza f s) where
  -- what is stored at a name is archived, and the name is its own
  held : (id : ArchiveId) (file : ArchiveName) (segment : Segment) (sum name bytes : Text) → IsStoredName stanza id file segment sum name → f name ≡ Some bytes
      → (a : Archived) × In a s.archived × (a.id ≡ id) × (a.name ≡ file) × (sum ≡ sha1 a.bytes) × (bytes ≡ a.bytes)
  held id file segment sum name bytes stored lies =
      let x = (h.archived name bytes (record { id = id; file = file; sum = sum; fits = stored.fits; is = stored.is })).0 lies in
      let a = x.0 in
      let fits = h.named a x.1 in
      let path : archive_path stanza a.id a.name (sha1 a.bytes) ≡ archive_path stanza id file sum = sym x.2 ∙ stored.is in
      let same = one_path (archive_folder stanza ++ 47 ∷ []) a.id id a.name file (sha1 a.bytes) sum fits stored.fits
      (append_assoc (archive_folder stanza) (47 ∷ []) _ ∙ path ∙ sym (append_assoc (archive_folder stanza) (47 ∷ []) _)) in
      let own : archive_path stanza id file (sha1 a.bytes) ≡ archive_path stanza id file sum =
      sym (ap₂ (λ (i : ArchiveId) (n : ArchiveName). archive_path stanza i n (sha1 a.bytes)) same.0 same.1) ∙ path in
      (a, x.1, same.0, same.1, one_sum stanza id file sum (sha1 a.bytes) (summed file segment stored.whole_or_part) stored.fits.digest fits.digest (sym own), x.3)

  clean_file : AreApart s.archived → (name : Text) (what : What) → ¬ FileDeviates stanza f name what
  clean_file apart name (Digest known found) d =
      let l = value_of (λ b. sha1 b ≡ found) (f name) d.lies in
      let a = held d.id d.file d.segment known name l.0 d.stored l.1 in
      d.other (sym l.2 ∙ ap sha1 a.5 ∙ sym a.4)
  clean_file apart name (Second segment) d =
      let l = some_of (f name) d.there in
      let k = some_of (f d.first) d.first_there in
      let a = held d.id d.file segment d.sum name l.0 d.stored l.1 in
      let b = held d.id d.file segment d.first_sum d.first k.0 d.first_stored k.1 in
      let same : a.0 ≡ b.0 = one_file s.archived apart a.0 b.0 a.1 b.1 (b.2 ∙ sym a.2) (b.3 ∙ sym a.3) in
      let sums : d.first_sum ≡ d.sum = b.4 ∙ sym (ap (λ (x : Archived). sha1 x.bytes) same) ∙ sym a.4 in
      let names : d.first ≡ name = d.first_stored.is ∙ ap (archive_path stanza d.id d.file) sums ∙ sym d.stored.is in
      not_itself name (subst (λ n. is_before n name ≡ true) names d.before)
  clean_file apart name MemberAbsent d = d
  clean_file apart name MemberBad d = d
  clean_file apart name MembersDiffer d = d
  clean_file apart name Absent d = d
  clean_file apart name (Short known found) d = d
  clean_file apart name (Gap k) d = d
  clean_file apart name (Reference l) d = d
  clean_file apart name Unlike d = d
  clean_file apart name (Contradicts t) d = d

-- ---- a backup

sound_at : (s : Stanza) (earlier bs : List Backup) → AreSound s earlier bs → (b : Backup) → In b bs → (before : List Backup) × IsSoundBackup s before b
sound_at s earlier [] are b at = absurd at
sound_at s earlier (c ∷ bs) are b (inl e) = (earlier, subst (λ k. IsSoundBackup s earlier k) (sym e) are.0)
sound_at s earlier (c ∷ bs) are b (inr at) = sound_at s (earlier ++ c ∷ []) bs are.1 b at

-- bytes that lie at their place deviate in nothing
clean_bytes : (v : Value) (at : ℕ) (whole bytes sum : Text) (size : ℕ) → v ≡ Some whole → slice_range whole at (at + length bytes) ≡ bytes → size ≡ length bytes → sum ≡ sha1 bytes → (what : What) → ¬ BytesDeviate v at size sum what
clean_bytes v at whole bytes sum size is lies long digest what d = by what (subst (λ k. BytesDeviate k at size sum what) is d)
  where
    count : (at + length bytes) - at ≡ size
    count = omega (arith, long)

    here : part whole at size ≡ bytes
    here = ap (λ k. take k (drop at whole)) (sym count) ∙ lies

    by : (what : What) → BytesDeviate (Some whole) at size sum what → ⊥
    by (Short known found) d = let e : found ≡ size = d.1 ∙ ap length here ∙ sym long in let lt = d.2 in omega (arith, e, lt)
    by (Digest known found) d = d.3 (d.2 ∙ ap sha1 here ∙ sym digest ∙ sym d.1)
    by MemberAbsent d = d
    by MemberBad d = d
    by MembersDiffer d = d
    by Absent d = d
    by (Second k) d = d
    by (Gap k) d = d
    by (Reference l) d = d
    by Unlike d = d
    by (Contradicts t) d = d

module _ (stanza : Text) (f : Content) (s : Stanza) (h : HasStanza stanza f s) (sound : IsSoundStanza s) (agree : MembersAgree stanza f s)
    (one_backup : IsOfOne IsBackupText) (one_manifest : IsOfOne IsManifestText) (consistent : (name : Text) (what : What) → ¬ IsContradiction stanza f name what) where
  abbrev value : BackupInfo
  value = backup_value s h.pending

  -- a backup of the repository is listed
  entries : (p : Option Cluster) → (backup_value s p).backups ≡ map (λ (b : Backup). b.entry) s.backups
  entries None = refl
  entries (Some c) = refl

  lists : (b : Backup) → In b s.backups → Lists stanza f b.entry.label
  lists b at = (value, h.backup_pair, (b.entry, subst (λ es. In b.entry es) (sym (entries h.pending)) (in_map (λ (b : Backup). b.entry) s.backups b at), refl))

  -- and a listed one is of the repository
  listed : (l : Label) → Lists stanza f l → (b : Backup) × In b s.backups × (l ≡ b.entry.label)
  listed l k =
      let same : k.0 ≡ value = one_value IsBackupText f (backup_info stanza) one_backup k.0 value k.1 h.backup_pair in
      let e = k.2 in
      let among : In e.0 (map (λ (b : Backup). b.entry) s.backups) = subst (λ es. In e.0 es) (ap (λ (v : BackupInfo). v.backups) same ∙ entries h.pending) e.1 in
      let b = from_map (λ (b : Backup). b.entry) s.backups e.0 among in
      (b.0, b.1, sym e.2 ∙ ap (λ (x : Entry). x.label) b.2)

  module _ (b : Backup) (at : In b s.backups) where
    abbrev own : Label
    own = b.entry.label

    clean_span : (m : Manifest) → IsManifestOf stanza f s b m → (name : Text) (what : What) → ¬ SpanDeviates stanza f own m name what
    clean_span m is name (Gap k) d =
        let w = value_of (λ w. IsWithinSpan w.size.0 w.span k) m.wal d.1 in
        let segments = if_at (λ (w : WalPart). (segment : Segment) (c : Cluster) → In c s.history → c.id ≡ b.entry.db → IsWithinSpan w.size.0 w.span segment →
        (a : Archived) × In a s.archived × (a.id ≡ id_of c) × (a.name ≡ Whole segment)) b.wal w.0 (sym is.wal ∙ w.1) (sound_at s [] s.backups sound.backups b at).1.segments in
        let a = segments k m.cluster is.cluster.0 is.cluster.1 w.2 in
        let name_is : stored_name stanza a.0 ≡ archive_name stanza (id_of m.cluster) (Whole k) (sum_text (sha1 a.0.bytes)) =
        ap₂ (λ (i : ArchiveId) (n : ArchiveName). archive_path stanza i n (sha1 a.0.bytes)) a.2 a.3 in
        let fits = h.named a.0 a.1 in
        let there = (h.archived (stored_name stanza a.0) a.0.bytes (record { id = a.0.id; file = a.0.name; sum = sha1 a.0.bytes; fits = fits; is = refl })).1 (a.0, a.1, refl, refl) in
        d.2 (
          sha1 a.0.bytes,
          stored_name stanza a.0,
          record {
            fits = subst (λ (i : ArchiveId). IsArchivePlace i (Whole k) (sha1 a.0.bytes)) a.2 (subst (λ (n : ArchiveName). IsArchivePlace a.0.id n (sha1 a.0.bytes)) a.3 fits);
            whole_or_part = refl;
            is = name_is;
          },
          is_some (f (stored_name stanza a.0)) a.0.bytes there,
        )
    clean_span m is name MemberAbsent d = d
    clean_span m is name MemberBad d = d
    clean_span m is name MembersDiffer d = d
    clean_span m is name Absent d = d
    clean_span m is name (Short known found) d = d
    clean_span m is name (Digest known found) d = d
    clean_span m is name (Second k) d = d
    clean_span m is name (Reference l) d = d
    clean_span m is name Unlike d = d
    clean_span m is name (Contradicts t) d = d

    clean_reference : (m : Manifest) → IsManifestOf stanza f s b m → (name : Text) (what : What) → ¬ ReferenceDeviates stanza f own m name what
    clean_reference m is name (Reference l) d =
        let model = (is.ancestors l ((is.references l).1 d.1)).1 in
        d.2 (subst (λ k. Lists stanza f k) model.2 (lists model.0 model.1))
    clean_reference m is name MemberAbsent d = d
    clean_reference m is name MemberBad d = d
    clean_reference m is name MembersDiffer d = d
    clean_reference m is name Absent d = d
    clean_reference m is name (Short known found) d = d
    clean_reference m is name (Digest known found) d = d
    clean_reference m is name (Second k) d = d
    clean_reference m is name (Gap k) d = d
    clean_reference m is name Unlike d = d
    clean_reference m is name (Contradicts t) d = d

    clean_entry : (m : Manifest) → IsManifestOf stanza f s b m → (e : FileEntry) → In e m.files → (name : Text) (what : What) → ¬ EntryDeviates stanza f own e name what
    clean_entry m is e among name what d =
        let x = is.files e among in
        let file = x.0 in
        let lies = x.2.stored d.filled in
        clean_bytes (f name) (place stanza own e).1 lies.0 file.bytes e.sum e.size (ap f d.is ∙ lies.1) lies.2 x.2.size x.2.sum what d.deviates

    clean_manifest : (m : Manifest) → IsManifestOf stanza f s b m → (name : Text) (what : What) → ¬ ManifestDeviates stanza f own m name what
    clean_manifest m is name what (OfEntry e among d) = clean_entry m is e among name what d
    clean_manifest m is name what (OfSpan d) = clean_span m is name what d
    clean_manifest m is name what (OfReference d) = clean_reference m is name what d

    clean_backup : (name : Text) (what : What) → ¬ BackupDeviates stanza f own name what
    clean_backup name what (OfMembers d) = let m = h.manifests b at in clean_pair IsManifestText f (manifest_name stanza own) m.0 m.1 (agree.manifests b at) name what d
    clean_backup name what (OfManifest m p d) =
        let k = h.manifests b at in
        let same : k.0 ≡ m = one_value IsManifestText f (manifest_name stanza own) one_manifest k.0 m k.1 p in
        clean_manifest m (subst (λ (n : Manifest). IsManifestOf stanza f s b n) same k.2) name what d

  clean_listed : (p : Option Cluster) (b : Backup) → In b s.backups → (name : Text) (what : What) → ¬ EntryIsUnlike stanza f (backup_value s p).history b.entry name what
  clean_listed p b at name Unlike d =
      let k = h.manifests b at in
      let m = d.1.0 in
      let same : k.0 ≡ m = one_value IsManifestText f (manifest_name stanza b.entry.label) one_manifest k.0 m k.1 d.1.1 in
      let is = subst (λ (n : Manifest). IsManifestOf stanza f s b n) same k.2 in
      d.1.2 (record {
        label = is.label;
        kind = is.kind;
        prior = is.prior;
        start = is.start;
        stop = is.stop;
        cluster = (of_history p m.cluster is.cluster.0, is.cluster.1);
        span = ap (option_map (λ (w : WalPart). w.span)) is.wal ∙ sym (sound_at s [] s.backups sound.backups b at).1.span;
        references = is.references;
      })
    where
      of_history : (p : Option Cluster) (c : Cluster) → In c s.history → In c (backup_value s p).history
      of_history None c at = at
      of_history (Some k) c at = in_left c s.history (k ∷ []) at
  clean_listed p b at name MemberAbsent d = d
  clean_listed p b at name MemberBad d = d
  clean_listed p b at name MembersDiffer d = d
  clean_listed p b at name Absent d = d
  clean_listed p b at name (Short known found) d = d
  clean_listed p b at name (Digest known found) d = d
  clean_listed p b at name (Second k) d = d
  clean_listed p b at name (Gap k) d = d
  clean_listed p b at name (Reference l) d = d
  clean_listed p b at name (Contradicts t) d = d

  -- nothing deviates
  pub clean : (name : Text) (what : What) → ¬ IsFinding stanza f name what
  clean name what (OfContradiction d) = consistent name what d
  clean name what (OfArchivePair d) = clean_pair IsArchiveText f (archive_info stanza) (archive_value s) h.archive_pair agree.archive name what d
  clean name what (OfBackupPair d) = clean_pair IsBackupText f (backup_info stanza) value h.backup_pair agree.backup name what d
  clean name what (OfFile d) = clean_file stanza f s h sound.apart name what d
  clean name what (OfBackup own k d) =
      let b = listed own k in
      clean_backup b.0 b.1 name what (subst (λ (l : Label). BackupDeviates stanza f l name what) b.2 d)
  clean name what (OfListed v p e at d) =
      let same : v ≡ value = one_value IsBackupText f (backup_info stanza) one_backup v value p h.backup_pair in
      let among : In e (map (λ (b : Backup). b.entry) s.backups) = subst (λ es. In e es) (ap (λ (w : BackupInfo). w.backups) same ∙ entries h.pending) at in
      let b = from_map (λ (b : Backup). b.entry) s.backups e among in
      clean_listed h.pending b.0 b.1 name what
      (subst (λ (x : Entry). EntryIsUnlike stanza f value.history x name what) b.2 (subst (λ (w : BackupInfo). EntryIsUnlike stanza f w.history e name what) same d))
