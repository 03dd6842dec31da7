-- The findings of the parts are those of the whole.
use Rattle.std.proofs.Common.{◌≡◌, ◌↔◌, ⊎_elim, inl, inr, ℕ, List, [], ◌∷◌, ◌++◌, length, map, Option, Some, None, refl, sym, ◌∙◌, subst}
use Rattle.std.specs.Prelude.{IfSome}
use Rattle.std.specs.List.Sorted.{IsStrictlySortedBy}
use Rattle.base_devices.specs.Content.{Content}
use Rattle.base_model.specs.declared.clusters.Cluster.{Cluster}
use Rattle.base_model.specs.declared.clusters.ArchiveInfo.{ArchiveInfo as RustArchive}
use Rattle.base_model.specs.declared.clusters.BackupInfo.{BackupInfo as RustBackup}
use Rattle.base_model.specs.declared.labels.Label.{Label}
use Rattle.base_model.specs.declared.files.Manifest.{Manifest as RustManifest}
use Rattle.base_model.specs.declared.files.FileEntry.{FileEntry as RustEntry}
use Rattle.archive_lookup.specs.declared.stored.files.Stored.{Stored}
use Rattle.archive_lookup.specs.Stored.{AreStored}
use Rattle.cmd_verify.specs.Members.{ValueSo}
use Rattle.base_model.specs.Text.{Text, In}
use Rattle.base_model.specs.Names.{archive_info, backup_info, manifest_name}
use Rattle.base_model.specs.Values.{BackupInfo, Entry, Manifest, file_entry_of, manifest_of, archive_info_of, backup_info_of}
use Rattle.base_model.specs.InfoFiles.{IsArchiveText, IsBackupText, IsLabel, IsBackupInfo, AreListed}
use Rattle.base_model.specs.ManifestText.{IsManifestText, IsManifest}
use Rattle.base_model.specs.Pair.{PairIs}
use Rattle.base_model.specs.Log.{Lists}
use Rattle.archive_lookup.proofs.Orders.{in_map, from_map}
use Rattle.cmd_verify.specs.declared.findings.finding.Finding.{Finding}
use Rattle.cmd_verify.specs.What.{What, MemberAbsent, MemberBad, MembersDiffer, Absent, Short, Digest, Second, Gap, Reference, Unlike, Contradicts, Shows}
use Rattle.cmd_verify.specs.Findings.{PairDeviates, FileDeviates, EntryDeviates, SpanDeviates, ReferenceDeviates, ManifestDeviates, OfEntry, OfSpan, OfReference, BackupDeviates, OfMembers, OfManifest, IsFinding, OfArchivePair, OfBackupPair, OfFile, OfBackup, OfListed, OfContradiction, EntryIsUnlike, ListedDeviates}
use Rattle.cmd_verify.specs.References.{AreUnlisted, RefersTo}
use Rattle.cmd_verify.specs.Adding.{Adds, AddsMost, OfSome, Never}
use Rattle.cmd_verify.specs.Clean.{MembersAgree}
use Rattle.cmd_verify.proofs.Values.{IsOfOne}
use Rattle.cmd_verify.specs.Exact.{AreFindings, AreAlike, finding_cmp, PairsDeviate}
use Rattle.cmd_verify.specs.Sharing.{OwnEntryDeviates, OwnDeviates, IsElsewhere}
use Rattle.cmd_verify.proofs.Adding.{Either, adds_on, adds_as}
use Rattle.cmd_verify.proofs.Most.{most_of, most_as, most_on, most_all}
use Rattle.cmd_verify.proofs.Sound.{one_value, clean}
use Rattle.cmd_verify.proofs.Consistent.{consistent}
use Rattle.cmd_verify.specs.declared.findings.whole_check.PairsRead.{PairsRead}
use Rattle.cmd_verify.specs.Contradictions.{IsContradiction, OfHistories, OfArchived, OfContradicting, HistoriesContradict, FileContradicts, EntryContradicts}
use Rattle.cmd_verify.specs.PairsRead.{HavePairsRead}
use Rattle.cmd_verify.proofs.Values.{if_at}
use Rattle.base_model.specs.Repository.{Stanza, IsSoundStanza}
use Rattle.base_model.specs.Represents.{HasStanza}

-- ---- one backup

module _ (stanza : Text) (f : Content) (v : BackupInfo) (one : IsOfOne IsBackupText) (pair : PairIs IsBackupText f (backup_info stanza) v) where
  pub is_listed : (l : Label) → Lists stanza f l → (e : Entry) × In e v.backups × (e.label ≡ l)
  is_listed l k =
      let same : k.0 ≡ v = one_value IsBackupText f (backup_info stanza) one k.0 v k.1 pair in
      let e = k.2 in (e.0, subst (λ (w : BackupInfo). In e.0 w.backups) same e.1, e.2)

  pub lists : (l : Label) (e : Entry) → In e v.backups → e.label ≡ l → Lists stanza f l
  lists l e at is = (v, pair, (e, at, is))

  -- so the labels of the value are those that are listed
  pub labels_listed : (l : Label) → In l (map (λ (e : Entry). e.label) v.backups) ↔ Lists stanza f l
  labels_listed l = (
    λ at. let e = from_map (λ (e : Entry). e.label) v.backups l at in lists l e.0 e.1 (sym e.2),
    λ k. let e = is_listed l k in subst (λ (x : Label). In x (map (λ (e : Entry). e.label) v.backups)) e.2 (in_map (λ (e : Entry). e.label) v.backups e.0 e.1),
  )

module _ (stanza : Text) (f : Content) (labels : List Label) (listed : (l : Label) → In l labels ↔ Lists stanza f l) (own : Label) (m : Manifest) where
  to_reference : (name : Text) (what : What) → AreUnlisted (manifest_name stanza own) m.files labels name what → ReferenceDeviates stanza f own m name what
  to_reference name (Reference l) h = (h.0, h.1, λ k. h.2 ((listed l).1 k))
  to_reference name MemberAbsent h = h
  to_reference name MemberBad h = h
  to_reference name MembersDiffer h = h
  to_reference name Absent h = h
  to_reference name (Short t n) h = h
  to_reference name (Digest t n) h = h
  to_reference name (Second s) h = h
  to_reference name (Gap s) h = h
  to_reference name Unlike h = h
  to_reference name (Contradicts t) h = h

  from_reference : (name : Text) (what : What) → ReferenceDeviates stanza f own m name what → AreUnlisted (manifest_name stanza own) m.files labels name what
  from_reference name (Reference l) h = (h.0, h.1, λ k. h.2 ((listed l).0 k))
  from_reference name MemberAbsent h = h
  from_reference name MemberBad h = h
  from_reference name MembersDiffer h = h
  from_reference name Absent h = h
  from_reference name (Short t n) h = h
  from_reference name (Digest t n) h = h
  from_reference name (Second s) h = h
  from_reference name (Gap s) h = h
  from_reference name Unlike h = h
  from_reference name (Contradicts t) h = h

  pub references_add : (a b : List Finding) → Adds (AreUnlisted (manifest_name stanza own) m.files labels) a b → Adds (ReferenceDeviates stanza f own m) a b
  references_add a b p = adds_as (AreUnlisted (manifest_name stanza own) m.files labels) (ReferenceDeviates stanza f own m) a b to_reference from_reference p

module _ (stanza : Text) (f : Content) (own : Label) where
  -- of no manifest
  pub backup_unread : ((m : Manifest) → ¬ PairIs IsManifestText f (manifest_name stanza own) m) → (a b : List Finding) → Adds (PairDeviates IsManifestText f (manifest_name stanza own)) a b → AddsMost (BackupDeviates stanza f own) (OwnDeviates stanza f own) (IsElsewhere stanza f) a b
  backup_unread none a b p = most_of (BackupDeviates stanza f own) (OwnDeviates stanza f own) (IsElsewhere stanza f) a b (λ name what h. absurd (none h.0 h.1))
      (adds_as (PairDeviates IsManifestText f (manifest_name stanza own)) (BackupDeviates stanza f own) a b (λ name what h. OfMembers h) back p)
    where
      back : (name : Text) (what : What) → BackupDeviates stanza f own name what → PairDeviates IsManifestText f (manifest_name stanza own) name what
      back name what (OfMembers h) = h
      back name what (OfManifest m pair h) = absurd (none m pair)

  -- of a manifest
  module _ (m : Manifest) (pair : PairIs IsManifestText f (manifest_name stanza own) m) (one : IsOfOne IsManifestText) where
    abbrev Parts : Text → What → Type 0
    Parts = Either (PairDeviates IsManifestText f (manifest_name stanza own)) (Either (OfSome (EntryDeviates stanza f own) m.files) (Either (SpanDeviates stanza f own m) (ReferenceDeviates stanza f own m)))

    to : (name : Text) (what : What) → Parts name what → BackupDeviates stanza f own name what
    to name what (inl h) = OfMembers h
    to name what (inr (inl h)) = OfManifest m pair (OfEntry h.0 h.1 h.2)
    to name what (inr (inr (inl h))) = OfManifest m pair (OfSpan h)
    to name what (inr (inr (inr h))) = OfManifest m pair (OfReference h)

    of : (name : Text) (what : What) → ManifestDeviates stanza f own m name what → Parts name what
    of name what (OfEntry e at h) = inr (inl (e, at, h))
    of name what (OfSpan h) = inr (inr (inl h))
    of name what (OfReference h) = inr (inr (inr h))

    back : (name : Text) (what : What) → BackupDeviates stanza f own name what → Parts name what
    back name what (OfMembers h) = inl h
    back name what (OfManifest n p h) = of name what (subst (λ (k : Manifest). ManifestDeviates stanza f own k name what) (one_value IsManifestText f (manifest_name stanza own) one n m p pair) h)

    abbrev Owns : Text → What → Type 0
    Owns = Either Never (Either (OfSome (OwnEntryDeviates stanza f own) m.files) Never)

    of_own : (name : Text) (what : What) → OwnDeviates stanza f own name what → Owns name what
    of_own name what h = inr (inl (subst (λ (k : Manifest). OfSome (OwnEntryDeviates stanza f own) k.files name what) (one_value IsManifestText f (manifest_name stanza own) one h.0 m h.1 pair) h.2))

    pub backup_read : (a b c d e : List Finding) → Adds (PairDeviates IsManifestText f (manifest_name stanza own)) a b
        → AddsMost (OfSome (EntryDeviates stanza f own) m.files) (OfSome (OwnEntryDeviates stanza f own) m.files) (IsElsewhere stanza f) b c → Adds (SpanDeviates stanza f own m) c d
        → Adds (ReferenceDeviates stanza f own m) d e → AddsMost (BackupDeviates stanza f own) (OwnDeviates stanza f own) (IsElsewhere stanza f) a e
    backup_read a b c d e p q r s =
        let E = IsElsewhere stanza f in
        let M = PairDeviates IsManifestText f (manifest_name stanza own) in
        let N = OfSome (EntryDeviates stanza f own) m.files in
        let R = Either (SpanDeviates stanza f own m) (ReferenceDeviates stanza f own m) in
        most_as Parts (BackupDeviates stanza f own) Owns (OwnDeviates stanza f own) E a e to back of_own
        (most_on M (Either N R) Never (Either (OfSome (OwnEntryDeviates stanza f own) m.files) Never) E a b e (most_of M Never E a b (λ name what h. absurd h) p)
        (most_on N R (OfSome (OwnEntryDeviates stanza f own) m.files) Never E b c e q
        (most_of R Never E c e (λ name what h. absurd h) (adds_on (SpanDeviates stanza f own m) (ReferenceDeviates stanza f own m) c d e r s))))

-- where what the disk holds is known
module _ (stanza : Text) (own : Label) (o : Option Content) (name : Text) (name_is : name ≡ manifest_name stanza own) (read : Option RustManifest)
    (value : IfSome o (λ f. ValueSo IsManifestText manifest_of f name read)) (a b : List Finding) (members : IfSome o (λ f. Adds (PairDeviates IsManifestText f name) a b)) where
  pub unread_known : read ≡ None → IfSome o (λ f. AddsMost (BackupDeviates stanza f own) (OwnDeviates stanza f own) (IsElsewhere stanza f) a b)
  unread_known none = by o value members
    where
      by : (o : Option Content) → IfSome o (λ f. ValueSo IsManifestText manifest_of f name read) → IfSome o (λ f. Adds (PairDeviates IsManifestText f name) a b) → IfSome o (λ f. AddsMost (BackupDeviates stanza f own) (OwnDeviates stanza f own) (IsElsewhere stanza f) a b)
      by None v p = tt
      by (Some f) v p = backup_unread stanza f own
          (subst (λ (r : Option RustManifest). ValueSo IsManifestText manifest_of f (manifest_name stanza own) r) none (subst (λ (n : Text). ValueSo IsManifestText manifest_of f n read) name_is v))
          a b (subst (λ (n : Text). Adds (PairDeviates IsManifestText f n) a b) name_is p)

  pub read_as_known : (m : RustManifest) → read ≡ Some m → IsOfOne IsManifestText → (p : Option Content) → p ≡ o → (files : List RustEntry) → files ≡ m.files.items → (stored : List Stored) (labels : List Label) (c d e : List Finding)
      → IfSome o (λ f. AreStored stanza f stored) → IfSome o (λ f. (l : Label) → In l labels ↔ Lists stanza f l)
      → IfSome p (λ f. AddsMost (OfSome (EntryDeviates stanza f own) (map file_entry_of files)) (OfSome (OwnEntryDeviates stanza f own) (map file_entry_of files)) (IsElsewhere stanza f) b c)
      → ((f : Content) → AreStored stanza f stored → Adds (SpanDeviates stanza f own (manifest_of m)) c d)
      → (at : Text) → at ≡ name → (others : List RustEntry) → others ≡ m.files.items → Adds (AreUnlisted at (map file_entry_of others) labels) d e → IfSome o (λ f. AddsMost (BackupDeviates stanza f own) (OwnDeviates stanza f own) (IsElsewhere stanza f) a e)
  read_as_known m some one p same files files_are stored labels c d e are listed q r at at_is others others_are s = by o p same value members are listed q
    where
      by : (o p : Option Content) → p ≡ o → IfSome o (λ f. ValueSo IsManifestText manifest_of f name read) → IfSome o (λ f. Adds (PairDeviates IsManifestText f name) a b)
          → IfSome o (λ f. AreStored stanza f stored) → IfSome o (λ f. (l : Label) → In l labels ↔ Lists stanza f l) → IfSome p (λ f. AddsMost (OfSome (EntryDeviates stanza f own) (map file_entry_of files)) (OfSome (OwnEntryDeviates stanza f own) (map file_entry_of files)) (IsElsewhere stanza f) b c)
          → IfSome o (λ f. AddsMost (BackupDeviates stanza f own) (OwnDeviates stanza f own) (IsElsewhere stanza f) a e)
      by None p same v x are listed q = tt
      by (Some f) p same v x are listed q =
          let pair : PairIs IsManifestText f (manifest_name stanza own) (manifest_of m) =
          subst (λ (r : Option RustManifest). ValueSo IsManifestText manifest_of f (manifest_name stanza own) r) some (subst (λ (n : Text). ValueSo IsManifestText manifest_of f n read) name_is v) in
          let entries : AddsMost (OfSome (EntryDeviates stanza f own) (map file_entry_of files)) (OfSome (OwnEntryDeviates stanza f own) (map file_entry_of files)) (IsElsewhere stanza f) b c =
          let Q : Option Content → Type 0 = λ o. IfSome o (λ f. AddsMost (OfSome (EntryDeviates stanza f own) (map file_entry_of files)) (OfSome (OwnEntryDeviates stanza f own) (map file_entry_of files)) (IsElsewhere stanza f) b c) in let here : Q (Some f) = subst Q same q in here in
          let unlisted = subst (λ (l : List RustEntry). Adds (AreUnlisted (manifest_name stanza own) (map file_entry_of l) labels) d e) others_are (subst (λ (n : Text). Adds (AreUnlisted n (map file_entry_of others) labels) d e) (at_is ∙ name_is) s) in
          backup_read stanza f own (manifest_of m) pair one a b c d e (subst (λ (n : Text). Adds (PairDeviates IsManifestText f n) a b) name_is x)
          (subst (λ (l : List RustEntry). AddsMost (OfSome (EntryDeviates stanza f own) (map file_entry_of l)) (OfSome (OwnEntryDeviates stanza f own) (map file_entry_of l)) (IsElsewhere stanza f) b c) files_are entries) (r f are)
          (references_add stanza f labels listed own (manifest_of m) d e unlisted)

-- the labels that a manifest's files refer to have digits
pub label_of : (m : Manifest) → IsManifest m → (l : Label) → RefersTo m.files l → IsLabel l
label_of m rules l r = if_at IsLabel r.0.reference l r.2 (rules.files r.0 r.1).reference

listed_labels : (n : ℕ) (earlier es : List Entry) → AreListed n earlier es → (l : Label) → In l (map (λ (e : Entry). e.label) es) → IsLabel l
listed_labels n earlier [] are l at = absurd at
listed_labels n earlier (e ∷ es) are l (inl is) = subst IsLabel (sym is) are.0.label
listed_labels n earlier (e ∷ es) are l (inr at) = listed_labels n (earlier ++ e ∷ []) es are.1 l at

pub entries_fit : (v : BackupInfo) → IsBackupInfo v → (backups : List Entry) → backups ≡ v.backups → (e : Entry) → In e backups → IsLabel e.label
entries_fit v rules backups is e at = listed_labels (length v.history) [] v.backups rules.backups e.label (in_map (λ (e : Entry). e.label) v.backups e (subst (λ (es : List Entry). In e es) is at))

pub labels_known : (stanza : Text) (o p : Option Content) → p ≡ o → (v : BackupInfo) → IsOfOne IsBackupText → IfSome o (λ f. PairIs IsBackupText f (backup_info stanza) v) → (labels : List Label) → labels ≡ map (λ (e : Entry). e.label) v.backups
    → IfSome p (λ f. (l : Label) → In l labels ↔ Lists stanza f l)
labels_known stanza o p same v one pair labels is = subst (λ (q : Option Content). IfSome q (λ f. (l : Label) → In l labels ↔ Lists stanza f l)) (sym same) (by o pair)
  where
    by : (o : Option Content) → IfSome o (λ f. PairIs IsBackupText f (backup_info stanza) v) → IfSome o (λ f. (l : Label) → In l labels ↔ Lists stanza f l)
    by None pair = tt
    by (Some f) pair = λ l. subst (λ (ls : List Label). In l ls ↔ Lists stanza f l) (sym is) (labels_listed stanza f v one pair l)

-- ---- all of them

module _ (stanza : Text) (f : Content) (v : BackupInfo) (one : IsOfOne IsBackupText) (pair : PairIs IsBackupText f (backup_info stanza) v) where
  abbrev All : Text → What → Type 0
  All = Either (PairsDeviate stanza f) (Either (FileDeviates stanza f) (Either (IsContradiction stanza f) (OfSome (ListedDeviates stanza f v.history) v.backups)))

  all_to : (name : Text) (what : What) → All name what → IsFinding stanza f name what
  all_to name what (inl (inl h)) = OfArchivePair h
  all_to name what (inl (inr h)) = OfBackupPair h
  all_to name what (inr (inl h)) = OfFile h
  all_to name what (inr (inr (inl h))) = OfContradiction h
  all_to name what (inr (inr (inr h))) = ⊎_elim (λ d. OfBackup h.0.label (lists stanza f v one pair h.0.label h.0 h.1 refl) d) (λ d. OfListed v pair h.0 h.1 d) h.2

  all_back : (name : Text) (what : What) → IsFinding stanza f name what → All name what
  all_back name what (OfArchivePair h) = inl (inl h)
  all_back name what (OfBackupPair h) = inl (inr h)
  all_back name what (OfFile h) = inr (inl h)
  all_back name what (OfBackup own k h) =
      let e = is_listed stanza f v one pair own k in
      inr (inr (inr (e.0, e.1, inl (subst (λ (l : Label). BackupDeviates stanza f l name what) (sym e.2) h))))
  all_back name what (OfListed w p e at d) =
      let same : w ≡ v = one_value IsBackupText f (backup_info stanza) one w v p pair in
      inr (inr (inr (e, subst (λ (x : BackupInfo). In e x.backups) same at, inr (subst (λ (x : BackupInfo). EntryIsUnlike stanza f x.history e name what) same d))))
  all_back name what (OfContradiction h) = inr (inr (inl h))

  pub all_add : (a b c k d : List Finding) → Adds (PairsDeviate stanza f) a b → Adds (FileDeviates stanza f) b c → Adds (IsContradiction stanza f) c k → Adds (OfSome (ListedDeviates stanza f v.history) v.backups) k d → Adds (IsFinding stanza f) a d
  all_add a b c k d p q x r = adds_as All (IsFinding stanza f) a d all_to all_back
      (adds_on (PairsDeviate stanza f) _ a b d p (adds_on (FileDeviates stanza f) _ b c d q (adds_on (IsContradiction stanza f) (OfSome (ListedDeviates stanza f v.history) v.backups) c k d x r)))

  -- what is reported elsewhere is a listed backup's own
  there : (name : Text) (what : What) → IsElsewhere stanza f name what → OfSome (λ (x : Entry). OwnDeviates stanza f x.label) v.backups name what
  there name what h =
      let e = is_listed stanza f v one pair h.0 h.1 in
      (e.0, e.1, subst (λ (l : Label). OwnDeviates stanza f l name what) (sym e.2) h.2)

  -- so all are reported
  pub listed_all : (c d : List Finding) → AddsMost (OfSome (ListedDeviates stanza f v.history) v.backups) (OfSome (λ (x : Entry). OwnDeviates stanza f x.label) v.backups) (IsElsewhere stanza f) c d
      → Adds (OfSome (ListedDeviates stanza f v.history) v.backups) c d
  listed_all c d p = most_all (OfSome (ListedDeviates stanza f v.history) v.backups) (OfSome (λ (x : Entry). OwnDeviates stanza f x.label) v.backups) (IsElsewhere stanza f) c d there p

-- ---- in order

shows_alike : (x y : Finding) (name : Text) (what : What) → AreAlike x y → Shows x name what → Shows y name what
shows_alike x y name what same t = record { named = sym same.name ∙ t.named; kind = sym same.kind ∙ t.kind; line = sym same.line ∙ t.line }

pub in_order : (stanza : Text) (f : Content) (found sorted : List Finding) → Adds (IsFinding stanza f) [] found → IsStrictlySortedBy finding_cmp sorted → ((x : Finding) → In x sorted → In x found)
    → ((x : Finding) → In x found → (y : Finding) × In y sorted × AreAlike x y) → AreFindings stanza f sorted
in_order stanza f found sorted adds order each all = record {
  are = record {
    each = λ x at. adds.are.each x (subst (λ (l : List Finding). In x l) adds.is (each x at));
    all = λ name what h.
        let x = adds.are.all name what h in
        let y = all x.0 (subst (λ (l : List Finding). In x.0 l) (sym adds.is) x.1) in
        (y.0, y.1, shows_alike x.0 y.0 name what y.2 x.2);
  };
  order = order;
}

-- there are none where nothing deviates
pub none_found : (stanza : Text) (f : Content) (found : List Finding) → AreFindings stanza f found → ((name : Text) (what : What) → ¬ IsFinding stanza f name what) → found ≡ []
none_found stanza f [] are none = refl
none_found stanza f (x ∷ xs) are none = let k = are.are.each x (inl refl) in absurd (none k.0 k.1 k.2)

-- where what the disk holds is known
pub pairs_known : (stanza : Text) (o p : Option Content) (one two : Text) (a b c : List Finding) → p ≡ o → one ≡ archive_info stanza → two ≡ backup_info stanza → IfSome o (λ f. Adds (PairDeviates IsArchiveText f one) a b) → IfSome p (λ f. Adds (PairDeviates IsBackupText f two) b c)
    → IfSome o (λ f. Adds (PairsDeviate stanza f) a c)
pairs_known stanza None p one two a b c same e e2 x y = tt
pairs_known stanza (Some f) p one two a b c same e e2 x y =
    let Q : Option Content → Type 0 = λ o. IfSome o (λ f. Adds (PairDeviates IsBackupText f two) b c) in
    let here : Q (Some f) = subst Q same y in
    adds_on (PairDeviates IsArchiveText f (archive_info stanza)) (PairDeviates IsBackupText f (backup_info stanza)) a b c
    (subst (λ (n : Text). Adds (PairDeviates IsArchiveText f n) a b) e x) (subst (λ (n : Text). Adds (PairDeviates IsBackupText f n) b c) e2 here)

pub values_known : (stanza : Text) (o p : Option Content) (one two : Text) (a : Option RustArchive) (b : Option RustBackup) → p ≡ o → one ≡ archive_info stanza → two ≡ backup_info stanza → IfSome o (λ f. ValueSo IsArchiveText archive_info_of f one a)
    → IfSome p (λ f. ValueSo IsBackupText backup_info_of f two b) → IfSome o (λ f. ValueSo IsArchiveText archive_info_of f (archive_info stanza) a × ValueSo IsBackupText backup_info_of f (backup_info stanza) b)
values_known stanza None p one two a b same e e2 x y = tt
values_known stanza (Some f) p one two a b same e e2 x y =
    let Q : Option Content → Type 0 = λ o. IfSome o (λ f. ValueSo IsBackupText backup_info_of f two b) in
    let here : Q (Some f) = subst Q same y in
    (subst (λ (n : Text). ValueSo IsArchiveText archive_info_of f n a) e x, subst (λ (n : Text). ValueSo IsBackupText backup_info_of f n b) e2 here)

-- the list of files, by another name
pub stored_as : (stanza : Text) (o p : Option Content) → p ≡ o → (files others : List Stored) → others ≡ files → IfSome p (λ f. AreStored stanza f files) → IfSome o (λ f. AreStored stanza f others)
stored_as stanza o p same files others is are = subst (λ (q : Option Content). IfSome q (λ f. AreStored stanza f others)) same (subst (λ (fs : List Stored). IfSome p (λ f. AreStored stanza f fs)) (sym is) are)

pub whole_known : (stanza : Text) (o p q : Option Content) (v : BackupInfo) (pairs : PairsRead) (stored : List Stored) (history : List Cluster) (backups : List Entry) (a b c k d e : List Finding) → a ≡ [] → p ≡ o → q ≡ o → IsOfOne IsBackupText → history ≡ v.history → backups ≡ v.backups
    → IfSome o (λ f. PairIs IsBackupText f (backup_info stanza) v) → IfSome o (λ f. HavePairsRead stanza f pairs) → IfSome p (λ f. AreStored stanza f stored)
    → IfSome o (λ f. Adds (PairsDeviate stanza f) a b) → IfSome p (λ f. Adds (FileDeviates stanza f) b c)
    → ((f : Content) → HavePairsRead stanza f pairs → PairIs IsBackupText f (backup_info stanza) v → AreStored stanza f stored → Adds (IsContradiction stanza f) c k)
    → IfSome q (λ f. AddsMost (OfSome (ListedDeviates stanza f history) backups) (OfSome (λ (x : Entry). OwnDeviates stanza f x.label) backups) (IsElsewhere stanza f) k d)
    → IsStrictlySortedBy finding_cmp e → ((x : Finding) → In x e → In x d) → ((x : Finding) → In x d → (y : Finding) × In y e × AreAlike x y) → IfSome o (λ f. AreFindings stanza f e)
whole_known stanza None p q v pairs stored history backups a b c k d e start same also one clusters entries pair values are x y t z order each all = tt
whole_known stanza (Some f) p q v pairs stored history backups a b c k d e start same also one clusters entries pair values are x y t z order each all =
    let P : Option Content → Type 0 = λ o. IfSome o (λ f. Adds (FileDeviates stanza f) b c) in
    let Q : Option Content → Type 0 = λ o. IfSome o (λ f. AddsMost (OfSome (ListedDeviates stanza f history) backups) (OfSome (λ (x : Entry). OwnDeviates stanza f x.label) backups) (IsElsewhere stanza f) k d) in
    let R : Option Content → Type 0 = λ o. IfSome o (λ f. AreStored stanza f stored) in
    let there : R (Some f) = subst R same are in
    let files : P (Some f) = subst P same y in
    let listed : Q (Some f) = subst Q also z in
    let most = subst (λ (h : List Cluster). AddsMost (OfSome (ListedDeviates stanza f h) backups) (OfSome (λ (x : Entry). OwnDeviates stanza f x.label) backups) (IsElsewhere stanza f) k d) clusters listed in
    let own = listed_all stanza f v one pair k d
    (subst (λ (es : List Entry). AddsMost (OfSome (ListedDeviates stanza f v.history) es) (OfSome (λ (x : Entry). OwnDeviates stanza f x.label) es) (IsElsewhere stanza f) k d) entries most) in
    in_order stanza f d e (all_add stanza f v one pair [] b c k d (subst (λ (l : List Finding). Adds (PairsDeviate stanza f) l b) start x) files (t f values pair there) own) order each all

pub clean_known : (stanza : Text) (o : Option Content) (e : List Finding) → IsOfOne IsArchiveText → IsOfOne IsBackupText → IsOfOne IsManifestText → IfSome o (λ f. AreFindings stanza f e)
    → IfSome o (λ f. (s : Stanza) → HasStanza stanza f s → IsSoundStanza s → MembersAgree stanza f s → e ≡ [])
clean_known stanza None e one_archive one also are = tt
clean_known stanza (Some f) e one_archive one also are = λ s has sound agree. none_found stanza f e are (clean stanza f s has sound agree one also (consistent stanza f s has sound one_archive one))

-- ---- contradictions

module _ (stanza : Text) (f : Content) (v : BackupInfo) (one : IsOfOne IsBackupText) (pair : PairIs IsBackupText f (backup_info stanza) v) where
  abbrev Ways : Text → What → Type 0
  Ways = Either (FileContradicts stanza f) (Either (HistoriesContradict stanza f) (OfSome (EntryContradicts stanza v.backups) v.backups))

  ways_to : (name : Text) (what : What) → Ways name what → IsContradiction stanza f name what
  ways_to name what (inl h) = OfArchived h
  ways_to name what (inr (inl h)) = OfHistories h
  ways_to name what (inr (inr h)) = OfContradicting v pair h.0 h.1 h.2

  ways_back : (name : Text) (what : What) → IsContradiction stanza f name what → Ways name what
  ways_back name what (OfArchived h) = inl h
  ways_back name what (OfHistories h) = inr (inl h)
  ways_back name what (OfContradicting w p e at h) =
      let same : w ≡ v = one_value IsBackupText f (backup_info stanza) one w v p pair in
      inr (inr (e, subst (λ (x : BackupInfo). In e x.backups) same at, subst (λ (x : BackupInfo). EntryContradicts stanza x.backups e name what) same h))

  contradictions_add : (a b c d : List Finding) → Adds (FileContradicts stanza f) a b → Adds (HistoriesContradict stanza f) b c → Adds (OfSome (EntryContradicts stanza v.backups) v.backups) c d → Adds (IsContradiction stanza f) a d
  contradictions_add a b c d p q r = adds_as Ways (IsContradiction stanza f) a d ways_to ways_back
      (adds_on (FileContradicts stanza f) _ a b d p (adds_on (HistoriesContradict stanza f) (OfSome (EntryContradicts stanza v.backups) v.backups) b c d q r))

pub contradictions_known : (stanza : Text) (v : BackupInfo) (pairs : PairsRead) (stored : List Stored) (name : Text) → name ≡ backup_info stanza → IsOfOne IsBackupText → (a b c d : List Finding) →
    ((stanza : Text) (f : Content) → ValueSo IsArchiveText archive_info_of f (archive_info stanza) pairs.archive → AreStored stanza f stored → Adds (FileContradicts stanza f) a b)
    → ((stanza : Text) (f : Content) → name ≡ backup_info stanza → ValueSo IsArchiveText archive_info_of f (archive_info stanza) pairs.archive → ValueSo IsBackupText backup_info_of f (backup_info stanza) pairs.backup → Adds (HistoriesContradict stanza f) b c)
    → Adds (OfSome (EntryContradicts stanza v.backups) v.backups) c d
    → (f : Content) → HavePairsRead stanza f pairs → PairIs IsBackupText f (backup_info stanza) v → AreStored stanza f stored → Adds (IsContradiction stanza f) a d
contradictions_known stanza v pairs stored name is one a b c d p q r f values pair are =
    contradictions_add stanza f v one pair a b c d (p stanza f values.0 are) (q stanza f is values.0 values.1) r
