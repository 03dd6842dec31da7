-- A manifest besides its entry.
use Rattle.std.proofs.Common.{◌≡◌, ◌↔◌, ⊎_elim, inl, ℕ, ◌+◌, ◌<◌, List, [], ◌∷◌, ◌++◌, length, take, get_or, Option, Some, None, refl, sym, ap, ◌∙◌, subst}
use Rattle.std.specs.Prelude.{IfSome}
use Rattle.std.proofs.lemmas.List.{take_more}
use Rattle.base_devices.specs.Content.{Content}
use Rattle.base_model.specs.declared.clusters.Cluster.{Cluster}
use Rattle.base_model.specs.declared.labels.Label.{Label}
use Rattle.base_model.specs.declared.files.Manifest.{Manifest as RustManifest}
use Rattle.base_model.specs.Text.{Text, In}
use Rattle.base_model.specs.Names.{manifest_name}
use Rattle.base_model.specs.Values.{Entry, FileEntry, Manifest, manifest_of}
use Rattle.base_model.specs.ManifestText.{IsManifestText}
use Rattle.base_model.specs.Pair.{PairIs}
use Rattle.base_model.proofs.Pushed.{in_either}
use Rattle.cmd_verify.specs.declared.findings.finding.Finding.{Finding}
use Rattle.cmd_verify.specs.What.{What, Shows, MemberAbsent, MemberBad, MembersDiffer, Absent, Short, Digest, Second, Gap, Reference, Unlike, Contradicts}
use Rattle.cmd_verify.specs.Adding.{Adds, AddsMost, Never}
use Rattle.cmd_verify.specs.Sharing.{OwnDeviates, IsElsewhere}
use Rattle.cmd_verify.proofs.Most.{most_of, most_as, most_on}
use Rattle.cmd_verify.specs.Entries.{ShowsSame, IsUnlikeAt}
use Rattle.cmd_verify.specs.Findings.{BackupDeviates, EntryIsUnlike, IsOfEntry, ListedDeviates}
use Rattle.cmd_verify.specs.Members.{ValueSo}
use Rattle.cmd_verify.specs.References.{RefersTo}
use Rattle.cmd_verify.proofs.Adding.{Either, adds_as, adds_none, adds_one}
use Rattle.cmd_verify.proofs.Sound.{one_value}
use Rattle.cmd_verify.proofs.Values.{IsOfOne}

-- ---- lists

-- all before are among the labels, and so is this one
pub all_more : (labels xs : List Label) (i : ℕ) (x : Label) → i < length xs → x ≡ get_or xs i x → ((l : Label) → In l (take i xs) → In l labels) → In x labels → (l : Label) → In l (take (i + 1) xs) → In l labels
all_more labels xs i x lt is before here l at =
    let more = ap (λ (z : Label). take i xs ++ z ∷ []) is ∙ sym (take_more xs i x lt) in
    ⊎_elim (before l) (λ e. subst (λ (y : Label). In y labels) (sym e) here) (in_either l x (take i xs) (subst (λ (ys : List Label). In l ys) (sym more) at))

-- the labels that files refer to and those of an entry
module _ (own refs : List Label) (files : List FileEntry) (are : (l : Label) → In l own ↔ RefersTo files l) (labels listed : List Label) (labels_are : labels ≡ own) (listed_are : listed ≡ refs) where
  pub fewer_references : ¬ ((l : Label) → In l listed → In l labels) → ¬ ((l : Label) → In l refs ↔ RefersTo files l)
  fewer_references none same = none (λ l at. subst (λ (ls : List Label). In l ls) (sym labels_are) ((are l).1 ((same l).0 (subst (λ (ls : List Label). In l ls) listed_are at))))

  pub more_references : ¬ ((l : Label) → In l labels → In l listed) → ¬ ((l : Label) → In l refs ↔ RefersTo files l)
  more_references none same = none (λ l at. subst (λ (ls : List Label). In l ls) (sym listed_are) ((same l).1 ((are l).0 (subst (λ (ls : List Label). In l ls) labels_are at))))

  pub same_references : ((l : Label) → In l listed → In l own) → ((l : Label) → In l labels → In l listed) → (l : Label) → In l refs ↔ RefersTo files l
  same_references fewer more l = (
    λ at. (are l).0 (fewer l (subst (λ (ls : List Label). In l ls) (sym listed_are) at)),
    λ r. subst (λ (ls : List Label). In l ls) listed_are (more l (subst (λ (ls : List Label). In l ls) (sym labels_are) ((are l).1 r))),
  )

-- ---- one entry

pub entry_parts : (history : List Cluster) (e : Entry) (m : Manifest) → ShowsSame e m → In m.cluster history → ((l : Label) → In l e.references ↔ RefersTo m.files l) → IsOfEntry history e m
entry_parts history e m same cluster references = record {
  label = same.label;
  kind = same.kind;
  prior = same.prior;
  start = same.start;
  stop = same.stop;
  cluster = (cluster, same.number);
  span = same.span;
  references = references;
}

pub parts_of : (history : List Cluster) (e : Entry) (m : Manifest) → IsOfEntry history e m → ShowsSame e m
parts_of history e m is = record {
  label = is.label;
  kind = is.kind;
  prior = is.prior;
  start = is.start;
  stop = is.stop;
  number = is.cluster.1;
  span = is.span;
}

module _ (at : Text) (history : List Cluster) (e : Entry) (m : Manifest) where
  only : (n : Text) (w : What) → IsUnlikeAt at history e m n w → (n ≡ at) × (w ≡ Unlike) × ¬ IsOfEntry history e m
  only n Unlike d = (d.0, refl, d.1)
  only n MemberAbsent d = absurd d
  only n MemberBad d = absurd d
  only n MembersDiffer d = absurd d
  only n Absent d = absurd d
  only n (Short t k) d = absurd d
  only n (Digest t k) d = absurd d
  only n (Second s) d = absurd d
  only n (Gap s) d = absurd d
  only n (Reference l) d = absurd d
  only n (Contradicts t) d = absurd d

  pub unlike_known : (a b : List Finding) (x : Finding) → ¬ IsOfEntry history e m → Shows x at Unlike → b ≡ a ++ x ∷ [] → Adds (IsUnlikeAt at history e m) a b
  unlike_known a b x other shows grown = subst (λ (c : List Finding). Adds (IsUnlikeAt at history e m) a c) (sym grown)
      (adds_one (IsUnlikeAt at history e m) a x at Unlike (refl, other) shows (λ n w d. let o = only n w d in (o.0, o.1)))

  pub like_known : (a : List Finding) → IsOfEntry history e m → Adds (IsUnlikeAt at history e m) a a
  like_known a is = adds_none (IsUnlikeAt at history e m) a (λ n w d. (only n w d).2 is)

-- ---- what the disk holds

module _ (stanza : Text) (f : Content) (history : List Cluster) (e : Entry) where
  of_unlike : (n : Text) (w : What) → EntryIsUnlike stanza f history e n w → (w ≡ Unlike) × (n ≡ manifest_name stanza e.label)
      × ((m : Manifest) × PairIs IsManifestText f (manifest_name stanza e.label) m × ¬ IsOfEntry history e m)
  of_unlike n Unlike d = (refl, d.0, d.1)
  of_unlike n MemberAbsent d = absurd d
  of_unlike n MemberBad d = absurd d
  of_unlike n MembersDiffer d = absurd d
  of_unlike n Absent d = absurd d
  of_unlike n (Short t k) d = absurd d
  of_unlike n (Digest t k) d = absurd d
  of_unlike n (Second s) d = absurd d
  of_unlike n (Gap s) d = absurd d
  of_unlike n (Reference l) d = absurd d
  of_unlike n (Contradicts t) d = absurd d

  unread : ((m : Manifest) → ¬ PairIs IsManifestText f (manifest_name stanza e.label) m) → (a : List Finding) → Adds (EntryIsUnlike stanza f history e) a a
  unread none a = adds_none (EntryIsUnlike stanza f history e) a (λ n w d. let k = (of_unlike n w d).2 in none k.0 k.1)

  module _ (m : Manifest) (pair : PairIs IsManifestText f (manifest_name stanza e.label) m) (one : IsOfOne IsManifestText) where
    to : (n : Text) (w : What) → IsUnlikeAt (manifest_name stanza e.label) history e m n w → EntryIsUnlike stanza f history e n w
    to n w d = let o = only (manifest_name stanza e.label) history e m n w d in subst (λ (u : What). EntryIsUnlike stanza f history e n u) (sym o.1) (o.0, (m, pair, o.2))

    back : (n : Text) (w : What) → EntryIsUnlike stanza f history e n w → IsUnlikeAt (manifest_name stanza e.label) history e m n w
    back n w d =
        let k = of_unlike n w d in
        let same : k.2.0 ≡ m = one_value IsManifestText f (manifest_name stanza e.label) one k.2.0 m k.2.1 pair in
        subst (λ (u : What). IsUnlikeAt (manifest_name stanza e.label) history e m n u) (sym k.0) (k.1, subst (λ (x : Manifest). ¬ IsOfEntry history e x) same k.2.2)

    read : (a b : List Finding) → Adds (IsUnlikeAt (manifest_name stanza e.label) history e m) a b → Adds (EntryIsUnlike stanza f history e) a b
    read a b p = adds_as (IsUnlikeAt (manifest_name stanza e.label) history e m) (EntryIsUnlike stanza f history e) a b to back p

-- the value of the pair, by other names
pub value_at : (o : Option Content) (name at : Text) → name ≡ at → (read r : Option RustManifest) → read ≡ r → IfSome o (λ f. ValueSo IsManifestText manifest_of f name read) → IfSome o (λ f. ValueSo IsManifestText manifest_of f at r)
value_at o name at is read r same v = subst (λ (x : Option RustManifest). IfSome o (λ f. ValueSo IsManifestText manifest_of f at x)) same (subst (λ (n : Text). IfSome o (λ f. ValueSo IsManifestText manifest_of f n read)) is v)

module _ (stanza : Text) (history : List Cluster) (e : Entry) (read_is : Option RustManifest) (a b : List Finding) where
  join : (f : Content) (a b c : List Finding) → AddsMost (BackupDeviates stanza f e.label) (OwnDeviates stanza f e.label) (IsElsewhere stanza f) a b → Adds (EntryIsUnlike stanza f history e) b c
      → AddsMost (ListedDeviates stanza f history e) (OwnDeviates stanza f e.label) (IsElsewhere stanza f) a c
  join f a b c p q =
      let B = BackupDeviates stanza f e.label in
      let U = EntryIsUnlike stanza f history e in
      let O = OwnDeviates stanza f e.label in
      let E = IsElsewhere stanza f in
      most_as (Either B U) (ListedDeviates stanza f history e) (Either O Never) O E a c (λ name what h. h) (λ name what h. h) (λ name what h. inl h) (most_on B U O Never E a b c p (most_of U Never E b c (λ name what h. absurd h) q))

  pub unread_listed : (o : Option Content) → IfSome o (λ f. ValueSo IsManifestText manifest_of f (manifest_name stanza e.label) read_is) → IfSome o (λ f. AddsMost (BackupDeviates stanza f e.label) (OwnDeviates stanza f e.label) (IsElsewhere stanza f) a b) → read_is ≡ None
      → IfSome o (λ f. AddsMost (ListedDeviates stanza f history e) (OwnDeviates stanza f e.label) (IsElsewhere stanza f) a b)
  unread_listed None value backup none = tt
  unread_listed (Some f) value backup none =
      let absent = subst (λ (r : Option RustManifest). ValueSo IsManifestText manifest_of f (manifest_name stanza e.label) r) none value in
      join f a b b backup (unread stanza f history e absent b)

  pub read_listed : (o : Option Content) → IfSome o (λ f. ValueSo IsManifestText manifest_of f (manifest_name stanza e.label) read_is) → IfSome o (λ f. AddsMost (BackupDeviates stanza f e.label) (OwnDeviates stanza f e.label) (IsElsewhere stanza f) a b)
      → (m : RustManifest) → read_is ≡ Some m → IsOfOne IsManifestText → (at : Text) → at ≡ manifest_name stanza e.label → (c : List Finding) → Adds (IsUnlikeAt at history e (manifest_of m)) b c
      → IfSome o (λ f. AddsMost (ListedDeviates stanza f history e) (OwnDeviates stanza f e.label) (IsElsewhere stanza f) a c)
  read_listed None value backup m some one at is c unlike = tt
  read_listed (Some f) value backup m some one at is c unlike =
      let pair = subst (λ (r : Option RustManifest). ValueSo IsManifestText manifest_of f (manifest_name stanza e.label) r) some value in
      join f a b c backup
      (read stanza f history e (manifest_of m) pair one b c (subst (λ (n : Text). Adds (IsUnlikeAt n history e (manifest_of m)) b c) is unlike))
