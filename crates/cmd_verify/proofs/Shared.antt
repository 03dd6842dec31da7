-- A file that lies in another backup's folder is reported in its turn, where that backup has it as its own.
use Rattle.std.proofs.Common.{◌≡◌, ◌≢◌, ◌↔◌, inl, inr, List, [], map, Option, Some, None, refl, sym, subst}
use Rattle.std.specs.Prelude.{IfSome}
use Rattle.base_devices.specs.Content.{Content}
use Rattle.base_model.specs.declared.labels.Label.{Label}
use Rattle.base_model.specs.declared.files.Manifest.{Manifest as RustManifest}
use Rattle.base_model.specs.declared.files.FileEntry.{FileEntry as RustEntry}
use Rattle.base_model.specs.Text.{Text, In}
use Rattle.base_model.specs.InfoFiles.{IsLabel}
use Rattle.base_model.specs.Names.{manifest_name}
use Rattle.base_model.specs.Log.{Lists}
use Rattle.base_model.specs.ManifestText.{IsManifestText}
use Rattle.base_model.specs.Values.{FileEntry, file_entry_of, manifest_of}
use Rattle.cmd_verify.specs.declared.findings.finding.Finding.{Finding}
use Rattle.cmd_verify.specs.What.{What}
use Rattle.cmd_verify.specs.Adding.{Adds, AddsMost, OfSome, Never}
use Rattle.cmd_verify.specs.Findings.{EntryDeviates}
use Rattle.cmd_verify.specs.Members.{ValueSo}
use Rattle.cmd_verify.specs.References.{RefersTo}
use Rattle.cmd_verify.specs.Sharing.{IsOwn, OwnEntryDeviates, ReferredDeviates, SharedDeviates, IsElsewhere, AreFilesOf}
use Rattle.cmd_verify.proofs.Adding.{Either, adds_as, adds_none}
use Rattle.cmd_verify.proofs.Most.{most_of, most_none, most_as, most_on}
use Rattle.cmd_verify.proofs.Once.{known_there}
use Rattle.cmd_verify.proofs.Values.{if_at}

-- ---- one file

module _ (stanza : Text) (own : Label) (e : FileEntry) where
  -- it lies in another folder
  pub other_known : e.reference ≢ None → (o : Option Content) (a : List Finding) → IfSome o (λ f. Adds (OwnEntryDeviates stanza f own e) a a)
  other_known refers None a = tt
  other_known refers (Some f) a = adds_none (OwnEntryDeviates stanza f own e) a (λ name what h. refers h.0)

  -- in the backup's own
  pub own_known : e.reference ≡ None → (o : Option Content) (a b : List Finding) → IfSome o (λ f. Adds (EntryDeviates stanza f own e) a b) → IfSome o (λ f. Adds (OwnEntryDeviates stanza f own e) a b)
  own_known none None a b p = tt
  own_known none (Some f) a b p = adds_as (EntryDeviates stanza f own e) (OwnEntryDeviates stanza f own e) a b (λ name what h. (none, h)) (λ name what h. h.1) p

  module _ (r : Label) where
    abbrev Most : Content → List Finding → List Finding → Type 0
    Most f a b = AddsMost (ReferredDeviates stanza f own r e) Never (IsElsewhere stanza f) a b

    -- it doesn't lie with this label
    pub apart_known : e.reference ≢ Some r → (o : Option Content) (a : List Finding) → IfSome o (λ f. Most f a a)
    apart_known apart None a = tt
    apart_known apart (Some f) a = most_none (ReferredDeviates stanza f own r e) Never (IsElsewhere stanza f) a (λ name what h. h) (λ name what h. absurd (apart h.0))

    -- the backup there has it as its own
    pub shared_known : (files : List FileEntry) (other : FileEntry) → In other files → IsOwn r e other → (o : Option Content) (a : List Finding) → IfSome o (λ f. AreFilesOf stanza f r files) → IfSome o (λ f. Most f a a)
    shared_known files other at is None a are = tt
    shared_known files other at is (Some f) a are = most_none (ReferredDeviates stanza f own r e) Never (IsElsewhere stanza f) a (λ name what h. h) there
      where
        there : (name : Text) (what : What) → ReferredDeviates stanza f own r e name what → IsElsewhere stanza f name what
        there name what h =
            let k = are other at in
            (r, k.0, (k.1.0, k.1.1, (other, k.1.2, (is.none, known_there stanza own r e other is f name what h.1))))

    -- it is looked at
    pub referred_known : e.reference ≡ Some r → (o : Option Content) (a b : List Finding) → IfSome o (λ f. Adds (EntryDeviates stanza f own e) a b) → IfSome o (λ f. Most f a b)
    referred_known refers None a b p = tt
    referred_known refers (Some f) a b p = most_of (ReferredDeviates stanza f own r e) Never (IsElsewhere stanza f) a b (λ name what h. absurd h)
        (adds_as (EntryDeviates stanza f own e) (ReferredDeviates stanza f own r e) a b (λ name what h. (refers, h)) (λ name what h. h.1) p)

-- ---- the files of another backup

pub no_files_of : (stanza : Text) (r : Label) (files : List FileEntry) → files ≡ [] → (o : Option Content) → IfSome o (λ f. AreFilesOf stanza f r files)
no_files_of stanza r files none None = tt
no_files_of stanza r files none (Some f) = λ e at. absurd (subst (λ (es : List FileEntry). In e es) none at)

pub files_read : (stanza : Text) (r : Label) (listed : List Label) (m : RustManifest) (read : Option RustManifest) → read ≡ Some m → In r listed → (name : Text) → name ≡ manifest_name stanza r
    → (o : Option Content) → IfSome o (λ f. (l : Label) → In l listed ↔ Lists stanza f l) → IfSome o (λ f. ValueSo IsManifestText manifest_of f name read)
    → IfSome o (λ f. AreFilesOf stanza f r (map file_entry_of m.files.items))
files_read stanza r listed m read some at name is None lists value = tt
files_read stanza r listed m read some at name is (Some f) lists value = λ e among. (
  (lists r).0 at,
  (
    manifest_of m,
    subst (λ (x : Option RustManifest). ValueSo IsManifestText manifest_of f (manifest_name stanza r) x) some (subst (λ (n : Text). ValueSo IsManifestText manifest_of f n read) is value),
    among,
  ),
)

-- the same under another name for the list and the disk
pub files_at : (stanza : Text) (r : Label) (o p : Option Content) → p ≡ o → (files others : List RustEntry) → others ≡ files → IfSome o (λ f. AreFilesOf stanza f r (map file_entry_of files)) → IfSome p (λ f. AreFilesOf stanza f r (map file_entry_of others))
files_at stanza r o p same files others is are = subst (λ (q : Option Content). IfSome q (λ f. AreFilesOf stanza f r (map file_entry_of others))) (sym same)
    (subst (λ (es : List RustEntry). IfSome o (λ f. AreFilesOf stanza f r (map file_entry_of es))) (sym is) are)

-- the labels that files refer to have digits
pub labels_fit : (files : List FileEntry) → ((e : FileEntry) → In e files → IfSome e.reference IsLabel) → (labels others : List Label) → others ≡ labels → ((l : Label) → In l labels ↔ RefersTo files l) → (l : Label) → In l others → IsLabel l
labels_fit files references labels others same are l at =
    let r = (are l).0 (subst (λ (ls : List Label). In l ls) same at) in
    if_at IsLabel r.0.reference l r.2 (references r.0 r.1)

-- ---- those of a list

-- no one of a list is own where none of it can be
pub never_own : (P E : Content → Text → What → Type 0) {X : Type 0} (xs : List X) (o : Option Content) (a b : List Finding)
    → IfSome o (λ f. AddsMost (P f) (OfSome (λ (x : X). Never) xs) (E f) a b) → IfSome o (λ f. AddsMost (P f) Never (E f) a b)
never_own P E xs None a b p = tt
never_own P E xs (Some f) a b p = most_as (P f) (P f) (OfSome (λ x. Never) xs) Never (E f) a b (λ name what h. h) (λ name what h. h) (λ name what h. absurd h) p

-- ---- all files of a backup

module _ (stanza : Text) (own : Label) (files : List FileEntry) (labels : List Label) (are : (l : Label) → In l labels ↔ RefersTo files l) (f : Content) where
  abbrev Parts : Text → What → Type 0
  Parts = Either (OfSome (OwnEntryDeviates stanza f own) files) (OfSome (SharedDeviates stanza f own files) labels)

  to : (name : Text) (what : What) → Parts name what → OfSome (EntryDeviates stanza f own) files name what
  to name what (inl h) = (h.0, h.1, h.2.1)
  to name what (inr h) = let s = h.2 in (s.0, s.1, s.2.1)

  back : (name : Text) (what : What) → OfSome (EntryDeviates stanza f own) files name what → Parts name what
  back name what h = go h.0.reference refl
    where
      go : (r : Option Label) → h.0.reference ≡ r → Parts name what
      go None is = inl (h.0, h.1, (is, h.2))
      go (Some r) is = inr (r, (are r).1 (h.0, h.1, is), (h.0, h.1, (is, h.2)))

  whole : (a b c : List Finding) → Adds (OfSome (OwnEntryDeviates stanza f own) files) a b → AddsMost (OfSome (SharedDeviates stanza f own files) labels) Never (IsElsewhere stanza f) b c
      → AddsMost (OfSome (EntryDeviates stanza f own) files) (OfSome (OwnEntryDeviates stanza f own) files) (IsElsewhere stanza f) a c
  whole a b c p q =
      let O = OfSome (OwnEntryDeviates stanza f own) files in
      let S = OfSome (SharedDeviates stanza f own files) labels in
      let E = IsElsewhere stanza f in
      most_as Parts (OfSome (EntryDeviates stanza f own) files) (Either O Never) O E a c to back (λ name what h. inl h) (most_on O S O Never E a b c (most_of O O E a b (λ name what h. h) p) q)

pub files_known : (stanza : Text) (own : Label) (files : List RustEntry) (labels others : List Label) → others ≡ labels → ((l : Label) → In l labels ↔ RefersTo (map file_entry_of files) l)
    → (o p : Option Content) → p ≡ o → (a b c : List Finding) → IfSome o (λ f. Adds (OfSome (OwnEntryDeviates stanza f own) (map file_entry_of files)) a b)
    → IfSome p (λ f. AddsMost (OfSome (SharedDeviates stanza f own (map file_entry_of files)) others) Never (IsElsewhere stanza f) b c)
    → IfSome o (λ f. AddsMost (OfSome (EntryDeviates stanza f own) (map file_entry_of files)) (OfSome (OwnEntryDeviates stanza f own) (map file_entry_of files)) (IsElsewhere stanza f) a c)
files_known stanza own files labels others also are None p now a b c x y = tt
files_known stanza own files labels others also are (Some f) p now a b c x y =
    let S : Option Content → Type 0 = λ o. IfSome o (λ f. AddsMost (OfSome (SharedDeviates stanza f own (map file_entry_of files)) others) Never (IsElsewhere stanza f) b c) in
    let here : S (Some f) = subst S now y in
    let of_labels = subst (λ (ls : List Label). AddsMost (OfSome (SharedDeviates stanza f own (map file_entry_of files)) ls) Never (IsElsewhere stanza f) b c) also here in
    whole stanza own (map file_entry_of files) labels are f a b c x of_labels
