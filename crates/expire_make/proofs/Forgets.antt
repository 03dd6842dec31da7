-- Archived files that are forgotten, one by one.
use Rattle.std.proofs.Common.{◌≡◌, ⊎_elim, inl, inr, Bool, true, false, List, [], ◌∷◌, ◌++◌, map, cond, Some, refl, ap, ◌∙◌, sym, subst, append_assoc}
use Rattle.std.specs.Prelude.{filter, not, if◌then◌else◌}
use Rattle.std.proofs.lemmas.Bool.{false≢true, not-true}
use Rattle.std.proofs.lemmas.Slice.Eq.{bytes_eq-Decides}
use Rattle.sha1.specs.Sha1.{sha1}
use Rattle.base_text.specs.Sum.{sum_text}
use Rattle.base_model.specs.declared.wal.ArchiveId.{ArchiveId}
use Rattle.base_model.specs.declared.wal.ArchiveName.{ArchiveName}
use Rattle.base_model.specs.Text.{Text, In, ◌⫽◌}
use Rattle.base_model.specs.Names.{archive_folder, archive_name, id_text, wal_text}
use Rattle.base_model.specs.Repository.{Archived, Stanza, AreApart}
use Rattle.base_model.specs.Represents.{IsArchivePlace}
use Rattle.base_model.specs.Steps.{Step, Forget, Any, IsSomeOf, is_same_file, after, all_of}
use Rattle.archive_lookup.specs.Paths.{below_id}
use Rattle.archive_lookup.proofs.Cuts.{divided}
use Rattle.archive_lookup.proofs.OnePath.{one_path, id_lacks, id_of_text, wal_injective}
use Rattle.expire_rules.proofs.Lists.{in_filter, filter_in}

-- ---- one file

abbrev pub FitsPlace : Archived → Type 0
FitsPlace a = IsArchivePlace a.id a.name (sha1 a.bytes)

pub itself : (a : Archived) → is_same_file a a ≡ true
itself a = (bytes_eq-Decides (id_text a.id ⫽ wal_text a.name) (id_text a.id ⫽ wal_text a.name)).1 refl

pub same_file : (a b : Archived) → FitsPlace a → FitsPlace b → is_same_file a b ≡ true → (a.id ≡ b.id) × (a.name ≡ b.name)
same_file a b p q e =
    let texts = (bytes_eq-Decides (id_text a.id ⫽ wal_text a.name) (id_text b.id ⫽ wal_text b.name)).0 e in
    let x = divided 47 (id_text a.id) (id_text b.id) (wal_text a.name) (wal_text b.name) (id_lacks a.id) (id_lacks b.id) texts in
    (id_of_text a.id b.id p.version p.number q.version q.number x.0, wal_injective a.name b.name p.fits q.fits x.1)

-- a name is of one id and file
pub one_name : (stanza : Text) (i j : ArchiveId) (m n : ArchiveName) (s t : Text) → IsArchivePlace i m s → IsArchivePlace j n t → archive_name stanza i m (sum_text s) ≡ archive_name stanza j n (sum_text t) → (i ≡ j) × (m ≡ n)
one_name stanza i j m n s t p q e = one_path (archive_folder stanza ++ 47 ∷ []) i j m n s t p q
    (append_assoc (archive_folder stanza) (47 ∷ []) (id_text i ⫽ below_id m s) ∙ e ∙ sym (append_assoc (archive_folder stanza) (47 ∷ []) (id_text j ⫽ below_id n t)))

pub apart_one : (xs : List Archived) → AreApart xs → (a b : Archived) → In a xs → In b xs → a.id ≡ b.id → a.name ≡ b.name → a ≡ b
apart_one [] apart a b i j id name = absurd i
apart_one (x ∷ xs) apart a b (inl p) (inl q) id name = p ∙ sym q
apart_one (x ∷ xs) apart a b (inl p) (inr j) id name = absurd (apart.0 b j (sym id ∙ ap (λ (y : Archived). y.id) p, sym name ∙ ap (λ (y : Archived). y.name) p))
apart_one (x ∷ xs) apart a b (inr i) (inl q) id name = absurd (apart.0 a i (id ∙ ap (λ (y : Archived). y.id) q, name ∙ ap (λ (y : Archived). y.name) q))
apart_one (x ∷ xs) apart a b (inr i) (inr j) id name = apart_one xs apart.1 a b i j id name

-- ---- some of the files

abbrev pub groups : List Archived → List (List Step)
groups xs = map (λ a. Forget a ∷ []) xs

abbrev pub with_it : Bool → Archived → List Step → List Step
with_it b x steps = if b then Forget x ∷ steps else steps

-- those that are gone are forgotten
abbrev pub forgets : (Archived → Bool) → List Archived → List Step
forgets gone [] = []
forgets gone (x ∷ xs) = with_it (gone x) x (forgets gone xs)

pub forgets_some : (gone : Archived → Bool) (xs : List Archived) → IsSomeOf (forgets gone xs) (groups xs)
forgets_some gone [] = refl
forgets_some gone (x ∷ xs) = by (forgets_some gone xs) (gone x)
  where
    by : IsSomeOf (forgets gone xs) (groups xs) → (b : Bool) → IsSomeOf (with_it b x (forgets gone xs)) (groups (x ∷ xs))
    by more true = inr (forgets gone xs, refl, more)
    by more false = inl more

pub all_forgets : (xs : List Archived) → all_of (Any (groups xs) ∷ []) ≡ forgets (λ _. true) xs
all_forgets [] = refl
all_forgets (x ∷ xs) = ap (λ (steps : List Step). Forget x ∷ steps) (all_forgets xs)

abbrev without : Archived → List Archived → List Archived
without x files = filter (λ b. not (is_same_file x b)) files

-- what is then left of the files
abbrev pub files_left : (Archived → Bool) → List Archived → List Archived → List Archived
files_left gone [] files = files
files_left gone (x ∷ xs) files = files_left gone xs (if gone x then without x files else files)

abbrev pub with_files : Stanza → List Archived → Stanza
with_files s files = record s { archived = files }

pub after_forgets : (gone : Archived → Bool) (xs files : List Archived) (s : Stanza) → after (Some (with_files s files)) (forgets gone xs) ≡ Some (with_files s (files_left gone xs files))
after_forgets gone [] files s = refl
after_forgets gone (x ∷ xs) files s = by (λ left. after_forgets gone xs left s) (gone x)
  where
    by : ((left : List Archived) → after (Some (with_files s left)) (forgets gone xs) ≡ Some (with_files s (files_left gone xs left))) → (b : Bool) → after (Some (with_files s files)) (with_it b x (forgets gone xs)) ≡ Some (with_files s (files_left gone xs (if b then without x files else files)))
    by more true = more (without x files)
    by more false = more files

-- a file is left exactly where none that is gone is the same
abbrev pub IsSpared : (Archived → Bool) → List Archived → Archived → Type 0
IsSpared gone xs a = (x : Archived) → In x xs → gone x ≡ true → is_same_file x a ≡ false

pub of_left : (gone : Archived → Bool) (xs files : List Archived) (a : Archived) → In a (files_left gone xs files) → In a files × IsSpared gone xs a
of_left gone [] files a at = (at, λ x i. absurd i)
of_left gone (x ∷ xs) files a at = by (λ left i. of_left gone xs left a i) (gone x) refl at
  where
    by : ((left : List Archived) → In a (files_left gone xs left) → In a left × IsSpared gone xs a) → (b : Bool) → gone x ≡ b → In a (files_left gone xs (if b then without x files else files)) → In a files × IsSpared gone (x ∷ xs) a
    by more true e at =
        let h = more (without x files) at in
        let k = in_filter (λ b. not (is_same_file x b)) a files h.0 in
        (k.0, λ y i went. ⊎_elim (λ (same : y ≡ x). subst (λ (z : Archived). is_same_file z a ≡ false) (sym same) (not-true (is_same_file x a) k.1)) (λ j. h.1 y j went) i)
    by more false e at =
        let h = more files at in
        (h.0, λ y i went. ⊎_elim (λ (same : y ≡ x). absurd (false≢true (sym e ∙ ap gone (sym same) ∙ went))) (λ j. h.1 y j went) i)

pub stays_left : (gone : Archived → Bool) (xs files : List Archived) (a : Archived) → In a files → IsSpared gone xs a → In a (files_left gone xs files)
stays_left gone [] files a at spared = at
stays_left gone (x ∷ xs) files a at spared = by (λ left i. stays_left gone xs left a i (λ y j went. spared y (inr j) went)) (gone x) refl
  where
    by : ((left : List Archived) → In a left → In a (files_left gone xs left)) → (b : Bool) → gone x ≡ b → In a (files_left gone xs (if b then without x files else files))
    by more true e = more (without x files) (filter_in (λ b. not (is_same_file x b)) a files at (ap not (spared x (inl refl) e)))
    by more false e = more files at

apart_filter : (p : Archived → Bool) (files : List Archived) → AreApart files → AreApart (filter p files)
apart_filter p [] apart = tt
apart_filter p (y ∷ files) apart = by (apart_filter p files apart.1) (p y)
  where
    by : AreApart (filter p files) → (b : Bool) → AreApart (cond b (y ∷ filter p files) (filter p files))
    by more true = ((λ z i same. apart.0 z (in_filter p z files i).0 same), more)
    by more false = more

-- a part of them, whichever
pub some_are : (xs : List Archived) (done : List Step) → IsSomeOf done (groups xs) → (files : List Archived) (s : Stanza) → (left : List Archived) × (after (Some (with_files s files)) done ≡ Some (with_files s left))
    × ((a : Archived) → In a left → In a files) × ((a : Archived) → In a files → ((x : Archived) → In x xs → is_same_file x a ≡ false) → In a left) × (AreApart files → AreApart left)
some_are [] done is files s = (files, ap (after (Some (with_files s files))) is, (λ a i. i), (λ a i h. i), (λ h. h))
some_are (x ∷ xs) done (inl is) files s =
    let r = some_are xs done is files s in
    (r.0, r.1, r.2, (λ a i h. r.3 a i (λ y j. h y (inr j))), r.4)
some_are (x ∷ xs) done (inr p) files s =
    let r = some_are xs p.0 p.2 (without x files) s in (
      r.0,
      ap (after (Some (with_files s files))) p.1 ∙ r.1,
      (λ a i. (in_filter (λ b. not (is_same_file x b)) a files (r.2 a i)).0),
      (λ a i h. r.3 a (filter_in (λ b. not (is_same_file x b)) a files i (ap not (h x (inl refl)))) (λ y j. h y (inr j))),
      (λ apart. r.4 (apart_filter (λ b. not (is_same_file x b)) files apart)),
    )
