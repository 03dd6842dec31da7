-- The first of some names that a listing shows.
use Rattle.std.proofs.Common.{◌≡◌, ◌⊎◌, ⊎_elim, inl, inr, ℕ, ◌+◌, ◌<◌, ◌≤◌, true, false, List, [], ◌∷◌, ◌++◌, length, take, drop, map, get_or, Option, Some, None, refl, ap, ◌∙◌, sym, subst, append_assoc, take-append-drop}
use Rattle.std.specs.Prelude.{◌≢◌, IfSome, IfNone, IsSome, is_some, option_map, string_bytes, bytes_eq}
use Rattle.std.proofs.lemmas.Bool.{and_parts}
use Rattle.std.proofs.lemmas.List.{take_more, take_all}
use Rattle.std.proofs.lemmas.Slice.Eq.{bytes_eq-Decides}
use Rattle.base_text.specs.Sum.{IsSum, sum_text}
use Rattle.base_devices.specs.declared.disk.Found.{Found}
use Rattle.base_devices.specs.Content.{Name, Content, is_below, IsListing}
use Rattle.base_devices.specs.Order.{is_before, are_after, are_in_order}
use Rattle.base_disk.proofs.Below.{below_prefix}
use Rattle.base_model.specs.declared.wal.ArchiveId.{ArchiveId}
use Rattle.base_model.specs.declared.wal.ArchiveName.{ArchiveName}
use Rattle.base_model.specs.declared.labels.Label.{Label}
use Rattle.base_model.specs.Text.{Text, ◌⫽◌, In}
use Rattle.base_model.specs.Names.{archive_folder, backup_folder, label_folder, label_text, id_text, archive_text}
use Rattle.base_model.specs.InfoFiles.{IsLabel}
use Rattle.base_model.specs.Represents.{IsArchivePlace, IsArchiveFile}
use Rattle.archive_lookup.specs.Paths.{Lacks, IsReadAs, below_folder, below_id}
use Rattle.archive_lookup.specs.declared.stored.paths.StoredName.{StoredName}
use Rattle.archive_lookup.proofs.Cuts.{divided, undivided}
use Rattle.archive_lookup.proofs.OnePath.{stripped, unstripped, below_after}
use Rattle.archive_lookup.proofs.Picked.{each_after}
use Rattle.archive_lookup.proofs.Looked.{pair_of, found_at, held_at, found_order}
use Rattle.repo_stanza.specs.declared.control.Control.{Control}
use Rattle.repo_stanza.specs.declared.fault.StanzaFault.{StanzaFault}
use Rattle.repo_stanza.specs.declared.fault.StanzaFault.TheVariants.{InfoDamaged, HistoryDiffers, StanzaMismatch, ArchiveLost, FilesFound, Disk, NoMemory}
use Rattle.repo_stanza.specs.Pairs.{LacksStanza}
use Rattle.repo_stanza.specs.Unused.{IsInLabel, IsUnused, HasNone, IsFirst, FindsNone, FindsFirst}
use Rattle.repo_stanza.specs.Causes.{FoundCause, UnusedCause, CreateCause}
use Rattle.repo_stanza.proofs.LabelTexts.{label_lacks}

-- ---- a list around one of its elements

parted : {X : Type 0} (xs : List X) (x : X) (ys : List X) (y : X) → In y (xs ++ x ∷ ys) → In y xs ⊎ ((y ≡ x) ⊎ In y ys)
parted [] x ys y at = inr at
parted (z ∷ xs) x ys y (inl e) = inl (inl e)
parted (z ∷ xs) x ys y (inr at) = ⊎_elim (λ h. inl (inr h)) (λ h. inr h) (parted xs x ys y at)

within : {X : Type 0} (xs : List X) (x : X) (ys : List X) → In x (xs ++ x ∷ ys)
within [] x ys = inl refl
within (z ∷ xs) x ys = inr (within xs x ys)

module _ (all : List Found) (i : ℕ) (x : Found) (lt : i < length all) (is : x ≡ get_or all i x) where
  taken : take (i + 1) all ≡ take i all ++ x ∷ []
  taken = take_more all i x lt ∙ ap (λ (z : Found). take i all ++ z ∷ []) (sym is)

  module _ (These : Text → Type 0) (none : FindsNone These (take i all)) where
    -- the loop's step
    pub none_more : (¬ These (string_bytes x.name)) → FindsNone These (take (i + 1) all)
    none_more isn_t y at = ⊎_elim (λ (h : In y (take i all)). none y h)
        (λ (r : (y ≡ x) ⊎ In y []). ⊎_elim (λ (e : y ≡ x). subst (λ (z : Found). ¬ These (string_bytes z.name)) (sym e) isn_t) (λ (h : In y []). absurd h) r)
        (parted (take i all) x [] y (subst (λ (l : List Found). In y l) taken at))

    -- and its end
    pub first_here : These (string_bytes x.name) → FindsFirst These all x
    first_here h = record {
      earlier = take i all;
      later = drop (i + 1) all;
      parts = sym (take-append-drop (i + 1) all) ∙ ap (λ (l : List Found). l ++ drop (i + 1) all) taken ∙ append_assoc (take i all) (x ∷ []) (drop (i + 1) all);
      passed = none;
      is = h;
    }

pub none_first : (These : Text → Type 0) (all : List Found) → FindsNone These (take 0 all)
none_first These all y at = absurd at

pub none_end : (These : Text → Type 0) (all : List Found) (i : ℕ) → length all ≤ i → FindsNone These (take i all) → FindsNone These all
none_end These all i le none = subst (λ (l : List Found). FindsNone These l) (take_all i all le) none

-- ---- names in byte order

abbrev name_of : Found → Text
name_of x = string_bytes x.name

after_in : (last : Text) (xs : List Found) (x : Found) (ys : List Found) → are_after last (map name_of (xs ++ x ∷ ys)) ≡ true → are_after (name_of x) (map name_of ys) ≡ true
after_in last [] x ys h = (and_parts (is_before last (name_of x)) (are_after (name_of x) (map name_of ys)) h).1
after_in last (w ∷ xs) x ys h = after_in (name_of w) xs x ys (and_parts (is_before last (name_of w)) (are_after (name_of w) (map name_of (xs ++ x ∷ ys))) h).1

after_part : (xs : List Found) (x : Found) (ys : List Found) → are_in_order (map name_of (xs ++ x ∷ ys)) ≡ true → are_after (name_of x) (map name_of ys) ≡ true
after_part [] x ys h = h
after_part (w ∷ xs) x ys h = after_in (name_of w) xs x ys h

-- ---- what a listing shows

module _ (These : Text → Type 0) (folder : Name) (f : Content) (found : List Found) (listing : IsListing folder f (map pair_of found)) (below : (n : Text) → These n → is_below folder n ≡ true) where
  some_there : (v : Option Text) (bytes : Text) → v ≡ Some bytes → IsSome v
  some_there v bytes e = subst (λ (o : Option Text). IsSome o) (sym e) refl

  is_first : (x : Found) → FindsFirst These found x → IsFirst These f (string_bytes x.name)
  is_first x first = record {
    is = first.is;
    there = let held = held_at folder f found listing x (subst (λ (l : List Found). In x l) (sym first.parts) (within first.earlier x first.later)) in some_there (f (string_bytes x.name)) held.0 held.1;
    first = λ other these some.
        let y = found_at folder f found listing other (below other these) some in
        ⊎_elim (λ (h : In y.0 first.earlier). absurd (first.passed y.0 h (subst These (sym y.2) these)))
        (λ (r : (y.0 ≡ x) ⊎ In y.0 first.later). ⊎_elim
        (λ (e : y.0 ≡ x). inl (sym y.2 ∙ ap name_of e))
        (λ (h : In y.0 first.later). inr (subst (λ (n : Text). is_before (string_bytes x.name) n ≡ true) y.2
        (each_after name_of (string_bytes x.name) first.later (after_part first.earlier x first.later (subst (λ (l : List Found). are_in_order (map name_of l) ≡ true) first.parts (found_order folder f found listing))) y.0 h))) r)
        (parted first.earlier x first.later y.0 (subst (λ (l : List Found). In y.0 l) first.parts y.1));
  }

  has_none : FindsNone These found → HasNone These f
  has_none none name these = by (f name) refl
    where
      by : (v : Option Text) → f name ≡ v → f name ≡ None
      by None e = e
      by (Some bytes) e = let y = found_at folder f found listing name (below name these) (some_there (f name) bytes e) in absurd (none y.0 y.1 (subst These (sym y.2) these))

module _ (These : Text → Type 0) (o : Option Content) (folder listed : Name) (found seen : List Found) (same : listed ≡ folder) (alike : seen ≡ found)
    (listing : IfSome o (λ f. IsListing listed f (map (λ x. (string_bytes x.name, x.size)) found))) (below : (n : Text) → These n → is_below folder n ≡ true) where
  pub known_first : (x : Found) (name : Text) → FindsFirst These seen x → name ≡ string_bytes x.name → IfSome o (λ f. IsFirst These f name)
  known_first x name first is = by o listing
    where
      by : (o : Option Content) → IfSome o (λ f. IsListing listed f (map pair_of found)) → IfSome o (λ f. IsFirst These f name)
      by None l = tt
      by (Some f) l = subst (λ (n : Text). IsFirst These f n) (sym is)
          (is_first These folder f found (subst (λ (t : Text). IsListing t f (map pair_of found)) same l) below x (subst (λ (s : List Found). FindsFirst These s x) alike first))

  pub known_none : FindsNone These seen → IfSome o (HasNone These)
  known_none none = by o listing
    where
      by : (o : Option Content) → IfSome o (λ f. IsListing listed f (map pair_of found)) → IfSome o (HasNone These)
      by None l = tt
      by (Some f) l = has_none These folder f found (subst (λ (t : Text). IsListing t f (map pair_of found)) same l) below (subst (λ (s : List Found). FindsNone These s) alike none)

-- ---- where these names lie

pub archive_below : (stanza name : Text) → IsArchiveFile stanza name → is_below (archive_folder stanza) name ≡ true
archive_below stanza name a = below_prefix (archive_folder stanza) (id_text a.id ⫽ archive_text a.file (sum_text a.sum)) name a.is

below_is : (folder path : Name) → is_below folder path ≡ true → (rest : Name) × (path ≡ folder ++ 47 ∷ rest)
below_is folder path h =
    let prefix = folder ++ 47 ∷ [] in
    let is : prefix ≡ take (length prefix) path = (bytes_eq-Decides prefix (take (length prefix) path)).0 h in
    (drop (length prefix) path, sym (take-append-drop (length prefix) path) ∙ ap (λ (t : Name). t ++ drop (length prefix) path) (sym is) ∙ append_assoc folder (47 ∷ []) (drop (length prefix) path))

pub label_after : (stanza : Text) (l : Label) (rest : Text) → label_folder stanza l ⫽ rest ≡ backup_folder stanza ⫽ label_text l ⫽ rest
label_after stanza l rest = append_assoc (backup_folder stanza) (47 ∷ label_text l) (47 ∷ rest)

pub in_label_is : (stanza name : Text) (a : IsInLabel stanza name) → (rest : Text) × (name ≡ backup_folder stanza ⫽ label_text a.label ⫽ rest)
in_label_is stanza name a = let r = below_is (label_folder stanza a.label) name a.below in (r.0, r.1 ∙ label_after stanza a.label r.0)

pub label_below : (stanza name : Text) → IsInLabel stanza name → is_below (backup_folder stanza) name ≡ true
label_below stanza name a = let r = in_label_is stanza name a in below_prefix (backup_folder stanza) (label_text a.label ⫽ r.0) name r.1

-- ---- an archive file by its path

following : (folder prefix rest : Text) → prefix ≡ folder ++ 47 ∷ [] → prefix ++ rest ≡ folder ++ 47 ∷ rest
following folder prefix rest is = ap (λ (t : Text). t ++ rest) is ∙ append_assoc folder (47 ∷ []) rest

pub file_of_path : (stanza prefix path : Text) (id : ArchiveId) (name : ArchiveName) (known : Option Text) → prefix ≡ archive_folder stanza ++ 47 ∷ [] → IsReadAs (below_folder prefix id) path name known → ((sum : Text) → IsSum sum → IsArchivePlace id name sum) → IsArchiveFile stanza path
file_of_path stanza prefix path id name known is read fits = record {
  id = id;
  file = name;
  sum = read.0;
  fits = fits read.0 read.1;
  is = read.2 ∙ following (archive_folder stanza) prefix (id_text id ⫽ below_id name read.0) is;
}

pub path_of_file : (stanza prefix path : Text) → prefix ≡ archive_folder stanza ++ 47 ∷ [] → (a : IsArchiveFile stanza path) → path ≡ below_folder prefix a.id a.file a.sum
path_of_file stanza prefix path is a = a.is ∙ sym (following (archive_folder stanza) prefix (id_text a.id ⫽ below_id a.file a.sum) is)

-- ---- a name in the folder of a label by its path

pub label_of_path : (stanza prefix path below first rest : Text) (l : Label) → prefix ≡ backup_folder stanza ++ 47 ∷ [] → path ≡ prefix ++ below → below ≡ first ⫽ rest → IsLabel l → first ≡ label_text l → IsInLabel stanza path
label_of_path stanza prefix path below first rest l is path_is below_is_so is_label first_is = record {
  label = l;
  is_label = is_label;
  below = below_prefix (label_folder stanza l) rest path
      (path_is ∙ following (backup_folder stanza) prefix below is ∙ ap (λ (t : Text). backup_folder stanza ⫽ t) (below_is_so ∙ ap (λ (t : Text). t ⫽ rest) first_is) ∙ sym (label_after stanza l rest));
}

pub path_of_label : (stanza prefix path : Text) → prefix ≡ backup_folder stanza ++ 47 ∷ [] → (a : IsInLabel stanza path) → (rest : Text) × (path ≡ prefix ++ (label_text a.label ⫽ rest))
path_of_label stanza prefix path is a = let r = in_label_is stanza path a in (r.0, r.1 ∙ sym (following (backup_folder stanza) prefix (label_text a.label ⫽ r.0) is))

-- ---- what the two readers return

pub archived_of : (o : Option StoredName) (stanza prefix path : Text) → IfSome o (λ known. IsReadAs (below_folder prefix known.id) path known.name (option_map (λ s. s.0) known.sum)) →
    IfSome o (λ known. (sum : Text) → IsSum sum → IsArchivePlace known.id known.name sum) → is_some o ≡ true → prefix ≡ archive_folder stanza ++ 47 ∷ [] → IsArchiveFile stanza path
archived_of None stanza prefix path value fits on is = cc on
archived_of (Some known) stanza prefix path value fits on is = file_of_path stanza prefix path known.id known.name (option_map (λ s. s.0) known.sum) is value fits

pub not_archived : (o : Option StoredName) (stanza prefix path : Text) → IfNone o ((id : ArchiveId) (name : ArchiveName) (sum : Text) → IsArchivePlace id name sum → path ≢ below_folder prefix id name sum) →
    is_some o ≡ false → prefix ≡ archive_folder stanza ++ 47 ∷ [] → IsArchiveFile stanza path → ⊥
not_archived None stanza prefix path none off is a = none a.id a.file a.sum a.fits (path_of_file stanza prefix path is a)
not_archived (Some known) stanza prefix path none off is a = cc off

module _ (stanza prefix path : Text) (is : prefix ≡ backup_folder stanza ++ 47 ∷ []) where
  pub unstripped_label : bytes_eq (take (length prefix) path) prefix ≡ false → IsInLabel stanza path → ⊥
  unstripped_label off a = let r = path_of_label stanza prefix path is a in unstripped path prefix (label_text a.label ⫽ r.0) off r.1

  module _ (below : Text) (on : bytes_eq (take (length prefix) path) prefix ≡ true) (rest : below ≡ drop (length prefix) path) where
    below_label : (a : IsInLabel stanza path) → (more : Text) × (below ≡ label_text a.label ⫽ more)
    below_label a = let r = path_of_label stanza prefix path is a in (r.0, below_after path prefix below (label_text a.label ⫽ r.0) on rest r.1)

    pub no_folder : Lacks 47 below → IsInLabel stanza path → ⊥
    no_folder lacks a = let r = below_label a in undivided 47 (label_text a.label) r.0 (subst (λ (t : Text). Lacks 47 t) r.1 lacks)

    pub folder_is : (first more : Text) → Lacks 47 first → below ≡ first ⫽ more → (a : IsInLabel stanza path) → first ≡ label_text a.label
    folder_is first more lacks cut a = let r = below_label a in (divided 47 first (label_text a.label) more r.0 lacks (label_lacks a.label) (sym cut ∙ r.1)).0

    pub in_label_of : (o : Option Label) (first more : Text) → below ≡ first ⫽ more → IfSome o (λ l. IsLabel l × (first ≡ label_text l)) → is_some o ≡ true → IsInLabel stanza path
    in_label_of None first more cut value on_it = cc on_it
    in_label_of (Some l) first more cut value on_it = label_of_path stanza prefix path below first more l is (stripped path prefix below on rest) cut value.0 value.1

    pub not_in_label : (o : Option Label) (first more : Text) → Lacks 47 first → below ≡ first ⫽ more → IfNone o ((l : Label) → IsLabel l → first ≢ label_text l) → is_some o ≡ false → IsInLabel stanza path → ⊥
    not_in_label None first more lacks cut none off_it a = none a.label a.is_label (folder_is first more lacks cut a)
    not_in_label (Some l) first more lacks cut none off_it a = cc off_it

-- ---- the whole

pub unused_of : (stanza : Text) (o : Option Content) → IfSome o (LacksStanza stanza) → IfSome o (HasNone (IsArchiveFile stanza)) → IfSome o (HasNone (IsInLabel stanza)) → IfSome o (IsUnused stanza)
unused_of stanza None lacks archive backups = tt
unused_of stanza (Some f) lacks archive backups = record {
  vacant = record { archive_pair = lacks.archive; backup_pair = lacks.backup; archived = archive };
  no_backup = backups;
}

pub lacks_of : (stanza : Text) (o : Option Content) → IfSome o (IsUnused stanza) → IfSome o (LacksStanza stanza)
lacks_of stanza None h = tt
lacks_of stanza (Some f) h = record { archive = h.vacant.archive_pair; backup = h.vacant.backup_pair }

pub archive_cause : (stanza : Text) (o : Option Content) (rose more : Type 0) → (rose → more) → IfSome o (LacksStanza stanza) → (e : StanzaFault) → FoundCause (IsArchiveFile stanza) o rose e → UnusedCause stanza o more e
archive_cause stanza None rose more wider lacks (FilesFound name) h = tt
archive_cause stanza (Some f) rose more wider lacks (FilesFound name) h = record { lacks = lacks; first = inl h }
archive_cause stanza o rose more wider lacks Disk h = wider h
archive_cause stanza o rose more wider lacks NoMemory h = tt
archive_cause stanza o rose more wider lacks (InfoDamaged name main copy) h = absurd h
archive_cause stanza o rose more wider lacks (HistoryDiffers at) h = absurd h
archive_cause stanza o rose more wider lacks (StanzaMismatch kept found) h = absurd h
archive_cause stanza o rose more wider lacks (ArchiveLost label) h = absurd h

pub backup_cause : (stanza : Text) (o : Option Content) (rose more : Type 0) → (rose → more) → IfSome o (LacksStanza stanza) → IfSome o (HasNone (IsArchiveFile stanza)) → (e : StanzaFault) → FoundCause (IsInLabel stanza) o rose e → UnusedCause stanza o more e
backup_cause stanza None rose more wider lacks none (FilesFound name) h = tt
backup_cause stanza (Some f) rose more wider lacks none (FilesFound name) h = record { lacks = lacks; first = inr (none, h) }
backup_cause stanza o rose more wider lacks none Disk h = wider h
backup_cause stanza o rose more wider lacks none NoMemory h = tt
backup_cause stanza o rose more wider lacks none (InfoDamaged name main copy) h = absurd h
backup_cause stanza o rose more wider lacks none (HistoryDiffers at) h = absurd h
backup_cause stanza o rose more wider lacks none (StanzaMismatch kept found) h = absurd h
backup_cause stanza o rose more wider lacks none (ArchiveLost label) h = absurd h

pub create_cause : (stanza : Text) (known : Control) (o : Option Content) (rose more : Type 0) → (rose → more) → (e : StanzaFault) → UnusedCause stanza o rose e → CreateCause stanza known o more e
create_cause stanza known o rose more wider (FilesFound name) h = h
create_cause stanza known o rose more wider Disk h = wider h
create_cause stanza known o rose more wider NoMemory h = tt
create_cause stanza known o rose more wider (InfoDamaged name main copy) h = absurd h
create_cause stanza known o rose more wider (HistoryDiffers at) h = absurd h
create_cause stanza known o rose more wider (StanzaMismatch kept found) h = absurd h
create_cause stanza known o rose more wider (ArchiveLost label) h = absurd h
