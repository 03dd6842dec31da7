-- What the listing of the stanza's folder says about its archive files.
use Rattle.std.proofs.Common.{◌≡◌, ◌≢◌, ⊎_elim, ◌<◌, ℕ, List, [], ◌∷◌, ◌++◌, length, map, Option, Some, None, ap, ◌∙◌, sym, subst, append_assoc}
use Rattle.std.specs.Prelude.{IfSome, IsSome, option_map, string_bytes}
use Rattle.base_text.specs.Sum.{IsSum}
use Rattle.base_devices.specs.declared.disk.Found.{Found}
use Rattle.base_devices.specs.Content.{Content, IsListing}
use Rattle.base_disk.proofs.Below.{below_prefix}
use Rattle.base_model.specs.declared.wal.ArchiveId.{ArchiveId}
use Rattle.base_model.specs.declared.wal.ArchiveName.{ArchiveName}
use Rattle.base_model.specs.Text.{Text, ◌⫽◌, In}
use Rattle.base_model.specs.Names.{archive_folder, id_text}
use Rattle.base_model.specs.Represents.{IsArchivePlace, IsArchiveFile}
use Rattle.archive_lookup.specs.declared.stored.files.Stored.{Stored}
use Rattle.archive_lookup.specs.Stored.{archive_path, IsStoredFile, AreStored}
use Rattle.archive_lookup.specs.Paths.{IsReadAs, below_folder, below_id}
use Rattle.archive_lookup.specs.Listing.{Picks, ShowsFile, PassesFile}
use Rattle.archive_lookup.proofs.Picked.{picked, met, picked_order}
use Rattle.archive_lookup.proofs.Looked.{pair_of, found_at, held_at, found_order, long_as}

pub shows_file : (folder from path : Text) (x : Found) (y : Stored) → IsReadAs (below_folder from y.id) path y.name (option_map (λ s. s.0) y.sum) → ((sum : Text) → IsSum sum → IsArchivePlace y.id y.name sum)
    → from ≡ folder → path ≡ string_bytes x.name → string_bytes y.path ≡ string_bytes x.name → y.size ≡ x.size → ShowsFile folder x y
shows_file folder from path x y r fits e at named size = record {
  named = named;
  length = size;
  read = (r.0, r.1, sym at ∙ r.2 ∙ ap (λ (t : Text). below_folder t y.id y.name r.0) e, r.3);
  fits = fits;
}

pub passes_file : (folder from path : Text) (x : Found) → ((id : ArchiveId) (name : ArchiveName) (sum : Text) → IsArchivePlace id name sum → path ≢ below_folder from id name sum) → from ≡ folder → path ≡ string_bytes x.name → PassesFile folder x
passes_file folder from path x none e at id name sum fits is = none id name sum fits (at ∙ is ∙ ap (λ (t : Text). below_folder t id name sum) (sym e))

module _ (stanza : Text) (f : Content) (folder prefix : Text) (found : List Found) (files : List Stored)
    (folder_is : folder ≡ archive_folder stanza) (prefix_is : prefix ≡ folder ++ 47 ∷ []) (listing : IsListing folder f (map pair_of found)) (picks : Picks (ShowsFile prefix) (PassesFile prefix) found files) where
  path_is : (id : ArchiveId) (name : ArchiveName) (sum : Text) → below_folder prefix id name sum ≡ archive_path stanza id name sum
  path_is id name sum = ap (λ (t : Text). t ++ (id_text id ⫽ below_id name sum)) (prefix_is ∙ ap (λ (t : Text). t ++ 47 ∷ []) folder_is)
      ∙ append_assoc (archive_folder stanza) (47 ∷ []) (id_text id ⫽ below_id name sum)

  each_stored : (y : Stored) → In y files → IsStoredFile stanza f y
  each_stored y at =
      let x = picked (ShowsFile prefix) (PassesFile prefix) found files picks y at in
      let r = x.2.read in
      let held = held_at folder f found listing x.0 x.1 in
      record {
        sum = r.0;
        fits = x.2.fits r.0 r.1;
        path = x.2.named ∙ r.2 ∙ path_is y.id y.name r.0;
        known = r.3;
        size = long_as (f (string_bytes y.path)) held.0 y.size (ap f x.2.named ∙ held.1) (held.2 ∙ sym x.2.length);
      }

  all_stored : (name : Text) → IsArchiveFile stanza name → IsSome (f name) → (y : Stored) × In y files × (string_bytes y.path ≡ name)
  all_stored name is some =
      let below = below_prefix folder (id_text is.id ⫽ below_id is.file is.sum) name (is.is ∙ ap (λ (t : Text). t ⫽ id_text is.id ⫽ below_id is.file is.sum) (sym folder_is)) in
      let x = found_at folder f found listing name below some in
      ⊎_elim (λ (passes : PassesFile prefix x.0). absurd (passes is.id is.file is.sum is.fits (x.2 ∙ is.is ∙ sym (path_is is.id is.file is.sum))))
      (λ (y : (y : Stored) × In y files × ShowsFile prefix x.0 y). (y.0, y.1, y.2.named ∙ x.2))
      (met (ShowsFile prefix) (PassesFile prefix) found files picks x.0 x.1)

  are_stored : AreStored stanza f files
  are_stored = record {
    each = each_stored;
    all = all_stored;
    order = picked_order (ShowsFile prefix) (PassesFile prefix) (λ (x : Found). string_bytes x.name) (λ (y : Stored). string_bytes y.path) (λ x y h. h.named) found files picks (found_order folder f found listing);
  }

pub known_stored : (stanza : Text) (o : Option Content) (folder listed prefix : Text) (found seen : List Found) (files : List Stored) → folder ≡ archive_folder stanza → listed ≡ folder → prefix ≡ folder ++ 47 ∷ [] → seen ≡ found
    → IfSome o (λ f. IsListing listed f (map (λ x. (string_bytes x.name, x.size)) found)) → Picks (ShowsFile prefix) (PassesFile prefix) seen files → IfSome o (λ f. AreStored stanza f files)
known_stored stanza None folder listed prefix found seen files folder_is same prefix_is alike listing picks = tt
known_stored stanza (Some f) folder listed prefix found seen files folder_is same prefix_is alike listing picks =
    are_stored stanza f folder prefix found files folder_is prefix_is (subst (λ (t : Text). IsListing t f (map pair_of found)) same listing) (subst (λ (l : List Found). Picks (ShowsFile prefix) (PassesFile prefix) l files) alike picks)

pub known_many : (stanza : Text) (o : Option Content) (files : List Stored) (limit : ℕ) → IfSome o (λ f. AreStored stanza f files) → limit < length files → IfSome o (λ f. (files : List Stored) × AreStored stanza f files × (limit < length files))
known_many stanza None files limit are more = tt
known_many stanza (Some f) files limit are more = (files, are, more)
