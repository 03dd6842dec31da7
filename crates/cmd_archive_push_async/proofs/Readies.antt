-- What a listing of the server's folder says about the files that are ready.
use Rattle.std.proofs.Common.{◌≡◌, ◌≢◌, ⊎_elim, Bool, true, false, List, [], ◌∷◌, ◌++◌, map, Option, Some, None, refl, ap, ◌∙◌, sym, subst, append_assoc, rules}
use Rattle.std.specs.Prelude.{IfSome, IfNone, IsSome, codes, string_bytes}
use Rattle.std.proofs.lemmas.List.{append_cancel_left, append_cancel_right}
use Rattle.base_devices.specs.Content.{Name, LiesDirectlyIn}
use Rattle.base_devices.specs.Order.{are_in_order}
use Rattle.base_devices.specs.DataFolder.{Nodes, Held, file, folder, link, other, file_bytes, shown, IsFolderListing}
use Rattle.base_devices.specs.declared.data_folder.Node.{Node}
use Rattle.base_devices.specs.declared.data_folder.FolderEntry.{FolderEntry}
use Rattle.base_model.specs.declared.wal.ArchiveName.{ArchiveName}
use Rattle.base_model.specs.Names.{wal_text}
use Rattle.base_model.specs.Represents.{IsWalName}
use Rattle.base_model.specs.Text.{In}
use Rattle.archive_lookup.specs.Listing.{Picks}
use Rattle.archive_lookup.specs.Paths.{Lacks}
use Rattle.archive_lookup.proofs.Cuts.{lacks_append}
use Rattle.archive_lookup.proofs.OnePath.{wal_injective}
use Rattle.archive_lookup.proofs.Orders.{from_map, in_of, contains_of, in_map}
use Rattle.archive_lookup.proofs.Picked.{picked, met, picked_order}
use Rattle.archive_store.proofs.PathLies.{lacks_not, wal_slash}
use Rattle.cmd_archive_push_async.specs.Ready.{ready_path, IsReady, AreReady, is_file, ShowsReady, PassesReady}

abbrev pub pair_of : FolderEntry → Name × Node
pair_of x = (string_bytes x.path, x.node)

map_twice : (seen : List FolderEntry) → map (λ (p : Name × Node). p.0) (map pair_of seen) ≡ map (λ (x : FolderEntry). string_bytes x.path) seen
map_twice [] = refl
map_twice (x ∷ xs) = ap (λ (l : List Name). string_bytes x.path ∷ l) (map_twice xs)

-- a node that is shown as a file has bytes
file_shown : (node : Node) (held : Held) → node ≡ shown held → is_file node ≡ true → IsSome (file_bytes (Some held))
file_shown node (file bytes time) e is = refl
file_shown node folder e is = let u : ◌≡◌ {A = Bool} false true = sym (ap is_file e) ∙ is in cc
file_shown node link e is = let u : ◌≡◌ {A = Bool} false true = sym (ap is_file e) ∙ is in cc
file_shown node other e is = let u : ◌≡◌ {A = Bool} false true = sym (ap is_file e) ∙ is in cc

-- a node with bytes is shown as a file
shown_file : (o : Option Held) → IsSome (file_bytes o) → (held : Held) × (o ≡ Some held) × (is_file (shown held) ≡ true)
shown_file None some = cc
shown_file (Some (file bytes time)) some = (file bytes time, refl, refl)
shown_file (Some folder) some = cc
shown_file (Some link) some = cc
shown_file (Some other) some = cc

-- a path names one file
one_name : (m n : ArchiveName) → IsWalName m → IsWalName n → ready_path m ≡ ready_path n → m ≡ n
one_name m n p q e = wal_injective m n p q (append_cancel_right (wal_text m) (wal_text n) (codes ".ready")
    (append_cancel_left (codes "pg_wal/archive_status/") (wal_text m ++ codes ".ready") (wal_text n ++ codes ".ready") e))

-- where the server says which files are ready
abbrev pub ready_folder : Name
ready_folder = codes "pg_wal/archive_status"

ready_slash : Lacks 47 (codes ".ready")
ready_slash = search rules

-- that of a file lies right within the folder
ready_lies : (name : ArchiveName) → LiesDirectlyIn ready_folder (ready_path name)
ready_lies name =
    let last = wal_text name ++ codes ".ready" in
    (last, append_assoc ready_folder (47 ∷ []) last, lacks_not 47 last (lacks_append 47 (wal_text name) (codes ".ready") (wal_slash name) ready_slash))

module _ (f : Nodes) (seen : List FolderEntry) (names : List ArchiveName) (listing : IsFolderListing f ready_folder (map pair_of seen)) (picks : Picks ShowsReady PassesReady seen names) where
  each_ready : (name : ArchiveName) → In name names → IsReady f name
  each_ready name at =
      let x = picked ShowsReady PassesReady seen names picks name at in
      let h = (listing.each (string_bytes x.0.path) x.0.node (contains_of (map pair_of seen) (pair_of x.0) (in_map pair_of seen x.0 x.1))).1 in
      subst (λ (o : Option Held). IsSome (file_bytes o)) (sym (sym (ap f x.2.path) ∙ h.1)) (file_shown x.0.node h.0 h.2 x.2.file)

  all_ready : (name : ArchiveName) → IsWalName name → IsReady f name → In name names
  all_ready name fits ready =
      let h = shown_file (f (ready_path name)) ready in
      let x = from_map pair_of seen (ready_path name, shown h.0) (in_of (map pair_of seen) (ready_path name, shown h.0) (listing.all (ready_path name) h.0 (ready_lies name) h.1)) in
      let path : string_bytes x.0.path ≡ ready_path name = sym (ap (λ (p : Name × Node). p.0) x.2) in
      let node : is_file x.0.node ≡ true = ap is_file (sym (ap (λ (p : Name × Node). p.1) x.2)) ∙ h.2 in
      ⊎_elim (λ (passes : PassesReady x.0). absurd (passes name fits node path))
      (λ (y : (y : ArchiveName) × In y names × ShowsReady x.0 y). subst (λ (k : ArchiveName). In k names) (one_name y.0 name y.2.fits fits (sym y.2.path ∙ path)) y.1)
      (met ShowsReady PassesReady seen names picks x.0 x.1)

  pub are_ready : AreReady f names
  are_ready = record {
    each = each_ready;
    all = all_ready;
    order = picked_order ShowsReady PassesReady (λ (x : FolderEntry). string_bytes x.path) ready_path (λ x y h. sym h.path) seen names picks (ap are_in_order (sym (map_twice seen)) ∙ listing.order);
  }

pub known_ready : (o : Option Nodes) (within : Name) (found seen : List FolderEntry) (names : List ArchiveName) → within ≡ ready_folder → seen ≡ found → IfSome o (λ f. IsFolderListing f within (map (λ s. (string_bytes s.path, s.node)) found)) → Picks ShowsReady PassesReady seen names → IfSome o (λ f. AreReady f names)
known_ready None within found seen names folder_is same listing picks = tt
known_ready (Some f) within found seen names folder_is same listing picks = are_ready f found names (subst (λ (w : Name). IsFolderListing f w (map pair_of found)) folder_is listing) (subst (λ (l : List FolderEntry). Picks ShowsReady PassesReady l names) same picks)

-- ---- one node

module _ (seen : FolderEntry) (text prefix end : Name) (text_is : text ≡ string_bytes seen.path) (prefix_is : prefix ≡ codes "pg_wal/archive_status/") (end_is : end ≡ codes ".ready") where
  same_path : (name : ArchiveName) → prefix ++ (wal_text name ++ end) ≡ ready_path name
  same_path name = ap (λ (t : Name). t ++ (wal_text name ++ end)) prefix_is ∙ ap (λ (t : Name). codes "pg_wal/archive_status/" ++ (wal_text name ++ t)) end_is

  pub shows_ready : is_file seen.node ≡ true → (r : Option ArchiveName) → IfSome r (λ name. text ≡ prefix ++ (wal_text name ++ end)) → IfSome r IsWalName → IfSome r (ShowsReady seen)
  shows_ready is None h fits = tt
  shows_ready is (Some name) h fits = record { fits = fits; path = sym text_is ∙ h ∙ same_path name; file = is }

  pub passes_ready : (r : Option ArchiveName) → IfNone r ((name : ArchiveName) → IsWalName name → text ≢ prefix ++ (wal_text name ++ end)) → IfNone r (PassesReady seen)
  passes_ready (Some name) h = tt
  passes_ready None h = λ name fits is e. h name fits (text_is ∙ e ∙ sym (same_path name))

pub passes_other : (seen : FolderEntry) (b : Bool) → b ≡ is_file seen.node → b ≡ false → PassesReady seen
passes_other seen b is off name fits on e = let u : ◌≡◌ {A = Bool} false true = sym off ∙ is ∙ on in cc
