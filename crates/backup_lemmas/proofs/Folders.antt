-- A backup holds the data folder, where all its links read what that folder holds, and what it leaves is as the folder
-- has it.
use Rattle.std.proofs.Common.{◌≡◌, ◌↔◌, inl, inr, ℕ, Bool, true, false, List, [], ◌∷◌, ◌++◌, length, map, Option, Some, None, refl, sym, ◌∙◌, ap, subst}
use Rattle.std.specs.Prelude.{IsSome, IsSomeAnd, unwrap_or, if◌then◌else◌}
use Rattle.std.specs.FinMap.{get}
use Rattle.base_devices.specs.declared.data_folder.Node.{Node}
use Rattle.base_devices.specs.declared.data_folder.Node.TheVariants as nodes
use Rattle.base_devices.specs.Content.{Content, Value}
use Rattle.base_devices.specs.Moments.{View}
use Rattle.base_devices.specs.Links.{LinkState}
use Rattle.base_devices.specs.DataFolder.{Held, Nodes, IsTreeListing, file, folder, link, other, shown, file_bytes}
use Rattle.base_model.specs.Text.{Text, In}
use Rattle.base_model.specs.Values.{FileEntry, Manifest}
use Rattle.base_model.specs.Repository.{File}
use Rattle.worker_pool.specs.Payloads.{AllRead}
use Rattle.backup_plan.specs.Listed.{Taken}
use Rattle.backup_plan.specs.Filter.{ListedNode, is_kept, kept, file_at, folder_at, files_of, folders_of, Takes}
use Rattle.backup_plan.proofs.Searched.{in_at, at_of}
use Rattle.backup_plan.proofs.Kept.{kept_is, file_node, folder_node}
use Rattle.backup_record.specs.Entries.{file_of}
use Rattle.backup_record.proofs.Made.{in_map, of_map}
use Rattle.backup_record.proofs.Maps.{map_of, get_of}
use Rattle.backup_make.specs.declared.draft.Draft.{Draft}
use Rattle.backup_make.specs.Draft.{taken_in, folders_in, old_in, went_with, IsDraft}
use Rattle.backup_make.specs.Made.{Makes}
use Rattle.backup_make.proofs.Offline.{file_in, held_at, AreHeld, Represents, folder_files}
use Rattle.backup_lemmas.specs.Backups.{IsOfFolder, bytes_in}
use Rattle.backup_lemmas.proofs.Prior.{files_before}
use Rattle.backup_lemmas.proofs.Values.{value_in}
use Rattle.backup_lemmas.proofs.Reading.{rows_of, full_backup, files_sorted, have}

-- ---- files and folders of a listing

kept_in : (online : Bool) (ns : List ListedNode) (n : ListedNode) → In n ns → is_kept online n ≡ true → In n (kept online ns)
kept_in online [] n i keep = absurd i
kept_in online (m ∷ ms) n (inl e) keep = let first : is_kept online m ≡ true = subst (λ (k : ListedNode). is_kept online k ≡ true) e keep in rw first (inl e)
kept_in online (m ∷ ms) n (inr i) keep = by (is_kept online m) (kept_in online ms n i keep) where
  by : (b : Bool) → In n (kept online ms) → In n (if b then m ∷ kept online ms else kept online ms)
  by true j = inr j
  by false j = j

in_back : {X : Type 0} (xs ys : List X) (x : X) → In x ys → In x (xs ++ ys)
in_back [] ys x i = i
in_back (z ∷ xs) ys x i = inr (in_back xs ys x i)

taken_at : (ns : List ListedNode) (t : Taken) → In (let n : ListedNode = (t.path, nodes.File t.size t.time) in n) ns → In t (files_of ns)
taken_at [] t i = absurd i
taken_at (n ∷ ns) t (inl e) = subst (λ (m : ListedNode). In t (file_at m.0 m.1 ++ files_of ns)) e (inl refl)
taken_at (n ∷ ns) t (inr i) = in_back (file_at n.0 n.1) (files_of ns) t (taken_at ns t i)

folder_in : (ns : List ListedNode) (p : Text) → In (let n : ListedNode = (p, nodes.Folder) in n) ns → In p (folders_of ns)
folder_in [] p i = absurd i
folder_in (n ∷ ns) p (inl e) = subst (λ (m : ListedNode). In p (folder_at m.0 m.1 ++ folders_of ns)) e (inl refl)
folder_in (n ∷ ns) p (inr i) = in_back (folder_at n.0 n.1) (folders_of ns) p (folder_in ns p i)

-- ---- what a node of a folder is, by what its listing shows

as_file : (o : Option Held) (size time : ℕ) (held : Held) → o ≡ Some held → nodes.File size time ≡ shown held → (bytes : Text) × (o ≡ Some (file bytes time)) × (length bytes ≡ size)
as_file o size time (file bytes at) is same =
    let e : ◌≡◌ {A = Node} (nodes.File size time) (nodes.File (length bytes) at) = same in
    let long : length bytes ≡ size = cc in
    let then_at : at ≡ time = cc in
    (bytes, is ∙ ap (λ (n : ℕ). (let h : Option Held = Some (file bytes n) in h)) then_at, long)
as_file o size time folder is same = absurd (let e : ◌≡◌ {A = Node} (nodes.File size time) nodes.Folder = same in cc)
as_file o size time link is same = absurd (let e : ◌≡◌ {A = Node} (nodes.File size time) nodes.Link = same in cc)
as_file o size time other is same = absurd (let e : ◌≡◌ {A = Node} (nodes.File size time) nodes.Other = same in cc)

as_folder : (o : Option Held) (held : Held) → o ≡ Some held → nodes.Folder ≡ shown held → o ≡ Some folder
as_folder o (file bytes time) is same = absurd (let e : ◌≡◌ {A = Node} nodes.Folder (nodes.File (length bytes) time) = same in cc)
as_folder o folder is same = is
as_folder o link is same = absurd (let e : ◌≡◌ {A = Node} nodes.Folder nodes.Link = same in cc)
as_folder o other is same = absurd (let e : ◌≡◌ {A = Node} nodes.Folder nodes.Other = same in cc)

module _ (f : Nodes) (seen : List ListedNode) (listing : IsTreeListing f seen) where
  -- a node that is listed
  node_at : (path : Text) (node : Node) → In (let n : ListedNode = (path, node) in n) seen → (held : Held) × (f path ≡ Some held) × (node ≡ shown held)
  node_at path node i = let at = at_of seen (path, node) i in listing.each path node (at.0, at.1, at.2 (path, node))

  -- and one that is there
  listed_at : (path : Text) (held : Held) → f path ≡ Some held → In (let n : ListedNode = (path, shown held) in n) seen
  listed_at path held is = let at = listing.all path held is in subst (λ (n : ListedNode). In n seen) at.2 (in_at seen at.0 (path, shown held) at.1)

  -- a file that is taken
  pub taken_file : (t : Taken) → In t (files_of (kept false seen)) → (bytes : Text) × (f t.path ≡ Some (file bytes t.time)) × (length bytes ≡ t.size) × (is_kept false (t.path, nodes.File t.size t.time) ≡ true)
  taken_file t i =
      let k = kept_is false seen (t.path, nodes.File t.size t.time) (file_node (kept false seen) t i) in
      let h = node_at t.path (nodes.File t.size t.time) k.1 in
      let x = as_file (f t.path) t.size t.time h.0 h.1 h.2 in
      (x.0, x.1, x.2, k.0)

  pub file_taken : (path bytes : Text) (time : ℕ) → f path ≡ Some (file bytes time) → is_kept false (path, nodes.File (length bytes) time) ≡ true → In (let t : Taken = record { path = path; size = length bytes; time = time } in t) (files_of (kept false seen))
  file_taken path bytes time is keep =
      taken_at (kept false seen) (record { path = path; size = length bytes; time = time }) (kept_in false seen (path, nodes.File (length bytes) time) (listed_at path (file bytes time) is) keep)

  pub folders_taken : (path : Text) → In path (folders_of (kept false seen)) ↔ ((f path ≡ Some folder) × (is_kept false (path, nodes.Folder) ≡ true))
  folders_taken path = (
    λ i. (
        let k = kept_is false seen (path, nodes.Folder) (folder_node (kept false seen) path i) in
        let h = node_at path nodes.Folder k.1 in
        (as_folder (f path) h.0 h.1 h.2, k.0)
        ),
    λ x. folder_in (kept false seen) path (kept_in false seen (path, nodes.Folder) (listed_at path folder x.0) x.1),
  )

-- ---- the backup

module _ (draft : Draft) (is_draft : IsDraft draft) (links : List LinkState) (whole : Bool) (a d : View) (known : IsSome a.now) (makes : Makes draft links whole a d)
    (f : Nodes) (repo : Content) (read : AllRead (bytes_in f) repo links) (held : AreHeld (bytes_in f) (files_before draft a.now) (taken_in draft) draft.plan.choices.items) (seen : List ListedNode) (listing : IsTreeListing f seen) (takes : Takes false seen (taken_in draft) (folders_in draft)) where
  abbrev files : List (Text × File)
  files = map file_of (rows_of draft a.now makes.ends makes.kept)

  file_there : (t : Taken) → In t (taken_in draft) → (bytes : Text) × (f t.path ≡ Some (file bytes t.time)) × (length bytes ≡ t.size) × (is_kept false (t.path, nodes.File t.size t.time) ≡ true)
  file_there t i = taken_file f seen listing t (subst (λ (ts : List Taken). In t ts) takes.files i)

  standing : (t : Taken) → In t (taken_in draft) → Represents (bytes_in f) t
  standing t i = let x = file_there t i in subst (λ (v : Value). IsSomeAnd v (λ bytes. length bytes ≡ t.size)) (sym (ap file_bytes x.1)) x.2

  files_are : files ≡ map (file_in (bytes_in f)) (taken_in draft)
  files_are = folder_files draft is_draft links whole a d known makes (bytes_in f) repo read (files_before draft a.now) standing held

  -- what the folder holds there
  held_is : (path bytes : Text) (time : ℕ) → f path ≡ Some (file bytes time) → held_at (bytes_in f) path ≡ bytes
  held_is path bytes time is = ap (λ (o : Option Held). unwrap_or (file_bytes o) []) is

  has : (path bytes : Text) (time : ℕ) → f path ≡ Some (file bytes time) → is_kept false (path, nodes.File (length bytes) time) ≡ true → get (full_backup draft links whole a d makes).files path ≡ Some (record { bytes = bytes; time = time })
  has path bytes time is keep =
      let t : Taken = record { path = path; size = length bytes; time = time } in
      let i = subst (λ (ts : List Taken). In t ts) (sym takes.files) (file_taken f seen listing path bytes time is keep) in
      let at = in_map (file_in (bytes_in f)) t (taken_in draft) i in
      let named = subst (λ (b : Text). In (let z : Text × File = (path, record { bytes = b; time = time }) in z) (map (file_in (bytes_in f)) (taken_in draft))) (held_is path bytes time is) at in
      get_of files path (record { bytes = bytes; time = time }) (files_sorted draft is_draft None tt links whole a d makes)
      (subst (λ (zs : List (Text × File)). In (let z : Text × File = (path, record { bytes = bytes; time = time }) in z) zs) (sym files_are) named)

  only : (path : Text) (x : File) → get (full_backup draft links whole a d makes).files path ≡ Some x → (f path ≡ Some (file x.bytes x.time)) × (is_kept false (path, nodes.File (length x.bytes) x.time) ≡ true)
  only path x is =
      let at = value_in files path x (files_sorted draft is_draft None tt links whole a d makes) is in
      let q = of_map (file_in (bytes_in f)) (let z : Text × File = (path, x) in z) (taken_in draft) (subst (λ (zs : List (Text × File)). In (let z : Text × File = (path, x) in z) zs) files_are at) in
      let t = q.0 in
      let y = file_there t q.1 in
      let same_path : path ≡ t.path = ap (λ (z : Text × File). z.0) q.2 in
      let same_bytes : x.bytes ≡ y.0 = ap (λ (z : Text × File). z.1.bytes) q.2 ∙ held_is t.path y.0 t.time y.1 in
      let same_time : x.time ≡ t.time = ap (λ (z : Text × File). z.1.time) q.2 in
      let size : t.size ≡ length x.bytes = sym y.2 ∙ ap (λ (b : Text). length b) (sym same_bytes) in (
        ap f same_path ∙ y.1 ∙ ap (λ (b : Text). (let h : Option Held = Some (file b t.time) in h)) (sym same_bytes) ∙ ap (λ (n : ℕ). (let h : Option Held = Some (file x.bytes n) in h)) (sym same_time),
        subst (λ (p : Text). is_kept false (p, nodes.File (length x.bytes) x.time) ≡ true) (sym same_path)
            (subst (λ (n : ℕ). is_kept false (t.path, nodes.File n x.time) ≡ true) size
            (subst (λ (n : ℕ). is_kept false (t.path, nodes.File t.size n) ≡ true) (sym same_time) y.3)),
      )

  folders_are : makes.manifest.folders ≡ folders_of (kept false seen)
  folders_are = ap (λ (m : Manifest). m.folders) makes.manifest_is ∙ takes.folders_are

  pub of_folder : IsOfFolder f (full_backup draft links whole a d makes)
  of_folder = record {
    has = has;
    only = only;
    folders = λ path. subst (λ (ps : List Text). In path ps ↔ ((f path ≡ Some folder) × (is_kept false (path, nodes.Folder) ≡ true))) (sym folders_are) (folders_taken f seen listing path);
  }
