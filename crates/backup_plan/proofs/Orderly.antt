-- A true listing is in order, and so is what is taken of it.
use Rattle.std.proofs.Common.{◌≡◌, ◌⊎◌, ⊎_elim, inl, inr, Bool, true, false, List, [], ◌∷◌, ◌++◌, map, refl, sym, ap, ◌∙◌, subst}
use Rattle.std.specs.Prelude.{◌&&◌, not, if◌then◌else◌}
use Rattle.std.proofs.lemmas.Bool.{and_parts}
use Rattle.std.proofs.lemmas.Cmp.{nat_list_cmp_total}
use Rattle.base_devices.specs.Order.{is_before, are_after, are_in_order}
use Rattle.base_devices.specs.DataFolder.{Nodes, IsTreeListing}
use Rattle.base_devices.specs.declared.data_folder.Node.{Node}
use Rattle.base_devices.specs.declared.data_folder.Node.TheVariants as nodes
use Rattle.base_model.specs.Text.{Text, In, ◌⫽◌}
use Rattle.repo_ini.proofs.Orders.{less_from, not_itself}
use Rattle.backup_plan.specs.declared.fault.PlanFault.{PlanFault}
use Rattle.backup_plan.specs.declared.fault.PlanFault.TheVariants as faults
use Rattle.backup_plan.specs.Listed.{Taken}
use Rattle.backup_plan.specs.Omitted.{is_omitted}
use Rattle.backup_plan.specs.Filter.{ListedNode, is_kept, kept, file_at, folder_at, files_of, folders_of, paths_of, IsPlaced, IsOrdered, IsRefused}
use Rattle.backup_plan.proofs.Searched.{in_at, at_of, later}
use Rattle.backup_plan.proofs.Kept.{kept_is, not_omitted, file_node, folder_node}
use Rattle.backup_plan.proofs.Parents.{parent_kept}

abbrev path_at : ListedNode → Text
path_at n = n.0

both : (a b : Bool) → a ≡ true → b ≡ true → (a && b) ≡ true
both true b h k = k
both false b h k = h

before_from : (a b : Text) → (a' : Text) → is_before a a' ≡ true → is_before a' b ≡ true → is_before a b ≡ true
before_from a b a' h k = rw (nat_list_cmp_total.trans a a' b (less_from a a' h) (less_from a' b k)) refl

weaken : (last next : Text) (ns : List Text) → is_before last next ≡ true → are_after next ns ≡ true → are_after last ns ≡ true
weaken last next [] b h = refl
weaken last next (n ∷ ns) b h = let p = and_parts (is_before next n) (are_after n ns) h in both (is_before last n) (are_after n ns) (before_from last n next b p.0) p.1

in_order : (last : Text) (ns : List Text) → are_after last ns ≡ true → are_in_order ns ≡ true
in_order last [] h = refl
in_order last (n ∷ ns) h = (and_parts (is_before last n) (are_after n ns) h).1

-- ---- some of a listing, each under its own path

module _ {Y : Type 0} (name : Y → Text) (pick : ListedNode → List Y) (one : (n : ListedNode) → (pick n ≡ []) ⊎ ((y : Y) × (pick n ≡ y ∷ []) × (name y ≡ n.0))) where
  abbrev picked : List ListedNode → List Y
  picked [] = []
  picked (n ∷ ns) = pick n ++ picked ns

  abbrev names : List Y → List Text
  names ys = map name ys

  after : (last : Text) (ns : List ListedNode) → are_after last (map path_at ns) ≡ true → are_after last (names (picked ns)) ≡ true
  after last [] h = refl
  after last (n ∷ ns) h =
      let p = and_parts (is_before last n.0) (are_after n.0 (map path_at ns)) h in
      let rest = after n.0 ns p.1 in
      ⊎_elim
      (λ (e : pick n ≡ []). subst (λ (ys : List Y). are_after last (names (ys ++ picked ns)) ≡ true) (sym e) (weaken last n.0 (names (picked ns)) p.0 rest))
      (λ (r : (y : Y) × (pick n ≡ y ∷ []) × (name y ≡ n.0)).
      subst (λ (ys : List Y). are_after last (names (ys ++ picked ns)) ≡ true) (sym r.1)
      (subst (λ (t : Text). (is_before last t && are_after t (names (picked ns))) ≡ true) (sym r.2) (both (is_before last n.0) (are_after n.0 (names (picked ns))) p.0 rest)))
      (one n)

  ordered : (ns : List ListedNode) → are_in_order (map path_at ns) ≡ true → are_in_order (names (picked ns)) ≡ true
  ordered [] h = refl
  ordered (n ∷ ns) h =
      let rest = after n.0 ns h in
      ⊎_elim
      (λ (e : pick n ≡ []). subst (λ (ys : List Y). are_in_order (names (ys ++ picked ns)) ≡ true) (sym e) (in_order n.0 (names (picked ns)) rest))
      (λ (r : (y : Y) × (pick n ≡ y ∷ []) × (name y ≡ n.0)).
      subst (λ (ys : List Y). are_in_order (names (ys ++ picked ns)) ≡ true) (sym r.1)
      (subst (λ (t : Text). are_after t (names (picked ns)) ≡ true) (sym r.2) rest))
      (one n)

-- ---- files and folders of a listing, each picked at its node

file_by : Bool → Text → Node → List Taken
file_by b path node = if b then file_at path node else []

folder_by : Bool → Text → Node → List Text
folder_by b path node = if b then folder_at path node else []

one_file : (b : Bool) (path : Text) (node : Node) → (file_by b path node ≡ []) ⊎ ((f : Taken) × (file_by b path node ≡ f ∷ []) × (f.path ≡ path))
unfolding file_by
one_file true path (nodes.File size time) = inr (record { path = path; size = size; time = time }, refl, refl)
one_file true path nodes.Folder = inl refl
one_file true path nodes.Link = inl refl
one_file true path nodes.Other = inl refl
one_file false path node = inl refl

one_folder : (b : Bool) (path : Text) (node : Node) → (folder_by b path node ≡ []) ⊎ ((p : Text) × (folder_by b path node ≡ p ∷ []) × (p ≡ path))
unfolding folder_by
one_folder true path nodes.Folder = inr (path, refl, refl)
one_folder true path (nodes.File size time) = inl refl
one_folder true path nodes.Link = inl refl
one_folder true path nodes.Other = inl refl
one_folder false path node = inl refl

kept_in : (online : Bool) (ns : List ListedNode) (n : ListedNode) → In n ns → is_kept online n ≡ true → In n (kept online ns)
kept_in online [] n i keep = absurd i
kept_in online (m ∷ ms) n (inl e) keep = let first : is_kept online m ≡ true = subst (λ (k : ListedNode). is_kept online k ≡ true) e keep in rw first (inl e)
kept_in online (m ∷ ms) n (inr i) keep = by (is_kept online m) (kept_in online ms n i keep) where
  by : (b : Bool) → In n (kept online ms) → In n (if b then m ∷ kept online ms else kept online ms)
  by true j = inr j
  by false j = j

in_back : {X : Type 0} (xs ys : List X) (x : X) → In x ys → In x (xs ++ ys)
in_back [] ys x i = i
in_back (z ∷ xs) ys x i = inr (in_back xs ys x i)

folder_in : (ns : List ListedNode) (p : Text) → In (p, nodes.Folder) ns → In p (folders_of ns)
folder_in [] p i = absurd i
folder_in (n ∷ ns) p (inl e) = subst (λ (m : ListedNode). In p (folder_at m.0 m.1 ++ folders_of ns)) e (inl refl)
folder_in (n ∷ ns) p (inr i) = in_back (folder_at n.0 n.1) (folders_of ns) p (folder_in ns p i)

-- a path is once
unique : (ns : List ListedNode) (n m : ListedNode) → are_in_order (map path_at ns) ≡ true → In n ns → In m ns → n.0 ≡ m.0 → n ≡ m
unique [] n m h i j same = absurd i
unique (k ∷ ns) n m h (inl e) (inl f) same = e ∙ sym f
unique (k ∷ ns) n m h (inl e) (inr j) same = absurd (not_itself k.0 m.0 (later path_at k.0 ns m h j) (ap path_at (sym e) ∙ same))
unique (k ∷ ns) n m h (inr i) (inl f) same = absurd (not_itself k.0 n.0 (later path_at k.0 ns n h i) (ap path_at (sym f) ∙ sym same))
unique (k ∷ ns) n m h (inr i) (inr j) same = unique ns n m (in_order k.0 (map path_at ns) h) i j same

module _ (online : Bool) where
  file_pick : ListedNode → List Taken
  file_pick n = file_by (is_kept online n) n.0 n.1

  folder_pick : ListedNode → List Text
  folder_pick n = folder_by (is_kept online n) n.0 n.1

  file_one : (n : ListedNode) → (file_pick n ≡ []) ⊎ ((f : Taken) × (file_pick n ≡ f ∷ []) × (f.path ≡ n.0))
  unfolding file_pick
  file_one n = one_file (is_kept online n) n.0 n.1

  folder_one : (n : ListedNode) → (folder_pick n ≡ []) ⊎ ((p : Text) × (folder_pick n ≡ p ∷ []) × (p ≡ n.0))
  unfolding folder_pick
  folder_one n = one_folder (is_kept online n) n.0 n.1

  files_are : (ns : List ListedNode) → picked (λ (f : Taken). f.path) file_pick file_one ns ≡ files_of (kept online ns)
  unfolding file_pick file_by
  files_are [] = refl
  files_are (n ∷ ns) = by (is_kept online n) (files_are ns) where
    by : (b : Bool) → picked (λ (f : Taken). f.path) file_pick file_one ns ≡ files_of (kept online ns) → (if b then file_at n.0 n.1 else []) ++ picked (λ (f : Taken). f.path) file_pick file_one ns ≡ files_of (if b then n ∷ kept online ns else kept online ns)
    by true e = ap (λ (fs : List Taken). file_at n.0 n.1 ++ fs) e
    by false e = e

  folders_are : (ns : List ListedNode) → picked (λ (p : Text). p) folder_pick folder_one ns ≡ folders_of (kept online ns)
  unfolding folder_pick folder_by
  folders_are [] = refl
  folders_are (n ∷ ns) = by (is_kept online n) (folders_are ns) where
    by : (b : Bool) → picked (λ (p : Text). p) folder_pick folder_one ns ≡ folders_of (kept online ns) → (if b then folder_at n.0 n.1 else []) ++ picked (λ (p : Text). p) folder_pick folder_one ns ≡ folders_of (if b then n ∷ kept online ns else kept online ns)
    by true e = ap (λ (ps : List Text). folder_at n.0 n.1 ++ ps) e
    by false e = e

  names_same : (ps : List Text) → map (λ (p : Text). p) ps ≡ ps
  names_same [] = refl
  names_same (p ∷ ps) = ap (λ (qs : List Text). p ∷ qs) (names_same ps)

  module _ (nodes_are : Nodes) (seen : List ListedNode) (true_listing : IsTreeListing nodes_are seen) where
    order : are_in_order (map path_at seen) ≡ true
    order = true_listing.order

    has_folders : (path : Text) (node : Node) → In (path, node) (kept online seen) → (prefix last : Text) → path ≡ prefix ⫽ last → In prefix (folders_of (kept online seen))
    has_folders path node i prefix last is =
        let model = kept_is online seen (path, node) i in
        let at = at_of seen (prefix ⫽ last, node) (subst (λ (p : Text). In (p, node) seen) is model.1) in
        let parent = true_listing.folders prefix last node (at.0, at.1, at.2 (prefix ⫽ last, node)) in
        let there = subst (λ (n : ListedNode). In n seen) parent.2 (in_at seen parent.0 (prefix, nodes.Folder) parent.1) in
        let out = parent_kept prefix last online node (subst (λ (p : Text). is_omitted online p node ≡ false) is (not_omitted online (path, node) model.0)) in
        folder_in (kept online seen) prefix (kept_in online seen (prefix, nodes.Folder) there (ap (λ (b : Bool). not b && true) out))

    file_placed : (f : Taken) → In f (files_of (kept online seen)) → IsPlaced (folders_of (kept online seen)) f
    file_placed f i =
        let node = nodes.File f.size f.time in
        let here = file_node (kept online seen) f i in
        record {
          below = has_folders f.path node here;
          apart = λ j. (
              let other = folder_node (kept online seen) f.path j in
              let same = unique seen (f.path, node) (f.path, nodes.Folder) order (kept_is online seen (f.path, node) here).1 (kept_is online seen (f.path, nodes.Folder) other).1 refl in
              let e : ◌≡◌ {A = Node} node nodes.Folder = ap (λ (n : ListedNode). n.1) same in cc e);
        }

    pub is_ordered : IsOrdered (files_of (kept online seen)) (folders_of (kept online seen))
    is_ordered = record {
      files = subst (λ (fs : List Taken). are_in_order (paths_of fs) ≡ true) (files_are seen) (ordered (λ (f : Taken). f.path) file_pick file_one seen order);
      folders_order = subst (λ (ps : List Text). are_in_order ps ≡ true) (names_same (folders_of (kept online seen))) (subst (λ (ps : List Text). are_in_order (map (λ (p : Text). p) ps) ≡ true) (folders_are seen) (ordered (λ (p : Text). p) folder_pick folder_one seen order));
      placed = file_placed;
      below = λ path i. has_folders path nodes.Folder (folder_node (kept online seen) path i);
    }

-- no true listing is refused for its order
pub never_unordered : (online : Bool) (seen : List ListedNode) (e : PlanFault) → IsRefused (kept online seen) e → e ≡ faults.Unordered → (nodes_are : Nodes) → ¬ IsTreeListing nodes_are seen
never_unordered online seen e h same nodes_are t = (subst (IsRefused (kept online seen)) same h).1 (is_ordered online nodes_are seen t)
