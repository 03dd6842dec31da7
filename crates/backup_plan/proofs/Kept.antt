-- What is known of a node that isn't left out.
use Rattle.std.proofs.Common.{◌≡◌, ◌≢◌, ⊎_elim, inl, inr, ℕ, Bool, true, false, List, [], ◌∷◌, ◌++◌, refl, sym, ap, ◌∙◌, subst}
use Rattle.std.specs.Prelude.{◌||◌, ◌&&◌, ◌==◌, nat_eq, not, codes, if◌then◌else◌}
use Rattle.std.specs.List.{list_any, starts_with, ends_with, onto_first}
use Rattle.std.proofs.lemmas.Bool.{and_parts, or_parts}
use Rattle.std.proofs.lemmas.Bool.Decides.{Decides-eqb}
use Rattle.std.proofs.lemmas.List.Splits.{slice_split-cons_yes, slice_split-cons_no}
use Rattle.std.proofs.lemmas.Slice.Eq.{ends_is}
use Rattle.base_devices.specs.declared.data_folder.Node.{Node}
use Rattle.base_devices.specs.declared.data_folder.Node.TheVariants as nodes
use Rattle.base_devices.specs.Crash.{IsTemporary}
use Rattle.base_model.specs.Text.{Text, In}
use Rattle.base_model.specs.Paths.{elements}
use Rattle.backup_plan.specs.Omitted.{is_passing, is_omitted, is_by_name, is_of_top, is_settings_folder, is_file, is_cache}
use Rattle.backup_plan.specs.Listed.{Taken}
use Rattle.backup_plan.specs.Filter.{ListedNode, is_kept, is_special, kept, file_at, folder_at, files_of, folders_of}
use Rattle.backup_plan.proofs.Lists.{in_parts}

-- ---- a temporary name has a passing element

abbrev ending : Text
ending = codes ".pgbackrest.tmp"

-- the last element of what ends so
last_part : (prefix : Text) → (p : Text) × In (p ++ ending) (elements (prefix ++ ending))
last_part [] = ([], inl refl)
last_part (c ∷ cs) = by (c == 47) refl (last_part cs) where
  onto : (c : ℕ) (es : List Text) (p : Text) → In (p ++ ending) es → (q : Text) × In (q ++ ending) (onto_first c es)
  onto c [] p i = absurd i
  onto c (e ∷ es) p (inl is) = (c ∷ p, inl (ap (λ (t : Text). c ∷ t) is))
  onto c (e ∷ es) p (inr i) = (p, inr i)

  by : (b : Bool) → (c == 47) ≡ b → (p : Text) × In (p ++ ending) (elements (cs ++ ending)) → (q : Text) × In (q ++ ending) (elements (c ∷ cs ++ ending))
  by true is r = (r.0, subst (λ (es : List Text). In (r.0 ++ ending) es) (sym (slice_split-cons_yes (λ b. b == 47) c (cs ++ ending) is)) (inr r.1))
  by false is r =
      let q = onto c (elements (cs ++ ending)) r.0 r.1 in
      (q.0, subst (λ (es : List Text). In (q.0 ++ ending) es) (sym (slice_split-cons_no (λ b. b == 47) c (cs ++ ending) is)) q.1)

any_in : {X : Type 0} (p : X → Bool) (xs : List X) (x : X) → In x xs → p x ≡ true → list_any p xs ≡ true
any_in p [] x i h = absurd i
any_in p (y ∷ ys) x (inl e) h = let first : p y ≡ true = subst (λ z. p z ≡ true) e h in rw first refl
any_in p (y ∷ ys) x (inr i) h = let rest = any_in p ys x i h in or_right (p y) (list_any p ys) rest
  where
    or_right : (a b : Bool) → b ≡ true → (a || b) ≡ true
    or_right true b h = refl
    or_right false b h = h

passes : (p : Text) → is_passing (p ++ ending) ≡ true
passes p =
    let ends = (ends_is Decides-eqb (p ++ ending) ending (ends_with nat_eq (p ++ ending) ending) refl).1 p refl in
    by (starts_with nat_eq (p ++ ending) (codes "pgsql_tmp")) ends
  where
    by : (a : Bool) → ends_with nat_eq (p ++ ending) ending ≡ true → (a || ends_with nat_eq (p ++ ending) ending) ≡ true
    by true h = refl
    by false h = h

pub not_temporary : (path : Text) → list_any is_passing (elements path) ≡ false → ¬ IsTemporary path
not_temporary path none t =
    let r = last_part t.prefix in
    let some = any_in is_passing (elements (t.prefix ++ ending)) (r.0 ++ ending) r.1 (passes r.0) in
    let e : ◌≡◌ {A = Bool} false true = sym none ∙ ap (λ (q : Text). list_any is_passing (elements q)) t.is ∙ some in
    cc e

-- ---- what is kept

pub kept_is : (online : Bool) (seen : List ListedNode) (n : ListedNode) → In n (kept online seen) → (is_kept online n ≡ true) × In n seen
kept_is online [] n i = absurd i
kept_is online (m ∷ ms) n i = by (is_kept online m) refl (kept_is online ms n) i where
  by : (b : Bool) → is_kept online m ≡ b → (In n (kept online ms) → (is_kept online n ≡ true) × In n ms) → In n (if b then m ∷ kept online ms else kept online ms) → (is_kept online n ≡ true) × In n (m ∷ ms)
  by true is rest (inl e) = (subst (λ (k : ListedNode). is_kept online k ≡ true) (sym e) is, inl e)
  by true is rest (inr j) = let r = rest j in (r.0, inr r.1)
  by false is rest j = let r = rest j in (r.0, inr r.1)

not_true : (b : Bool) → not b ≡ true → b ≡ false
not_true true h = sym h
not_true false h = refl

pub not_omitted : (online : Bool) (n : ListedNode) → is_kept online n ≡ true → is_omitted online n.0 n.1 ≡ false
not_omitted online n keep = not_true (is_omitted online n.0 n.1) (and_parts (not (is_omitted online n.0 n.1)) (not (is_special n.1)) keep).0

pub no_passing : (online : Bool) (path : Text) (node : Node) → is_omitted online path node ≡ false → list_any is_passing (elements path) ≡ false
no_passing online path node out =
    let first = or_parts (is_by_name path node || is_of_top online path) (is_settings_folder path node) out in
    let name = or_parts (is_by_name path node) (is_of_top online path) first.0 in
    (or_parts (list_any is_passing (elements path)) (is_file node && list_any is_cache (elements path)) name.0).0

-- a path that is left out isn't kept
pub not_named : (online : Bool) (name path : Text) (node : Node) → is_omitted online name node ≡ true → is_omitted online path node ≡ false → path ≢ name
not_named online name path node out keep e = let x : ◌≡◌ {A = Bool} true false = sym out ∙ ap (λ (p : Text). is_omitted online p node) (sym e) ∙ keep in cc x

-- ---- files and folders

pub file_node : (ns : List ListedNode) (f : Taken) → In f (files_of ns) → In (f.path, nodes.File f.size f.time) ns
file_node [] f i = absurd i
file_node (n ∷ ns) f i = ⊎_elim (λ (j : In f (file_at n.0 n.1)). inl (one n.0 n.1 j)) (λ (j : In f (files_of ns)). inr (file_node ns f j)) (in_parts (file_at n.0 n.1) (files_of ns) f i)
  where
    one : (path : Text) (node : Node) → In f (file_at path node) → ◌≡◌ {A = ListedNode} (f.path, nodes.File f.size f.time) (path, node)
    one path (nodes.File size time) (inl e) = ap (λ (g : Taken). let l : ListedNode = (g.path, nodes.File g.size g.time) in l) e
    one path (nodes.File size time) (inr j) = absurd j
    one path nodes.Folder j = absurd j
    one path nodes.Link j = absurd j
    one path nodes.Other j = absurd j

pub folder_node : (ns : List ListedNode) (p : Text) → In p (folders_of ns) → In (p, nodes.Folder) ns
folder_node [] p i = absurd i
folder_node (n ∷ ns) p i = ⊎_elim (λ (j : In p (folder_at n.0 n.1)). inl (one n.0 n.1 j)) (λ (j : In p (folders_of ns)). inr (folder_node ns p j)) (in_parts (folder_at n.0 n.1) (folders_of ns) p i)
  where
    one : (path : Text) (node : Node) → In p (folder_at path node) → ◌≡◌ {A = ListedNode} (p, nodes.Folder) (path, node)
    one path nodes.Folder (inl e) = ap (λ (q : Text). let l : ListedNode = (q, nodes.Folder) in l) e
    one path nodes.Folder (inr j) = absurd j
    one path (nodes.File size time) j = absurd j
    one path nodes.Link j = absurd j
    one path nodes.Other j = absurd j
