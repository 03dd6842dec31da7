-- What is removed holds nothing any more; and what is made lies in a folder.
use Rattle.std.proofs.Common.{ℕ, zero, suc, Bool, true, false, ◌≡◌, ◌≢◌, ◌⊎◌, inl, inr, ⊎_elim, Ordering, Less, nat_cmp, ◌<◌, refl, sym, ap, ◌∙◌, subst, arith, List, [], ◌∷◌, ◌++◌, length, map, take, drop, get_or, Option, Some, None, Result, Ok, Err, option_map, cond, bytes_eq}
use Rattle.std.specs.Prelude.{IfSome, ◌&&◌, not, Contains}
use Rattle.std.specs.Cmp.Lexicographic.{slice_cmp}
use Rattle.std.proofs.lemmas.Bool.{and_parts}
use Rattle.base_devices.specs.Content.{at}
use Rattle.base_devices.specs.Order.{are_in_order}
use Rattle.base_devices.specs.declared.data_folder.Node.{Node}
use Rattle.base_devices.specs.declared.data_folder.Node.TheVariants.{File, Folder, Link, Other}
use Rattle.base_devices.specs.DataFolder.{Held, Nodes, folder, with_node, ChangesTree, IsPlaced, IsBare}
use Rattle.base_model.specs.ManifestText.{HasItsFolders}
use Rattle.base_model.specs.Text.{Text, In, ◌⫽◌}
use Rattle.base_model.specs.Values.{FileEntry, Manifest}
use Rattle.restore_steps.specs.Clearing.{control_path, has_path, stays, without_one, without, with_folders, IsSpared, IsListed, HaveTheirFolders}
use Rattle.restore_steps.proofs.Cleared.{gone, none_left, none_still, folder_made}
use Rattle.restore_steps.proofs.Nodes.{set_other}
use Rattle.restore_steps.proofs.Ordered.{folder_first, one_name, represents_after, represents_before}
use Rattle.restore_steps.proofs.Paths.{has_in, in_has}

abbrev name_of : Text × Node → Text
name_of s = s.0

-- a listed node that may not stay is gone
gone_in : (m : Manifest) (f : Nodes) (ss : List (Text × Node)) (q : Text) (node : Node) → In (q, node) ss → stays m q node ≡ false → without m ss f q ≡ None
gone_in m f [] q node i may = absurd i
gone_in m f (s ∷ ss) q node (inl e) may =
    gone q (stays m s.0 s.1) s.0 (without m ss f) (ap name_of (sym e)) (sym (ap (λ (x : Text × Node). stays m x.0 x.1) e) ∙ may)
gone_in m f (s ∷ ss) q node (inr i) may = none_still q (stays m s.0 s.1) s.0 (without m ss f) (gone_in m f ss q node i may)

-- what stays is in the manifest
in_manifest : (m : Manifest) (q : Text) (node : Node) → stays m q node ≡ true → In q (map (λ (e : FileEntry). e.path) m.files) ⊎ In q m.folders
in_manifest m q (File size time) h = inl (has_in (map (λ (e : FileEntry). e.path) m.files) q (and_parts (has_path (map (λ (e : FileEntry). e.path) m.files) q) (not (bytes_eq q control_path)) h).0)
in_manifest m q Folder h = inr (has_in m.folders q h)
in_manifest m q Link h = cc
in_manifest m q Other h = cc

module _ (m : Manifest) (f : Nodes) (prefix back : List (Text × Node)) (s : Text × Node) (listed : IsListed (prefix ++ s ∷ back) f) (theirs : HaveTheirFolders m) (away : stays m s.0 s.1 ≡ false) where
  here : (ws : List (Text × Node)) → In s (ws ++ s ∷ back)
  here [] = inl refl
  here (w ∷ ws) = inr (here ws)

  -- below what may not stay nothing may
  none_stays : (rest : Text) (node : Node) → In (s.0 ⫽ rest, node) (prefix ++ s ∷ back) → stays m (s.0 ⫽ rest) node ≡ true → ⊥
  none_stays rest node i may =
      let its : In s.0 m.folders = theirs (s.0 ⫽ rest) (in_manifest m (s.0 ⫽ rest) node may) s.0 rest refl in
      let is : s ≡ (s.0, Folder) = one_name name_of (prefix ++ s ∷ back) s (s.0, Folder) listed.order (here prefix) (listed.folders s.0 rest node i) refl in
      let kind : s.1 ≡ Folder = ap (λ (x : Text × Node). x.1) is in
      let e : ◌≡◌ {A = Bool} true false = sym (in_has m.folders s.0 its) ∙ sym (ap (stays m s.0) kind) ∙ away in cc

  empty_below : (rest : Text) → without m back f (s.0 ⫽ rest) ≡ None
  empty_below rest = go (f (s.0 ⫽ rest)) refl
    where
      by : (node : Node) → In (s.0 ⫽ rest, node) (prefix ++ s ∷ back) → (b : Bool) → stays m (s.0 ⫽ rest) node ≡ b → without m back f (s.0 ⫽ rest) ≡ None
      by node i true may = absurd (none_stays rest node i may)
      by node i false may = gone_in m f back (s.0 ⫽ rest) node (represents_after name_of prefix back s (s.0 ⫽ rest, node) listed.order i (folder_first s.0 rest)) may

      go : (o : Option Held) → f (s.0 ⫽ rest) ≡ o → without m back f (s.0 ⫽ rest) ≡ None
      go None is = none_left m f (s.0 ⫽ rest) back is
      go (Some held) is = let x = listed.all (s.0 ⫽ rest) held is in by x.0 x.1 (stays m (s.0 ⫽ rest) x.0) refl

-- where what comes after it in the listing was gone through
pub bare_then : (m : Manifest) (ss prefix back : List (Text × Node)) (s : Text × Node) (old now : Option Nodes) → ss ≡ prefix ++ s ∷ back → IfSome old (IsListed ss) → HaveTheirFolders m → now ≡ option_map (without m back) old → stays m s.0 s.1 ≡ false → IsBare now s.0
bare_then m ss prefix back s old now is listed theirs then away = subst (λ (o : Option Nodes). IsBare o s.0) (sym then) (go old listed)
  where
    go : (o : Option Nodes) → IfSome o (IsListed ss) → IsBare (option_map (without m back) o) s.0
    go None l = tt
    go (Some f) l = empty_below m f prefix back s (subst (λ (xs : List (Text × Node)). IsListed xs f) is l) theirs away

-- ---- folders

-- where the folders before it were made, a folder has its own
pub placed_then : (ps prefix back : List Text) (p : Text) (old now : Option Nodes) → ps ≡ prefix ++ p ∷ back → are_in_order ps ≡ true → ((q : Text) → In q ps → HasItsFolders ps q) → now ≡ option_map (with_folders prefix) old → IsPlaced now p
placed_then ps prefix back p old now is order theirs then = subst (λ (o : Option Nodes). IsPlaced o p) (sym then) (go old)
  where
    named : (xs : List Text) → map (λ (x : Text). x) xs ≡ xs
    named [] = refl
    named (x ∷ xs) = ap (λ l. x ∷ l) (named xs)

    here : (ws : List Text) → In p (ws ++ p ∷ back)
    here [] = inl refl
    here (w ∷ ws) = inr (here ws)

    go : (o : Option Nodes) → IsPlaced (option_map (with_folders prefix) o) p
    go None = tt
    go (Some f) = λ above last path plain.
        let holder : In above (prefix ++ p ∷ back) = subst (λ (l : List Text). In above l) is (theirs p (subst (λ (l : List Text). In p l) (sym is) (here prefix)) above last path) in
        let sorted : are_in_order (map (λ (x : Text). x) (prefix ++ p ∷ back)) ≡ true = ap are_in_order (named (prefix ++ p ∷ back) ∙ sym is) ∙ order in
        folder_made prefix f above (represents_before (λ (x : Text). x) prefix back p above sorted holder (subst (λ (t : Text). slice_cmp nat_cmp above t ≡ Less) (sym path) (folder_first above last)))

-- ---- going through a list

split_next : {A X : Type 0} (f : A → X) (xs : List A) (i : ℕ) (x : A) → i < length xs → x ≡ get_or xs i x → map f xs ≡ map f (take i xs) ++ f x ∷ map f (drop (suc i) xs)
split_next f [] i x lt e = absurd (omega (arith, lt))
split_next f (y ∷ ys) zero x lt e = ap (λ z. f z ∷ map f ys) (sym e)
split_next f (y ∷ ys) (suc i) x lt e = ap (λ l. f y ∷ l) (split_next f ys i x (omega (arith, lt)) e)

-- a list at one of its elements
pub split_at : {A X : Type 0} (f : A → X) (xs : List A) (i k : ℕ) (x : A) → k ≡ suc i → i < length xs → x ≡ get_or xs i x → map f xs ≡ map f (take i xs) ++ f x ∷ map f (drop k xs)
split_at f xs i k x is lt e = split_next f xs i x lt e ∙ ap (λ n. map f (take i xs) ++ f x ∷ map f (drop n xs)) (sym is)

-- what is spared isn't removed
pub spared_off : (m : Manifest) (ss prefix back : List (Text × Node)) (s : Text × Node) (q : Text) → ss ≡ prefix ++ s ∷ back → IsSpared m ss q → stays m s.0 s.1 ≡ false → q ≢ s.0
spared_off m ss prefix back s q is spared away same =
    let may = spared s.1 (subst (λ (xs : List (Text × Node)). In (q, s.1) xs) (sym is) (here prefix)) in
    let h : ◌≡◌ {A = Bool} true false = sym may ∙ ap (λ (p : Text). stays m p s.1) same ∙ away in cc
  where
    here : (ws : List (Text × Node)) → In (q, s.1) (ws ++ s ∷ back)
    here [] = inl (ap (λ (p : Text). (p, s.1)) same)
    here (w ∷ ws) = inr (here ws)

-- a path besides one that was made is unchanged
pub made_other : {T E : Type 0} (result : Result T E) (p q : Text) (old new : Option Nodes) → ChangesTree result (with_node p (Some folder)) old new → q ≢ p → at q new ≡ at q old
made_other (Err e) p q old new h off = ap (at q) h
made_other (Ok x) p q old new h off = ap (at q) h ∙ go old
  where
    go : (o : Option Nodes) → at q (option_map (with_node p (Some folder)) o) ≡ at q o
    go None = refl
    go (Some f) = ap (λ (v : Option Held). Some v) (set_other p (Some folder) f q off)

pub in_list : {X : Type 0} (xs prefix back : List X) (x : X) → xs ≡ prefix ++ x ∷ back → In x xs
in_list {X} xs prefix back x is = subst (λ (l : List X). In x l) (sym is) (here prefix)
  where
    here : (ws : List X) → In x (ws ++ x ∷ back)
    here [] = inl refl
    here (w ∷ ws) = inr (here ws)
