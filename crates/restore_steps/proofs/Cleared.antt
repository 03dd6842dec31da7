-- What is left at each path, where a listing was gone through; and with folders.
use Rattle.std.proofs.Common.{ℕ, zero, suc, Bool, true, false, ◌≡◌, ◌≢◌, ◌⊎◌, inl, inr, ⊎_elim, ◌<◌, ◌≤◌, ◌+◌, refl, sym, ap, ◌∙◌, subst, arith, List, [], ◌∷◌, ◌++◌, length, map, drop, take, get_or, Option, Some, None, option_map, bytes_eq, cond, Contains}
use Rattle.std.specs.Prelude.{IfSome}
use Rattle.std.proofs.lemmas.Grind.{common_steps}
use Rattle.std.proofs.lemmas.Slice.Eq.{bytes_eq-Decides}
use Rattle.base_devices.specs.Content.{Name}
use Rattle.base_devices.specs.declared.data_folder.Node.{Node}
use Rattle.base_devices.specs.DataFolder.{Held, Nodes, folder, with_node, shown, IsTreeListing}
use Rattle.base_model.specs.Text.{Text, In}
use Rattle.base_model.specs.Values.{Manifest}
use Rattle.restore_steps.specs.Clearing.{stays, without_one, without, left_at, with_folders}
use Rattle.restore_steps.proofs.Nodes.{set_other, set_same}

-- ---- folders

pub with_more : (ps : List Text) (p : Text) (f : Nodes) → with_folders (ps ++ p ∷ []) f ≡ with_node p (Some folder) (with_folders ps f)
with_more [] p f = refl
with_more (q ∷ ps) p f = with_more ps p (with_node q (Some folder) f)

-- where there is a folder it stays
still_folder : (ps : List Text) (f : Nodes) (q : Text) → f q ≡ Some folder → with_folders ps f q ≡ Some folder
still_folder [] f q is = is
still_folder (p ∷ ps) f q is = still_folder ps (with_node p (Some folder) f) q (grind (arith, common_steps, bytes_eq-Decides p q))

pub folder_made : (ps : List Text) (f : Nodes) (q : Text) → In q ps → with_folders ps f q ≡ Some folder
folder_made [] f q i = absurd i
folder_made (p ∷ ps) f q (inl e) = still_folder ps (with_node p (Some folder) f) q (subst (λ (n : Text). with_node p (Some folder) f n ≡ Some folder) (sym e) (set_same p (Some folder) f))
folder_made (p ∷ ps) f q (inr i) = folder_made ps (with_node p (Some folder) f) q i

pub folder_apart : (ps : List Text) (f : Nodes) (q : Text) → ¬ In q ps → with_folders ps f q ≡ f q
folder_apart [] f q none = refl
folder_apart (p ∷ ps) f q none = folder_apart ps (with_node p (Some folder) f) q (λ i. none (inr i)) ∙ set_other p (Some folder) f q (λ e. none (inl e))

-- ---- what is left

module _ (q : Text) where
  keep : (b : Bool) (p : Text) (g : Nodes) → (p ≡ q → b ≡ true) → cond b g (with_node p None g) q ≡ g q
  keep true p g e = refl
  keep false p g e = set_other p None g q (λ is. let h : ◌≡◌ {A = Bool} false true = e (sym is) in cc)

  pub gone : (b : Bool) (p : Text) (g : Nodes) → p ≡ q → b ≡ false → cond b g (with_node p None g) q ≡ None
  gone true p g is e = cc
  gone false p g is e = subst (λ (n : Text). with_node p None g n ≡ None) is (set_same p None g)

  none_one : (b : Bool) (x : Option Held) → x ≡ None → cond b None x ≡ None
  none_one true x e = refl
  none_one false x e = e

  pub none_still : (b : Bool) (p : Text) (g : Nodes) → g q ≡ None → cond b g (with_node p None g) q ≡ None
  none_still true p g e = e
  none_still false p g e = none_one (bytes_eq p q) (g q) e

  same_one : (b : Bool) (p : Text) (g f : Nodes) → g q ≡ f q → cond b g (with_node p None g) q ≡ cond b f (with_node p None f) q
  same_one true p g f e = e
  same_one false p g f e = ap (λ (x : Option Held). cond (bytes_eq p q) None x) e

  -- what is left at a path rests on what was there alone
  pub without_at : (m : Manifest) (ss : List (Text × Node)) (g f : Nodes) → g q ≡ f q → without m ss g q ≡ without m ss f q
  without_at m [] g f e = e
  without_at m (s ∷ ss) g f e = same_one (stays m s.0 s.1) s.0 (without m ss g) (without m ss f) (without_at m ss g f e)

-- a listing says about each node what it is
abbrev AllTell : Nodes → List (Text × Node) → Type 0
AllTell f [] = Unit {0}
AllTell f (s ∷ ss) = ((held : Held) × (f s.0 ≡ Some held) × (s.1 ≡ shown held)) × AllTell f ss

all_tell : (f : Nodes) (ss : List (Text × Node)) → ((path : Name) (node : Node) → Contains ss (path, node) → (held : Held) × (f path ≡ Some held) × (node ≡ shown held)) → AllTell f ss
all_tell f [] each = tt
all_tell f (s ∷ ss) each = (each s.0 s.1 (0, omega arith, refl), all_tell f ss (λ path node h. each path node (suc h.0, omega (arith, h.1), h.2)))

one_held : (a b : Held) (o : Option Held) → o ≡ Some a → o ≡ Some b → a ≡ b
one_held a b o is is' = let e : ◌≡◌ {A = Option Held} (Some a) (Some b) = sym is ∙ is' in cc

module _ (m : Manifest) (f : Nodes) (q : Text) where
  -- a node that may stay is left
  left_kept : (ss : List (Text × Node)) (held : Held) → f q ≡ Some held → stays m q (shown held) ≡ true → AllTell f ss → without m ss f q ≡ f q
  left_kept [] held is may all = refl
  left_kept (s ∷ ss) held is may all =
      keep q (stays m s.0 s.1) s.0 (without m ss f)
      (λ e. let its : s.1 ≡ shown held = all.0.2 ∙ ap shown (one_held all.0.0 held (f s.0) all.0.1 (ap f e ∙ is)) in
      subst (λ (n : Node). stays m s.0 n ≡ true) (sym its) (subst (λ (p : Text). stays m p (shown held) ≡ true) (sym e) may))
      ∙ left_kept ss held is may all.1

  pub none_left : (ss : List (Text × Node)) → f q ≡ None → without m ss f q ≡ None
  none_left [] is = is
  none_left (s ∷ ss) is = none_still q (stays m s.0 s.1) s.0 (without m ss f) (none_left ss is)

  -- another that is listed is gone
  left_gone : (ss : List (Text × Node)) (node : Node) (k : ℕ) → k < length ss → get_or ss k (q, node) ≡ (q, node) → stays m q node ≡ false → without m ss f q ≡ None
  left_gone [] node k lt is may = absurd (omega (arith, lt))
  left_gone (s ∷ ss) node zero lt is may =
      gone q (stays m s.0 s.1) s.0 (without m ss f) (ap (λ (x : Text × Node). x.0) is)
      (ap (λ (x : Text × Node). stays m x.0 x.1) is ∙ may)
  left_gone (s ∷ ss) node (suc k) lt is may = none_still q (stays m s.0 s.1) s.0 (without m ss f) (left_gone ss node k (omega (arith, lt)) is may)

  -- what is left of a whole listing
  pub cleared : (ss : List (Text × Node)) → IsTreeListing f ss → without m ss f q ≡ left_at m q (f q)
  cleared ss listing = go (f q) refl
    where
      kind : (held : Held) → f q ≡ Some held → (b : Bool) → stays m q (shown held) ≡ b → without m ss f q ≡ cond b (Some held) None
      kind held is true may = left_kept ss held is may (all_tell f ss listing.each) ∙ is
      kind held is false may = let h = listing.all q held is in left_gone ss (shown held) h.0 h.1 h.2 may

      go : (o : Option Held) → f q ≡ o → without m ss f q ≡ left_at m q o
      go None is = none_left ss is
      go (Some held) is = kind held is (stays m q (shown held)) refl

-- ---- going through a list

pub made_more : (ps : List Text) (p : Text) (o a b : Option Nodes) → a ≡ option_map (with_folders ps) o → b ≡ option_map (with_node p (Some folder)) a → b ≡ option_map (with_folders (ps ++ p ∷ [])) o
made_more ps p o a b is next = next ∙ ap (option_map (with_node p (Some folder))) is ∙ go o
  where
    go : (x : Option Nodes) → option_map (with_node p (Some folder)) (option_map (with_folders ps) x) ≡ option_map (with_folders (ps ++ p ∷ [])) x
    go None = refl
    go (Some f) = ap (λ (g : Nodes). Some g) (sym (with_more ps p f))

pub cleared_more : (m : Manifest) (ss : List (Text × Node)) (s : Text × Node) (o a b : Option Nodes) → a ≡ option_map (without m ss) o → b ≡ option_map (without_one m s) a → b ≡ option_map (without m (s ∷ ss)) o
cleared_more m ss s o a b is next = next ∙ ap (option_map (without_one m s)) is ∙ go o
  where
    go : (x : Option Nodes) → option_map (without_one m s) (option_map (without m ss) x) ≡ option_map (without m (s ∷ ss)) x
    go None = refl
    go (Some f) = refl

pub same_nodes : (o : Option Nodes) → o ≡ option_map (λ (f : Nodes). f) o
same_nodes None = refl
same_nodes (Some f) = refl
