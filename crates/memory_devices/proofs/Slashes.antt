-- What lies below a folder begins with it and a slash.
use Rattle.std.proofs.Common.{◌≡◌, ◌≢◌, ◌+◌, ℕ, Bool, true, false, ◌&&◌, not, List, [], ◌∷◌, ◌++◌, length, Contains, subst, take, drop, nat_eq, refl, sym, ◌∙◌, ap, append_assoc, bytes_eq, take-append-drop}
use Rattle.std.proofs.Math.Seq.{take-append_seam, drop-append-add}
use Rattle.std.proofs.lemmas.Bool.{false≢true}
use Rattle.std.specs.List.{starts_with, list_any}
use Rattle.std.proofs.lemmas.Map.Views.{Contains-from_any, list_any-from_Contains}
use Rattle.std.proofs.lemmas.Cmp.{nat_eq_equiv}
use Rattle.std.proofs.lemmas.Bool.Decides.{Decides-eqb}
use Rattle.std.proofs.lemmas.Slice.Eq.{starts_is, bytes_eq-Decides}
use Rattle.base_devices.specs.Content.{Name, is_below, LiesDirectlyIn}
use Rattle.memory_devices.specs.State.{is_directly_in}

pub below_prefix : (folder x : Name) → is_below folder (folder ++ x) ≡ starts_with nat_eq x (47 ∷ [])
below_prefix [] x = refl
below_prefix (f ∷ fs) x = ap (λ b. b && is_below fs (fs ++ x)) ((Decides-eqb f f).1 refl) ∙ below_prefix fs x

pub below_is : (folder path : Name) → is_below folder path ≡ true → (rest : Name) × (path ≡ folder ++ 47 ∷ rest)
below_is folder path below =
    let prefix = folder ++ 47 ∷ [] in
    (drop (length prefix) path, (starts_is Decides-eqb path prefix (is_below folder path) refl).0 below ∙ append_assoc folder (47 ∷ []) (drop (length prefix) path))

pub below_of : (folder rest : Name) → is_below folder (folder ++ 47 ∷ rest) ≡ true
below_of folder rest = below_prefix folder (47 ∷ rest)

pub not_below : (folder path : Name) → ((rest : Name) → path ≢ folder ++ rest) → is_below folder path ≡ false
not_below folder path apart = at (is_below folder path) refl
  where
    at : (b : Bool) → is_below folder path ≡ b → b ≡ false
    at false is = refl
    at true is = let s = below_is folder path is in absurd (apart (47 ∷ s.0) s.1)

-- what is left of a path after the folder, by the test that strips it
pub below_stripped : (folder path rest : Name) → bytes_eq (take (length folder) path) folder ≡ true → rest ≡ drop (length folder) path → starts_with nat_eq rest (47 ∷ []) ≡ is_below folder path
below_stripped folder path rest prefix is =
    let same : take (length folder) path ≡ folder = (bytes_eq-Decides (take (length folder) path) folder).0 prefix in
    let whole : folder ++ rest ≡ path = ap (λ f. f ++ rest) (sym same) ∙ ap (λ r. take (length folder) path ++ r) is ∙ take-append-drop (length folder) path in
    sym (below_prefix folder rest) ∙ ap (is_below folder) whole

pub below_other : (folder path : Name) → bytes_eq (take (length folder) path) folder ≡ false → is_below folder path ≡ false
below_other folder path apart = not_below folder path (λ rest is.
    let same : bytes_eq (take (length folder) path) folder ≡ true = (bytes_eq-Decides (take (length folder) path) folder).1 (ap (take (length folder)) is ∙ take-append_seam folder rest) in
    false≢true (sym apart ∙ same))

dropped : (folder last : Name) → drop (length folder + 1) (folder ++ 47 ∷ last) ≡ last
dropped folder last = drop-append-add folder (47 ∷ last) 1

lacks_any : (c : ℕ) (xs : List ℕ) → ¬ Contains xs c → list_any (nat_eq c) xs ≡ false
lacks_any c xs lacks = at (list_any (nat_eq c) xs) refl
  where
    at : (b : Bool) → list_any (nat_eq c) xs ≡ b → b ≡ false
    at false is = refl
    at true is = absurd (lacks (Contains-from_any {eq = nat_eq} (λ x y e. (Decides-eqb x y).0 e) c xs is))

-- the test for a name directly in a folder
pub directly_in : (folder name : Name) → LiesDirectlyIn folder name → is_directly_in folder name ≡ true
directly_in folder name (last, is, lacks) = subst (λ n. is_directly_in folder n ≡ true) (sym is) (
    ap (λ b. b && not (list_any (nat_eq 47) (drop (length folder + 1) (folder ++ 47 ∷ last)))) (below_of folder last)
    ∙ ap (λ (r : List ℕ). not (list_any (nat_eq 47) r)) (dropped folder last)
    ∙ ap not (lacks_any 47 last lacks))

left_true : (a b : Bool) → (a && b) ≡ true → a ≡ true
left_true true b is = refl
left_true false b is = is

right_true : (a b : Bool) → (a && b) ≡ true → b ≡ true
right_true true b is = is
right_true false b is = cc

any_has : (c : ℕ) (xs : List ℕ) → not (list_any (nat_eq c) xs) ≡ true → ¬ Contains xs c
any_has c xs none has = false≢true (sym (ap not (list_any-from_Contains nat_eq_equiv c xs has)) ∙ none)

pub directly_from : (folder name : Name) → is_directly_in folder name ≡ true → LiesDirectlyIn folder name
directly_from folder name is =
    let free = not (list_any (nat_eq 47) (drop (length folder + 1) name)) in
    let below = below_is folder name (left_true (is_below folder name) free is) in
    let rest : drop (length folder + 1) name ≡ below.0 = ap (drop (length folder + 1)) below.1 ∙ dropped folder below.0 in
    (below.0, below.1, any_has 47 below.0 (ap (λ (r : List ℕ). not (list_any (nat_eq 47) r)) (sym rest) ∙ right_true (is_below folder name) free is))
