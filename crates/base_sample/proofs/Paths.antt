-- The paths of a sample cluster.
use Rattle.std.proofs.Common.{ℕ, ◌≡◌, inl, inr, ⊎_elim, ◌<◌, ◌+◌, ◌^◌, ◌%◌, refl, sym, ap, ◌∙◌, subst, arith, List, [], ◌∷◌, ◌++◌, Some, codes}
use Rattle.std.specs.Prelude.{◌≢◌, Contains, decimal}
use Rattle.std.proofs.lemmas.Fmt.{decimal_by_steps}
use Rattle.std.proofs.lemmas.List.Elements.{Contains-append_right, Contains-push_cases}
use Rattle.base_devices.specs.DataFolder.{Nodes, HasItsFolder, folder}
use Rattle.base_model.specs.Text.{Text, In}
use Rattle.base_sample.specs.Bytes.{relation_path}
use Rattle.base_sample.specs.Folder.{sample_folders}

-- ---- where a path is cut

in_none : (c : ℕ) → ¬ Contains [] c
in_none c h = omega (arith, h.1)

pub no_slash : (n : ℕ) → n < 2 ^ 64 → ¬ Contains (decimal n) 47
no_slash n fits = decimal_by_steps (λ (m : ℕ) (ds : List ℕ). ¬ Contains ds 47)
    (λ m lt h. ⊎_elim (λ i. in_none 47 i) (λ e. omega (arith, e)) (Contains-push_cases [] (48 + m) 47 h))
    (λ m ds le p h. ⊎_elim p (λ e. omega (arith, e)) (Contains-push_cases ds (48 + m % 10) 47 h)) n fits

slash_in : (a x : Text) → Contains (a ++ 47 ∷ x) 47
slash_in a x = Contains-append_right a (47 ∷ x) 47 (0, omega arith, refl)

-- the last slash of a path is in one place
pub last_cut : (a b x y : Text) → ¬ Contains x 47 → ¬ Contains y 47 → a ++ 47 ∷ x ≡ b ++ 47 ∷ y → a ≡ b
last_cut [] [] x y p q e = refl
last_cut [] (d ∷ b) x y p q e = let rest : x ≡ b ++ 47 ∷ y = cc in absurd (p (subst (λ (t : Text). Contains t 47) (sym rest) (slash_in b y)))
last_cut (c ∷ a) [] x y p q e = let rest : a ++ 47 ∷ x ≡ y = cc in absurd (q (subst (λ (t : Text). Contains t 47) rest (slash_in a x)))
last_cut (c ∷ a) (d ∷ b) x y p q e =
    let first : c ≡ d = cc in
    let rest : a ++ 47 ∷ x ≡ b ++ 47 ∷ y = cc in
    ap (λ (z : ℕ). z ∷ a) first ∙ ap (λ (zs : Text). d ∷ zs) (last_cut a b x y p q rest)

-- a name in a folder that is there
pub placed_in : (f : Nodes) (prefix name : Text) → ¬ Contains name 47 → f prefix ≡ Some folder → HasItsFolder f (prefix ++ 47 ∷ name)
placed_in f prefix name plain there = λ other last e lacks. subst (λ (t : Text). f t ≡ Some folder) (last_cut prefix other name last plain lacks e) there

-- a name in no folder
pub placed_top : (f : Nodes) (name : Text) → ¬ Contains name 47 → HasItsFolder f name
placed_top f name plain = λ prefix last e lacks. absurd (plain (subst (λ (t : Text). Contains t 47) (sym e) (slash_in prefix last)))

-- ---- the paths

pub relation_placed : (f : Nodes) (i : ℕ) → i < 2 ^ 31 → f (codes "base/5") ≡ Some folder → HasItsFolder f (relation_path i)
unfolding relation_path
relation_placed f i fits there = placed_in f (codes "base/5") (decimal (16384 + i)) (no_slash (16384 + i) (omega arith)) there

-- no path of a relation file is a folder
pub relation_out : (i : ℕ) → i < 2 ^ 31 → ¬ In (relation_path i) sample_folders
unfolding relation_path sample_folders
relation_out i fits (inl e) = cc
relation_out i fits (inr (inl e)) = let h : 47 ∷ decimal (16384 + i) ≡ [] = cc in cc
relation_out i fits (inr (inr (inl e))) = cc
relation_out i fits (inr (inr (inr none))) = absurd none

-- nothing of a sample cluster lies below a relation file
pub relation_above : (i k : ℕ) (rest : Text) → i < 2 ^ 31 → k < 2 ^ 31 → relation_path i ++ 47 ∷ rest ≢ relation_path k
unfolding relation_path
relation_above i k rest fits fits_too e = no_slash (16384 + k) (omega arith)
    (subst (λ (t : Text). Contains t 47) same (slash_in (decimal (16384 + i)) rest))
  where
    same : decimal (16384 + i) ++ 47 ∷ rest ≡ decimal (16384 + k)
    same = cc
