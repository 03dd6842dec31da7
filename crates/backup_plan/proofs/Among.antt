-- What a binary search answers for a path among others.
use Rattle.std.proofs.Common.{◌≡◌, ℕ, ◌<◌, List, [], ◌∷◌, map, length, get_or, Result, Ok, Err, nat_cmp, true, refl, subst, arith}
use Rattle.std.specs.Prelude.{◌↔◌, IsTrue, is_ok}
use Rattle.std.specs.Cmp.Lexicographic.{slice_cmp}
use Rattle.std.specs.List.Sorted.{IsBinarySearchResult, IsSearchInRange}
use Rattle.base_devices.specs.Order.{are_in_order}
use Rattle.base_model.specs.Text.{Text, In}
use Rattle.backup_plan.proofs.Lists.{no_truth, in_map, of_map}
use Rattle.backup_plan.proofs.Searched.{in_at, rises, found, absent}

module _ {X : Type 0} (name : X → Text) (key : Text) where
  at : (xs : List X) (i : ℕ) → i < length xs → ((d : X) → name (get_or xs i d) ≡ key) → In key (map name xs)
  at [] i less same = absurd (omega (arith, less))
  at (x ∷ xs) i less same = subst (λ (n : Text). In n (map name (x ∷ xs))) (same x) (in_map name (x ∷ xs) (get_or (x ∷ xs) i x) (in_at (x ∷ xs) i x less))

  pub known : (xs : List X) → are_in_order (map name xs) ≡ true → (r : Result ℕ ℕ) → IsBinarySearchResult (λ x. slice_cmp nat_cmp (name x) key) xs r → IsSearchInRange r (length xs) → IsTrue (is_ok r) ↔ In key (map name xs)
  known xs order (Ok i) h less = (λ t. at xs i less (λ d. found name key xs i d h), λ here. refl)
  known xs order (Err i) h less = (λ t. no_truth t, λ here. let r = of_map name xs key here in absurd (absent name key xs i (h (rises name key xs order)) r.0 r.1 r.2))
