-- What a list holds at a number.
use Rattle.std.proofs.Common.{◌≡◌, ℕ, zero, suc, ◌-◌, ◌<◌, ◌≤◌, List, [], ◌∷◌, length, Some, refl, arith}
use Rattle.std.specs.Prelude.{slice_get}
use Rattle.std.specs.List.{AllByRecursion}
use Rattle.base_model.specs.Fields.{at_number}

found_at : {X : Type 0} (P : X → Type 0) (xs : List X) (i : ℕ) → AllByRecursion P xs → i < length xs → (x : X) × (slice_get xs i ≡ Some x) × P x
found_at P [] i h within = absurd (omega arith)
found_at P (x ∷ xs) zero h within = (x, refl, h.0)
found_at P (x ∷ xs) (suc i) h within = found_at P xs i h.1 (omega arith)

pub found : {X : Type 0} (P : X → Type 0) (xs : List X) (n : ℕ) → AllByRecursion P xs → 1 ≤ n → n ≤ length xs → (x : X) × (at_number n xs ≡ Some x) × P x
found P xs n h low high = found_at P xs (n - 1) h (omega arith)
