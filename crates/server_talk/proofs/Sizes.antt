-- Sizes of segments in decimal.
use Rattle.std.proofs.Common.{◌≡◌, ◌≢◌, ◌<◌, ◌^◌, ℕ, List, Option, Some, None, decimal, IfNone, sym, subst, ◌∙◌, arith}
use Rattle.std.proofs.lemmas.Fmt.{decimal_injective}
use Rattle.std.proofs.lemmas.Nat.{pow_below}
use Rattle.base_model.specs.ManifestText.{IsSegSize}

-- what follows from what None means
pub at_none : {A P Q : Type 0} (r : Option A) → (P → Q) → IfNone r P → IfNone r Q
at_none (Some x) f h = tt
at_none None f h = f h

pub fits : (size : ℕ) → IsSegSize size → size < 2 ^ 64
fits size (k, low, high, is) = subst (λ n. n < 2 ^ 64) (sym is) (pow_below k 64 (omega arith))

-- digits are of one number alone
pub no_size : (text : List ℕ) (n : ℕ) → n < 2 ^ 64 → text ≡ decimal n → ¬ IsSegSize n → (size : ℕ) → IsSegSize size → text ≢ decimal size
no_size text n bound is other size sized same = other (subst IsSegSize (decimal_injective size n (fits size sized) bound (sym same ∙ is)) sized)
