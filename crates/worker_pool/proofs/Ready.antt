-- Links that are ready for jobs.
use Rattle.std.proofs.Common.{ℕ, zero, suc, ◌≡◌, List, [], ◌∷◌, Some, None, map, slice_get, subst, sym}
use Rattle.std.specs.Prelude.{IfSome}
use Rattle.std.specs.List.{AllByRecursion}
use Rattle.base_devices.specs.Links.{LinkState, Modelled}
use Rattle.base_devices.specs.Content.{Content}
use Rattle.worker_pool.specs.Reads.{Reads}
use Rattle.worker_pool.specs.Run.{IsReady}

same_some : {X : Type 0} (x y : X) → Some x ≡ Some y → x ≡ y
same_some x y e = cc

-- where all of them are, each one is
pub each_ready : {A : Type 0} (of : A → LinkState) (links : List A) → AllByRecursion (λ a. IsReady (of a)) links → (i : ℕ) (s : LinkState) → slice_get (map of links) i ≡ Some s → IsReady s
each_ready of [] all i s e = absurd (let q : None ≡ Some s = e in cc)
each_ready of (l ∷ ls) all zero s e = subst IsReady (same_some (of l) s e) all.0
each_ready of (l ∷ ls) all (suc i) s e = each_ready of ls all.1 i s e

unknown_ready : (s : LinkState) → s.known ≡ None → IsReady s
unknown_ready s e = subst (λ t. IfSome t (λ (known : Modelled). (tree repo : Content) → Reads tree repo known → known.pending ≡ [])) (sym e) tt

all_unknown : {A : Type 0} (of : A → LinkState) → ((a : A) → (of a).known ≡ None) → (links : List A) → AllByRecursion (λ a. IsReady (of a)) links
all_unknown of h [] = tt
all_unknown of h (l ∷ ls) = (unknown_ready (of l) (h l), all_unknown of h ls)

-- those of which nothing is known are
pub unknown_are_ready : {A : Type 0} (of : A → LinkState) → ((a : A) → (of a).known ≡ None) → (links : List A) (i : ℕ) (s : LinkState) → slice_get (map of links) i ≡ Some s → IsReady s
unknown_are_ready of h links = each_ready of links (all_unknown of h links)
