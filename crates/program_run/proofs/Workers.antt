-- Workers that can be handed in.
use Rattle.std.proofs.Common.{◌≡◌, ◌≤◌, List, [], Some, Option, None, map, length, sym, subst, arith}
use Rattle.std.proofs.lemmas.List.{length-map}
use Rattle.base_devices.specs.Links.{LinkState}
use Rattle.worker_pool.proofs.Ready.{unknown_are_ready}
use Rattle.cmd_trait.specs.Code.{AreWorkers}

-- none
pub no_workers : {A : Type 0} (of : A → LinkState) (links : List A) → links ≡ [] → AreWorkers (map of links)
no_workers of links none = subst (λ (ls : List _). AreWorkers (map of ls)) (sym none) (record { few = omega arith; ready = λ i s is. absurd (let e : ◌≡◌ {A = Option LinkState} None (Some s) = is in cc) })

-- at most 256 of which nothing is known
pub unknown_workers : {A : Type 0} (of : A → LinkState) → ((a : A) → (of a).known ≡ None) → (links : List A) → length links ≤ 256 → AreWorkers (map of links)
unknown_workers of unknown links few = record { few = omega (arith, few, length-map links of); ready = unknown_are_ready of unknown links }
