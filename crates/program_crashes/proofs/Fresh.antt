-- A worker in memory that was asked nothing can be handed in.
use Rattle.std.proofs.Common.{ℕ, ◌≡◌, List, [], ◌∷◌, ◌++◌, map, Some, refl, subst, sym, ap, ◌∙◌, arith}
use Rattle.base_devices.specs.Content.{Content}
use Rattle.memory_workers.specs.declared.mem.MemLink.{MemLink}
use Rattle.memory_workers.specs.Workers.{known_first, state_of}
use Rattle.worker_pool.specs.Run.{IsReady}
use Rattle.worker_pool.proofs.Ready.{each_ready}
use Rattle.cmd_trait.specs.Code.{AreWorkers}

fresh_ready : (m : MemLink) (tree repo : Content) (fail : List ℕ) → state_of m ≡ (record { faults = 0; jobs = 0; reads = 0; given = []; known = Some (known_first tree repo fail) }) → IsReady (state_of m)
fresh_ready m tree repo fail e = subst IsReady (sym e) (λ t r reads. refl)

pub one_worker : (m : MemLink) (tree repo : Content) (fail : List ℕ) → state_of m ≡ (record { faults = 0; jobs = 0; reads = 0; given = []; known = Some (known_first tree repo fail) }) → (before links : List MemLink) → before ≡ [] → links ≡ before ++ m ∷ [] → AreWorkers (map state_of links)
one_worker m tree repo fail e before links none is =
    subst (λ (ls : List MemLink). AreWorkers (map state_of ls)) (sym (is ∙ ap (λ (b : List MemLink). b ++ m ∷ []) none))
    (record { few = omega arith; ready = each_ready state_of (m ∷ []) (fresh_ready m tree repo fail e, tt) })
