use Rattle.std.proofs.Common.{ℕ, ◌≡◌, List, [], ◌∷◌, ◌++◌, Some, subst, sym, refl, rules}
use Rattle.std.specs.List.{AllByRecursion}
use Rattle.base_devices.specs.Content.{Content}
use Rattle.base_devices.specs.Links.{LinkState}
use Rattle.memory_workers.specs.declared.mem.MemLink.{MemLink}
use Rattle.memory_workers.specs.Workers.{known_first, state_of}
use Rattle.worker_pool.specs.Run.{IsReady}
use Rattle.worker_pool.proofs.Ready.{each_ready}
use Rattle.test_workers.proofs.over_workers.links_to.Goals as goal

abbrev Ready : MemLink → Type 0
Ready m = IsReady (state_of m)

first_of_all : (m : MemLink) (tree repo : Content) (fail : List ℕ) → state_of m ≡ (record { faults = 0; jobs = 0; reads = 0; given = []; known = Some (known_first tree repo fail) }) → Ready m
first_of_all m tree repo fail e = subst IsReady (sym e) (λ t r reads. refl)

one_more : (links : List MemLink) (m : MemLink) → AllByRecursion Ready links → Ready m → AllByRecursion Ready (links ++ m ∷ [])
one_more [] m all r = (r, tt)
one_more (l ∷ ls) m all r = (all.0, one_more ls m all.1 r)

pub loop-fail-preserved : goal.loop-fail-preserved
loop-fail-preserved c = (
  subst (AllByRecursion Ready) (sym c.in_ok-push.ensures.items) (one_more c.loop-fail.links.items c.in_ok-new.field-0 c.loop-fail.invariant.0 (first_of_all c.in_ok-new.field-0 _ _ _ c.in_ok-new.ensures.state)),
  search rules,
)

pub returns-clause-ready : goal.returns-clause-ready
returns-clause-ready c = each_ready state_of c.loop-fail.links.items c.loop-fail.invariant.0
