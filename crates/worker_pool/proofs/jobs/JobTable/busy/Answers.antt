use Rattle.std.proofs.Common.{◌≡◌, ℕ, Some, slice_get, []}
use Rattle.worker_pool.specs.declared.jobs.JobPlace.TheVariants.{With}
use Rattle.worker_pool.proofs.Places.{if_ok_map, none_there}
use Rattle.worker_pool.proofs.jobs.JobTable.busy.Goals as goal

pub returns-clause-all : goal.returns-clause-all
returns-clause-all c = rw (← c.self.view_is) c.busy_links.ensures.all

pub returns-clause-each : goal.returns-clause-each
returns-clause-each c = rw (← c.self.view_is) (if_ok_map c.busy_links.result _ _ c.busy_links.ensures.each (λ v h l b. h l b.0 b.1))

pub returns-clause-with : goal.returns-clause-with
returns-clause-with c =
    rw (← c.self.view_is) (if_ok_map c.busy_links.result _ (λ v. v.items ≡ [] → (j l : ℕ) → slice_get c.self.inside.places.items j ≡ Some (With l) → ⊥) c.busy_links.ensures.each (λ v h e j l w. let k = h l j (c.self.invariant.pairs.to_link l j w) in none_there v.items k.0 l e k.1))
