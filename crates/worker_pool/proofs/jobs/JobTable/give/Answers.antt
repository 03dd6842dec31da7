use Rattle.std.proofs.Common.{◌≡◌, Some, slice_get, arith, length-set, ◌∙◌, sym}
use Rattle.worker_pool.specs.declared.jobs.LinkPlace.TheVariants.{Idle}
use Rattle.worker_pool.specs.declared.jobs.JobPlace.TheVariants.{Waiting}
use Rattle.worker_pool.proofs.Places.{pairs_after, get_set_other}
use Rattle.worker_pool.proofs.jobs.JobTable.give.Goals as goal

pub invariant_of-self : goal.invariant_of-self
invariant_of-self c =
    let idle : slice_get c.self.inside.holders.items c.args.link ≡ Some Idle = rw (← c.self.view_is) at c.requires in
    let waits : slice_get c.self.inside.places.items c.in_ok-job.job ≡ Some Waiting = c.in_ok-job.ensures.found.0 in
    record {
      pairs = pairs_after _ _ _ _ _ _ _ _ c.self.invariant.pairs waits idle (λ j e. (cc, cc)) (λ l e. (cc, cc)) (λ l e. cc) (λ j e. cc);
      low = λ k h e. c.in_ok-job.ensures.found.1 k h (sym (get_set_other _ _ k _ (λ q. omega arith)) ∙ e);
      few = rw length-set c.self.invariant.few;
      few_links = rw length-set c.self.invariant.few_links;
    }
