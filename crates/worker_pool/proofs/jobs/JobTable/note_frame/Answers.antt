use Rattle.std.proofs.Common.{◌≡◌, ◌<◌, length, Some, slice_get, length-set, rules, inl, inr}
use Rattle.worker_pool.specs.declared.jobs.LinkPlace.TheVariants.{Busy}
use Rattle.worker_pool.specs.declared.jobs.JobPlace.TheVariants.{Waiting, Ended}
use Rattle.worker_pool.proofs.Places.{pairs_after, get_set_cases, within}
use Rattle.worker_pool.proofs.jobs.JobTable.note_frame.Goals as goal

pub index_mut-requires : goal.index_mut-requires
index_mut-requires c = let h : c.in-Some.job < length c.self.inside.places.items = within _ _ _ (c.self.invariant.pairs.to_job _ _ c.in-Some.ensures.some) in search rules

pub index_mut-requires-2 : goal.index_mut-requires-2
index_mut-requires-2 c = let h : c.args.link < length c.self.inside.holders.items = within _ _ _ c.in-Some.ensures.some in search rules

pub invariant_of-self : goal.invariant_of-self
invariant_of-self c =
    let has : slice_get c.self.inside.holders.items c.args.link ≡ Some (Busy c.in-Some.job) = c.in-Some.ensures.some in
    let with = c.self.invariant.pairs.to_job _ _ has in
    record {
      pairs = pairs_after _ _ _ _ _ _ _ _ c.self.invariant.pairs with has (λ j e. (cc, cc)) (λ l e. (cc, cc)) (λ l e. cc) (λ j e. cc);
      low = λ k h e. elim (get_set_cases _ _ k _ _ e) [ inl w ↦ absurd (let f : Waiting ≡ Ended = w.1 in cc) | inr w ↦ c.self.invariant.low k h w.1 ];
      few = rw length-set c.self.invariant.few;
      few_links = rw length-set c.self.invariant.few_links;
    }
