use Rattle.std.proofs.Common.{◌≡◌, ℕ, ◌<◌, Some, slice_get, length, arith}
use Rattle.worker_pool.specs.declared.jobs.LinkPlace.TheVariants.{Busy}
use Rattle.worker_pool.proofs.Places.{push_all, each_push, below_one, within}
use Rattle.worker_pool.proofs.jobs.busy_links.Goals as goal
use Rattle.worker_pool.proofs.jobs.busy_links.Goals.{in-Some+in_ok-push, in_default}

pub loop-i-preserved : goal.loop-i-preserved
loop-i-preserved c = elim c.match-job_of.branch [
  | in-Some+in_ok-push w ↦ rw w.busy-is (record {
    all = push_all (λ m. (job : ℕ) × (slice_get c.args.holders.now.items m ≡ Some (Busy job))) _ _ _ w.in_ok-push.ensures.items c.loop-i.invariant.all (w.in-Some._job, w.in-Some.ensures.some);
    each = each_push _ _ _ _ w.in_ok-push.ensures.items c.loop-i.invariant.each;
  })
  | in_default w ↦ rw w.busy-is (record {
    all = c.loop-i.invariant.all;
    each = λ m j lt. below_one (λ x. (j : ℕ) → slice_get c.args.holders.now.items x ≡ Some (Busy j) → (k : ℕ) × (slice_get c.loop-i.busy.items k ≡ Some x)) c.loop-i.i (λ x lx y. c.loop-i.invariant.each x y lx) (λ y e. absurd (w.in_default.ensures.none y e)) m lt j;
  })
]

pub returns-clause-each : goal.returns-clause-each
returns-clause-each c = λ m j at.
    let lt : m < length c.args.holders.now.items = within c.args.holders.now.items m (Busy j) at in
    c.loop-i.invariant.each m j (omega (arith, lt, c.loop-i-test.false, c.args.holders.now.ok, c.len-i-end.ensures)) at
