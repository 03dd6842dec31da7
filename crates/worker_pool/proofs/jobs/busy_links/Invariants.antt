use Rattle.std.proofs.Common.{◌≡◌, ℕ, ◌<◌, Some, slice_get}
use Rattle.worker_pool.specs.declared.jobs.LinkPlace.TheVariants.{Busy}
use Rattle.worker_pool.proofs.jobs.busy_links.Given as goal

abbrev pub invariant-loop-i : goal.invariant-loop-i
invariant-loop-i l = record {
  all : (k m : ℕ) → slice_get l.busy.items k ≡ Some m → (job : ℕ) × (slice_get l.holders.items m ≡ Some (Busy job));
  each : (m j : ℕ) → m < l.i → slice_get l.holders.items m ≡ Some (Busy j) → (k : ℕ) × (slice_get l.busy.items k ≡ Some m);
}
