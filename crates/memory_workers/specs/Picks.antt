-- What a choice in memory picks. Own.
use Rattle.std.specs.Prelude.{ℕ, ◌≡◌, ◌+◌, ◌%◌, IfSome, slice_get}
use Rattle.memory_workers.specs.declared.scheduler.MemScheduler.{MemScheduler}

-- the next number that was given, if any is left, is taken around the count and picked
abbrev pub TakesPick : ℕ → ℕ → MemScheduler → MemScheduler → Type 0
TakesPick count pick old new =
    IfSome (slice_get old.picks.items old.at) (λ n. (pick ≡ n % count) × (new.at ≡ old.at + 1))
