use Rattle.std.proofs.Common.{◌≤◌}
use Rattle.adapters_files.proofs.clock.RealClock.pass.Given as goal

-- the clock continues, and no fault is taken back
abbrev pub invariant-loop : goal.invariant-loop
invariant-loop l = (l.fn.self.least ≤ l.self.least) × (l.fn.self.faults.count ≤ l.self.faults.count)
