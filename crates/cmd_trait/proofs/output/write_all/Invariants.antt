use Rattle.std.proofs.Common.{◌≡◌, ◌≤◌, ◌++◌, ◌-◌, List, ℕ, length, take, option_map}
use Rattle.cmd_trait.proofs.output.write_all.Given as goal

abbrev pub invariant-loop-at : goal.invariant-loop-at
invariant-loop-at g l = let O = g.O.OutputStream in record {
  within : l.at ≤ length l.bytes;
  written : (O.state l.out).written ≡ option_map (λ (text : List ℕ). text ++ take l.at l.bytes) (O.state l.fn.out).written;
  later : (O.state l.fn.out).faults ≤ (O.state l.out).faults;
}

abbrev pub decreases-loop-at : goal.decreases-loop-at
decreases-loop-at g l = length l.bytes - l.at
