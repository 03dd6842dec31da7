use Rattle.std.proofs.Common.{◌≤◌, ◌-◌, map, drop, length, string_bytes}
use Rattle.base_model.specs.Text.{In}
use Rattle.repo_manifest.proofs.path_folders.is_listed.Given as goal

-- the path is from low on and before high, where it is at all
abbrev pub invariant-loop-low : goal.invariant-loop-low
invariant-loop-low l = record {
  order : l.low ≤ l.high;
  bound : l.high ≤ length l.folders;
  there : In l.path (map string_bytes l.folders) → In l.path (map string_bytes (drop l.low l.folders));
  above : In l.path (map string_bytes (drop l.high l.folders)) → ⊥;
}

abbrev pub decreases-loop-low : goal.decreases-loop-low
decreases-loop-low l = l.high - l.low
