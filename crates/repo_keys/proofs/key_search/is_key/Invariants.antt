use Rattle.std.proofs.Common.{◌≤◌, ◌-◌, map, drop, length}
use Rattle.serde_json.specs.Data.{Data}
use Rattle.base_model.specs.Text.{In}
use Rattle.repo_ini.specs.Parts.{key_of}
use Rattle.repo_keys.proofs.key_search.is_key.Given as goal

-- the key is from low on and before high, where it is at all
abbrev pub invariant-loop-low : goal.invariant-loop-low
invariant-loop-low l = record {
  order : l.low ≤ l.high;
  bound : l.high ≤ length l.keys;
  there : (d : Data) → In (l.key, d) (map key_of l.keys) → In (l.key, d) (map key_of (drop l.low l.keys));
  above : (d : Data) → In (l.key, d) (map key_of (drop l.high l.keys)) → ⊥;
}

abbrev pub decreases-loop-low : goal.decreases-loop-low
decreases-loop-low l = l.high - l.low
