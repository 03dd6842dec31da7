use Rattle.std.proofs.Common.{◌≡◌}
use Rattle.repo_ini.specs.Parts.{key_of}
use Rattle.repo_keys.proofs.Seeking.{Whole, Ahead}
use Rattle.repo_keys.proofs.key_lookup.find.Given as goal

-- the key is to come, and the keys to come are of the whole
abbrev pub invariant-loop-k : goal.invariant-loop-k
invariant-loop-k l = record {
  ahead : Ahead key_of (λ k. k.0 ≡ l.key) l.keys l.k-index;
  whole : Whole key_of l.keys l.k-index;
}
