use Rattle.std.proofs.Common.{◌≡◌}
use Rattle.repo_ini.specs.Parts.{key_of}
use Rattle.repo_keys.proofs.Seeking.{Whole}
use Rattle.repo_info.proofs.history.check_entries.Given as goal

-- the keys to come are of the section
abbrev pub invariant-loop-k : goal.invariant-loop-k
invariant-loop-k g l = record {
  items : l.k-items ≡ l.part.keys.items;
  whole : Whole key_of l.k-items l.k-index;
}
