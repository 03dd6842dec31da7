use Rattle.base_model.specs.Text.{In}
use Rattle.repo_ini.specs.Parts.{key_of}
use Rattle.repo_info.specs.ArchiveForm.{cluster_keys}
use Rattle.repo_keys.proofs.Seeking.{Whole, Others}
use Rattle.repo_info.proofs.archive_current.foreign_key.Given as goal

-- a key that isn't a cluster's is to come, and the keys to come are of the whole
abbrev pub invariant-loop-k : goal.invariant-loop-k
invariant-loop-k l = record {
  others : Others key_of (λ k. In k.0 cluster_keys) l.keys l.k-index;
  whole : Whole key_of l.keys l.k-index;
}
