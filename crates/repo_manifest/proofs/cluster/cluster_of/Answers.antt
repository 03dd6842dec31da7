use Rattle.std.proofs.Common.{arith}
use Rattle.repo_manifest.proofs.cluster.cluster_of.Goals as goal

pub returns-clause-rules : goal.returns-clause-rules
returns-clause-rules c = record { id = omega arith; system = omega arith; version = omega arith; control = omega arith; catalog = omega arith }

pub returns-clause-read : goal.returns-clause-read
returns-clause-read c = record {
  catalog = c.small_at-3.ensures;
  control = c.small_at-2.ensures;
  id = c.small_at.ensures;
  system = λ n h i. c.system_at.ensures n i;
  version = c.major_at.ensures;
}
