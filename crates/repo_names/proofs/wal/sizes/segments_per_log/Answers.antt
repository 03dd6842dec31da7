use Rattle.std.proofs.Common.{rules}
use Rattle.repo_names.proofs.SegSizes.{segments_fit}
use Rattle.repo_names.proofs.wal.sizes.segments_per_log.Goals as goal

pub overflow_cast-result : goal.overflow_cast-result
overflow_cast-result c = let few = segments_fit c.args.size.0 c.requires in rw c.from.ensures (search (rules, few))
