use Rattle.std.proofs.Common.{rules}
use Rattle.worker_pool.proofs.replies.checks.end_fault.Goals as goal

pub returns-clause-right : goal.returns-clause-right
returns-clause-right c = record { size = c.is_within.ensures.0 c.if-not-is_within.false; read = λ r. (c.if-length-count.false, search rules) }
