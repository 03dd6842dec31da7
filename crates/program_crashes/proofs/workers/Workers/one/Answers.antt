use Rattle.program_crashes.proofs.Fresh.{one_worker}
use Rattle.program_crashes.proofs.workers.Workers.one.Goals as goal

pub invariant_of-result : goal.invariant_of-result
invariant_of-result c = record { are = one_worker c.in_ok-new.field-0 _ _ _ c.in_ok-new.ensures.state _ _ c.new-links.ensures.items c.in_ok-push.ensures.items }
