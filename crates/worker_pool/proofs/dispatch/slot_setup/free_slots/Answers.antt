use Rattle.worker_pool.proofs.Whole.{slot_given, slot_empty}
use Rattle.worker_pool.proofs.dispatch.slot_setup.free_slots.Goals as goal

pub loop-slot-preserved-in-Continue-1 : goal.loop-slot-preserved-in-Continue-1
loop-slot-preserved-in-Continue-1 g c = slot_given _ _ _ c.loop-slot.yielded c.in-Some.slot c.in-Some-slot.link c.in-Some-slot.is c.loop-slot.invariant c.in_ok-push.ensures.items

pub loop-slot-preserved : goal.loop-slot-preserved
loop-slot-preserved g c = slot_empty _ _ c.loop-slot.yielded c.in-Some.slot (λ x e. c.in_default.not-Some x e) c.loop-slot.invariant
