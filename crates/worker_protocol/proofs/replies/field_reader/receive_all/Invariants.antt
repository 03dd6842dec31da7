use Rattle.std.proofs.Common.{◌-◌, length, take}
use Rattle.worker_protocol.specs.Takes.{Takes}
use Rattle.worker_protocol.proofs.replies.field_reader.receive_all.Given as goal

abbrev pub invariant-loop-filled : goal.invariant-loop-filled
invariant-loop-filled g l = Takes (g.L.Link.link_state l.fn.link) (g.L.Link.link_state l.link) (take l.filled l.buf)

abbrev pub decreases-loop-filled : goal.decreases-loop-filled
decreases-loop-filled g l = length l.buf - l.filled
