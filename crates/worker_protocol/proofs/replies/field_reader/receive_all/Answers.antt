use Rattle.std.proofs.Common.{◌≡◌, length, take, arith}
use Rattle.std.proofs.lemmas.List.{length-take-le}
use Rattle.worker_protocol.proofs.Prefixes.{take_written, takes_more, takes_none}
use Rattle.worker_protocol.proofs.replies.field_reader.receive_all.Goals as goal

pub loop-filled-preserved : goal.loop-filled-preserved
loop-filled-preserved g c =
    let len : length (take c.loop-filled.filled c.loop-filled.buf) ≡ c.loop-filled.filled = length-take-le _ _ (omega arith) in
    rw (take_written (take c.loop-filled.filled c.loop-filled.buf) c.receive.new.buf _ c.loop-filled.filled c.in_ok-n.n len c.in_ok-n.ensures.0)
    (takes_more _ _ _ _ _ _ c.loop-filled.invariant c.in_ok-n.ensures.1)

pub loop-filled-init : goal.loop-filled-init
loop-filled-init g c = takes_none _
