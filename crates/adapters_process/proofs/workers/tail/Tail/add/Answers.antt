use Rattle.std.proofs.Common.{rules}
use Rattle.adapters_process.specs.Tail.{tail_of}
use Rattle.adapters_process.proofs.Tails.{five_turn, five_over}
use Rattle.adapters_process.proofs.workers.tail.Tail.add.Goals as goal

pub loop-byte-preserved : goal.loop-byte-preserved
loop-byte-preserved c =
    five_turn (tail_of c.args.self.now) c.last_part-last.result.now (tail_of c.loop-byte.self) _ c.loop-byte.byte-index _ c.loop-byte-test.true c.loop-byte.invariant c.push.ensures

pub returns : goal.returns
returns c =
    five_over (tail_of c.args.self.now) c.args.bytes.now c.last_part-last.result.now _ c.loop-byte.byte-index c.last_part-last.ensures (search rules) c.loop-byte.invariant
