use Rattle.std.proofs.Common.{◌+◌, take, get_or}
use Rattle.cmd_restore.proofs.Fetch.{escaped_more, take_byte}
use Rattle.cmd_restore.proofs.target_lines.add_escaped.Goals as goal

pub loop-byte-preserved : goal.loop-byte-preserved
loop-byte-preserved c =
    let value = c.args.value.now in
    let n = c.loop-byte.byte-index in
    escaped_more c.args.line.now.items c.loop-byte.line.items c.add_escaped_byte.new.line.items (take n value) (take (n + 1) value) (get_or value n 0) c.loop-byte.invariant c.in_ok-add_escaped_byte.ensures (take_byte value n 0 c.loop-byte-test.true)
