use Rattle.std.proofs.Common.{◌+◌, take, get_or}
use Rattle.cmd_restore.proofs.Fetch.{quoted_more, take_byte}
use Rattle.cmd_restore.proofs.log_fetch.add_quoted.Goals as goal

pub loop-byte-preserved : goal.loop-byte-preserved
loop-byte-preserved c =
    let text = c.args.text.now in
    let n = c.loop-byte.byte-index in
    quoted_more c.args.line.now.items c.loop-byte.line.items c.add_byte.new.line.items (take n text) (take (n + 1) text) (get_or text n 0) c.loop-byte.invariant c.in_ok-add_byte.ensures (take_byte text n 0 c.loop-byte-test.true)
