use Rattle.std.proofs.Common.{◌+◌, ◌∙◌, take}
use Rattle.restore_steps.proofs.Paths.{take_more}
use Rattle.cmd_restore.specs.Targets.{lines_in}
use Rattle.cmd_restore.proofs.Fetch.{own_more}
use Rattle.cmd_restore.proofs.target_lines.add_own.Goals as goal

pub loop-text-preserved : goal.loop-text-preserved
loop-text-preserved c =
    let own = c.args.own.now in
    let n = c.loop-text.text-index in
    let x = c.text-item.result in
    own_more (lines_in c.args.lines.now) (lines_in c.loop-text.lines) (lines_in c.add_own_setting.new.lines) (take n own) (take (n + 1) own) x c.as_bytes.result.now c.loop-text.invariant c.in_ok-add_own_setting.ensures c.as_bytes.ensures.value
    (take_more own n x c.loop-text-test.true c.text-item.is)
