use Rattle.std.proofs.Common.{◌∙◌, ap, arith}
use Rattle.backup_record.proofs.Totals.{next_size, reach}
use Rattle.backup_record.proofs.sizes.size_of.Goals as goal

pub overflow_add-size : goal.overflow_add-size
overflow_add-size c =
    let most = reach c.args.files.now c.loop-file.file-index c.file-item.result c.loop-file-test.true c.file-item.is in
    let so_far = c.loop-file.invariant in
    let small = c.requires in
    omega (arith, most, so_far, small)

pub loop-file-preserved : goal.loop-file-preserved
loop-file-preserved c =
    let next = next_size c.args.files.now c.loop-file.file-index c.file-item.result c.loop-file-test.true c.file-item.is in
    let so_far = c.loop-file.invariant in
    omega (arith, next, so_far)
