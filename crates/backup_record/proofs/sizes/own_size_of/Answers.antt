use Rattle.std.proofs.Common.{◌∙◌, ap, arith}
use Rattle.backup_record.proofs.Totals.{next_stored, reach_stored}
use Rattle.backup_record.proofs.sizes.own_size_of.Goals as goal

pub overflow_add-size : goal.overflow_add-size
overflow_add-size c =
    let most = reach_stored c.args.files.now c.loop-file.file-index c.file-item.result c.loop-file-test.true c.file-item.is in
    let so_far = c.loop-file.invariant in
    let small = c.requires in
    omega (arith, most, so_far, small)
