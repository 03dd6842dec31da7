use Rattle.std.proofs.Common.{◌∙◌, arith, map, take, sym}
use Rattle.base_model.specs.Values.{file_entry_of}
use Rattle.backup_record.proofs.Totals.{reach}
use Rattle.cmd_rehearse.specs.Counting.{is_counted}
use Rattle.cmd_rehearse.proofs.Tallied.{counted_more, counted_less, filtered_within}
use Rattle.cmd_rehearse.proofs.backup_totals.amount_of.Goals as goal
use Rattle.cmd_rehearse.proofs.backup_totals.amount_of.Goals.{then-is_counted, else-is_counted}

pub overflow_add-bytes : goal.overflow_add-bytes
overflow_add-bytes c =
    let p = is_counted c.args.counted in
    let part = filtered_within p (map file_entry_of (take c.loop-file.file-index c.args.files.now)) in
    let all = reach c.args.files.now c.loop-file.file-index c.file-item.result c.loop-file-test.true c.file-item.is in
    let so_far = c.loop-file.invariant.bytes in
    let small = c.requires in
    omega (arith, part, all, so_far, small)

pub loop-file-preserved : goal.loop-file-preserved
loop-file-preserved c =
    let p = is_counted c.args.counted in
    let files = c.args.files.now in
    let i = c.loop-file.file-index in
    let x = c.file-item.result in
    let few = c.loop-file.invariant.few in
    let count = c.loop-file.invariant.count in
    let bytes = c.loop-file.invariant.bytes in
    elim c.if-is_counted.branch [
      | then-is_counted w ↦
          let more = counted_more p files i x c.loop-file-test.true c.file-item.is (sym c.is_counted.ensures ∙ w.if-is_counted.true) in
          let n = more.0 in
          let m = more.1 in
          record { few = omega (arith, few); count = omega (arith, n, count); bytes = omega (arith, m, bytes) }
      | else-is_counted w ↦
          let less = counted_less p files i x c.loop-file-test.true c.file-item.is (sym c.is_counted.ensures ∙ w.if-is_counted.false) in
          let n = less.0 in
          let m = less.1 in
          record { few = omega (arith, few); count = omega (arith, n, count); bytes = omega (arith, m, bytes) }
    ]
