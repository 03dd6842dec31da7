use Rattle.std.proofs.Common.{refl, map, string_bytes}
use Rattle.backup_plan.specs.Filter.{IsPlaced}
use Rattle.backup_plan.specs.Views.{taken_of}
use Rattle.backup_plan.proofs.Lists.{no_truth, there, all_next, all_end}
use Rattle.backup_plan.proofs.listing_order.are_files_placed.Goals as goal

pub returns-then-not-is_placed : goal.returns-then-not-is_placed
returns-then-not-is_placed c =
    let file = c.file-item.result in
    let here = there taken_of c.args.files.now c.loop-file.file-index file c.loop-file-test.true c.file-item.is in
    (λ t. no_truth t, λ all. c.if-not-is_placed.ensures.1 (all (taken_of file) here))

pub loop-file-preserved : goal.loop-file-preserved
loop-file-preserved c = all_next taken_of c.args.files.now c.loop-file.file-index c.file-item.result c.loop-file-test.true c.file-item.is (IsPlaced (map string_bytes c.args.folders.now)) c.loop-file.invariant (c.if-not-is_placed.ensures.0 refl)

pub returns : goal.returns
returns c = (λ t. all_end taken_of c.args.files.now c.loop-file.file-index (IsPlaced (map string_bytes c.args.folders.now)) c.loop-file-test.false c.loop-file.invariant, λ all. refl)
