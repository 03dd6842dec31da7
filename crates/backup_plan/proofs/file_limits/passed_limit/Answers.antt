use Rattle.std.proofs.Common.{inr, refl, arith}
use Rattle.std.proofs.lemmas.List.{length-map}
use Rattle.backup_plan.specs.Views.{taken_of}
use Rattle.backup_plan.proofs.Sizes.{reach}
use Rattle.backup_plan.proofs.file_limits.passed_limit.Goals as goal

pub returns-then-file-left-clause-passed : goal.returns-then-file-left-clause-passed
returns-then-file-left-clause-passed c =
    let files = c.args.files.now in
    let i = c.loop-file.file-index in
    let most = reach files i c.file-item.result c.loop-file-test.true c.file-item.is in
    let left = c.loop-file.invariant in
    let past = c.if-file-left.true in
    let few = c.if-files-gt-MOST_FILES.false in
    let count = length-map files taken_of in
    inr (refl, omega (arith, count, few), omega (arith, most, left, past))
