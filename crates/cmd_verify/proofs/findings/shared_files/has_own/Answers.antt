use Rattle.std.proofs.Common.{arith}
use Rattle.base_model.specs.Values.{file_entry_of}
use Rattle.cmd_verify.proofs.Adding.{item_in}
use Rattle.cmd_verify.proofs.findings.shared_files.has_own.Goals as goal

pub returns-in-Equal : goal.returns-in-Equal
returns-in-Equal c = λ yes.
    let x = c.index-others-middle.result in
    (file_entry_of x, item_in file_entry_of c.args.others.now _ x (omega (arith, c.loop-low.invariant.within, c.loop-low-test.true)) c.index-others-middle.is, c.is_own.ensures yes)
