use Rattle.cmd_verify.specs.Contradicting.{IsOutsideOf}
use Rattle.cmd_verify.proofs.Contradicted.{each_none, each_next, each_all}
use Rattle.cmd_verify.proofs.findings.contradictions.tell_files.Goals as goal

pub loop-file-init : goal.loop-file-init
loop-file-init c = each_none (IsOutsideOf c.args.history.now) c.args.found.now.items

pub loop-file-preserved : goal.loop-file-preserved
loop-file-preserved c =
    let l = c.loop-file in
    each_next (IsOutsideOf c.args.history.now) c.args.files.now l.file-index c.file-item.result c.args.found.now.items l.found.items c.tell_file.new.found.items c.loop-file-test.true c.file-item.is l.invariant c.in_ok-tell_file.ensures

pub returns : goal.returns
returns c = each_all (IsOutsideOf c.args.history.now) c.args.files.now c.loop-file.file-index c.args.found.now.items c.loop-file.found.items c.loop-file-test.false c.loop-file.invariant
