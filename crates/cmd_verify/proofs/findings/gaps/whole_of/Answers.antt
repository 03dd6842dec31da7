use Rattle.std.proofs.Common.{◌↔◌, subst, List}
use Rattle.std.proofs.lemmas.List.{take_all}
use Rattle.archive_lookup.specs.declared.stored.files.Stored.{Stored}
use Rattle.base_model.specs.Text.{In}
use Rattle.cmd_verify.specs.Gaps.{HasWhole}
use Rattle.cmd_verify.proofs.Gapped.{file_more}
use Rattle.cmd_verify.proofs.findings.gaps.whole_of.Goals as goal

pub loop-file-preserved : goal.loop-file-preserved
loop-file-preserved c =
    file_more c.args.id c.args.span.now c.args.files.now c.loop-file.file-index c.file-item.result c.loop-file.stored.items c.add_segment.new.stored.items c.loop-file-test.true c.file-item.is c.loop-file.invariant c.in_ok-add_segment.ensures

pub returns : goal.returns
returns c = λ s. subst (λ (fs : List Stored). In s c.loop-file.stored.items ↔ HasWhole c.args.id c.args.span.now fs s) (take_all c.loop-file.file-index c.args.files.now c.loop-file-test.false) (c.loop-file.invariant s)
