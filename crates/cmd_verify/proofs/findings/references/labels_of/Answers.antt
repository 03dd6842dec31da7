use Rattle.std.proofs.Common.{◌↔◌, subst, map, List}
use Rattle.std.proofs.lemmas.List.{take_all}
use Rattle.base_model.specs.declared.files.FileEntry.{FileEntry as RustEntry}
use Rattle.base_model.specs.Text.{In}
use Rattle.base_model.specs.Values.{file_entry_of}
use Rattle.cmd_verify.specs.References.{RefersTo}
use Rattle.cmd_verify.proofs.Referring.{file_more}
use Rattle.cmd_verify.proofs.findings.references.labels_of.Goals as goal

pub loop-file-preserved : goal.loop-file-preserved
loop-file-preserved c =
    file_more file_entry_of c.args.files.now c.loop-file.file-index c.file-item.result c.loop-file.labels.items c.add_reference.new.labels.items c.loop-file-test.true c.file-item.is c.loop-file.invariant c.in_ok-add_reference.ensures

pub returns : goal.returns
returns c = λ l. subst (λ (fs : List RustEntry). In l c.loop-file.labels.items ↔ RefersTo (map file_entry_of fs) l) (take_all c.loop-file.file-index c.args.files.now c.loop-file-test.false) (c.loop-file.invariant l)
