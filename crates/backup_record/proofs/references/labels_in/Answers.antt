use Rattle.backup_record.proofs.Referring.{next_labels, end_labels}
use Rattle.backup_record.proofs.references.labels_in.Goals as goal

pub loop-file-preserved : goal.loop-file-preserved
loop-file-preserved c = next_labels c.args.files.now c.loop-file.file-index c.file-item.result c.loop-file-test.true c.file-item.is c.loop-file.labels.items c.note_of.new.labels.items c.loop-file.invariant c.in_ok-note_of.ensures

pub returns : goal.returns
returns c = end_labels c.args.files.now c.loop-file.file-index c.loop-file.labels.items c.loop-file-test.false c.loop-file.invariant
