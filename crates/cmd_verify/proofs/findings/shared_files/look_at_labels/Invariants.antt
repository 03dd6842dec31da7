use Rattle.std.proofs.Common.{take, map}
use Rattle.std.specs.Prelude.{IfSome}
use Rattle.base_devices.specs.States.{OnlyReads}
use Rattle.base_model.specs.declared.labels.Label.{Label}
use Rattle.base_model.specs.Values.{file_entry_of}
use Rattle.cmd_verify.specs.Adding.{AddsMost, OfSome, Never}
use Rattle.cmd_verify.specs.Sharing.{SharedDeviates, IsElsewhere}
use Rattle.cmd_verify.proofs.findings.shared_files.look_at_labels.Given as goal

abbrev pub invariant-loop-label : goal.invariant-loop-label
invariant-loop-label g l = let D = g.D.Disk in record {
  adds : IfSome (D.state l.fn.d).view.now (λ f. AddsMost (OfSome (SharedDeviates l.stanza f l.backup.label.now (map file_entry_of l.backup.files.now)) (take l.label-index l.labels))
      (OfSome (λ (r : Label). Never) (take l.label-index l.labels)) (IsElsewhere l.stanza f) l.fn.found.items l.found.items);
  looks : OnlyReads (D.state l.fn.d) (D.state l.d);
}
