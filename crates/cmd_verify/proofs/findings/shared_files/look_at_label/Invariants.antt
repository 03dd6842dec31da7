use Rattle.std.proofs.Common.{take, map}
use Rattle.std.specs.Prelude.{IfSome}
use Rattle.base_devices.specs.States.{OnlyReads}
use Rattle.base_model.specs.Values.{FileEntry, file_entry_of}
use Rattle.cmd_verify.specs.Adding.{AddsMost, OfSome, Never}
use Rattle.cmd_verify.specs.Sharing.{ReferredDeviates, IsElsewhere}
use Rattle.cmd_verify.proofs.findings.shared_files.look_at_label.Given as goal

abbrev pub invariant-loop-file : goal.invariant-loop-file
invariant-loop-file g l = let D = g.D.Disk in record {
  adds : IfSome (D.state l.fn.d).view.now (λ f. AddsMost (OfSome (ReferredDeviates l.stanza f l.backup.label.now l.other.label.now) (map file_entry_of (take l.file-index l.backup.files.now)))
      (OfSome (λ (e : FileEntry). Never) (map file_entry_of (take l.file-index l.backup.files.now))) (IsElsewhere l.stanza f) l.fn.found.items l.found.items);
  looks : OnlyReads (D.state l.fn.d) (D.state l.d);
}
