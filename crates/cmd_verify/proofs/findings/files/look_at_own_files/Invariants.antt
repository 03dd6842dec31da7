use Rattle.std.proofs.Common.{take, map}
use Rattle.std.specs.Prelude.{IfSome}
use Rattle.base_model.specs.Values.{file_entry_of}
use Rattle.cmd_verify.specs.Sharing.{OwnEntryDeviates}
use Rattle.cmd_verify.specs.Adding.{Adds, OfSome}
use Rattle.base_devices.specs.States.{OnlyReads}
use Rattle.cmd_verify.proofs.findings.files.look_at_own_files.Given as goal

abbrev pub invariant-loop-file : goal.invariant-loop-file
invariant-loop-file g l = let D = g.D.Disk in record {
  adds : IfSome (D.state l.fn.d).view.now (λ f. Adds (OfSome (OwnEntryDeviates l.stanza f l.own) (map file_entry_of (take l.file-index l.files))) l.fn.found.items l.found.items);
  looks : OnlyReads (D.state l.fn.d) (D.state l.d);
}
