use Rattle.std.proofs.Common.{take, map}
use Rattle.std.specs.Prelude.{IfSome}
use Rattle.base_model.specs.Values.{Entry, entry_of}
use Rattle.cmd_verify.specs.Findings.{ListedDeviates}
use Rattle.cmd_verify.specs.Adding.{AddsMost, OfSome}
use Rattle.cmd_verify.specs.Sharing.{OwnDeviates, IsElsewhere}
use Rattle.base_devices.specs.States.{OnlyReads}
use Rattle.cmd_verify.proofs.findings.whole_check.look_at_backups.Given as goal

abbrev pub invariant-loop-entry : goal.invariant-loop-entry
invariant-loop-entry g l = let D = g.D.Disk in record {
  adds : IfSome (D.state l.fn.d).view.now (λ f. AddsMost (OfSome (ListedDeviates l.stanza f l.history) (map entry_of (take l.entry-index l.entries)))
      (OfSome (λ (e : Entry). OwnDeviates l.stanza f e.label) (map entry_of (take l.entry-index l.entries))) (IsElsewhere l.stanza f) l.fn.found.items l.found.items);
  looks : OnlyReads (D.state l.fn.d) (D.state l.d);
}
