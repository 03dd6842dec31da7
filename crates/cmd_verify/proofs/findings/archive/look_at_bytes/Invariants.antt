use Rattle.std.proofs.Common.{take}
use Rattle.std.specs.Prelude.{IfSome}
use Rattle.base_model.specs.Text.{Text}
use Rattle.archive_lookup.specs.Stored.{AreStored}
use Rattle.cmd_verify.specs.Archived.{HasOther}
use Rattle.cmd_verify.specs.Adding.{Adds, OfSome}
use Rattle.base_devices.specs.States.{OnlyReads}
use Rattle.cmd_verify.proofs.findings.archive.look_at_bytes.Given as goal

abbrev pub invariant-loop-file : goal.invariant-loop-file
invariant-loop-file g l = let D = g.D.Disk in record {
  adds : IfSome (D.state l.fn.d).view.now (λ f. (stanza : Text) → AreStored stanza f l.files → Adds (OfSome (HasOther f) (take l.file-index l.files)) l.fn.found.items l.found.items);
  looks : OnlyReads (D.state l.fn.d) (D.state l.d);
}
