use Rattle.std.proofs.Common.{subst, List}
use Rattle.std.proofs.lemmas.List.{take_all}
use Rattle.std.specs.Prelude.{IfSome}
use Rattle.base_model.specs.Text.{Text}
use Rattle.archive_lookup.specs.declared.stored.files.Stored.{Stored}
use Rattle.archive_lookup.specs.Stored.{AreStored}
use Rattle.cmd_verify.specs.Archived.{HasOther}
use Rattle.cmd_verify.specs.Adding.{Adds, OfSome}
use Rattle.base_devices.proofs.States.{looks_on}
use Rattle.cmd_verify.proofs.Looking.{looks_still}
use Rattle.cmd_verify.proofs.Summed.{bytes_none, bytes_next}
use Rattle.cmd_verify.proofs.findings.archive.look_at_bytes.Goals as goal

pub loop-file-init : goal.loop-file-init
loop-file-init g c = let D = g.D.Disk in record {
  adds = bytes_none (D.state c.args.d.now).view.now c.args.files.now c.args.found.now.items;
  looks = looks_still (D.state c.args.d.now);
}

pub loop-file-preserved : goal.loop-file-preserved
loop-file-preserved g c =
    let D = g.D.Disk in
    let l = c.loop-file in
    let i = l.invariant in
    let r = c.look_at_stored.ensures in
    record {
      adds = bytes_next (D.state c.args.d.now).view.now (D.state l.d).view.now c.args.files.now l.file-index c.file-item.result c.args.found.now.items l.found.items c.look_at_stored.new.found.items i.looks.now c.loop-file-test.true c.file-item.is i.adds c.in_ok-look_at_stored.ensures.adds;
      looks = looks_on (D.state c.args.d.now) (D.state l.d) (D.state c.look_at_stored.new.d) i.looks r.looks;
    }

pub returns-clause-adds : goal.returns-clause-adds
returns-clause-adds g c = let D = g.D.Disk in
    subst (λ (fs : List Stored). IfSome (D.state c.args.d.now).view.now (λ f. (stanza : Text) → AreStored stanza f c.args.files.now → Adds (OfSome (HasOther f) fs) c.args.found.now.items c.loop-file.found.items))
    (take_all c.loop-file.file-index c.args.files.now c.loop-file-test.false) c.loop-file.invariant.adds
