use Rattle.base_devices.specs.Content.{Content}
use Rattle.base_model.specs.Values.{FileEntry, file_entry_of}
use Rattle.cmd_verify.specs.Sharing.{OwnEntryDeviates}
use Rattle.cmd_verify.proofs.Adding.{loop_start, loop_step, item_in}
use Rattle.base_devices.proofs.States.{looks_on}
use Rattle.cmd_verify.proofs.Looking.{looks_still}
use Rattle.cmd_verify.proofs.findings.files.look_at_own_files.Goals as goal

pub loop-file-init : goal.loop-file-init
loop-file-init g c = let D = g.D.Disk in record {
  adds = loop_start (λ (f : Content) (e : FileEntry). OwnEntryDeviates c.args.stanza.now f c.args.own.now e) (D.state c.args.d.now).view.now c.args.found.now.items;
  looks = looks_still (D.state c.args.d.now);
}

pub loop-file-preserved : goal.loop-file-preserved
loop-file-preserved g c =
    let D = g.D.Disk in
    let l = c.loop-file in
    let i = l.invariant in
    let r = c.look_at_own_file.ensures in
    record {
      adds = loop_step (λ (f : Content) (e : FileEntry). OwnEntryDeviates c.args.stanza.now f c.args.own.now e) file_entry_of (D.state c.args.d.now).view.now (D.state l.d).view.now c.args.files.now l.file-index c.file-item.result c.args.found.now.items l.found.items c.look_at_own_file.new.found.items
          c.loop-file-test.true c.file-item.is i.looks.now i.adds c.in_ok-look_at_own_file.ensures.adds;
      looks = looks_on (D.state c.args.d.now) (D.state l.d) (D.state c.look_at_own_file.new.d) i.looks r.looks;
    }

pub look_at_own_file-requires-clause-reference : goal.look_at_own_file-requires-clause-reference
look_at_own_file-requires-clause-reference g c =
    c.requires.references (file_entry_of c.file-item.result) (item_in file_entry_of c.args.files.now c.loop-file.file-index c.file-item.result c.loop-file-test.true c.file-item.is)
