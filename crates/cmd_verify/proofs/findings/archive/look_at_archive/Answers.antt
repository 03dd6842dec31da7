use Rattle.cmd_verify.proofs.Summed.{files_known}
use Rattle.cmd_verify.proofs.findings.archive.look_at_archive.Goals as goal

pub returns-clause-adds : goal.returns-clause-adds
returns-clause-adds g c = let D = g.D.Disk in
    files_known (D.state c.args.d.now).view.now c.args.files.now c.args.found.now.items c.look_at_bytes.new.found.items c.tell_seconds.new.found.items c.in_ok-look_at_bytes.ensures.adds c.in_ok-tell_seconds.ensures
