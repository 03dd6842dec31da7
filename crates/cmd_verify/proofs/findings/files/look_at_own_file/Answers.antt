use Rattle.base_model.specs.Values.{file_entry_of}
use Rattle.cmd_verify.proofs.Shared.{other_known, own_known}
use Rattle.cmd_verify.proofs.findings.files.look_at_own_file.Goals as goal

pub returns-then-not-lies_in_own-clause-adds : goal.returns-then-not-lies_in_own-clause-adds
returns-then-not-lies_in_own-clause-adds g c = let D = g.D.Disk in
    other_known c.args.stanza.now c.args.own.now (file_entry_of c.args.file.now) (c.lies_in_own.ensures.no c.if-not-lies_in_own.true) (D.state c.args.d.now).view.now c.args.found.now.items

pub returns-clause-adds : goal.returns-clause-adds
returns-clause-adds g c = let D = g.D.Disk in
    own_known c.args.stanza.now c.args.own.now (file_entry_of c.args.file.now) (c.lies_in_own.ensures.yes c.if-not-lies_in_own.false) (D.state c.args.d.now).view.now c.args.found.now.items c.look_at_file.new.found.items c.in_ok-look_at_file.ensures.adds
