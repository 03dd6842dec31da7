use Rattle.std.proofs.Common.{map}
use Rattle.base_model.specs.Values.{file_entry_of}
use Rattle.cmd_verify.proofs.Shared.{apart_known, shared_known, referred_known}
use Rattle.cmd_verify.proofs.findings.shared_files.look_at_referring.Goals as goal

pub returns-then-not-lies_with-clause-adds : goal.returns-then-not-lies_with-clause-adds
returns-then-not-lies_with-clause-adds g c = let D = g.D.Disk in
    apart_known c.args.stanza.now c.args.own.now (file_entry_of c.args.file.now) c.args.other.now.label.now (c.lies_with.ensures.no c.if-not-lies_with.true) (D.state c.args.d.now).view.now c.args.found.now.items

pub returns-then-has_own-clause-adds : goal.returns-then-has_own-clause-adds
returns-then-has_own-clause-adds g c = let D = g.D.Disk in
    let x = c.has_own.ensures c.if-has_own.true in
    shared_known c.args.stanza.now c.args.own.now (file_entry_of c.args.file.now) c.args.other.now.label.now (map file_entry_of c.args.other.now.files.now) x.0 x.1 x.2 (D.state c.args.d.now).view.now c.args.found.now.items c.requires.others

pub returns-clause-adds : goal.returns-clause-adds
returns-clause-adds g c = let D = g.D.Disk in
    referred_known c.args.stanza.now c.args.own.now (file_entry_of c.args.file.now) c.args.other.now.label.now (c.lies_with.ensures.yes c.if-not-lies_with.false) (D.state c.args.d.now).view.now c.args.found.now.items c.look_at_file.new.found.items c.in_ok-look_at_file.ensures.adds
