use Rattle.std.proofs.Common.{refl, rules}
use Rattle.repo_stanza.specs.ControlFile.{first_cluster}
use Rattle.cmd_stanza_create.proofs.Creates.{made_does, halted_does, halted_still, members_of, was_of, make_cause}
use Rattle.cmd_stanza_create.proofs.stanza_creation.make.Goals as goal

pub returns-in-Ok-clause-does : goal.returns-in-Ok-clause-does
returns-in-Ok-clause-does g c = made_does c.args.stanza.now (first_cluster c.args.known.now) refl
    (g.D.Disk.state c.args.repo.now).view (g.D.Disk.state c.create.new.d).view
    c.create.ensures.known c.create.ensures.part c.create.ensures.moves c.in-Ok.ensures.done c.in-Ok.ensures.made

pub returns-in-Err-clause-does : goal.returns-in-Err-clause-does
returns-in-Err-clause-does g c = halted_does c.args.stanza.now (first_cluster c.args.known.now) refl
    (g.D.Disk.state c.args.repo.now).view (g.D.Disk.state c.create.new.d).view
    c.create.ensures.known c.create.ensures.part c.create.ensures.moves c.in-Err.fault c.of_stanza.result
    c.of_stanza.ensures c.in-Err.ensures.rests c.in-Err.ensures.refused

pub returns-in-Ok-clause-made : goal.returns-in-Ok-clause-made
returns-in-Ok-clause-made g c = record {
  silent = search rules;
  was = was_of _ _ _ c.in-Ok.ensures.lacking c.in-Ok.ensures.having;
  members = members_of _ c.args.stanza.now c.args.known.now _ _ c.in-Ok.ensures.members c.in-Ok.ensures.having;
  agrees = c.in-Ok.ensures.agrees;
}

pub returns-in-Err-clause-refused : goal.returns-in-Err-clause-refused
returns-in-Err-clause-refused g c = halted_still (g.D.Disk.state c.args.repo.now).view
    (g.D.Disk.state c.create.new.d).view c.in-Err.fault c.of_stanza.result c.of_stanza.ensures c.in-Err.ensures.rests
    c.in-Err.ensures.refused

pub returns-in-Err-clause-cause : goal.returns-in-Err-clause-cause
returns-in-Err-clause-cause g c = make_cause c.args.stanza.now c.args.known.now _ _ c.in-Err.fault c.of_stanza.result
    c.of_stanza.ensures c.in-Err.ensures.cause
