use Rattle.base_model.specs.Values.{archive_info_of, backup_info_of}
use Rattle.repo_stanza.specs.ControlFile.{first_cluster}
use Rattle.cmd_stanza_upgrade.proofs.Upgrades.{halted_does, halted_still, halted_cause, ended_does, ended_still, ended_cause, finishes}
use Rattle.cmd_stanza_upgrade.proofs.upgrade_command.upgrade_list.Goals as goal

pub returns-in-Ok-clause-does : goal.returns-in-Ok-clause-does
returns-in-Ok-clause-does g c = ended_does c.args.stanza.now (first_cluster c.args.known.now)
    (g.D.Disk.state c.args.repo.now).view (g.D.Disk.state c.upgrade.new.d).view
    c.upgrade.ensures.known c.upgrade.ensures.part c.upgrade.ensures.moves c.in-Ok.ensures.done c.in-Ok.ensures.made
    c.ended.result _ c.ended.ensures.line c.ended.ensures.starved

pub returns-in-Ok-clause-made : goal.returns-in-Ok-clause-made
returns-in-Ok-clause-made g c = finishes c.args.stanza.now c.args.known.now
    (g.D.Disk.state c.args.repo.now).view.now (g.D.Disk.state c.upgrade.new.d).view.now
    (archive_info_of c.args.archive) (backup_info_of c.args.list) c.requires.list c.in-Ok.ensures.agrees
    c.in-Ok.upgraded c.in-Ok.ensures.same c.in-Ok.ensures.new c.in-Ok.ensures.number c.in-Ok.ensures.few
    c.in-Ok.ensures.members c.ended.result c.ended.ensures.line

pub returns-in-Ok-clause-refused : goal.returns-in-Ok-clause-refused
returns-in-Ok-clause-refused g c = ended_still _ c.ended.result _ c.ended.ensures.line c.ended.ensures.starved

pub returns-in-Ok-clause-cause : goal.returns-in-Ok-clause-cause
returns-in-Ok-clause-cause g c = ended_cause c.args.stanza.now c.args.known.now
    (g.D.Disk.state c.args.repo.now).view.now _ c.ended.result c.ended.ensures.starved

pub returns-in-Err-clause-does : goal.returns-in-Err-clause-does
returns-in-Err-clause-does g c = halted_does c.args.stanza.now (first_cluster c.args.known.now)
    (g.D.Disk.state c.args.repo.now).view (g.D.Disk.state c.upgrade.new.d).view
    c.upgrade.ensures.known c.upgrade.ensures.part c.upgrade.ensures.moves c.in-Err.fault c.of_upgrade.result
    c.of_upgrade.ensures c.in-Err.ensures.rests c.in-Err.ensures.refused

pub returns-in-Err-clause-refused : goal.returns-in-Err-clause-refused
returns-in-Err-clause-refused g c = halted_still (g.D.Disk.state c.args.repo.now).view
    (g.D.Disk.state c.upgrade.new.d).view c.in-Err.fault c.of_upgrade.result c.of_upgrade.ensures
    c.in-Err.ensures.rests c.in-Err.ensures.refused

pub returns-in-Err-clause-cause : goal.returns-in-Err-clause-cause
returns-in-Err-clause-cause g c = halted_cause c.args.stanza.now c.args.known.now
    (g.D.Disk.state c.args.repo.now).view.now _ (archive_info_of c.args.archive) (backup_info_of c.args.list)
    c.requires.list c.in-Err.fault c.of_upgrade.result c.of_upgrade.ensures c.in-Err.ensures.cause
