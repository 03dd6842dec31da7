use Rattle.cmd_backup_common.proofs.parts.backup_begin.begin.Goals as goal

pub returns-clause-settled : goal.returns-clause-settled
returns-clause-settled g c = c.in_ok-list.ensures.settled
