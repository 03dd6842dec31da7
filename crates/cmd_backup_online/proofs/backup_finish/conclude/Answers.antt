use Rattle.std.proofs.Common.{refl, ap}
use Rattle.std.specs.Prelude.{Result, Ok, Err}
use Rattle.backup_make.specs.Staged.{closed_draft, closed_ends, closed_online}
use Rattle.cmd_types.specs.declared.stages.halt.Halt.{Halt}
use Rattle.cmd_types.specs.declared.stages.outcome.Outcome.{Outcome}
use Rattle.cmd_types.specs.declared.stages.outcome.Outcome.TheVariants.{Finished}
use Rattle.cmd_backup_common.specs.Making.{Well, Ill}
use Rattle.cmd_backup_online.specs.declared.fault.OnlineBackupFault.{OnlineBackupFault}
use Rattle.cmd_backup_online.proofs.Finishings.{halt_of_draft, publish_known}
use Rattle.cmd_backup_online.proofs.backup_finish.conclude.Goals as goal

pub returns-in-Ok-clause-publishes : goal.returns-in-Ok-clause-publishes
returns-in-Ok-clause-publishes g c = record {
  made = Ok tt;
  outcome = c.in-Ok.ensures.made;
  ended = Ok (Finished c.args.lines);
  end = Well tt c.args.lines refl;
  is = refl;
}

pub returns-in-Err-clause-publishes : goal.returns-in-Err-clause-publishes
returns-in-Err-clause-publishes g c = record {
  made = Err c.in-Err.fault;
  outcome = c.in-Err.ensures.made;
  ended = Err c.of_make.result;
  end = Ill 0 c.in-Err.fault c.of_make.result (halt_of_draft (closed_draft c.args.closed) c.args.stanza.now c.args.label.now c.requires.stanza c.requires.label_is 0 c.in-Err.fault c.of_make.result c.of_make.ensures);
  is = ap (λ (h : Halt OnlineBackupFault). (let r : Result Outcome (Halt OnlineBackupFault) = Err h in r)) c.of_backup.ensures;
}

pub returns-in-Err-clause-cause : goal.returns-in-Err-clause-cause
returns-in-Err-clause-cause g c = publish_known (closed_draft c.args.closed) (closed_online c.args.closed) (closed_ends c.args.closed) 0 _ _ c.in-Err.fault c.of_make.result c.of_backup.result c.of_backup.ensures
    (halt_of_draft (closed_draft c.args.closed) c.args.stanza.now c.args.label.now c.requires.stanza c.requires.label_is 0 c.in-Err.fault c.of_make.result c.of_make.ensures) c.in-Err.ensures.fault
