use Rattle.std.proofs.Common.{rules, sym, subst, true}
use Rattle.std.specs.Prelude.{OnOk}
use Rattle.base_model.specs.InfoFiles.{IsSegment}
use Rattle.memory_processes.specs.declared.pushing.PushResult.{PushResult}
use Rattle.memory_processes.specs.Pushing.{GivesReceipt, marks_of, was_tried}
use Rattle.archive_lookup.specs.Turns.{LeavesMarks}
use Rattle.memory_processes.proofs.Receipts.{receipts_put, marks_by}
use Rattle.memory_processes.proofs.pushing.end_turn.Goals as goal

pub returns-in-Stored-clause-receipts : goal.returns-in-Stored-clause-receipts
returns-in-Stored-clause-receipts g c =
    let is : IsSegment c.args.segment = search rules in
    subst (λ (w : PushResult). GivesReceipt c.args.stanza.now c.args.segment c.args.bytes.now w (g.S.Disk.state c.args.spool.now).view (g.S.Disk.state c.mark.new.spool).view) (sym c.in-Stored.is)
    (receipts_put c.args.stanza.now c.args.segment c.args.bytes.now is _ _ c.mark.ensures.crash)

pub returns-in-Stored-clause-marks : goal.returns-in-Stored-clause-marks
returns-in-Stored-clause-marks g c =
    subst (λ (w : PushResult). OnOk c.mark.result (LeavesMarks c.args.stanza.now (marks_of c.args.stanza.now c.args.segment c.args.bytes.now (was_tried w) true) (g.S.Disk.state c.args.spool.now).view.now (g.S.Disk.state c.mark.new.spool).view.now)) (sym c.in-Stored.is)
    (marks_by c.args.stanza.now c.args.segment c.args.bytes.now c.mark.result _ _ c.mark.ensures.whole c.mark.ensures.unknown)
