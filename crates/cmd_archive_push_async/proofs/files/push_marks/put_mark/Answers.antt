use Rattle.std.proofs.Common.{◌∙◌}
use Rattle.std.proofs.lemmas.Result.{on_ok_weaker}
use Rattle.base_devices.specs.Crash.{NowChanges, FirstOf, AllOf}
use Rattle.cmd_archive_push_async.proofs.Put.{stored_writes, refused_writes, stored_gives, refused_gives, receipt_only, refusal_only}
use Rattle.cmd_archive_push_async.proofs.files.push_marks.put_mark.Goals as goal

pub returns-in-Stored-clause-marks : goal.returns-in-Stored-clause-marks
returns-in-Stored-clause-marks g c = stored_gives c.args.stanza.now c.args.name c.args.tried.now _ _ c.in-Stored.sum c.in-Stored.is c.put_receipt.ensures.marks

pub returns-in-Stored-clause-part : goal.returns-in-Stored-clause-part
returns-in-Stored-clause-part g c = stored_writes c.args.stanza.now c.args.name c.args.tried.now
    (λ w. NowChanges (FirstOf w) (g.S.Disk.state c.args.spool.now).view.now (g.S.Disk.state c.put_receipt.new.spool).view.now) c.in-Stored.sum c.in-Stored.is c.put_receipt.ensures.part

pub returns-in-Stored-clause-whole : goal.returns-in-Stored-clause-whole
returns-in-Stored-clause-whole g c = on_ok_weaker c.put_receipt.result (λ h. stored_writes c.args.stanza.now c.args.name c.args.tried.now
    (λ w. NowChanges (AllOf w) (g.S.Disk.state c.args.spool.now).view.now (g.S.Disk.state c.put_receipt.new.spool).view.now) c.in-Stored.sum c.in-Stored.is h) c.put_receipt.ensures.whole

pub returns-in-Stored-clause-only : goal.returns-in-Stored-clause-only
returns-in-Stored-clause-only g c = receipt_only c.args.stanza.now c.args.name _ _ c.put_receipt.ensures.only

pub returns-in-Refused-clause-marks : goal.returns-in-Refused-clause-marks
returns-in-Refused-clause-marks g c = λ bytes shows fits. refused_gives c.args.stanza.now c.args.name c.args.tried.now _ _ c.in-Refused.fault c.in-Refused.line c.in-Refused.is c.put_refusal.ensures.marks bytes

pub returns-in-Refused-clause-part : goal.returns-in-Refused-clause-part
returns-in-Refused-clause-part g c = λ bytes shows. refused_writes c.args.stanza.now c.args.name c.args.tried.now
    (λ w. NowChanges (FirstOf w) (g.S.Disk.state c.args.spool.now).view.now (g.S.Disk.state c.put_refusal.new.spool).view.now) c.in-Refused.fault c.in-Refused.line c.in-Refused.is _ _ (c.from-code.ensures ∙ c.push_status.ensures) c.as_str.ensures.value c.put_refusal.ensures.part bytes

pub returns-in-Refused-clause-whole : goal.returns-in-Refused-clause-whole
returns-in-Refused-clause-whole g c = on_ok_weaker c.put_refusal.result (λ h bytes shows. refused_writes c.args.stanza.now c.args.name c.args.tried.now
    (λ w. NowChanges (AllOf w) (g.S.Disk.state c.args.spool.now).view.now (g.S.Disk.state c.put_refusal.new.spool).view.now) c.in-Refused.fault c.in-Refused.line c.in-Refused.is _ _ (c.from-code.ensures ∙ c.push_status.ensures) c.as_str.ensures.value h bytes) c.put_refusal.ensures.whole

pub returns-in-Refused-clause-only : goal.returns-in-Refused-clause-only
returns-in-Refused-clause-only g c = refusal_only c.args.stanza.now c.args.name _ _ c.put_refusal.ensures.only
