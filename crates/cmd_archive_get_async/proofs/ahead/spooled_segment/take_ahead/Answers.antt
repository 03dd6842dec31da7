use Rattle.cmd_archive_get_async.proofs.Within.{ahead_marks, ahead_beside, taken_only, taken_ahead}
use Rattle.cmd_archive_get_async.proofs.ahead.spooled_segment.take_ahead.Goals as goal

pub returns-in-Ok-clear-clause-only : goal.returns-in-Ok-clear-clause-only
returns-in-Ok-clear-clause-only g c = taken_only c.args.stanza.now c.args.segment.now (g.S.Disk.state c.args.spool.now) (g.S.Disk.state c.pass_ahead.new.spool) (g.S.Disk.state c.clear.new.spool) c.pass_ahead.ensures.looks c.clear.ensures.only

pub returns-in-Ok-clear-clause-marks : goal.returns-in-Ok-clear-clause-marks
returns-in-Ok-clear-clause-marks g c = ahead_marks c.args.stanza.now _ _ (taken_ahead c.args.stanza.now c.args.segment.now (g.S.Disk.state c.args.spool.now) (g.S.Disk.state c.pass_ahead.new.spool) (g.S.Disk.state c.clear.new.spool) c.pass_ahead.ensures.looks c.clear.ensures.only)

pub returns-in-Ok-clear-clause-beside : goal.returns-in-Ok-clear-clause-beside
returns-in-Ok-clear-clause-beside g c = ahead_beside c.args.stanza.now _ _ (taken_ahead c.args.stanza.now c.args.segment.now (g.S.Disk.state c.args.spool.now) (g.S.Disk.state c.pass_ahead.new.spool) (g.S.Disk.state c.clear.new.spool) c.pass_ahead.ensures.looks c.clear.ensures.only)

pub returns-clause-only : goal.returns-clause-only
returns-clause-only g c = taken_only c.args.stanza.now c.args.segment.now (g.S.Disk.state c.args.spool.now) (g.S.Disk.state c.pass_ahead.new.spool) (g.S.Disk.state c.clear.new.spool) c.pass_ahead.ensures.looks c.clear.ensures.only

pub returns-clause-marks : goal.returns-clause-marks
returns-clause-marks g c = ahead_marks c.args.stanza.now _ _ (taken_ahead c.args.stanza.now c.args.segment.now (g.S.Disk.state c.args.spool.now) (g.S.Disk.state c.pass_ahead.new.spool) (g.S.Disk.state c.clear.new.spool) c.pass_ahead.ensures.looks c.clear.ensures.only)

pub returns-clause-beside : goal.returns-clause-beside
returns-clause-beside g c = ahead_beside c.args.stanza.now _ _ (taken_ahead c.args.stanza.now c.args.segment.now (g.S.Disk.state c.args.spool.now) (g.S.Disk.state c.pass_ahead.new.spool) (g.S.Disk.state c.clear.new.spool) c.pass_ahead.ensures.looks c.clear.ensures.only)
