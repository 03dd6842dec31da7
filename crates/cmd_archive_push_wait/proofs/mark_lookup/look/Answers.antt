use Rattle.std.proofs.Common.{rules}
use Rattle.base_disk.proofs.Changes.{only_on, only_rests}
use Rattle.cmd_archive_push_wait.proofs.Looked.{bare_by, cleared, look_only}
use Rattle.cmd_archive_push_wait.proofs.mark_lookup.look.Goals as goal

pub returns-in-Ok-Done-clause-only : goal.returns-in-Ok-Done-clause-only
returns-in-Ok-Done-clause-only g c = look_only c.args.stanza.now c.args.name _ _ c.ask.ensures.only

pub returns-in-Ok-Reported-clause-only : goal.returns-in-Ok-Reported-clause-only
returns-in-Ok-Reported-clause-only g c = look_only c.args.stanza.now c.args.name _ _ c.ask.ensures.only

pub returns-in-Ok-clause-bare : goal.returns-in-Ok-clause-bare
returns-in-Ok-clause-bare g c = λ nothing some synced.
    bare_by c.args.stanza.now c.args.name (search rules) (g.S.Disk.state c.args.spool.now).view (g.S.Disk.state c.ask.new.spool).view (g.S.Disk.state c.sync_marks.new.spool).view
    c.ask.ensures.marks (cleared c.args.stanza.now c.args.name _ _ c.in-Ok-NotYet.ensures.gone) c.ask.ensures.known
    c.sync_marks.ensures.looks.time c.sync_marks.ensures.looks.now c.in-Ok.ensures.settled some synced

pub returns-in-Ok-clause-only : goal.returns-in-Ok-clause-only
returns-in-Ok-clause-only g c = only_on _ _ _ _ (look_only c.args.stanza.now c.args.name _ _ c.ask.ensures.only)
    (only_rests _ _ _ c.sync_marks.ensures.looks.time c.sync_marks.ensures.looks.now)

pub returns-in-Err-sync_marks-clause-only : goal.returns-in-Err-sync_marks-clause-only
returns-in-Err-sync_marks-clause-only g c = only_on _ _ _ _ (look_only c.args.stanza.now c.args.name _ _ c.ask.ensures.only)
    (only_rests _ _ _ c.sync_marks.ensures.looks.time c.sync_marks.ensures.looks.now)

pub returns-in-Err-clause-only : goal.returns-in-Err-clause-only
returns-in-Err-clause-only g c = look_only c.args.stanza.now c.args.name _ _ c.ask.ensures.only
