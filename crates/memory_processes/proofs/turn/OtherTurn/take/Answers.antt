use Rattle.std.proofs.Common.{sym, subst, true, false, Option}
use Rattle.std.specs.Prelude.{is_ok}
use Rattle.archive_lookup.specs.Turns.{GoesByTurn, GivesReceipts}
use Rattle.memory_processes.specs.declared.turn.OtherPush.{OtherPush}
use Rattle.memory_processes.specs.Others.{pushed_by}
use Rattle.memory_processes.proofs.Pushed.{turn_idle}
use Rattle.memory_processes.proofs.Receipts.{receipts_at}
use Rattle.memory_processes.proofs.turn.OtherTurn.take.Goals as goal

pub returns-in-None-clause-repository : goal.returns-in-None-clause-repository
returns-in-None-clause-repository g c =
    subst (λ (p : Option OtherPush). GoesByTurn c.args.stanza.now (pushed_by c.args.stanza.now p false true).turn (g.D.Disk.state c.args.repo.now).view (g.D.Disk.state c.args.repo.now).view) (sym c.in-None.is)
    (turn_idle c.args.stanza.now (g.D.Disk.state c.args.repo.now).view)

pub returns-in-Some-clause-receipts : goal.returns-in-Some-clause-receipts
returns-in-Some-clause-receipts g c =
    subst (λ (p : Option OtherPush). GivesReceipts c.args.stanza.now (pushed_by c.args.stanza.now p c.was_tried.result (is_ok c.end_turn-done.result)).turn (g.D.Disk.state c.args.repo.now).view (g.D.Disk.state c.push_after-went.new.d).view (g.S.Disk.state c.args.spool.now).view (g.S.Disk.state c.end_turn-done.new.spool).view) (sym c.in-Some.is)
    (receipts_at c.args.stanza.now c.in-Some.push.segment c.in-Some.push.bytes.items c.deref.result.now c.deref-in-Some.result.now c.in-Some.push.id c.push_after-went.result c.was_tried.result (is_ok c.end_turn-done.result) _ _ _ _
    c.deref.ensures.value c.deref-in-Some.ensures.value c.was_tried.ensures c.end_turn-done.ensures.fits c.push_after-went.ensures.stored c.end_turn-done.ensures.receipts)
