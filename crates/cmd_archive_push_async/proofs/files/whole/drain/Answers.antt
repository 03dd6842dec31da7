use Rattle.std.proofs.Common.{◌∙◌, []}
use Rattle.std.proofs.lemmas.Result.{on_ok_weaker}
use Rattle.base_disk.proofs.Changes.{only_none, only_on, only_rests}
use Rattle.cmd_archive_push_async.proofs.Held.{ready_apart}
use Rattle.cmd_archive_push_async.proofs.Wholes.{undone_drains, settled_drains, settled_marks, ready_at, ready_failed, ends_by_list, ends_by_settle, names_as, named_known, failed_named}
use Rattle.cmd_archive_push_async.proofs.Paired.{pair_same}
use Rattle.cmd_archive_push_async.proofs.Putting.{some_none}
use Rattle.cmd_archive_push_async.proofs.files.whole.drain.Goals as goal

pub returns-in-Err-clause-drains : goal.returns-in-Err-clause-drains
returns-in-Err-clause-drains g c = λ f is. record {
  names = [];
  each = λ name at. absurd at;
  apart = tt;
  ready = λ some. cc;
  named = undone_drains c.args.stanza.now c.args.id c.args.system f [] _ _ (g.met.S.Disk.now_may_be_left c.args.spool.now);
}

pub returns-in-Err-clause-repo_only : goal.returns-in-Err-clause-repo_only
returns-in-Err-clause-repo_only g c = only_none _ _

pub returns-in-Err-clause-spool_only : goal.returns-in-Err-clause-spool_only
returns-in-Err-clause-spool_only g c = only_none _ _

pub returns-in-Err-clause-cause : goal.returns-in-Err-clause-cause
returns-in-Err-clause-cause g c = ends_by_list _ _ _ _ c.in-Err.halt c.in-Err.ensures.cause

pub returns-in-Err-drain_named-clause-drains : goal.returns-in-Err-drain_named-clause-drains
returns-in-Err-drain_named-clause-drains g c = λ f is. record {
  names = c.deref.result.now;
  each = (ready_at (g.T.DataFolder.state c.args.tree.now).nodes f _ is (names_as _ _ _ c.deref.ensures.value c.in-Ok.ensures.ready)).each;
  apart = ready_apart f c.deref.result.now (ready_at (g.T.DataFolder.state c.args.tree.now).nodes f _ is (names_as _ _ _ c.deref.ensures.value c.in-Ok.ensures.ready));
  ready = λ some. cc;
  named = failed_named c.args.stanza.now c.args.id c.args.system f c.deref.result.now _ _ _ _ c.drain_named.result c.in-Err-drain_named.halt c.in-Err-drain_named.is (c.drain_named.ensures.drains f (c.ready_names.ensures.looks.nodes ∙ is));
}

pub returns-in-Err-drain_named-clause-cause : goal.returns-in-Err-drain_named-clause-cause
returns-in-Err-drain_named-clause-cause g c = ready_failed c.args.stanza.now c.args.id _ _ _ c.deref.result.now c.ready_names.ensures.looks.nodes (names_as _ _ _ c.deref.ensures.value c.in-Ok.ensures.ready) _ _ _ _ _ c.ready_names.ensures.looks.later c.in-Err-drain_named.halt c.in-Err-drain_named.ensures.cause

pub returns-clause-drains : goal.returns-clause-drains
returns-clause-drains g c = λ f is. record {
  names = c.deref.result.now;
  each = (ready_at (g.T.DataFolder.state c.args.tree.now).nodes f _ is (names_as _ _ _ c.deref.ensures.value c.in-Ok.ensures.ready)).each;
  apart = ready_apart f c.deref.result.now (ready_at (g.T.DataFolder.state c.args.tree.now).nodes f _ is (names_as _ _ _ c.deref.ensures.value c.in-Ok.ensures.ready));
  ready = λ some. ready_at (g.T.DataFolder.state c.args.tree.now).nodes f _ is (names_as _ _ _ c.deref.ensures.value c.in-Ok.ensures.ready);
  named = settled_drains c.args.stanza.now c.args.id c.args.system f c.deref.result.now _ _ _ _ _ (g.met.S.Disk.now_may_be_left c.args.spool.now) (g.met.S.Disk.now_may_be_left c.sync_marks.new.spool)
      c.sync_marks.result c.in-Ok-drain_named.drained c.sync_marks.ensures.same c.sync_marks.ensures.looks.time c.sync_marks.ensures.looks.now
      (named_known c.args.stanza.now c.args.id c.args.system f c.deref.result.now _ _ _ _ c.drain_named.result c.in-Ok-drain_named.drained c.in-Ok-drain_named.is (c.drain_named.ensures.drains f (c.ready_names.ensures.looks.nodes ∙ is)));
}

pub returns-clause-lasts : goal.returns-clause-lasts
returns-clause-lasts g c = on_ok_weaker c.sync_marks.result (λ h. settled_marks c.args.stanza.now (g.S.Disk.state c.args.spool.now).view (g.S.Disk.state c.drain_named.new.spool).view (g.S.Disk.state c.sync_marks.new.spool).view c.drain_named.ensures.spool_only c.sync_marks.ensures.looks.now h) c.sync_marks.ensures.settled

pub returns-clause-spool_only : goal.returns-clause-spool_only
returns-clause-spool_only g c = only_on _ _ _ _ c.drain_named.ensures.spool_only (only_rests _ _ _ c.sync_marks.ensures.looks.time c.sync_marks.ensures.looks.now)

pub returns-clause-cause : goal.returns-clause-cause
returns-clause-cause g c = ends_by_settle _ _ _ _ _ _ c.drain_named.ensures.spool_frame.later c.sync_marks.result c.sync_marks.ensures.cause

pub returns-in-Err-clause-pair : goal.returns-in-Err-clause-pair
returns-in-Err-clause-pair g c = pair_same c.args.stanza.now _

pub returns-in-Err-clause-puts_only : goal.returns-in-Err-clause-puts_only
returns-in-Err-clause-puts_only g c = some_none c.args.stanza.now c.args.id (g.D.Disk.state c.args.repo.now).view
