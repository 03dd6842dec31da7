use Rattle.std.proofs.Common.{rules}
use Rattle.std.proofs.lemmas.Result.{on_ok_weaker}
use Rattle.base_disk.proofs.Changes.{only_none}
use Rattle.base_model.specs.Names.{wal_text}
use Rattle.base_model.specs.Represents.{IsWalName}
use Rattle.cmd_archive_push.specs.WalPath.{wal_path}
use Rattle.archive_spool.specs.Marks.{named}
use Rattle.cmd_archive_push_async.proofs.Following.{opened_bytes, answered_goes, answered_puts, drains_one, drains_failed, ends_wide, counted_of, marked_ends}
use Rattle.cmd_archive_push_async.proofs.files.marked_store.store_log.Goals as goal

pub returns-in-Ok-clause-drains : goal.returns-in-Ok-clause-drains
returns-in-Ok-clause-drains g c = λ f is.
    let fits : IsWalName c.args.name = search rules in
    let b = opened_bytes (wal_path (wal_text c.args.name)) (g.T.DataFolder.state c.args.tree.now).nodes f is c.requires.opened.there in
    let shows = c.in-Ok.ensures.sum b.0 b.2 in
    drains_one c.args.to.now.stanza.now c.args.to.now.id c.args.to.now.system f c.args.name b.0 b.1 _ _ _ _ c.in-Ok.tried c.mark_tried.result
    (answered_goes c.args.to.now.stanza.now c.args.to.now.id (named c.args.name b.0) _ _ c.push_log.result c.in-Ok.tried c.in-Ok.is (c.push_log.ensures.goes b.0 b.2))
    (answered_puts c.args.to.now.stanza.now c.args.to.now.id c.args.to.now.system c.args.name b.0 _ _ c.push_log.result c.in-Ok.tried c.in-Ok.is (c.push_log.ensures.puts b.0 b.2))
    (c.in-Ok.ensures.fate b.0 b.2) (c.mark_tried.ensures.marks b.0 shows fits) (c.mark_tried.ensures.part b.0 shows)
    (on_ok_weaker c.mark_tried.result (λ h. h b.0 shows) c.mark_tried.ensures.whole) (counted_of c.mark_tried.result b.0 c.in-Ok.tried c.mark_tried.ensures.counted)

pub returns-in-Err-clause-drains : goal.returns-in-Err-clause-drains
returns-in-Err-clause-drains g c = λ f is.
    let b = opened_bytes (wal_path (wal_text c.args.name)) (g.T.DataFolder.state c.args.tree.now).nodes f is c.requires.opened.there in
    drains_failed c.args.to.now.stanza.now c.args.to.now.id c.args.to.now.system f c.args.name b.0 b.1 _ _ _ (g.S.Disk.state c.args.spool.now).view c.push_log.result c.in-Err.halt c.in-Err.is (c.push_log.ensures.goes b.0 b.2)
    (c.push_log.ensures.puts b.0 b.2)

pub returns-in-Ok-clause-cause : goal.returns-in-Ok-clause-cause
returns-in-Ok-clause-cause g c = marked_ends c.mark_tried.result _ _ _ _ c.mark_tried.ensures.cause

pub returns-in-Err-clause-cause : goal.returns-in-Err-clause-cause
returns-in-Err-clause-cause g c = ends_wide _ _ _ _ _ _ _ _ (λ e h. h) (λ h. h) (λ h. absurd h) (λ h. h) c.in-Err.halt c.in-Err.ensures.cause

pub returns-in-Err-clause-spool_only : goal.returns-in-Err-clause-spool_only
returns-in-Err-clause-spool_only g c = only_none _ _
