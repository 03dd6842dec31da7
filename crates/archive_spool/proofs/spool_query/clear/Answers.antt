use Rattle.archive_spool.proofs.Renamed.{removed_both}
use Rattle.archive_spool.proofs.spool_query.clear.Goals as goal

pub returns-in_err-remove-2-clause-only : goal.returns-in_err-remove-2-clause-only
returns-in_err-remove-2-clause-only g c = removed_both c.args.names.now _ _ c.deref.ensures c.deref-2.ensures c.remove.result c.remove-2.result _ _ _ c.remove.ensures.works.time c.remove.ensures.now c.remove-2.ensures.works.time c.remove-2.ensures.now
