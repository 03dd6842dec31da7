use Rattle.archive_spool.proofs.Cleared.{mark_is, mark_not}
use Rattle.archive_spool.proofs.stale_marks.is_mark.Goals as goal

pub returns-clause-is : goal.returns-clause-is
returns-clause-is c = mark_is c.args.name.now c.as_bytes.result.now c.args.prefix.now c.as_bytes-2.result.now c.args.end.now c.as_bytes-3.result.now c.as_bytes.ensures.value c.as_bytes-2.ensures.value c.as_bytes-3.ensures.value
    c.name_between.result c.is_some.result c.is_some.ensures c.name_between.ensures.value c.name_between.ensures.fits

pub returns-clause-not : goal.returns-clause-not
returns-clause-not c = mark_not c.args.name.now c.as_bytes.result.now c.args.prefix.now c.as_bytes-2.result.now c.args.end.now c.as_bytes-3.result.now c.as_bytes.ensures.value c.as_bytes-2.ensures.value c.as_bytes-3.ensures.value
    c.name_between.result c.is_some.result c.is_some.ensures c.name_between.ensures.none
