use Rattle.std.proofs.Common.{map}
use Rattle.std.specs.Prelude.{string_bytes}
use Rattle.archive_spool.specs.Clearing.{IsStaleAt}
use Rattle.archive_spool.proofs.Cleared.{lessens_on, works_on, gone_more, gone_as}
use Rattle.archive_spool.proofs.stale_marks.clear_each.Goals as goal

pub returns-in_err-clear_one-clause-drops : goal.returns-in_err-clear_one-clause-drops
returns-in_err-clear_one-clause-drops g c = lessens_on (IsStaleAt c.args.prefix.now (map string_bytes c.args.receipts.now)) _ _ _ c.loop-each.invariant.drops c.clear_one.ensures.drops

pub returns-in_err-clear_one-clause-works : goal.returns-in_err-clear_one-clause-works
returns-in_err-clear_one-clause-works g c = works_on _ _ _ _ _ c.loop-each.invariant.works c.clear_one.ensures.works

pub loop-each-preserved : goal.loop-each-preserved
loop-each-preserved g c = record {
  gone = gone_more (IsStaleAt c.args.prefix.now (map string_bytes c.args.receipts.now)) c.args.found.now c.loop-each.each-index c.each-item.result _ _ c.loop-each-test.true c.each-item.is c.clear_one.ensures.drops c.loop-each.invariant.gone
      (gone_as (IsStaleAt c.args.prefix.now (map string_bytes c.args.receipts.now)) _ _ _ c.as_str.ensures.value c.in_ok-clear_one.ensures.gone);
  drops = lessens_on (IsStaleAt c.args.prefix.now (map string_bytes c.args.receipts.now)) _ _ _ c.loop-each.invariant.drops c.clear_one.ensures.drops;
  works = works_on _ _ _ _ _ c.loop-each.invariant.works c.clear_one.ensures.works;
}
