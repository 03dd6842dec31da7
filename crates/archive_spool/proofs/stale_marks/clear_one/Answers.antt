use Rattle.std.proofs.Common.{map}
use Rattle.std.specs.Prelude.{string_bytes}
use Rattle.archive_spool.specs.Clearing.{IsStaleAt}
use Rattle.archive_spool.proofs.Cleared.{same_lessens, removed_lessens, removed_gone, removed_works, works_still}
use Rattle.archive_spool.proofs.stale_marks.clear_one.Goals as goal

pub returns-then-not-is_stale-clause-gone : goal.returns-then-not-is_stale-clause-gone
returns-then-not-is_stale-clause-gone g c = λ it. absurd (c.is_stale.ensures.not c.if-not-is_stale.true it)

pub returns-then-not-is_stale-clause-drops : goal.returns-then-not-is_stale-clause-drops
returns-then-not-is_stale-clause-drops g c = same_lessens (IsStaleAt c.args.prefix.now (map string_bytes c.args.receipts.now)) _

pub returns-then-not-is_stale-clause-works : goal.returns-then-not-is_stale-clause-works
returns-then-not-is_stale-clause-works g c = works_still _ _ _

pub returns-in_err-remove-clause-drops : goal.returns-in_err-remove-clause-drops
returns-in_err-remove-clause-drops g c = removed_lessens (IsStaleAt c.args.prefix.now (map string_bytes c.args.receipts.now)) c.remove.result c.args.name.now _ _ (c.is_stale.ensures.is c.if-not-is_stale.false) c.remove.ensures.now

pub returns-in_err-remove-clause-works : goal.returns-in_err-remove-clause-works
returns-in_err-remove-clause-works g c = removed_works (IsStaleAt c.args.prefix.now (map string_bytes c.args.receipts.now)) c.args.name.now _ _ (c.is_stale.ensures.is c.if-not-is_stale.false) c.remove.ensures.works

pub returns-clause-gone : goal.returns-clause-gone
returns-clause-gone g c = λ it. removed_gone c.args.name.now _ _ c.in_ok-remove.ensures.now

pub returns-clause-drops : goal.returns-clause-drops
returns-clause-drops g c = removed_lessens (IsStaleAt c.args.prefix.now (map string_bytes c.args.receipts.now)) c.remove.result c.args.name.now _ _ (c.is_stale.ensures.is c.if-not-is_stale.false) c.remove.ensures.now

pub returns-clause-works : goal.returns-clause-works
returns-clause-works g c = removed_works (IsStaleAt c.args.prefix.now (map string_bytes c.args.receipts.now)) c.args.name.now _ _ (c.is_stale.ensures.is c.if-not-is_stale.false) c.remove.ensures.works
