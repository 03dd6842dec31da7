use Rattle.std.proofs.Common.{◌∙◌, inr, map, sym}
use Rattle.std.specs.Prelude.{string_bytes}
use Rattle.archive_spool.proofs.Cleared.{among, not_among, no_stale, flip_off, flip_on}
use Rattle.archive_spool.proofs.stale_marks.is_stale.Goals as goal

pub returns-clause-is : goal.returns-clause-is
returns-clause-is c = λ e. inr (c.is_mark-2.ensures.is c.if-not-is_mark.false, not_among c.args.receipts.now c.args.name.now (sym c.is_among.ensures ∙ flip_off c.is_among.result e))

pub returns-clause-not : goal.returns-clause-not
returns-clause-not c = λ e. no_stale c.args.prefix.now (map string_bytes c.args.receipts.now) c.args.name.now (c.is_mark.ensures.not c.if-is_mark.false)
    (λ x. x.1 (among c.args.receipts.now c.args.name.now (sym c.is_among.ensures ∙ flip_on c.is_among.result e)))
