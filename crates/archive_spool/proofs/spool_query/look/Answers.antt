use Rattle.std.proofs.Common.{◌∙◌}
use Rattle.archive_spool.proofs.OnlyReads.{done_by}
use Rattle.archive_spool.proofs.spool_query.look.Goals as goal

pub returns-then-branch-clause-answers : goal.returns-then-branch-clause-answers
returns-then-branch-clause-answers g c =
    done_by c.args.names.now c.args.sum.now.0 c.requires _ _ _ c.in_ok-holds.field-0 c.as_str.ensures.value (c.as_bytes.ensures.value ∙ c.in-Ok.ensures) c.if-branch.true c.in_ok-holds.ensures.holds
