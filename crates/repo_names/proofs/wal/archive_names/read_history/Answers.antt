use Rattle.std.proofs.Common.{codes, sym, ◌∙◌}
use Rattle.repo_names.proofs.Digits.{same_prefix}
use Rattle.repo_names.proofs.SegmentTexts.{unlike}
use Rattle.repo_names.proofs.wal.archive_names.read_history.Goals as goal

pub returns-else-eq-clause-none : goal.returns-else-eq-clause-none
returns-else-eq-clause-none c n e =
    let rest = c.in_ok-timeline.rest.now in
    let after = same_prefix c.in_ok-timeline.timeline n rest (codes ".history") (sym c.in_ok-timeline.ensures.value ∙ e) in
    unlike c.eq.result rest c.as_slice.result.now (codes ".history") c.eq.ensures c.if-eq.false c.as_slice.ensures after.1
