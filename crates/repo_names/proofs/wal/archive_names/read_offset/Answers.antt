use Rattle.std.proofs.Common.{◌≡◌, ◌++◌, codes, sym, ◌∙◌}
use Rattle.base_model.specs.Text.{hex_upper}
use Rattle.repo_names.proofs.Digits.{same_prefix}
use Rattle.repo_names.proofs.SegmentTexts.{unlike}
use Rattle.repo_names.proofs.wal.archive_names.read_offset.Goals as goal

pub returns-else-eq-clause-none : goal.returns-else-eq-clause-none
returns-else-eq-clause-none c n e =
    let rest = c.in_ok-offset.rest.now in
    let following : c.in-Some-eq46-default.rest.now ≡ hex_upper 8 n ++ codes ".backup" = cc (c.in-Some-eq46-default.ensures.cases.0, e) in
    let after = same_prefix c.in_ok-offset.offset n rest (codes ".backup") (sym c.in_ok-offset.ensures.value ∙ following) in
    unlike c.eq.result rest c.as_slice.result.now (codes ".backup") c.eq.ensures c.if-eq.false c.as_slice.ensures after.1
