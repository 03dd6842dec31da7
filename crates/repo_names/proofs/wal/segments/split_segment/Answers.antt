use Rattle.std.proofs.Common.{◌++◌, sym, ◌∙◌}
use Rattle.base_model.specs.Text.{hex_upper}
use Rattle.repo_names.proofs.Digits.{same_prefix}
use Rattle.repo_names.proofs.SegmentTexts.{fields_of}
use Rattle.repo_names.proofs.wal.segments.split_segment.Goals as goal

pub returns-in_err-log-clause-none : goal.returns-in_err-log-clause-none
returns-in_err-log-clause-none c =
    rw c.from_residual-in_err-log.ensures (λ s rest e.
    let following = hex_upper 8 s.log ++ (hex_upper 8 s.seg ++ rest) in
    let after = same_prefix c.in_ok-timeline.timeline s.timeline c.in_ok-timeline.rest.now following (sym c.in_ok-timeline.ensures.value ∙ e ∙ fields_of s rest) in
    c.in_err-log.ensures.none s.log (hex_upper 8 s.seg ++ rest) after.1)

pub returns-in_err-seg-clause-none : goal.returns-in_err-seg-clause-none
returns-in_err-seg-clause-none c =
    rw c.from_residual-in_err-seg.ensures (λ s rest e.
    let following = hex_upper 8 s.log ++ (hex_upper 8 s.seg ++ rest) in
    let after = same_prefix c.in_ok-timeline.timeline s.timeline c.in_ok-timeline.rest.now following (sym c.in_ok-timeline.ensures.value ∙ e ∙ fields_of s rest) in
    let last = same_prefix c.in_ok-log.log s.log c.in_ok-log.rest.now (hex_upper 8 s.seg ++ rest) (sym c.in_ok-log.ensures.value ∙ after.1) in
    c.in_err-seg.ensures.none s.seg rest last.1)
