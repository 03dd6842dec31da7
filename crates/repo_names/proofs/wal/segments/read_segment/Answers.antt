use Rattle.std.proofs.Common.{◌<◌, [], length, sym, ap, ◌∙◌, arith, length-append}
use Rattle.std.proofs.lemmas.Grind.{common_steps}
use Rattle.std.proofs.lemmas.List.{append-nil}
use Rattle.base_model.specs.Names.{segment_text}
use Rattle.repo_names.proofs.SegmentTexts.{length-segment_text}
use Rattle.repo_names.proofs.wal.segments.read_segment.Goals as goal

pub returns-in_err-segment-clause-none : goal.returns-in_err-segment-clause-none
returns-in_err-segment-clause-none c = rw c.from_residual.ensures (λ s fits e. c.in_err-segment.ensures.none s [] (e ∙ sym (append-nil (segment_text s))))

pub returns-else-is_empty-clause-none : goal.returns-else-is_empty-clause-none
returns-else-is_empty-clause-none c s fits e =
    let segment = c.in_ok-segment.segment in
    let rest = c.in_ok-segment.rest.now in
    let some : 0 < length rest = grind (arith, common_steps) in
    omega (arith, ap length (sym c.in_ok-segment.ensures.value ∙ e), length-append (segment_text segment) rest, length-segment_text segment, length-segment_text s)
