use Rattle.std.proofs.Common.{◌≡◌, codes, length, ap, arith}
use Rattle.std.proofs.lemmas.Grind.{common_steps}
use Rattle.repo_names.proofs.SegmentTexts.{no_name, no_ending, unlike}
use Rattle.repo_names.proofs.wal.archive_names.read_archive_name.Goals as goal

pub returns-in_err-segment-clause-none : goal.returns-in_err-segment-clause-none
returns-in_err-segment-clause-none c = rw c.from_residual.ensures (λ name fits. no_name c.args.text.now c.in_default.ensures.none c.in_err-segment.ensures.none name)

pub returns-in_err-read_offset-clause-none : goal.returns-in_err-read_offset-clause-none
returns-in_err-read_offset-clause-none c =
    rw c.from_residual-in_err-read_offset.ensures (λ name fits. no_ending c.args.text.now c.in_ok-segment.segment c.in_ok-segment.rest.now c.in_ok-segment.ensures.value c.in_default.ensures.none (λ e. let none : length c.in_ok-segment.rest.now ≡ 0 = ap length e in absurd (grind (arith, common_steps))) (unlike c.eq.result c.in_ok-segment.rest.now c.as_slice.result.now (codes ".partial") c.eq.ensures c.if-eq.false c.as_slice.ensures) c.in_err-read_offset.ensures.none name)
