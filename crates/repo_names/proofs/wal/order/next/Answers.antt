use Rattle.std.proofs.Common.{◌≡◌, ◌+◌, sym, arith}
use Rattle.base_model.specs.ManifestText.{segments_per_log}
use Rattle.repo_names.proofs.Follows.{same_place, carried}
use Rattle.repo_names.proofs.wal.order.next.Goals as goal

pub returns-then-seg-per_log-clause-of_one : goal.returns-then-seg-per_log-clause-of_one
returns-then-seg-per_log-clause-of_one c other h n =
    same_place c.args.size.0 other c.args.segment.now h c.requires.of_log (sym n.timeline) (omega (arith, n.place))

pub returns-clause-of_one : goal.returns-clause-of_one
returns-clause-of_one c other h n =
    let log : c.in_ok-log.log ≡ c.args.segment.now.log + 1 = grind (arith, c.in_ok-log.ensures) in
    let full : c.args.segment.now.seg + 1 ≡ segments_per_log c.args.size.0 = omega (arith, c.segments_per_log-per_log.ensures, c.requires.of_log) in
    same_place c.args.size.0 other c.args.segment.now h c.requires.of_log (sym n.timeline) (omega (arith, n.place, carried c.args.size.0 c.args.segment.now c.in_ok-log.log log full))
