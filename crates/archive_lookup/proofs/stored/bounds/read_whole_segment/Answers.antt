use Rattle.std.proofs.Common.{arith}
use Rattle.base_model.specs.declared.wal.ArchiveName.TheVariants.{Segment as Whole}
use Rattle.archive_lookup.proofs.Bounding.{same_path, ids_apart, not_whole}
use Rattle.archive_lookup.proofs.stored.bounds.read_whole_segment.Goals as goal

pub returns-in_err-known-clause-none : goal.returns-in_err-known-clause-none
returns-in_err-known-clause-none c =
    rw c.from_residual.ensures (λ s p. c.in_err-known.ensures.none c.args.id (Whole s) p.1.0 (record { version = omega arith; number = omega arith; fits = p.0; digest = p.1.1 }) p.1.2)

pub returns-then-ne-clause-none : goal.returns-then-ne-clause-none
returns-then-ne-clause-none c = λ s p.
    let x = c.in_ok-known.ensures.value in
    let known = c.in_ok-known.known in
    ids_apart known.id c.args.id (same_path c.args.prefix.now c.args.path.now known.id c.args.id known.name x.0 x.2 (c.in_ok-known.ensures.fits x.0 x.1) (omega arith) (omega arith) s p).0 c.if-ne.ensures

pub returns-in-Partial : goal.returns-in-Partial
returns-in-Partial c = record {
  value = tt;
  none = λ s p.
      let x = c.in_ok-known.ensures.value in
      let known = c.in_ok-known.known in
      not_whole known.name s c.in-Partial.is (same_path c.args.prefix.now c.args.path.now known.id c.args.id known.name x.0 x.2 (c.in_ok-known.ensures.fits x.0 x.1) (omega arith) (omega arith) s p).1;
}
