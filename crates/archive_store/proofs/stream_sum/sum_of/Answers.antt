use Rattle.std.proofs.Common.{refl, [], ◌≤◌, ◌++◌, length, take, Option, Some, subst, arith, length-append}
use Rattle.std.specs.Prelude.{IfSome}
use Rattle.std.proofs.lemmas.List.{length-take-le}
use Rattle.base_devices.specs.Content.{Reads}
use Rattle.base_model.specs.Text.{Text}
use Rattle.archive_store.proofs.Piecewise.{read_start, read_more}
use Rattle.archive_store.proofs.stream_sum.sum_of.Goals as goal

pub loop-count-init : goal.loop-count-init
loop-count-init g c = record {
  same = g.met.P.ByteSource.same_self c.args.device.now;
  later = omega arith;
  so_far = (
    c.args.prefix.bytes.now,
    read_start (g.P.ByteSource.bytes c.args.pieces.now c.args.device.now) c.args.prefix.bytes.now c.args.prefix.length c.requires.known c.requires.within,
    refl,
    c.update.ensures [] c.new-digest.ensures,
  );
}

pub loop-count-preserved : goal.loop-count-preserved
loop-count-preserved g c =
    let i = c.loop-count.invariant in
    let s = i.so_far in
    let room = length c.loop-count.piece in
    let size = c.in_ok-size.size in
    let new = c.next_piece.new.room in
    let reads = subst (λ (o : Option Text). IfSome o (λ b. Reads (Some b) c.loop-count.count room new (Some size))) (g.met.P.ByteSource.bytes_stay c.args.pieces.now c.args.device.now c.loop-count.device i.same) c.in_ok-size.ensures.bytes in
    let fits : size ≤ length new = omega (arith, c.in_ok-size.ensures.room, c.next_piece.auto.room) in
    record {
      same = g.met.P.ByteSource.same_then c.args.device.now c.loop-count.device c.next_piece.new.device i.same c.next_piece.ensures.same;
      later = omega (arith, i.later, c.next_piece.ensures.cause.later);
      so_far = (
        s.0 ++ take size new,
        read_more (g.P.ByteSource.bytes c.args.pieces.now c.args.device.now) c.args.prefix.bytes.now s.0 new c.loop-count.count room size s.2 s.1 reads fits,
        omega (arith, s.2, length-append s.0 (take size new), length-take-le size new fits),
        c.update-in-loop-count.ensures s.0 s.3,
      );
    }
