use Rattle.std.proofs.Common.{◌≡◌, ◌≤◌, ◌++◌, length, take, Option, Some, sym, ◌∙◌, subst, arith, length-append}
use Rattle.std.specs.Prelude.{IfSome}
use Rattle.base_devices.specs.Content.{Reads}
use Rattle.base_devices.proofs.Steps.{goes_on, goes_wide}
use Rattle.base_disk.specs.Staged.{staging_name}
use Rattle.base_model.specs.Text.{Text}
use Rattle.archive_store.proofs.Piecewise.{read_more}
use Rattle.archive_store.proofs.Putting.{staged_more}
use Rattle.archive_store.proofs.staging.add_rest.Goals as goal

pub loop-piece-preserved : goal.loop-piece-preserved
loop-piece-preserved g c =
    let i = c.loop-piece.invariant in
    let s = i.so_far in
    let temp = staging_name c.args.staging.now in
    let old = (g.D.Disk.state c.args.d.now).view in
    let mid = (g.D.Disk.state c.loop-piece.d).view in
    let now = (g.D.Disk.state c.add_stage.new.d).view in
    let a = c.add_stage.ensures in
    let count = c.length-in-loop-piece.result in
    let room = length c.loop-piece.piece in
    let size = c.in-Ok.size in
    let new = c.next_piece.new.room in
    let reads = subst (λ (o : Option Text). IfSome o (λ b. Reads (Some b) count room new (Some size))) (g.met.P.ByteSource.bytes_stay c.args.pieces.now c.args.device.now c.loop-piece.device i.same) c.in-Ok.ensures.bytes in
    let fits : size ≤ length new = omega (arith, c.in-Ok.ensures.room, c.next_piece.auto.room) in
    record {
      name = a.name ∙ i.name;
      holds = c.in_ok-add_stage.ensures.holds;
      others = λ q apart. a.others q (λ e. apart (e ∙ i.name)) ∙ i.others q apart;
      time = goes_on (λ _ _. ⊥) (λ n. n ≡ temp) old mid now i.time (goes_wide (λ _ _. ⊥) (λ _ _. ⊥) (λ n. n ≡ staging_name c.loop-piece.staging) (λ n. n ≡ temp) mid now (λ n v x. x) (λ n e. e ∙ i.name) a.works.time);
      place = a.works.opened ∙ i.place;
      proper = a.works.proper ∙ i.proper;
      later = omega (arith, i.later, a.works.later);
      same = g.met.P.ByteSource.same_then c.args.device.now c.loop-piece.device c.next_piece.new.device i.same c.next_piece.ensures.same;
      holder_later = omega (arith, i.holder_later, c.next_piece.ensures.cause.later);
      so_far = (
        s.0 ++ take size new,
        read_more (g.P.ByteSource.bytes c.args.pieces.now c.args.device.now) c.args.prefix.bytes.now s.0 new count room size (s.2 ∙ sym c.length-in-loop-piece.ensures) s.1 reads fits,
        omega (arith, s.2, length-append s.0 (take size new), c.in_ok-add_stage.ensures.length),
        c.update-in-loop-piece.ensures s.0 s.3,
        staged_more temp (staging_name c.loop-piece.staging) s.0 (take size new) old.now mid.now now.now i.name s.4 c.in_ok-add_stage.ensures.now,
      );
    }
