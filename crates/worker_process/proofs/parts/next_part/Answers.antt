use Rattle.std.proofs.Common.{◌≡◌, ◌<◌, ◌⊎◌, arith, inl, inr, drop}
use Rattle.worker_protocol.specs.Frames.{part_size}
use Rattle.worker_protocol.specs.Views.{item_of}
use Rattle.worker_process.proofs.BytesKnown.{no_next, each_some}
use Rattle.worker_process.proofs.parts.next_part.Goals as goal
use Rattle.worker_process.proofs.parts.next_part.Goals.{then-last-lt-PART_SIZE-via-then-last-lt-PART_SIZE, then-last-lt-PART_SIZE-via-else-last-lt-PART_SIZE+then-known-item}

pub returns-then-last-lt-PART_SIZE-clause-known : goal.returns-then-last-lt-PART_SIZE-clause-known
unfolding part_size
returns-then-last-lt-PART_SIZE-clause-known g c =
    let no_more : (c.args.last < part_size) ⊎ (c.args.known ≡ c.args.item.now.size) = elim c.then-last-lt-PART_SIZE.branch [
      | then-last-lt-PART_SIZE-via-then-last-lt-PART_SIZE w ↦ inl (omega (arith, w.if-last-lt-PART_SIZE.true))
      | then-last-lt-PART_SIZE-via-else-last-lt-PART_SIZE+then-known-item w ↦ inr (omega (arith, w.if-known-item.true))
    ] in
    each_some (g.F.Files.files c.args.files.now) _ (λ f bytes is. no_next (item_of c.args.item.now) bytes c.args.known c.args.last (drop 5 c.args.room.now) no_more)
