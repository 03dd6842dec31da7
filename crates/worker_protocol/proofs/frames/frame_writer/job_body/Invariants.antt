use Rattle.std.proofs.Common.{◌≡◌, ◌++◌, ◌∷◌, length, take}
use Rattle.std.specs.Int.{w32, to_be_bytes}
use Rattle.std.specs.List.{flat_map}
use Rattle.worker_protocol.specs.Views.{items_of}
use Rattle.worker_protocol.specs.Frames.{item_bytes, kind_letter}
use Rattle.worker_protocol.proofs.frames.frame_writer.job_body.Given as goal

abbrev pub invariant-loop-item : goal.invariant-loop-item
invariant-loop-item l = l.out.items ≡ kind_letter l.job.kind ∷ (to_be_bytes w32 (length l.job.items.items) ++ flat_map item_bytes (items_of (take l.item-index l.job.items.items)))
