use Rattle.std.proofs.Common.{rules}
use Rattle.worker_protocol.proofs.Sizes.{part_short}
use Rattle.worker_protocol.proofs.frames.frame_writer.encode_frame.Goals as goal

pub framed-requires : goal.framed-requires
framed-requires c = part_short _ (search rules)
