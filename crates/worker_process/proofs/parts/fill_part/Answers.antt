use Rattle.std.proofs.Common.{string_bytes, rules}
use Rattle.worker_protocol.specs.Views.{item_of}
use Rattle.worker_process.proofs.Parted.{fills_after}
use Rattle.worker_process.proofs.parts.fill_part.Goals as goal

pub returns-clause-known : goal.returns-clause-known
returns-clause-known g c =
    let r = c.in_ok-read.ensures in
    fills_after (g.F.Files.files c.args.files.now) (string_bytes c.args.item.now.path) (item_of c.args.item.now) c.args.known c.part_size-wanted.result _ c.args.room.now c.fill.new.buf c.in_ok-read.read
    c.requires.known c.part_size-wanted.ensures c.requires.room (search rules) (search rules) (rw c.deref.ensures at r.known)
