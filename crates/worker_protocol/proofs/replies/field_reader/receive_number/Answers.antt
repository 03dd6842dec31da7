use Rattle.std.proofs.lemmas.Nat.{be_bytes_8}
use Rattle.worker_protocol.proofs.replies.field_reader.receive_number.Goals as goal

pub returns-clause-takes : goal.returns-clause-takes
returns-clause-takes g c = rw (be_bytes_8 c.full.new.buf c.from_be_bytes.result c.full.auto.buf c.full.ensures.bytes c.from_be_bytes.ensures) c.in_ok-full.ensures.takes
