use Rattle.std.proofs.Common.{◌≡◌, true, length}
use Rattle.server_talk.specs.Fields.{from_field}
use Rattle.server_talk.proofs.session.fields.from_field.Given as goal

abbrev pub invariant-loop-rest : goal.invariant-loop-rest
invariant-loop-rest l = from_field l.kind l.starts l.rest ≡ from_field l.fn.kind true l.fn.body

abbrev pub decreases-loop-rest : goal.decreases-loop-rest
decreases-loop-rest l = length l.rest
