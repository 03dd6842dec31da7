use Rattle.std.proofs.Common.{ap, ◌∙◌}
use Rattle.memory_workers.specs.Tapes.{given_more}
use Rattle.memory_workers.proofs.Given.{tape_more}
use Rattle.memory_workers.proofs.tape.Tape.give.Goals as goal

pub returns-clause-given : goal.returns-clause-given
returns-clause-given c = tape_more c.self.inside.bytes.items c.self.inside.at c.min-n.result ∙ ap (given_more c.min-n.result) c.self.view_is
