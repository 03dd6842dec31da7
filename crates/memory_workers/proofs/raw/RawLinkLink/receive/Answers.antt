use Rattle.std.proofs.Common.{refl, rules}
use Rattle.memory_workers.proofs.Given.{five_more}
use Rattle.memory_workers.proofs.raw.RawLinkLink.receive.Goals as goal

pub returns-clause-leaves : goal.returns-clause-leaves
returns-clause-leaves c = (
  search rules,
  record {
    faults = search rules;
    given = five_more c.args.self.now.tape c.give.new.self _ c.give.result c.give.ensures.bytes c.give.ensures.given;
    jobs = refl;
    reads = refl;
    known = refl;
  },
)
