use Rattle.std.proofs.Common.{refl, rules}
use Rattle.worker_protocol.specs.PartSinkState.{Adds}
use Rattle.memory_workers.proofs.Keeping.{changes_at}
use Rattle.memory_workers.proofs.keep.MemPartSinkPartSinkUnit.part.Goals as goal

pub returns-clause-kept : goal.returns-clause-kept
returns-clause-kept c =
    (search rules, refl, changes_at (Adds c.args.bytes.now) c.args.self.now.holds c.args.self.now.kept.items c.args.job c.index_mut.result.now c.take_part.new.kept c.index_mut.ensures.value (search rules))
