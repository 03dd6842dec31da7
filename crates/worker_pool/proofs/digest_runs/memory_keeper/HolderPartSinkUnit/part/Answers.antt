use Rattle.std.proofs.Common.{refl, rules}
use Rattle.worker_protocol.specs.PartSinkState.{Adds}
use Rattle.worker_pool.proofs.Held.{changes_at}
use Rattle.worker_pool.proofs.digest_runs.memory_keeper.HolderPartSinkUnit.part.Goals as goal

pub returns-clause-kept : goal.returns-clause-kept
returns-clause-kept c =
    (refl, refl, changes_at (Adds c.args.bytes.now) c.args.self.now.held.items c.args.job c.index_mut.result.now c.take_part.new.held c.index_mut.ensures.value (search rules))
