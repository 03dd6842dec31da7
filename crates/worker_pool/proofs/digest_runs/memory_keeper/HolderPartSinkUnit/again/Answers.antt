use Rattle.std.proofs.Common.{refl}
use Rattle.worker_protocol.specs.PartSinkState.{Clears}
use Rattle.worker_pool.specs.declared.digest_runs.memory_keeper.HeldJob.{HeldJob}
use Rattle.worker_pool.proofs.Held.{changes_at, clears}
use Rattle.worker_pool.proofs.digest_runs.memory_keeper.HolderPartSinkUnit.again.Goals as goal

pub returns-clause-kept : goal.returns-clause-kept
returns-clause-kept c =
    let was = c.index_mut-held.result.now in
    let after : HeldJob = (record { ended = c.clear.new.self; bytes = c.clear-2.new.self }) in
    (refl, refl, changes_at Clears c.args.self.now.held.items c.args.job was after c.index_mut-held.ensures.value (clears was after c.clear.ensures.items c.clear-2.ensures.items))
