use Rattle.std.proofs.Common.{refl, rules}
use Rattle.worker_protocol.specs.PartSinkState.{Clears}
use Rattle.memory_workers.specs.declared.keep.KeptJob.{KeptJob}
use Rattle.memory_workers.proofs.Keeping.{changes_at, clears}
use Rattle.memory_workers.proofs.keep.MemPartSinkPartSinkUnit.again.Goals as goal

pub returns-clause-kept : goal.returns-clause-kept
returns-clause-kept c =
    let was = c.index_mut-kept.result.now in
    let after : KeptJob = (record { ended = c.clear.new.self; count = 0; bytes = c.clear-2.new.self }) in
    (search rules, refl, changes_at Clears c.args.self.now.holds c.args.self.now.kept.items c.args.job was after c.index_mut-kept.ensures.value (clears c.args.self.now.holds was after c.clear.ensures.items refl c.clear-2.ensures.items))
