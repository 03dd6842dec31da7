use Rattle.std.proofs.Common.{refl, rules}
use Rattle.worker_protocol.specs.PartSinkState.{Ends}
use Rattle.worker_pool.specs.declared.digest_runs.memory_keeper.ReadItem.{ReadItem}
use Rattle.worker_pool.specs.declared.digest_runs.memory_keeper.HeldJob.{HeldJob}
use Rattle.worker_pool.proofs.Held.{changes_at, ends}
use Rattle.worker_pool.proofs.digest_runs.memory_keeper.HolderPartSinkUnit.end.Goals as goal

pub returns-clause-kept : goal.returns-clause-kept
returns-clause-kept c =
    let was = c.index_mut-held.result.now in
    let after : HeldJob = (record { ended = c.push.new.self; bytes = c.replace-bytes.new.dest }) in
    let ended : ReadItem = record { bytes = c.replace-bytes.result; how = c.args.how.now } in
    (refl, refl, changes_at (Ends c.args.how.now) c.args.self.now.held.items c.args.job was after c.index_mut-held.ensures.value (ends was after ended c.in_ok-push.ensures.items (search rules) (search rules)))
