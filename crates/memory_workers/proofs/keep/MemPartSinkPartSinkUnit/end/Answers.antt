use Rattle.std.proofs.Common.{refl, rules}
use Rattle.worker_protocol.specs.PartSinkState.{Ends}
use Rattle.memory_workers.specs.declared.keep.HeldItem.{HeldItem}
use Rattle.memory_workers.specs.declared.keep.KeptJob.{KeptJob}
use Rattle.memory_workers.proofs.Keeping.{changes_at, ends}
use Rattle.memory_workers.proofs.keep.MemPartSinkPartSinkUnit.end.Goals as goal

pub returns-clause-kept : goal.returns-clause-kept
returns-clause-kept c =
    let was = c.index_mut-kept.result.now in
    let after : KeptJob = (record { ended = c.push.new.self; count = 0; bytes = c.replace-bytes.new.dest }) in
    let ended : HeldItem = record { count = was.count; bytes = c.replace-bytes.result; how = c.args.how.now } in
    (search rules, refl, changes_at (Ends c.args.how.now) c.args.self.now.holds c.args.self.now.kept.items c.args.job was after c.index_mut-kept.ensures.value (ends c.args.self.now.holds was after ended c.in_ok-push.ensures.items refl (search rules) refl (search rules)))
