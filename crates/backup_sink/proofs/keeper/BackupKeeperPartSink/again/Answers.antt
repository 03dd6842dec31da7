use Rattle.std.proofs.Common.{sym, subst, ap, map, string_bytes, arith}
use Rattle.std.proofs.lemmas.List.{length-map}
use Rattle.worker_protocol.specs.Views.{job_of}
use Rattle.worker_protocol.specs.PartSinkState.{Clears}
use Rattle.worker_protocol.specs.Lists.{ChangesAt}
use Rattle.backup_sink.specs.Keeping.{keeps, Agrees}
use Rattle.backup_sink.specs.Keeper.{names_of, progress_in, folder_of}
use Rattle.backup_sink.proofs.Calls.{again_done, length_within}
use Rattle.backup_sink.proofs.keeper.BackupKeeperPartSink.again.Goals as goal

pub is_begun-begun-requires : goal.is_begun-begun-requires
is_begun-begun-requires g c =
    let k = c.args.self.now in
    omega (arith, length_within (names_of k) (progress_in k) (g.D.Disk.state c.args.on.now).view.now c.args.job c.requires.job, length-map k.names.now string_bytes)

pub name-requires : goal.name-requires
name-requires g c =
    let k = c.args.self.now in
    omega (arith, length_within (names_of k) (progress_in k) (g.D.Disk.state c.args.on.now).view.now c.args.job c.requires.job, length-map k.names.now string_bytes)

pub clear-requires : goal.clear-requires
clear-requires g c =
    let k = c.args.self.now in
    omega (arith, length_within (names_of k) (progress_in k) (g.D.Disk.state c.args.on.now).view.now c.args.job c.requires.job, length-map k.names.now string_bytes)

pub returns-clause-agrees : goal.returns-clause-agrees
returns-clause-agrees g c =
    let k = c.args.self.now in
    let now = (g.D.Disk.state c.args.on.now).view.now in
    let new = (g.D.Disk.state c.remove_if.new.d).view.now in
    subst (λ ns. Agrees (map string_bytes ns) (progress_in c.clear.new.self) new) (sym c.clear.ensures.same.names)
    (again_done (folder_of k) (names_of k) (progress_in k) (progress_in c.clear.new.self) now new c.args.job c.name.result.now c.is_begun-begun.result
    k.plan c.requires.agrees c.name.ensures c.is_begun-begun.ensures c.remove_if.ensures.others c.clear.ensures.states).1

pub returns-clause-kept : goal.returns-clause-kept
returns-clause-kept g c =
    let k = c.args.self.now in
    let now = (g.D.Disk.state c.args.on.now).view.now in
    let new = (g.D.Disk.state c.remove_if.new.d).view.now in (
      c.clear.ensures.faults,
      ap (map job_of) c.clear.ensures.same.jobs,
      subst (λ ns. ChangesAt Clears (keeps (names_of k) (progress_in k) now) (keeps (map string_bytes ns) (progress_in c.clear.new.self) new) c.args.job) (sym c.clear.ensures.same.names)
          (again_done (folder_of k) (names_of k) (progress_in k) (progress_in c.clear.new.self) now new c.args.job c.name.result.now c.is_begun-begun.result
          k.plan c.requires.agrees c.name.ensures c.is_begun-begun.ensures c.remove_if.ensures.others c.clear.ensures.states).0,
    )
