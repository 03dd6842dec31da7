use Rattle.std.proofs.Common.{sym, subst, ap, map, string_bytes, arith}
use Rattle.std.proofs.lemmas.List.{length-map}
use Rattle.worker_protocol.specs.Views.{job_of}
use Rattle.worker_protocol.specs.PartSinkState.{Adds}
use Rattle.worker_protocol.specs.Lists.{ChangesAt}
use Rattle.backup_sink.specs.Keeping.{keeps, Agrees}
use Rattle.backup_sink.specs.Keeper.{names_of, progress_in, folder_of}
use Rattle.backup_sink.proofs.Room.{has_space}
use Rattle.backup_sink.proofs.Calls.{part_done, name_there, job_within}
use Rattle.backup_sink.proofs.keeper.BackupKeeperPartSink.part.Goals as goal

pub count_with-count-requires : goal.count_with-count-requires
count_with-count-requires g c = has_space c.args.self.now (g.D.Disk.state c.args.on.now).view.now c.args.job c.args.item c.args.bytes.now c.requires.room

pub add_part-requires : goal.add_part-requires
add_part-requires g c =
    let k = c.args.self.now in
    name_there (names_of k) (progress_in k) (g.D.Disk.state c.args.on.now).view.now c.args.job c.name.result.now c.is_begun-begun.result c.requires.agrees c.name.ensures c.is_begun-begun.ensures

pub grow-requires : goal.grow-requires
grow-requires g c =
    let k = c.args.self.now in
    omega (arith, job_within (names_of k) (progress_in k) (g.D.Disk.state c.args.on.now).view.now c.args.job c.requires.room.kept c.requires.room.kept_is, length-map k.names.now string_bytes)

pub returns-clause-agrees : goal.returns-clause-agrees
returns-clause-agrees g c =
    let k = c.args.self.now in
    let now = (g.D.Disk.state c.args.on.now).view.now in
    let new = (g.D.Disk.state c.add_part.new.d).view.now in
    subst (λ ns. Agrees (map string_bytes ns) (progress_in c.grow.new.self) new) (sym c.grow.ensures.same.names)
    (part_done (folder_of k) (names_of k) (progress_in k) (progress_in c.grow.new.self) now new c.args.job c.name.result.now c.is_begun-begun.result
    k.plan c.requires.agrees c.name.ensures c.is_begun-begun.ensures c.add_part.ensures.others c.args.bytes.now c.count_with-count.result c.in_default.ensures.value c.count_with-count.ensures c.grow.ensures.states).1

pub returns-clause-kept : goal.returns-clause-kept
returns-clause-kept g c =
    let k = c.args.self.now in
    let now = (g.D.Disk.state c.args.on.now).view.now in
    let new = (g.D.Disk.state c.add_part.new.d).view.now in (
      c.grow.ensures.faults,
      ap (map job_of) c.grow.ensures.same.jobs,
      subst (λ ns. ChangesAt (Adds c.args.bytes.now) (keeps (names_of k) (progress_in k) now) (keeps (map string_bytes ns) (progress_in c.grow.new.self) new) c.args.job) (sym c.grow.ensures.same.names)
          (part_done (folder_of k) (names_of k) (progress_in k) (progress_in c.grow.new.self) now new c.args.job c.name.result.now c.is_begun-begun.result
          k.plan c.requires.agrees c.name.ensures c.is_begun-begun.ensures c.add_part.ensures.others c.args.bytes.now c.count_with-count.result c.in_default.ensures.value c.count_with-count.ensures c.grow.ensures.states).0,
    )
