use Rattle.std.proofs.Common.{refl}
use Rattle.base_devices.specs.Crash.{NowChanges, AllOf}
use Rattle.archive_store.specs.Pushes.{writes_of}
use Rattle.archive_store.proofs.Piecewise.{read_as_known}
use Rattle.archive_store.proofs.pushing.push.Goals as goal

pub push_from-requires-clause-known : goal.push_from-requires-clause-known
push_from-requires-clause-known g c = c.prefix_of-prefix.ensures.begins

pub returns-in-Ok-clause-written : goal.returns-in-Ok-clause-written
returns-in-Ok-clause-written g c = λ is. let a = c.in-Ok.ensures.answered in
    read_as_known _ _ _ a.bytes a.read (λ b. NowChanges (AllOf (writes_of c.args.stanza.now c.args.id.now c.args.name.now b)) (g.D.Disk.state c.args.d.now).view.now (g.D.Disk.state c.push_from.new.d).view.now) (a.new is).1 c.args.bytes.now refl

pub returns-in-Ok-clause-new : goal.returns-in-Ok-clause-new
returns-in-Ok-clause-new g c = λ is. (c.in-Ok.ensures.answered.new is).0
