use Rattle.std.proofs.Common.{refl, inl, ap}
use Rattle.worker_protocol.specs.PartSinkState.{Adds}
use Rattle.restore_steps.proofs.Filing.{open_tidy}
use Rattle.restore_steps.proofs.Listing.{changes_at, apart_still, order_still, got}
use Rattle.restore_steps.proofs.Stepping.{within, later_at, failed_by}
use Rattle.restore_steps.proofs.contents.keeper.FileKeeperPartSink.part.Goals as goal

pub invariant_of-self : goal.invariant_of-self
invariant_of-self g c =
    let nodes = (g.T.DataFolder.state c.args.on.now).nodes in
    let files = c.args.self.now.files.items in
    record {
      apart = apart_still nodes nodes files c.args.job c.index_mut.result.now c.add_part.new.file (within nodes files c.args.job c.requires.room.kept c.requires.room.kept_is) c.index_mut.ensures.value c.args.self.now.apart c.add_part.ensures.wanted;
      one = c.args.self.now.one;
    }

pub returns-in-Ok-clause-later : goal.returns-in-Ok-clause-later
returns-in-Ok-clause-later g c =
    let u = g.T.DataFolder.state c.args.on.now in
    let v = g.T.DataFolder.state c.add_part.new.tree in
    let files = c.args.self.now.files.items in
    later_at c.args.self.now u v c.args.job c.index_mut.result.now c.add_part.new.file (within u.nodes files c.args.job c.requires.room.kept c.requires.room.kept_is) c.index_mut.ensures.value c.add_part.ensures.wanted c.add_part.ensures.others c.add_part.ensures.opened (c.add_part.ensures.proper (c.requires.agrees.begun c.args.job c.index_mut.result.now (got files c.args.job c.index_mut.result.now (within u.nodes files c.args.job c.requires.room.kept c.requires.room.kept_is) c.index_mut.ensures.value))) c.add_part.ensures.cause.later _ refl refl (λ some. inl some)

pub returns-in-Ok-clause-agrees : goal.returns-in-Ok-clause-agrees
returns-in-Ok-clause-agrees g c =
    let u = g.T.DataFolder.state c.args.on.now in
    let v = g.T.DataFolder.state c.add_part.new.tree in
    let files = c.args.self.now.files.items in
    let y = c.add_part.new.file in
    order_still u.nodes v.nodes files c.args.job c.index_mut.result.now y (within u.nodes files c.args.job c.requires.room.kept c.requires.room.kept_is) c.index_mut.ensures.value c.args.self.now.apart c.add_part.ensures.others (open_tidy y v.nodes c.add_part.ensures.still_open) c.in-Ok.ensures.begun c.requires.agrees

pub returns-in-Ok-clause-kept : goal.returns-in-Ok-clause-kept
returns-in-Ok-clause-kept g c =
    let u = g.T.DataFolder.state c.args.on.now in
    let v = g.T.DataFolder.state c.add_part.new.tree in
    let files = c.args.self.now.files.items in (
      refl,
      refl,
      changes_at u.nodes v.nodes files c.args.job c.index_mut.result.now c.add_part.new.file (within u.nodes files c.args.job c.requires.room.kept c.requires.room.kept_is) c.index_mut.ensures.value c.args.self.now.apart (Adds c.args.bytes.now) c.in-Ok.ensures.adds c.add_part.ensures.others,
    )

pub returns-in-Err-clause-later : goal.returns-in-Err-clause-later
returns-in-Err-clause-later g c =
    let u = g.T.DataFolder.state c.args.on.now in
    let v = g.T.DataFolder.state c.add_part.new.tree in
    let files = c.args.self.now.files.items in
    later_at c.args.self.now u v c.args.job c.index_mut.result.now c.add_part.new.file (within u.nodes files c.args.job c.requires.room.kept c.requires.room.kept_is) c.index_mut.ensures.value c.add_part.ensures.wanted c.add_part.ensures.others c.add_part.ensures.opened (c.add_part.ensures.proper (c.requires.agrees.begun c.args.job c.index_mut.result.now (got files c.args.job c.index_mut.result.now (within u.nodes files c.args.job c.requires.room.kept c.requires.room.kept_is) c.index_mut.ensures.value))) c.add_part.ensures.cause.later c.count.new.self c.count.ensures.jobs (ap (λ l. l.items) c.count.ensures.files) (failed_by c.in-Err.stop _ _ _ _ c.in-Err.ensures.cause c.count.ensures.faults)
