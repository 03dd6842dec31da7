use Rattle.std.proofs.Common.{inl, ◌<◌, ◌^◌, List, [], map, take, length, refl, sym, ◌∙◌, ap, subst, arith, option_map}
use Rattle.std.specs.Prelude.{Result, Ok, Err}
use Rattle.base_devices.specs.Cause.{Rises}
use Rattle.base_model.specs.Values.{FileEntry, backup_info_of, file_entry_of, manifest_of}
use Rattle.backup_plan.specs.Views.{seen_of}
use Rattle.base_crash_lists.proofs.Stays.{rests_beside, beside_on}
use Rattle.archive_store.specs.Still.{rests_none, still_self}
use Rattle.cmd_types.specs.declared.stages.halt.Halt.{Halt}
use Rattle.cmd_types.specs.declared.stages.outcome.Outcome.{Outcome}
use Rattle.cmd_types.specs.declared.stages.object.Object.TheVariants as objects
use Rattle.cmd_types.specs.declared.stages.plan.SyncScope.TheVariants.{Whole}
use Rattle.cmd_types.specs.Halts.{HaltCause, Only}
use Rattle.cmd_types.specs.Reached.{reached_by}
use Rattle.cmd_types.specs.DisksEffect.{On, one, RepoEffect}
use Rattle.cmd_types.proofs.Counts.{rises_from}
use Rattle.cmd_backup_common.specs.declared.parts.fault.BackupFault.{BackupFault}
use Rattle.cmd_backup_common.specs.Causes.{Before}
use Rattle.cmd_backup_common.specs.PartsFaults.{backup_early}
use Rattle.cmd_backup_common.proofs.Beginnings.{halt_as, ends_with}
use Rattle.cmd_backup_common.proofs.Causes.{Any, either_any}
use Rattle.cmd_backup_common.proofs.Links.{left_comes}
use Rattle.cmd_backup_common.proofs.Makings.{Either}
use Rattle.cmd_backup_common.proofs.Takings.{used_few}
use Rattle.cmd_backup_offline.specs.Basing.{base_in, base_label, BaseCause}
use Rattle.cmd_backup_offline.specs.Causes.{OfflineCause}
use Rattle.cmd_backup_offline.specs.Drafting.{MayBase}
use Rattle.cmd_backup_offline.specs.Faults.{of_backup, offline_early}
use Rattle.cmd_backup_offline.specs.Kinds.{IsBackupBy}
use Rattle.cmd_backup_common.specs.Seconds.{StatesSecond}
use Rattle.cmd_backup_offline.specs.Making.{IsMade, MakingCause}
use Rattle.cmd_backup_offline.specs.Taken.{IsTaken}
use Rattle.cmd_backup_offline.proofs.Bases.{may_base}
use Rattle.cmd_backup_offline.proofs.Causes.{of_backup_as, base_takes, made_takes, only_repo}
use Rattle.cmd_backup_offline.proofs.Takings.{refused_offline, same_reach, ok_reach, command_does, made_by_used, has_room, begins_from, on_finished}
use Rattle.cmd_backup_offline.proofs.Touchings.{touches_after, copies_rests}
use Rattle.cmd_backup_offline.proofs.backup_command.back_up_offline.Goals as goal

pub returns-in-Err-clause-does : goal.returns-in-Err-clause-does
returns-in-Err-clause-does g c =
    let a = (g.D.Disk.state c.args.repo.now).view in
    refused_offline c.args.task.order.kind (take c.args.task.order.take.workers (map g.L.Link.link_state c.args.pool.now.links.items)) c.args.task.stanza.name.now (Err c.of_backup.result) c.of_backup.result refl a a (rests_none a) refl

pub returns-in_err-base-clause-does : goal.returns-in_err-base-clause-does
returns-in_err-base-clause-does g c =
    refused_offline c.args.task.order.kind (take c.args.task.order.take.workers (map g.L.Link.link_state c.args.pool.now.links.items)) c.args.task.stanza.name.now c.from_residual.result c.in_err-base.field-0.0 c.from_residual.ensures.1
    (g.D.Disk.state c.args.repo.now).view (g.D.Disk.state c.load_base.new.repo).view c.load_base.ensures.looks.time c.load_base.ensures.looks.now

pub returns-in_err-base-clause-cause : goal.returns-in_err-base-clause-cause
returns-in_err-base-clause-cause g c =
    let before : Before = record {
      stanza = c.args.task.stanza.name.now;
      known = c.args.task.stanza.control.now;
      repo = (g.D.Disk.state c.args.repo.now).view.now;
      nodes = (g.T.DataFolder.state c.args.tree.now).nodes;
      least = (g.C.Clock.state c.args.clock.now).least;
      used = take c.args.task.order.take.workers (map g.L.Link.link_state c.args.pool.now.links.items);
    } in
    let list = backup_info_of c.in-Ok.begun.list in
    let repo = Rises (g.D.Disk.state c.args.repo.now).faults (g.D.Disk.state c.load_base.new.repo).faults in
    let tree = Rises (g.T.DataFolder.state c.args.tree.now).faults (g.T.DataFolder.state c.begin.new.tree).faults in
    let clock = Rises (g.C.Clock.state c.args.clock.now).faults (g.C.Clock.state c.args.clock.now).faults in
    ends_with (HaltCause (OfflineCause before c.args.task.order) (Any repo tree clock)) c.from_residual.result c.in_err-base.field-0.0 c.from_residual.ensures.1
    (halt_as (BaseCause before.stanza before.repo (base_label c.args.task.order.kind list)) (OfflineCause before c.args.task.order) (Only objects.Repo repo) (Any repo tree clock)
    (base_takes before c.args.task.order c.args.task.stanza.archive.now c.args.task.stanza.backup c.requires.archive c.requires.backup list c.in-Ok.ensures.settled)
    (only_repo repo repo tree clock (λ x. x)) c.in_err-base.field-0.0 c.in_err-base.ensures.cause)

pub make_offline-requires-clause-old : goal.make_offline-requires-clause-old
make_offline-requires-clause-old g c =
    let base = base_in c.args.task.order.kind (backup_info_of c.in-Ok.begun.list) in
    subst (λ (es : List FileEntry). MayBase base es) (sym c.files_of-old.ensures)
    (may_base c.args.task.stanza.name.now (g.D.Disk.state c.args.repo.now).view.now base (option_map manifest_of c.in_ok-base.base) c.in_ok-base.ensures.reads)

pub make_offline-requires-clause-from : goal.make_offline-requires-clause-from
make_offline-requires-clause-from g c =
    begins_from c.args.task.stanza.name.now c.args.task.order c.args.task.stanza.archive.now c.args.task.stanza.backup (g.D.Disk.state c.args.repo.now).view.now (g.D.Disk.state c.load_base.new.repo).view.now c.load_base.ensures.looks.now c.requires.archive c.requires.backup
    (backup_info_of c.in-Ok.begun.list) c.in-Ok.ensures.settled (option_map manifest_of c.in_ok-base.base) c.in_ok-base.ensures.reads (map file_entry_of c.files_of-old.result.now) c.files_of-old.ensures

pub returns-in-Ok-make_offline-clause-does : goal.returns-in-Ok-make_offline-clause-does
returns-in-Ok-make_offline-clause-does g c =
    let used = take c.args.task.order.take.workers (map g.L.Link.link_state c.args.pool.now.links.items) in
    let now = map g.L.Link.link_state c.begin.new.pool.links.items in
    let x = (g.D.Disk.state c.load_base.new.repo).view in
    let y = (g.D.Disk.state c.make_offline.new.repo).view in
    let ok : Result Outcome (Halt BackupFault) = Ok c.in-Ok-make_offline.outcome in
    command_does used now (left_comes used now [] c.begin.new.pool.lost.items c.in-Ok.ensures.left) c.args.task.stanza.name.now (g.D.Disk.state c.args.repo.now).view x y c.load_base.ensures.looks.time c.load_base.ensures.looks.now
    c.args.task.order.kind ok _ (ok_reach c.in-Ok-make_offline.outcome)
    (subst (λ (r : Result Outcome (Halt BackupFault)). On (one (IsBackupBy c.args.task.order.kind now c.args.task.stanza.name.now x.now)) (λ command. RepoEffect Whole c.args.task.stanza.name.now command (reached_by backup_early r) x y)) c.in-Ok-make_offline.is c.make_offline.ensures.does)

pub returns-in-Ok-make_offline-clause-taken : goal.returns-in-Ok-make_offline-clause-taken
returns-in-Ok-make_offline-clause-taken g c =
    let stanza = c.args.task.stanza.name.now in
    let used = take c.args.task.order.take.workers (map g.L.Link.link_state c.args.pool.now.links.items) in
    let now = map g.L.Link.link_state c.begin.new.pool.links.items in
    let a = (g.D.Disk.state c.args.repo.now).view in
    let x = (g.D.Disk.state c.load_base.new.repo).view in
    let y = (g.D.Disk.state c.make_offline.new.repo).view in
    let list = backup_info_of c.in-Ok.begun.list in
    let seen = map seen_of c.in-Ok.begun.seen.items in
    let nodes = (g.T.DataFolder.state c.args.tree.now).nodes in
    let first = g.C.Clock.state c.args.clock.now in
    let last = g.C.Clock.state c.make_offline.new.clock in
    on_finished (IsMade stanza c.args.task.order list seen now x.now y.now first last) (IsTaken stanza c.args.task.stanza.control.now c.args.task.order nodes used a.now y.now first last) c.in-Ok-make_offline.outcome
    (λ t m. record {
      list = list;
      seen = seen;
      room = has_room stanza c.args.task.stanza.control.now c.args.task.stanza.archive.now c.args.task.stanza.backup a.now c.requires.archive c.requires.backup list c.in-Ok.ensures.settled c.in-Ok.ensures.of c.in-Ok.ensures.room;
      listing = c.in-Ok.ensures.listing;
      stopped = c.in-Ok.ensures.stopped;
      made = made_by_used used now (left_comes used now [] c.begin.new.pool.lost.items c.in-Ok.ensures.left) stanza a x y c.load_base.ensures.looks.time c.load_base.ensures.looks.now c.args.task.order list seen first last t m;
    })
    c.in-Ok-make_offline.ensures.made

pub returns-in-Ok-make_offline-clause-beside : goal.returns-in-Ok-make_offline-clause-beside
returns-in-Ok-make_offline-clause-beside g c =
    let a = (g.D.Disk.state c.args.repo.now).view in
    let x = (g.D.Disk.state c.load_base.new.repo).view in
    beside_on c.args.task.stanza.name.now a x (g.D.Disk.state c.make_offline.new.repo).view (rests_beside c.args.task.stanza.name.now a x c.load_base.ensures.looks.time c.load_base.ensures.looks.now) c.make_offline.ensures.beside

pub returns-clause-does : goal.returns-clause-does
returns-clause-does g c =
    let used = take c.args.task.order.take.workers (map g.L.Link.link_state c.args.pool.now.links.items) in
    let now = map g.L.Link.link_state c.begin.new.pool.links.items in
    let x = (g.D.Disk.state c.load_base.new.repo).view in
    let y = (g.D.Disk.state c.make_offline.new.repo).view in
    let halt = c.in-Err-make_offline.halt in
    let err : Result Outcome (Halt BackupFault) = Err halt in
    command_does used now (left_comes used now [] c.begin.new.pool.lost.items c.in-Ok.ensures.left) c.args.task.stanza.name.now (g.D.Disk.state c.args.repo.now).view x y c.load_base.ensures.looks.time c.load_base.ensures.looks.now
    c.args.task.order.kind err _ (same_reach halt ∙ ap (λ h. reached_by offline_early (Err h)) (sym c.of_backup-in-Err-make_offline.ensures))
    (subst (λ (r : Result Outcome (Halt BackupFault)). On (one (IsBackupBy c.args.task.order.kind now c.args.task.stanza.name.now x.now)) (λ command. RepoEffect Whole c.args.task.stanza.name.now command (reached_by backup_early r) x y)) c.in-Err-make_offline.is c.make_offline.ensures.does)

pub returns-clause-beside : goal.returns-clause-beside
returns-clause-beside g c =
    let a = (g.D.Disk.state c.args.repo.now).view in
    let x = (g.D.Disk.state c.load_base.new.repo).view in
    beside_on c.args.task.stanza.name.now a x (g.D.Disk.state c.make_offline.new.repo).view (rests_beside c.args.task.stanza.name.now a x c.load_base.ensures.looks.time c.load_base.ensures.looks.now) c.make_offline.ensures.beside

pub returns-clause-cause : goal.returns-clause-cause
returns-clause-cause g c =
    let before : Before = record {
      stanza = c.args.task.stanza.name.now;
      known = c.args.task.stanza.control.now;
      repo = (g.D.Disk.state c.args.repo.now).view.now;
      nodes = (g.T.DataFolder.state c.args.tree.now).nodes;
      least = (g.C.Clock.state c.args.clock.now).least;
      used = take c.args.task.order.take.workers (map g.L.Link.link_state c.args.pool.now.links.items);
    } in
    let o = c.args.task.order in
    let list = backup_info_of c.in-Ok.begun.list in
    let old = map file_entry_of c.files_of-old.result.now in
    let now = map g.L.Link.link_state c.begin.new.pool.links.items in
    let mid = c.begin.new.pool.lost.items in
    let seen = map seen_of c.in-Ok.begun.seen.items in
    let x = (g.D.Disk.state c.args.repo.now).faults in
    let y = (g.D.Disk.state c.load_base.new.repo).faults in
    let z = (g.D.Disk.state c.make_offline.new.repo).faults in
    let tree = Rises (g.T.DataFolder.state c.args.tree.now).faults (g.T.DataFolder.state c.begin.new.tree).faults in
    let clock = Rises (g.C.Clock.state c.args.clock.now).faults (g.C.Clock.state c.make_offline.new.clock).faults in
    let few : length c.args.pool.now.links.items < 2 ^ 32 = omega (arith, c.requires.few, c.args.pool.now.links.ok) in
    let takes = made_takes before o c.args.task.stanza.archive.now c.args.task.stanza.backup c.requires.archive c.requires.backup list c.in-Ok.ensures.settled (g.D.Disk.state c.load_base.new.repo).view.now c.load_base.ensures.looks.now seen c.in-Ok.ensures.listing old now mid c.in-Ok.ensures.left (used_few g.L.Link.link_state o.take.workers (2 ^ 32) c.args.pool.now.links.items few) in
    subst (HaltCause (OfflineCause before o) (Any (Rises x z) tree clock)) (sym c.of_backup-in-Err-make_offline.ensures)
    (of_backup_as (MakingCause before.stanza o seen list old before.least (StatesSecond before.stanza list (g.D.Disk.state c.load_base.new.repo).view.now) now mid) (OfflineCause before o) (Either (Rises y z) clock) (Any (Rises x z) tree clock) takes
    (either_any (Rises y z) (Rises x z) tree clock clock (rises_from x y z c.load_base.ensures.looks.later) (λ h. h)) c.in-Err-make_offline.halt c.in-Err-make_offline.ensures.cause)

pub returns-in-Err-clause-only : goal.returns-in-Err-clause-only
returns-in-Err-clause-only g c = inl (still_self (g.D.Disk.state c.args.repo.now).view)

pub returns-in_err-base-clause-only : goal.returns-in_err-base-clause-only
returns-in_err-base-clause-only g c = let looks = c.load_base.ensures.looks in inl (record { now = looks.now; time = looks.time })

pub returns-in-Ok-make_offline-clause-only : goal.returns-in-Ok-make_offline-clause-only
returns-in-Ok-make_offline-clause-only g c =
    let looks = c.load_base.ensures.looks in
    touches_after c.args.task.stanza.name.now (g.D.Disk.state c.args.repo.now).view (g.D.Disk.state c.load_base.new.repo).view (g.D.Disk.state c.make_offline.new.repo).view
    (record { now = looks.now; time = looks.time }) c.make_offline.ensures.only

pub returns-in-Ok-make_offline-clause-lasts : goal.returns-in-Ok-make_offline-clause-lasts
returns-in-Ok-make_offline-clause-lasts g c =
    let looks = c.load_base.ensures.looks in
    copies_rests c.args.task.stanza.name.now (g.D.Disk.state c.args.repo.now).view (g.D.Disk.state c.load_base.new.repo).view (g.D.Disk.state c.make_offline.new.repo).view
    (record { now = looks.now; time = looks.time }) c.in-Ok-make_offline.ensures.lasts

pub returns-clause-only : goal.returns-clause-only
returns-clause-only g c =
    let looks = c.load_base.ensures.looks in
    touches_after c.args.task.stanza.name.now (g.D.Disk.state c.args.repo.now).view (g.D.Disk.state c.load_base.new.repo).view (g.D.Disk.state c.make_offline.new.repo).view
    (record { now = looks.now; time = looks.time }) c.make_offline.ensures.only
