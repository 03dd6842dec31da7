use Rattle.std.proofs.Common.{refl}
use Rattle.archive_store.specs.Still.{rests_none}
use Rattle.base_disk.proofs.Changes.{only_none}
use Rattle.base_model.specs.Steps.{Expire}
use Rattle.base_model.specs.Values.{archive_info_of, backup_info_of}
use Rattle.base_crash_lists.proofs.Stays.{rests_beside}
use Rattle.cmd_types.specs.declared.stages.plan.SyncScope.TheVariants.{Whole}
use Rattle.cmd_types.proofs.Doing.{rests_part}
use Rattle.expire_rules.specs.Labels.{labels_of}
use Rattle.expire_make.specs.Expiry.{retention}
use Rattle.expire_make.specs.Losing.{MayExpire}
use Rattle.expire_make.proofs.Planned.{planned_at}
use Rattle.expire_make.proofs.Touched.{touch_expires}
use Rattle.expire_make.proofs.Touching.{touches_none}
use Rattle.expire_make.proofs.Ending.{leaves_listed}
use Rattle.expire_make.proofs.Whole.{carried_part, carried_whole, keeps_needed, labels_are, touched}
use Rattle.expire_make.proofs.expiry_run.expire_list.Goals as goal

pub returns-in_err-planned-clause-part : goal.returns-in_err-planned-clause-part
returns-in_err-planned-clause-part g c = (rests_part Whole c.args.stanza.now (Expire (retention c.args.rules.now c.args.moment)) (g.D.Disk.state c.args.d.now).view (g.D.Disk.state c.args.d.now).view (rests_none (g.D.Disk.state c.args.d.now).view) refl)

pub returns-in_err-planned-clause-keeps : goal.returns-in_err-planned-clause-keeps
returns-in_err-planned-clause-keeps g c = keeps_needed c.args.stanza.now c.args.rules.now c.args.moment (g.D.Disk.state c.args.d.now).view (g.D.Disk.state c.args.d.now).view (rests_part Whole c.args.stanza.now (Expire (retention c.args.rules.now c.args.moment)) (g.D.Disk.state c.args.d.now).view (g.D.Disk.state c.args.d.now).view (rests_none (g.D.Disk.state c.args.d.now).view) refl)

pub returns-in_err-planned-clause-touches : goal.returns-in_err-planned-clause-touches
returns-in_err-planned-clause-touches g c = touches_none c.args.stanza.now c.args.rules.now c.args.moment (g.D.Disk.state c.args.d.now).view

pub returns-in_err-planned-clause-only : goal.returns-in_err-planned-clause-only
returns-in_err-planned-clause-only g c = only_none (MayExpire c.args.stanza.now) (g.D.Disk.state c.args.d.now).view

pub returns-in_err-planned-clause-beside : goal.returns-in_err-planned-clause-beside
returns-in_err-planned-clause-beside g c = rests_beside c.args.stanza.now (g.D.Disk.state c.args.d.now).view (g.D.Disk.state c.args.d.now).view (rests_none (g.D.Disk.state c.args.d.now).view) refl

pub returns-in_err-removed-clause-part : goal.returns-in_err-removed-clause-part
returns-in_err-removed-clause-part g c = (carried_part c.args.stanza.now c.args.rules.now c.args.moment c.in_ok-planned.planned.labels.items (backup_info_of c.in_ok-planned.planned.left) (archive_info_of c.in_ok-planned.planned.archive) (g.D.Disk.state c.args.d.now).view (g.D.Disk.state c.carry_out.new.d).view (planned_at c.args.stanza.now c.args.rules.now c.args.moment c.in_ok-planned.planned.labels.items (backup_info_of c.in_ok-planned.planned.left) (backup_info_of c.args.list) (archive_info_of c.args.archive) (archive_info_of c.in_ok-planned.planned.archive) (g.D.Disk.state c.args.d.now).view.now c.requires.list c.in_ok-planned.ensures.planned) (λ s plan sound known. c.carry_out.ensures.part c.args.moment s plan sound known) c.carry_out.ensures.known)

pub returns-in_err-removed-clause-keeps : goal.returns-in_err-removed-clause-keeps
returns-in_err-removed-clause-keeps g c = keeps_needed c.args.stanza.now c.args.rules.now c.args.moment (g.D.Disk.state c.args.d.now).view (g.D.Disk.state c.carry_out.new.d).view (carried_part c.args.stanza.now c.args.rules.now c.args.moment c.in_ok-planned.planned.labels.items (backup_info_of c.in_ok-planned.planned.left) (archive_info_of c.in_ok-planned.planned.archive) (g.D.Disk.state c.args.d.now).view (g.D.Disk.state c.carry_out.new.d).view (planned_at c.args.stanza.now c.args.rules.now c.args.moment c.in_ok-planned.planned.labels.items (backup_info_of c.in_ok-planned.planned.left) (backup_info_of c.args.list) (archive_info_of c.args.archive) (archive_info_of c.in_ok-planned.planned.archive) (g.D.Disk.state c.args.d.now).view.now c.requires.list c.in_ok-planned.ensures.planned) (λ s plan sound known. c.carry_out.ensures.part c.args.moment s plan sound known) c.carry_out.ensures.known)

pub returns-in_err-removed-clause-touches : goal.returns-in_err-removed-clause-touches
returns-in_err-removed-clause-touches g c = touched c.args.stanza.now c.args.rules.now c.args.moment c.in_ok-planned.planned.labels.items (backup_info_of c.in_ok-planned.planned.left) (archive_info_of c.in_ok-planned.planned.archive) (g.D.Disk.state c.args.d.now).view (g.D.Disk.state c.carry_out.new.d).view (planned_at c.args.stanza.now c.args.rules.now c.args.moment c.in_ok-planned.planned.labels.items (backup_info_of c.in_ok-planned.planned.left) (backup_info_of c.args.list) (archive_info_of c.args.archive) (archive_info_of c.in_ok-planned.planned.archive) (g.D.Disk.state c.args.d.now).view.now c.requires.list c.in_ok-planned.ensures.planned) c.carry_out.ensures.touches

pub returns-in_err-removed-clause-only : goal.returns-in_err-removed-clause-only
returns-in_err-removed-clause-only g c = touch_expires c.args.stanza.now (labels_of (backup_info_of c.in_ok-planned.planned.left).backups) c.args.rules.now (archive_info_of c.in_ok-planned.planned.archive).current (backup_info_of c.in_ok-planned.planned.left).backups (g.D.Disk.state c.args.d.now).view (g.D.Disk.state c.carry_out.new.d).view c.carry_out.ensures.touches

pub returns-clause-part : goal.returns-clause-part
returns-clause-part g c = (carried_part c.args.stanza.now c.args.rules.now c.args.moment c.in_ok-planned.planned.labels.items (backup_info_of c.in_ok-planned.planned.left) (archive_info_of c.in_ok-planned.planned.archive) (g.D.Disk.state c.args.d.now).view (g.D.Disk.state c.carry_out.new.d).view (planned_at c.args.stanza.now c.args.rules.now c.args.moment c.in_ok-planned.planned.labels.items (backup_info_of c.in_ok-planned.planned.left) (backup_info_of c.args.list) (archive_info_of c.args.archive) (archive_info_of c.in_ok-planned.planned.archive) (g.D.Disk.state c.args.d.now).view.now c.requires.list c.in_ok-planned.ensures.planned) (λ s plan sound known. c.carry_out.ensures.part c.args.moment s plan sound known) c.carry_out.ensures.known)

pub returns-clause-keeps : goal.returns-clause-keeps
returns-clause-keeps g c = keeps_needed c.args.stanza.now c.args.rules.now c.args.moment (g.D.Disk.state c.args.d.now).view (g.D.Disk.state c.carry_out.new.d).view (carried_part c.args.stanza.now c.args.rules.now c.args.moment c.in_ok-planned.planned.labels.items (backup_info_of c.in_ok-planned.planned.left) (archive_info_of c.in_ok-planned.planned.archive) (g.D.Disk.state c.args.d.now).view (g.D.Disk.state c.carry_out.new.d).view (planned_at c.args.stanza.now c.args.rules.now c.args.moment c.in_ok-planned.planned.labels.items (backup_info_of c.in_ok-planned.planned.left) (backup_info_of c.args.list) (archive_info_of c.args.archive) (archive_info_of c.in_ok-planned.planned.archive) (g.D.Disk.state c.args.d.now).view.now c.requires.list c.in_ok-planned.ensures.planned) (λ s plan sound known. c.carry_out.ensures.part c.args.moment s plan sound known) c.carry_out.ensures.known)

pub returns-clause-touches : goal.returns-clause-touches
returns-clause-touches g c = touched c.args.stanza.now c.args.rules.now c.args.moment c.in_ok-planned.planned.labels.items (backup_info_of c.in_ok-planned.planned.left) (archive_info_of c.in_ok-planned.planned.archive) (g.D.Disk.state c.args.d.now).view (g.D.Disk.state c.carry_out.new.d).view (planned_at c.args.stanza.now c.args.rules.now c.args.moment c.in_ok-planned.planned.labels.items (backup_info_of c.in_ok-planned.planned.left) (backup_info_of c.args.list) (archive_info_of c.args.archive) (archive_info_of c.in_ok-planned.planned.archive) (g.D.Disk.state c.args.d.now).view.now c.requires.list c.in_ok-planned.ensures.planned) c.carry_out.ensures.touches

pub returns-clause-only : goal.returns-clause-only
returns-clause-only g c = touch_expires c.args.stanza.now (labels_of (backup_info_of c.in_ok-planned.planned.left).backups) c.args.rules.now (archive_info_of c.in_ok-planned.planned.archive).current (backup_info_of c.in_ok-planned.planned.left).backups (g.D.Disk.state c.args.d.now).view (g.D.Disk.state c.carry_out.new.d).view c.carry_out.ensures.touches

pub returns-clause-whole : goal.returns-clause-whole
returns-clause-whole g c = carried_whole c.args.stanza.now c.args.rules.now c.args.moment c.in_ok-planned.planned.labels.items (backup_info_of c.in_ok-planned.planned.left) (archive_info_of c.in_ok-planned.planned.archive) (g.D.Disk.state c.args.d.now).view (g.D.Disk.state c.carry_out.new.d).view (planned_at c.args.stanza.now c.args.rules.now c.args.moment c.in_ok-planned.planned.labels.items (backup_info_of c.in_ok-planned.planned.left) (backup_info_of c.args.list) (archive_info_of c.args.archive) (archive_info_of c.in_ok-planned.planned.archive) (g.D.Disk.state c.args.d.now).view.now c.requires.list c.in_ok-planned.ensures.planned) (λ s plan sound known. c.in_ok-removed.ensures.whole c.args.moment s plan sound known) c.carry_out.ensures.known

pub returns-clause-labels : goal.returns-clause-labels
returns-clause-labels g c = λ s known now. labels_are c.args.stanza.now c.args.rules.now c.args.moment c.in_ok-planned.planned.labels.items (backup_info_of c.in_ok-planned.planned.left) (archive_info_of c.in_ok-planned.planned.archive) (g.D.Disk.state c.args.d.now).view.now (planned_at c.args.stanza.now c.args.rules.now c.args.moment c.in_ok-planned.planned.labels.items (backup_info_of c.in_ok-planned.planned.left) (backup_info_of c.args.list) (archive_info_of c.args.archive) (archive_info_of c.in_ok-planned.planned.archive) (g.D.Disk.state c.args.d.now).view.now c.requires.list c.in_ok-planned.ensures.planned) s known now

pub returns-clause-leaves : goal.returns-clause-leaves
returns-clause-leaves g c = leaves_listed c.args.stanza.now c.args.rules.now c.args.moment c.in_ok-planned.planned.labels.items (backup_info_of c.in_ok-planned.planned.left) (archive_info_of c.in_ok-planned.planned.archive) (g.D.Disk.state c.args.d.now).view.now (g.D.Disk.state c.carry_out.new.d).view.now
    (planned_at c.args.stanza.now c.args.rules.now c.args.moment c.in_ok-planned.planned.labels.items (backup_info_of c.in_ok-planned.planned.left) (backup_info_of c.args.list) (archive_info_of c.args.archive) (archive_info_of c.in_ok-planned.planned.archive) (g.D.Disk.state c.args.d.now).view.now c.requires.list c.in_ok-planned.ensures.planned) c.in_ok-removed.ensures.leaves
