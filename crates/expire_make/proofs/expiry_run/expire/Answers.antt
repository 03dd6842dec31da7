use Rattle.std.proofs.lemmas.Result.{on_ok_weaker}
use Rattle.base_disk.proofs.Changes.{only_on, only_rests}
use Rattle.base_model.specs.Steps.{Expire}
use Rattle.base_crash_lists.proofs.Stays.{rests_beside, beside_on}
use Rattle.cmd_types.specs.declared.stages.plan.SyncScope.TheVariants.{Whole}
use Rattle.cmd_types.proofs.After.{part_after, whole_after}
use Rattle.cmd_types.proofs.Doing.{rests_part}
use Rattle.expire_make.specs.Expiry.{retention}
use Rattle.expire_make.specs.Losing.{MayExpire}
use Rattle.expire_make.proofs.Alike.{alike_after, lasts_after}
use Rattle.expire_make.proofs.Following.{labels_after, removed_after}
use Rattle.expire_make.proofs.Touching.{touches_still, touches_on}
use Rattle.expire_make.proofs.Ending.{leaves_after}
use Rattle.expire_make.proofs.Whole.{keeps_needed}
use Rattle.expire_make.proofs.expiry_run.expire.Goals as goal

pub returns-in_err-archive-clause-part : goal.returns-in_err-archive-clause-part
returns-in_err-archive-clause-part g c = (rests_part Whole c.args.stanza.now (Expire (retention c.args.rules.now c.args.moment)) (g.D.Disk.state c.args.d.now).view (g.D.Disk.state c.read_list.new.d).view c.read_list.ensures.looks.time c.read_list.ensures.looks.now)

pub returns-in_err-archive-clause-keeps : goal.returns-in_err-archive-clause-keeps
returns-in_err-archive-clause-keeps g c = keeps_needed c.args.stanza.now c.args.rules.now c.args.moment (g.D.Disk.state c.args.d.now).view (g.D.Disk.state c.read_list.new.d).view (rests_part Whole c.args.stanza.now (Expire (retention c.args.rules.now c.args.moment)) (g.D.Disk.state c.args.d.now).view (g.D.Disk.state c.read_list.new.d).view c.read_list.ensures.looks.time c.read_list.ensures.looks.now)

pub returns-in_err-archive-clause-touches : goal.returns-in_err-archive-clause-touches
returns-in_err-archive-clause-touches g c = touches_still c.args.stanza.now c.args.rules.now c.args.moment (g.D.Disk.state c.args.d.now).view (g.D.Disk.state c.read_list.new.d).view (record { now = c.read_list.ensures.looks.now; time = c.read_list.ensures.looks.time })

pub returns-clause-part : goal.returns-clause-part
returns-clause-part g c = (part_after c.args.stanza.now (Expire (retention c.args.rules.now c.args.moment)) (g.D.Disk.state c.args.d.now).view (g.D.Disk.state c.read_list.new.d).view (g.D.Disk.state c.expire_list.new.d).view c.read_list.ensures.looks.time c.read_list.ensures.looks.now c.expire_list.ensures.part)

pub returns-clause-keeps : goal.returns-clause-keeps
returns-clause-keeps g c = keeps_needed c.args.stanza.now c.args.rules.now c.args.moment (g.D.Disk.state c.args.d.now).view (g.D.Disk.state c.expire_list.new.d).view (part_after c.args.stanza.now (Expire (retention c.args.rules.now c.args.moment)) (g.D.Disk.state c.args.d.now).view (g.D.Disk.state c.read_list.new.d).view (g.D.Disk.state c.expire_list.new.d).view c.read_list.ensures.looks.time c.read_list.ensures.looks.now c.expire_list.ensures.part)

pub returns-clause-whole : goal.returns-clause-whole
returns-clause-whole g c = on_ok_weaker c.expire_list.result (whole_after c.args.stanza.now (Expire (retention c.args.rules.now c.args.moment)) (g.D.Disk.state c.args.d.now).view (g.D.Disk.state c.read_list.new.d).view (g.D.Disk.state c.expire_list.new.d).view c.read_list.ensures.looks.time c.read_list.ensures.looks.now) c.expire_list.ensures.whole

pub returns-clause-labels : goal.returns-clause-labels
returns-clause-labels g c = labels_after c.args.stanza.now c.args.rules.now c.args.moment (g.D.Disk.state c.args.d.now).view.now (g.D.Disk.state c.read_list.new.d).view.now c.read_list.ensures.looks.now c.expire_list.result c.expire_list.ensures.labels

pub returns-clause-removed : goal.returns-clause-removed
returns-clause-removed g c = removed_after c.args.stanza.now (g.D.Disk.state c.args.d.now).view.now (g.D.Disk.state c.read_list.new.d).view.now (g.D.Disk.state c.expire_list.new.d).view.now c.read_list.ensures.looks.now c.expire_list.result c.expire_list.ensures.removed

pub returns-clause-touches : goal.returns-clause-touches
returns-clause-touches g c = touches_on c.args.stanza.now c.args.rules.now c.args.moment (g.D.Disk.state c.args.d.now).view (g.D.Disk.state c.read_list.new.d).view (g.D.Disk.state c.expire_list.new.d).view (record { now = c.read_list.ensures.looks.now; time = c.read_list.ensures.looks.time }) c.expire_list.ensures.touches

pub returns-clause-only : goal.returns-clause-only
returns-clause-only g c = only_on (MayExpire c.args.stanza.now) (g.D.Disk.state c.args.d.now).view (g.D.Disk.state c.read_list.new.d).view (g.D.Disk.state c.expire_list.new.d).view (only_rests (MayExpire c.args.stanza.now) (g.D.Disk.state c.args.d.now).view (g.D.Disk.state c.read_list.new.d).view c.read_list.ensures.looks.time c.read_list.ensures.looks.now) c.expire_list.ensures.only

pub returns-clause-beside : goal.returns-clause-beside
returns-clause-beside g c = beside_on c.args.stanza.now (g.D.Disk.state c.args.d.now).view (g.D.Disk.state c.read_list.new.d).view (g.D.Disk.state c.expire_list.new.d).view (rests_beside c.args.stanza.now (g.D.Disk.state c.args.d.now).view (g.D.Disk.state c.read_list.new.d).view c.read_list.ensures.looks.time c.read_list.ensures.looks.now) c.expire_list.ensures.beside

pub returns-clause-alike : goal.returns-clause-alike
returns-clause-alike g c = alike_after c.args.stanza.now (g.D.Disk.state c.args.d.now).view.now (g.D.Disk.state c.read_list.new.d).view.now (g.D.Disk.state c.expire_list.new.d).view.now c.read_list.ensures.looks.now c.expire_list.result c.expire_list.ensures.alike

pub returns-clause-lasts : goal.returns-clause-lasts
returns-clause-lasts g c = lasts_after c.args.stanza.now (g.D.Disk.state c.args.d.now).view (g.D.Disk.state c.read_list.new.d).view (g.D.Disk.state c.expire_list.new.d).view c.read_list.ensures.looks.time c.read_list.ensures.looks.now c.expire_list.result c.expire_list.ensures.lasts

pub returns-clause-leaves : goal.returns-clause-leaves
returns-clause-leaves g c = leaves_after c.args.stanza.now c.args.rules.now c.args.moment (g.D.Disk.state c.args.d.now).view.now (g.D.Disk.state c.read_list.new.d).view.now (g.D.Disk.state c.expire_list.new.d).view.now c.read_list.ensures.looks.now c.expire_list.result c.expire_list.ensures.leaves
