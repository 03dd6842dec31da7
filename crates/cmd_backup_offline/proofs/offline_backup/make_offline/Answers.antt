use Rattle.std.proofs.Common.{List, Option, inl, inr, map, sym, subst}
use Rattle.std.specs.Prelude.{IfOk}
use Rattle.base_devices.specs.Cause.{Rises}
use Rattle.base_devices.specs.declared.data_folder.FolderEntry as rust_seen
use Rattle.base_model.specs.Text.{Text}
use Rattle.base_model.specs.Values.{backup_info_of, file_entry_of}
use Rattle.backup_plan.specs.Views.{seen_of}
use Rattle.base_crash_lists.specs.Beside.{StaysBeside}
use Rattle.base_crash_lists.proofs.Stays.{rests_beside, beside_on}
use Rattle.cmd_types.specs.Halts.{HaltCause}
use Rattle.cmd_types.specs.Reached.{OnFinished}
use Rattle.cmd_types.proofs.Counts.{rises_from}
use Rattle.cmd_backup_common.specs.Making.{MakeCause}
use Rattle.cmd_backup_common.proofs.Beginnings.{halt_as, ends_with, err_as}
use Rattle.cmd_backup_common.proofs.Makings.{Either}
use Rattle.cmd_backup_common.specs.Seconds.{StatesSecond}
use Rattle.cmd_backup_offline.specs.Drafting.{IsDraftedBy, StopCause}
use Rattle.cmd_backup_offline.specs.Making.{BeginsFrom, IsMade, MakingCause}
use Rattle.cmd_backup_offline.proofs.Causes.{either_on}
use Rattle.cmd_backup_offline.proofs.Left.{comes_left}
use Rattle.cmd_backup_offline.proofs.Takings.{undrafted_does, finished_does, finished_made}
use Rattle.cmd_backup_offline.proofs.Touchings.{is_new, touches_draft, copies_after, finished_lasts}
use Rattle.base_devices.specs.Content.{Content}
use Rattle.backup_make.specs.Touched.{TouchesOnly, IsOfBackup}
use Rattle.cmd_backup_offline.proofs.offline_backup.make_offline.Goals as goal

pub returns-in_err-draft-clause-does : goal.returns-in_err-draft-clause-does
returns-in_err-draft-clause-does g c =
    undrafted_does c.args.basis.now.order.kind (map g.L.Link.link_state c.args.pool.now.links.items) c.args.basis.now.stanza.now c.from_residual.result c.in_err-draft.field-0.0 c.from_residual.ensures.1
    (g.D.Disk.state c.args.repo.now).view (g.D.Disk.state c.draft_offline.new.repo).view c.draft_offline.ensures.looks.time c.draft_offline.ensures.looks.now

pub returns-clause-does : goal.returns-clause-does
returns-clause-does g c =
    let later = c.in_ok-draft.ensures.later in
    let looks = c.draft_offline.ensures.looks in
    finished_does c.args.basis.now.stanza.now c.args.basis.now.order (map seen_of c.deref.result.now) (backup_info_of c.args.begun.list) (map file_entry_of c.args.basis.now.old.now) later.0 c.in_ok-draft.draft later.1.later (map g.L.Link.link_state c.args.pool.now.links.items) later.1.planned _ c.in_ok-draft.ensures.lines
    (map g.L.Link.link_state c.draft_offline.new.pool.links.items) (comes_left (map g.L.Link.link_state c.args.pool.now.links.items) (map g.L.Link.link_state c.draft_offline.new.pool.links.items) c.args.pool.now.lost.items c.draft_offline.new.pool.lost.items c.in_ok-draft.ensures.left) (g.D.Disk.state c.args.repo.now).view (g.D.Disk.state c.draft_offline.new.repo).view (g.D.Disk.state c.finish.new.repo).view looks.time looks.now
    (g.met.D.Disk.now_may_be_left c.draft_offline.new.repo) c.in_ok-draft.ensures.draft c.requires.from (g.C.Clock.state c.args.clock.now) (g.C.Clock.state c.draft_offline.new.clock) (g.C.Clock.state c.finish.new.clock)
    c.finish.result c.finish.ensures.made

pub returns-clause-made : goal.returns-clause-made
returns-clause-made g c =
    let later = c.in_ok-draft.ensures.later in
    let looks = c.draft_offline.ensures.looks in
    let made = finished_made c.args.basis.now.stanza.now c.args.basis.now.order (map seen_of c.deref.result.now) (backup_info_of c.args.begun.list) (map file_entry_of c.args.basis.now.old.now) later.0 c.in_ok-draft.draft later.1.later (map g.L.Link.link_state c.args.pool.now.links.items) later.1.planned _ c.in_ok-draft.ensures.lines
    (map g.L.Link.link_state c.draft_offline.new.pool.links.items) (comes_left (map g.L.Link.link_state c.args.pool.now.links.items) (map g.L.Link.link_state c.draft_offline.new.pool.links.items) c.args.pool.now.lost.items c.draft_offline.new.pool.lost.items c.in_ok-draft.ensures.left) (g.D.Disk.state c.args.repo.now).view (g.D.Disk.state c.draft_offline.new.repo).view (g.D.Disk.state c.finish.new.repo).view looks.time looks.now
    (g.met.D.Disk.now_may_be_left c.draft_offline.new.repo) c.in_ok-draft.ensures.draft c.requires.from (g.C.Clock.state c.args.clock.now) (g.C.Clock.state c.draft_offline.new.clock) (g.C.Clock.state c.finish.new.clock)
    later.2 c.finish.result c.finish.ensures.made c.finish.ensures.alike in
    subst (λ (ss : List rust_seen.FolderEntry). IfOk c.finish.result (λ outcome. OnFinished outcome (IsMade c.args.basis.now.stanza.now c.args.basis.now.order (backup_info_of c.args.begun.list) (map seen_of ss)
    (map g.L.Link.link_state c.args.pool.now.links.items) (g.D.Disk.state c.args.repo.now).view.now (g.D.Disk.state c.finish.new.repo).view.now
    (g.C.Clock.state c.args.clock.now) (g.C.Clock.state c.finish.new.clock)))) c.deref.ensures.value made

pub returns-clause-beside : goal.returns-clause-beside
returns-clause-beside g c =
    let a = (g.D.Disk.state c.args.repo.now).view in
    let b = (g.D.Disk.state c.draft_offline.new.repo).view in
    let d = (g.D.Disk.state c.finish.new.repo).view in
    let looks = c.draft_offline.ensures.looks in
    beside_on c.args.basis.now.stanza.now a b d (rests_beside c.args.basis.now.stanza.now a b looks.time looks.now) (subst (λ (s : Text). StaysBeside s b d) c.in_ok-draft.ensures.later.1.later.stanza_is c.finish.ensures.beside)

pub returns-in_err-draft-clause-cause : goal.returns-in_err-draft-clause-cause
returns-in_err-draft-clause-cause g c =
    let stanza = c.args.basis.now.stanza.now in
    let order = c.args.basis.now.order in
    let list = backup_info_of c.args.begun.list in
    let old = map file_entry_of c.args.basis.now.old.now in
    let links = map g.L.Link.link_state c.args.pool.now.links.items in
    let lost = c.args.pool.now.lost.items in
    let least = (g.C.Clock.state c.args.clock.now).least in
    let seen = map seen_of c.args.begun.seen.items in
    let failed = Either (Rises (g.D.Disk.state c.args.repo.now).faults (g.D.Disk.state c.draft_offline.new.repo).faults) (Rises (g.C.Clock.state c.args.clock.now).faults (g.C.Clock.state c.draft_offline.new.clock).faults) in
    let Stated = StatesSecond stanza list (g.D.Disk.state c.args.repo.now).view.now in
    let cause = subst (λ (ss : List rust_seen.FolderEntry). HaltCause (StopCause (map seen_of ss) least Stated links lost old) failed c.in_err-draft.field-0.0) c.deref.ensures.value c.in_err-draft.ensures.cause in
    ends_with (HaltCause (MakingCause stanza order seen list old least Stated links lost) failed) c.from_residual.result c.in_err-draft.field-0.0 c.from_residual.ensures.1
    (halt_as (StopCause seen least Stated links lost old) (MakingCause stanza order seen list old least Stated links lost) failed failed (λ e h. inl h) (λ o h. h) c.in_err-draft.field-0.0 cause)

pub returns-clause-cause : goal.returns-clause-cause
returns-clause-cause g c =
    let stanza = c.args.basis.now.stanza.now in
    let order = c.args.basis.now.order in
    let list = backup_info_of c.args.begun.list in
    let old = map file_entry_of c.args.basis.now.old.now in
    let links = map g.L.Link.link_state c.args.pool.now.links.items in
    let lost = c.args.pool.now.lost.items in
    let now = map g.L.Link.link_state c.draft_offline.new.pool.links.items in
    let gone = c.draft_offline.new.pool.lost.items in
    let draft = c.in_ok-draft.draft in
    let least = (g.C.Clock.state c.args.clock.now).least in
    let second = c.in_ok-draft.ensures.later.0 in
    let later = subst (λ (ss : List rust_seen.FolderEntry). IsDraftedBy stanza order (map seen_of ss) list old second links draft) c.deref.ensures.value c.in_ok-draft.ensures.later.1 in
    let x = (g.D.Disk.state c.args.repo.now).faults in
    let y = (g.D.Disk.state c.draft_offline.new.repo).faults in
    let z = (g.D.Disk.state c.finish.new.repo).faults in
    let u = (g.C.Clock.state c.args.clock.now).faults in
    let v = (g.C.Clock.state c.draft_offline.new.clock).faults in
    let w = (g.C.Clock.state c.finish.new.clock).faults in
    let Stated = StatesSecond stanza list (g.D.Disk.state c.args.repo.now).view.now in
    err_as (HaltCause (MakeCause draft now gone) (Either (Rises y z) (Rises v w))) (HaltCause (MakingCause stanza order (map seen_of c.args.begun.seen.items) list old least Stated links lost) (Either (Rises x z) (Rises u w))) c.finish.result
    (halt_as (MakeCause draft now gone) (MakingCause stanza order (map seen_of c.args.begun.seen.items) list old least Stated links lost) (Either (Rises y z) (Rises v w)) (Either (Rises x z) (Rises u w))
    (λ e h. inr (record { draft = draft; is = c.in_ok-draft.ensures.draft; second = second; later = later; now = now; lost = gone; left = c.in_ok-draft.ensures.left; cause = h }))
    (either_on (Rises y z) (Rises v w) (Rises x z) (Rises u w) (rises_from x y z c.draft_offline.ensures.looks.later) (rises_from u v w c.draft_offline.ensures.clock)))
    c.finish.ensures.cause

pub returns-in_err-draft-clause-only : goal.returns-in_err-draft-clause-only
returns-in_err-draft-clause-only g c = let looks = c.draft_offline.ensures.looks in inl (record { now = looks.now; time = looks.time })

pub returns-clause-only : goal.returns-clause-only
returns-clause-only g c =
    let stanza = c.args.basis.now.stanza.now in
    let later = c.in_ok-draft.ensures.later in
    let looks = c.draft_offline.ensures.looks in
    let draft = c.in_ok-draft.draft in
    let a = (g.D.Disk.state c.args.repo.now).view in
    let b = (g.D.Disk.state c.draft_offline.new.repo).view in
    let d = (g.D.Disk.state c.finish.new.repo).view in
    let new = is_new stanza c.args.basis.now.order a.now (backup_info_of c.args.begun.list) (map file_entry_of c.args.basis.now.old.now) c.requires.from later.0 later.1.later.next.later draft.label later.1.later.label in
    touches_draft stanza a b d (record { now = looks.now; time = looks.time }) draft.label c.in_ok-draft.ensures.label new
    (subst (λ (s : Text). TouchesOnly (IsOfBackup s draft.label) b d) later.1.later.stanza_is c.finish.ensures.only)

pub returns-clause-lasts : goal.returns-clause-lasts
returns-clause-lasts g c =
    let stanza = c.args.basis.now.stanza.now in
    let order = c.args.basis.now.order in
    let list = backup_info_of c.args.begun.list in
    let old = map file_entry_of c.args.basis.now.old.now in
    let later = c.in_ok-draft.ensures.later in
    let looks = c.draft_offline.ensures.looks in
    let a = (g.D.Disk.state c.args.repo.now).view in
    let b = (g.D.Disk.state c.draft_offline.new.repo).view in
    let d = (g.D.Disk.state c.finish.new.repo).view in
    copies_after stanza a b d (record { now = looks.now; time = looks.time }) c.finish.result
    (finished_lasts stanza order list old c.in_ok-draft.draft later.1.later.stanza_is later.1.later.list_is b (subst (λ (n : Option Content). BeginsFrom stanza order n list old) (sym looks.now) c.requires.from)
    (map g.L.Link.link_state c.draft_offline.new.pool.links.items) d (g.C.Clock.state c.draft_offline.new.clock) (g.C.Clock.state c.finish.new.clock) _ c.finish.result c.finish.ensures.made)
