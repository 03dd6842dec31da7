use Rattle.std.proofs.Common.{◌≡◌, ◌<◌, ◌^◌, ◌∙◌, List, ap, map, length, sym, subst}
use Rattle.base_devices.specs.Cause.{Rises}
use Rattle.base_model.specs.InfoFiles.{IsLabel}
use Rattle.base_model.specs.Values.{backup_info_of, file_entry_of}
use Rattle.backup_plan.specs.Views.{seen_of}
use Rattle.backup_make.specs.declared.draft.Draft.{Draft}
use Rattle.backup_make.specs.Touched.{IsOfBackup}
use Rattle.backup_make.proofs.Touched.{touched_none}
use Rattle.cmd_types.specs.Halts.{HaltCause}
use Rattle.cmd_backup_common.specs.Priors.{made_label}
use Rattle.cmd_backup_common.proofs.Beginnings.{ends_with}
use Rattle.cmd_backup_offline.specs.Basing.{base_in}
use Rattle.worker_pool.specs.declared.dispatch.fault.Lost.{Lost}
use Rattle.cmd_backup_online.specs.Drafting.{IsDraftFrom}
use Rattle.cmd_backup_online.specs.Gathering.{Begun, GatherCause}
use Rattle.cmd_backup_online.proofs.Finishings.{halt_of_draft}
use Rattle.cmd_backup_online.proofs.Gatherings.{OrTree, is_gathered, list_stops, fetch_stops}
use Rattle.cmd_backup_online.proofs.Touchings.{touched_as}
use Rattle.cmd_backup_online.proofs.online_read.gather.Goals as goal

pub returns-in-Ok-clause-gathered : goal.returns-in-Ok-clause-gathered
returns-in-Ok-clause-gathered g c =
    let b = c.args.task.basis in
    let list = backup_info_of c.args.task.next.list in
    let nodes = (g.T.DataFolder.state c.args.tree.now).nodes in
    let d = c.in_ok-draft.draft.draft in
    let from : IsDraftFrom b.stanza.now b.order nodes list (map file_entry_of b.old.now) d = record {
      is_draft = c.in_ok-draft.ensures.draft;
      seen = map seen_of c.in_ok-seen.seen.nodes.items;
      listing = c.in_ok-seen.ensures.listing;
      second = c.args.task.next.second;
      later = c.in_ok-draft.ensures.later;
    } in
    is_gathered b.stanza.now b.order nodes list (map file_entry_of b.old.now) (map g.L.Link.link_state c.args.pool.now.links.items) (map g.L.Link.link_state c.draft_running.new.pool.links.items) c.args.pool.now.lost.items c.draft_running.new.pool.lost.items c.in_ok-draft.ensures.left
    d from c.in_ok-draft.ensures.planned c.in_ok-draft.ensures.free _ c.in-Ok.ensures.of c.in-Ok.ensures.fetched
    (record { label_is = c.named.ensures.label; label_valid = subst IsLabel (sym c.named.ensures.label) c.in_ok-draft.ensures.label; id_is = c.named.ensures.id; lines_are = c.in_ok-draft.ensures.lines }) _ _ c.in-Ok.ensures.staged c.fetch_running.ensures.unlisted

pub returns-clause-unlisted : goal.returns-clause-unlisted
returns-clause-unlisted g c =
    let b = c.args.task.basis in
    let from : IsDraftFrom b.stanza.now b.order (g.T.DataFolder.state c.args.tree.now).nodes (backup_info_of c.args.task.next.list) (map file_entry_of b.old.now) c.in_ok-draft.draft.draft = record {
      is_draft = c.in_ok-draft.ensures.draft;
      seen = map seen_of c.in_ok-seen.seen.nodes.items;
      listing = c.in_ok-seen.ensures.listing;
      second = c.args.task.next.second;
      later = c.in_ok-draft.ensures.later;
    } in
    Begun c.in_ok-draft.draft.draft from c.fetch_running.ensures.unlisted

pub returns-clause-cause : goal.returns-clause-cause
returns-clause-cause g c =
    let b = c.args.task.basis in
    let list = backup_info_of c.args.task.next.list in
    let nodes = (g.T.DataFolder.state c.args.tree.now).nodes in
    let d = c.in_ok-draft.draft.draft in
    let from : IsDraftFrom b.stanza.now b.order nodes list (map file_entry_of b.old.now) d = record {
      is_draft = c.in_ok-draft.ensures.draft;
      seen = map seen_of c.in_ok-seen.seen.nodes.items;
      listing = c.in_ok-seen.ensures.listing;
      second = c.args.task.next.second;
      later = c.in_ok-draft.ensures.later;
    } in
    let count = subst (λ (es : List Lost). length es < 2 ^ 32 → c.count_of.result ≡ length es) c.deref.ensures.value c.count_of.ensures in
    fetch_stops b.stanza.now b.order nodes list (map file_entry_of b.old.now) (map g.L.Link.link_state c.args.pool.now.links.items) c.args.pool.now.lost.items _ _ _ d from
    (map g.L.Link.link_state c.draft_running.new.pool.links.items) c.draft_running.new.pool.lost.items c.in_ok-draft.ensures.left (map g.L.Link.link_state c.fetch_running.new.pool.links.items) c.fetch_running.new.pool.lost.items c.count_of.result count _ _ (λ r. r) c.in-Err.fault c.of_make.result
    (halt_of_draft d b.stanza.now c.named.result.0 c.in_ok-draft.ensures.later.stanza_is c.named.ensures.label c.count_of.result c.in-Err.fault c.of_make.result c.of_make.ensures)
    c.in-Err.ensures.fault

pub returns-in_err-seen-clause-cause : goal.returns-in_err-seen-clause-cause
returns-in_err-seen-clause-cause g c =
    let b = c.args.task.basis in
    let nodes = (g.T.DataFolder.state c.args.tree.now).nodes in
    let list = backup_info_of c.args.task.next.list in
    let files = map file_entry_of b.old.now in
    let links = map g.L.Link.link_state c.args.pool.now.links.items in
    let before = c.args.pool.now.lost.items in
    let repo = Rises (g.D.Disk.state c.args.repo.now).faults (g.D.Disk.state c.args.repo.now).faults in
    let tree = Rises (g.T.DataFolder.state c.args.tree.now).faults (g.T.DataFolder.state c.list_folder.new.tree).faults in
    let clock = Rises (g.C.Clock.state c.args.clock.now).faults (g.C.Clock.state c.list_folder.new.clock).faults in
    ends_with (HaltCause (GatherCause b.stanza.now b.order nodes list files links before) (OrTree repo tree clock)) c.from_residual.result c.in_err-seen.field-0.0 c.from_residual.ensures.1
    (list_stops b.stanza.now b.order nodes list files links before repo tree clock c.in_err-seen.field-0.0 c.in_err-seen.ensures.cause)

-- ---- when it begins

pub returns-in-Ok-clause-begins : goal.returns-in-Ok-clause-begins
returns-in-Ok-clause-begins g c = ap (λ (d : Draft). d.start) c.in-Ok.ensures.of ∙ c.in_ok-draft.ensures.later.start

-- ---- what is touched

pub returns-in_err-seen-clause-only : goal.returns-in_err-seen-clause-only
returns-in_err-seen-clause-only g c =
    let b = c.args.task.basis in
    let label = made_label b.order.kind (base_in b.order.kind (backup_info_of c.args.task.next.list)) c.args.task.next.second in
    touched_none (IsOfBackup b.stanza.now label) (g.D.Disk.state c.args.repo.now).view

pub returns-in_err-draft-clause-only : goal.returns-in_err-draft-clause-only
returns-in_err-draft-clause-only g c =
    let b = c.args.task.basis in
    let label = made_label b.order.kind (base_in b.order.kind (backup_info_of c.args.task.next.list)) c.args.task.next.second in
    touched_none (IsOfBackup b.stanza.now label) (g.D.Disk.state c.args.repo.now).view

pub returns-in-Ok-clause-only : goal.returns-in-Ok-clause-only
returns-in-Ok-clause-only g c =
    let b = c.args.task.basis in
    let label = made_label b.order.kind (base_in b.order.kind (backup_info_of c.args.task.next.list)) c.args.task.next.second in
    let later = c.in_ok-draft.ensures.later in
    touched_as b.stanza.now label c.in_ok-draft.draft.draft later.stanza_is later.label (g.D.Disk.state c.args.repo.now).view (g.D.Disk.state c.fetch_running.new.d).view c.fetch_running.ensures.only

pub returns-clause-only : goal.returns-clause-only
returns-clause-only g c =
    let b = c.args.task.basis in
    let label = made_label b.order.kind (base_in b.order.kind (backup_info_of c.args.task.next.list)) c.args.task.next.second in
    let later = c.in_ok-draft.ensures.later in
    touched_as b.stanza.now label c.in_ok-draft.draft.draft later.stanza_is later.label (g.D.Disk.state c.args.repo.now).view (g.D.Disk.state c.fetch_running.new.d).view c.fetch_running.ensures.only
