use Rattle.std.proofs.Common.{◌≡◌, ◌<◌, ◌^◌, ◌∙◌, ℕ, List, [], Option, Some, true, false, map, take, length, option_map, string_bytes, refl, sym, ap, subst, arith, inl}
use Rattle.std.specs.Prelude.{IfSome, IsSome, IfErr, OnOk, Result, Err}
use Rattle.base_devices.specs.Cause.{Rises}
use Rattle.base_devices.specs.Content.{Content}
use Rattle.base_devices.specs.Links.{LinkState}
use Rattle.base_devices.specs.DataFolder.{Nodes}
use Rattle.base_devices.specs.States.{ShowsSecond}
use Rattle.base_model.specs.declared.labels.BackupKind.{BackupKind}
use Rattle.base_model.specs.Text.{Text}
use Rattle.base_model.specs.Values.{FileEntry, archive_info_of, backup_info_of, file_entry_of, manifest_of}
use Rattle.base_crash_lists.specs.Beside.{StaysBeside}
use Rattle.base_crash_lists.proofs.Stays.{rests_beside, beside_on}
use Rattle.repo_stanza.specs.declared.control.Control.{Control}
use Rattle.repo_stanza.specs.Pairs.{AgreeAt}
use Rattle.backup_make.specs.Draft.{main_of}
use Rattle.backup_make.specs.Online.{online_of}
use Rattle.backup_make.specs.Staged.{closed_draft, fetched_draft, fetched_ends}
use Rattle.backup_make.proofs.After.{leaves_after}
use Rattle.backup_make.proofs.Labels.{apart}
use Rattle.backup_make.proofs.Parts.{published}
use Rattle.server_talk.specs.Telling.{starting}
use Rattle.archive_lookup.specs.Turns.{Account}
use Rattle.cmd_types.specs.declared.stages.halt.Halt.{Halt}
use Rattle.cmd_types.specs.declared.stages.outcome.Outcome.{Outcome}
use Rattle.cmd_types.specs.Halts.{HaltCause}
use Rattle.cmd_types.proofs.Counts.{rises_from}
use Rattle.cmd_backup_common.proofs.Beginnings.{ends_with, halt_as, err_as}
use Rattle.cmd_backup_common.proofs.Links.{left_comes}
use Rattle.cmd_backup_common.proofs.Takings.{used_few}
use Rattle.cmd_backup_offline.specs.Basing.{base_in, base_label}
use Rattle.cmd_backup_offline.specs.Drafting.{MayBase}
use Rattle.cmd_backup_offline.proofs.Bases.{may_base, no_base}
use Rattle.cmd_backup_offline.proofs.Takings.{begins_from, has_room}
use Rattle.cmd_backup_offline.specs.Touching.{TouchesOneOf}
use Rattle.cmd_backup_online.specs.declared.fault.OnlineBackupFault.{OnlineBackupFault}
use Rattle.cmd_backup_online.specs.Causes.{Asked, OnlineCause}
use Rattle.cmd_backup_online.specs.Doing.{Received}
use Rattle.cmd_backup_online.specs.Finishing.{Publishes, VainCause, OfTake, PublishCause}
use Rattle.cmd_backup_online.specs.Preparing.{PrepareCause}
use Rattle.cmd_backup_online.specs.Talking.{SpokenCause}
use Rattle.cmd_backup_online.specs.Touching.{IsOfRunning}
use Rattle.cmd_backup_online.proofs.Besides.{staged_beside, waited_beside, listed_beside}
use Rattle.cmd_backup_online.proofs.Stops.{shown_on, stops_following, stops_staged}
use Rattle.cmd_backup_online.proofs.Bases.{begins_of, known_before}
use Rattle.cmd_backup_online.proofs.Causes.{All, in_all, of_offline_as, prepare_takes, spoken_takes, vain_takes, publish_takes}
use Rattle.cmd_backup_online.proofs.Ends.{talked_names, closed_names, waited_names, listed_names, waited_receipts}
use Rattle.cmd_backup_online.proofs.Doings.{not_end, by_account, rests_online, gave_up_online, left_online, waited_online, published_online, outcome_following, part_of}
use Rattle.cmd_backup_online.proofs.Takings.{taken_online}
use Rattle.cmd_backup_online.proofs.Gatherings.{comes_after}
use Rattle.cmd_backup_online.proofs.Talks.{ended_before}
use Rattle.cmd_backup_online.proofs.Spools.{still_marks, spool_still, spool_waited}
use Rattle.cmd_backup_online.proofs.online_backup.back_up_online.Goals as goal

abbrev asked : Text → Control → BackupKind → Option Content → Option Nodes → ℕ → List LinkState → Option (List ℕ) → Option (List ℕ) → ℕ → ℕ → ℕ → Option Content → Asked
asked stanza known kind repo nodes least used pending left most turns turned now = record {
  before = record { stanza = stanza; known = known; repo = repo; nodes = nodes; least = least; used = used };
  kind = kind;
  received_reply = record { system = known.system; pending = pending; left = left };
  most = most;
  turns = turns;
  turned = turned;
  now = now;
}

-- refused before the server was asked
pub returns-in-Err-clause-does : goal.returns-in-Err-clause-does
returns-in-Err-clause-does g c =
    let stanza = c.args.task.stanza.name.now in
    let kind = c.args.task.order.later.kind in
    let used = take c.args.task.order.later.take.workers (map g.L.Link.link_state c.args.pool.now.links.items) in
    let received_reply : Received = record { system = c.args.task.stanza.control.now.system; pending = (g.V.ServerConnection.state c.args.server.now).pending; left = (g.V.ServerConnection.state c.args.server.now).pending } in
    let a = (g.D.Disk.state c.args.repo.now).view in
    let b = (g.D.Disk.state c.prepare.new.repo).view in
    let looks = c.prepare.ensures.looks in
    let account = (g.A.OtherProcesses.state c.args.processes.now).account in
    let result : Result Outcome (Halt OnlineBackupFault) = Err c.of_offline.result in
    rests_online stanza kind used received_reply _ account account refl a b (not_end result c.of_offline.result refl) looks.time looks.now

pub returns-in_err-gathered-clause-does : goal.returns-in_err-gathered-clause-does
returns-in_err-gathered-clause-does g c =
    let stanza = c.args.task.stanza.name.now in
    let kind = c.args.task.order.later.kind in
    let used = take c.args.task.order.later.take.workers (map g.L.Link.link_state c.args.pool.now.links.items) in
    let received_reply : Received = record { system = c.args.task.stanza.control.now.system; pending = (g.V.ServerConnection.state c.args.server.now).pending; left = (g.V.ServerConnection.state c.talk.new.server).pending } in
    let a = (g.D.Disk.state c.args.repo.now).view in
    let b = (g.D.Disk.state c.prepare.new.repo).view in
    let looks = c.prepare.ensures.looks in
    let now = map g.L.Link.link_state c.prepare.new.pool.links.items in
    let nodes = (g.T.DataFolder.state c.args.tree.now).nodes in
    let list = backup_info_of c.in-Ok.prepared.next.list in
    let files = map file_entry_of c.files_of-old.result.now in
    let from = begins_from stanza c.args.task.order.later c.args.task.stanza.archive.now c.args.task.stanza.backup a.now b.now looks.now c.requires.archive c.requires.backup list c.in-Ok.ensures.settled (option_map manifest_of c.in-Ok.prepared.base) c.in-Ok.ensures.base files c.files_of-old.ensures in
    let account = (g.A.OtherProcesses.state c.args.processes.now).account in
    gave_up_online stanza kind used received_reply a b looks.time looks.now _ (not_end c.from_residual.result c.in_err-gathered.field-0.0 c.from_residual.ensures.1) account account refl (g.D.Disk.state c.talk.new.repo).view
    c.args.task.order.later nodes list files (g.met.D.Disk.now_may_be_left c.prepare.new.repo) from c.in_err-gathered.ensures.unlisted

pub returns-in_err-closed-clause-does : goal.returns-in_err-closed-clause-does
returns-in_err-closed-clause-does g c =
    let stanza = c.args.task.stanza.name.now in
    let kind = c.args.task.order.later.kind in
    let used = take c.args.task.order.later.take.workers (map g.L.Link.link_state c.args.pool.now.links.items) in
    let received_reply : Received = record { system = c.args.task.stanza.control.now.system; pending = (g.V.ServerConnection.state c.args.server.now).pending; left = (g.V.ServerConnection.state c.talk.new.server).pending } in
    let a = (g.D.Disk.state c.args.repo.now).view in
    let b = (g.D.Disk.state c.prepare.new.repo).view in
    let looks = c.prepare.ensures.looks in
    let now = map g.L.Link.link_state c.prepare.new.pool.links.items in
    let nodes = (g.T.DataFolder.state c.args.tree.now).nodes in
    let list = backup_info_of c.in-Ok.prepared.next.list in
    let files = map file_entry_of c.files_of-old.result.now in
    let from = begins_from stanza c.args.task.order.later c.args.task.stanza.archive.now c.args.task.stanza.backup a.now b.now looks.now c.requires.archive c.requires.backup list c.in-Ok.ensures.settled (option_map manifest_of c.in-Ok.prepared.base) c.in-Ok.ensures.base files c.files_of-old.ensures in
    let t = (g.D.Disk.state c.talk.new.repo).view in
    let s = (g.D.Disk.state c.end_backup.new.repo).view in
    let x = c.in_ok-gathered.ensures.gathered in
    let d = fetched_draft c.in_ok-gathered.gathered.fetched in
    let begins = begins_of stanza c.args.task.order.later nodes list files d x.draft b (g.met.D.Disk.now_may_be_left c.prepare.new.repo) from in
    let leaves = leaves_after d (apart d x.draft.is_draft) b t s x.unlisted c.end_backup.ensures.unlisted in
    let account = (g.A.OtherProcesses.state c.args.processes.now).account in
    left_online stanza kind used received_reply a b looks.time looks.now _ (not_end c.from_residual-in_err-closed.result c.in_err-closed.field-0.0 c.from_residual-in_err-closed.ensures.1) account account refl s d x.draft.later.stanza_is begins leaves

pub returns-in_err-wait-clause-does : goal.returns-in_err-wait-clause-does
returns-in_err-wait-clause-does g c =
    let stanza = c.args.task.stanza.name.now in
    let kind = c.args.task.order.later.kind in
    let used = take c.args.task.order.later.take.workers (map g.L.Link.link_state c.args.pool.now.links.items) in
    let received_reply : Received = record { system = c.args.task.stanza.control.now.system; pending = (g.V.ServerConnection.state c.args.server.now).pending; left = (g.V.ServerConnection.state c.talk.new.server).pending } in
    let a = (g.D.Disk.state c.args.repo.now).view in
    let b = (g.D.Disk.state c.prepare.new.repo).view in
    let looks = c.prepare.ensures.looks in
    let now = map g.L.Link.link_state c.prepare.new.pool.links.items in
    let nodes = (g.T.DataFolder.state c.args.tree.now).nodes in
    let list = backup_info_of c.in-Ok.prepared.next.list in
    let files = map file_entry_of c.files_of-old.result.now in
    let from = begins_from stanza c.args.task.order.later c.args.task.stanza.archive.now c.args.task.stanza.backup a.now b.now looks.now c.requires.archive c.requires.backup list c.in-Ok.ensures.settled (option_map manifest_of c.in-Ok.prepared.base) c.in-Ok.ensures.base files c.files_of-old.ensures in
    let t = (g.D.Disk.state c.talk.new.repo).view in
    let s = (g.D.Disk.state c.end_backup.new.repo).view in
    let x = c.in_ok-gathered.ensures.gathered in
    let d = fetched_draft c.in_ok-gathered.gathered.fetched in
    let begins = begins_of stanza c.args.task.order.later nodes list files d x.draft b (g.met.D.Disk.now_may_be_left c.prepare.new.repo) from in
    let leaves = leaves_after d (apart d x.draft.is_draft) b t s x.unlisted c.end_backup.ensures.unlisted in
    let w = (g.D.Disk.state c.wait.new.repo).view in
    let comes = left_comes used now [] c.prepare.new.pool.lost.items c.in-Ok.ensures.left in
    let account = (g.A.OtherProcesses.state c.args.processes.now).account in
    let account2 = (g.A.OtherProcesses.state c.wait.new.others).account in
    let spool = (g.S.Disk.state c.args.spool.now).view in
    let spool2 = (g.S.Disk.state c.wait.new.spool).view in
    waited_online stanza kind used now comes received_reply a b s w looks.time looks.now d x.draft.later.stanza_is begins leaves account account2 spool spool2 false _ (not_end c.from_residual-in_err-wait.result c.in_err-wait.field-0.0 c.from_residual-in_err-wait.ensures.1) c.in_err-wait.ensures.went

pub returns-clause-does : goal.returns-clause-does
returns-clause-does g c =
    let stanza = c.args.task.stanza.name.now in
    let kind = c.args.task.order.later.kind in
    let used = take c.args.task.order.later.take.workers (map g.L.Link.link_state c.args.pool.now.links.items) in
    let received_reply : Received = record { system = c.args.task.stanza.control.now.system; pending = (g.V.ServerConnection.state c.args.server.now).pending; left = (g.V.ServerConnection.state c.talk.new.server).pending } in
    let a = (g.D.Disk.state c.args.repo.now).view in
    let b = (g.D.Disk.state c.prepare.new.repo).view in
    let looks = c.prepare.ensures.looks in
    let now = map g.L.Link.link_state c.prepare.new.pool.links.items in
    let nodes = (g.T.DataFolder.state c.args.tree.now).nodes in
    let list = backup_info_of c.in-Ok.prepared.next.list in
    let files = map file_entry_of c.files_of-old.result.now in
    let from = begins_from stanza c.args.task.order.later c.args.task.stanza.archive.now c.args.task.stanza.backup a.now b.now looks.now c.requires.archive c.requires.backup list c.in-Ok.ensures.settled (option_map manifest_of c.in-Ok.prepared.base) c.in-Ok.ensures.base files c.files_of-old.ensures in
    let t = (g.D.Disk.state c.talk.new.repo).view in
    let s = (g.D.Disk.state c.end_backup.new.repo).view in
    let x = c.in_ok-gathered.ensures.gathered in
    let d = fetched_draft c.in_ok-gathered.gathered.fetched in
    let begins = begins_of stanza c.args.task.order.later nodes list files d x.draft b (g.met.D.Disk.now_may_be_left c.prepare.new.repo) from in
    let leaves = leaves_after d (apart d x.draft.is_draft) b t s x.unlisted c.end_backup.ensures.unlisted in
    let w = (g.D.Disk.state c.wait.new.repo).view in
    let comes = comes_after used now x.now c.prepare.new.pool.lost.items x.lost c.in-Ok.ensures.left x.left in
    let account = (g.A.OtherProcesses.state c.args.processes.now).account in
    let account2 = (g.A.OtherProcesses.state c.wait.new.others).account in
    let spool = (g.S.Disk.state c.args.spool.now).view in
    let spool2 = (g.S.Disk.state c.wait.new.spool).view in
    let e = (g.D.Disk.state c.conclude.new.repo).view in
    let ends = fetched_ends c.in_ok-gathered.gathered.fetched in
    let o = online_of c.in_ok-gathered.online in
    let staged = c.in_ok-closed.ensures.staged x.now x.staged in
    let p = published d c.in_ok-gathered.gathered.fetched (Some o) c.in_ok-closed.closed refl c.in_ok-closed.ensures.of (λ q y es. Publishes (string_bytes c.in_ok-gathered.gathered.lines) q y es w e c.conclude.result) c.conclude.ensures.publishes in
    let arrived = part_of stanza d x.draft.later.stanza_is c.in_ok-gathered.gathered.id x.named.id_is c.in_ok-gathered.online.wal o.part refl w.now c.in_ok-wait.ensures.archived in
    let before = known_before stanza b s (beside_on stanza b t s c.talk.ensures.beside (subst (λ (k : Text). StaysBeside k t s) x.draft.later.stanza_is c.end_backup.ensures.beside)) in
    let law = g.met.D.Disk.now_may_be_left c.wait.new.repo in
    published_online stanza kind used x.now comes received_reply a b s w looks.time looks.now d x.draft.later.stanza_is begins leaves account account2 spool spool2
    (λ full. x.draft.later.prior ∙ ap (λ (k : BackupKind). base_label k list) full ∙ no_base list) before law c.in_ok-wait.ensures.went o c.in_ok-gathered.ensures.known x.free arrived e (string_bytes c.in_ok-gathered.gathered.lines) p.made p.ended p.end c.conclude.result p.is
    (outcome_following stanza d x.draft.later.stanza_is (Some o) x.now ends account s w e spool spool2 p.made p.outcome staged)

pub returns-clause-taken : goal.returns-clause-taken
returns-clause-taken g c =
    let stanza = c.args.task.stanza.name.now in
    let used = take c.args.task.order.later.take.workers (map g.L.Link.link_state c.args.pool.now.links.items) in
    let received_reply : Received = record { system = c.args.task.stanza.control.now.system; pending = (g.V.ServerConnection.state c.args.server.now).pending; left = (g.V.ServerConnection.state c.talk.new.server).pending } in
    let a = (g.D.Disk.state c.args.repo.now).view in
    let b = (g.D.Disk.state c.prepare.new.repo).view in
    let looks = c.prepare.ensures.looks in
    let now = map g.L.Link.link_state c.prepare.new.pool.links.items in
    let nodes = (g.T.DataFolder.state c.args.tree.now).nodes in
    let list = backup_info_of c.in-Ok.prepared.next.list in
    let files = map file_entry_of c.files_of-old.result.now in
    let from = begins_from stanza c.args.task.order.later c.args.task.stanza.archive.now c.args.task.stanza.backup a.now b.now looks.now c.requires.archive c.requires.backup list c.in-Ok.ensures.settled (option_map manifest_of c.in-Ok.prepared.base) c.in-Ok.ensures.base files c.files_of-old.ensures in
    let t = (g.D.Disk.state c.talk.new.repo).view in
    let s = (g.D.Disk.state c.end_backup.new.repo).view in
    let x = c.in_ok-gathered.ensures.gathered in
    let d = fetched_draft c.in_ok-gathered.gathered.fetched in
    let begins = begins_of stanza c.args.task.order.later nodes list files d x.draft b (g.met.D.Disk.now_may_be_left c.prepare.new.repo) from in
    let leaves = leaves_after d (apart d x.draft.is_draft) b t s x.unlisted c.end_backup.ensures.unlisted in
    let w = (g.D.Disk.state c.wait.new.repo).view in
    let comes = comes_after used now x.now c.prepare.new.pool.lost.items x.lost c.in-Ok.ensures.left x.left in
    let account = (g.A.OtherProcesses.state c.args.processes.now).account in
    let account2 = (g.A.OtherProcesses.state c.wait.new.others).account in
    let spool = (g.S.Disk.state c.args.spool.now).view in
    let spool2 = (g.S.Disk.state c.wait.new.spool).view in
    let e = (g.D.Disk.state c.conclude.new.repo).view in
    let ends = fetched_ends c.in_ok-gathered.gathered.fetched in
    let o = online_of c.in_ok-gathered.online in
    let staged = c.in_ok-closed.ensures.staged x.now x.staged in
    let p = published d c.in_ok-gathered.gathered.fetched (Some o) c.in_ok-closed.closed refl c.in_ok-closed.ensures.of (λ q y es. Publishes (string_bytes c.in_ok-gathered.gathered.lines) q y es w e c.conclude.result) c.conclude.ensures.publishes in
    let arrived = part_of stanza d x.draft.later.stanza_is c.in_ok-gathered.gathered.id x.named.id_is c.in_ok-gathered.online.wal o.part refl w.now c.in_ok-wait.ensures.archived in
    let before = known_before stanza b s (beside_on stanza b t s c.talk.ensures.beside (subst (λ (k : Text). StaysBeside k t s) x.draft.later.stanza_is c.end_backup.ensures.beside)) in
    let law = g.met.D.Disk.now_may_be_left c.wait.new.repo in
    let room = has_room stanza c.args.task.stanza.control.now c.args.task.stanza.archive.now c.args.task.stanza.backup a.now c.requires.archive c.requires.backup list c.in-Ok.ensures.settled c.in-Ok.ensures.of c.in-Ok.ensures.room in
    let clock = g.C.Clock.state c.args.clock.now in
    let mid = g.C.Clock.state c.prepare.new.clock in
    let late = g.C.Clock.state c.talk.new.clock in
    let last = g.C.Clock.state c.end_backup.new.clock in
    let began = subst (λ (n : ℕ). ShowsSecond n clock mid) (sym c.in_ok-gathered.ensures.begins ∙ x.draft.later.start) c.in-Ok.ensures.shows in
    let shown = shown_on x.draft.second clock mid late c.talk.ensures.least began in
    taken_online stanza c.args.task.stanza.control.now c.args.task.order.later a b looks.now list room (g.met.D.Disk.now_may_be_left c.prepare.new.repo) files from nodes d x.draft used now (left_comes used now [] c.prepare.new.pool.lost.items c.in-Ok.ensures.left) x.planned x.now comes received_reply s w e leaves before law
    account account2 spool spool2 c.in_ok-wait.ensures.went o c.in_ok-gathered.ensures.known x.free arrived (string_bytes c.in_ok-gathered.gathered.lines) x.named.lines_are clock late last shown p.made p.ended p.end c.conclude.result p.is
    (stops_following c.conclude.result stanza d x.draft.later.stanza_is (Some o) x.now ends account s w e spool spool2 late last
    (stops_staged d c.in_ok-gathered.gathered.fetched (Some o) c.in_ok-closed.closed refl c.in_ok-closed.ensures.of late last c.in_ok-closed.ensures.shows (g.D.Disk.state c.wait.new.repo) (g.D.Disk.state c.conclude.new.repo) c.conclude.result c.conclude.ensures.stops) staged)
    (published d c.in_ok-gathered.gathered.fetched (Some o) c.in_ok-closed.closed refl c.in_ok-closed.ensures.of (λ q y es. OnOk c.conclude.result (IsSome w.now → IfSome e.now (AgreeAt (main_of q)))) c.conclude.ensures.alike)

pub returns-in-Err-clause-cause : goal.returns-in-Err-clause-cause
returns-in-Err-clause-cause g c =
    let o = c.args.task.order.later in
    let used = take o.take.workers (map g.L.Link.link_state c.args.pool.now.links.items) in
    let now = (g.D.Disk.state c.args.repo.now).view.now in
    let least = (g.C.Clock.state c.args.clock.now).least in
    let turns = (g.A.OtherProcesses.state c.args.processes.now).turns in
    let pending = (g.V.ServerConnection.state c.args.server.now).pending in
    let x = asked c.args.task.stanza.name.now c.args.task.stanza.control.now o.kind now (g.T.DataFolder.state c.args.tree.now).nodes least used pending pending c.args.task.order.archive_timeout turns turns (g.D.Disk.state c.prepare.new.repo).view.now in
    let repo = Rises (g.D.Disk.state c.args.repo.now).faults (g.D.Disk.state c.prepare.new.repo).faults in
    let spool = Rises (g.S.Disk.state c.args.spool.now).faults (g.S.Disk.state c.args.spool.now).faults in
    let tree = Rises (g.T.DataFolder.state c.args.tree.now).faults (g.T.DataFolder.state c.args.tree.now).faults in
    let server = Rises (g.V.ServerConnection.state c.args.server.now).faults (g.V.ServerConnection.state c.args.server.now).faults in
    let clock = Rises (g.C.Clock.state c.args.clock.now).faults (g.C.Clock.state c.prepare.new.clock).faults in
    subst (HaltCause (OnlineCause x) (All repo spool tree server clock)) (sym c.of_offline.ensures)
    (of_offline_as (PrepareCause c.args.task.stanza.name.now o.kind c.args.task.stanza.control.now (archive_info_of c.args.task.stanza.archive.now) (backup_info_of c.args.task.stanza.backup) now least used) (OnlineCause x) (All repo ⊥ ⊥ ⊥ clock) (All repo spool tree server clock)
    (prepare_takes x o refl c.args.task.stanza.archive.now c.args.task.stanza.backup c.requires.archive c.requires.backup)
    (in_all repo ⊥ ⊥ ⊥ clock repo spool tree server clock (λ h. h) (λ h. absurd h) (λ h. absurd h) (λ h. absurd h) (λ h. h)) c.in-Err.halt c.in-Err.ensures.cause)

pub returns-in_err-gathered-clause-cause : goal.returns-in_err-gathered-clause-cause
returns-in_err-gathered-clause-cause g c =
    let used = take c.args.task.order.later.take.workers (map g.L.Link.link_state c.args.pool.now.links.items) in
    let nodes = (g.T.DataFolder.state c.args.tree.now).nodes in
    let turns = (g.A.OtherProcesses.state c.args.processes.now).turns in
    let now = map g.L.Link.link_state c.prepare.new.pool.links.items in
    let list = backup_info_of c.in-Ok.prepared.next.list in
    let files = map file_entry_of c.files_of-old.result.now in
    let lost = c.prepare.new.pool.lost.items in
    let few : length c.args.pool.now.links.items < 2 ^ 32 = omega (arith, c.requires.few, c.args.pool.now.links.ok) in
    let count = used_few g.L.Link.link_state c.args.task.order.later.take.workers (2 ^ 32) c.args.pool.now.links.items few in
    let x = asked c.args.task.stanza.name.now c.args.task.stanza.control.now c.args.task.order.later.kind (g.D.Disk.state c.args.repo.now).view.now nodes (g.C.Clock.state c.args.clock.now).least used (g.V.ServerConnection.state c.args.server.now).pending (g.V.ServerConnection.state c.talk.new.server).pending c.args.task.order.archive_timeout turns turns (g.D.Disk.state c.talk.new.repo).view.now in
    let first = Rises (g.D.Disk.state c.prepare.new.repo).faults (g.D.Disk.state c.talk.new.repo).faults in
    let repo = Rises (g.D.Disk.state c.args.repo.now).faults (g.D.Disk.state c.talk.new.repo).faults in
    let spool = Rises (g.S.Disk.state c.args.spool.now).faults (g.S.Disk.state c.args.spool.now).faults in
    let tree = Rises (g.T.DataFolder.state c.args.tree.now).faults (g.T.DataFolder.state c.talk.new.tree).faults in
    let server = Rises (g.V.ServerConnection.state c.args.server.now).faults (g.V.ServerConnection.state c.talk.new.server).faults in
    let clock = Rises (g.C.Clock.state c.args.clock.now).faults (g.C.Clock.state c.talk.new.clock).faults in
    let then = Rises (g.C.Clock.state c.prepare.new.clock).faults (g.C.Clock.state c.talk.new.clock).faults in
    ends_with (HaltCause (OnlineCause x) (All repo spool tree server clock)) c.from_residual.result c.in_err-gathered.field-0.0 c.from_residual.ensures.1
    (halt_as (SpokenCause c.args.task.stanza.name.now c.args.task.order.later nodes list files now lost c.args.task.stanza.control.now.system (g.V.ServerConnection.state c.args.server.now).pending (g.V.ServerConnection.state c.talk.new.server).pending) (OnlineCause x) (All first ⊥ tree server then) (All repo spool tree server clock)
    (spoken_takes x c.args.task.order.later refl c.args.task.stanza.archive.now c.args.task.stanza.backup c.requires.archive c.requires.backup list c.in-Ok.ensures.settled files now lost c.in-Ok.ensures.left count)
    (in_all first ⊥ tree server then repo spool tree server clock (rises_from (g.D.Disk.state c.args.repo.now).faults (g.D.Disk.state c.prepare.new.repo).faults (g.D.Disk.state c.talk.new.repo).faults c.prepare.ensures.looks.later) (λ h. absurd h) (λ h. h) (λ h. h)
    (rises_from (g.C.Clock.state c.args.clock.now).faults (g.C.Clock.state c.prepare.new.clock).faults (g.C.Clock.state c.talk.new.clock).faults c.prepare.ensures.later)) c.in_err-gathered.field-0.0 c.in_err-gathered.ensures.cause)

pub returns-in_err-wait-clause-cause : goal.returns-in_err-wait-clause-cause
returns-in_err-wait-clause-cause g c =
    let used = take c.args.task.order.later.take.workers (map g.L.Link.link_state c.args.pool.now.links.items) in
    let nodes = (g.T.DataFolder.state c.args.tree.now).nodes in
    let turns = (g.A.OtherProcesses.state c.args.processes.now).turns in
    let now = map g.L.Link.link_state c.prepare.new.pool.links.items in
    let list = backup_info_of c.in-Ok.prepared.next.list in
    let files = map file_entry_of c.files_of-old.result.now in
    let lost = c.prepare.new.pool.lost.items in
    let few : length c.args.pool.now.links.items < 2 ^ 32 = omega (arith, c.requires.few, c.args.pool.now.links.ok) in
    let count = used_few g.L.Link.link_state c.args.task.order.later.take.workers (2 ^ 32) c.args.pool.now.links.items few in
    let x = asked c.args.task.stanza.name.now c.args.task.stanza.control.now c.args.task.order.later.kind (g.D.Disk.state c.args.repo.now).view.now nodes (g.C.Clock.state c.args.clock.now).least used (g.V.ServerConnection.state c.args.server.now).pending (g.V.ServerConnection.state c.talk.new.server).pending c.args.task.order.archive_timeout turns (g.A.OtherProcesses.state c.wait.new.others).turns (g.D.Disk.state c.wait.new.repo).view.now in
    let y = c.in_ok-gathered.ensures.gathered in
    let d = fetched_draft c.in_ok-gathered.gathered.fetched in
    let o = online_of c.in_ok-gathered.online in
    let id = c.in_ok-gathered.gathered.id in
    let first = Rises (g.D.Disk.state c.end_backup.new.repo).faults (g.D.Disk.state c.wait.new.repo).faults in
    let repo = Rises (g.D.Disk.state c.args.repo.now).faults (g.D.Disk.state c.wait.new.repo).faults in
    let spool = Rises (g.S.Disk.state c.args.spool.now).faults (g.S.Disk.state c.wait.new.spool).faults in
    let tree = Rises (g.T.DataFolder.state c.args.tree.now).faults (g.T.DataFolder.state c.talk.new.tree).faults in
    let server = Rises (g.V.ServerConnection.state c.args.server.now).faults (g.V.ServerConnection.state c.talk.new.server).faults in
    let clock = Rises (g.C.Clock.state c.args.clock.now).faults (g.C.Clock.state c.end_backup.new.clock).faults in
    ends_with (HaltCause (OnlineCause x) (All repo spool tree server clock)) c.from_residual-in_err-wait.result c.in_err-wait.field-0.0 c.from_residual-in_err-wait.ensures.1
    (halt_as (VainCause c.args.task.stanza.name.now id o.part x.most x.now x.turns x.turned) (OnlineCause x) (All first spool ⊥ ⊥ ⊥) (All repo spool tree server clock)
    (vain_takes x c.args.task.order.later refl c.args.task.stanza.archive.now c.args.task.stanza.backup c.requires.archive c.requires.backup list c.in-Ok.ensures.settled files now lost c.in-Ok.ensures.left count d y.draft o c.in_ok-gathered.ensures.known id y.named.id_is o.part refl)
    (in_all first spool ⊥ ⊥ ⊥ repo spool tree server clock (rises_from (g.D.Disk.state c.args.repo.now).faults (g.D.Disk.state c.end_backup.new.repo).faults (g.D.Disk.state c.wait.new.repo).faults (omega (arith, c.prepare.ensures.looks.later, c.talk.ensures.frame.later, c.end_backup.ensures.frame.later))) (λ h. h) (λ h. absurd h) (λ h. absurd h) (λ h. absurd h))
    c.in_err-wait.field-0.0 c.in_err-wait.ensures.cause)

pub returns-clause-cause : goal.returns-clause-cause
returns-clause-cause g c =
    let used = take c.args.task.order.later.take.workers (map g.L.Link.link_state c.args.pool.now.links.items) in
    let nodes = (g.T.DataFolder.state c.args.tree.now).nodes in
    let turns = (g.A.OtherProcesses.state c.args.processes.now).turns in
    let now = map g.L.Link.link_state c.prepare.new.pool.links.items in
    let list = backup_info_of c.in-Ok.prepared.next.list in
    let files = map file_entry_of c.files_of-old.result.now in
    let lost = c.prepare.new.pool.lost.items in
    let few : length c.args.pool.now.links.items < 2 ^ 32 = omega (arith, c.requires.few, c.args.pool.now.links.ok) in
    let count = used_few g.L.Link.link_state c.args.task.order.later.take.workers (2 ^ 32) c.args.pool.now.links.items few in
    let x = asked c.args.task.stanza.name.now c.args.task.stanza.control.now c.args.task.order.later.kind (g.D.Disk.state c.args.repo.now).view.now nodes (g.C.Clock.state c.args.clock.now).least used (g.V.ServerConnection.state c.args.server.now).pending (g.V.ServerConnection.state c.talk.new.server).pending c.args.task.order.archive_timeout turns (g.A.OtherProcesses.state c.wait.new.others).turns (g.D.Disk.state c.conclude.new.repo).view.now in
    let y = c.in_ok-gathered.ensures.gathered in
    let f = c.in_ok-gathered.gathered.fetched in
    let d = fetched_draft f in
    let ends = fetched_ends f in
    let o = online_of c.in_ok-gathered.online in
    let first = Rises (g.D.Disk.state c.wait.new.repo).faults (g.D.Disk.state c.conclude.new.repo).faults in
    let repo = Rises (g.D.Disk.state c.args.repo.now).faults (g.D.Disk.state c.conclude.new.repo).faults in
    let spool = Rises (g.S.Disk.state c.args.spool.now).faults (g.S.Disk.state c.wait.new.spool).faults in
    let tree = Rises (g.T.DataFolder.state c.args.tree.now).faults (g.T.DataFolder.state c.talk.new.tree).faults in
    let server = Rises (g.V.ServerConnection.state c.args.server.now).faults (g.V.ServerConnection.state c.talk.new.server).faults in
    let clock = Rises (g.C.Clock.state c.args.clock.now).faults (g.C.Clock.state c.end_backup.new.clock).faults in
    err_as (HaltCause (OfTake (PublishCause d (Some o) ends)) (All first ⊥ ⊥ ⊥ ⊥)) (HaltCause (OnlineCause x) (All repo spool tree server clock)) c.conclude.result
    (halt_as (OfTake (PublishCause d (Some o) ends)) (OnlineCause x) (All first ⊥ ⊥ ⊥ ⊥) (All repo spool tree server clock)
    (publish_takes x c.args.task.order.later refl c.args.task.stanza.archive.now c.args.task.stanza.backup c.requires.archive c.requires.backup list c.in-Ok.ensures.settled files now lost c.in-Ok.ensures.left count d y.draft o c.in_ok-gathered.ensures.known y.now y.lost y.left ends (g.D.Disk.state c.talk.new.repo).view y.staged)
    (in_all first ⊥ ⊥ ⊥ ⊥ repo spool tree server clock (rises_from (g.D.Disk.state c.args.repo.now).faults (g.D.Disk.state c.wait.new.repo).faults (g.D.Disk.state c.conclude.new.repo).faults (omega (arith, c.prepare.ensures.looks.later, c.talk.ensures.frame.later, c.end_backup.ensures.frame.later, c.wait.ensures.repo_frame.later))) (λ h. absurd h) (λ h. absurd h) (λ h. absurd h) (λ h. absurd h)))
    (published d f (Some o) c.in_ok-closed.closed refl c.in_ok-closed.ensures.of (λ q z es. IfErr c.conclude.result (HaltCause (OfTake (PublishCause q z es)) (All first ⊥ ⊥ ⊥ ⊥))) c.conclude.ensures.cause)

pub returns-in_err-gathered-clause-beside : goal.returns-in_err-gathered-clause-beside
returns-in_err-gathered-clause-beside g c =
    let stanza = c.args.task.stanza.name.now in
    let a = (g.D.Disk.state c.args.repo.now).view in
    let b = (g.D.Disk.state c.prepare.new.repo).view in
    let looks = c.prepare.ensures.looks in
    by_account (g.A.OtherProcesses.state c.args.processes.now).account (λ (k : Account). k.stanza ≡ stanza → StaysBeside stanza a (g.D.Disk.state c.talk.new.repo).view) (λ k at of. beside_on stanza a b (g.D.Disk.state c.talk.new.repo).view (rests_beside stanza a b looks.time looks.now) c.talk.ensures.beside)

pub returns-in_err-closed-clause-beside : goal.returns-in_err-closed-clause-beside
returns-in_err-closed-clause-beside g c =
    let stanza = c.args.task.stanza.name.now in
    let a = (g.D.Disk.state c.args.repo.now).view in
    let b = (g.D.Disk.state c.prepare.new.repo).view in
    let looks = c.prepare.ensures.looks in
    let t = (g.D.Disk.state c.talk.new.repo).view in
    let s = (g.D.Disk.state c.end_backup.new.repo).view in
    let x = c.in_ok-gathered.ensures.gathered in
    let d = fetched_draft c.in_ok-gathered.gathered.fetched in
    by_account (g.A.OtherProcesses.state c.args.processes.now).account (λ (k : Account). k.stanza ≡ stanza → StaysBeside stanza a s) (λ k at of. staged_beside stanza a b t s looks.time looks.now c.talk.ensures.beside d x.draft.later.stanza_is c.end_backup.ensures.beside)

pub returns-in_err-wait-clause-beside : goal.returns-in_err-wait-clause-beside
returns-in_err-wait-clause-beside g c =
    let stanza = c.args.task.stanza.name.now in
    let a = (g.D.Disk.state c.args.repo.now).view in
    let b = (g.D.Disk.state c.prepare.new.repo).view in
    let looks = c.prepare.ensures.looks in
    let t = (g.D.Disk.state c.talk.new.repo).view in
    let s = (g.D.Disk.state c.end_backup.new.repo).view in
    let x = c.in_ok-gathered.ensures.gathered in
    let d = fetched_draft c.in_ok-gathered.gathered.fetched in
    waited_beside stanza a b t s looks.time looks.now c.talk.ensures.beside d x.draft.later.stanza_is c.end_backup.ensures.beside false (g.A.OtherProcesses.state c.args.processes.now).account (g.A.OtherProcesses.state c.wait.new.others).account (g.D.Disk.state c.wait.new.repo).view (g.S.Disk.state c.args.spool.now).view (g.S.Disk.state c.wait.new.spool).view c.in_err-wait.ensures.went

pub returns-clause-beside : goal.returns-clause-beside
returns-clause-beside g c =
    let stanza = c.args.task.stanza.name.now in
    let a = (g.D.Disk.state c.args.repo.now).view in
    let b = (g.D.Disk.state c.prepare.new.repo).view in
    let looks = c.prepare.ensures.looks in
    let t = (g.D.Disk.state c.talk.new.repo).view in
    let s = (g.D.Disk.state c.end_backup.new.repo).view in
    let x = c.in_ok-gathered.ensures.gathered in
    let d = fetched_draft c.in_ok-gathered.gathered.fetched in
    listed_beside stanza a b t s looks.time looks.now c.talk.ensures.beside d x.draft.later.stanza_is c.end_backup.ensures.beside true (g.A.OtherProcesses.state c.args.processes.now).account (g.A.OtherProcesses.state c.wait.new.others).account (g.D.Disk.state c.wait.new.repo).view (g.S.Disk.state c.args.spool.now).view (g.S.Disk.state c.wait.new.spool).view c.in_ok-wait.ensures.went
    (g.D.Disk.state c.conclude.new.repo).view (closed_draft c.in_ok-closed.closed) c.in_ok-closed.ensures.of.draft_is c.conclude.ensures.beside

pub returns-in_err-closed-clause-ended : goal.returns-in_err-closed-clause-ended
returns-in_err-closed-clause-ended g c = ended_before _ _ _ (starting c.args.task.order.user.now c.args.task.order.database.now c.args.task.order.fast) (g.V.ServerConnection.state c.args.server.now).sent (g.V.ServerConnection.state c.talk.new.server).sent c.in_ok-gathered.ensures.sent

pub returns-in_err-wait-clause-ended : goal.returns-in_err-wait-clause-ended
returns-in_err-wait-clause-ended g c = ended_before _ _ _ (starting c.args.task.order.user.now c.args.task.order.database.now c.args.task.order.fast) (g.V.ServerConnection.state c.args.server.now).sent (g.V.ServerConnection.state c.talk.new.server).sent c.in_ok-gathered.ensures.sent

pub returns-clause-ended : goal.returns-clause-ended
returns-clause-ended g c = ended_before _ _ _ (starting c.args.task.order.user.now c.args.task.order.database.now c.args.task.order.fast) (g.V.ServerConnection.state c.args.server.now).sent (g.V.ServerConnection.state c.talk.new.server).sent c.in_ok-gathered.ensures.sent

-- ---- the spool

pub returns-in-Err-clause-marks : goal.returns-in-Err-clause-marks
returns-in-Err-clause-marks g c =
    let account = (g.A.OtherProcesses.state c.args.processes.now).account in
    still_marks c.args.task.stanza.name.now _ account account refl (g.D.Disk.state c.args.repo.now).view (g.S.Disk.state c.args.spool.now).view

pub returns-in_err-gathered-clause-marks : goal.returns-in_err-gathered-clause-marks
returns-in_err-gathered-clause-marks g c =
    let account = (g.A.OtherProcesses.state c.args.processes.now).account in
    still_marks c.args.task.stanza.name.now _ account account refl (g.D.Disk.state c.args.repo.now).view (g.S.Disk.state c.args.spool.now).view

pub returns-in_err-closed-clause-marks : goal.returns-in_err-closed-clause-marks
returns-in_err-closed-clause-marks g c =
    let account = (g.A.OtherProcesses.state c.args.processes.now).account in
    still_marks c.args.task.stanza.name.now _ account account refl (g.D.Disk.state c.args.repo.now).view (g.S.Disk.state c.args.spool.now).view

pub returns-in_err-wait-clause-marks : goal.returns-in_err-wait-clause-marks
returns-in_err-wait-clause-marks g c =
    waited_receipts c.args.task c.in-Ok.prepared (g.D.Disk.state c.args.repo.now) (g.D.Disk.state c.prepare.new.repo) c.prepare.ensures.looks c.requires.archive c.requires.backup c.in-Ok.ensures.settled c.in-Ok.ensures.base
    (map file_entry_of c.files_of-old.result.now) c.files_of-old.ensures _ (fetched_draft c.in_ok-gathered.gathered.fetched) c.in_ok-gathered.ensures.gathered.draft (g.met.D.Disk.now_may_be_left c.prepare.new.repo)
    (g.D.Disk.state c.talk.new.repo).view (g.D.Disk.state c.end_backup.new.repo).view (g.D.Disk.state c.wait.new.repo).view c.in_ok-gathered.ensures.gathered.unlisted c.end_backup.ensures.unlisted
    false (g.A.OtherProcesses.state c.args.processes.now).account (g.A.OtherProcesses.state c.wait.new.others).account (g.S.Disk.state c.args.spool.now).view (g.S.Disk.state c.wait.new.spool).view _
    (λ at. absurd (not_end c.from_residual-in_err-wait.result c.in_err-wait.field-0.0 c.from_residual-in_err-wait.ensures.1 at)) c.in_err-wait.ensures.went

pub returns-clause-marks : goal.returns-clause-marks
returns-clause-marks g c =
    waited_receipts c.args.task c.in-Ok.prepared (g.D.Disk.state c.args.repo.now) (g.D.Disk.state c.prepare.new.repo) c.prepare.ensures.looks c.requires.archive c.requires.backup c.in-Ok.ensures.settled c.in-Ok.ensures.base
    (map file_entry_of c.files_of-old.result.now) c.files_of-old.ensures _ (fetched_draft c.in_ok-gathered.gathered.fetched) c.in_ok-gathered.ensures.gathered.draft (g.met.D.Disk.now_may_be_left c.prepare.new.repo)
    (g.D.Disk.state c.talk.new.repo).view (g.D.Disk.state c.end_backup.new.repo).view (g.D.Disk.state c.wait.new.repo).view c.in_ok-gathered.ensures.gathered.unlisted c.end_backup.ensures.unlisted
    true (g.A.OtherProcesses.state c.args.processes.now).account (g.A.OtherProcesses.state c.wait.new.others).account (g.S.Disk.state c.args.spool.now).view (g.S.Disk.state c.wait.new.spool).view _
    (λ at. refl) c.in_ok-wait.ensures.went

pub returns-in-Err-clause-spool_beside : goal.returns-in-Err-clause-spool_beside
returns-in-Err-clause-spool_beside g c = spool_still c.args.task.stanza.name.now (g.A.OtherProcesses.state c.args.processes.now).account (g.S.Disk.state c.args.spool.now).view

pub returns-in_err-gathered-clause-spool_beside : goal.returns-in_err-gathered-clause-spool_beside
returns-in_err-gathered-clause-spool_beside g c = spool_still c.args.task.stanza.name.now (g.A.OtherProcesses.state c.args.processes.now).account (g.S.Disk.state c.args.spool.now).view

pub returns-in_err-closed-clause-spool_beside : goal.returns-in_err-closed-clause-spool_beside
returns-in_err-closed-clause-spool_beside g c = spool_still c.args.task.stanza.name.now (g.A.OtherProcesses.state c.args.processes.now).account (g.S.Disk.state c.args.spool.now).view

pub returns-in_err-wait-clause-spool_beside : goal.returns-in_err-wait-clause-spool_beside
returns-in_err-wait-clause-spool_beside g c = spool_waited c.args.task.stanza.name.now false (g.A.OtherProcesses.state c.args.processes.now).account (g.A.OtherProcesses.state c.wait.new.others).account
    (g.D.Disk.state c.end_backup.new.repo).view (g.D.Disk.state c.wait.new.repo).view (g.S.Disk.state c.args.spool.now).view (g.S.Disk.state c.wait.new.spool).view c.in_err-wait.ensures.went

pub returns-clause-spool_beside : goal.returns-clause-spool_beside
returns-clause-spool_beside g c = spool_waited c.args.task.stanza.name.now true (g.A.OtherProcesses.state c.args.processes.now).account (g.A.OtherProcesses.state c.wait.new.others).account
    (g.D.Disk.state c.end_backup.new.repo).view (g.D.Disk.state c.wait.new.repo).view (g.S.Disk.state c.args.spool.now).view (g.S.Disk.state c.wait.new.spool).view c.in_ok-wait.ensures.went

-- ---- the talk

pub returns-in-Err-clause-ended : goal.returns-in-Err-clause-ended
returns-in-Err-clause-ended g c = inl (refl, (c.in-Err.halt, c.of_offline.ensures))

-- ---- what it is based on

pub talk-requires-clause-old : goal.talk-requires-clause-old
talk-requires-clause-old g c =
    let base = base_in c.args.task.order.later.kind (backup_info_of c.in-Ok.prepared.next.list) in
    subst (λ (es : List FileEntry). MayBase base es) (sym c.files_of-old.ensures) (may_base c.args.task.stanza.name.now (g.D.Disk.state c.args.repo.now).view.now base (option_map manifest_of c.in-Ok.prepared.base) c.in-Ok.ensures.base)

-- ---- what is touched

pub returns-in-Err-clause-only : goal.returns-in-Err-clause-only
returns-in-Err-clause-only g c =
    let stanza = c.args.task.stanza.name.now in
    let a = (g.D.Disk.state c.args.repo.now).view in
    let looks = c.prepare.ensures.looks in
    by_account (g.A.OtherProcesses.state c.args.processes.now).account (λ (k : Account). k.stanza ≡ stanza → TouchesOneOf stanza (IsOfRunning stanza) a (g.D.Disk.state c.prepare.new.repo).view) (λ k at of. inl (record { now = looks.now; time = looks.time }))

pub returns-in_err-gathered-clause-only : goal.returns-in_err-gathered-clause-only
returns-in_err-gathered-clause-only g c =
    talked_names c.args.task c.in-Ok.prepared (g.D.Disk.state c.args.repo.now) (g.D.Disk.state c.prepare.new.repo) c.prepare.ensures.looks c.requires.archive c.requires.backup c.in-Ok.ensures.settled c.in-Ok.ensures.base
    c.in-Ok.ensures.valid c.in-Ok.ensures.next (g.D.Disk.state c.talk.new.repo).view c.talk.ensures.only (g.A.OtherProcesses.state c.args.processes.now).account

pub returns-in_err-closed-clause-only : goal.returns-in_err-closed-clause-only
returns-in_err-closed-clause-only g c =
    closed_names c.args.task c.in-Ok.prepared (g.D.Disk.state c.args.repo.now) (g.D.Disk.state c.prepare.new.repo) c.prepare.ensures.looks c.requires.archive c.requires.backup c.in-Ok.ensures.settled c.in-Ok.ensures.base
    c.in-Ok.ensures.valid c.in-Ok.ensures.next (g.D.Disk.state c.talk.new.repo).view c.talk.ensures.only
    _ _ (fetched_draft c.in_ok-gathered.gathered.fetched) c.in_ok-gathered.ensures.gathered.draft c.in_ok-gathered.ensures.begins (g.D.Disk.state c.end_backup.new.repo).view c.end_backup.ensures.only (g.A.OtherProcesses.state c.args.processes.now).account

pub returns-in_err-wait-clause-only : goal.returns-in_err-wait-clause-only
returns-in_err-wait-clause-only g c =
    waited_names c.args.task c.in-Ok.prepared (g.D.Disk.state c.args.repo.now) (g.D.Disk.state c.prepare.new.repo) c.prepare.ensures.looks c.requires.archive c.requires.backup c.in-Ok.ensures.settled c.in-Ok.ensures.base
    c.in-Ok.ensures.valid c.in-Ok.ensures.next (g.D.Disk.state c.talk.new.repo).view c.talk.ensures.only
    _ _ (fetched_draft c.in_ok-gathered.gathered.fetched) c.in_ok-gathered.ensures.gathered.draft c.in_ok-gathered.ensures.begins (g.D.Disk.state c.end_backup.new.repo).view c.end_backup.ensures.only
    false (g.A.OtherProcesses.state c.args.processes.now).account (g.A.OtherProcesses.state c.wait.new.others).account (g.D.Disk.state c.wait.new.repo).view (g.S.Disk.state c.args.spool.now).view (g.S.Disk.state c.wait.new.spool).view c.in_err-wait.ensures.went

pub returns-clause-only : goal.returns-clause-only
returns-clause-only g c =
    listed_names c.args.task c.in-Ok.prepared (g.D.Disk.state c.args.repo.now) (g.D.Disk.state c.prepare.new.repo) c.prepare.ensures.looks c.requires.archive c.requires.backup c.in-Ok.ensures.settled c.in-Ok.ensures.base
    c.in-Ok.ensures.valid c.in-Ok.ensures.next (g.D.Disk.state c.talk.new.repo).view c.talk.ensures.only
    _ _ (fetched_draft c.in_ok-gathered.gathered.fetched) c.in_ok-gathered.ensures.gathered.draft c.in_ok-gathered.ensures.begins (g.D.Disk.state c.end_backup.new.repo).view c.end_backup.ensures.only
    true (g.A.OtherProcesses.state c.args.processes.now).account (g.A.OtherProcesses.state c.wait.new.others).account (g.D.Disk.state c.wait.new.repo).view (g.S.Disk.state c.args.spool.now).view (g.S.Disk.state c.wait.new.spool).view c.in_ok-wait.ensures.went
    (g.D.Disk.state c.conclude.new.repo).view (closed_draft c.in_ok-closed.closed) c.in_ok-closed.ensures.of.draft_is c.conclude.ensures.only
