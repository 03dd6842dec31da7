use Rattle.std.proofs.Common.{rules, [], refl, true, false}
use Rattle.std.specs.Prelude.{map, string_bytes}
use Rattle.base_devices.specs.Cause.{Rises}
use Rattle.base_disk.proofs.Changes.{only_none}
use Rattle.archive_spool.proofs.Marked.{marks_still}
use Rattle.cmd_archive_push_wait.proofs.Ended.{first_look}
use Rattle.cmd_archive_push_wait.proofs.Commanded.{besides_of, halt_open, left, missed, stored_of, takes_of}
use Rattle.cmd_archive_push_wait.proofs.background_push.queue_push.Goals as goal

pub returns-in-Err-clause-takes : goal.returns-in-Err-clause-takes
returns-in-Err-clause-takes g c =
    takes_of c.args.stanza.now (g.A.OtherProcesses.state c.args.processes.now).account false (g.D.Disk.state c.args.repo.now).view (g.D.Disk.state c.args.repo.now).view
    (g.S.Disk.state c.args.spool.now).view (g.S.Disk.state c.args.spool.now).view _ (λ is. absurd (halt_open c.in-Err.halt is)) (g.A.OtherProcesses.state c.args.processes.now).account
    (first_look c.args.stanza.now c.args.order.now.name [] (search rules) (g.A.OtherProcesses.state c.args.processes.now).account (g.D.Disk.state c.args.repo.now).view
    (g.S.Disk.state c.args.spool.now).view (g.S.Disk.state c.args.spool.now).view
    (record { law = g.met.S.Disk.now_may_be_left c.args.spool.now; new_law = g.met.S.Disk.now_may_be_left c.args.spool.now; known = λ some. some; marks = marks_still c.args.stanza.now [] _; only = only_none _ _ })
    false)

pub returns-in-Err-clause-beside : goal.returns-in-Err-clause-beside
returns-in-Err-clause-beside g c =
    besides_of c.args.stanza.now (g.A.OtherProcesses.state c.args.processes.now).account false (g.D.Disk.state c.args.repo.now).view (g.D.Disk.state c.args.repo.now).view
    (g.S.Disk.state c.args.spool.now).view (g.S.Disk.state c.args.spool.now).view (g.A.OtherProcesses.state c.args.processes.now).account
    (first_look c.args.stanza.now c.args.order.now.name [] (search rules) (g.A.OtherProcesses.state c.args.processes.now).account (g.D.Disk.state c.args.repo.now).view
    (g.S.Disk.state c.args.spool.now).view (g.S.Disk.state c.args.spool.now).view
    (record { law = g.met.S.Disk.now_may_be_left c.args.spool.now; new_law = g.met.S.Disk.now_may_be_left c.args.spool.now; known = λ some. some; marks = marks_still c.args.stanza.now [] _; only = only_none _ _ })
    false)

pub returns-in-Err-clause-cause : goal.returns-in-Err-clause-cause
returns-in-Err-clause-cause g c =
    missed c.args.order.now.path.now (g.T.DataFolder.state c.args.tree.now).nodes c.args.order.now.name
    (λ sum. record {
      stanza = c.args.stanza.now;
      name = c.args.order.now.name;
      sum = sum;
      arguments = map string_bytes c.args.arguments.now;
      most = c.args.turns;
      others = g.A.OtherProcesses.state c.args.processes.now;
      new_others = g.A.OtherProcesses.state c.args.processes.now;
      repo = (g.D.Disk.state c.args.repo.now).view;
      new_repo = (g.D.Disk.state c.args.repo.now).view;
      spool = (g.S.Disk.state c.args.spool.now).view;
      new_spool = (g.S.Disk.state c.args.spool.now).view;
    })
    (Rises (g.D.Disk.state c.args.repo.now).faults (g.D.Disk.state c.args.repo.now).faults)
    (Rises (g.S.Disk.state c.args.spool.now).faults (g.S.Disk.state c.args.spool.now).faults)
    (Rises (g.T.DataFolder.state c.args.tree.now).faults (g.T.DataFolder.state c.sum_file.new.tree).faults)
    (Rises (g.A.OtherProcesses.state c.args.processes.now).faults (g.A.OtherProcesses.state c.args.processes.now).faults)
    c.in-Err.halt c.in-Err.ensures.cause

pub returns-in-Ok-queue_file-clause-stored : goal.returns-in-Ok-queue_file-clause-stored
returns-in-Ok-queue_file-clause-stored g c = (
  search rules,
  stored_of c.args.stanza.now c.args.order.now.name _ _ _ _ _ _ _ c.in-Ok.ensures.sum c.in-Ok-queue_file.ensures.stored,
)

pub returns-in-Ok-queue_file-clause-takes : goal.returns-in-Ok-queue_file-clause-takes
returns-in-Ok-queue_file-clause-takes g c = takes_of c.args.stanza.now _ true _ _ _ _ _ (λ is. refl) _ c.in-Ok-queue_file.ensures.went

pub returns-in-Ok-queue_file-clause-beside : goal.returns-in-Ok-queue_file-clause-beside
returns-in-Ok-queue_file-clause-beside g c = besides_of c.args.stanza.now _ true _ _ _ _ _ c.in-Ok-queue_file.ensures.went

pub returns-in-Err-queue_file-clause-takes : goal.returns-in-Err-queue_file-clause-takes
returns-in-Err-queue_file-clause-takes g c = takes_of c.args.stanza.now _ false _ _ _ _ _ (λ is. absurd (halt_open c.in-Err-queue_file.halt is)) _ c.in-Err-queue_file.ensures.went

pub returns-in-Err-queue_file-clause-beside : goal.returns-in-Err-queue_file-clause-beside
returns-in-Err-queue_file-clause-beside g c = besides_of c.args.stanza.now _ false _ _ _ _ _ c.in-Err-queue_file.ensures.went

pub returns-in-Err-queue_file-clause-cause : goal.returns-in-Err-queue_file-clause-cause
returns-in-Err-queue_file-clause-cause g c =
    left c.args.order.now.path.now (g.T.DataFolder.state c.args.tree.now).nodes c.args.order.now.name
    (λ sum. record {
      stanza = c.args.stanza.now;
      name = c.args.order.now.name;
      sum = sum;
      arguments = map string_bytes c.args.arguments.now;
      most = c.args.turns;
      others = g.A.OtherProcesses.state c.args.processes.now;
      new_others = g.A.OtherProcesses.state c.queue_file.new.processes;
      repo = (g.D.Disk.state c.args.repo.now).view;
      new_repo = (g.D.Disk.state c.queue_file.new.repo).view;
      spool = (g.S.Disk.state c.args.spool.now).view;
      new_spool = (g.S.Disk.state c.queue_file.new.spool).view;
    })
    (Rises (g.D.Disk.state c.args.repo.now).faults (g.D.Disk.state c.queue_file.new.repo).faults)
    (Rises (g.S.Disk.state c.args.spool.now).faults (g.S.Disk.state c.queue_file.new.spool).faults)
    (Rises (g.T.DataFolder.state c.args.tree.now).faults (g.T.DataFolder.state c.sum_file.new.tree).faults)
    (Rises (g.A.OtherProcesses.state c.args.processes.now).faults (g.A.OtherProcesses.state c.queue_file.new.processes).faults)
    _ c.in-Ok.ensures.sum c.in-Err-queue_file.halt c.in-Err-queue_file.ensures.cause
