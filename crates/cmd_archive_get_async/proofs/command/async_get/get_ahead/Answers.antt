use Rattle.std.proofs.Common.{map, [], Option, Some, sym, subst}
use Rattle.std.specs.Prelude.{IfSome, string_bytes}
use Rattle.base_devices.specs.Cause.{Rises}
use Rattle.base_devices.specs.Content.{Content}
use Rattle.base_model.specs.declared.wal.ArchiveName.{ArchiveName}
use Rattle.base_crash_lists.proofs.Stays.{beside_on, rests_beside}
use Rattle.archive_spool.proofs.Marked.{marks_none, marks_on}
use Rattle.archive_lookup.specs.declared.stored.files.Stored.{Stored}
use Rattle.cmd_types.specs.declared.stages.outcome.Outcome.TheVariants.{Finished}
use Rattle.cmd_archive_get.specs.Getting.{IsServed, served_path}
use Rattle.cmd_archive_get.specs.Looking.{IsKeptAs}
use Rattle.cmd_archive_get.proofs.Folders.{changes_as}
use Rattle.cmd_archive_get_async.specs.Following.{Follows}
use Rattle.cmd_archive_get_async.specs.Getting.{FollowsUp, IsServedBySum, ServedAs}
use Rattle.cmd_archive_get_async.proofs.Followed.{given_on, got_on, lasts_on, other_fails, other_follows}
use Rattle.cmd_archive_get_async.proofs.Summed.{served_summed}
use Rattle.cmd_archive_get_async.proofs.command.async_get.get_ahead.Goals as goal

-- ---- a file that is no whole segment

pub returns-in_default-clause-got : goal.returns-in_default-clause-got
returns-in_default-clause-got g c =
    let o = c.args.order.now in
    got_on c.args.stanza.now o.folder.now o.word.now o.path.now (g.T.DataFolder.state c.args.tree.now).nodes (g.T.DataFolder.state c.get_file.new.tree).nodes c.get_file.result
    (g.D.Disk.state c.args.repo.now).view.now c.get_file.ensures.got

pub returns-in_default-clause-lasts : goal.returns-in_default-clause-lasts
returns-in_default-clause-lasts g c =
    let o = c.args.order.now in
    lasts_on c.args.stanza.now o.folder.now o.word.now o.path.now (g.T.DataFolder.state c.args.tree.now).nodes (g.T.DataFolder.state c.get_file.new.tree).nodes c.get_file.result
    (g.D.Disk.state c.args.repo.now).view (g.D.Disk.state c.get_file.new.repo).view c.get_file.ensures.lasts

pub returns-in_default-clause-given : goal.returns-in_default-clause-given
returns-in_default-clause-given g c =
    let o = c.args.order.now in
    given_on c.args.stanza.now o.folder.now o.word.now o.path.now (g.T.DataFolder.state c.args.tree.now).nodes (g.T.DataFolder.state c.get_file.new.tree).nodes c.get_file.result
    (g.D.Disk.state c.args.repo.now).view.now (g.S.Disk.state c.args.spool.now).view.now c.get_file.ensures.given

pub returns-in_default-clause-changes : goal.returns-in_default-clause-changes
returns-in_default-clause-changes g c =
    let o = c.args.order.now in
    let stanza = c.args.stanza.now in
    let repo = (g.D.Disk.state c.args.repo.now).view.now in
    let nodes = (g.T.DataFolder.state c.args.tree.now).nodes in
    changes_as (served_path o.folder.now o.path.now) (IsServed stanza o.folder.now o.word.now o.path.now repo nodes) (IsServedBySum stanza o.folder.now o.word.now o.path.now repo nodes) nodes _
    (served_summed stanza o.folder.now o.word.now o.path.now repo nodes) c.get_file.ensures.changes

pub returns-in_default-clause-follows : goal.returns-in_default-clause-follows
returns-in_default-clause-follows g c =
    let o = c.args.order.now in
    other_follows c.args.stanza.now o.folder.now o.word.now o.path.now (g.T.DataFolder.state c.args.tree.now).nodes (g.T.DataFolder.state c.get_file.new.tree).nodes c.get_file.result (g.D.Disk.state c.args.repo.now).view.now c.args.known.now o.name
    c.in_default.not-Segment (map string_bytes c.args.arguments.now) (g.S.Disk.state c.args.spool.now).view.now (g.A.OtherProcesses.state c.args.processes.now) c.get_file.ensures.got

pub returns-in_default-clause-cause : goal.returns-in_default-clause-cause
returns-in_default-clause-cause g c =
    let o = c.args.order.now in
    other_fails c.args.stanza.now o.folder.now o.word.now o.path.now (g.T.DataFolder.state c.args.tree.now).nodes (g.T.DataFolder.state c.get_file.new.tree).nodes c.get_file.result (g.D.Disk.state c.args.repo.now).view.now c.args.known.now o.name
    c.in_default.not-Segment (g.S.Disk.state c.args.spool.now).view.now
    (Rises (g.D.Disk.state c.args.repo.now).faults (g.D.Disk.state c.get_file.new.repo).faults) (Rises (g.T.DataFolder.state c.args.tree.now).faults (g.T.DataFolder.state c.get_file.new.tree).faults)
    (Rises (g.S.Disk.state c.args.spool.now).faults (g.S.Disk.state c.args.spool.now).faults) c.get_file.ensures.cause

-- ---- a whole segment

pub returns-in-Ok-clause-lasts : goal.returns-in-Ok-clause-lasts
returns-in-Ok-clause-lasts g c = λ synced some alike f leaves.
    let o = c.args.order.now in
    subst (λ (r : Option Stored). ServedAs c.args.stanza.now o.folder.now o.word.now o.path.now (Some f) (g.T.DataFolder.state c.args.tree.now).nodes (g.T.DataFolder.state c.serve_ahead.new.tree).nodes r) c.in-Ok-Some.field-0-is
    (c.in-Ok-Some.ensures.lasts synced some alike f leaves)

pub returns-in-Ok-clause-marks : goal.returns-in-Ok-clause-marks
returns-in-Ok-clause-marks g c =
    let b = (g.S.Disk.state c.serve_ahead.new.spool).view in
    let d = (g.S.Disk.state c.follow.new.spool).view in
    marks_on c.args.stanza.now [] [] (g.S.Disk.state c.args.spool.now).view b d c.serve_ahead.ensures.marks (marks_none c.args.stanza.now [] b d c.follow.ensures.looks.time)

pub returns-in-Ok-clause-beside : goal.returns-in-Ok-clause-beside
returns-in-Ok-clause-beside g c =
    let b = (g.S.Disk.state c.serve_ahead.new.spool).view in
    let d = (g.S.Disk.state c.follow.new.spool).view in
    beside_on c.args.stanza.now (g.S.Disk.state c.args.spool.now).view b d c.serve_ahead.ensures.beside (rests_beside c.args.stanza.now b d c.follow.ensures.looks.time c.follow.ensures.looks.now)

pub returns-in-Ok-clause-follows : goal.returns-in-Ok-clause-follows
returns-in-Ok-clause-follows g c =
    let stanza = c.args.stanza.now in
    let known = c.args.known.now in
    let repo = (g.D.Disk.state c.args.repo.now).view.now in
    let arguments = map string_bytes c.args.arguments.now in
    let old = g.A.OtherProcesses.state c.args.processes.now in
    let new = g.A.OtherProcesses.state c.follow.new.processes in
    let file = c.in-Ok-Some.stored in
    let kept = subst (λ (n : ArchiveName). IsKeptAs stanza known n file repo) c.in-Segment.is
    (subst (λ (r : Option Stored). IfSome r (λ s. IsKeptAs stanza known c.args.order.now.name s repo)) c.in-Ok-Some.field-0-is c.in-Ok-Some.ensures.kept) in
    let follows = subst (λ (s : Option Content). Follows stanza c.in-Segment.segment file.size arguments s old new (string_bytes c.in-Ok.lines)) (sym c.follow.ensures.looks.now) c.in-Ok.ensures.follows in
    subst (λ (n : ArchiveName). FollowsUp stanza known n repo arguments (g.S.Disk.state c.follow.new.spool).view.now old new (Finished c.in-Ok.lines)) (sym c.in-Segment.is) (file, kept, follows)

pub returns-in-Ok-Some-clause-marks : goal.returns-in-Ok-Some-clause-marks
returns-in-Ok-Some-clause-marks g c =
    let b = (g.S.Disk.state c.serve_ahead.new.spool).view in
    let d = (g.S.Disk.state c.follow.new.spool).view in
    marks_on c.args.stanza.now [] [] (g.S.Disk.state c.args.spool.now).view b d c.serve_ahead.ensures.marks (marks_none c.args.stanza.now [] b d c.follow.ensures.looks.time)

pub returns-in-Ok-Some-clause-beside : goal.returns-in-Ok-Some-clause-beside
returns-in-Ok-Some-clause-beside g c =
    let b = (g.S.Disk.state c.serve_ahead.new.spool).view in
    let d = (g.S.Disk.state c.follow.new.spool).view in
    beside_on c.args.stanza.now (g.S.Disk.state c.args.spool.now).view b d c.serve_ahead.ensures.beside (rests_beside c.args.stanza.now b d c.follow.ensures.looks.time c.follow.ensures.looks.now)

pub returns-in-Ok-from_str-clause-lasts : goal.returns-in-Ok-from_str-clause-lasts
returns-in-Ok-from_str-clause-lasts g c = λ synced some alike f leaves.
    let o = c.args.order.now in (
      c.in-Ok-from_str.ensures.ok,
      subst (λ (r : Option Stored). ServedAs c.args.stanza.now o.folder.now o.word.now o.path.now (Some f) (g.T.DataFolder.state c.args.tree.now).nodes (g.T.DataFolder.state c.serve_ahead.new.tree).nodes r) c.in-Ok-None.field-0-is
          (c.in-Ok-None.ensures.lasts synced some alike f leaves),
    )
