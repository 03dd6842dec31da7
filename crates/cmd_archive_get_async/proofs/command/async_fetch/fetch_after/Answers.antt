use Rattle.std.proofs.Common.{rules, arith, inl, refl}
use Rattle.base_devices.specs.Cause.{Rises}
use Rattle.base_model.specs.declared.wal.ArchiveName.TheVariants.{Segment as Whole}
use Rattle.cmd_archive_get_async.specs.Fetching.{most_ahead, AheadCause}
use Rattle.cmd_archive_get_async.proofs.Halted.{halts_as}
use Rattle.cmd_archive_get_async.proofs.Within.{ahead_marks, ahead_beside}
use Rattle.cmd_archive_get_async.specs.FollowUp.{FollowUpCause}
use Rattle.cmd_archive_get_async.proofs.Fetches.{ahead_after, after_as}
use Rattle.cmd_archive_get_async.proofs.Served.{kept_as}
use Rattle.cmd_archive_get_async.proofs.command.async_fetch.fetch_after.Goals as goal

pub returns-in-Ok-fetch_from-clause-fetched : goal.returns-in-Ok-fetch_from-clause-fetched
returns-in-Ok-fetch_from-clause-fetched g c =
    let stanza = c.args.stanza.now in
    let known = c.args.known.now in
    let segment = c.args.order.now.segment in
    let now = (g.D.Disk.state c.args.repo.now).view.now in
    let mid = (g.D.Disk.state c.find_file.new.repo).view.now in
    let file = c.in-Ok-Some.stored in (
      search rules,
      (
        file,
        kept_as stanza known (Whole segment) now c.in-Ok-Some.field-0 file c.in-Ok-Some.field-0-is (c.in-Ok-Some.ensures.finds now (inl refl) c.requires.pair),
        after_as stanza segment file c.args.queue now mid _ _ c.find_file.ensures.looks.now c.in-Ok-fetch_from.ensures.fetches,
      ),
    )

pub returns-in-Ok-fetch_from-clause-marks : goal.returns-in-Ok-fetch_from-clause-marks
returns-in-Ok-fetch_from-clause-marks g c = ahead_marks c.args.stanza.now _ _ c.fetch_from.ensures.only

pub returns-in-Ok-fetch_from-clause-beside : goal.returns-in-Ok-fetch_from-clause-beside
returns-in-Ok-fetch_from-clause-beside g c = ahead_beside c.args.stanza.now _ _ c.fetch_from.ensures.only

pub returns-clause-marks : goal.returns-clause-marks
returns-clause-marks g c = ahead_marks c.args.stanza.now _ _ c.fetch_from.ensures.only

pub returns-clause-beside : goal.returns-clause-beside
returns-clause-beside g c = ahead_beside c.args.stanza.now _ _ c.fetch_from.ensures.only

pub returns-clause-cause : goal.returns-clause-cause
returns-clause-cause g c =
    let stanza = c.args.stanza.now in
    let known = c.args.known.now in
    let segment = c.args.order.now.segment in
    let now = (g.D.Disk.state c.args.repo.now).view.now in
    let mid = (g.D.Disk.state c.find_file.new.repo).view.now in
    let file = c.in-Ok-Some.stored in
    let kept = kept_as stanza known (Whole segment) now c.in-Ok-Some.field-0 file c.in-Ok-Some.field-0-is (c.in-Ok-Some.ensures.finds now (inl refl) c.requires.pair) in
    halts_as (AheadCause stanza file.id segment file.size (most_ahead file.size c.args.queue) mid) (FollowUpCause stanza known segment c.args.queue now)
    (ahead_after stanza known segment c.args.queue now file kept mid c.find_file.ensures.looks.now)
    (Rises (g.D.Disk.state c.find_file.new.repo).faults (g.D.Disk.state c.fetch_from.new.repo).faults) (Rises (g.S.Disk.state c.args.spool.now).faults (g.S.Disk.state c.fetch_from.new.spool).faults) ⊥
    (Rises (g.D.Disk.state c.args.repo.now).faults (g.D.Disk.state c.fetch_from.new.repo).faults) (Rises (g.S.Disk.state c.args.spool.now).faults (g.S.Disk.state c.fetch_from.new.spool).faults) ⊥
    (λ r. omega (arith, r, c.find_file.ensures.looks.later)) (λ r. r) (λ r. r) c.in-Err-fetch_from.halt c.in-Err-fetch_from.ensures.cause
