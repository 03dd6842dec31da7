use Rattle.std.proofs.Common.{arith}
use Rattle.base_devices.specs.Cause.{Rises}
use Rattle.archive_store.proofs.Got.{err_by}
use Rattle.archive_wait.specs.Causes.{PartCause}
use Rattle.archive_wait.proofs.Coming.{come_first, come_before, come_on, come_last, looks_so_far, missing_here, cause_here}
use Rattle.archive_wait.proofs.missing_segment.look_once.Goals as goal

pub loop-init : goal.loop-init
loop-init g c =
    come_first c.args.stanza.now c.args.id.now c.args.wal.now c.requires (g.D.Disk.state c.args.repo.now)

-- ---- within the loop

pub following-segment-requires-clause-of_log : goal.following-segment-requires-clause-of_log
following-segment-requires-clause-of_log g c = c.loop.invariant.within.1

pub following-segment-requires-clause-before : goal.following-segment-requires-clause-before
following-segment-requires-clause-before g c =
    come_before c.args.stanza.now c.args.id.now c.args.wal.now c.requires c.following_first-end.result
    c.following_first-end.ensures c.loop.counter c.loop.segment _ _ (g.D.Disk.state c.loop.repo) c.loop.invariant
    c.loop-test.true

pub loop-preserved : goal.loop-preserved
loop-preserved g c =
    come_on c.args.stanza.now c.args.id.now c.args.wal.now c.requires c.following_first-end.result
    c.following_first-end.ensures c.loop.counter c.loop.segment _ _ _ c.loop.invariant c.loop-test.true
    c.is_stored.ensures.looks (c.in_ok-is_stored.ensures.there c.if-not-branch.false) c.following-segment.result
    c.following-segment.ensures

pub returns-in_err-is_stored-clause-looks : goal.returns-in_err-is_stored-clause-looks
returns-in_err-is_stored-clause-looks g c =
    looks_so_far c.args.stanza.now c.args.id.now c.args.wal.now c.requires c.loop.counter c.loop.segment _ _ _
    c.loop.invariant c.is_stored.ensures.looks

pub returns-in_err-is_stored-clause-cause : goal.returns-in_err-is_stored-clause-cause
returns-in_err-is_stored-clause-cause g c =
    err_by (PartCause c.args.stanza.now c.args.id.now c.args.wal.now (g.D.Disk.state c.is_stored.new.repo).view.now
    (Rises (g.D.Disk.state c.args.repo.now).faults (g.D.Disk.state c.is_stored.new.repo).faults))
    c.from_residual.result c.in_err-is_stored.field-0.0 c.from_residual.ensures.1
    (cause_here c.args.stanza.now c.args.id.now c.args.wal.now c.requires c.loop.counter c.loop.segment _ _ _
    c.loop.invariant c.is_stored.ensures.looks c.in_err-is_stored.field-0.0 c.in_err-is_stored.ensures.cause)

pub returns-then-not-branch-clause-looks : goal.returns-then-not-branch-clause-looks
returns-then-not-branch-clause-looks g c =
    looks_so_far c.args.stanza.now c.args.id.now c.args.wal.now c.requires c.loop.counter c.loop.segment _ _ _
    c.loop.invariant c.is_stored.ensures.looks

pub returns-then-not-branch-clause-missing : goal.returns-then-not-branch-clause-missing
returns-then-not-branch-clause-missing g c =
    missing_here c.args.stanza.now c.args.id.now c.args.wal.now c.requires c.loop.counter c.loop.segment _ _ _
    c.loop.invariant c.is_stored.ensures.looks (c.in_ok-is_stored.ensures.missing c.if-not-branch.true)

-- ---- after it

pub returns-in_err-is_stored-2-clause-looks : goal.returns-in_err-is_stored-2-clause-looks
returns-in_err-is_stored-2-clause-looks g c =
    looks_so_far c.args.stanza.now c.args.id.now c.args.wal.now c.requires c.loop.counter c.loop.segment _ _ _
    c.loop.invariant c.is_stored-2.ensures.looks

pub returns-in_err-is_stored-2-clause-cause : goal.returns-in_err-is_stored-2-clause-cause
returns-in_err-is_stored-2-clause-cause g c =
    err_by (PartCause c.args.stanza.now c.args.id.now c.args.wal.now (g.D.Disk.state c.is_stored-2.new.repo).view.now
    (Rises (g.D.Disk.state c.args.repo.now).faults (g.D.Disk.state c.is_stored-2.new.repo).faults))
    c.from_residual-in_err-is_stored-2.result c.in_err-is_stored-2.field-0.0
    c.from_residual-in_err-is_stored-2.ensures.1
    (cause_here c.args.stanza.now c.args.id.now c.args.wal.now c.requires c.loop.counter c.loop.segment _ _ _
    c.loop.invariant c.is_stored-2.ensures.looks c.in_err-is_stored-2.field-0.0 c.in_err-is_stored-2.ensures.cause)

pub returns-then-branch-clause-looks : goal.returns-then-branch-clause-looks
returns-then-branch-clause-looks g c =
    looks_so_far c.args.stanza.now c.args.id.now c.args.wal.now c.requires c.loop.counter c.loop.segment _ _ _
    c.loop.invariant c.is_stored-2.ensures.looks

pub returns-then-branch-clause-there : goal.returns-then-branch-clause-there
returns-then-branch-clause-there g c =
    come_last c.args.stanza.now c.args.id.now c.args.wal.now c.requires c.following_first-end.result
    c.following_first-end.ensures c.loop.counter c.loop.segment _ _ _ c.loop.invariant (omega arith)
    c.is_stored-2.ensures.looks (c.in_ok-is_stored-2.ensures.there c.if-branch.true)

pub returns-else-branch-clause-looks : goal.returns-else-branch-clause-looks
returns-else-branch-clause-looks g c =
    looks_so_far c.args.stanza.now c.args.id.now c.args.wal.now c.requires c.loop.counter c.loop.segment _ _ _
    c.loop.invariant c.is_stored-2.ensures.looks

pub returns-else-branch-clause-missing : goal.returns-else-branch-clause-missing
returns-else-branch-clause-missing g c =
    missing_here c.args.stanza.now c.args.id.now c.args.wal.now c.requires c.loop.counter c.loop.segment _ _ _
    c.loop.invariant c.is_stored-2.ensures.looks (c.in_ok-is_stored-2.ensures.missing c.if-branch.false)
