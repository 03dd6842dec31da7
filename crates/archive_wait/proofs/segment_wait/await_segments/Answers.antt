use Rattle.std.proofs.Common.{Option, false, true, refl, ◌∙◌, subst, arith}
use Rattle.std.specs.Prelude.{IfSome, IfNone}
use Rattle.base_model.specs.declared.wal.Segment.{Segment}
use Rattle.base_model.specs.Repository.{IsWithinSpan}
use Rattle.archive_wait.specs.Stored.{HoldsPart, IsFirstMissing, Lasts}
use Rattle.archive_wait.proofs.Waits.{wait_begins, looked, looked_went, lasting, turn_after, waits_on, look_ends, none_missing}
use Rattle.archive_wait.proofs.segment_wait.await_segments.Goals as goal

pub loop-init : goal.loop-init
loop-init g c = record {
  waited = wait_begins (g.A.OtherProcesses.state c.args.processes.now) (g.D.Disk.state c.args.repo.now) (g.S.Disk.state c.args.spool.now);
  quiet = λ h. (refl, refl, refl);
}

-- ---- within the loop

pub returns-in-Ok-None-clause-lasting : goal.returns-in-Ok-None-clause-lasting
returns-in-Ok-None-clause-lasting g c =
    lasting _ _ _ _ _ _ _ c.loop.invariant.waited c.args.stanza.now
    (HoldsPart c.args.stanza.now c.args.id.now c.args.wal.now) (g.D.Disk.state c.first_missing.new.repo).view
    (subst (λ (o : Option Segment). IfNone o (Lasts c.args.stanza.now (HoldsPart c.args.stanza.now c.args.id.now c.args.wal.now)
    (g.D.Disk.state c.loop.repo).view (g.D.Disk.state c.first_missing.new.repo).view)) c.in-Ok-None.field-0-is
    c.in-Ok-None.ensures.there)

pub returns-in-Ok-None-clause-went : goal.returns-in-Ok-None-clause-went
returns-in-Ok-None-clause-went g c =
    looked_went _ _ _ _ _ _ _ _ c.loop.invariant.waited c.first_missing.ensures.looks true

pub returns-in-Err-clause-went : goal.returns-in-Err-clause-went
returns-in-Err-clause-went g c =
    looked_went _ _ _ _ _ _ _ _ c.loop.invariant.waited c.first_missing.ensures.looks false

pub returns-in-Err-clause-cause : goal.returns-in-Err-clause-cause
returns-in-Err-clause-cause g c =
    look_ends c.args.stanza.now c.args.id.now c.args.wal.now c.args.turns _ _ _ _
    (g.D.Disk.state c.loop.repo).faults _ _ c.in-Err.fault c.loop.invariant.waited.repo_frame.later c.in-Err.ensures.cause

pub returns-in-Err-wait_turn-clause-went : goal.returns-in-Err-wait_turn-clause-went
returns-in-Err-wait_turn-clause-went g c =
    let before = looked _ _ _ _ _ _ _ c.loop.invariant.waited (g.D.Disk.state c.first_missing.new.repo) c.first_missing.ensures.looks in
    turn_after _ _ _ _ _ _ _ before false (g.A.OtherProcesses.state c.wait_turn.new.processes) _ _ c.wait_turn.ensures.repo_frame c.wait_turn.ensures.spool_frame
    c.in-Err-wait_turn.ensures.went

pub loop-preserved : goal.loop-preserved
loop-preserved g c =
    let before = looked _ _ _ _ _ _ _ c.loop.invariant.waited (g.D.Disk.state c.first_missing.new.repo) c.first_missing.ensures.looks in
    record {
      waited = waits_on c.loop.counter _ _ _ _ _ _ _ _ _ before (record {
        went = c.in_default.ensures.went;
        repo_frame = c.wait_turn.ensures.repo_frame;
        spool_frame = c.wait_turn.ensures.spool_frame;
        started = c.wait_turn.ensures.started;
        counts = record { none = λ e. omega arith; some = λ h. c.in_default.ensures.counted };
        later = c.wait_turn.ensures.later;
      });
      quiet = λ h.
          let missing = subst (λ (o : Option Segment). IfSome o (λ s. IsWithinSpan c.args.wal.now.size.0 c.args.wal.now.span s
          × IfSome (g.D.Disk.state c.first_missing.new.repo).view.now (IsFirstMissing c.args.stanza.now c.args.id.now c.args.wal.now s)))
          c.in-Ok-Some.field-0-is c.in-Ok-Some.ensures.missing in
          absurd (none_missing c.args.stanza.now c.args.id.now c.args.wal.now c.in-Ok-Some.field-0-0 _ _ h
          (c.first_missing.ensures.looks.now ∙ (c.loop.invariant.quiet h).2) missing.0 missing.1);
    }

-- ---- after it

pub returns-in-Ok-None-first_missing-clause-lasting : goal.returns-in-Ok-None-first_missing-clause-lasting
returns-in-Ok-None-first_missing-clause-lasting g c =
    lasting _ _ _ _ _ _ _ c.loop.invariant.waited c.args.stanza.now
    (HoldsPart c.args.stanza.now c.args.id.now c.args.wal.now) (g.D.Disk.state c.first_missing-2.new.repo).view
    (subst (λ (o : Option Segment). IfNone o (Lasts c.args.stanza.now (HoldsPart c.args.stanza.now c.args.id.now c.args.wal.now)
    (g.D.Disk.state c.loop.repo).view (g.D.Disk.state c.first_missing-2.new.repo).view)) c.in-Ok-None-first_missing.field-0-is
    c.in-Ok-None-first_missing.ensures.there)

pub returns-in-Ok-None-first_missing-clause-went : goal.returns-in-Ok-None-first_missing-clause-went
returns-in-Ok-None-first_missing-clause-went g c =
    looked_went _ _ _ _ _ _ _ _ c.loop.invariant.waited c.first_missing-2.ensures.looks true

pub returns-in-Ok-Some-first_missing-clause-went : goal.returns-in-Ok-Some-first_missing-clause-went
returns-in-Ok-Some-first_missing-clause-went g c =
    looked_went _ _ _ _ _ _ _ _ c.loop.invariant.waited c.first_missing-2.ensures.looks false

pub returns-in-Err-first_missing-clause-went : goal.returns-in-Err-first_missing-clause-went
returns-in-Err-first_missing-clause-went g c =
    looked_went _ _ _ _ _ _ _ _ c.loop.invariant.waited c.first_missing-2.ensures.looks false

pub returns-in-Err-first_missing-clause-cause : goal.returns-in-Err-first_missing-clause-cause
returns-in-Err-first_missing-clause-cause g c =
    look_ends c.args.stanza.now c.args.id.now c.args.wal.now c.args.turns _ _ _ _
    (g.D.Disk.state c.loop.repo).faults _ _ c.in-Err-first_missing.fault c.loop.invariant.waited.repo_frame.later
    c.in-Err-first_missing.ensures.cause
