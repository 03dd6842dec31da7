use Rattle.std.proofs.Common.{rules, ◌≡◌, ◌+◌, ◌∙◌, inr, subst, ℕ, refl, true, false, arith}
use Rattle.std.specs.Prelude.{map, string_bytes}
use Rattle.archive_lookup.specs.Turns.{Account}
use Rattle.archive_spool.specs.declared.spool_query.Asked.TheVariants.{Done, NotYet as Nothing, Reported as Refusal}
use Rattle.archive_wait.specs.TurnsDone.{Counts, TurnsDone}
use Rattle.cmd_archive_push_wait.proofs.Waiting.{Waiting}
use Rattle.cmd_archive_push_wait.proofs.Ended.{counts_on, failed_after, first_look, first_receipt, first_waits, frame_none, frame_on, long_after, look_cause, refused_after, rises_from, says_as, started_on, stored_after, waited_silent, waits_after, went_after}
use Rattle.cmd_archive_push_wait.proofs.queued_file.queue_file.Goals as goal

pub returns-in-Ok-Done-clause-stored : goal.returns-in-Ok-Done-clause-stored
returns-in-Ok-Done-clause-stored g c =
    first_receipt c.args.stanza.now c.args.name c.args.sum.now.0 (search rules) (g.A.OtherProcesses.state c.args.processes.now).account (g.D.Disk.state c.args.repo.now).view
    (g.S.Disk.state c.args.spool.now).view (g.S.Disk.state c.look.new.spool).view
    (record { law = g.met.S.Disk.now_may_be_left c.args.spool.now; new_law = g.met.S.Disk.now_may_be_left c.look.new.spool; known = c.look.ensures.known; marks = c.look.ensures.marks; only = c.look.ensures.only })
    (says_as c.args.stanza.now c.args.name c.args.sum.now.0 (g.S.Disk.state c.args.spool.now).view.now _ Done c.in-Ok-Done.field-0-is c.in-Ok-Done.ensures.answers)

pub returns-in-Ok-Done-clause-went : goal.returns-in-Ok-Done-clause-went
returns-in-Ok-Done-clause-went g c =
    first_look c.args.stanza.now c.args.name c.args.sum.now.0 (search rules) (g.A.OtherProcesses.state c.args.processes.now).account (g.D.Disk.state c.args.repo.now).view
    (g.S.Disk.state c.args.spool.now).view (g.S.Disk.state c.look.new.spool).view
    (record { law = g.met.S.Disk.now_may_be_left c.args.spool.now; new_law = g.met.S.Disk.now_may_be_left c.look.new.spool; known = c.look.ensures.known; marks = c.look.ensures.marks; only = c.look.ensures.only }) true

pub returns-in-Ok-Reported-clause-went : goal.returns-in-Ok-Reported-clause-went
returns-in-Ok-Reported-clause-went g c =
    first_look c.args.stanza.now c.args.name c.args.sum.now.0 (search rules) (g.A.OtherProcesses.state c.args.processes.now).account (g.D.Disk.state c.args.repo.now).view
    (g.S.Disk.state c.args.spool.now).view (g.S.Disk.state c.look.new.spool).view
    (record { law = g.met.S.Disk.now_may_be_left c.args.spool.now; new_law = g.met.S.Disk.now_may_be_left c.look.new.spool; known = c.look.ensures.known; marks = c.look.ensures.marks; only = c.look.ensures.only }) false

pub returns-in-Err-clause-went : goal.returns-in-Err-clause-went
returns-in-Err-clause-went g c =
    first_look c.args.stanza.now c.args.name c.args.sum.now.0 (search rules) (g.A.OtherProcesses.state c.args.processes.now).account (g.D.Disk.state c.args.repo.now).view
    (g.S.Disk.state c.args.spool.now).view (g.S.Disk.state c.look.new.spool).view
    (record { law = g.met.S.Disk.now_may_be_left c.args.spool.now; new_law = g.met.S.Disk.now_may_be_left c.look.new.spool; known = c.look.ensures.known; marks = c.look.ensures.marks; only = c.look.ensures.only }) false

pub returns-in-Err-start-clause-went : goal.returns-in-Err-start-clause-went
returns-in-Err-start-clause-went g c =
    started_on (λ (k : Account). k.stanza ≡ c.args.stanza.now → TurnsDone false (g.A.OtherProcesses.state c.args.processes.now).account k (g.D.Disk.state c.args.repo.now).view
    (g.D.Disk.state c.args.repo.now).view (g.S.Disk.state c.args.spool.now).view (g.S.Disk.state c.look.new.spool).view) _ _ c.start.ensures.account
    (first_look c.args.stanza.now c.args.name c.args.sum.now.0 (search rules) (g.A.OtherProcesses.state c.args.processes.now).account (g.D.Disk.state c.args.repo.now).view
    (g.S.Disk.state c.args.spool.now).view (g.S.Disk.state c.look.new.spool).view
    (record { law = g.met.S.Disk.now_may_be_left c.args.spool.now; new_law = g.met.S.Disk.now_may_be_left c.look.new.spool; known = c.look.ensures.known; marks = c.look.ensures.marks; only = c.look.ensures.only }) false)

pub loop-init : goal.loop-init
loop-init g c =
    record {
      waiting = started_on (λ (k : Account). k.stanza ≡ c.args.stanza.now → Waiting c.args.name c.args.sum.now.0 (g.A.OtherProcesses.state c.args.processes.now).account k
          (g.D.Disk.state c.args.repo.now).view (g.D.Disk.state c.args.repo.now).view (g.S.Disk.state c.args.spool.now).view (g.S.Disk.state c.look.new.spool).view)
          _ _ c.start.ensures.account (first_waits c.args.stanza.now c.args.name c.args.sum.now.0 (search rules) (g.A.OtherProcesses.state c.args.processes.now).account (g.D.Disk.state c.args.repo.now).view
          (g.S.Disk.state c.args.spool.now).view (g.S.Disk.state c.look.new.spool).view
          (record { law = g.met.S.Disk.now_may_be_left c.args.spool.now; new_law = g.met.S.Disk.now_may_be_left c.look.new.spool; known = c.look.ensures.known; marks = c.look.ensures.marks; only = c.look.ensures.only })
          (record { clear = c.in-Ok-NotYet.ensures.clear; bare = c.in-Ok-NotYet.ensures.bare c.in-Ok-NotYet.field-0-is }));
      repo_frame = frame_none (g.D.Disk.state c.args.repo.now);
      spool_frame = c.look.ensures.frame;
      started = c.in_default.ensures.started;
      counts = record { none = λ e. c.start.ensures.turns; some = λ h. omega (arith, h) };
      later = c.start.ensures.cause.later;
    }

-- ---- within the loop

pub returns-in-Err-wait_turn-clause-went : goal.returns-in-Err-wait_turn-clause-went
returns-in-Err-wait_turn-clause-went g c =
    failed_after c.args.stanza.now c.args.name c.args.sum.now.0 (map string_bytes c.args.arguments.now) c.loop.counter (g.A.OtherProcesses.state c.args.processes.now) (g.A.OtherProcesses.state c.loop.processes)
    (g.D.Disk.state c.args.repo.now) (g.D.Disk.state c.loop.repo) (g.S.Disk.state c.args.spool.now) (g.S.Disk.state c.loop.spool) c.loop.invariant
    (g.A.OtherProcesses.state c.wait_turn.new.processes) (g.D.Disk.state c.wait_turn.new.repo) (g.S.Disk.state c.wait_turn.new.spool)
    c.in-Err-wait_turn.ensures.turn

pub returns-in-Ok-Done-look-clause-stored : goal.returns-in-Ok-Done-look-clause-stored
returns-in-Ok-Done-look-clause-stored g c =
    stored_after c.args.stanza.now c.args.name c.args.sum.now.0 (map string_bytes c.args.arguments.now) c.loop.counter (g.A.OtherProcesses.state c.args.processes.now) (g.A.OtherProcesses.state c.loop.processes)
    (g.D.Disk.state c.args.repo.now) (g.D.Disk.state c.loop.repo) (g.S.Disk.state c.args.spool.now) (g.S.Disk.state c.loop.spool) c.loop.invariant
    (g.A.OtherProcesses.state c.wait_turn.new.processes) (g.D.Disk.state c.wait_turn.new.repo) (g.S.Disk.state c.wait_turn.new.spool)
    (search rules) c.requires c.in_default-wait_turn.ensures.turn (g.S.Disk.state c.look-in-loop.new.spool)
    (record { law = g.met.S.Disk.now_may_be_left c.wait_turn.new.spool; new_law = g.met.S.Disk.now_may_be_left c.look-in-loop.new.spool; known = c.look-in-loop.ensures.known; marks = c.look-in-loop.ensures.marks; only = c.look-in-loop.ensures.only })
    (says_as c.args.stanza.now c.args.name c.args.sum.now.0 (g.S.Disk.state c.wait_turn.new.spool).view.now _ Done c.in-Ok-Done-look.field-0-is c.in-Ok-Done-look.ensures.answers)

pub returns-in-Ok-Done-look-clause-went : goal.returns-in-Ok-Done-look-clause-went
returns-in-Ok-Done-look-clause-went g c =
    went_after c.args.stanza.now c.args.name c.args.sum.now.0 (map string_bytes c.args.arguments.now) c.loop.counter (g.A.OtherProcesses.state c.args.processes.now) (g.A.OtherProcesses.state c.loop.processes)
    (g.D.Disk.state c.args.repo.now) (g.D.Disk.state c.loop.repo) (g.S.Disk.state c.args.spool.now) (g.S.Disk.state c.loop.spool) c.loop.invariant
    (g.A.OtherProcesses.state c.wait_turn.new.processes) (g.D.Disk.state c.wait_turn.new.repo) (g.S.Disk.state c.wait_turn.new.spool)
    (search rules) c.requires c.in_default-wait_turn.ensures.turn (g.S.Disk.state c.look-in-loop.new.spool)
    (record { law = g.met.S.Disk.now_may_be_left c.wait_turn.new.spool; new_law = g.met.S.Disk.now_may_be_left c.look-in-loop.new.spool; known = c.look-in-loop.ensures.known; marks = c.look-in-loop.ensures.marks; only = c.look-in-loop.ensures.only }) true

pub returns-in-Ok-Done-look-clause-few : goal.returns-in-Ok-Done-look-clause-few
returns-in-Ok-Done-look-clause-few g c =
    (c.loop.counter + 1, omega (arith, c.loop-test.true), counts_on _ _ _ _ c.loop.invariant.counts (record { none = λ e. omega arith; some = λ h. c.in_default-wait_turn.ensures.counted }))

pub returns-in-Ok-Reported-look-clause-went : goal.returns-in-Ok-Reported-look-clause-went
returns-in-Ok-Reported-look-clause-went g c =
    went_after c.args.stanza.now c.args.name c.args.sum.now.0 (map string_bytes c.args.arguments.now) c.loop.counter (g.A.OtherProcesses.state c.args.processes.now) (g.A.OtherProcesses.state c.loop.processes)
    (g.D.Disk.state c.args.repo.now) (g.D.Disk.state c.loop.repo) (g.S.Disk.state c.args.spool.now) (g.S.Disk.state c.loop.spool) c.loop.invariant
    (g.A.OtherProcesses.state c.wait_turn.new.processes) (g.D.Disk.state c.wait_turn.new.repo) (g.S.Disk.state c.wait_turn.new.spool)
    (search rules) c.requires c.in_default-wait_turn.ensures.turn (g.S.Disk.state c.look-in-loop.new.spool)
    (record { law = g.met.S.Disk.now_may_be_left c.wait_turn.new.spool; new_law = g.met.S.Disk.now_may_be_left c.look-in-loop.new.spool; known = c.look-in-loop.ensures.known; marks = c.look-in-loop.ensures.marks; only = c.look-in-loop.ensures.only }) false

pub returns-in-Ok-Reported-look-clause-few : goal.returns-in-Ok-Reported-look-clause-few
returns-in-Ok-Reported-look-clause-few g c =
    (c.loop.counter + 1, omega (arith, c.loop-test.true), counts_on _ _ _ _ c.loop.invariant.counts (record { none = λ e. omega arith; some = λ h. c.in_default-wait_turn.ensures.counted }))

pub returns-in-Ok-Reported-look-clause-cause : goal.returns-in-Ok-Reported-look-clause-cause
returns-in-Ok-Reported-look-clause-cause g c =
    inr (
      (record { nothing = (says_as c.args.stanza.now c.args.name c.args.sum.now.0 (g.S.Disk.state c.args.spool.now).view.now _ Nothing c.in-Ok-NotYet.field-0-is c.in-Ok-NotYet.ensures.answers); started = c.wait_turn.ensures.started ∙ c.loop.invariant.started }),
      refused_after c.args.stanza.now c.args.name c.args.sum.now.0 (map string_bytes c.args.arguments.now) c.loop.counter (g.A.OtherProcesses.state c.args.processes.now) (g.A.OtherProcesses.state c.loop.processes)
          (g.D.Disk.state c.args.repo.now) (g.D.Disk.state c.loop.repo) (g.S.Disk.state c.args.spool.now) (g.S.Disk.state c.loop.spool) c.loop.invariant
          (g.A.OtherProcesses.state c.wait_turn.new.processes) (g.D.Disk.state c.wait_turn.new.repo) (g.S.Disk.state c.wait_turn.new.spool)
          (search rules) c.requires c.in_default-wait_turn.ensures.turn (g.S.Disk.state c.look-in-loop.new.spool)
          (record { law = g.met.S.Disk.now_may_be_left c.wait_turn.new.spool; new_law = g.met.S.Disk.now_may_be_left c.look-in-loop.new.spool; known = c.look-in-loop.ensures.known; marks = c.look-in-loop.ensures.marks; only = c.look-in-loop.ensures.only })
          c.in-Ok-Reported-look.code c.in-Ok-Reported-look.text (says_as c.args.stanza.now c.args.name c.args.sum.now.0 (g.S.Disk.state c.wait_turn.new.spool).view.now _ (Refusal c.in-Ok-Reported-look.code c.in-Ok-Reported-look.text) c.in-Ok-Reported-look.field-0-is c.in-Ok-Reported-look.ensures.answers),
    )

pub returns-in-Err-look-clause-went : goal.returns-in-Err-look-clause-went
returns-in-Err-look-clause-went g c =
    went_after c.args.stanza.now c.args.name c.args.sum.now.0 (map string_bytes c.args.arguments.now) c.loop.counter (g.A.OtherProcesses.state c.args.processes.now) (g.A.OtherProcesses.state c.loop.processes)
    (g.D.Disk.state c.args.repo.now) (g.D.Disk.state c.loop.repo) (g.S.Disk.state c.args.spool.now) (g.S.Disk.state c.loop.spool) c.loop.invariant
    (g.A.OtherProcesses.state c.wait_turn.new.processes) (g.D.Disk.state c.wait_turn.new.repo) (g.S.Disk.state c.wait_turn.new.spool)
    (search rules) c.requires c.in_default-wait_turn.ensures.turn (g.S.Disk.state c.look-in-loop.new.spool)
    (record { law = g.met.S.Disk.now_may_be_left c.wait_turn.new.spool; new_law = g.met.S.Disk.now_may_be_left c.look-in-loop.new.spool; known = c.look-in-loop.ensures.known; marks = c.look-in-loop.ensures.marks; only = c.look-in-loop.ensures.only }) false

pub returns-in-Err-look-clause-few : goal.returns-in-Err-look-clause-few
returns-in-Err-look-clause-few g c =
    (c.loop.counter + 1, omega (arith, c.loop-test.true), counts_on _ _ _ _ c.loop.invariant.counts (record { none = λ e. omega arith; some = λ h. c.in_default-wait_turn.ensures.counted }))

pub returns-in-Err-look-clause-cause : goal.returns-in-Err-look-clause-cause
returns-in-Err-look-clause-cause g c =
    look_cause _ _ _
    (rises_from _ _ _ (frame_on _ _ _ c.loop.invariant.spool_frame c.wait_turn.ensures.spool_frame).later)
    (record { nothing = (says_as c.args.stanza.now c.args.name c.args.sum.now.0 (g.S.Disk.state c.args.spool.now).view.now _ Nothing c.in-Ok-NotYet.field-0-is c.in-Ok-NotYet.ensures.answers); started = c.wait_turn.ensures.started ∙ c.loop.invariant.started })
    (g.S.Disk.state c.wait_turn.new.spool).view.now
    (long_after c.args.stanza.now c.args.name c.args.sum.now.0 (map string_bytes c.args.arguments.now) c.loop.counter (g.A.OtherProcesses.state c.args.processes.now) (g.A.OtherProcesses.state c.loop.processes)
    (g.D.Disk.state c.args.repo.now) (g.D.Disk.state c.loop.repo) (g.S.Disk.state c.args.spool.now) (g.S.Disk.state c.loop.spool) c.loop.invariant
    (g.A.OtherProcesses.state c.wait_turn.new.processes) (g.D.Disk.state c.wait_turn.new.repo) (g.S.Disk.state c.wait_turn.new.spool)
    (search rules) c.requires c.in_default-wait_turn.ensures.turn (g.S.Disk.state c.look-in-loop.new.spool)
    (record { law = g.met.S.Disk.now_may_be_left c.wait_turn.new.spool; new_law = g.met.S.Disk.now_may_be_left c.look-in-loop.new.spool; known = c.look-in-loop.ensures.known; marks = c.look-in-loop.ensures.marks; only = c.look-in-loop.ensures.only }))
    c.in-Err-look.halt c.in-Err-look.ensures.cause

pub loop-preserved : goal.loop-preserved
loop-preserved g c =
    record {
      waiting = waits_after c.args.stanza.now c.args.name c.args.sum.now.0 (map string_bytes c.args.arguments.now) c.loop.counter (g.A.OtherProcesses.state c.args.processes.now) (g.A.OtherProcesses.state c.loop.processes)
          (g.D.Disk.state c.args.repo.now) (g.D.Disk.state c.loop.repo) (g.S.Disk.state c.args.spool.now) (g.S.Disk.state c.loop.spool) c.loop.invariant
          (g.A.OtherProcesses.state c.wait_turn.new.processes) (g.D.Disk.state c.wait_turn.new.repo) (g.S.Disk.state c.wait_turn.new.spool)
          (search rules) c.requires c.in_default-wait_turn.ensures.turn (g.S.Disk.state c.look-in-loop.new.spool)
          (record { law = g.met.S.Disk.now_may_be_left c.wait_turn.new.spool; new_law = g.met.S.Disk.now_may_be_left c.look-in-loop.new.spool; known = c.look-in-loop.ensures.known; marks = c.look-in-loop.ensures.marks; only = c.look-in-loop.ensures.only })
          (says_as c.args.stanza.now c.args.name c.args.sum.now.0 (g.S.Disk.state c.wait_turn.new.spool).view.now _ Nothing c.in-Ok-NotYet-look.field-0-is c.in-Ok-NotYet-look.ensures.answers)
          (record { clear = c.in-Ok-NotYet-look.ensures.clear; bare = c.in-Ok-NotYet-look.ensures.bare c.in-Ok-NotYet-look.field-0-is });
      repo_frame = frame_on _ _ _ c.loop.invariant.repo_frame c.wait_turn.ensures.repo_frame;
      spool_frame = frame_on _ _ _ (frame_on _ _ _ c.loop.invariant.spool_frame c.wait_turn.ensures.spool_frame) c.look-in-loop.ensures.frame;
      started = c.wait_turn.ensures.started ∙ c.loop.invariant.started;
      counts = counts_on _ _ _ _ c.loop.invariant.counts (record { none = λ e. omega arith; some = λ h. c.in_default-wait_turn.ensures.counted });
      later = omega (arith, c.wait_turn.ensures.later, c.loop.invariant.later);
    }

-- ---- after it

pub returns-clause-cause : goal.returns-clause-cause
returns-clause-cause g c =
    let last : c.loop.counter ≡ c.args.turns = omega (arith, c.loop-test.false, c.loop.auto.counter-end) in (
      refl,
      subst (λ (n : ℕ). Counts n (g.A.OtherProcesses.state c.args.processes.now).turns (g.A.OtherProcesses.state c.loop.processes).turns) last c.loop.invariant.counts,
      record { nothing = (says_as c.args.stanza.now c.args.name c.args.sum.now.0 (g.S.Disk.state c.args.spool.now).view.now _ Nothing c.in-Ok-NotYet.field-0-is c.in-Ok-NotYet.ensures.answers); started = c.loop.invariant.started },
      waited_silent c.args.stanza.now c.args.name c.args.sum.now.0 (map string_bytes c.args.arguments.now) c.loop.counter (g.A.OtherProcesses.state c.args.processes.now) (g.A.OtherProcesses.state c.loop.processes)
          (g.D.Disk.state c.args.repo.now) (g.D.Disk.state c.loop.repo) (g.S.Disk.state c.args.spool.now) (g.S.Disk.state c.loop.spool) c.loop.invariant,
    )
