use Rattle.std.proofs.Common.{arith, ◌≡◌, ◌<◌, ◌∙◌, refl, ℕ, Option, sym, subst}
use Rattle.base_devices.specs.Cause.{Rises}
use Rattle.base_devices.specs.Content.{Content, is_below}
use Rattle.base_devices.proofs.States.{looks_on}
use Rattle.archive_store.specs.Still.{rests_none}
use Rattle.base_model.specs.declared.wal.Segment.{Segment}
use Rattle.cmd_types.specs.Halts.{HaltCause}
use Rattle.cmd_types.specs.Risen.{none, rose_in}
use Rattle.cmd_archive_get_async.specs.Names.{ahead_folder}
use Rattle.cmd_archive_get_async.specs.Fetching.{AheadCause, FetchesNext, IsFetched, NextCause, most_ahead}
use Rattle.cmd_archive_get_async.proofs.Fetched.{frame_on, none_fetched, one_more, fetched_all, fetched_end, fetch_fails}
use Rattle.cmd_archive_get_async.proofs.Halted.{halts_as}
use Rattle.cmd_archive_get_async.proofs.Within.{ahead_marks, ahead_beside, within_on}
use Rattle.cmd_archive_get_async.proofs.ahead.prefetch.fetch_ahead.Goals as goal

pub returns-in-Err-clause-marks : goal.returns-in-Err-clause-marks
returns-in-Err-clause-marks g c = ahead_marks c.args.stanza.now _ _ c.clear.ensures.only

pub returns-in-Err-clause-beside : goal.returns-in-Err-clause-beside
returns-in-Err-clause-beside g c = ahead_beside c.args.stanza.now _ _ c.clear.ensures.only

pub loop-count-init : goal.loop-count-init
loop-count-init g c = record {
  so_far = none_fetched c.args.stanza.now c.args.id.now c.args.after.now c.args.size.0 (g.D.Disk.state c.args.repo.now).view.now (g.S.Disk.state c.args.spool.now).view.now _ c.in_default.ensures.clear;
  of_log = c.requires.of_log;
  only = c.clear.ensures.only;
  frame = c.clear.ensures.frame;
  looks = record { now = refl; time = rests_none _; opened = refl; proper = refl; later = omega arith };
}

pub fetch_next-requires-clause-of_log : goal.fetch_next-requires-clause-of_log
fetch_next-requires-clause-of_log g c = c.loop-count.invariant.of_log

pub returns-in-Ok-None-clause-fetched : goal.returns-in-Ok-None-clause-fetched
returns-in-Ok-None-clause-fetched g c =
    let i = c.loop-count.invariant in
    let last = c.loop-count.last in
    let repo = (g.D.Disk.state c.args.repo.now).view.now in
    let mid = (g.S.Disk.state c.loop-count.spool).view.now in
    let new = (g.S.Disk.state c.fetch_next.new.spool).view.now in
    let most = most_ahead c.args.size.0 c.args.queue in
    let is : c.most_ahead-most.result ≡ most = c.most_ahead-most.ensures in
    let h = subst (λ (r : Option Segment). FetchesNext c.args.stanza.now c.args.id.now last c.args.size.0 repo mid new r) c.in-Ok-None.field-0-is
    (subst (λ (o : Option Content). FetchesNext c.args.stanza.now c.args.id.now last c.args.size.0 o mid new c.in-Ok-None.field-0) i.looks.now c.in-Ok-None.ensures.fetches) in
    fetched_end c.args.stanza.now c.args.id.now c.args.after.now c.args.size.0 repo most (g.S.Disk.state c.args.spool.now).view.now mid last c.loop-count.count i.so_far new c.loop-count.count refl
    (subst (λ (n : ℕ). c.loop-count.count < n) is c.loop-count-test.true) h.0 h.1

pub returns-in-Ok-None-clause-only : goal.returns-in-Ok-None-clause-only
returns-in-Ok-None-clause-only g c = within_on (is_below (ahead_folder c.args.stanza.now)) _ _ _ c.loop-count.invariant.only c.fetch_next.ensures.only

pub returns-in-Ok-None-clause-marks : goal.returns-in-Ok-None-clause-marks
returns-in-Ok-None-clause-marks g c = ahead_marks c.args.stanza.now _ _ (within_on (is_below (ahead_folder c.args.stanza.now)) _ _ _ c.loop-count.invariant.only c.fetch_next.ensures.only)

pub returns-in-Ok-None-clause-beside : goal.returns-in-Ok-None-clause-beside
returns-in-Ok-None-clause-beside g c = ahead_beside c.args.stanza.now _ _ (within_on (is_below (ahead_folder c.args.stanza.now)) _ _ _ c.loop-count.invariant.only c.fetch_next.ensures.only)

pub returns-in-Ok-None-clause-frame : goal.returns-in-Ok-None-clause-frame
returns-in-Ok-None-clause-frame g c = frame_on _ _ _ c.loop-count.invariant.frame c.fetch_next.ensures.frame

pub returns-in-Ok-None-clause-looks : goal.returns-in-Ok-None-clause-looks
returns-in-Ok-None-clause-looks g c = looks_on _ _ _ c.loop-count.invariant.looks c.fetch_next.ensures.looks

pub returns-in-Err-fetch_next-clause-only : goal.returns-in-Err-fetch_next-clause-only
returns-in-Err-fetch_next-clause-only g c = within_on (is_below (ahead_folder c.args.stanza.now)) _ _ _ c.loop-count.invariant.only c.fetch_next.ensures.only

pub returns-in-Err-fetch_next-clause-marks : goal.returns-in-Err-fetch_next-clause-marks
returns-in-Err-fetch_next-clause-marks g c = ahead_marks c.args.stanza.now _ _ (within_on (is_below (ahead_folder c.args.stanza.now)) _ _ _ c.loop-count.invariant.only c.fetch_next.ensures.only)

pub returns-in-Err-fetch_next-clause-beside : goal.returns-in-Err-fetch_next-clause-beside
returns-in-Err-fetch_next-clause-beside g c = ahead_beside c.args.stanza.now _ _ (within_on (is_below (ahead_folder c.args.stanza.now)) _ _ _ c.loop-count.invariant.only c.fetch_next.ensures.only)

pub returns-in-Err-fetch_next-clause-frame : goal.returns-in-Err-fetch_next-clause-frame
returns-in-Err-fetch_next-clause-frame g c = frame_on _ _ _ c.loop-count.invariant.frame c.fetch_next.ensures.frame

pub returns-in-Err-fetch_next-clause-looks : goal.returns-in-Err-fetch_next-clause-looks
returns-in-Err-fetch_next-clause-looks g c = looks_on _ _ _ c.loop-count.invariant.looks c.fetch_next.ensures.looks

pub returns-in-Err-fetch_next-clause-cause : goal.returns-in-Err-fetch_next-clause-cause
returns-in-Err-fetch_next-clause-cause g c =
    let i = c.loop-count.invariant in
    let stanza = c.args.stanza.now in
    let id = c.args.id.now in
    let after = c.args.after.now in
    let size = c.args.size.0 in
    let last = c.loop-count.last in
    let repo = (g.D.Disk.state c.args.repo.now).view.now in
    let most = most_ahead size c.args.queue in
    let is : c.most_ahead-most.result ≡ most = c.most_ahead-most.ensures in
    let repo_rose = Rises (g.D.Disk.state c.loop-count.repo).faults (g.D.Disk.state c.fetch_next.new.repo).faults in
    let spool_rose = Rises (g.S.Disk.state c.loop-count.spool).faults (g.S.Disk.state c.fetch_next.new.spool).faults in
    let halt = c.in-Err-fetch_next.halt in
    let cause = subst (λ (o : Option Content). HaltCause (NextCause stanza id last size o) (rose_in (record none { repo = repo_rose; spool = spool_rose })) halt) i.looks.now c.in-Err-fetch_next.ensures.cause in
    halts_as (NextCause stanza id last size repo) (AheadCause stanza id after size most repo)
    (fetch_fails stanza id after size repo most (g.S.Disk.state c.args.spool.now).view.now (g.S.Disk.state c.loop-count.spool).view.now last c.loop-count.count i.so_far (subst (λ (n : ℕ). c.loop-count.count < n) is c.loop-count-test.true))
    repo_rose spool_rose ⊥ _ _ ⊥ (λ r. omega (arith, r, i.looks.later)) (λ r. omega (arith, r, i.frame.later)) (λ r. r) halt cause

pub loop-count-preserved : goal.loop-count-preserved
loop-count-preserved g c =
    let i = c.loop-count.invariant in
    let stanza = c.args.stanza.now in
    let last = c.loop-count.last in
    let repo = (g.D.Disk.state c.args.repo.now).view.now in
    let mid = (g.S.Disk.state c.loop-count.spool).view.now in
    let new = (g.S.Disk.state c.fetch_next.new.spool).view.now in
    let h = subst (λ (r : Option Segment). FetchesNext stanza c.args.id.now last c.args.size.0 repo mid new r) c.in-Ok-Some.field-0-is
    (subst (λ (o : Option Content). FetchesNext stanza c.args.id.now last c.args.size.0 o mid new c.in-Ok-Some.field-0) i.looks.now c.in-Ok-Some.ensures.fetches) in
    record {
      so_far = one_more stanza c.args.id.now c.args.after.now c.args.size.0 repo (g.S.Disk.state c.args.spool.now).view.now mid new last c.in-Ok-Some.segment c.loop-count.count _ i.so_far refl h.0 h.1;
      of_log = h.0.of_log;
      only = within_on (is_below (ahead_folder stanza)) _ _ _ i.only c.fetch_next.ensures.only;
      frame = frame_on _ _ _ i.frame c.fetch_next.ensures.frame;
      looks = looks_on _ _ _ i.looks c.fetch_next.ensures.looks;
    }

pub returns-clause-fetched : goal.returns-clause-fetched
returns-clause-fetched g c =
    let i = c.loop-count.invariant in
    let most = most_ahead c.args.size.0 c.args.queue in
    let is : c.most_ahead-most.result ≡ most = c.most_ahead-most.ensures in
    let repo = (g.D.Disk.state c.args.repo.now).view.now in
    let spool = (g.S.Disk.state c.args.spool.now).view.now in
    let mid = (g.S.Disk.state c.loop-count.spool).view.now in
    let last : c.loop-count.count ≡ c.most_ahead-most.result = omega (arith, c.loop-count-test.false, c.loop-count.auto.count-end) in
    let done : c.loop-count.count ≡ most = last ∙ is in
    subst (λ (n : ℕ). IsFetched c.args.stanza.now c.args.id.now c.args.after.now c.args.size.0 most repo spool mid n) (sym is)
    (fetched_all c.args.stanza.now c.args.id.now c.args.after.now c.args.size.0 repo most spool mid c.loop-count.last c.loop-count.count i.so_far done)

pub returns-clause-only : goal.returns-clause-only
returns-clause-only g c = c.loop-count.invariant.only

pub returns-clause-marks : goal.returns-clause-marks
returns-clause-marks g c = ahead_marks c.args.stanza.now _ _ c.loop-count.invariant.only

pub returns-clause-beside : goal.returns-clause-beside
returns-clause-beside g c = ahead_beside c.args.stanza.now _ _ c.loop-count.invariant.only

pub returns-clause-frame : goal.returns-clause-frame
returns-clause-frame g c = c.loop-count.invariant.frame

pub returns-clause-looks : goal.returns-clause-looks
returns-clause-looks g c = c.loop-count.invariant.looks
