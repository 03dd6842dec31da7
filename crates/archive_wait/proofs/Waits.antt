-- The wait, step by step.
use Rattle.std.proofs.Common.{◌≡◌, ◌≤◌, ◌+◌, ℕ, List, Option, Some, None, Bool, true, refl, sym, subst, ◌∙◌, arith}
use Rattle.std.specs.Prelude.{IfSome, IsSome, IsSomeAnd}
use Rattle.base_devices.specs.Cause.{Rises}
use Rattle.base_devices.specs.Content.{Content}
use Rattle.base_devices.specs.Crash.{Leaves}
use Rattle.base_devices.specs.Moments.{View}
use Rattle.base_devices.specs.States.{DiskState, CallsProperly, OnlyReads}
use Rattle.base_model.specs.declared.wal.ArchiveId.{ArchiveId}
use Rattle.base_model.specs.declared.wal.Segment.{Segment}
use Rattle.base_model.specs.declared.wal.WalPart.{WalPart}
use Rattle.base_model.specs.Log.{Done, KeepsRepository}
use Rattle.base_model.specs.Repository.{Repository, IsWithinSpan}
use Rattle.base_model.specs.Text.{Text}
use Rattle.base_model.specs.Walks.{IsSynced}
use Rattle.archive_lookup.specs.Turns.{ProcessesState}
use Rattle.archive_store.specs.Still.{rests_none}
use Rattle.archive_wait.specs.declared.fault.AwaitFault.{AwaitFault}
use Rattle.archive_wait.specs.declared.fault.AwaitFault.TheVariants.{NotArrived, Ambiguous, Repo, Spool, NoMemory}
use Rattle.archive_wait.specs.Causes.{PartCause, TurnCause, WaitCause}
use Rattle.archive_wait.specs.Stored.{HoldsPart, IsFirstMissing, Lasts}
use Rattle.archive_wait.specs.TurnsDone.{Counts, TurnsDone}
use Rattle.archive_wait.proofs.Turns.{none_went, went_after}

-- this many steps of others were waited for, and each succeeded
pub record HasWaited (count : ℕ) (others others2 : ProcessesState) (repo repo2 spool spool2 : DiskState) : Type 0 where
  pub went : IfSome others2.account (λ k. TurnsDone true others.account k repo.view repo2.view spool.view spool2.view)
  pub repo_frame : CallsProperly repo repo2
  pub spool_frame : CallsProperly spool spool2
  pub started : others2.started ≡ others.started
  pub counts : Counts count others.turns others2.turns
  pub later : others.faults ≤ others2.faults

frame_none : (d : DiskState) → CallsProperly d d
frame_none d = record { opened = refl; proper = refl; later = omega arith }

frame_on : (a b c : DiskState) → CallsProperly a b → CallsProperly b c → CallsProperly a c
frame_on a b c p q = record { opened = q.opened ∙ p.opened; proper = q.proper ∙ p.proper; later = omega (arith, p.later, q.later) }

frame_looks : (a b : DiskState) → OnlyReads a b → CallsProperly a b
frame_looks a b looks = record { opened = looks.opened; proper = looks.proper; later = looks.later }

if_some : {X : Type 0} (P Q : X → Type 0) (o : Option X) → ((x : X) → P x → Q x) → IfSome o P → IfSome o Q
if_some P Q None with_it h = tt
if_some P Q (Some x) with_it h = with_it x h

pub wait_begins : (others : ProcessesState) (repo spool : DiskState) → HasWaited 0 others others repo repo spool spool
wait_begins others repo spool = record {
  went = none_went true others.account repo.view repo.view spool.view (rests_none repo.view) refl;
  repo_frame = frame_none repo;
  spool_frame = frame_none spool;
  started = refl;
  counts = record { none = λ e. refl; some = λ h. omega arith };
  later = omega arith;
}

one_more : (n before mid after : ℕ) → Counts n before mid → Counts 1 mid after → Counts (n + 1) before after
one_more n before mid after p q = by n p
  where
    by : (n : ℕ) → Counts n before mid → Counts (n + 1) before after
    by n p = record { none = λ e. omega arith; some = λ h. grind (arith, p.none, p.some, q.some) }

module _ (count : ℕ) (others others2 : ProcessesState) (repo repo2 spool spool2 : DiskState)
    (waited : HasWaited count others others2 repo repo2 spool spool2) where
  -- and then the segments were looked for
  pub looked : (repo3 : DiskState) → OnlyReads repo2 repo3 → HasWaited count others others2 repo repo3 spool spool2
  looked repo3 looks = record {
    went = went_after true others.account others2.account repo.view repo2.view repo3.view spool.view spool2.view spool2.view
        others2.account waited.went
        (none_went true others2.account repo2.view repo3.view spool2.view looks.time looks.now);
    repo_frame = frame_on repo repo2 repo3 waited.repo_frame (frame_looks repo2 repo3 looks);
    spool_frame = waited.spool_frame;
    started = waited.started;
    counts = waited.counts;
    later = waited.later;
  }

  -- whatever the answer is
  went_any : (whole : Bool) →
      IfSome others2.account (λ k. TurnsDone whole others.account k repo.view repo2.view spool.view spool2.view)
  went_any whole = if_some (λ k. TurnsDone true others.account k repo.view repo2.view spool.view spool2.view)
      (λ k. TurnsDone whole others.account k repo.view repo2.view spool.view spool2.view) others2.account
      (λ k w. record {
        before = w.before;
        turned = w.turned;
        was = w.was;
        is = w.is;
        ended = λ e. w.ended refl;
        repository = w.repository;
        spool = w.spool;
        repo_only = w.repo_only;
        spool_only = w.spool_only;
      }) waited.went

  -- what a look then finds stays so, where the repository kept a log before the wait
  pub lasting : (stanza : Text) (P : Content → Type 0) (new : View) → Lasts stanza P repo2.view new →
      IfSome others2.account (λ k. k.stanza ≡ stanza → (q : Repository) (log : List Done) → IsSome repo.view.now →
      KeepsRepository stanza q log repo.view → (f : Content) → Leaves new new.moment f → P f)
  lasting stanza P new lasts = if_some (λ k. TurnsDone true others.account k repo.view repo2.view spool.view spool2.view)
      (λ k. k.stanza ≡ stanza → (q : Repository) (log : List Done) → IsSome repo.view.now →
      KeepsRepository stanza q log repo.view → (f : Content) → Leaves new new.moment f → P f) others2.account
      (λ k w of q log some keeps f leaves.
      let kept = w.repository.carries.keeps q log some (subst (λ (t : Text). KeepsRepository t q log repo.view) (sym of) keeps) in
      let synced : IsSynced k.stanza repo2.view = record { fixed = kept.fixed; places = kept.places } in
      lasts.left (subst (λ (t : Text). IsSynced t repo2.view) of synced) (w.repository.does.known some) f leaves) waited.went

  module _ (whole : Bool) (others3 : ProcessesState) (repo3 spool3 : DiskState) (repo_frame : CallsProperly repo2 repo3) (spool_frame : CallsProperly spool2 spool3)
      (went : IfSome others3.account (λ k. TurnsDone whole others2.account k repo2.view repo3.view spool2.view spool3.view)) where
    -- and then one step of others more
    pub turn_after : IfSome others3.account (λ k. TurnsDone whole others.account k repo.view repo3.view spool.view spool3.view)
    turn_after = went_after whole others.account others2.account repo.view repo2.view repo3.view spool.view spool2.view spool3.view
        others3.account waited.went went

    pub repo_after : CallsProperly repo repo3
    repo_after = frame_on repo repo2 repo3 waited.repo_frame repo_frame

    pub spool_after : CallsProperly spool spool3
    spool_after = frame_on spool spool2 spool3 waited.spool_frame spool_frame

-- what is known of a wait after which the segments were looked for
pub looked_went : (count : ℕ) (others others2 : ProcessesState) (repo repo2 repo3 spool spool2 : DiskState) →
    HasWaited count others others2 repo repo2 spool spool2 → OnlyReads repo2 repo3 → (whole : Bool) →
    IfSome others2.account (λ k. TurnsDone whole others.account k repo.view repo3.view spool.view spool2.view)
looked_went count others others2 repo repo2 repo3 spool spool2 waited looks whole =
    went_any count others others2 repo repo3 spool spool2
    (looked count others others2 repo repo2 spool spool2 waited repo3 looks) whole

pub waits_on : (count : ℕ) (others others2 others3 : ProcessesState) (repo repo2 repo3 spool spool2 spool3 : DiskState) →
    HasWaited count others others2 repo repo2 spool spool2 → HasWaited 1 others2 others3 repo2 repo3 spool2 spool3 →
    HasWaited (count + 1) others others3 repo repo3 spool spool3
waits_on count others others2 others3 repo repo2 repo3 spool spool2 spool3 p q = record {
  went = turn_after count others others2 repo repo2 spool spool2 p true others3 repo3 spool3 q.repo_frame q.spool_frame q.went;
  repo_frame = frame_on repo repo2 repo3 p.repo_frame q.repo_frame;
  spool_frame = frame_on spool spool2 spool3 p.spool_frame q.spool_frame;
  started = q.started ∙ p.started;
  counts = one_more count others.turns others2.turns others3.turns p.counts q.counts;
  later = omega (arith, p.later, q.later);
}

-- ---- why it ends

module _ (stanza : Text) (id : ArchiveId) (w : WalPart) (turns : ℕ) (now : Option Content) (before after : ℕ) where
  pub look_ends : (a b c : ℕ) (spool_rose : Type 0) (e : AwaitFault) → a ≤ b → PartCause stanza id w now (Rises b c) e →
      WaitCause stanza id w turns now (Rises a c) spool_rose before after e
  look_ends a b c spool_rose (NotArrived s n) le cause = absurd cause.2
  look_ends a b c spool_rose (Ambiguous x y) le cause = cause
  look_ends a b c spool_rose Repo le cause = omega (arith, cause.2, le)
  look_ends a b c spool_rose Spool le cause = absurd cause.2
  look_ends a b c spool_rose NoMemory le cause = tt

  pub turn_ends : (a b c d f g : ℕ) (e : AwaitFault) → a ≤ b → d ≤ f → TurnCause (Rises b c) (Rises f g) e →
      WaitCause stanza id w turns now (Rises a c) (Rises d g) before after e
  turn_ends a b c d f g (NotArrived s n) le lf cause = absurd cause
  turn_ends a b c d f g (Ambiguous x y) le lf cause = absurd cause
  turn_ends a b c d f g Repo le lf cause = omega (arith, cause, le)
  turn_ends a b c d f g Spool le lf cause = omega (arith, cause, lf)
  turn_ends a b c d f g NoMemory le lf cause = tt

-- ---- no step of others is taken where none is missing

pub none_missing : (stanza : Text) (id : ArchiveId) (w : WalPart) (segment : Segment) (old new : Option Content) →
    IsSomeAnd old (HoldsPart stanza id w) → new ≡ old → IsWithinSpan w.size.0 w.span segment →
    IfSome new (IsFirstMissing stanza id w segment) → ⊥
none_missing stanza id w segment None new holds same within first = absurd holds
none_missing stanza id w segment (Some f) new holds same within first =
    let missing = subst (λ (o : Option Content). IfSome o (IsFirstMissing stanza id w segment)) same first in
    missing.missing (holds segment within).sum (holds segment within).stored.stored
