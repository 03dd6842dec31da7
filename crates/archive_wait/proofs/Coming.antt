-- The walk over the segments of a part.
use Rattle.std.proofs.Common.{◌≤◌, ◌≡◌, ℕ, ◌+◌, ◌*◌, ◌<◌, ◌^◌, refl, ◌∙◌, arith, Option, Some, None, Result, Ok, Err}
use Rattle.std.specs.Prelude.{IfSome, IfNone, IfOk, IfErr}
use Rattle.base_devices.specs.Cause.{Rises}
use Rattle.base_devices.specs.Content.{Content}
use Rattle.base_devices.specs.States.{DiskState, OnlyReads}
use Rattle.base_devices.proofs.States.{looks_on}
use Rattle.base_model.specs.declared.wal.ArchiveId.{ArchiveId}
use Rattle.base_model.specs.declared.wal.ArchiveName.TheVariants.{Segment as Whole}
use Rattle.base_model.specs.declared.wal.Segment.{Segment}
use Rattle.base_model.specs.declared.wal.WalPart.{WalPart}
use Rattle.base_model.specs.ManifestText.{IsWalPart, position, segments_per_log}
use Rattle.base_model.specs.Repository.{IsWithinSpan}
use Rattle.base_model.specs.Text.{Text}
use Rattle.repo_names.specs.Next.{IsNext}
use Rattle.archive_lookup.specs.Stored.{StoresNone}
use Rattle.archive_store.specs.Still.{rests_none}
use Rattle.archive_wait.specs.declared.fault.AwaitFault.{AwaitFault}
use Rattle.archive_wait.specs.declared.fault.AwaitFault.TheVariants.{NotArrived, Ambiguous, Repo, Spool, NoMemory}
use Rattle.archive_wait.specs.Causes.{LookCause, PartCause}
use Rattle.archive_wait.specs.Stored.{HoldsSegment, HoldsBefore, HoldsPart, IsFirstMissing, Lasts}
use Rattle.archive_wait.proofs.Held.{lasts_on, none_before, more_lasts, part_lasts, first_here, not_last}

-- the walk has come to this segment, after this many that are held
pub record HasCome (stanza : Text) (id : ArchiveId) (w : WalPart) (count : ℕ) (segment : Segment) (old new : DiskState) : Type 0 where
  pub within : IsWithinSpan w.size.0 w.span segment
  pub place : position w.size.0 segment ≡ position w.size.0 w.span.start + count
  pub looks : OnlyReads old new
  pub held : Lasts stanza (HoldsBefore stanza id w (position w.size.0 segment)) old.view new.view

looks_none : (d : DiskState) → OnlyReads d d
looks_none d = record { now = refl; time = rests_none d.view; opened = refl; proper = refl; later = omega arith }

-- a fault's cause, from an earlier count on
look_from : (stanza : Text) (id : ArchiveId) (s : Segment) (now : Option Content) (a b c : ℕ) → a ≤ b → (e : AwaitFault) →
    LookCause stanza id s now (Rises b c) e → LookCause stanza id s now (Rises a c) e
look_from stanza id s now a b c le (NotArrived t n) cause = cause
look_from stanza id s now a b c le (Ambiguous x y) cause = cause
look_from stanza id s now a b c le Repo cause = omega (arith, cause, le)
look_from stanza id s now a b c le Spool cause = cause
look_from stanza id s now a b c le NoMemory cause = cause

module _ (stanza : Text) (id : ArchiveId) (w : WalPart) (rules : IsWalPart w) where
  pub come_first : (old : DiskState) → HasCome stanza id w 0 w.span.start old old
  come_first old = record {
    within = (refl, rules.start.1, omega arith, rules.order);
    place = omega arith;
    looks = looks_none old;
    held = none_before stanza id w old.view;
  }

  -- as many follow the first segment
  module _ (last : ℕ) (is_last : position w.size.0 w.span.stop ≡ position w.size.0 w.span.start + last)
      (count : ℕ) (segment : Segment) (old mid new : DiskState) (come : HasCome stanza id w count segment old mid) where
    pub come_before : count < last → position w.size.0 segment + 1 < 2 ^ 32 * segments_per_log w.size.0
    come_before h = not_last (segments_per_log w.size.0) segment w.span.stop rules.stop.0.log rules.stop.1
        (let place = come.place in omega (arith, place, is_last))

    pub come_on : count < last → OnlyReads mid new → Lasts stanza (λ f. HoldsSegment stanza id f segment) mid.view new.view →
        (next : Segment) → IsNext w.size.0 segment next → HasCome stanza id w (count + 1) next old new
    come_on h looks there next follows =
        let within = come.within in
        let place = come.place in
        record {
          within = (follows.timeline ∙ within.0, follows.of_log, omega (arith, follows.place, within.2), omega (arith, follows.place, place, is_last));
          place = omega (arith, follows.place, place);
          looks = looks_on old mid new come.looks looks;
          held = more_lasts stanza id w segment within (position w.size.0 next) follows.place old.view mid.view new.view
              come.looks.time come.looks.now looks.time looks.now come.held there;
        }

    pub come_last : count ≡ last → OnlyReads mid new → Lasts stanza (λ f. HoldsSegment stanza id f segment) mid.view new.view →
        Lasts stanza (HoldsPart stanza id w) old.view new.view
    come_last is looks there = part_lasts stanza id w segment come.within
        (let place = come.place in omega (arith, place, is_last)) old.view mid.view new.view
        come.looks.time come.looks.now looks.time looks.now come.held there

  module _ (count : ℕ) (segment : Segment) (old mid new : DiskState) (come : HasCome stanza id w count segment old mid)
      (looks : OnlyReads mid new) where
    pub looks_so_far : OnlyReads old new
    looks_so_far = looks_on old mid new come.looks looks

    pub missing_here : IfSome new.view.now (StoresNone stanza id (Whole segment)) →
        IsWithinSpan w.size.0 w.span segment × IfSome new.view.now (IsFirstMissing stanza id w segment)
    missing_here missing = (
      come.within,
      first_here stanza id w segment come.within old.view mid.view new.view looks.now come.held missing,
    )

    pub cause_here : (e : AwaitFault) → LookCause stanza id segment new.view.now (Rises mid.faults new.faults) e →
        PartCause stanza id w new.view.now (Rises old.faults new.faults) e
    cause_here e cause = (segment, come.within, look_from stanza id segment new.view.now old.faults mid.faults new.faults come.looks.later e cause)

-- ---- two walks

module _ (stanza : Text) (id : ArchiveId) (w : WalPart) (old mid new : DiskState) (first : OnlyReads old mid) (second : OnlyReads mid new) where
  abbrev Found : DiskState → DiskState → Type 0
  Found a b = Lasts stanza (HoldsPart stanza id w) a.view b.view

  -- what is found the second time has been so since before the first
  pub twice_there : Found old mid → (r : Result (Option Segment) AwaitFault) →
      IfOk r (λ o. IfNone o (Lasts stanza (HoldsPart stanza id w) mid.view new.view)) →
      IfOk r (λ o. IfNone o (Lasts stanza (HoldsPart stanza id w) old.view new.view))
  twice_there p (Ok None) q = lasts_on stanza (HoldsPart stanza id w) (HoldsPart stanza id w) (HoldsPart stanza id w)
      (λ f _ again. again) old.view mid.view new.view first.time first.now second.time second.now p q
  twice_there p (Ok (Some s)) q = tt
  twice_there p (Err e) q = tt

  pub twice_cause : (r : Result (Option Segment) AwaitFault) →
      IfErr r (PartCause stanza id w new.view.now (Rises mid.faults new.faults)) →
      IfErr r (PartCause stanza id w new.view.now (Rises old.faults new.faults))
  twice_cause (Ok o) cause = tt
  twice_cause (Err e) cause = (
    cause.0,
    cause.1,
    look_from stanza id cause.0 new.view.now old.faults mid.faults new.faults first.later e cause.2,
  )
