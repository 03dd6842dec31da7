-- How a call ends that serves a file, and starts a fetch after it.
use Rattle.std.proofs.Common.{◌≡◌, List, Option, Some, Result, IfOk, IfErr, refl}
use Rattle.std.specs.Prelude.{IsSome}
use Rattle.std.proofs.lemmas.Result.{IfErr-weaker, IfOk-weaker}
use Rattle.base_devices.specs.Content.{Content}
use Rattle.base_devices.specs.Crash.{Leaves}
use Rattle.base_devices.specs.Moments.{View}
use Rattle.base_devices.specs.DataFolder.{Nodes}
use Rattle.base_model.specs.declared.wal.ArchiveName.{ArchiveName}
use Rattle.base_model.specs.declared.wal.ArchiveName.TheVariants.{Segment as Whole, Partial, History, Backup}
use Rattle.base_model.specs.declared.wal.Segment.{Segment}
use Rattle.base_model.specs.Now.{NowRepresents}
use Rattle.base_model.specs.Repository.{Stanza}
use Rattle.base_model.specs.Text.{Text}
use Rattle.base_model.specs.Walks.{IsSynced}
use Rattle.repo_stanza.specs.declared.control.Control.{Control}
use Rattle.cmd_types.specs.declared.stages.halt.Halt.{Halt}
use Rattle.cmd_types.specs.declared.stages.outcome.Outcome.{Outcome}
use Rattle.cmd_types.specs.declared.stages.outcome.Outcome.TheVariants.{Finished, Absent, FindingsFound}
use Rattle.cmd_types.specs.Halts.{HaltCause}
use Rattle.cmd_types.specs.Risen.{none, rose_in}
use Rattle.cmd_types.specs.DisksEffect.{PairAlike}
use Rattle.archive_lookup.specs.Turns.{ProcessesState}
use Rattle.cmd_archive_get.specs.declared.fault.GetFault.{GetFault}
use Rattle.cmd_archive_get.specs.Getting.{GetCause, GivenBy, GotBy}
use Rattle.cmd_archive_get_async.proofs.Halted.{halts_as}
use Rattle.cmd_archive_get_async.specs.Getting.{FollowsUp, GetAheadCause, GotAhead, LacksFetched, NoTwins}
use Rattle.cmd_archive_get_async.proofs.Handed.{get_fails}
use Rattle.cmd_archive_get_async.proofs.Summed.{serves_summed}

-- ---- a file that is no whole segment

-- the name isn't that of a whole segment
abbrev pub IsOther : ArchiveName → Type 0
IsOther name = (segment : Segment) → ¬ (name ≡ Whole segment)

pub lacks_other : (stanza : Text) (known : Control) (name : ArchiveName) (repo spool : Option Content) → IsOther name → LacksFetched stanza known name repo spool
lacks_other stanza known (Whole segment) repo spool other = absurd (other segment refl)
lacks_other stanza known (Partial segment) repo spool other = tt
lacks_other stanza known (History timeline) repo spool other = tt
lacks_other stanza known (Backup segment offset) repo spool other = tt

follows_other : (stanza : Text) (known : Control) (name : ArchiveName) (repo : Option Content) (arguments : List Text) (spool : Option Content) (others : ProcessesState) (folder word path : Text) (nodes after : Option Nodes) → IsOther name → (o : Outcome)
    → GotBy stanza folder word path repo nodes after o → FollowsUp stanza known name repo arguments spool others others o
follows_other stanza known (Whole segment) repo arguments spool others folder word path nodes after other o h = absurd (other segment refl)
follows_other stanza known (Partial segment) repo arguments spool others folder word path nodes after other (Finished lines) h = (refl, h.0)
follows_other stanza known (Partial segment) repo arguments spool others folder word path nodes after other (Absent name) h = refl
follows_other stanza known (Partial segment) repo arguments spool others folder word path nodes after other (FindingsFound lines count) h = refl
follows_other stanza known (History timeline) repo arguments spool others folder word path nodes after other (Finished lines) h = (refl, h.0)
follows_other stanza known (History timeline) repo arguments spool others folder word path nodes after other (Absent name) h = refl
follows_other stanza known (History timeline) repo arguments spool others folder word path nodes after other (FindingsFound lines count) h = refl
follows_other stanza known (Backup segment offset) repo arguments spool others folder word path nodes after other (Finished lines) h = (refl, h.0)
follows_other stanza known (Backup segment offset) repo arguments spool others folder word path nodes after other (Absent name) h = refl
follows_other stanza known (Backup segment offset) repo arguments spool others folder word path nodes after other (FindingsFound lines count) h = refl

module _ (stanza folder word path : Text) (nodes after : Option Nodes) where
  pub got_ahead : (o : Option Content) (x : Outcome) → GotBy stanza folder word path o nodes after x → GotAhead stanza folder word path o nodes after x
  got_ahead o (Finished lines) h = serves_summed stanza folder word path o nodes after h.1
  got_ahead o (Absent name) h = h
  got_ahead o (FindingsFound lines count) h = h

  module _ (r : Result Outcome (Halt GetFault)) where
    pub got_on : (o : Option Content) → IfOk r (GotBy stanza folder word path o nodes after) → IfOk r (GotAhead stanza folder word path o nodes after)
    got_on o h = IfOk-weaker r _ _ (got_ahead o) h

    pub lasts_on : (a d : View) → IfOk r (λ x. IsSynced stanza a → IsSome a.now → PairAlike stanza a → (f : Content) → Leaves d d.moment f → GotBy stanza folder word path (Some f) nodes after x)
        → IfOk r (λ x. IsSynced stanza a → IsSome a.now → PairAlike stanza a → (f : Content) → Leaves d d.moment f → GotAhead stanza folder word path (Some f) nodes after x)
    lasts_on a d h = IfOk-weaker r _ _ (λ x k synced some alike f leaves. got_ahead (Some f) x (k synced some alike f leaves)) h

    pub given_on : (repo spool : Option Content) → IfOk r (λ x. (s : Stanza) → IsSome repo → NowRepresents stanza (Some s) repo → GivenBy s folder word path nodes after x)
        → IfOk r (λ x. (s : Stanza) → IsSome repo → IsSome spool → NowRepresents stanza (Some s) repo → NoTwins repo spool → GivenBy s folder word path nodes after x)
    given_on repo spool h = IfOk-weaker r _ _ (λ x k s some some_spool now alone. k s some now) h

  module _ (r : Result Outcome (Halt GetFault)) (repo : Option Content) (known : Control) (name : ArchiveName) (other : IsOther name) where
    pub other_follows : (arguments : List Text) (spool : Option Content) (others : ProcessesState) → IfOk r (GotBy stanza folder word path repo nodes after) → IfOk r (FollowsUp stanza known name repo arguments spool others others)
    other_follows arguments spool others h = IfOk-weaker r _ _ (follows_other stanza known name repo arguments spool others folder word path nodes after other) h

    pub other_fails : (spool : Option Content) (rose_repo rose_tree up_spool : Type 0) → IfErr r (HaltCause (GetCause stanza folder word path repo nodes) (rose_in (record none { repo = rose_repo; tree = rose_tree })))
        → IfErr r (HaltCause (GetAheadCause stanza folder word path known name repo nodes spool) (rose_in (record none { repo = rose_repo; spool = up_spool; tree = rose_tree })))
    other_fails spool rose_repo rose_tree up_spool h =
        IfErr-weaker r _ _
        (halts_as (GetCause stanza folder word path repo nodes) (GetAheadCause stanza folder word path known name repo nodes spool)
        (get_fails stanza folder word path known name repo nodes spool (lacks_other stanza known name repo spool other))
        rose_repo ⊥ rose_tree rose_repo up_spool rose_tree (λ x. x) (λ x. absurd x) (λ x. x)) h
