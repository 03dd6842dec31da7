-- What archive-get:async's own part did, known of all objects.
use Rattle.std.proofs.Common.{◌≡◌, ℕ, Bool, true, false, [], Option, Some, None, Result, Ok, Err, IfOk, IfErr, refl, sym, subst, ap}
use Rattle.std.specs.Prelude.{IfSome, IsSome, IsSomeAnd, true}
use Rattle.base_devices.specs.Content.{Content, at}
use Rattle.base_devices.specs.DataFolder.{Nodes}
use Rattle.base_devices.specs.Moments.{View}
use Rattle.base_disk.proofs.Images.{Law}
use Rattle.base_model.specs.declared.wal.Segment.{Segment}
use Rattle.base_model.specs.Steps.{Command, Reading}
use Rattle.base_model.specs.Text.{Text}
use Rattle.base_model.proofs.Walking.{rests_synced}
use Rattle.archive_store.specs.Still.{IsStill}
use Rattle.archive_spool.specs.Marks.{GivesMarks}
use Rattle.repo_stanza.specs.declared.control.Control.{Control}
use Rattle.base_crash_lists.specs.Beside.{StaysBeside}
use Rattle.cmd_types.specs.declared.stages.object.Object.{Object}
use Rattle.cmd_types.specs.declared.stages.outcome.Outcome.{Outcome}
use Rattle.cmd_types.specs.declared.stages.plan.SyncScope.{SyncScope}
use Rattle.cmd_types.specs.declared.stages.plan.SyncScope.TheVariants.{Looked}
use Rattle.cmd_types.specs.declared.stages.plan.Pairs.TheVariants.{ReadArchive}
use Rattle.cmd_types.specs.declared.stages.halt.Halt.{Halt}
use Rattle.cmd_types.specs.declared.stages.halt.Halt.TheVariants.{Refused, Failed as HaltFailed, NoMemory as HaltMemory}
use Rattle.cmd_types.specs.Cluster.{FolderShows}
use Rattle.cmd_types.specs.Halts.{HaltCause}
use Rattle.cmd_types.specs.Reached.{reached_by}
use Rattle.cmd_types.specs.DisksEffect.{Reached, DisksEffect, RunsPart, RunsWhole, DoesPart, DoesWhole, SpoolEffect}
use Rattle.cmd_types.specs.World.{World, Failed, AreLater}
use Rattle.cmd_types.proofs.Besides.{still_beside}
use Rattle.cmd_types.proofs.Doing.{reading_does}
use Rattle.cmd_types.proofs.Lifted.{all_as, none_as}
use Rattle.cmd_setup.specs.declared.ready.Ready.{Ready}
use Rattle.cmd_setup.specs.Readies.{IsReady}
use Rattle.cmd_archive_get.specs.declared.fault.GetFault.{GetFault}
use Rattle.cmd_archive_get.specs.Getting.{get_early}
use Rattle.cmd_archive_get_async.specs.FollowUp.{FollowUpCause, FetchedBy, IsSegmentName}
use Rattle.cmd_archive_get_async.proofs.Receipts.{spool_reads}
use Rattle.cmd_trait.specs.Meaning.{Place, Meaning, places_plan}
use Rattle.cmd_trait.specs.Ends.{ending_of, reached_of}
use Rattle.cmd_trait.specs.Faults.{own_of}
use Rattle.cmd_trait.specs.CallEffect.{OwnLasts, PartEffect, SamePlaces, StaysHealed, Closes}
use Rattle.cmd_trait.proofs.CallEffects.{all_none}
use Rattle.cmd_trait.proofs.PartEffects.{ran_of, all_on, any_ok, any_some}
use Rattle.run_archive_get_async.specs.Fetching.{fetch_meaning}

there : {T : Type 0} (o : Option T) (x : T) (P : T → Type 0) → o ≡ Some x → IsSomeAnd o P → P x
there o x P is h = subst (λ (y : Option _). IsSomeAnd y P) is h

-- the data folder states the cluster that was read
pub shows : (stanza : Text) (repo : Option Content) (nodes : Option Nodes) (ready : Ready) → IsReady (record places_plan { control = true; pairs = ReadArchive }) stanza repo nodes ready → (known : Control) → ready.control ≡ Some known → IfSome nodes (λ f. FolderShows f known)
shows stanza repo nodes ready is_ready known some = there ready.control known _ some (is_ready.control refl)

-- ---- to the log it only reads

reads_on : (how : SyncScope) (stanza : Text) (reached : Reached) (b k : World) → IsStill b.repo.view k.repo.view → ((whole : Bool) → SpoolEffect how stanza Reading whole b.repo.view b.spool.view k.spool.view) → DisksEffect how stanza Reading reached b.repo.view b.spool.view k.repo.view k.spool.view
reads_on how stanza reached b k still spool =
    let d = reading_does how stanza reached b.repo.view k.repo.view still.time still.now in record {
      part = part d.part;
      whole = all_as reached _ _ whole d.whole;
      turned = none_as reached _ _ part d.turned;
    }
  where
    part : DoesPart how stanza Reading b.repo.view k.repo.view → RunsPart how stanza Reading b.repo.view b.spool.view k.repo.view k.spool.view
    part x = record { does = x; marks = spool false }

    whole : DoesWhole how stanza Reading b.repo.view k.repo.view → RunsWhole how stanza Reading b.repo.view b.spool.view k.repo.view k.spool.view
    whole x = record { does = x; marks = spool true }

ahead_runs : (how : SyncScope) (stanza : Text) (command : Command) (reached : Reached) (b k : World) → command ≡ Reading → IsStill b.repo.view k.repo.view → ((whole : Bool) → SpoolEffect how stanza Reading whole b.repo.view b.spool.view k.spool.view) → DisksEffect how stanza command reached b.repo.view b.spool.view k.repo.view k.spool.view
ahead_runs how stanza command reached b k is still spool = subst (λ (c : Command). DisksEffect how stanza c reached b.repo.view b.spool.view k.repo.view k.spool.view) (sym is) (reads_on how stanza reached b k still spool)

-- a disk that keeps to a stanza is still known
known_beside : (stanza : Text) (old new : View) → StaysBeside stanza old new → IsSome old.now → IsSome new.now
known_beside stanza old new beside some = go old.now new.now (beside.now [] refl) some
  where
    go : (o n : Option Content) → at [] n ≡ at [] o → IsSome o → IsSome n
    go None n same there = cc
    go (Some f) None same there = cc
    go (Some f) (Some g) same there = refl

-- ---- how it ended

closes_none : (p : Place) (name spool : Text) (queue : ℕ) (b k : World) (r : Result Outcome (Halt GetFault)) → IfErr (own_of r) (Closes p (fetch_meaning name spool queue) b k)
closes_none p name spool queue b k (Ok o) = tt
closes_none p name spool queue b k (Err (Refused e)) = tt
closes_none p name spool queue b k (Err (HaltFailed object)) = tt
closes_none p name spool queue b k (Err HaltMemory) = tt

-- a promise of an outcome, of what it is for this segment
ahead_by : (stanza name : Text) (queue : ℕ) (b k : World) (r : Result Outcome (Halt GetFault)) (segment : Segment) → IsSegmentName name segment → (known : Control) → IfSome b.tree.nodes (λ f. FolderShows f known) → IfOk r (FetchedBy stanza known name segment queue b.repo.view.now b.spool.view.now k.spool.view.now)
    → IfOk r (λ o. (s : Segment) × IsSegmentName name s × ((t : Control) × IfSome b.tree.nodes (λ f. FolderShows f t) × FetchedBy stanza t name s queue b.repo.view.now b.spool.view.now k.spool.view.now o))
ahead_by stanza name queue b k (Ok o) segment is known shows h = (segment, is, (known, shows, h))
ahead_by stanza name queue b k (Err e) segment is known shows h = tt

module _ (p : Place) (b k : World) (rest : k ≡ record b { repo = k.repo; spool = k.spool }) (still : IsStill b.repo.view k.repo.view) (law : Law b.spool.view) (new_law : Law k.spool.view) (marks : GivesMarks p.stanza [] b.spool.view k.spool.view)
    (beside : StaysBeside p.stanza b.spool.view k.spool.view) (word spool : Text) (queue : ℕ) (r : Result Outcome (Halt GetFault)) where
  abbrev means : Meaning GetFault
  means = fetch_meaning word spool queue

  pub fetched_ran : (name : Text) → word ≡ name → (segment : Segment) → IsSegmentName word segment → (known : Control) → IfSome b.tree.nodes (λ f. FolderShows f known) →
      IfOk r (FetchedBy p.stanza known word segment queue b.repo.view.now b.spool.view.now k.spool.view.now) → (failed : Object → Type 0) → ((object : Object) → failed object → Failed b k object) →
      IfErr r (HaltCause (FollowUpCause p.stanza known segment queue b.repo.view.now) failed) → SamePlaces b k → AreLater b k → PartEffect p (fetch_meaning name spool queue) b k (own_of r)
  fetched_ran name is segment named known shows fetched failed rose cause places later =
      subst (λ (x : Text). PartEffect p (fetch_meaning x spool queue) b k (own_of r)) is
      (ran_of p means b k failed rose (FollowUpCause p.stanza known segment queue b.repo.view.now) (λ e h. (segment, named, (known, shows, h))) refl tt r tt
      (λ command x. ahead_runs Looked p.stanza command (reached_by get_early r) b k x still (λ whole. spool_reads p.stanza b.spool.view k.spool.view law new_law marks (known_beside p.stanza b.spool.view k.spool.view beside) Looked whole b.repo.view))
      (ahead_by p.stanza word queue b k r segment named known shows fetched)
      (any_ok r (OwnLasts p means b k) (λ o synced some pair. tt))
      (λ synced some. rests_synced p.stanza b.repo.view k.repo.view still.time still.now synced)
      cause
      (all_on r (StaysHealed p means b k) (record { agree = λ some h. any_some k.repo.view.now; lasts = λ synced some h. tt }))
      (record {
        beside = λ known. still_beside p.stanza b.repo.view k.repo.view still;
        spool = λ known. beside;
        repository = λ known. still;
        folder = ap (λ (s : World). s.tree.nodes) rest;
        others = ap (λ (s : World). s.others) rest;
        turned = all_none (reached_of means (ending_of (own_of r))) _ (ap (λ (s : World). s.tree.nodes) rest);
        server = ap (λ (s : World). s.server) rest;
        workers = ap (λ (s : World). s.links) rest;
        clock = ap (λ (s : World). s.clock) rest;
        closed = closes_none p word spool queue b k r;
      })
      places later)
