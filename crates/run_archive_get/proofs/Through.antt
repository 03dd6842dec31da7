-- What archive-get's own part did through the spool, known of all objects.
use Rattle.std.proofs.Common.{◌≡◌, inl, ℕ, Bool, true, false, List, [], Some, Result, Ok, Err, IfOk, IfErr, refl, sym, subst, ap, arith}
use Rattle.std.specs.Prelude.{IfSome, IsSome, IsErrAnd}
use Rattle.base_devices.specs.Content.{Content}
use Rattle.base_devices.specs.Crash.{Leaves}
use Rattle.base_disk.proofs.Images.{Law}
use Rattle.base_model.specs.declared.wal.ArchiveName.{ArchiveName}
use Rattle.base_model.specs.Now.{NowRepresents}
use Rattle.base_model.specs.Repository.{Stanza}
use Rattle.base_model.specs.Steps.{Command, Reading}
use Rattle.base_model.specs.Text.{Text}
use Rattle.base_model.specs.Walks.{IsSynced}
use Rattle.base_model.proofs.Walking.{rests_synced}
use Rattle.archive_store.specs.Still.{IsStill, still_self}
use Rattle.archive_spool.specs.Marks.{GivesMarks}
use Rattle.repo_stanza.specs.declared.control.Control.{Control}
use Rattle.base_crash_lists.specs.Beside.{StaysBeside}
use Rattle.cmd_types.specs.declared.stages.object.Object.{Object}
use Rattle.cmd_types.specs.declared.stages.outcome.Outcome.{Outcome}
use Rattle.cmd_types.specs.declared.stages.plan.SyncScope.{SyncScope}
use Rattle.cmd_types.specs.declared.stages.plan.SyncScope.TheVariants.{Looked}
use Rattle.cmd_types.specs.declared.stages.halt.Halt.{Halt}
use Rattle.cmd_types.specs.declared.stages.halt.Halt.TheVariants.{NoMemory as HaltMemory}
use Rattle.cmd_types.specs.Cluster.{FolderShows}
use Rattle.cmd_types.specs.Halts.{HaltCause}
use Rattle.cmd_types.specs.Reached.{reached_by}
use Rattle.cmd_types.specs.DisksEffect.{Reached, stopped, DisksEffect, RunsPart, RunsWhole, DoesPart, DoesWhole, OnNone, PairAlike, SpoolEffect}
use Rattle.cmd_types.specs.World.{World, Failed, AreLater}
use Rattle.cmd_types.proofs.Besides.{still_beside}
use Rattle.cmd_types.proofs.Doing.{reading_does}
use Rattle.cmd_types.proofs.Lifted.{all_as, none_as}
use Rattle.cmd_archive_get.specs.declared.fault.GetFault.{GetFault}
use Rattle.cmd_archive_get.specs.Getting.{get_early, AreArguments, GivenBy, IsWanted}
use Rattle.cmd_archive_get_async.specs.Following.{QuietOthers}
use Rattle.cmd_archive_get_async.specs.Getting.{FollowsUp, GetAheadCause, GotAhead, NoTwins}
use Rattle.cmd_archive_get_async.proofs.Receipts.{spool_reads}
use Rattle.cmd_trait.specs.KnownWorld.{known_world}
use Rattle.cmd_trait.specs.Meaning.{Place, Meaning}
use Rattle.cmd_trait.specs.Faults.{own_of}
use Rattle.cmd_trait.specs.CallEffect.{PartEffect, SamePlaces, StaysHealed}
use Rattle.cmd_trait.proofs.PartEffects.{ran_of, all_on, any_some, reading_runs}
use Rattle.run_archive_get.specs.GettingThrough.{GetsThrough, through_meaning}
use Rattle.run_archive_get.specs.Started.{fetch_argument_list}
use Rattle.run_archive_get.proofs.PartEffects.{as_given, never_closes, turned_as, with_folder}

-- ---- to the log it only reads

reads_on : (how : SyncScope) (stanza : Text) (reached : Reached) (b k : World) → IsStill b.repo.view k.repo.view → ((whole : Bool) → SpoolEffect how stanza Reading whole b.repo.view b.spool.view k.spool.view) → DisksEffect how stanza Reading reached b.repo.view b.spool.view k.repo.view k.spool.view
reads_on how stanza reached b k still spool =
    let d = reading_does how stanza reached b.repo.view k.repo.view still.time still.now in record {
      part = part d.part;
      whole = all_as reached _ _ whole d.whole;
      turned = none_as reached _ _ part d.turned;
    }
  where
    part : DoesPart how stanza Reading b.repo.view k.repo.view → RunsPart how stanza Reading b.repo.view b.spool.view k.repo.view k.spool.view
    part x = record { does = x; marks = spool false }

    whole : DoesWhole how stanza Reading b.repo.view k.repo.view → RunsWhole how stanza Reading b.repo.view b.spool.view k.repo.view k.spool.view
    whole x = record { does = x; marks = spool true }

ahead_runs : (how : SyncScope) (stanza : Text) (command : Command) (reached : Reached) (b k : World) → command ≡ Reading → IsStill b.repo.view k.repo.view → ((whole : Bool) → SpoolEffect how stanza Reading whole b.repo.view b.spool.view k.spool.view) → DisksEffect how stanza command reached b.repo.view b.spool.view k.repo.view k.spool.view
ahead_runs how stanza command reached b k is still spool = subst (λ (c : Command). DisksEffect how stanza c reached b.repo.view b.spool.view k.repo.view k.spool.view) (sym is) (reads_on how stanza reached b k still spool)

-- ---- what it promises

-- of its parts
gets_by : (p : Place) (name path spool : Text) (queue : ℕ) (b k : World) (r : Result Outcome (Halt GetFault)) (file : ArchiveName) (known : Control) → IsWanted p.data_folder name path b.tree.nodes file known → IfOk r (GotAhead p.stanza p.data_folder name path b.repo.view.now b.tree.nodes k.tree.nodes)
    → IfOk r (λ o. (s : Stanza) → IsSome b.repo.view.now → IsSome b.spool.view.now → NowRepresents p.stanza (Some s) b.repo.view.now → NoTwins b.repo.view.now b.spool.view.now → GivenBy s p.data_folder name path b.tree.nodes k.tree.nodes o)
    → IfOk r (FollowsUp p.stanza known file b.repo.view.now (fetch_argument_list p name spool queue) k.spool.view.now b.others k.others) → IfOk r (GetsThrough p name path spool queue (known_world b) (known_world k))
gets_by p name path spool queue b k (Ok o) file known wanted got given follows = record { got = got; given = given; file = file; known = known; wanted = wanted; follows = follows }
gets_by p name path spool queue b k (Err h) file known wanted got given follows = tt

module _ (p : Place) (b k : World) (rest : k ≡ record b { repo = k.repo; spool = k.spool; tree = k.tree; others = k.others }) (still : IsStill b.repo.view k.repo.view) (law : Law b.spool.view) (new_law : Law k.spool.view) (marks : GivesMarks p.stanza [] b.spool.view k.spool.view)
    (spool_known : IsSome b.spool.view.now → IsSome k.spool.view.now) (beside : StaysBeside p.stanza b.spool.view k.spool.view) (folder word path spool : Text) (queue : ℕ) (r : Result Outcome (Halt GetFault)) where
  abbrev placed : Place
  placed = with_folder p folder

  abbrev means : Meaning GetFault
  means = through_meaning word path spool queue

  pub through_ran : (name at : Text) → folder ≡ p.data_folder → word ≡ name → path ≡ at → (file : ArchiveName) → AreArguments folder word path file → (known : Control) → IfSome b.tree.nodes (λ f. FolderShows f known) →
      IfOk r (GotAhead p.stanza folder word path b.repo.view.now b.tree.nodes k.tree.nodes) →
      IfOk r (λ o. IsSynced p.stanza b.repo.view → IsSome b.repo.view.now → PairAlike p.stanza b.repo.view → (f : Content) → Leaves k.repo.view k.repo.view.moment f → GotAhead p.stanza folder word path (Some f) b.tree.nodes k.tree.nodes o) →
      IfOk r (λ o. (s : Stanza) → IsSome b.repo.view.now → IsSome b.spool.view.now → NowRepresents p.stanza (Some s) b.repo.view.now → NoTwins b.repo.view.now b.spool.view.now → GivenBy s folder word path b.tree.nodes k.tree.nodes o) →
      means.folder_effect placed (known_world b) k.tree.nodes → OnNone (reached_by get_early r) (k.tree.nodes ≡ b.tree.nodes) →
      (arguments : List Text) → arguments ≡ fetch_argument_list p name spool queue → IfOk r (FollowsUp p.stanza known file b.repo.view.now arguments k.spool.view.now b.others k.others) → QuietOthers arguments b.others k.others → (failed : Object → Type 0) → ((object : Object) → failed object → Failed b k object) →
      IfErr r (HaltCause (GetAheadCause p.stanza folder word path known file b.repo.view.now b.tree.nodes b.spool.view.now) failed) → SamePlaces b k → AreLater b k → PartEffect p (through_meaning name at spool queue) b k (own_of r)
  through_ran name at in_it is_name is_at file are known shows got lasting given changes none arguments same follows quiet failed rose cause places later =
      let wanted : IsWanted folder word path b.tree.nodes file known = record { named = are.0; inside = are.1; shows = shows } in
      let named : arguments ≡ fetch_argument_list p word spool queue = subst (λ (w : Text). arguments ≡ fetch_argument_list p w spool queue) (sym is_name) same in
      let as_placed : arguments ≡ fetch_argument_list placed word spool queue = subst (λ (f : Text). arguments ≡ fetch_argument_list (with_folder p f) word spool queue) (sym in_it) named in
      as_given p (λ w x. through_meaning w x spool queue) b k (own_of r) folder word path name at in_it is_name is_at
      (ran_of placed means b k failed rose (GetAheadCause p.stanza folder word path known file b.repo.view.now b.tree.nodes b.spool.view.now) (λ e h. (file, known, wanted, h)) refl tt r tt
      (λ command x. ahead_runs Looked p.stanza command (reached_by get_early r) b k x still (λ whole. spool_reads p.stanza b.spool.view k.spool.view law new_law marks spool_known Looked whole b.repo.view))
      (gets_by placed word path spool queue b k r file known wanted got given (subst (λ (ws : List Text). IfOk r (FollowsUp p.stanza known file b.repo.view.now ws k.spool.view.now b.others k.others)) as_placed follows))
      lasting
      (λ synced some. rests_synced p.stanza b.repo.view k.repo.view still.time still.now synced)
      cause
      (all_on r (StaysHealed placed means b k) (record { agree = λ some h. any_some k.repo.view.now; lasts = λ synced some h. tt }))
      (record {
        beside = λ known. still_beside p.stanza b.repo.view k.repo.view still;
        spool = λ known. beside;
        repository = λ known. still;
        folder = changes;
        others = subst (λ (ws : List Text). QuietOthers ws b.others k.others) as_placed quiet;
        turned = turned_as means r _ none;
        server = ap (λ (s : World). s.server) rest;
        workers = ap (λ (s : World). s.links) rest;
        clock = ap (λ (s : World). s.clock) rest;
        closed = never_closes placed means b k (λ fault. tt) r;
      })
      places later)

-- ---- there was no memory for the arguments of a fetch

module _ (p : Place) (b : World) (name path spool : Text) (queue : ℕ) where
  abbrev begins : Meaning GetFault
  begins = through_meaning name path spool queue

  through_memory : PartEffect p begins b b (own_of (Err HaltMemory))
  through_memory = ran_of p begins b b (λ object. ⊥) (λ object h. absurd h) (λ e. ⊥) (λ e h. absurd h) refl tt (Err HaltMemory) tt
      (λ command x. reading_runs Looked p.stanza command stopped b b x (still_self b.repo.view) refl)
      tt
      tt
      (λ synced some. synced)
      tt
      tt
      (record {
        beside = λ known. still_beside p.stanza b.repo.view b.repo.view (still_self b.repo.view);
        spool = λ known. still_beside p.stanza b.spool.view b.spool.view (still_self b.spool.view);
        repository = λ known. still_self b.repo.view;
        folder = record { known = λ some. some; others = λ q x y. refl; whole = inl refl };
        others = record { account = refl; turns = refl; started = inl refl; later = omega arith };
        turned = tt;
        server = refl;
        workers = refl;
        clock = refl;
        closed = tt;
      })
      (record { spool = refl; repo = refl; tree = refl })
      (λ object. omega arith)

  pub through_starved : (r : Result Outcome (Halt GetFault)) → IsErrAnd r (λ halt. halt ≡ HaltMemory) → PartEffect p begins b b (own_of r)
  through_starved (Ok x) err = absurd err
  through_starved (Err halt) err = subst (λ (h : Halt GetFault). PartEffect p begins b b (own_of (Err h))) (sym err) through_memory
