-- A drain as a command of the log.
use Rattle.std.proofs.Common.{◌≡◌, inl, inr, Bool, true, false, List, [], ◌∷◌, ◌++◌, Option, Some, None, Result, Ok, Err, refl, sym, ap, ◌∙◌, subst}
use Rattle.std.specs.List.{flat_map}
use Rattle.std.specs.Option.{option_map_or}
use Rattle.std.proofs.lemmas.List.{append-nil}
use Rattle.std.specs.Prelude.{ℕ, map, IfErr, IfSome, IsSome, is_ok}
use Rattle.base_devices.specs.Content.{Content}
use Rattle.base_devices.specs.Crash.{IsAlikeAt, NowChanges}
use Rattle.base_devices.specs.Moments.{View}
use Rattle.base_devices.specs.DataFolder.{Nodes}
use Rattle.base_model.specs.declared.clusters.Cluster.{Cluster}
use Rattle.base_model.specs.declared.clusters.ClusterId.{ClusterId}
use Rattle.base_model.specs.declared.wal.ArchiveId.{ArchiveId}
use Rattle.base_model.specs.Fields.{at_number}
use Rattle.base_model.specs.Now.{NowRepresents}
use Rattle.base_model.specs.Repository.{Repository, Stanza, current_number, id_of}
use Rattle.base_model.specs.Steps.{Step, One, Named, Command, ArchivePushDrain, all_of, after, steps_of, stores_of}
use Rattle.base_model.specs.Log.{Done, KeepsSpool}
use Rattle.base_model.specs.Text.{Text, In}
use Rattle.base_model.specs.Values.{ArchiveInfo}
use Rattle.base_model.specs.Walks.{IsSynced}
use Rattle.repo_stanza.specs.declared.control.Control.{Control}
use Rattle.repo_stanza.specs.Pairs.{identity_kept, identity_known}
use Rattle.archive_store.specs.Pushes.{IsPathOf}
use Rattle.archive_store.specs.Still.{rests_none, still_self}
use Rattle.cmd_types.specs.declared.stages.halt.Halt.{Halt}
use Rattle.cmd_types.specs.declared.stages.halt.Halt.TheVariants.{Refused, Failed, NoMemory}
use Rattle.cmd_types.specs.declared.stages.object.Object.TheVariants as objects
use Rattle.cmd_types.specs.declared.stages.outcome.Outcome.{Outcome}
use Rattle.cmd_types.specs.declared.stages.plan.SyncScope.TheVariants.{Whole}
use Rattle.cmd_types.specs.Cluster.{FolderShows}
use Rattle.cmd_types.specs.Current.{HasCurrent, HasValue, id_kept}
use Rattle.cmd_types.specs.Halts.{HaltCause}
use Rattle.cmd_types.specs.Reached.{back_if, reached_by}
use Rattle.cmd_types.specs.Risen.{rose_in}
use Rattle.cmd_types.specs.DisksEffect.{Reached, On, one, DisksEffect, to_end, turned_back, stopped}
use Rattle.cmd_types.proofs.Doing.{rests_does}
use Rattle.cmd_types.proofs.Lifted.{does_runs}
use Rattle.cmd_archive_push.specs.declared.fault.PushFault.{PushFault}
use Rattle.cmd_archive_push.specs.declared.fault.PushFault.TheVariants.{SegmentName, PathOutside, StanzaMismatch, SegmentMissing, TooLong, HeaderForm, SegmentSize, HeaderMismatch, Ambiguous, Duplicate}
use Rattle.cmd_archive_push.specs.Causes.{IsCurrent}
use Rattle.cmd_archive_push.specs.Putting.{Puts, PutsFiles}
use Rattle.cmd_archive_push.proofs.Putting.{current_after, kept_current, puts_still}
use Rattle.cmd_archive_push_async.specs.declared.files.push_marks.Drained.{Drained}
use Rattle.cmd_archive_push_async.specs.Draining.{end_of}
use Rattle.cmd_archive_push_async.specs.Ends.{three}
use Rattle.cmd_archive_push_async.specs.Fates.{Entry, AreFates, AreFound, kept_files}
use Rattle.cmd_archive_push_async.specs.Keeping.{GivesHeld, IsUnderCurrent, reached_of}
use Rattle.cmd_archive_push_async.specs.Ready.{IsReadyAs}
use Rattle.cmd_archive_push_async.specs.Storing.{GoesByStores, stored}
use Rattle.cmd_archive_push_async.specs.Whole.{DrainsReady, EndCauseReady}
use Rattle.cmd_archive_push_async.proofs.Ran.{current_under}
use Rattle.cmd_archive_push_async.proofs.Goings.{stores_now}
use Rattle.cmd_archive_push_async.proofs.Held.{gives_none, ready_as}
use Rattle.cmd_archive_push_async.specs.Drained.{AreLasting, IsDrainOf, IsDrained, DrainCause, drain_early}

-- ---- nothing is done

no_steps : (r : Repository) → [] ≡ all_of (steps_of (ArchivePushDrain []) r)
no_steps None = refl
no_steps (Some s) = by (at_number (current_number s) s.history)
  where
    by : (o : Option Cluster) → [] ≡ all_of (option_map_or (λ (c : Cluster). map One (flat_map (λ g. g) (stores_of s (id_of c) []))) o [])
    by None = refl
    by (Some c) = refl

none_keeps : (stanza : Text) (q : Repository) (log : List Done) (s : View) → KeepsSpool stanza q log s →
    KeepsSpool stanza q (record { command = ArchivePushDrain []; acknowledged = true } ∷ log) s
none_keeps stanza q log s k = record {
  fixed = k.fixed;
  receipts = λ f leaves name sum fits has. let x = k.receipts f leaves name sum fits has in (x.0, (x.0, x.1, ([], refl, no_steps x.0)), x.2);
}

back_open : (b : Bool) → ¬ (back_if b ≡ to_end)
back_open true is = cc
back_open false is = cc

-- a refusal or a failure is no end
halt_open : (h : Halt PushFault) → ¬ (reached_by drain_early (Err h) ≡ to_end)
halt_open (Refused e) is = back_open (drain_early e) is
halt_open (Failed objects.Server) is = back_open true is
halt_open (Failed objects.Repo) is = back_open false is
halt_open (Failed objects.Spool) is = back_open false is
halt_open (Failed objects.TheDataFolder) is = back_open false is
halt_open (Failed objects.Others) is = back_open false is
halt_open (Failed objects.Clock) is = back_open false is
halt_open (Failed objects.Locks) is = back_open false is
halt_open (Failed objects.Config) is = back_open false is
halt_open (Failed objects.Output) is = back_open false is
halt_open NoMemory is = back_open false is

pub none_runs : (stanza : Text) (f : Nodes) (v s : View) (h : Halt PushFault) →
    On (one (IsDrainOf f false)) (λ command. DisksEffect Whole stanza command (reached_by drain_early (Err h)) v s v s)
none_runs stanza f v s h = (
  ArchivePushDrain [],
  record { names = []; files = []; ready = λ e. cc; of_names = refl; is = refl },
  does_runs Whole stanza (ArchivePushDrain []) (reached_by drain_early (Err h)) v v s (λ q log k. none_keeps stanza q log s k)
      (rests_does Whole stanza (ArchivePushDrain []) (reached_by drain_early (Err h)) v v (halt_open h) (rests_none v) refl),
)

-- ---- the current cluster

module _ (stanza : Text) (repo : Option Content) (nodes : Option Nodes) (known : Control) (id : ArchiveId) (v : ArchiveInfo)
    (shows : IfSome nodes (λ f. FolderShows f known)) (has : IfSome repo (λ f. HasValue stanza f v))
    (at : (c : ClusterId) × (at_number v.current v.history ≡ Some c) × (id ≡ id_kept c) × (identity_kept c ≡ identity_known known)) where
  pub is_current : IsCurrent stanza repo nodes known at.0
  is_current = record { shows = shows; current = kept_current stanza repo v has at.0 at.1; same = at.3 }

  pub under : IsUnderCurrent stanza id repo
  under = current_under stanza id repo (at.0, at.2, kept_current stanza repo v has at.0 at.1)

-- ---- the drain

no_more : (files more : List Named) → more ≡ [] → files ++ more ≡ files
no_more files more none = ap (λ (l : List Named). files ++ l) none ∙ append-nil files

module _ (stanza : Text) (id : ArchiveId) (system : ℕ) (f : Nodes) (repo new_repo spool new_spool : View) (r : Result Drained (Halt PushFault))
    (drains : DrainsReady stanza id system f (end_of r) repo new_repo spool new_spool) (under_it : IsUnderCurrent stanza id repo.now) where
  pub all_runs : (d : Drained) → r ≡ Ok d → On (one (IsDrainOf f true)) (λ command. DisksEffect Whole stanza command to_end repo spool new_repo new_spool)
  all_runs d is =
      let x = subst (λ (k : Result Drained (Halt PushFault)). DrainsReady stanza id system f (end_of k) repo new_repo spool new_spool) is drains in (
        ArchivePushDrain (kept_files x.named.log.drains.entries ++ x.named.log.drains.more),
        record { names = x.names; files = kept_files x.named.log.drains.entries ++ x.named.log.drains.more; ready = λ e. x.ready refl; of_names = x.named.log.drains.of_names; is = refl },
        x.named.log.runs under_it,
      )

  pub part_runs : (h : Halt PushFault) → r ≡ Err h → (reached : Reached) → stopped ≡ reached →
      On (one (IsDrainOf f false)) (λ command. DisksEffect Whole stanza command reached repo spool new_repo new_spool)
  part_runs h is reached at =
      let x = subst (λ (k : Result Drained (Halt PushFault)). DrainsReady stanza id system f (end_of k) repo new_repo spool new_spool) is drains in (
        ArchivePushDrain (kept_files x.named.log.drains.entries ++ x.named.log.drains.more),
        record { names = x.names; files = kept_files x.named.log.drains.entries ++ x.named.log.drains.more; ready = λ e. cc; of_names = x.named.log.drains.of_names; is = refl },
        subst (λ (k : Reached). DisksEffect Whole stanza (ArchivePushDrain (kept_files x.named.log.drains.entries ++ x.named.log.drains.more)) k repo spool new_repo new_spool) at
            (x.named.log.runs under_it),
      )

  -- what is known of the current cluster
  module _ (known : Control) (of_system : system ≡ known.system) (c : ClusterId) (of_id : id ≡ id_kept c) (current : IsCurrent stanza repo.now (Some f) known c) where
    -- what is found under the id of the current cluster
    found_by : (o : Option Content) (es : List Entry) → IfSome o (λ g. AreFound f stanza id system g es) → IfSome o (λ g. AreFound f stanza (id_kept c) known.system g es)
    found_by None es h = tt
    found_by (Some g) es h = subst (λ (n : ℕ). AreFound f stanza (id_kept c) n g es) of_system (subst (λ (i : ArchiveId). AreFound f stanza i system g es) of_id h)

    pub all_drained : (d : Drained) → r ≡ Ok d → (lines : Text) → lines ≡ [] →
        (drained : IsDrained stanza f known repo.now new_repo.now spool.now new_spool.now lines) × DisksEffect Whole stanza (ArchivePushDrain (kept_files drained.entries)) to_end repo spool new_repo new_spool
    all_drained d is lines none =
        let x = subst (λ (k : Result Drained (Halt PushFault)). DrainsReady stanza id system f (end_of k) repo new_repo spool new_spool) is drains in
        let e = x.named.log.drains in
        let files = no_more (kept_files e.entries) e.more (e.ended refl).1 in
        let drained : IsDrained stanza f known repo.now new_repo.now spool.now new_spool.now lines = record {
          current = c;
          of = current;
          names = x.names;
          ready = x.ready refl;
          entries = e.entries;
          all = (e.ended refl).0;
          fates = λ s some represents. subst (λ (n : ℕ). AreFates f s (id_kept c) n e.entries) of_system (subst (λ (i : ArchiveId). AreFates f s i system e.entries) of_id (e.fates s some represents));
          found = λ some. found_by new_repo.now e.entries (e.puts.found x.apart some);
          puts = subst (λ (i : ArchiveId). NowChanges (PutsFiles stanza i (kept_files e.entries)) repo.now new_repo.now) of_id
              (subst (λ (l : List Named). NowChanges (PutsFiles stanza id l) repo.now new_repo.now) files e.puts.puts.now);
          stores = λ s some represents. subst (λ (i : ArchiveId). NowRepresents stanza (Some (stored s i (kept_files e.entries))) new_repo.now) of_id
              (stores_now stanza id (kept_files e.entries) repo new_repo (subst (λ (l : List Named). GoesByStores stanza id (kept_files e.entries) l repo new_repo) (e.ended refl).1 e.repository) s some represents);
          held = x.named.held;
          cleared = x.named.cleared refl;
          marked = e.whole refl;
          quiet = none;
        } in
        (drained, subst (λ (l : List Named). DisksEffect Whole stanza (ArchivePushDrain l) to_end repo spool new_repo new_spool) files (x.named.log.runs under_it))

    pub all_lasting : (d : Drained) → r ≡ Ok d → IsSynced stanza repo → IsSome repo.now → AreLasting stanza f known new_repo
    all_lasting d is synced some =
        let x = subst (λ (k : Result Drained (Halt PushFault)). DrainsReady stanza id system f (end_of k) repo new_repo spool new_spool) is drains in
        let e = x.named.log.drains in
        record {
          current = c;
          of = record {
            shows = current.shows;
            current = current_after stanza id (kept_files e.entries ++ e.more) repo new_repo e.puts.puts some c current.current;
            same = current.same;
          };
          names = x.names;
          ready = x.ready refl;
          entries = e.entries;
          all = (e.ended refl).0;
          found = found_by new_repo.now e.entries (e.puts.found x.apart some);
          alike = λ n at. subst (λ (i : ArchiveId). IsAlikeAt (IsPathOf stanza i n.name) new_repo) of_id (e.puts.alike x.apart synced some n at);
        }

  -- ---- after every answer

  pub each_held : (c : ClusterId) → id ≡ id_kept c → GivesHeld stanza (id_kept c) repo new_repo spool new_spool
  each_held c of_id = subst (λ (i : ArchiveId). GivesHeld stanza i repo new_repo spool new_spool) of_id (drains.named.log.receipts drains.apart)

  pub each_put : (c : ClusterId) → id ≡ id_kept c → (files : List Named) × ((n : Named) → In n files → IsReadyAs f n) × Puts stanza (id_kept c) files repo new_repo
  each_put c of_id =
      let e = drains.named.log.drains in (
        kept_files e.entries ++ e.more,
        ready_as f drains.names (kept_files e.entries ++ e.more) e.of_names drains.each,
        subst (λ (i : ArchiveId). Puts stanza i (kept_files e.entries ++ e.more) repo new_repo) of_id e.puts.puts,
      )

pub if_known : (nodes : Option Nodes) (P : Nodes → Type 0) → ((f : Nodes) → nodes ≡ Some f → P f) → IfSome nodes P
if_known None P h = tt
if_known (Some f) P h = h f refl

-- where it did nothing
pub none_held : (stanza : Text) (id : ArchiveId) (nodes : Option Nodes) (repo spool : View) → IfSome nodes (λ f. GivesHeld stanza id repo repo spool spool)
none_held stanza id None repo spool = tt
none_held stanza id (Some f) repo spool = gives_none stanza id repo repo spool

pub none_put : (stanza : Text) (id : ArchiveId) (nodes : Option Nodes) (repo : View) → IfSome nodes (λ f. (files : List Named) × ((n : Named) → In n files → IsReadyAs f n) × Puts stanza id files repo repo)
none_put stanza id None repo = tt
none_put stanza id (Some f) repo = ([], λ n at. absurd at, puts_still stanza id [] repo repo (still_self repo))

-- ---- how it ends

module _ (stanza : Text) (id : ArchiveId) (nodes : Option Nodes) (now : Option Content) (a b c : Type 0) where
  -- no refusal of a drain comes before its first step
  pub stops : (h : Halt PushFault) → HaltCause (EndCauseReady stanza id nodes now) (rose_in (three a b c)) h → stopped ≡ reached_by drain_early (Err h)
  stops (Refused (SegmentName name)) cause = refl
  stops (Refused (PathOutside path)) cause = refl
  stops (Refused (StanzaMismatch kept found)) cause = absurd cause.2
  stops (Refused (SegmentMissing path)) cause = refl
  stops (Refused (TooLong name limit)) cause = refl
  stops (Refused (HeaderForm info)) cause = refl
  stops (Refused (SegmentSize known found)) cause = refl
  stops (Refused (HeaderMismatch kept found)) cause = refl
  stops (Refused (Ambiguous first second)) cause = refl
  stops (Refused (Duplicate kept found)) cause = refl
  stops (Failed objects.Repo) cause = refl
  stops (Failed objects.Spool) cause = refl
  stops (Failed objects.TheDataFolder) cause = refl
  stops (Failed objects.Server) cause = absurd cause
  stops (Failed objects.Others) cause = refl
  stops (Failed objects.Clock) cause = refl
  stops (Failed objects.Locks) cause = refl
  stops (Failed objects.Config) cause = refl
  stops (Failed objects.Output) cause = refl
  stops NoMemory cause = refl

  pub ends_for : (repo : Option Content) (known : Control) (k : ClusterId) → id ≡ id_kept k → IsCurrent stanza repo nodes known k → (h : Halt PushFault) →
      HaltCause (EndCauseReady stanza id nodes now) (rose_in (three a b c)) h → HaltCause (DrainCause stanza repo now nodes) (rose_in (three a b c)) h
  ends_for repo known k of_id current (Refused fault) cause =
      inr (known, k, current, subst (λ (i : ArchiveId). EndCauseReady stanza i nodes now fault) of_id cause)
  ends_for repo known k of_id current (Failed object) cause = cause
  ends_for repo known k of_id current NoMemory cause = cause
