-- One push as a step of others, from the clauses of the push.
use Rattle.std.proofs.Common.{◌≡◌, inl, inr, Bool, true, false, List, [], ◌∷◌, Option, Some, None, Result, Ok, Err, refl, ◌∙◌, sym, subst}
use Rattle.std.specs.Prelude.{IfSome, IsSome, IsTrue, IfOk, IfErr, OnOk}
use Rattle.sha1.specs.Sha1.{sha1}
use Rattle.base_text.specs.Sum.{IsSum}
use Rattle.base_devices.specs.Content.{Content, is_below}
use Rattle.base_devices.specs.Moments.{View, LeavesNoMore}
use Rattle.base_devices.specs.Crash.{NowChanges, AllOf}
use Rattle.base_devices.proofs.Nows.{known_as}
use Rattle.base_devices.proofs.Steps.{goes_on}
use Rattle.base_disk.proofs.Changes.{only_on}
use Rattle.base_model.specs.declared.clusters.Cluster.{Cluster}
use Rattle.base_model.specs.declared.wal.ArchiveId.{ArchiveId}
use Rattle.base_model.specs.declared.wal.Segment.{Segment}
use Rattle.base_model.specs.declared.wal.ArchiveName.TheVariants.{Segment as Whole}
use Rattle.base_model.specs.Text.{Text, In}
use Rattle.base_model.specs.Names.{archive_folder}
use Rattle.base_model.specs.Repository.{Archived, Stanza, Repository, id_of, IsSound, IsSoundStanza}
use Rattle.base_model.specs.Represents.{Represents, HasStanza, IsArchivePlace, IsArchiveFile}
use Rattle.base_model.specs.Steps.{Step, Named, ArchivePushAsync, after, after_all, steps_of, push_of, has_other}
use Rattle.base_model.specs.Log.{Done, IsDone, Reaches, KeepsRepository}
use Rattle.base_model.specs.Now.{NowRepresents}
use Rattle.base_model.specs.Steady.{IsSteady, IsBegun, EachImage, PassesOnly}
use Rattle.base_model.proofs.ArchiveNames.{same_id, same_sum}
use Rattle.base_model.proofs.Created.{put_same}
use Rattle.base_model.proofs.Logged.{part_keeps, part_between, whole_keeps}
use Rattle.base_model.proofs.Pushed.{at_known}
use Rattle.base_model.proofs.Segments.{IsPartOfPush, NowPartOfPush}
use Rattle.base_model.proofs.Steady.{steady_rests}
use Rattle.base_model.proofs.Temporary.{file_lasts}
use Rattle.base_model.proofs.Turned.{turn_with, turn_sound, push_is_turn, turn_steady, turn_now_part, turn_now_whole, idle_does, idle_carries, idle_passes}
use Rattle.archive_lookup.specs.declared.stored.fault.ArchiveFault.{ArchiveFault}
use Rattle.archive_lookup.specs.declared.stored.fault.ArchiveFault.TheVariants.{HeaderForm, SegmentSize, HeaderMismatch, Ambiguous, Duplicate, NotFound, SegmentDamaged, TooLong, TooMany, Disk, NoMemory}
use Rattle.archive_store.specs.declared.pushing.Pushed.{Pushed}
use Rattle.archive_store.specs.declared.pushing.Pushed.TheVariants.{New, Same}
use Rattle.archive_lookup.specs.Causes.{OnFinding}
use Rattle.archive_lookup.specs.Stored.{archived_file, archive_path, Stores, StoresNone, StoresOnly, ChangesArchive}
use Rattle.archive_lookup.specs.Turns.{GoesByTurn, IsUnder}
use Rattle.memory_processes.specs.declared.pushing.PushResult.{PushResult}
use Rattle.memory_processes.specs.Pushing.{went_of, was_tried, MayEnd, IfStored, turn_of, HasFile}
use Rattle.memory_processes.specs.Others.{idle_turn}
use Rattle.archive_store.specs.Pushes.{LeavesPart, LeavesAll, LeavesFile}
use Rattle.archive_store.specs.Still.{IsStill, rests_none}
use Rattle.archive_store.proofs.FilePushed.{pushed_unlike}
use Rattle.archive_store.proofs.Placed.{still_only}
use Rattle.archive_store.proofs.PushedEach.{part_now, part_moves, all_now, all_steady}

-- ---- a segment that is stored states the stanza, and that its id is of the history

some_text : (o : Option Text) → IsSome o → (x : Text) × (o ≡ Some x)
some_text None some = cc
some_text (Some x) some = (x, refl)

abbrev pub IsStoredIn : Text → ArchiveId → Segment → Content → Type 0
IsStoredIn stanza id segment f = (sum : Text) × Stores stanza id (Whole segment) f sum

module _ (stanza : Text) (id : ArchiveId) (segment : Segment) (fits : (sum : Text) → IsSum sum → IsArchivePlace id (Whole segment) sum) where
  file_at : (sum : Text) → IsSum sum → IsArchiveFile stanza (archive_path stanza id (Whole segment) sum)
  file_at sum is = record { id = id; file = Whole segment; sum = sum; fits = fits sum is; is = refl }

  not_none : (o : Option Text) → o ≡ None → IsSome o → ⊥
  not_none None e some = cc
  not_none (Some x) e some = cc

  has_stanza : (f : Content) (r : Repository) → IsStoredIn stanza id segment f → Represents stanza f r → (s : Stanza) × (r ≡ Some s)
  has_stanza f None stored vacant = absurd (not_none (f (archive_path stanza id (Whole segment) stored.0)) (vacant.archived (archive_path stanza id (Whole segment) stored.0) (file_at stored.0 stored.1.0)) stored.1.1)
  has_stanza f (Some s) stored represents = (s, refl)

  of_history : (f : Content) (s : Stanza) → IsStoredIn stanza id segment f → HasStanza stanza f s → IsSoundStanza s → (c : Cluster) × In c s.history × (id ≡ id_of c)
  of_history f s stored h sound =
      let name = archive_path stanza id (Whole segment) stored.0 in
      let text = some_text (f name) stored.1.1 in
      let x = (h.archived name text.0 (file_at stored.0 stored.1.0)).0 text.1 in
      let c = sound.ids x.0 x.1 in
      (c.0, c.1, sym (same_id stanza x.0 id segment (sha1 x.0.bytes) stored.0 (h.named x.0 x.1) (fits stored.0 stored.1.0) (sym x.2)) ∙ c.2)

-- ---- a step of others without the file

module _ (stanza : Text) (id : ArchiveId) (segment : Segment) (bytes : Text) (v b : View) (rests : LeavesNoMore v b) (same : b.now ≡ v.now) where
  under_none : (ended : Bool) (r : Repository) → IsUnder r (turn_of id segment bytes false ended)
  under_none ended None = refl
  under_none ended (Some s) = inl refl

  pub turn_none : (ended : Bool) → GoesByTurn stanza (turn_of id segment bytes false ended) v b
  turn_none ended = record {
    does = idle_does id ended stanza ended v.now b.now same;
    carries = idle_carries id ended stanza v b rests same ended;
    between = idle_passes id ended stanza v b rests same;
    under = λ r some sound now. under_none ended r;
  }

-- a step of others in which nothing is pushed
pub turn_idle : (stanza : Text) (v : View) → GoesByTurn stanza idle_turn.turn v v
turn_idle stanza v = turn_none stanza (record { version = 0; number = 0 }) (record { timeline = 0; log = 0; seg = 0 }) [] v v (rests_none v) refl true

-- ---- a step of others with the file

module _ (stanza : Text) (id : ArchiveId) (first segment : Segment) (bytes : Text) (v b d : View) (rests : LeavesNoMore v b) (same : b.now ≡ v.now)
    (begun : (q : Repository) (log : List Done) → KeepsRepository stanza q log v → IsSome v.now → IsBegun stanza q log b)
    (fits : (sum : Text) → IsSum sum → IsArchivePlace id (Whole first) sum)
    (stored : IfSome v.now (λ f. (sum : Text) × Stores stanza id (Whole first) f sum))
    (leaves : LeavesPart stanza id (Whole segment) bytes b d) where
  abbrev n : Named
  n = record { name = Whole segment; bytes = bytes }

  abbrev a : Archived
  a = archived_file id (Whole segment) bytes

  part : (s : Stanza) → IsSome b.now → NowRepresents stanza (Some s) b.now → NowPartOfPush stanza s (archived_file id (Whole segment) bytes) d.now
  part = part_now stanza id (Whole segment) bytes b d leaves

  moves : (s : Stanza) → IsSteady stanza (Some s) b → IsSome b.now → EachImage stanza (IsPartOfPush stanza s (archived_file id (Whole segment) bytes)) b d
  moves = part_moves stanza id (Whole segment) bytes b d leaves

  some_b : IsSome v.now → IsSome b.now
  some_b some = subst (λ (o : Option Content). IsSome o) (sym same) some

  stored_in : (f : Content) → v.now ≡ Some f → IsStoredIn stanza id first f
  stored_in f is = at_known (IsStoredIn stanza id first) v.now f is stored

  -- the repository has a stanza, which is sound
  record At (q : Repository) (log : List Done) : Type 0 where
    stanza_is : Stanza
    reached : Reaches q log (Some stanza_is)
    sound : IsSoundStanza stanza_is
    steady : IsSteady stanza (Some stanza_is) b
    cluster : (c : Cluster) × In c stanza_is.history × (id ≡ id_of c)

  at_of : (q : Repository) (log : List Done) (r : Repository) → IsSome v.now → Reaches q log r → IsSound r → IsSteady stanza r b → At q log
  at_of q log r some reached sound steady =
      let f = known_as v.now some in
      let represents = steady.represents f.0 (inl (same ∙ f.1)) in
      let x = has_stanza stanza id first fits f.0 r (stored_in f.0 f.1) represents in
      by x.0 (subst (λ (k : Repository). Reaches q log k) x.1 reached) (subst IsSound x.1 sound) (subst (λ (k : Repository). IsSteady stanza k b) x.1 steady) f.0 f.1
    where
      by : (s : Stanza) → Reaches q log (Some s) → IsSoundStanza s → IsSteady stanza (Some s) b → (f : Content) → v.now ≡ Some f → At q log
      by s reached sound steady f is = record {
        stanza_is = s;
        reached = reached;
        sound = sound;
        steady = steady;
        cluster = of_history stanza id first fits f s (stored_in f is) (steady.represents f (inl (same ∙ is))) sound;
      }

  at : (q : Repository) (log : List Done) → KeepsRepository stanza q log v → IsSome v.now → At q log
  at q log keeps some = let x = begun q log keeps some in at_of q log x.repository some x.reached x.sound x.steady

  abbrev begun_at : (q : Repository) (log : List Done) → At q log → IsBegun stanza q log b
  begun_at q log x = record { repository = Some x.stanza_is; reached = x.reached; sound = x.sound; steady = x.steady }

  now_b : (r : Repository) → NowRepresents stanza r v.now → NowRepresents stanza r b.now
  now_b r now = subst (λ (o : Option Content). NowRepresents stanza r o) (sym same) now

  -- the stanza that the disk has
  stanza_at : (r : Repository) → IsSome v.now → NowRepresents stanza r v.now → (s : Stanza) × (r ≡ Some s)
  stanza_at r some now = let f = known_as v.now some in has_stanza stanza id first fits f.0 r (stored_in f.0 f.1) (now.represents f.0 f.1)

  under : (ended : Bool) (r : Repository) → IsSome v.now → IsSound r → NowRepresents stanza r v.now → IsUnder r (turn_of id segment bytes true ended)
  under ended None some sound now = let x = stanza_at None some now in let e : ◌≡◌ {A = Repository} None (Some x.0) = x.1 in cc
  under ended (Some s) some sound now = let f = known_as v.now some in inr (of_history stanza id first fits f.0 s (stored_in f.0 f.1) (now.represents f.0 f.1) sound)

  sound_at : (ended : Bool) (q : Repository) (log : List Done) (x : At q log) (whole : Bool) (done : List Step) → IsDone whole done (steps_of (ArchivePushAsync (turn_with id n ended ∷ [])) (Some x.stanza_is)) → IsSound (after (Some x.stanza_is) done)
  sound_at ended q log x whole done is = turn_sound id n x.stanza_is ended x.sound x.cluster.0 x.cluster.1 x.cluster.2 whole done is

  between : (ended : Bool) → PassesOnly stanza (ArchivePushAsync (turn_with id n ended ∷ [])) v d
  between ended = record {
    between = λ q log some keeps.
        let x = at q log keeps some in
        part_between stanza (ArchivePushAsync (turn_with id n ended ∷ [])) q log v b rests same keeps (begun_at q log x) (sound_at ended q log x) (IsPartOfPush stanza x.stanza_is a) (push_is_turn id n x.stanza_is stanza ended) d (moves x.stanza_is x.steady (some_b some));
  }

  -- where it may have been pushed
  pub turn_tried : GoesByTurn stanza (turn_of id segment bytes true false) v d
  turn_tried = record {
    does = record {
      known = λ some. leaves.now.known (some_b some);
      does = λ r from some now. part_of r some now (stanza_at r some now);
    };
    carries = record {
      keeps = λ q log some keeps.
          let x = at q log keeps some in
          part_keeps stanza (ArchivePushAsync (turn_with id n false ∷ [])) q log v b rests same keeps (begun_at q log x) (sound_at false q log x) (IsPartOfPush stanza x.stanza_is a) (push_is_turn id n x.stanza_is stanza false) d (moves x.stanza_is x.steady (some_b some));
    };
    between = between false;
    under = under false;
  }
    where
      part_of : (r : Repository) → IsSome v.now → NowRepresents stanza r v.now → (s : Stanza) × (r ≡ Some s)
          → (done : List Step) × IsDone false done (steps_of (ArchivePushAsync (turn_with id n false ∷ [])) r) × NowRepresents stanza (after r done) d.now
      part_of r some now x =
          let P : Repository → Type 0 = λ k. (done : List Step) × IsDone false done (steps_of (ArchivePushAsync (turn_with id n false ∷ [])) k) × NowRepresents stanza (after k done) d.now in
          subst P (sym x.1) (turn_now_part id n x.0 stanza d.now (part x.0 (some_b some) (now_b (Some x.0) (subst (λ (k : Repository). NowRepresents stanza k v.now) x.1 now))))

  module _ (all : LeavesAll stanza id (Whole segment) bytes b d) where
    done : (s : Stanza) → IsSome b.now → NowRepresents stanza (Some s) b.now → NowRepresents stanza (Some (after_all s (push_of s (archived_file id (Whole segment) bytes)))) d.now
    done = all_now stanza id (Whole segment) bytes b d leaves all

    steady : (s : Stanza) → IsSteady stanza (Some s) b → IsSome b.now → IsSteady stanza (Some (after_all s (push_of s (archived_file id (Whole segment) bytes)))) d
    steady = all_steady stanza id (Whole segment) bytes b d leaves all

    -- where it was pushed, and no other is archived
    pub turn_ended : ((s : Stanza) → IsSome b.now → NowRepresents stanza (Some s) b.now → has_other (archived_file id (Whole segment) bytes) s.archived ≡ false)
        → GoesByTurn stanza (turn_of id segment bytes true true) v d
    turn_ended off = record {
      does = record {
        known = λ some. leaves.now.known (some_b some);
        does = λ r from some now. whole_of r some now (stanza_at r some now);
      };
      carries = record {
        keeps = λ q log some keeps.
            let x = at q log keeps some in
            whole_keeps stanza (ArchivePushAsync (turn_with id n true ∷ [])) q log v b rests same keeps (begun_at q log x) (sound_at true q log x) (IsPartOfPush stanza x.stanza_is a) (push_is_turn id n x.stanza_is stanza true) d (moves x.stanza_is x.steady (some_b some))
            (turn_steady id n x.stanza_is stanza d (off x.stanza_is (some_b some) (record { represents = λ f is. x.steady.represents f (inl is) })) (steady x.stanza_is x.steady (some_b some)));
      };
      between = between true;
      under = under true;
    }
      where
        whole_of : (r : Repository) → IsSome v.now → NowRepresents stanza r v.now → (s : Stanza) × (r ≡ Some s)
            → (done : List Step) × IsDone true done (steps_of (ArchivePushAsync (turn_with id n true ∷ [])) r) × NowRepresents stanza (after r done) d.now
        whole_of r some now x =
            let P : Repository → Type 0 = λ k. (done : List Step) × IsDone true done (steps_of (ArchivePushAsync (turn_with id n true ∷ [])) k) × NowRepresents stanza (after k done) d.now in
            let here = now_b (Some x.0) (subst (λ (k : Repository). NowRepresents stanza k v.now) x.1 now) in
            subst P (sym x.1) (turn_now_whole id n x.0 stanza d.now (off x.0 (some_b some) here) (done x.0 (some_b some) here))

    -- then all that is left has a file of its sum
    module _ (place : IsArchivePlace id (Whole segment) (sha1 bytes)) (there : (f : Content) → d.now ≡ Some f → IsSome (f (archive_path stanza id (Whole segment) (sha1 bytes)))) where
      pub turn_has : (q : Repository) (log : List Done) → IsSome v.now → KeepsRepository stanza q log v → HasFile stanza id segment (sha1 bytes) d
      turn_has q log some keeps f left =
          let x = at q log keeps some in
          let s2 = after_all x.stanza_is (push_of x.stanza_is a) in
          let steady2 = steady x.stanza_is x.steady (some_b some) in
          let f1 = known_as d.now (leaves.now.known (some_b some)) in
          let name = archive_path stanza id (Whole segment) (sha1 bytes) in
          let file : IsArchiveFile stanza name = record { id = id; file = Whole segment; sum = sha1 bytes; fits = place; is = refl } in
          let text = some_text (f1.0 name) (there f1.0 f1.1) in
          let h : HasStanza stanza f1.0 s2 = steady2.represents f1.0 (inl f1.1) in
          let g : HasStanza stanza f s2 = steady2.represents f left in
          let y = (h.archived name text.0 file).0 text.1 in
          (y.0.bytes, (g.archived name y.0.bytes file).1 (y.0, y.1, y.2, refl), same_sum stanza y.0 id segment (sha1 y.0.bytes) (sha1 bytes) (h.named y.0 y.1) place (sym y.2))

-- ---- by the push's answer

module _ (stanza : Text) (id : ArchiveId) (first segment : Segment) (bytes : Text) (v b d : View) (rests : LeavesNoMore v b) (same : b.now ≡ v.now)
    (begun : (q : Repository) (log : List Done) → KeepsRepository stanza q log v → IsSome v.now → IsBegun stanza q log b)
    (fits : (sum : Text) → IsSum sum → IsArchivePlace id (Whole first) sum)
    (stored : IfSome v.now (λ f. (sum : Text) × Stores stanza id (Whole first) f sum))
    (leaves : LeavesPart stanza id (Whole segment) bytes b d) where
  tried : GoesByTurn stanza (turn_of id segment bytes true false) v d
  tried = turn_tried stanza id first segment bytes v b d rests same begun fits stored leaves

  none : (ended : Bool) → IsStill b d → GoesByTurn stanza (turn_of id segment bytes false ended) v d
  none ended h = turn_none stanza id segment bytes v d (rests_on h.time) (h.now ∙ same) ended
    where
      rests_on : LeavesNoMore b d → LeavesNoMore v d
      rests_on later = goes_on (λ _ _. ⊥) (λ _. ⊥) v b d rests later

  refused_none : (fault : ArchiveFault) (ended : Bool) → OnFinding fault (IsStill b d) → MayEnd (went_of (Err fault)) ended → GoesByTurn stanza (turn_of id segment bytes (was_tried (went_of (Err fault))) ended) v d
  refused_none (HeaderForm i) ended h may = none ended h
  refused_none (SegmentSize t f) ended h may = none ended h
  refused_none (HeaderMismatch k f) ended h may = none ended h
  refused_none (Ambiguous x y) ended h may = none ended h
  refused_none (Duplicate k f) ended h may = none ended h
  refused_none NotFound ended h may = none ended h
  refused_none (SegmentDamaged t f) ended h may = none ended h
  refused_none (TooLong n l) ended h may = none ended h
  refused_none (TooMany l) ended h may = none ended h
  refused_none Disk ended h may = subst (λ (e : Bool). GoesByTurn stanza (turn_of id segment bytes true e) v d) (sym may) tried
  refused_none NoMemory ended h may = subst (λ (e : Bool). GoesByTurn stanza (turn_of id segment bytes true e) v d) (sym may) tried

  pub turn_by : (place : (sum : Text) → IsSum sum → IsArchivePlace id (Whole segment) sum) (r : Result Pushed ArchiveFault) → OnOk r (LeavesFile stanza id (Whole segment) (Some bytes) b d)
      → IfOk r (λ p. p ≡ New → IfSome b.now (StoresNone stanza id (Whole segment)))
      → IfOk r (λ p. p ≡ Same → IfSome b.now (λ f. StoresOnly stanza id (Whole segment) f (sha1 bytes)) × (d.now ≡ b.now))
      → IfErr r (λ e. OnFinding e (IsStill b d))
      → (ended : Bool) → MayEnd (went_of r) ended → GoesByTurn stanza (turn_of id segment bytes (was_tried (went_of r)) ended) v d
  turn_by place (Ok p) file new kept refused true may = turn_ended stanza id first segment bytes v b d rests same begun fits stored leaves file.all
      (pushed_unlike stanza id (Whole segment) place bytes b.now p new (λ e. (kept e).0))
  turn_by place (Ok p) file new kept refused false may = tried
  turn_by place (Err fault) file new kept refused ended may = refused_none fault ended refused may

  module _ (place : IsArchivePlace id (Whole segment) (sha1 bytes)) where
    name_there : (p : Pushed) → (p ≡ New → NowChanges (AllOf ((archive_path stanza id (Whole segment) (sha1 bytes), bytes) ∷ [])) b.now d.now)
        → (p ≡ Same → IfSome b.now (λ f. StoresOnly stanza id (Whole segment) f (sha1 bytes)) × (d.now ≡ b.now)) → IsSome v.now → (f : Content) → d.now ≡ Some f → IsSome (f (archive_path stanza id (Whole segment) (sha1 bytes)))
    name_there New written kept some f is =
        let name = archive_path stanza id (Whole segment) (sha1 bytes) in
        let f0 = known_as b.now (subst (λ (o : Option Content). IsSome o) (sym same) some) in
        let alike = (written refl).goes f0.0 f f0.1 is in
        let file : IsArchiveFile stanza name = record { id = id; file = Whole segment; sum = sha1 bytes; fits = place; is = refl } in
        subst (λ (o : Option Text). IsSome o) (sym (alike.same name (file_lasts stanza name file) ∙ put_same name (Some bytes) f0.0)) refl
    name_there Same written kept some f is =
        let k = kept refl in
        (at_known (λ f. StoresOnly stanza id (Whole segment) f (sha1 bytes)) b.now f (sym k.1 ∙ is) k.0).stored.1

    pub has_by : (r : Result Pushed ArchiveFault) → OnOk r (LeavesFile stanza id (Whole segment) (Some bytes) b d)
        → IfOk r (λ p. p ≡ New → NowChanges (AllOf ((archive_path stanza id (Whole segment) (sha1 bytes), bytes) ∷ [])) b.now d.now)
        → IfOk r (λ p. p ≡ Same → IfSome b.now (λ f. StoresOnly stanza id (Whole segment) f (sha1 bytes)) × (d.now ≡ b.now))
        → IfStored (went_of r) ((q : Repository) (log : List Done) → IsSome v.now → KeepsRepository stanza q log v → HasFile stanza id segment (sha1 bytes) d)
    has_by (Ok p) file written kept = λ q log some keeps.
        turn_has stanza id first segment bytes v b d rests same begun fits stored leaves file.all place (name_there p written kept some) q log some keeps
    has_by (Err (HeaderForm i)) file written kept = tt
    has_by (Err (SegmentSize t f)) file written kept = tt
    has_by (Err (HeaderMismatch k f)) file written kept = tt
    has_by (Err (Ambiguous x y)) file written kept = tt
    has_by (Err (Duplicate k f)) file written kept = tt
    has_by (Err NotFound) file written kept = tt
    has_by (Err (SegmentDamaged t f)) file written kept = tt
    has_by (Err (TooLong n l)) file written kept = tt
    has_by (Err (TooMany l)) file written kept = tt
    has_by (Err Disk) file written kept = tt
    has_by (Err NoMemory) file written kept = tt

-- what was done as the push's answer reports
pub went_turn : (stanza : Text) (id : ArchiveId) (segment : Segment) (bytes : Text) (v d : View) (went known : PushResult) → went ≡ known
    → ((ended : Bool) → MayEnd known ended → GoesByTurn stanza (turn_of id segment bytes (was_tried known) ended) v d)
    → (ended : Bool) → MayEnd went ended → GoesByTurn stanza (turn_of id segment bytes (was_tried went) ended) v d
went_turn stanza id segment bytes v d went known is turn ended =
    let P : PushResult → Type 0 = λ k. MayEnd k ended → GoesByTurn stanza (turn_of id segment bytes (was_tried k) ended) v d in subst P (sym is) (turn ended)

pub went_stored : (went known : PushResult) (P : Type 0) → went ≡ known → IfStored known P → IfStored went P
went_stored went known P is h = subst (λ (k : PushResult). IfStored k P) (sym is) h

-- a stanza that was begun is still so after calls that only read
pub begun_still : (stanza : Text) (a b : View) → LeavesNoMore a b → b.now ≡ a.now → (q : Repository) (log : List Done) → IsBegun stanza q log a → IsBegun stanza q log b
begun_still stanza a b rests same q log x = record { repository = x.repository; reached = x.reached; sound = x.sound; steady = steady_rests stanza x.repository a b rests same x.steady }

-- a push after calls that only read
pub only_after : (stanza : Text) (v b d : View) → LeavesNoMore v b → b.now ≡ v.now → ChangesArchive stanza b d → ChangesArchive stanza v d
only_after stanza v b d rests same only = only_on (λ n. IsTrue (is_below (archive_folder stanza) n)) v b d (still_only stanza v b rests same) only
