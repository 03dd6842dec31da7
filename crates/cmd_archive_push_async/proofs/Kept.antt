-- What a drain does to a log that the repository's disk and the spool's keep.
use Rattle.std.proofs.Common.{◌≡◌, ◌⊎◌, ⊎_elim, inl, inr, ℕ, zero, suc, ◌≤◌, ◌-◌, Bool, true, false, List, [], ◌∷◌, ◌++◌, map, Option, Some, None, refl, ap, ◌∙◌, sym, subst, arith}
use Rattle.std.specs.Prelude.{IsSome, slice_get}
use Rattle.std.proofs.lemmas.List.{append-nil}
use Rattle.sha1.specs.Sha1.{sha1}
use Rattle.base_devices.specs.Content.{Content}
use Rattle.base_devices.specs.Moments.{View}
use Rattle.base_devices.specs.Crash.{Leaves}
use Rattle.base_devices.proofs.Nows.{known_as}
use Rattle.base_disk.proofs.Images.{Law}
use Rattle.base_model.specs.declared.clusters.Cluster.{Cluster}
use Rattle.base_model.specs.declared.wal.ArchiveId.{ArchiveId}
use Rattle.base_model.specs.declared.wal.ArchiveName.{ArchiveName}
use Rattle.base_model.specs.Text.{Text, In}
use Rattle.base_model.specs.Fields.{at_number}
use Rattle.base_model.specs.Repository.{Stanza, Repository, Drained, IsSound, IsSoundStanza, id_of, current_number}
use Rattle.base_model.specs.Represents.{Represents, HasStanza, stored_name}
use Rattle.base_model.specs.Steps.{Step, Create, Upgrade, Push, Note, AddBackup, Condemn, Forget, Move, One, Named, Command, IsPartOf, after, after_all, all_of, changed, steps_of, push_of, store_of, archived_of}
use Rattle.base_model.specs.Log.{Done, Reaches, IsDone, IsDrained, KeepsSpool}
use Rattle.base_model.specs.Now.{NowRepresents}
use Rattle.base_model.specs.Steady.{IsSteady, IsBegun, EachImage}
use Rattle.base_model.proofs.Done.{part_none}
use Rattle.base_model.proofs.Logged.{no_step}
use Rattle.base_model.proofs.Made.{now_of}
use Rattle.base_model.proofs.PushDone.{after_some}
use Rattle.base_model.proofs.Pushed.{file_of}
use Rattle.base_model.proofs.Turned.{note_represents, turn_sound}
use Rattle.base_model.proofs.Waited.{all_after}
use Rattle.archive_lookup.specs.Stored.{archive_path}
use Rattle.archive_lookup.specs.Turns.{HadReceipt, IsStoredBy}
use Rattle.archive_lookup.proofs.Noted.{all_keep_notes, note_of}
use Rattle.base_crash_lists.specs.Trace.{HasReceiptsOf}
use Rattle.cmd_types.specs.declared.stages.plan.SyncScope.TheVariants.{Whole}
use Rattle.cmd_types.specs.DisksEffect.{IsPart, DoesPart, DoesWhole, SpoolEffect, DisksEffect}
use Rattle.archive_spool.specs.Marks.{GivesMarks}
use Rattle.archive_spool.proofs.Receipts.{marks_receipts, marks_synced}
use Rattle.cmd_archive_push_async.specs.declared.files.push_marks.Drained.{Drained as Counted}
use Rattle.cmd_archive_push_async.specs.Keeping.{IsCurrentId, IsUnderCurrent, GivesStored, reached_of}
use Rattle.cmd_archive_push_async.specs.Storing.{store_steps, stored, IsPartOfStores, IsArchivedIn, GoesByStores}
use Rattle.cmd_archive_push_async.proofs.Stores.{IsStore, AreStores, stored_after, steps_store, after_following, part_split, all_is_part, part_archived, after_done, following_after, in_left}
use Rattle.cmd_archive_push_async.proofs.Commands.{StoresAs}
use Rattle.cmd_archive_push_async.proofs.Goings.{moves_as, stores_steady, stores_now}

-- ---- stores keep a stanza sound

one_history : (t : Step) (s : Stanza) → IsStore t → (changed t s).history ≡ s.history
one_history (Create c) s is = absurd is
one_history (Upgrade c) s is = absurd is
one_history (Push b) s is = refl
one_history (Note d) s is = refl
one_history (AddBackup b) s is = absurd is
one_history (Condemn t) s is = absurd is
one_history (Forget b) s is = absurd is

all_history : (steps : List Step) (s : Stanza) → AreStores steps → (after_all s steps).history ≡ s.history
all_history [] s are = refl
all_history (t ∷ steps) s are = all_history steps (changed t s) are.1 ∙ one_history t s are.0

module _ (id : ArchiveId) (c : Cluster) (under : id ≡ id_of c) where
  store_sound : (s : Stanza) (n : Named) → IsSoundStanza s → In c s.history → (done : List Step) → IsPartOf done (map One (store_of s id n)) → IsSound (after (Some s) done)
  store_sound s n sound at done p = turn_sound id n s true sound c at under false done
      (subst (λ (m : List Move). IsPartOf done m) (sym (append-nil (map One (store_of s id n ++ [])) ∙ ap (map One) (append-nil (store_of s id n)))) p)

  store_whole : (s : Stanza) (n : Named) → IsSoundStanza s → In c s.history → IsSoundStanza (after_all s (store_of s id n))
  store_whole s n sound at = subst IsSound (after_some s (store_of s id n)) (store_sound s n sound at (store_of s id n) (all_is_part (store_of s id n)))

  store_history : (s : Stanza) (n : Named) → (after_all s (store_of s id n)).history ≡ s.history
  store_history s n = all_history (store_of s id n) s (subst AreStores (append-nil (store_of s id n)) (steps_store s id (n ∷ [])))

  pub stores_sound : (fs : List Named) (s : Stanza) → IsSoundStanza s → In c s.history → (done : List Step) → IsPartOf done (map One (store_steps s id fs)) → IsSound (after (Some s) done)
  stores_sound [] s sound at done p = no_step (Some s) done sound p
  stores_sound (n ∷ fs) s sound at done p = ⊎_elim
      (λ (q : IsPartOf done (map One (store_of s id n))). store_sound s n sound at done q)
      (λ (q : (rest : List Step) × (done ≡ store_of s id n ++ rest) × IsPartOf rest (map One (store_steps (after_all s (store_of s id n)) id fs))).
      let h = stores_sound fs (after_all s (store_of s id n)) (store_whole s n sound at) (subst (λ (l : List Cluster). In c l) (sym (store_history s n)) at) q.0 q.2 in
      subst (λ (d : List Step). IsSound (after (Some s) d)) (sym q.1) (subst IsSound (ap (λ (r : Repository). after r q.0) (sym (after_some s (store_of s id n))) ∙ sym (after_following (Some s) (store_of s id n) q.0)) h))
      (part_split done (store_of s id n) (store_steps (after_all s (store_of s id n)) id fs) p)

-- ---- its steps

listed_at : (xs : List Cluster) (i : ℕ) (x : Cluster) → slice_get xs i ≡ Some x → In x xs
listed_at [] i x e = cc
listed_at (y ∷ xs) zero x e = inl (let h : x ≡ y = cc in h)
listed_at (y ∷ xs) (suc i) x e = inr (listed_at xs i x e)

pub in_history : (s : Stanza) (c : Cluster) → at_number (current_number s) s.history ≡ Some c → In c s.history
in_history s c at = listed_at s.history (current_number s - 1) c at

module _ (fs : List Named) (id : ArchiveId) (command : Command) (stores : StoresAs id fs command) (s : Stanza) (at : IsCurrentId s id) where
  pub drain_sound : IsSoundStanza s → (done : List Step) → IsPartOf done (map One (store_steps s id fs)) → IsSound (after (Some s) done)
  drain_sound sound done p = stores_sound id at.0 at.2 fs s sound (in_history s at.0 at.1) done p

  -- a part of the stores is a part of the command
  pub drain_part : (stanza : Text) (g : Content) → IsSoundStanza s → IsPartOfStores stanza s id fs g → IsPart stanza command (Some s) g
  drain_part stanza g sound p =
      let x = stores.part (λ r. Represents stanza g r) (λ d s h. note_represents d s stanza g h) s at p.0 p.1 p.2 in (x.done, x.of_command, x.holds, drain_sound sound x.done x.of_stores)

  pub drain_all : all_of (steps_of command (Some s)) ≡ store_steps s id fs
  drain_all = sym (stores.all true s at)

  pub drain_after : after (Some s) (all_of (steps_of command (Some s))) ≡ Some (stored s id fs)
  drain_after = ap (after (Some s)) drain_all ∙ after_some s (store_steps s id fs)

-- ---- the repository

module _ (stanza : Text) (id : ArchiveId) (files more : List Named) (command : Command) (stores : StoresAs id (files ++ more) command) (b d : View)
    (current : IsUnderCurrent stanza id b.now) (goes : GoesByStores stanza id files more b d) where
  abbrev fs : List Named
  fs = files ++ more

  abbrev Does : Bool → Repository → Type 0
  Does whole r = (done : List Step) × IsDone whole done (steps_of command r) × NowRepresents stanza (after r done) d.now

  now_part : (s : Stanza) → IsCurrentId s id → IsSome b.now → NowRepresents stanza (Some s) b.now → Does false (Some s)
  now_part s at some now =
      let x = goes.now s some now in
      let y = stores.part (λ r. NowRepresents stanza r d.now) (λ n s h. record { represents = λ f is. note_represents n s stanza f (h.represents f is) }) s at
      (store_steps s id files ++ x.0) (after_done stanza s id files more x.0 x.1) (subst (λ (r : Repository). NowRepresents stanza r d.now) (following_after stanza s id files more x.0) x.2) in
      (y.done, y.of_command, y.holds)

  moves_in : (s : Stanza) → IsCurrentId s id → IsSoundStanza s → IsSteady stanza (Some s) b → IsSome b.now → EachImage stanza (IsPart stanza command (Some s)) b d
  moves_in s at sound steady some = moves_as stanza (IsPartOfStores stanza s id fs) (IsPart stanza command (Some s)) b d
      (λ g p. drain_part fs id command stores s at stanza g sound p) (goes.moves s steady some)

  -- the stanza of a steady disk
  at_steady : (r : Repository) → IsSome b.now → IsSteady stanza r b → (s : Stanza) × (r ≡ Some s) × IsCurrentId s id
  at_steady r some steady = let f = known_as b.now some in current.is r some (now_of stanza r b.now f.0 f.1 (steady.represents f.0 (inl f.1)))

  moves_at : (r : Repository) → IsSome b.now → IsSteady stanza r b → IsSound r → EachImage stanza (IsPart stanza command r) b d
  moves_at r some steady sound =
      let x = at_steady r some steady in
      subst (λ (k : Repository). EachImage stanza (IsPart stanza command k) b d) (sym x.1)
      (moves_in x.0 x.2 (subst IsSound x.1 sound) (subst (λ (k : Repository). IsSteady stanza k b) x.1 steady) some)

  pub drain_does : DoesPart Whole stanza command b d
  drain_does = record {
    part = record {
      known = goes.known;
      does = λ r from some now.
          let x = current.is r some now in
          subst (Does false) (sym x.1) (now_part x.0 x.2 some (subst (λ (k : Repository). NowRepresents stanza k b.now) x.1 now));
    };
    goes = moves_at;
  }

  module _ (none : more ≡ []) where
    all : GoesByStores stanza id (files ++ more) [] b d
    all = subst (λ (l : List Named). GoesByStores stanza id (files ++ l) [] b d) (sym none)
        (subst (λ (l : List Named). GoesByStores stanza id l [] b d) (sym (append-nil files)) (subst (λ (l : List Named). GoesByStores stanza id files l b d) none goes))

    now_whole : (s : Stanza) → IsCurrentId s id → IsSome b.now → NowRepresents stanza (Some s) b.now → Does true (Some s)
    now_whole s at some now = (
      store_steps s id fs,
      stores.all true s at,
      subst (λ (r : Repository). NowRepresents stanza r d.now) (sym (after_some s (store_steps s id fs))) (stores_now stanza id fs b d all s some now),
    )

    abbrev Ended : Repository → Type 0
    Ended r = IsSteady stanza (after r (all_of (steps_of command r))) d × IsSound (after r (all_of (steps_of command r)))

    ends_in : (s : Stanza) → IsCurrentId s id → IsSoundStanza s → IsSteady stanza (Some s) b → IsSome b.now → Ended (Some s)
    ends_in s at sound steady some = (
      subst (λ (r : Repository). IsSteady stanza r d) (sym (drain_after fs id command stores s at)) (stores_steady stanza id fs b d all s steady some),
      subst (λ (l : List Step). IsSound (after (Some s) l)) (sym (drain_all fs id command stores s at)) (drain_sound fs id command stores s at sound (store_steps s id fs) (all_is_part (store_steps s id fs))),
    )

    pub drain_does_all : DoesWhole Whole stanza command b d
    drain_does_all = record {
      done = record {
        known = goes.known;
        does = λ r from some now.
            let x = current.is r some now in
            subst (Does true) (sym x.1) (now_whole x.0 x.2 some (subst (λ (k : Repository). NowRepresents stanza k b.now) x.1 now));
      };
      ends = λ r some steady sound.
          let x = at_steady r some steady in
          subst Ended (sym x.1) (ends_in x.0 x.2 (subst IsSound x.1 sound) (subst (λ (k : Repository). IsSteady stanza k b) x.1 steady) some);
    }

  -- ---- what was stored is in all that is left, whatever the drain answers

  held_in : (f : Content) (s : Stanza) (n : Named) → HasStanza stanza f s → IsArchivedIn stanza s id n → (bytes : Text) × (f (archive_path stanza id n.name (sha1 n.bytes)) ≡ Some bytes) × (sha1 bytes ≡ sha1 n.bytes)
  held_in f s n h x = (
    x.file.bytes,
    ap f (sym x.lies) ∙ (h.archived (stored_name stanza x.file) x.file.bytes (file_of stanza x.file (h.named x.file x.archived))).1 (x.file, x.archived, refl, refl),
    x.sum,
  )

  stored_left : (s : Stanza) → IsSteady stanza (Some s) b → IsSome b.now → (n : Named) → In n files → (f : Content) → Leaves d d.moment f
      → (bytes : Text) × (f (archive_path stanza id n.name (sha1 n.bytes)) ≡ Some bytes) × (sha1 bytes ≡ sha1 n.bytes)
  stored_left s steady some n at f leaves =
      let x = goes.held s steady some n at in
      let e = goes.ends s steady some f leaves in
      let s1 = stored s id files in
      held_in f (after_all s1 e.0) n (subst (λ (r : Repository). Represents stanza f r) (after_some s1 e.0) e.2)
      (record { file = x.file; archived = part_archived x.file s1 id more e.0 e.1 x.archived; lies = x.lies; sum = x.sum })

  -- ---- the spool

  module _ (spool new_spool : View) (law : Law spool) (new_law : Law new_spool) (marks : GivesMarks stanza files spool new_spool) where
    abbrev Given : Bool → ArchiveName → Text → Type 0
    Given ended name sum = IsStoredBy stanza (record { id = id; pushed = files ++ more; ended = ended }) name sum d

    pub drain_gives : (ended : Bool) → GivesStored stanza (record { id = id; pushed = files ++ more; ended = ended }) b d spool new_spool
    drain_gives ended = record {
      each = λ r some known steady fixed m f lo hi leaves name sum fits receipt. ⊎_elim (λ (h : HadReceipt stanza spool name sum). inl h)
          (λ (h : (n : Named) × In n files × (n.name ≡ name) × (sha1 n.bytes ≡ sum)).
          let x = at_steady r some steady in
          let here = subst (λ (k : Repository). IsSteady stanza k b) x.1 steady in
          inr (subst (λ (k : ArchiveName). Given ended k sum) h.2
          (subst (λ (k : Text). Given ended h.0.name k) h.3 (record {
            file = h.0;
            pushed = in_left h.0 files more h.1;
            of_name = refl;
            of_sum = refl;
            stored = λ g left. stored_left x.0 here some h.0 h.1 g left;
          }))))
          (marks_receipts stanza files spool new_spool law new_law marks known fixed m f lo hi leaves name sum fits receipt);
    }

    abbrev entry : Bool → Done
    entry whole = record { command = command; acknowledged = whole }

    module _ (q : Repository) (log : List Done) (some : IsSome b.now) (known : IsSome spool.now) (begun : IsBegun stanza q log b) (keeps : KeepsSpool stanza q log spool) where
      abbrev IsNoted : Bool → ArchiveName → Text → Type 0
      IsNoted whole name sum = (r : Repository) × Reaches q (entry whole ∷ log) r × IsDrained r name sum

      current_now : (x : (s : Stanza) × (begun.repository ≡ Some s) × IsCurrentId s id) → NowRepresents stanza (Some x.0) b.now
      current_now x = let here = subst (λ (k : Repository). IsSteady stanza k b) x.1 begun.steady in record { represents = λ f is. here.represents f (inl is) }

      newly : (whole : Bool) (n : Named) → In n files → IsNoted whole n.name (sha1 n.bytes)
      newly whole n i =
          let x = at_steady begun.repository some begun.steady in (
            Some (stored x.0 id fs),
            (
              Some x.0,
              subst (λ (r : Repository). Reaches q log r) x.1 begun.reached,
              (store_steps x.0 id fs, sym (after_some x.0 (store_steps x.0 id fs)), stores.all whole x.0 x.2),
            ),
            subst (λ (k : Stanza). In (note_of n) k.drained) (sym (stored_after x.0 id files more))
                (all_keep_notes (note_of n) (store_steps (stored x.0 id files) id more) (stored x.0 id files) (goes.noted x.0 some (current_now x) n i)),
          )

      still : (whole : Bool) (name : ArchiveName) (sum : Text) (r : Repository) → Reaches q log r → IsDrained r name sum → IsNoted whole name sum
      still whole name sum None reached at = absurd at
      still true name sum (Some s) reached i =
          let steps = all_of (steps_of command (Some s)) in (
            Some (after_all s steps),
            (Some s, reached, (steps, sym (after_some s steps), refl)),
            all_keep_notes (record { name = name; sum = sum }) steps s i,
          )
      still false name sum (Some s) reached i = (Some s, (Some s, reached, ([], refl, part_none (steps_of command (Some s)))), i)

      -- at each moment each receipt of the spool is of a file that such a repository has stored
      receipts : (whole : Bool) (m : ℕ) (f : Content) → spool.moment ≤ m → m ≤ new_spool.moment → Leaves new_spool m f → HasReceiptsOf stanza q (entry whole ∷ log) f
      receipts whole m f lo hi leaves name sum fits receipt = ⊎_elim
          (λ (h : HadReceipt stanza spool name sum). let x = keeps.receipts h.0 h.1 name sum fits h.2 in still whole name sum x.0 x.1 x.2)
          (λ (h : (n : Named) × In n files × (n.name ≡ name) × (sha1 n.bytes ≡ sum)).
          subst (λ (k : Text). IsNoted whole name k) h.3 (subst (λ (k : ArchiveName). IsNoted whole k (sha1 h.0.bytes)) h.2 (newly whole h.0 h.1)))
          (marks_receipts stanza files spool new_spool law new_law marks known keeps.fixed m f lo hi leaves name sum fits receipt)

      keeps_on : (whole : Bool) → KeepsSpool stanza q (entry whole ∷ log) new_spool
      keeps_on whole = record {
        fixed = λ name fits. marks_synced stanza files spool new_spool marks keeps.fixed new_spool.moment marks.later (omega arith) name fits;
        receipts = λ f leaves. receipts whole new_spool.moment f marks.later (omega arith) leaves;
      }

    module _ (spool_known : IsSome spool.now → IsSome new_spool.now) where
      spool_goes : (whole : Bool) → SpoolEffect Whole stanza command whole b spool new_spool
      spool_goes whole = record {
        known = spool_known;
        past = record { later = marks.later; kept = marks.same; unsynced = marks.same_unsynced };
        keeps = λ q log some known begun keeps. keeps_on q log some known begun keeps whole;
        between = λ q log some known begun keeps m f lo hi leaves. receipts q log some known begun keeps false m f lo hi leaves;
      }

      -- the drain is the command that stores these files
      pub drain_runs : (end : Option Counted) → (IsSome end → more ≡ []) → DisksEffect Whole stanza command (reached_of end) b spool d new_spool
      drain_runs None ended = record { part = record { does = drain_does; marks = spool_goes false }; whole = tt; turned = tt }
      drain_runs (Some c) ended = record {
        part = record { does = drain_does; marks = spool_goes false };
        whole = record { does = drain_does_all (ended refl); marks = spool_goes true };
        turned = tt;
      }
