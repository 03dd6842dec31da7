-- A step of others that pushes one file, from what its push did, and a step of others that pushes none.
use Rattle.std.proofs.Common.{◌≡◌, ◌⊎◌, ⊎_elim, inl, inr, List, [], ◌∷◌, ◌++◌, map, Option, Some, None, refl, ap, ◌∙◌, sym, subst, Bool, true, false}
use Rattle.std.specs.Prelude.{IsSome, if◌then◌else◌}
use Rattle.std.proofs.lemmas.List.{append-nil}
use Rattle.sha1.specs.Sha1.{sha1}
use Rattle.base_devices.specs.Content.{Content}
use Rattle.base_devices.specs.Moments.{View, LeavesNoMore}
use Rattle.base_model.specs.declared.clusters.Cluster.{Cluster}
use Rattle.base_model.specs.declared.wal.ArchiveId.{ArchiveId}
use Rattle.base_model.specs.Text.{Text, In}
use Rattle.base_model.specs.InfoFiles.{IsBackupText}
use Rattle.base_model.specs.Names.{backup_info}
use Rattle.base_model.specs.Pair.{PairIs}
use Rattle.base_model.specs.Values.{BackupInfo, Manifest}
use Rattle.base_model.specs.Repository.{Backup, Archived, Drained, Stanza, Repository, id_of, IsSound, IsSoundStanza, AreSound}
use Rattle.base_model.specs.Represents.{Represents, HasStanza, IsManifestOf, IsPending, backup_value}
use Rattle.base_model.specs.Steps.{Step, Move, One, Command, ArchivePushAsync, Turn, Named, Note, Push, IsPartOf, IsSomeOf, after, after_all, all_of, steps_of, changed, push_of, store_of, archived_of, is_archived, has_other}
use Rattle.base_model.specs.Log.{IsDone, Done, RepresentsAfter}
use Rattle.base_model.specs.Now.{NowRepresents, NowEffect}
use Rattle.base_model.specs.Steady.{IsSteady, CarriesOn, PassesOnly}
use Rattle.base_model.proofs.Done.{part_none}
use Rattle.base_model.proofs.Logged.{IsPart, rests_still, rests_between, one_part}
use Rattle.base_model.proofs.PushDone.{all_one, after_some}
use Rattle.base_model.proofs.Pushed.{new_no_other}
use Rattle.base_model.proofs.PushSound.{pushed}
use Rattle.base_model.proofs.Segments.{IsPartOfPush, NowPartOfPush}

-- ---- a note, which no name shows

module _ (d : Drained) (s : Stanza) where
  abbrev noted : Stanza
  noted = changed (Note d) s

  value_same : (c : Option Cluster) → backup_value s c ≡ backup_value noted c
  value_same None = refl
  value_same (Some c) = refl

  pending_same : (c : Option Cluster) → IsPending s c → IsPending noted c
  pending_same None p = tt
  pending_same (Some c) p = p

  manifest_same : (stanza : Text) (f : Content) (b : Backup) (m : Manifest) → IsManifestOf stanza f s b m → IsManifestOf stanza f noted b m
  manifest_same stanza f b m of = record {
    label = of.label;
    kind = of.kind;
    prior = of.prior;
    start = of.start;
    stop = of.stop;
    cluster = of.cluster;
    wal = of.wal;
    choices = of.choices;
    folders = of.folders;
    paths = of.paths;
    files = of.files;
    references = of.references;
    ancestors = of.ancestors;
  }

  pub note_represents : (stanza : Text) (f : Content) → HasStanza stanza f s → HasStanza stanza f (changed (Note d) s)
  note_represents stanza f h = record {
    archive_pair = h.archive_pair;
    pending = h.pending;
    is_pending = pending_same h.pending h.is_pending;
    backup_pair = let P : BackupInfo → Type 0 = λ v. PairIs IsBackupText f (backup_info stanza) v in subst P (value_same h.pending) h.backup_pair;
    manifests = λ b at. let x = h.manifests b at in (x.0, x.1, manifest_same stanza f b x.0 x.2);
    archived = h.archived;
    named = h.named;
  }

  note_steady : (stanza : Text) (v : View) → IsSteady stanza (Some s) v → IsSteady stanza (Some noted) v
  note_steady stanza v h = record { fixed = h.fixed; places = h.places; represents = λ f leaves. note_represents stanza f (h.represents f leaves) }

  backups_noted : (earlier backups : List Backup) → AreSound s earlier backups → AreSound noted earlier backups
  backups_noted earlier [] h = tt
  backups_noted earlier (b ∷ backups) h = (record { cluster = h.0.cluster; span = h.0.span; prior = h.0.prior; segments = h.0.segments }, backups_noted (earlier ++ b ∷ []) backups h.1)

  note_sound : IsSoundStanza s → IsSoundStanza noted
  note_sound h = record { some = h.some; numbers = h.numbers; neighbours = h.neighbours; ids = h.ids; apart = h.apart; backups = backups_noted [] s.backups h.backups }

after_note : (d : Drained) (s : Stanza) (steps : List Step) → after (Some s) (steps ++ Note d ∷ []) ≡ Some (changed (Note d) (after_all s steps))
after_note d s [] = refl
after_note d s (t ∷ steps) = after_note d (changed t s) steps

-- ---- parts of moves that come one after another

-- all of them
ones_part : (steps : List Step) → IsPartOf steps (map One steps)
ones_part [] = refl
ones_part (t ∷ steps) = inr (steps, refl, ones_part steps)

-- a part of some steps and a last one
part_last : (done steps : List Step) (last : Step) → IsPartOf done (map One (steps ++ last ∷ [])) → IsPartOf done (map One steps) ⊎ (done ≡ steps ++ last ∷ [])
part_last done [] last p = one_part last done p
part_last done (t ∷ steps) last p = ⊎_elim
    (λ (e : done ≡ []). inl (inl e))
    (λ (q : (more : List Step) × (done ≡ t ∷ more) × IsPartOf more (map One (steps ++ last ∷ []))). ⊎_elim
    (λ h. inl (inr (q.0, q.1, h)))
    (λ (e : q.0 ≡ steps ++ last ∷ []). inr (q.1 ∙ ap (λ (l : List Step). t ∷ l) e))
    (part_last q.0 steps last q.2)) p

-- ---- a step of others with one file

abbrev pub turn_with : ArchiveId → Named → Bool → Turn
turn_with id n ended = record { id = id; pushed = n ∷ []; ended = ended }

module _ (id : ArchiveId) (n : Named) (s : Stanza) where
  abbrev a : Archived
  a = archived_of id n

  abbrev d : Drained
  d = record { name = n.name; sum = sha1 n.bytes }

  -- what the push does
  abbrev push : List Step
  push = push_of s a

  -- that, and the note
  abbrev both : List Step
  both = push ++ Note d ∷ []

  abbrev store : List Step
  store = store_of s id n

  abbrev moves_of : Bool → List Move
  moves_of ended = steps_of (ArchivePushAsync (turn_with id n ended ∷ [])) (Some s)

  ended_moves : moves_of true ≡ map One store
  ended_moves = append-nil (map One (store ++ [])) ∙ ap (map One) (append-nil store)

  ended_all : all_of (moves_of true) ≡ store
  ended_all = ap all_of ended_moves ∙ all_one store

  -- the store of a file of which no other is archived
  pub store_both : has_other (archived_of id n) s.archived ≡ false → store_of s id n ≡ push_of s (archived_of id n) ++ Note (record { name = n.name; sum = sha1 n.bytes }) ∷ []
  store_both off = by (has_other a s.archived) off
    where
      by : (other : Bool) → other ≡ false → (if other then [] else both) ≡ both
      by true e = cc
      by false e = refl

  -- the store of any file
  pub store_either : (store_of s id n ≡ []) ⊎ (store_of s id n ≡ push_of s (archived_of id n) ++ Note (record { name = n.name; sum = sha1 n.bytes }) ∷ [])
  store_either = by (has_other a s.archived)
    where
      by : (other : Bool) → ((if other then [] else both) ≡ []) ⊎ ((if other then [] else both) ≡ both)
      by true = inl refl
      by false = inr refl

  -- a part of the push is nothing, or the push of a file that is then noted
  nothing_or_push : (done : List Step) → IsPartOf done (map One push) → (done ≡ []) ⊎ ((store ≡ both) × (done ≡ push))
  nothing_or_push done p = by (is_archived a s.archived) refl p
    where
      by : (archived : Bool) → is_archived a s.archived ≡ archived → IsPartOf done (map One (if archived then [] else Push a ∷ []))
          → (done ≡ []) ⊎ ((store ≡ both) × (done ≡ (if archived then [] else Push a ∷ [])))
      by true is p = inl p
      by false is p = ⊎_elim (λ (e : done ≡ []). inl e) (λ (e : done ≡ Push a ∷ []). inr (store_both (new_no_other a s.archived is), e)) (one_part (Push a) done p)

  -- a part of the store
  part_of_store : (done : List Step) → IsPartOf done (map One store) → (done ≡ []) ⊎ ((done ≡ push) ⊎ (done ≡ store))
  part_of_store done p = ⊎_elim
      (λ (e : store ≡ []). inl (subst (λ (l : List Step). IsPartOf done (map One l)) e p))
      (λ (e : store ≡ both). ⊎_elim
      (λ (q : IsPartOf done (map One push)). ⊎_elim (λ (k : done ≡ []). inl k) (λ (k : (store ≡ both) × (done ≡ push)). inr (inl k.1)) (nothing_or_push done q))
      (λ (q : done ≡ both). inr (inr (q ∙ sym e)))
      (part_last done push (Note d) (subst (λ (l : List Step). IsPartOf done (map One l)) e p)))
      store_either

  -- what a step of others may have done
  dones : (ended whole : Bool) (done : List Step) → IsDone whole done (moves_of ended) → (done ≡ []) ⊎ ((done ≡ push) ⊎ (done ≡ store))
  dones true true done is = inr (inr (is ∙ ended_all))
  dones true false done is = part_of_store done (subst (λ (m : List Move). IsPartOf done m) ended_moves is)
  dones false true done is = inr (inr (is ∙ append-nil (store ++ []) ∙ append-nil store))
  dones false false done is = ⊎_elim
      (λ (p : IsSomeOf done (store ∷ [])). ⊎_elim (λ (e : done ≡ []). inl e) (λ (q : (rest : List Step) × (done ≡ store ++ rest) × (rest ≡ [])). inr (inr (q.1 ∙ ap (λ (l : List Step). store ++ l) q.2 ∙ append-nil store))) p)
      (λ (q : (rest : List Step) × (done ≡ (store ++ []) ++ rest) × (rest ≡ [])). inr (inr (q.1 ∙ ap (λ (l : List Step). (store ++ []) ++ l) q.2 ∙ append-nil (store ++ []) ∙ append-nil store)))
      is

  -- it keeps a stanza sound in whose history the id is
  pub turn_sound : (ended : Bool) → IsSoundStanza s → (c : Cluster) → In c s.history → id ≡ id_of c →
      (whole : Bool) (done : List Step) → IsDone whole done (steps_of (ArchivePushAsync (turn_with id n ended ∷ [])) (Some s)) → IsSound (after (Some s) done)
  turn_sound ended h c at under whole done is = ⊎_elim
      (λ (e : done ≡ []). to [] e h)
      (λ e. ⊎_elim (λ (k : done ≡ push). to push k after_push) (λ (k : done ≡ store). to store k after_store) e)
      (dones ended whole done is)
    where
      to : (steps : List Step) → done ≡ steps → IsSound (after (Some s) steps) → IsSound (after (Some s) done)
      to steps e sound = subst (λ (l : List Step). IsSound (after (Some s) l)) (sym e) sound

      after_push : IsSound (after (Some s) push)
      after_push = pushed s a true push h c at under (sym (all_one push))

      after_both : IsSound (after (Some s) both)
      after_both = subst IsSound (sym (after_note d s push)) (note_sound d (after_all s push) (subst IsSound (after_some s push) after_push))

      after_store : IsSound (after (Some s) store)
      after_store = ⊎_elim
          (λ (e : store ≡ []). subst (λ (l : List Step). IsSound (after (Some s) l)) (sym e) h)
          (λ (e : store ≡ both). subst (λ (l : List Step). IsSound (after (Some s) l)) (sym e) after_both)
          store_either

  store_represents : (stanza : Text) (g : Content) → store ≡ both → Represents stanza g (Some (after_all s push)) → Represents stanza g (after (Some s) store)
  store_represents stanza g is h = subst (λ (r : Repository). Represents stanza g r) (sym (ap (λ (l : List Step). after (Some s) l) is ∙ after_note d s push)) (note_represents d (after_all s push) stanza g h)

  -- a part of the push is a part of the step of others
  pub push_is_turn : (stanza : Text) (ended : Bool) (g : Content) → IsPartOfPush stanza s (archived_of id n) g → IsPart stanza (ArchivePushAsync (turn_with id n ended ∷ [])) (Some s) g
  push_is_turn stanza ended g p = ⊎_elim
      (λ (e : p.0 ≡ []). ([], part_none (moves_of ended), subst (λ (l : List Step). Represents stanza g (after (Some s) l)) e p.2))
      (λ (e : (store ≡ both) × (p.0 ≡ push)). (
        store,
        whole_part ended,
        store_represents stanza g e.0 (subst (λ (r : Repository). Represents stanza g r) (after_some s push) (subst (λ (l : List Step). Represents stanza g (after (Some s) l)) e.1 p.2)),
      ))
      (nothing_or_push p.0 p.1)
    where
      whole_part : (e : Bool) → IsPartOf store (moves_of e)
      whole_part true = subst (λ (m : List Move). IsPartOf store m) (sym ended_moves) (ones_part store)
      whole_part false = inl (inr ([], sym (append-nil store), refl))

  -- all of it is all of the step of others, where no other file of its name is archived
  pub turn_steady : (stanza : Text) (v : View) → has_other (archived_of id n) s.archived ≡ false → IsSteady stanza (Some (after_all s (push_of s (archived_of id n)))) v
      → IsSteady stanza (after (Some s) (all_of (steps_of (ArchivePushAsync (turn_with id n true ∷ [])) (Some s)))) v
  turn_steady stanza v off h = subst (λ (r : Repository). IsSteady stanza r v)
      (sym (ap (λ (l : List Step). after (Some s) l) (ended_all ∙ store_both off) ∙ after_note d s push)) (note_steady d (after_all s push) stanza v h)

  -- what the disk then holds
  abbrev NowDone : Text → Bool → Bool → Option Content → Type 0
  NowDone stanza ended whole new = (done : List Step) × IsDone whole done (moves_of ended) × NowRepresents stanza (after (Some s) done) new

  note_now : (stanza : Text) (new : Option Content) → store ≡ both → NowRepresents stanza (Some (after_all s push)) new → NowRepresents stanza (after (Some s) store) new
  note_now stanza new is now = record { represents = λ f at. store_represents stanza f is (now.represents f at) }

  pub turn_now_part : (stanza : Text) (new : Option Content) → NowPartOfPush stanza s (archived_of id n) new
      → (done : List Step) × IsDone false done (steps_of (ArchivePushAsync (turn_with id n false ∷ [])) (Some s)) × NowRepresents stanza (after (Some s) done) new
  turn_now_part stanza new p = ⊎_elim
      (λ (e : p.0 ≡ []). ([], inl (inl refl), subst (λ (l : List Step). NowRepresents stanza (after (Some s) l) new) e p.2))
      (λ (e : (store ≡ both) × (p.0 ≡ push)). (
        store,
        inl (inr ([], sym (append-nil store), refl)),
        note_now stanza new e.0 (subst (λ (r : Repository). NowRepresents stanza r new) (after_some s push) (subst (λ (l : List Step). NowRepresents stanza (after (Some s) l) new) e.1 p.2)),
      ))
      (nothing_or_push p.0 p.1)

  pub turn_now_whole : (stanza : Text) (new : Option Content) → has_other (archived_of id n) s.archived ≡ false → NowRepresents stanza (Some (after_all s (push_of s (archived_of id n)))) new
      → (done : List Step) × IsDone true done (steps_of (ArchivePushAsync (turn_with id n true ∷ [])) (Some s)) × NowRepresents stanza (after (Some s) done) new
  turn_now_whole stanza new off now = (all_of (moves_of true), refl, subst (λ (l : List Step). NowRepresents stanza (after (Some s) l) new) (sym ended_all) (note_now stanza new (store_both off) now))

-- ---- a step of others with none

module _ (id : ArchiveId) (ended : Bool) where
  abbrev idle : Command
  idle = ArchivePushAsync (record { id = id; pushed = []; ended = ended } ∷ [])

  idle_all : (r : Repository) → all_of (steps_of (ArchivePushAsync (record { id = id; pushed = []; ended = ended } ∷ [])) r) ≡ []
  idle_all None = refl
  idle_all (Some s) = by ended
    where
      by : (e : Bool) → all_of (steps_of (ArchivePushAsync (record { id = id; pushed = []; ended = e } ∷ [])) (Some s)) ≡ []
      by true = refl
      by false = refl

  idle_done : (whole : Bool) (r : Repository) → IsDone whole [] (steps_of (ArchivePushAsync (record { id = id; pushed = []; ended = ended } ∷ [])) r)
  idle_done true r = sym (idle_all r)
  idle_done false r = part_none (steps_of idle r)

  pub idle_does : (stanza : Text) (whole : Bool) (old new : Option Content) → new ≡ old → NowEffect stanza (ArchivePushAsync (record { id = id; pushed = []; ended = ended } ∷ [])) whole old new
  idle_does stanza whole old new same = record {
    known = λ some. subst (λ (o : Option Content). IsSome o) (sym same) some;
    does = λ r from some now. ([], idle_done whole r, subst (λ (o : Option Content). NowRepresents stanza r o) (sym same) now);
  }

  module _ (stanza : Text) (a b : View) (rests : LeavesNoMore a b) (same : b.now ≡ a.now) where
    still : (whole : Bool) (q : Repository) (log : List Done) (f : Content) → RepresentsAfter stanza q log f → RepresentsAfter stanza q (record { command = idle; acknowledged = whole } ∷ log) f
    still whole q log f x = record { repository = x.repository; reached = (x.repository, x.reached, ([], refl, idle_done whole x.repository)); sound = x.sound; represents = x.represents }

    pub idle_carries : (whole : Bool) → CarriesOn stanza (ArchivePushAsync (record { id = id; pushed = []; ended = ended } ∷ [])) whole a b
    idle_carries whole = record {
      keeps = λ q log some keeps. let k = rests_still stanza q log a b rests same keeps in
          record { fixed = k.fixed; places = k.places; represents = λ f leaves. still whole q log f (k.represents f leaves) };
    }

    pub idle_passes : PassesOnly stanza (ArchivePushAsync (record { id = id; pushed = []; ended = ended } ∷ [])) a b
    idle_passes = record { between = λ q log some keeps. rests_between stanza idle q log a b rests same keeps }
