-- stanza-create by its parts.
use Rattle.std.proofs.Common.{◌≡◌, ◌⊎◌, inl, inr, ℕ, List, [], ◌∷◌, Option, Some, None, Bool, true, false, refl, sym, ◌∙◌, subst}
use Rattle.std.specs.Prelude.{IfSome, IsSome, Result, Ok, Err, IfErr}
use Rattle.base_devices.specs.Content.{Content}
use Rattle.base_devices.specs.Moments.{View, LeavesNoMore}
use Rattle.base_model.specs.declared.clusters.Cluster.{Cluster}
use Rattle.base_model.specs.Text.{Text}
use Rattle.base_model.specs.Repository.{Repository, IsSound}
use Rattle.base_model.specs.Names.{archive_info}
use Rattle.base_model.specs.Pair.{PairIs, PairAbsent}
use Rattle.base_model.specs.InfoFiles.{IsArchiveText}
use Rattle.base_model.specs.Represents.{Represents}
use Rattle.base_model.specs.Steady.{IsSteady, EachImage}
use Rattle.base_model.specs.Steps.{Step, Command, step, after, all_of, steps_of, Create, StanzaCreate, Reading}
use Rattle.base_model.specs.Log.{IsDone}
use Rattle.base_model.specs.Now.{NowRepresents}
use Rattle.base_model.proofs.Done.{create_part as now_part}
use Rattle.base_model.proofs.Logged.{create_part, create_whole, create_sound}
use Rattle.server_talk.specs.declared.session.fault.ServerFault.{ServerFault}
use Rattle.repo_stanza.specs.declared.control.Control.{Control}
use Rattle.repo_stanza.specs.declared.creation.Created.{Created}
use Rattle.repo_stanza.specs.declared.creation.Created.TheVariants.{New, Same}
use Rattle.repo_stanza.specs.declared.fault.StanzaFault.{StanzaFault}
use Rattle.repo_stanza.specs.Causes.{CreateCause as StanzaCause, OnContent, IfNew, IfSame}
use Rattle.repo_stanza.specs.Pairs.{LacksStanza, HasStanzaOf}
use Rattle.archive_store.specs.Still.{IsStill}
use Rattle.cmd_types.specs.declared.stages.object.Object.{Object}
use Rattle.cmd_types.specs.declared.stages.object.Object.TheVariants as objects
use Rattle.cmd_types.specs.declared.stages.halt.Halt.{Halt}
use Rattle.cmd_types.specs.declared.stages.halt.Halt.TheVariants.{Refused, Failed, NoMemory}
use Rattle.cmd_types.specs.Halts.{HaltCause, Only}
use Rattle.cmd_types.specs.Reached.{reached_by}
use Rattle.cmd_types.specs.Risen.{none, rose_in}
use Rattle.cmd_types.specs.declared.stages.plan.SyncScope.TheVariants.{Whole}
use Rattle.cmd_types.specs.DisksEffect.{to_end, turned_back, stopped, OnNone, IsPart, DoesPart, DoesWhole, RepoEffect}
use Rattle.cmd_types.proofs.Doing.{rests_part}
use Rattle.cmd_stanza_create.specs.declared.fault.CreateFault.{CreateFault}
use Rattle.cmd_stanza_create.specs.declared.fault.CreateFault.TheVariants as faults
use Rattle.cmd_stanza_create.specs.Server.{Server}
use Rattle.cmd_stanza_create.specs.Talking.{AskCause, Closes}
use Rattle.cmd_stanza_create.specs.Creating.{create_early, of_server, IsStanzaFault, Damaged, Differs, Mismatch, Lost, Found, Unsaid, Broken, Starved, MakeCause, CreateCause, CreateCloses}
use Rattle.cmd_stanza_create.proofs.Undone.{only_rose}

-- ---- what was done

module _ (stanza : Text) (c : Cluster) (first : c.id ≡ 1) (a d : View) (known : IsSome a.now → IsSome d.now)
    (part : (r : Repository) → IsSome a.now → NowRepresents stanza r a.now →
    NowRepresents stanza r d.now ⊎ NowRepresents stanza (step r (Create c)) d.now)
    (moves : (r : Repository) → IsSteady stanza r a → IsSome a.now →
    EachImage stanza (λ g. Represents stanza g r ⊎ Represents stanza g (step r (Create c))) a d) where
  abbrev command : Command
  command = StanzaCreate (Some c)

  -- the stanza is as before or made, and sound
  sound_part : (r : Repository) → IsSound r → (g : Content) →
      Represents stanza g r ⊎ Represents stanza g (step r (Create c)) → IsPart stanza command r g
  sound_part r sound g p = let x = create_part stanza c r g p in
      (x.0, x.1, x.2, create_sound (Some c) first r false x.0 sound x.1)

  moves_part : (r : Repository) → IsSound r →
      EachImage stanza (λ g. Represents stanza g r ⊎ Represents stanza g (step r (Create c))) a d →
      EachImage stanza (IsPart stanza command r) a d
  moves_part r sound m = record {
    later = m.later;
    past = m.past;
    past_unsynced = m.past_unsynced;
    known = m.known;
    fixed = m.fixed;
    places = m.places;
    leaves = λ t f lo hi leaves. sound_part r sound f (m.leaves t f lo hi leaves);
  }

  does_part : DoesPart Whole stanza command a d
  does_part = record {
    part = now_part stanza c a.now a.now d.now refl known part;
    goes = λ r some steady sound. moves_part r sound (moves r steady some);
  }

  whole_of : (r : Repository) → NowRepresents stanza (step r (Create c)) d.now →
      (done : List Step) × IsDone true done (steps_of command r) × NowRepresents stanza (after r done) d.now
  whole_of None h = (Create c ∷ [], refl, h)
  whole_of (Some s) h = ([], refl, h)

  does_whole :
      ((r : Repository) → IsSome a.now → NowRepresents stanza r a.now → NowRepresents stanza (step r (Create c)) d.now) →
      ((r : Repository) → IsSteady stanza r a → IsSome a.now → IsSteady stanza (step r (Create c)) d) →
      DoesWhole Whole stanza command a d
  does_whole done made = record {
    done = record { known = known; does = λ r from some now. whole_of r (done r some now) };
    ends = λ r some steady sound. (
      create_whole stanza c r d (made r steady some),
      create_sound (Some c) first r true (all_of (steps_of command r)) sound refl,
    );
  }

  -- it was made or kept
  pub made_does :
      ((r : Repository) → IsSome a.now → NowRepresents stanza r a.now → NowRepresents stanza (step r (Create c)) d.now) →
      ((r : Repository) → IsSteady stanza r a → IsSome a.now → IsSteady stanza (step r (Create c)) d) →
      RepoEffect Whole stanza command to_end a d
  made_does done made = record { part = does_part; whole = does_whole done made; turned = tt }

  refused_does : LeavesNoMore a d → d.now ≡ a.now → RepoEffect Whole stanza command turned_back a d
  refused_does rests same = record { part = does_part; whole = tt; turned = rests_part Whole stanza Reading a d rests same }

  stopped_does : RepoEffect Whole stanza command stopped a d
  stopped_does = record { part = does_part; whole = tt; turned = tt }

  -- it was refused, or stopped
  pub halted_does : (e : StanzaFault) (halt : Halt CreateFault) → IsStanzaFault e halt → OnContent e (LeavesNoMore a d) →
      OnContent e (d.now ≡ a.now) → RepoEffect Whole stanza command (reached_by create_early (Err halt)) a d
  halted_does e halt (Damaged name main copy) rests same = refused_does rests same
  halted_does e halt (Differs at) rests same = refused_does rests same
  halted_does e halt (Mismatch kept found) rests same = refused_does rests same
  halted_does e halt (Lost label text is) rests same = refused_does rests same
  halted_does e halt (Found name) rests same = refused_does rests same
  halted_does e halt (Unsaid label) rests same = stopped_does
  halted_does e halt Broken rests same = stopped_does
  halted_does e halt Starved rests same = stopped_does

-- a refusal leaves the disk still
pub halted_still : (a d : View) (e : StanzaFault) (halt : Halt CreateFault) → IsStanzaFault e halt →
    OnContent e (LeavesNoMore a d) → OnContent e (d.now ≡ a.now) → OnNone (reached_by create_early (Err halt)) (IsStill a d)
halted_still a d e halt (Damaged name main copy) rests same = record { now = same; time = rests }
halted_still a d e halt (Differs at) rests same = record { now = same; time = rests }
halted_still a d e halt (Mismatch kept found) rests same = record { now = same; time = rests }
halted_still a d e halt (Lost label text is) rests same = record { now = same; time = rests }
halted_still a d e halt (Found name) rests same = record { now = same; time = rests }
halted_still a d e halt (Unsaid label) rests same = tt
halted_still a d e halt Broken rests same = tt
halted_still a d e halt Starved rests same = tt

-- ---- of a stanza that was there

not_absent : {V : Type 0} (IsTextOf : V → Text → Type 0) (f : Content) (name : Text) (v : V) → PairAbsent f name →
    PairIs IsTextOf f name v → ⊥
not_absent IsTextOf f name v absent (inl m) = let e : ◌≡◌ {A = Option Text} None (Some m.0) = sym absent.0 ∙ m.1 in cc
not_absent IsTextOf f name v absent (inr m) =
    let e : ◌≡◌ {A = Option Text} None (Some m.1.0) = sym absent.1 ∙ m.1.1 in cc

not_both : {P : Type 0} (stanza : Text) (known : Control) (now : Option Content) → IsSome now →
    IfSome now (LacksStanza stanza) → IfSome now (HasStanzaOf stanza known) → P
not_both stanza known None some lacks has = cc
not_both stanza known (Some f) some lacks has =
    absurd (not_absent IsArchiveText f (archive_info stanza) has.archive lacks.archive has.pairs.archive)

-- where there was none, the members are those of a new stanza
pub members_of : (created : Created) (stanza : Text) (known : Control) (old : Option Content) (Q : Type 0) →
    IfNew created (IsSome old → Q) → IfSame created (IfSome old (HasStanzaOf stanza known)) →
    IfSome old (LacksStanza stanza) → IsSome old → Q
members_of New stanza known old Q new same lacks some = new some
members_of Same stanza known old Q new same lacks some = not_both stanza known old some lacks same

pub was_of : (created : Created) (P Q : Type 0) → IfNew created P → IfSame created Q → P ⊎ Q
was_of New P Q new same = inl new
was_of Same P Q new same = inr same

-- ---- why it ends

pub make_cause : (stanza : Text) (known : Control) (repo : Option Content) (rose : Type 0) (e : StanzaFault)
    (halt : Halt CreateFault) → IsStanzaFault e halt → StanzaCause stanza known repo rose e →
    HaltCause (MakeCause stanza known repo) (Only objects.Repo rose) halt
make_cause stanza known repo rose e halt (Damaged name main copy) h = h
make_cause stanza known repo rose e halt (Differs at) h = h
make_cause stanza known repo rose e halt (Mismatch kept found) h = h
make_cause stanza known repo rose e halt (Lost label text is) h = (label, is, h)
make_cause stanza known repo rose e halt (Found name) h = h
make_cause stanza known repo rose e halt (Unsaid label) h = tt
make_cause stanza known repo rose e halt Broken h = (refl, h)
make_cause stanza known repo rose e halt Starved h = tt

module _ (stanza : Text) (known : Control) (server : Option Server) (repo : Option Content)
    (pending : Option (List ℕ)) (repo_rose server_rose : Type 0) where
  abbrev Rises : Object → Type 0
  Rises = rose_in (record none { repo = repo_rose; server = server_rose })

  abbrev Cause : Halt CreateFault → Type 0
  Cause = HaltCause (CreateCause stanza known server repo pending) Rises

  cause_of : (asked : Halt ServerFault) →
      HaltCause (AskCause server known.system pending) (Only objects.Server server_rose) asked → Cause (of_server asked)
  cause_of (Refused fault) h = h
  cause_of (Failed object) h = only_rose objects.Server object Rises server_rose (λ x. x) h
  cause_of NoMemory h = tt

  pub asked_cause : (asked : Halt ServerFault) (halt : Halt CreateFault) → halt ≡ of_server asked →
      HaltCause (AskCause server known.system pending) (Only objects.Server server_rose) asked → Cause halt
  asked_cause asked halt is h = subst Cause (sym is) (cause_of asked h)

  pub made_cause : {T : Type 0} (result : Result T (Halt CreateFault)) (rose : Type 0) → (rose → repo_rose) →
      IfErr result (HaltCause (MakeCause stanza known repo) (Only objects.Repo rose)) → IfErr result Cause
  made_cause (Ok x) rose to h = tt
  made_cause (Err (Refused (faults.Server fault))) rose to h = absurd h
  made_cause (Err (Refused (faults.InfoDamaged name main copy))) rose to h = h
  made_cause (Err (Refused (faults.HistoryDiffers at))) rose to h = h
  made_cause (Err (Refused (faults.StanzaMismatch kept found))) rose to h = h
  made_cause (Err (Refused (faults.ArchiveLost label))) rose to h = h
  made_cause (Err (Refused (faults.FilesFound name))) rose to h = h
  made_cause (Err (Failed object)) rose to h = only_rose objects.Repo object Rises rose to h
  made_cause (Err NoMemory) rose to h = tt

-- a refusal of the repository's isn't one of the server's
pub made_closes : {T : Type 0} (stanza : Text) (known : Control) (repo : Option Content) (failed : Object → Type 0)
    (rose : Type 0) (new : Option (List ℕ)) (result : Result T (Halt CreateFault)) →
    IfErr result (HaltCause (MakeCause stanza known repo) failed) → IfErr result (CreateCloses rose new)
made_closes stanza known repo failed rose new (Ok x) h = tt
made_closes stanza known repo failed rose new (Err (Refused (faults.Server fault))) h = absurd h
made_closes stanza known repo failed rose new (Err (Refused (faults.InfoDamaged name main copy))) h = tt
made_closes stanza known repo failed rose new (Err (Refused (faults.HistoryDiffers at))) h = tt
made_closes stanza known repo failed rose new (Err (Refused (faults.StanzaMismatch kept found))) h = tt
made_closes stanza known repo failed rose new (Err (Refused (faults.ArchiveLost label))) h = tt
made_closes stanza known repo failed rose new (Err (Refused (faults.FilesFound name))) h = tt
made_closes stanza known repo failed rose new (Err (Failed object)) h = tt
made_closes stanza known repo failed rose new (Err NoMemory) h = tt

-- ---- where the server ends the command

closes_of : (rose : Type 0) (new : Option (List ℕ)) (asked : Halt ServerFault) → Closes rose new asked →
    CreateCloses rose new (of_server asked)
closes_of rose new (Refused fault) h = h
closes_of rose new (Failed object) h = tt
closes_of rose new NoMemory h = tt

pub asked_closes : (rose : Type 0) (new : Option (List ℕ)) (asked : Halt ServerFault) (halt : Halt CreateFault) →
    halt ≡ of_server asked → Closes rose new asked → CreateCloses rose new halt
asked_closes rose new asked halt is h = subst (CreateCloses rose new) (sym is) (closes_of rose new asked h)
