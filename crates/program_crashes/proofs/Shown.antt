-- From what `run` answers to what a call of a trace does, and to what it gave.
use Rattle.std.proofs.Common.{◌≡◌, ◌≢◌, ◌⊎◌, inl, inr, ℕ, zero, suc, ◌≤◌, Bool, true, false, List, [], Option, Result, Ok, Err, refl, sym, ◌∙◌, subst, arith}
use Rattle.std.specs.Prelude.{IsSome}
use Rattle.base_devices.specs.Content.{Content}
use Rattle.base_devices.specs.Moments.{View}
use Rattle.base_devices.proofs.Nows.{known_as}
use Rattle.base_model.specs.Repository.{Repository}
use Rattle.base_model.specs.Text.{Text}
use Rattle.base_model.specs.Steps.{Command}
use Rattle.base_model.specs.Log.{Done, KeepsRepository}
use Rattle.base_model.specs.Steady.{KeepsOn}
use Rattle.base_crash_lists.specs.Beside.{IsStanza, StaysBeside}
use Rattle.base_crash_lists.specs.Trace.{Call, Does, AreStill}
use Rattle.cmd_types.specs.declared.stages.outcome.Outcome.{Outcome}
use Rattle.cmd_types.specs.Plans.{Heals}
use Rattle.cmd_types.specs.DisksEffect.{Reached, to_end, OnAll, Leads, Passes, PassesReceipts, Takes}
use Rattle.cmd_types.specs.World.{World, Failed}
use Rattle.cmd_types.specs.declared.stages.object.Object.TheVariants.{Output}
use Rattle.options_read.specs.declared.usage.Usage.{Usage}
use Rattle.options_read.specs.Settings.{Resolved}
use Rattle.cmd_trait.specs.declared.fault.Fault.{Fault}
use Rattle.cmd_trait.specs.CallEffect.{IsIdle, Carries, CallEffect}
use Rattle.cmd_trait.specs.Ends.{reached_of, ending_of, status as status_at, status_of, lines_of}
use Rattle.cmd_trait.specs.Follows.{EndsWell}
use Rattle.cmd_trait.specs.KnownWorld.{known_world}
use Rattle.cmd_trait.specs.Meaning.{Place, IsOf}
use Rattle.cmd_trait.specs.Output.{IsPrinted, Whole, Cut, Starved, Wordless}
use Rattle.cmd_trait.proofs.Follows.{known_as as known_status}
use Rattle.cmd_trait.proofs.Statuses.{over, apart, zero_ends}
use Rattle.program_run.specs.Answers.{Answers, PrintsRefusal}
use Rattle.program_run.specs.Asked.{asked, MayAsk}
use Rattle.program_run.proofs.InForm.{asked_in_form}
use Rattle.program_run.proofs.Lawful.{lawful}
use Rattle.program_run.proofs.Refused.{never_well}
use Rattle.program_crashes.specs.Acts.{both, disks_in, IsCallOf, IsGiven, IsShown, ShowsTurns}
use Rattle.program_crashes.proofs.Begun.{begun_as}

-- with an equal status
pub answers_as : (arguments : List Text) (b k : World) (n m : ℕ) → m ≡ n → Answers arguments b k n → Answers arguments b k m
answers_as arguments b k n m same h = subst (Answers arguments b k) (sym same) h

-- ---- a command, by what it does to both disks

abbrev the_call : Text → Command → Bool → Call
the_call stanza command whole = record { stanza = stanza; done = record { command = command; acknowledged = whole } }

module _ (stanza : Text) (command : Command) (whole : Bool) (repo spool new_repo new_spool : View) (form : IsStanza stanza)
    (part : Leads stanza command false repo spool new_repo new_spool) (passes : Passes stanza command repo new_repo) (receipts : PassesReceipts stanza command repo spool new_spool)
    (keeps : IsSome spool.now → KeepsOn stanza command whole repo spool new_repo new_spool) (beside : StaysBeside stanza repo new_repo) (spool_beside : StaysBeside stanza spool new_spool) where
  call_does : Does (the_call stanza command whole) (both repo spool) (both new_repo new_spool)
  call_does = record {
    is_stanza = form;
    known = part.now.known;
    spool_known = part.spool_known;
    keeps = λ q log known h. keeps known.1 q log known.0 h;
    between = λ q log known h. (passes.between q log known.0 h.repository).1;
    receipts = record { between = λ q log known h. receipts.between q log known.0 known.1 h };
    beside = beside;
    spool_beside = spool_beside;
  }

-- ---- what `run` answers

zero_or : (n : ℕ) → (n ≡ 0) ⊎ (n ≢ 0)
zero_or zero = inl refl
zero_or (suc n) = inr (λ e. omega (arith, e))

-- no refusal has a status of a command that succeeded
ill : {P : Type 0} (n : ℕ) → 2 ≤ n → n ≢ 65 → EndsWell n → P
ill n two other (inl small) = absurd (omega (arith, two, small))
ill n two other (inr is) = absurd (other is)

module _ (arguments : List Text) (b k : World) (n : ℕ) where
  -- a call that succeeded gave what it had to, of any log that the disk keeps
  abbrev pub Gives : Resolved → Type 0
  Gives s = (q : Repository) (log : List Done) → IsSome b.repo.view.now → KeepsRepository (asked s).at.stanza q log b.repo.view → EndsWell n → IsGiven q log s b k n

  -- the arguments were refused, or the call that they ask for was made
  abbrev pub IsDone : Type 0
  IsDone = ((¬ EndsWell n) × AreStill (disks_in b) (disks_in k))
      ⊎ ((c : Call) × (is : IsCallOf arguments b.config.files (known_world b) (known_world k) n c) × Does c (disks_in b) (disks_in k) × Gives is.resolved)

  pub is_shown : IsDone → IsShown arguments b.config.files (known_world b) (known_world k) n (disks_in b) (disks_in k)
  is_shown (inl x) = inl ((λ z. x.0 (inl (omega (arith, z)))), x.1)
  is_shown (inr x) = inr (x.0, x.1, x.2)

module _ (arguments : List Text) (b k : World) (n : ℕ) (known : IsSome b.tree.nodes) (turns : ShowsTurns arguments b.config.files (known_world k)) where
  abbrev Shown : Type 0
  Shown = IsDone arguments b k n

  -- the arguments were refused
  refused : (unknown : List Text) (fault : Fault Usage) → IsIdle b k → PrintsRefusal unknown fault b k n → Shown
  refused unknown fault idle printed = inl (
    never_well unknown fault b k n printed,
    record { now = idle.repo.now; time = idle.repo.time; spool_now = idle.spool.now; spool_time = idle.spool.time },
  )

  -- what they ask for was done
  module _ (s : Resolved) (asks : MayAsk arguments b.config.files s) (c : Carries (asked s).at (asked s).means s.warnings b k n) where
    abbrev place : Place
    place = (asked s).at

    abbrev stanza : Text
    stanza = place.stanza

    abbrev TakesAs : Command → Type 0
    TakesAs command = Takes (asked s).means.plan.sync_scope stanza command (reached_of (asked s).means (ending_of c.ended)) b.repo.view b.spool.view k.repo.view k.spool.view

    to_its_end : n ≡ 0 → reached_of (asked s).means (ending_of c.ended) ≡ to_end
    to_its_end z = known_status place (asked s).means (lawful s) s.warnings b k n c (λ is. zero_ends (asked s).means (lawful s) c.ended (sym is ∙ z)) (λ is rose. absurd (omega (arith, is, z))) (λ is. absurd (omega (arith, is, z)))

    beside : StaysBeside stanza b.repo.view k.repo.view
    beside = c.did.spares.beside (turns s asks)

    spool_beside : StaysBeside stanza b.spool.view k.spool.view
    spool_beside = c.did.spares.spool (turns s asks)

    form : IsStanza stanza
    form = asked_in_form arguments b.config.files s asks

    -- how it ended, by its status
    given_by : (q : Repository) (log : List Done) → IsSome b.repo.view.now → KeepsRepository stanza q log b.repo.view → EndsWell n → (r : Result Outcome (Fault (asked s).fault)) → CallEffect place (asked s).means b k r → (x : ℕ) → n ≡ x
        → IsPrinted b.out.written (lines_of (asked s).means s.warnings (ending_of r)) (status_at (asked s).means (ending_of r)) k.out.written (Failed b k Output) x → IsGiven q log s b k n
    given_by q log some keeps well (Ok outcome) did x is (Whole result same wrote) =
        let f = known_as b.repo.view.now some in
        let r = keeps.represents f.0 (inl f.1) in
        let g = begun_as stanza f.0 r.repository r.represents (asked s).means.plan.pairs b.repo.view.now did.promise.0 f.1 did.promise.1 in
        record {
          repository = r.repository;
          reached = r.reached;
          sound = r.sound;
          begun = g.0;
          healed = subst (λ (o : Option Content). Heals (asked s).means.plan.pairs stanza b.repo.view.now o) g.1 did.promise.1;
          represents = g.2;
          outcome = outcome;
          is = is ∙ same;
          promise = subst (λ (o : Option Content). (asked s).means.promise place (record (known_world b) { repo = o }) (known_world k) outcome) g.1 did.promise.2;
          lasts = did.lasts (record { fixed = keeps.fixed; places = keeps.places }) some;
          acknowledges = did.acknowledges;
          wrote = wrote;
        }
    given_by q log some keeps well (Err e) did x is (Whole result same wrote) = ill (status_of (asked s).means e) (over (asked s).means (lawful s) e) (apart (asked s).means (lawful s) e) (subst EndsWell (is ∙ same) well)
    given_by q log some keeps well r did _ is (Cut rose prefix) = ill 87 (omega arith) (λ e. absurd (omega (arith, e))) (subst EndsWell is well)
    given_by q log some keeps well r did _ is (Starved lines which prefix) = ill 90 (omega arith) (λ e. absurd (omega (arith, e))) (subst EndsWell is well)
    given_by q log some keeps well r did _ is (Wordless rose prefix) = ill 87 (omega arith) (λ e. absurd (omega (arith, e))) (subst EndsWell is well)

    given : Gives arguments b k n s
    given q log some keeps well = given_by q log some keeps well c.ended c.did n refl c.answered

    by : (command : Command) → IsOf ((asked s).means.manner place (known_world b) (known_world k)) command → TakesAs command → (n ≡ 0) ⊎ (n ≢ 0) → Shown
    by command is takes (inl z) = inr (
      the_call stanza command true,
      record { resolved = s; asks = asks; stanza = refl; command = is; acknowledged = ((λ e. z), (λ e. refl)) },
      call_does stanza command true b.repo.view b.spool.view k.repo.view k.spool.view form takes.part takes.between takes.receipts
          (subst (λ (reached : Reached). OnAll reached (Leads stanza command true b.repo.view b.spool.view k.repo.view k.spool.view)) (to_its_end z) takes.whole).keeps beside spool_beside,
      given,
    )
    by command is takes (inr off) = inr (
      the_call stanza command false,
      record { resolved = s; asks = asks; stanza = refl; command = is; acknowledged = ((λ (e : ◌≡◌ {A = Bool} false true). cc), (λ z. absurd (off z))) },
      call_does stanza command false b.repo.view b.spool.view k.repo.view k.spool.view form takes.part takes.between takes.receipts takes.part.keeps beside spool_beside,
      given,
    )

    obeyed : Shown
    obeyed = let x = (lawful s).there place (known_world b) (known_world k) known (turns s asks) TakesAs c.did.steps in by x.0 x.1 x.2 (zero_or n)

  pub shown : Answers arguments b k n → Shown
  shown (inl r) = refused [] r.fault r.idle r.printed
  shown (inr (s, settles, c)) = obeyed s settles c
