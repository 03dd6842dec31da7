-- How a wait ends: what is counted, what the disks keep, and why.
use Rattle.std.proofs.Common.{◌≡◌, inl, inr, ◌≤◌, ◌+◌, ℕ, String, List, Option, Some, None, refl, sym, ◌∙◌, subst, arith, Bool, true, false}
use Rattle.std.specs.declared.alloc.Global.{Global}
use Rattle.std.specs.Prelude.{IfSome, IsSomeAnd, string_bytes}
use Rattle.base_text.specs.Sum.{IsSum}
use Rattle.base_devices.specs.Cause.{Rises}
use Rattle.base_devices.specs.Content.{Content, Name}
use Rattle.base_devices.specs.Moments.{View}
use Rattle.base_devices.specs.declared.device_error.DeviceError.{DeviceError}
use Rattle.base_devices.specs.declared.device_error.DeviceError.TheVariants.{Failed as ErrorFailed, NoMemory as ErrorNoMemory}
use Rattle.base_devices.specs.States.{DiskState, CallsProperly}
use Rattle.base_model.specs.declared.wal.ArchiveName.{ArchiveName}
use Rattle.base_model.specs.Text.{Text}
use Rattle.base_model.specs.Represents.{IsWalName}
use Rattle.base_model.specs.Log.{HasReceipt}
use Rattle.cmd_types.specs.declared.stages.halt.Halt.{Halt}
use Rattle.cmd_types.specs.declared.stages.halt.Halt.TheVariants.{Refused, Failed, NoMemory}
use Rattle.cmd_types.specs.declared.stages.object.Object.{Object}
use Rattle.cmd_types.specs.declared.stages.object.Object.TheVariants.{Repo, Spool, TheDataFolder, Server, Others, Clock, Locks, Config, Output}
use Rattle.cmd_types.specs.Halts.{HaltCause, Never, Only, halt_of}
use Rattle.cmd_types.specs.Risen.{Rose, none, rose_in}
use Rattle.archive_lookup.specs.Turns.{Account, ProcessesState}
use Rattle.archive_spool.specs.declared.spool_query.Asked.{Asked}
use Rattle.archive_spool.specs.declared.spool_query.Asked.TheVariants.{NotYet as Nothing, Reported as Refusal}
use Rattle.archive_spool.specs.Asking.{Answers, IsLong, IsMarkName}
use Rattle.archive_wait.specs.TurnsDone.{Counts, TurnsDone}
use Rattle.cmd_archive_push_wait.specs.declared.fault.QueueFault.{QueueFault}
use Rattle.cmd_archive_push_wait.specs.declared.fault.QueueFault.TheVariants.{SegmentMissing, TooLong, Reported, NotYet}
use Rattle.cmd_archive_push_wait.specs.Causes.{Call, IsLongMark, IsStarted, QueueCause, LongCause, MarkedSo, OnAccount, WasStarted}
use Rattle.cmd_archive_push_wait.specs.Leaving.{HadTurn, IsAcknowledged, IsSilent, Shows}
use Rattle.cmd_archive_push_wait.proofs.Chains.{went_any}
use Rattle.cmd_archive_push_wait.proofs.Waiting.{HasCleared, HasLooked, Waiting, first_stored, first_waiting, first_went, looked_went, silent_of, turn_failed, turn_long, turn_refused, turn_silent, turn_stored}

-- ---- frames and counts

pub frame_none : (d : DiskState) → CallsProperly d d
frame_none d = record { opened = refl; proper = refl; later = omega arith }

pub frame_on : (a b c : DiskState) → CallsProperly a b → CallsProperly b c → CallsProperly a c
frame_on a b c p q = record { opened = q.opened ∙ p.opened; proper = q.proper ∙ p.proper; later = omega (arith, p.later, q.later) }

pub counts_on : (n before mid after : ℕ) → Counts n before mid → Counts 1 mid after → Counts (n + 1) before after
counts_on n before mid after p q = record { none = λ e. omega arith; some = λ h. grind (arith, p.none, p.some, q.some) }

-- ---- what holds of the account of the stanza

module _ (stanza : Text) (P : Account → Type 0) where
  pub on_account : (o : Option Account) → ((k : Account) → o ≡ Some k → k.stanza ≡ stanza → P k) → IfSome o (λ k. k.stanza ≡ stanza → P k)
  on_account None by = tt
  on_account (Some k) by = by k refl

  pub on_turn : (ended : Bool) (mid o : Option Account) (a b s t : View) → HadTurn ended mid o a b s t →
      ((k : Account) → HadTurn ended mid (Some k) a b s t → k.stanza ≡ stanza → P k) → IfSome o (λ k. k.stanza ≡ stanza → P k)
  on_turn ended mid None a b s t turn by = tt
  on_turn ended mid (Some k) a b s t turn by = by k turn

look_as : (stanza : Text) (k : Account) → k.stanza ≡ stanza → (t u : View) → HasLooked stanza t u → HasLooked k.stanza t u
look_as stanza k of t u look = subst (λ (z : Text). HasLooked z t u) (sym of) look

cleared_as : (stanza : Text) (name : ArchiveName) (k : Account) → k.stanza ≡ stanza → (t u : View) → HasCleared stanza name t u → HasCleared k.stanza name t u
cleared_as stanza name k of t u cleared = subst (λ (z : Text). HasCleared z name t u) (sym of) cleared

-- ---- the first look

module _ (stanza : Text) (name : ArchiveName) (sum : Text) (fits : IsWalName name) (o : Option Account) (repo spool new_spool : View)
    (look : HasLooked stanza spool new_spool) where
  pub first_look : (whole : Bool) → IfSome o (λ k. k.stanza ≡ stanza → TurnsDone whole o k repo repo spool new_spool)
  first_look whole = on_account stanza (λ k. TurnsDone whole o k repo repo spool new_spool) o (λ k is of.
      subst (λ (x : Option Account). TurnsDone whole x k repo repo spool new_spool) (sym is)
      (first_went name sum fits k repo spool new_spool (look_as stanza k of spool new_spool look) whole).0)

  pub first_waits : HasCleared stanza name spool new_spool → IfSome o (λ k. k.stanza ≡ stanza → Waiting name sum o k repo repo spool new_spool)
  first_waits cleared = on_account stanza (λ k. Waiting name sum o k repo repo spool new_spool) o (λ k is of.
      subst (λ (x : Option Account). Waiting name sum x k repo repo spool new_spool) (sym is)
      (first_waiting name sum fits k repo spool new_spool (look_as stanza k of spool new_spool look) (cleared_as stanza name k of spool new_spool cleared)))

  pub first_receipt : IfSome spool.now (λ f. HasReceipt stanza f name sum) →
      IfSome o (λ k. k.stanza ≡ stanza → IsAcknowledged name sum o k repo repo spool)
  first_receipt has = on_account stanza (λ k. IsAcknowledged name sum o k repo repo spool) o (λ k is of.
      subst (λ (x : Option Account). IsAcknowledged name sum x k repo repo spool) (sym is)
      (first_stored name sum fits k repo spool new_spool (look_as stanza k of spool new_spool look)
      (subst (λ (z : Text). IfSome spool.now (λ f. HasReceipt z f name sum)) (sym of) has)))

-- what holds, by the answer
pub says_as : (stanza : Text) (name : ArchiveName) (sum : Text) (now : Option Content) (a b : Asked) → a ≡ b → IfSome now (λ f. Answers stanza f name sum a) →
    IfSome now (λ f. Answers stanza f name sum b)
says_as stanza name sum now a b is h = subst (λ (x : Asked). IfSome now (λ f. Answers stanza f name sum x)) is h

-- the start leaves the account unchanged
pub started_on : (P : Account → Type 0) (o o2 : Option Account) → o2 ≡ o → IfSome o P → IfSome o2 P
started_on P o o2 same h = subst (λ (x : Option Account). IfSome x P) (sym same) h

-- ---- this many steps of others

pub record HasWaited (stanza : Text) (name : ArchiveName) (sum : Text) (arguments : List Text) (count : ℕ) (others others2 : ProcessesState)
    (repo repo2 spool spool2 : DiskState) : Type 0 where
  pub waiting : IfSome others2.account (λ k. k.stanza ≡ stanza → Waiting name sum others.account k repo.view repo2.view spool.view spool2.view)
  pub repo_frame : CallsProperly repo repo2
  pub spool_frame : CallsProperly spool spool2
  pub started : IsStarted arguments others others2
  pub counts : Counts count others.turns others2.turns
  pub later : others.faults ≤ others2.faults

module _ (stanza : Text) (name : ArchiveName) (sum : Text) (arguments : List Text) (count : ℕ) (others others2 : ProcessesState)
    (repo repo2 spool spool2 : DiskState) (waited : HasWaited stanza name sum arguments count others others2 repo repo2 spool spool2) where
  abbrev old : Option Account
  old = others.account

  pub waited_went : (whole : Bool) → IfSome others2.account (λ k. k.stanza ≡ stanza → TurnsDone whole old k repo.view repo2.view spool.view spool2.view)
  waited_went whole = by others2.account waited.waiting
    where
      by : (o : Option Account) → IfSome o (λ k. k.stanza ≡ stanza → Waiting name sum old k repo.view repo2.view spool.view spool2.view) →
          IfSome o (λ k. k.stanza ≡ stanza → TurnsDone whole old k repo.view repo2.view spool.view spool2.view)
      by None h = tt
      by (Some k) h = λ of. went_any whole old k repo.view repo2.view spool.view spool2.view (h of).went

  pub waited_silent : IfSome others2.account (λ k. k.stanza ≡ stanza → IsSilent name sum old k repo.view repo2.view spool.view spool2.view)
  waited_silent = by others2.account waited.waiting
    where
      by : (o : Option Account) → IfSome o (λ k. k.stanza ≡ stanza → Waiting name sum old k repo.view repo2.view spool.view spool2.view) →
          IfSome o (λ k. k.stanza ≡ stanza → IsSilent name sum old k repo.view repo2.view spool.view spool2.view)
      by None h = tt
      by (Some k) h = λ of. silent_of name sum old k repo.view repo2.view spool.view spool2.view (h of)

  module _ (others3 : ProcessesState) (repo3 spool3 : DiskState) where
    pub failed_after : HadTurn false others2.account others3.account repo2.view repo3.view spool2.view spool3.view →
        IfSome others3.account (λ k. k.stanza ≡ stanza → TurnsDone false old k repo.view repo3.view spool.view spool3.view)
    failed_after turn = on_turn stanza (λ k. TurnsDone false old k repo.view repo3.view spool.view spool3.view) false others2.account others3.account
        repo2.view repo3.view spool2.view spool3.view turn
        (λ k had of. turn_failed stanza name sum old others2.account k of repo.view repo2.view repo3.view spool.view spool2.view spool3.view waited.waiting had)

    module _ (fits : IsWalName name) (digest : IsSum sum)
        (turn : HadTurn true others2.account others3.account repo2.view repo3.view spool2.view spool3.view)
        (spool4 : DiskState) (look : HasLooked stanza spool3.view spool4.view) where
      abbrev OnIt : (Account → Type 0) → Type 0
      OnIt P = IfSome others3.account (λ k. k.stanza ≡ stanza → P k)

      each : (P : Account → Type 0) → ((k : Account) → HadTurn true others2.account (Some k) repo2.view repo3.view spool2.view spool3.view → k.stanza ≡ stanza → P k) → OnIt P
      each P by = on_turn stanza P true others2.account others3.account repo2.view repo3.view spool2.view spool3.view turn by

      pub went_after : (whole : Bool) → OnIt (λ k. TurnsDone whole old k repo.view repo3.view spool.view spool4.view)
      went_after whole = each (λ k. TurnsDone whole old k repo.view repo3.view spool.view spool4.view) (λ k had of.
          looked_went stanza name sum old others2.account k of repo.view repo2.view repo3.view spool.view spool2.view spool3.view waited.waiting fits digest had
          spool4.view (look_as stanza k of spool3.view spool4.view look) whole)

      pub stored_after : IfSome spool3.view.now (λ f. HasReceipt stanza f name sum) →
          OnIt (λ k. IsAcknowledged name sum old k repo.view repo3.view spool.view)
      stored_after has = each (λ k. IsAcknowledged name sum old k repo.view repo3.view spool.view) (λ k had of.
          turn_stored stanza name sum old others2.account k of repo.view repo2.view repo3.view spool.view spool2.view spool3.view waited.waiting fits digest had
          spool4.view (look_as stanza k of spool3.view spool4.view look)
          (subst (λ (z : Text). IfSome spool3.view.now (λ f. HasReceipt z f name sum)) (sym of) has))

      pub refused_after : (code : ℕ) (text : String Global) → IfSome spool3.view.now (λ f. Answers stanza f name sum (Refusal code text)) →
          OnIt (λ k. MarkedSo name (λ t. Shows stanza name sum t.marks (Refusal code text)) old k repo.view repo3.view spool.view spool4.view)
      refused_after code text says = each (λ k. MarkedSo name (λ t. Shows stanza name sum t.marks (Refusal code text)) old k repo.view repo3.view spool.view spool4.view) (λ k had of.
          subst (λ (z : Text). MarkedSo name (λ t. Shows z name sum t.marks (Refusal code text)) old k repo.view repo3.view spool.view spool4.view) of
          (turn_refused stanza name sum old others2.account k of repo.view repo2.view repo3.view spool.view spool2.view spool3.view waited.waiting fits digest had
          spool4.view (look_as stanza k of spool3.view spool4.view look) code text
          (subst (λ (z : Text). IfSome spool3.view.now (λ f. Answers z f name sum (Refusal code text))) (sym of) says)))

      pub long_after : (n : Name) (limit : ℕ) → IsLong (IsMarkName stanza name) spool3.view.now n limit →
          OnIt (λ k. MarkedSo name (IsLongMark stanza name n limit) old k repo.view repo3.view spool.view spool4.view)
      long_after n limit long = each (λ k. MarkedSo name (IsLongMark stanza name n limit) old k repo.view repo3.view spool.view spool4.view) (λ k had of.
          subst (λ (z : Text). MarkedSo name (IsLongMark z name n limit) old k repo.view repo3.view spool.view spool4.view) of
          (turn_long stanza name sum old others2.account k of repo.view repo2.view repo3.view spool.view spool2.view spool3.view waited.waiting fits digest had
          spool4.view (look_as stanza k of spool3.view spool4.view look) n limit
          (subst (λ (z : Text). IsLong (IsMarkName z name) spool3.view.now n limit) (sym of) long)))

      pub waits_after : IfSome spool3.view.now (λ f. Answers stanza f name sum Nothing) → HasCleared stanza name spool3.view spool4.view →
          OnIt (λ k. Waiting name sum old k repo.view repo3.view spool.view spool4.view)
      waits_after says cleared = each (λ k. Waiting name sum old k repo.view repo3.view spool.view spool4.view) (λ k had of.
          turn_silent stanza name sum old others2.account k of repo.view repo2.view repo3.view spool.view spool2.view spool3.view waited.waiting fits digest had
          spool4.view (look_as stanza k of spool3.view spool4.view look)
          (subst (λ (z : Text). IfSome spool3.view.now (λ f. Answers z f name sum Nothing)) (sym of) says)
          (cleared_as stanza name k of spool3.view spool4.view cleared))

-- ---- no step of others is taken where the spool has the receipt

pub no_receipt : (stanza : Text) (name : ArchiveName) (sum : Text) (now : Option Content) → IfSome now (λ f. ¬ HasReceipt stanza f name sum) →
    IsSomeAnd now (λ f. HasReceipt stanza f name sum) → ⊥
no_receipt stanza name sum None h has = has
no_receipt stanza name sum (Some f) h has = h has

-- ---- why it ends

pub rises_from : (a b c : ℕ) → a ≤ b → Rises b c → Rises a c
rises_from a b c le rises = omega (arith, le, rises)

module _ (x : Call) (rose : Rose) where
  only_spool : (rise : Type 0) → (rise → rose.spool) → (object : Object) → Only Spool rise object → rose_in rose object
  only_spool rise rises object only = subst (λ (o : Object). rose_in rose o) (sym only.0) (rises only.1)

  pub first_cause : (rise : Type 0) → (rise → rose.spool) → (halt : Halt QueueFault) →
      HaltCause (LongCause x.stanza x.name x.spool.now) (Only Spool rise) halt → HaltCause (QueueCause x) (rose_in rose) halt
  first_cause rise rises (Refused (SegmentMissing path)) cause = cause
  first_cause rise rises (Refused (TooLong n limit)) cause = inl cause
  first_cause rise rises (Refused (Reported code text)) cause = absurd cause
  first_cause rise rises (Refused (NotYet turns)) cause = absurd cause
  first_cause rise rises (Failed object) cause = only_spool rise rises object cause
  first_cause rise rises NoMemory cause = tt

  pub look_cause : (rise : Type 0) → (rise → rose.spool) → WasStarted x → (now : Option Content) →
      ((n : Name) (limit : ℕ) → IsLong (IsMarkName x.stanza x.name) now n limit →
      OnAccount x (λ a. MarkedSo x.name (IsLongMark x.stanza x.name n limit) x.others.account a x.repo x.new_repo x.spool x.new_spool)) →
      (halt : Halt QueueFault) → HaltCause (LongCause x.stanza x.name now) (Only Spool rise) halt → HaltCause (QueueCause x) (rose_in rose) halt
  look_cause rise rises was now long (Refused (SegmentMissing path)) cause = cause
  look_cause rise rises was now long (Refused (TooLong n limit)) cause = inr (was, long (string_bytes n) limit cause)
  look_cause rise rises was now long (Refused (Reported code text)) cause = absurd cause
  look_cause rise rises was now long (Refused (NotYet turns)) cause = absurd cause
  look_cause rise rises was now long (Failed object) cause = only_spool rise rises object cause
  look_cause rise rises was now long NoMemory cause = tt

  pub start_cause : (stop : DeviceError) → (stop ≡ ErrorFailed → rose.others) → HaltCause (QueueCause x) (rose_in rose) (halt_of Others stop)
  start_cause ErrorFailed rises = rises refl
  start_cause ErrorNoMemory rises = tt

  pub turn_cause : (repo spool : Type 0) → (repo → rose.repo) → (spool → rose.spool) → (halt : Halt QueueFault) →
      HaltCause Never (rose_in (record none { repo = repo; spool = spool })) halt → HaltCause (QueueCause x) (rose_in rose) halt
  turn_cause repo spool r s (Refused fault) cause = absurd cause
  turn_cause repo spool r s (Failed Repo) cause = r cause
  turn_cause repo spool r s (Failed Spool) cause = s cause
  turn_cause repo spool r s (Failed TheDataFolder) cause = absurd cause
  turn_cause repo spool r s (Failed Server) cause = absurd cause
  turn_cause repo spool r s (Failed Others) cause = absurd cause
  turn_cause repo spool r s (Failed Clock) cause = absurd cause
  turn_cause repo spool r s (Failed Locks) cause = absurd cause
  turn_cause repo spool r s (Failed Config) cause = absurd cause
  turn_cause repo spool r s (Failed Output) cause = absurd cause
  turn_cause repo spool r s NoMemory cause = tt
