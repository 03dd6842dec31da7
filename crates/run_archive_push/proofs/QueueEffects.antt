-- What archive-push in the background did, known of all objects.
use Rattle.std.proofs.Common.{◌≡◌, ⊎_elim, inl, inr, List, Option, Some, None, Result, Ok, Err, IfOk, IfErr, refl, sym, subst, ap, arith}
use Rattle.std.specs.Prelude.{ℕ, [], String, IfSome, IsErrAnd, IsSomeAnd, OnOk, string_bytes}
use Rattle.std.specs.declared.alloc.Global.{Global}
use Rattle.sha1.specs.Sha1.{sha1}
use Rattle.archive_lookup.specs.Causes.{limit_of}
use Rattle.archive_lookup.specs.Turns.{Account}
use Rattle.archive_store.specs.Still.{still_self}
use Rattle.base_crash_lists.specs.Beside.{StaysBeside}
use Rattle.base_model.specs.declared.wal.ArchiveName.{ArchiveName}
use Rattle.base_model.specs.Names.{wal_text}
use Rattle.base_model.specs.Steps.{Command}
use Rattle.base_model.specs.Text.{Text}
use Rattle.cmd_archive_push.specs.declared.order.PushOrder.{PushOrder}
use Rattle.cmd_archive_push.specs.LogFile.{known_file}
use Rattle.cmd_archive_push.specs.WalPath.{IsWalPath, wal_path}
use Rattle.cmd_archive_push_wait.specs.declared.fault.QueueFault.{QueueFault}
use Rattle.cmd_archive_push_wait.specs.Causes.{Call, QueueCause}
use Rattle.cmd_archive_push_wait.specs.Between.{MayStart, TakesFew}
use Rattle.cmd_archive_push_wait.specs.Leaving.{IsAcknowledged}
use Rattle.cmd_archive_push_wait.specs.Pushing.{IsWaitOf, MissCause, QueuePushCause, queue_early}
use Rattle.cmd_archive_push_wait.specs.Received.{ReceivedCause}
use Rattle.cmd_archive_push_wait.proofs.Receiving.{received_cause}
use Rattle.cmd_types.specs.declared.stages.halt.Halt.{Halt}
use Rattle.cmd_types.specs.declared.stages.halt.Halt.TheVariants.{Refused, Failed as HaltFailed, NoMemory as HaltMemory}
use Rattle.cmd_types.specs.declared.stages.object.Object.{Object}
use Rattle.cmd_types.specs.declared.stages.outcome.Outcome.{Outcome}
use Rattle.cmd_types.specs.declared.stages.outcome.Outcome.TheVariants.{Finished, Absent, FindingsFound}
use Rattle.cmd_types.specs.declared.stages.plan.SyncScope.TheVariants.{Looked}
use Rattle.cmd_types.specs.DisksEffect.{On, one, Reached, to_end, stopped, Takes}
use Rattle.cmd_types.specs.Halts.{HaltCause}
use Rattle.cmd_types.specs.Reached.{OnFinished, reached_by}
use Rattle.cmd_types.specs.World.{World, Failed, AreLater}
use Rattle.cmd_types.proofs.Besides.{still_beside}
use Rattle.cmd_types.proofs.Lifted.{quiet_takes, still_quiet}
use Rattle.cmd_trait.specs.CallEffect.{OwnLasts, PartEffect, SamePlaces, StaysHealed, OwnCause, Closes}
use Rattle.cmd_trait.specs.Ends.{ending_of, reached_of}
use Rattle.cmd_trait.specs.Faults.{own_of, of_own}
use Rattle.cmd_trait.specs.KnownWorld.{known_world}
use Rattle.cmd_trait.specs.Meaning.{Place, Meaning, disks_of}
use Rattle.cmd_trait.proofs.CallEffects.{all_none, any_on}
use Rattle.cmd_trait.proofs.PartEffects.{all_on, any_ok, any_some}
use Rattle.run_archive_push.specs.declared.fault.QueuedPushFault.{QueuedPushFault}
use Rattle.run_archive_push.specs.Arguments.{drain_arguments}
use Rattle.run_archive_push.specs.Faults.{ended_of, halt_of_queue}
use Rattle.run_archive_push.specs.Queueing.{IsLeftStored, QueueingEffect, queued_push_meaning, received_for}
use Rattle.run_archive_push.specs.QueueLawful.{none_queued, queued_push_lawful}

-- ---- how it ended

module _ (word : String Global) where
  ended_ok : (P : Outcome → Type 0) (r : Result Outcome (Halt QueueFault)) → IfOk r P → IfOk (own_of (ended_of word r)) P
  ended_ok P (Ok o) h = h
  ended_ok P (Err e) h = tt

  ended_on : (P : Type 0) (r : Result Outcome (Halt QueueFault)) → OnOk r P → OnOk (own_of (ended_of word r)) P
  ended_on P (Ok o) p = p
  ended_on P (Err e) p = tt

  reached_same : (path spool : Text) (turns : ℕ) (r : Result Outcome (Halt QueueFault)) → reached_of (queued_push_meaning path spool turns) (ending_of (own_of (ended_of word r))) ≡ reached_by queue_early r
  reached_same path spool turns (Ok (Finished lines)) = refl
  reached_same path spool turns (Ok (Absent name)) = refl
  reached_same path spool turns (Ok (FindingsFound lines count)) = refl
  reached_same path spool turns (Err (Refused e)) = refl
  reached_same path spool turns (Err (HaltFailed object)) = refl
  reached_same path spool turns (Err HaltMemory) = refl

-- ---- by what is known of the steps of others

wait_steps : (stanza : Text) (old account : Option Account) (P : Command → Type 0) → IfSome account (λ n. n.stanza ≡ stanza → On (one (IsWaitOf old n)) P) → IsSomeAnd account (λ n. n.stanza ≡ stanza) →
    (command : Command) × IsSomeAnd account (λ n. IsWaitOf old n command) × P command
wait_steps stanza old None P h there = absurd there
wait_steps stanza old (Some n) P h there = let x = h there in (x.0, x.1, x.2)

known_so : (stanza : Text) (account : Option Account) (P : Type 0) → IfSome account (λ n. n.stanza ≡ stanza → P) → IsSomeAnd account (λ n. n.stanza ≡ stanza) → P
known_so stanza None P h there = absurd there
known_so stanza (Some n) P h there = h there

no_lines : (P : Type 0) (o : Outcome) → OnFinished o (λ lines. (lines ≡ []) × P) → OnFinished o (λ lines. lines ≡ [])
no_lines P (Finished lines) h = h.0
no_lines P (Absent name) h = absurd h
no_lines P (FindingsFound lines count) h = absurd h

after_lines : (P : Type 0) (o : Outcome) → OnFinished o (λ lines. (lines ≡ []) × P) → P
after_lines P (Finished lines) h = h.1
after_lines P (Absent name) h = absurd h
after_lines P (FindingsFound lines count) h = absurd h

ok_as : {E : Type 0} (r : Result Outcome E) (P Q : Outcome → Type 0) → ((o : Outcome) → P o → Q o) → IfOk r P → IfOk r Q
ok_as (Ok o) P Q to h = to o h
ok_as (Err e) P Q to h = tt

ok_on : {E : Type 0} (r : Result Outcome E) (P : Outcome → Type 0) (Q : Type 0) → ((o : Outcome) → P o → Q) → IfOk r P → OnOk r Q
ok_on (Ok o) P Q to h = to o h
ok_on (Err e) P Q to h = tt

-- ---- the command's own part

module _ (p : Place) (b k : World) (rest : k ≡ record b { repo = k.repo; spool = k.spool; tree = k.tree; others = k.others }) (nodes : k.tree.nodes ≡ b.tree.nodes) (path spool : Text) (turns : ℕ) (name : ArchiveName) (named : IsWalPath p.data_folder path name)
    (word : String Global) (spelled : string_bytes word ≡ wal_text name) (r : Result Outcome (Halt QueueFault)) where
  abbrev means : Meaning QueuedPushFault
  means = queued_push_meaning path spool turns

  abbrev ended : Result Outcome (Halt QueuedPushFault)
  ended = ended_of word r

  -- the file of this name is stored with the sum of its bytes
  abbrev Stored : Type 0
  Stored = IfSome (known_file b.tree.nodes (wal_path (wal_text name))) (λ bytes. IfSome k.others.account (λ n. n.stanza ≡ p.stanza → IsAcknowledged name (sha1 bytes) b.others.account n b.repo.view k.repo.view b.spool.view))

  -- what the call is given, and what it does
  abbrev call : List Text → Text → Call
  call arguments sum = record {
    stanza = p.stanza;
    name = name;
    sum = sum;
    arguments = arguments;
    most = turns;
    others = b.others;
    new_others = k.others;
    repo = b.repo.view;
    new_repo = k.repo.view;
    spool = b.spool.view;
    new_spool = k.spool.view;
  }

  queued_stored : Stored → IsLeftStored p path (disks_of b) (disks_of k)
  queued_stored stored = record { name = name; named = named; stored = stored }

  module _ (arguments : List Text) (known : arguments ≡ drain_arguments p spool) (failed : Object → Type 0) (rose : (object : Object) → failed object → Failed b k object) where
    received_so : (sum : Text) (e : QueueFault) → QueueCause (call arguments sum) e → ReceivedCause (received_for p spool turns name sum (known_world b) (known_world k)) e
    received_so sum e cause = subst (λ (ws : List Text). ReceivedCause (record { stanza = p.stanza; name = name; sum = sum; arguments = ws; most = turns; others = b.others; new_others = k.others; spool = b.spool.view.now }) e) known (received_cause (call arguments sum) e cause)

    own : (h : Halt QueueFault) → HaltCause (QueuePushCause path b.tree.nodes name (call arguments)) failed h → OwnCause p means b k (of_own (halt_of_queue word h))
    own (Refused e) cause = record {
      name = name;
      named = named;
      is = spelled;
      why = ⊎_elim (λ (m : MissCause path (wal_text name) (limit_of name) b.tree.nodes e). inl m)
          (λ (x : (sum : Text) × IfSome (known_file b.tree.nodes (wal_path (wal_text name))) (λ bytes. sum ≡ sha1 bytes) × QueueCause (call arguments sum) e).
          inr (x.0, x.1, received_so x.0 e x.2)) cause;
    }
    own (HaltFailed object) cause = rose object cause
    own HaltMemory cause = tt

    own_cause : (x : Result Outcome (Halt QueueFault)) → IfErr x (HaltCause (QueuePushCause path b.tree.nodes name (call arguments)) failed) → IfErr (own_of (ended_of word x)) (OwnCause p means b k)
    own_cause (Ok o) cause = tt
    own_cause (Err h) cause = own h cause

    closes_none : (x : Result Outcome (Halt QueueFault)) → IfErr (own_of (ended_of word x)) (Closes p means b k)
    closes_none (Ok o) = tt
    closes_none (Err (Refused e)) = tt
    closes_none (Err (HaltFailed object)) = tt
    closes_none (Err HaltMemory) = tt

    effect : MayStart arguments b.others k.others → TakesFew turns b.others k.others → QueueingEffect p spool turns b.others k.others
    effect started few = record { started = subst (λ (ws : List Text). MayStart ws b.others k.others) known started; few = few }

    pub queued_ran : MayStart arguments b.others k.others → TakesFew turns b.others k.others → IfSome k.others.account (λ n. n.stanza ≡ p.stanza → On (one (IsWaitOf b.others.account n)) (λ command. Takes Looked p.stanza command (reached_by queue_early r) b.repo.view b.spool.view k.repo.view k.spool.view)) →
        IfSome k.others.account (λ n. n.stanza ≡ p.stanza → StaysBeside p.stanza b.repo.view k.repo.view × StaysBeside p.stanza b.spool.view k.spool.view) →
        IfOk r (λ o. OnFinished o (λ lines. (lines ≡ []) × Stored)) → IfErr r (HaltCause (QueuePushCause path b.tree.nodes name (call arguments)) failed) → SamePlaces b k → AreLater b k → PartEffect p means b k (own_of ended)
    queued_ran started few takes beside stored cause places later = record {
      steps = λ there. wait_steps p.stanza b.others.account k.others.account _ (subst (λ (x : Reached). IfSome k.others.account (λ n. n.stanza ≡ p.stanza → On (one (IsWaitOf b.others.account n)) (λ command. Takes Looked p.stanza command x b.repo.view b.spool.view k.repo.view k.spool.view)))
          (sym (reached_same word path spool turns r)) takes) there;
      promise = ended_ok word _ r (ok_as r _ _ (λ o h. no_lines Stored o h) stored);
      lasts = ended_ok word _ r (any_ok r (OwnLasts p means b k) (λ o synced some pair. tt));
      synced = tt;
      folder_synced = tt;
      acknowledges = ended_on word _ r (ok_on r _ _ (λ o h. queued_stored (after_lines Stored o h)) stored);
      cause = own_cause r cause;
      healed = ended_on word _ r (all_on r (StaysHealed p means b k) (record { agree = λ some h. any_some k.repo.view.now; lasts = λ synced some h. tt }));
      spares = record {
        beside = λ there. (known_so p.stanza k.others.account _ beside there).0;
        spool = λ there. (known_so p.stanza k.others.account _ beside there).1;
        repository = λ known. tt;
        folder = nodes;
        others = effect started few;
        turned = all_none (reached_of means (ending_of (own_of ended))) _ nodes;
        server = ap (λ (s : World). s.server) rest;
        workers = ap (λ (s : World). s.links) rest;
        clock = ap (λ (s : World). s.clock) rest;
        closed = closes_none r;
      };
      places = places;
      later = later;
    }

-- ---- there was no memory for the arguments

never_end : ¬ (stopped ≡ to_end)
never_end e = let x : ◌≡◌ {A = Reached} stopped to_end = e in cc

module _ (p : Place) (b : World) (path spool : Text) (turns : ℕ) where
  abbrev means_so : Meaning QueuedPushFault
  means_so = queued_push_meaning path spool turns

  without_memory : PartEffect p means_so b b (own_of (Err HaltMemory))
  without_memory = record {
    steps = any_on (means_so.manner p (known_world b) (known_world b)) _ ((queued_push_lawful path spool turns).some p (known_world b) (known_world b) refl) (λ command. quiet_takes Looked p.stanza command stopped b.repo.view b.repo.view b.spool.view never_end (still_quiet p.stanza b.repo.view));
    promise = tt;
    lasts = tt;
    synced = tt;
    folder_synced = tt;
    acknowledges = tt;
    cause = tt;
    healed = tt;
    spares = record {
      beside = λ there. still_beside p.stanza b.repo.view b.repo.view (still_self b.repo.view);
      spool = λ there. still_beside p.stanza b.spool.view b.spool.view (still_self b.spool.view);
      repository = λ known. tt;
      folder = refl;
      others = none_queued p spool turns b.others;
      turned = tt;
      server = refl;
      workers = refl;
      clock = refl;
      closed = tt;
    };
    places = record { spool = refl; repo = refl; tree = refl };
    later = λ object. omega arith;
  }

  pub starved : (r : Result Outcome (Halt QueuedPushFault)) → IsErrAnd r (λ h. h ≡ HaltMemory) → PartEffect p means_so b b (own_of r)
  starved (Ok o) is = absurd is
  starved (Err h) is = subst (λ (x : Halt QueuedPushFault). PartEffect p means_so b b (own_of (Err x))) (sym is) without_memory

-- ---- by the order, whose path and folder are those that were given

module _ (p : Place) (b k : World) (rest : k ≡ record b { repo = k.repo; spool = k.spool; tree = k.tree; others = k.others }) (nodes : k.tree.nodes ≡ b.tree.nodes) (path spool : Text) (turns : ℕ) (o : PushOrder) (is_order : (o.folder.now ≡ p.data_folder) × (o.path.now ≡ path))
    (r : Result Outcome (Halt QueueFault)) (ended : Result Outcome (Halt QueuedPushFault)) (lifted : ended ≡ ended_of o.text r) (arguments : List Text) (known : arguments ≡ drain_arguments p spool) (failed : Object → Type 0) (rose : (object : Object) → failed object → Failed b k object) where
  pub queued_part : MayStart arguments b.others k.others → TakesFew turns b.others k.others → IfSome k.others.account (λ n. n.stanza ≡ p.stanza → On (one (IsWaitOf b.others.account n)) (λ command. Takes Looked p.stanza command (reached_by queue_early r) b.repo.view b.spool.view k.repo.view k.spool.view)) →
      IfSome k.others.account (λ n. n.stanza ≡ p.stanza → StaysBeside p.stanza b.repo.view k.repo.view × StaysBeside p.stanza b.spool.view k.spool.view) →
      IfOk r (λ outcome. OnFinished outcome (λ lines. (lines ≡ []) × IfSome (known_file b.tree.nodes (wal_path (wal_text o.name))) (λ bytes. IfSome k.others.account (λ n. n.stanza ≡ p.stanza → IsAcknowledged o.name (sha1 bytes) b.others.account n b.repo.view k.repo.view b.spool.view)))) →
      IfErr r (HaltCause (QueuePushCause o.path.now b.tree.nodes o.name (λ sum. record { stanza = p.stanza; name = o.name; sum = sum; arguments = arguments; most = turns; others = b.others; new_others = k.others; repo = b.repo.view; new_repo = k.repo.view; spool = b.spool.view; new_spool = k.spool.view })) failed) → SamePlaces b k → AreLater b k →
      PartEffect p (queued_push_meaning path spool turns) b k (own_of ended)
  queued_part started few takes beside stored cause places later = subst (λ (x : Text). PartEffect p (queued_push_meaning x spool turns) b k (own_of ended)) is_order.1 (subst (λ (e : Result Outcome (Halt QueuedPushFault)). PartEffect p (queued_push_meaning o.path.now spool turns) b k (own_of e)) (sym lifted)
      (queued_ran p b k rest nodes o.path.now spool turns o.name (subst (λ (f : Text). IsWalPath f o.path.now o.name) is_order.0 o.named) o.text o.spelled r arguments known failed rose started few takes beside stored cause places later))
