-- Backups of a rehearsal, and the links that they are dealt.
use Rattle.std.proofs.Common.{ℕ, zero, suc, ◌≡◌, ◌⊎◌, inl, inr, ⊎_elim, List, [], ◌∷◌, ◌++◌, map, Option, Some, None, Result, Ok, Err, refl, sym, subst, Bool, slice_get, arith}
use Rattle.std.specs.Prelude.{IsSome, Contains}
use Rattle.std.proofs.lemmas.List.{map-append}
use Rattle.base_devices.specs.Content.{Content}
use Rattle.base_devices.specs.Links.{LinkState}
use Rattle.base_devices.specs.States.{ClockState}
use Rattle.base_devices.specs.Moments.{View, LeavesNoMore}
use Rattle.base_model.specs.declared.labels.BackupKind.{BackupKind}
use Rattle.base_model.specs.declared.labels.BackupKind.TheVariants.{Full, Diff, Incr}
use Rattle.base_model.specs.Text.{Text}
use Rattle.base_model.specs.Repository.{Backup, Repository}
use Rattle.base_model.specs.Now.{NowRepresents}
use Rattle.base_model.specs.Steps.{Command, steps_of}
use Rattle.base_model.proofs.Done.{part_none}
use Rattle.base_model.proofs.Steady.{rests_moves, steady_rests}
use Rattle.backup_lemmas.specs.Backups.{AddsBackup}
use Rattle.backup_lemmas.proofs.Again.{made_sound}
use Rattle.repo_text_lemmas.proofs.Lists.{one_list}
use Rattle.repo_text_lemmas.proofs.Manifests.{one_manifest}
use Rattle.expire_make.proofs.Ways.{moves_on}
use Rattle.worker_pool.specs.Run.{AreReady, IsReady}
use Rattle.cmd_types.specs.declared.stages.halt.Halt.{Halt}
use Rattle.cmd_types.specs.declared.stages.outcome.Outcome.{Outcome}
use Rattle.cmd_types.specs.declared.stages.outcome.Outcome.TheVariants.{Finished, Absent, FindingsFound}
use Rattle.cmd_types.specs.declared.stages.plan.SyncScope.TheVariants.{Whole}
use Rattle.cmd_types.specs.Reached.{OnFinished, reached_by}
use Rattle.cmd_types.specs.DisksEffect.{IsPart, DoesPart, DoesWhole, RepoEffect, On, one}
use Rattle.base_devices.specs.DataFolder.{Nodes}
use Rattle.repo_stanza.specs.declared.control.Control.{Control}
use Rattle.cmd_backup_offline.specs.declared.order.OfflineOrder.{OfflineOrder}
use Rattle.cmd_backup_offline.specs.Held.{IsHeld}
use Rattle.cmd_backup_offline.specs.Kinds.{IsBackupBy}
use Rattle.cmd_backup_offline.specs.Taken.{IsTaken}
use Rattle.cmd_rehearse.specs.Advancing.{Advances, Carries}
use Rattle.cmd_rehearse.specs.Commands.{backed_up}
use Rattle.cmd_rehearse.proofs.Advanced.{finished_whole}

-- ---- after calls that only read

module _ (stanza : Text) (command : Command) (a n d : View) (rests : LeavesNoMore a n) (same : n.now ≡ a.now) where
  some_there : IsSome a.now → IsSome n.now
  some_there some = subst (λ (o : Option Content). IsSome o) (sym same) some

  represents_there : (r : Repository) → NowRepresents stanza r a.now → NowRepresents stanza r n.now
  represents_there r now = subst (λ (o : Option Content). NowRepresents stanza r o) (sym same) now

  following_part : DoesPart Whole stanza command n d → DoesPart Whole stanza command a d
  following_part h = record {
    part = record { known = λ some. h.part.known (some_there some); does = λ r from some now. h.part.does r from (some_there some) (represents_there r now) };
    goes = λ r some steady sound.
        let moved = rests_moves stanza r (IsPart stanza command r) a n rests same steady some (λ g represents. ([], part_none (steps_of command r), represents, sound)) in
        moves_on stanza (IsPart stanza command r) a n d moved (h.goes r (some_there some) (steady_rests stanza r a n rests same steady) sound);
  }

  after_whole : DoesWhole Whole stanza command n d → DoesWhole Whole stanza command a d
  after_whole h = record {
    done = record { known = λ some. h.done.known (some_there some); does = λ r from some now. h.done.does r from (some_there some) (represents_there r now) };
    ends = λ r some steady sound. h.ends r (some_there some) (steady_rests stanza r a n rests same steady) sound;
  }

  pub after_rests : {T E : Type 0} (result : Result T E) → Advances stanza command result n d → Advances stanza command result a d
  after_rests (Err e) h = record { part = following_part h.part; whole = tt; sound = tt }
  after_rests (Ok x) h = record { part = following_part h.part; whole = after_whole h.whole; sound = λ r some now sound. h.sound r (some_there some) (represents_there r now) sound }

  pub after_carries : {T E : Type 0} (result : Result T E) → Carries stanza command result n d → Carries stanza command result a d
  after_carries (Err e) h = record { part = following_part h.part; whole = tt }
  after_carries (Ok x) h = record { part = following_part h.part; whole = after_whole h.whole }

-- ---- a backup

made_by : (kind : BackupKind) (links : List LinkState) (stanza : Text) (old : Option Content) (command : Command) → IsBackupBy kind links stanza old command → (b : Backup) × (command ≡ backed_up b)
made_by Full links stanza old command is = (is.0, is.1)
made_by Diff links stanza old command is = (is.0, is.1)
made_by Incr links stanza old command is = (is.0, is.1)

added : (o : Outcome) (P : Text → Type 0) (Q : Type 0) → ((lines : Text) → P lines → Q) → OnFinished o P → Q
added (Finished lines) P Q to h = to _ h
added (Absent name) P Q to h = absurd h
added (FindingsFound lines count) P Q to h = absurd h

module _ {E : Type 0} (kind : BackupKind) (links : List LinkState) (stanza : Text) (early : E → Bool) (n d : View) where
  pub taken_stops : {T F : Type 0} (h : Halt E) (f : F) → On (one (IsBackupBy kind links stanza n.now)) (λ command. RepoEffect Whole stanza command (reached_by early (Err h)) n d) → (b : Backup) × Advances {T = T} stanza (backed_up b) (Err f) n d
  taken_stops h f (command, is, does) =
      let x = made_by kind links stanza n.now command is in
      (x.0, record { part = subst (λ (c : Command). DoesPart Whole stanza c n d) x.1 does.part; whole = tt; sound = tt })

  pub taken_well : {U F : Type 0} (o : Outcome) (u : U) (known : Control) (order : OfflineOrder) (nodes : Option Nodes) (used : List LinkState) (clock new_clock : ClockState) → OnFinished o (IsTaken stanza known order nodes used n.now d.now clock new_clock) → On (one (IsBackupBy kind links stanza n.now)) (λ command. RepoEffect Whole stanza command (reached_by early (Ok o)) n d) → (b : Backup) × Advances {E = F} stanza (backed_up b) (Ok u) n d
  taken_well o u known order nodes used clock new_clock finished (command, is, does) =
      let x = made_by kind links stanza n.now command is in
      let P : Text → Type 0 = IsTaken stanza known order nodes used n.now d.now clock new_clock in
      let c = added o P ((c : Backup) × AddsBackup stanza c n.now d.now) (λ lines t. (t.made.backup, t.made.adds)) finished in
      let whole : DoesWhole Whole stanza (backed_up x.0) n d = subst (λ (c : Command). DoesWhole Whole stanza c n d) x.1 (finished_whole Whole stanza command early o P n d finished does) in (
        x.0,
        record {
          part = subst (λ (c : Command). DoesPart Whole stanza c n d) x.1 does.part;
          whole = whole;
          sound = made_sound one_list one_manifest stanza [] x.0 c.0 n.now d.now whole.done c.1.adds c.1.sound;
        },
      )

-- ---- links

in_prefix : {X : Type 0} (xs ys : List X) (i : ℕ) (s : X) → slice_get xs i ≡ Some s → slice_get (xs ++ ys) i ≡ Some s
in_prefix [] ys i s e = cc
in_prefix (x ∷ xs) ys zero s e = e
in_prefix (x ∷ xs) ys (suc i) s e = in_prefix xs ys i s e

in_last : {X : Type 0} (xs : List X) (x : X) → (i : ℕ) × (slice_get (xs ++ x ∷ []) i ≡ Some x)
in_last [] x = (zero, refl)
in_last (y ∷ xs) x = let h = in_last xs x in (suc h.0, h.1)

in_either : {X : Type 0} (xs : List X) (x : X) (i : ℕ) (s : X) → slice_get (xs ++ x ∷ []) i ≡ Some s → (slice_get xs i ≡ Some s) ⊎ (s ≡ x)
in_either [] x zero s e = inr (let h : s ≡ x = cc in h)
in_either [] x (suc i) s e = cc
in_either (y ∷ xs) x zero s e = inl e
in_either (y ∷ xs) x (suc i) s e = in_either xs x i s e

pub ready_none : AreReady []
ready_none i s e = let h : ◌≡◌ {A = Option LinkState} None (Some s) = e in cc

module _ {L : Type 0} (f : L → LinkState) (xs : List L) (x : L) where
  pub ready_prefix : AreReady (map f (xs ++ x ∷ [])) → AreReady (map f xs)
  ready_prefix h i s e = h i s (subst (λ (l : List LinkState). slice_get l i ≡ Some s) (sym (map-append f xs (x ∷ []))) (in_prefix (map f xs) (f x ∷ []) i s e))

  pub ready_last : AreReady (map f (xs ++ x ∷ [])) → IsReady (f x)
  ready_last h = let l = in_last (map f xs) (f x) in h l.0 (f x) (subst (λ (k : List LinkState). slice_get k l.0 ≡ Some (f x)) (sym (map-append f xs (x ∷ []))) l.1)

  pub ready_push : AreReady (map f xs) → IsReady (f x) → AreReady (map f (xs ++ x ∷ []))
  ready_push h is i s e = ⊎_elim (h i s) (λ same. subst IsReady (sym same) is)
      (in_either (map f xs) (f x) i s (subst (λ (l : List LinkState). slice_get l i ≡ Some s) (map-append f xs (x ∷ [])) e))

pub ready_same : {L : Type 0} (f : L → LinkState) (xs ys : List L) → xs ≡ ys → AreReady (map f ys) → AreReady (map f xs)
ready_same {L} f xs ys same h = subst (λ (l : List L). AreReady (map f l)) (sym same) h

-- ---- locks

pub held_too : (lock other : Text) (taken : List Text) → taken ≡ other ∷ lock ∷ [] → IsHeld lock taken
unfolding IsHeld
held_too lock other taken is = subst (λ (l : List Text). Contains l lock) (sym is) (1, omega arith, refl)
