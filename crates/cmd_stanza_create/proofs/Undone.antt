-- Where a command ends before its first step: nothing was done.
use Rattle.std.proofs.Common.{◌≡◌, Bool, true, false, refl, sym, subst}
use Rattle.std.specs.Prelude.{Result, Ok, Err, IfErr, IsErrAnd}
use Rattle.base_devices.specs.Moments.{View}
use Rattle.base_model.specs.Steps.{Command}
use Rattle.base_model.specs.Text.{Text}
use Rattle.archive_store.specs.Still.{IsStill, rests_none, still_self}
use Rattle.cmd_types.specs.declared.stages.object.Object.{Object}
use Rattle.cmd_types.specs.declared.stages.halt.Halt.{Halt}
use Rattle.cmd_types.specs.declared.stages.halt.Halt.TheVariants.{Refused, Failed, NoMemory}
use Rattle.cmd_types.specs.declared.stages.outcome.Outcome.{Outcome}
use Rattle.cmd_types.specs.declared.stages.plan.SyncScope.TheVariants.{Whole}
use Rattle.cmd_types.specs.Halts.{Only}
use Rattle.cmd_types.specs.Reached.{reached_by, back_if, fails_early}
use Rattle.cmd_types.specs.DisksEffect.{Reached, to_end, turned_back, stopped, OnNone, RepoEffect}
use Rattle.cmd_types.proofs.Doing.{rests_does}

back_does : (stanza : Text) (command : Command) (early : Bool) (a : View) → RepoEffect Whole stanza command (back_if early) a a
back_does stanza command true a = rests_does Whole stanza command turned_back a a (λ is. cc) (rests_none a) refl
back_does stanza command false a = rests_does Whole stanza command stopped a a (λ is. cc) (rests_none a) refl

module _ {F : Type 0} (early : F → Bool) (stanza : Text) (command : Command) (a : View) where
  pub undone_does : (halt : Halt F) → RepoEffect Whole stanza command (reached_by early (Err halt)) a a
  undone_does (Refused e) = back_does stanza command (early e) a
  undone_does (Failed object) = back_does stanza command (fails_early object) a
  undone_does NoMemory = back_does stanza command false a

  -- so it is with what the exit of a `?` returns
  pub exit_does : (result : Result Outcome (Halt F)) (halt : Halt F) → IsErrAnd result (λ h. h ≡ halt) →
      RepoEffect Whole stanza command (reached_by early result) a a
  exit_does (Ok x) halt is = absurd is
  exit_does (Err h) halt is = undone_does h

-- the disk is still, however far the command came
pub undone_still : (reached : Reached) (a : View) → OnNone reached (IsStill a a)
undone_still to_end a = tt
undone_still turned_back a = still_self a
undone_still stopped a = tt

-- of what the exit of a `?` returns
pub exit_err : {T E : Type 0} (result : Result T E) (fault : E) → IsErrAnd result (λ e. e ≡ fault) → (P : E → Type 0) → P fault → IfErr result P
exit_err (Ok x) fault is P p = tt
exit_err (Err e) fault is P p = subst P (sym is) p

-- only this object failed, so its count of faults rose
pub only_rose : (which object : Object) (Q : Object → Type 0) (rose : Type 0) → (rose → Q which) →
    Only which rose object → Q object
only_rose which object Q rose to h = subst Q (sym h.0) (to h.1)
