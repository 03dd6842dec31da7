-- The list of expire, what it does where it is refused or the clock fails, and what it is in the log.
use Rattle.std.proofs.Common.{◌≡◌, inl, Bool, true, false, refl}
use Rattle.std.specs.Prelude.{IfOk, IsErrAnd, OnOk, Result, Ok, Err}
use Rattle.base_devices.specs.Moments.{View}
use Rattle.base_devices.specs.States.{ClockState}
use Rattle.base_model.specs.Steps.{Expire}
use Rattle.base_model.specs.Text.{Text}
use Rattle.archive_store.specs.Still.{rests_none, still_self}
use Rattle.expire_rules.specs.declared.rules.Rules.{Rules}
use Rattle.expire_make.specs.Expiry.{retention}
use Rattle.expire_make.specs.Planning.{BackupPairLasts}
use Rattle.expire_make.proofs.Touching.{touches_none}
use Rattle.expire_make.proofs.Whole.{keeps_needed}
use Rattle.cmd_types.specs.declared.stages.halt.Halt.{Halt}
use Rattle.cmd_types.specs.declared.stages.halt.Halt.TheVariants.{Refused, Failed, NoMemory}
use Rattle.cmd_types.specs.declared.stages.outcome.Outcome.{Outcome}
use Rattle.cmd_types.specs.declared.stages.plan.SyncScope.TheVariants.{Whole}
use Rattle.cmd_types.specs.Reached.{OnFinished, reached_by, back_if, fails_early}
use Rattle.cmd_types.specs.DisksEffect.{to_end, turned_back, stopped, On, one, RepoEffect}
use Rattle.cmd_types.proofs.Doing.{rests_part, rests_does}
use Rattle.cmd_expire.specs.declared.fault.FollowUpFault.{FollowUpFault}
use Rattle.cmd_expire.specs.declared.fault.ExpireCommandFault.{ExpireCommandFault}
use Rattle.cmd_expire.specs.FollowUp.{Follows}
use Rattle.cmd_expire.specs.Faults.{expire_early}
use Rattle.cmd_expire.specs.Pruning.{ShowsMoment, IsExpiryBy, IsExpired, Prunes}
use Rattle.cmd_expire.proofs.Moments.{some_moment}

-- ---- where nothing was done

back_not : (early : Bool) → ¬ (back_if early ≡ to_end)
back_not true at = let e : turned_back ≡ to_end = at in cc
back_not false at = let e : stopped ≡ to_end = at in cc

not_end : (result : Result Outcome (Halt ExpireCommandFault)) (h : Halt ExpireCommandFault) → IsErrAnd result (λ x. x ≡ h) → ¬ (reached_by expire_early result ≡ to_end)
not_end (Ok x) h is at = absurd is
not_end (Err (Refused e)) h is at = back_not (expire_early e) at
not_end (Err (Failed object)) h is at = back_not (fails_early object) at
not_end (Err NoMemory) h is at = let e : stopped ≡ to_end = at in cc

on_err : {T E : Type 0} (P : Type 0) (result : Result T E) (h : E) → IsErrAnd result (λ x. x ≡ h) → OnOk result P
on_err P (Ok x) h is = absurd is
on_err P (Err x) h is = tt

if_err : {T E : Type 0} (P : T → Type 0) (result : Result T E) (h : E) → IsErrAnd result (λ x. x ≡ h) → IfOk result P
if_err P (Ok x) h is = absurd is
if_err P (Err x) h is = tt

pub undone : (stanza : Text) (rules : Rules) (clock new_clock : ClockState) (a : View) (result : Result Outcome (Halt ExpireCommandFault)) (h : Halt ExpireCommandFault) → IsErrAnd result (λ x. x ≡ h) → Prunes stanza rules clock new_clock a a result
undone stanza rules clock new_clock a result h is =
    let m = some_moment rules.full clock.least new_clock.least in
    let command = Expire (retention rules m.0) in
    record {
      moment = m.0;
      may_be = m.1;
      shown = inl (still_self a);
      known = on_err (ShowsMoment rules.full clock new_clock m.0) result h is;
      does = rests_does Whole stanza command (reached_by expire_early result) a a (not_end result h is) (rests_none a) refl;
      pruned = if_err (λ o. OnFinished o (IsExpired stanza rules m.0 a.now a.now)) result h is;
      keeps = keeps_needed stanza rules m.0 a a (rests_part Whole stanza command a a (rests_none a) refl);
      touches = touches_none stanza rules m.0 a;
      lasts = on_err (BackupPairLasts stanza a a) result h is;
    }

-- nor was any after a backup
pub undone_after : (stanza : Text) (rules : Rules) (clock new_clock : ClockState) (a : View) (lines : Text) (result : Result (Unit {0}) FollowUpFault) (fault : FollowUpFault) → IsErrAnd result (λ x. x ≡ fault) → Follows stanza rules clock new_clock a a lines lines result
undone_after stanza rules clock new_clock a lines (Ok x) fault is = absurd is
undone_after stanza rules clock new_clock a lines (Err e) fault is =
    let m = some_moment rules.full clock.least new_clock.least in
    record {
      moment = m.0;
      may_be = m.1;
      shown = inl (still_self a);
      known = tt;
      part = rests_part Whole stanza (Expire (retention rules m.0)) a a (rests_none a) refl;
      whole = tt;
      pruned = tt;
      stays = refl;
      touches = touches_none stanza rules m.0 a;
      lasts = tt;
    }

-- ---- in the log

-- it is an expiry by the rules
pub in_log : (stanza : Text) (rules : Rules) (clock new_clock : ClockState) (a d : View) (result : Result Outcome (Halt ExpireCommandFault)) → Prunes stanza rules clock new_clock a d result
    → On (one (IsExpiryBy rules clock.least new_clock.least)) (λ command. RepoEffect Whole stanza command (reached_by expire_early result) a d)
in_log stanza rules clock new_clock a d result p = (Expire (retention rules p.moment), (p.moment, p.may_be, refl), p.does)
