-- How a rehearsal ended, and what it then did.
use Rattle.std.proofs.Common.{◌≡◌, ℕ, Result, Ok, Err, refl, subst, string_bytes}
use Rattle.std.specs.Prelude.{IfOk}
use Rattle.base_devices.specs.Content.{Content}
use Rattle.base_devices.specs.DataFolder.{Nodes}
use Rattle.base_devices.specs.Moments.{View, LeavesNoMore}
use Rattle.base_model.specs.Steps.{Command}
use Rattle.base_model.specs.Text.{Text}
use Rattle.cmd_types.specs.declared.stages.object.Object.TheVariants as objects
use Rattle.cmd_types.specs.declared.stages.halt.Halt.{Halt}
use Rattle.cmd_types.specs.declared.stages.halt.Halt.TheVariants.{Refused, Failed, NoMemory}
use Rattle.cmd_types.specs.declared.stages.outcome.Outcome.{Outcome}
use Rattle.cmd_types.specs.declared.stages.outcome.Outcome.TheVariants.{Finished, Absent, FindingsFound}
use Rattle.cmd_types.specs.declared.stages.plan.SyncScope.TheVariants.{Whole}
use Rattle.cmd_types.specs.Halts.{HaltCause}
use Rattle.cmd_types.specs.Reached.{OnFinished, reached_by}
use Rattle.cmd_types.specs.DisksEffect.{to_end, RepoEffect}
use Rattle.cmd_types.proofs.Doing.{rests_does}
use Rattle.cmd_verify.specs.Verifying.{IsVerified}
use Rattle.cmd_verify.specs.declared.findings.finding.Finding.{Finding}
use Rattle.std.proofs.Common.{List, [], ◌∷◌, Option}
use Rattle.cmd_verify.specs.Verifying.{EndsBy}
use Rattle.cmd_rehearse.specs.declared.fault.StepFault.{StepFault}
use Rattle.cmd_rehearse.specs.declared.fault.RehearseFault.{RehearseFault}
use Rattle.cmd_rehearse.specs.declared.fault.RehearseFault.TheVariants.{StanzaExists, NotEmpty, Step}
use Rattle.cmd_rehearse.specs.Advancing.{Carries}
use Rattle.cmd_rehearse.specs.Causes.{Fails}
use Rattle.cmd_rehearse.specs.Faults.{of_step, rehearse_early}
use Rattle.base_devices.specs.Links.{LinkState}
use Rattle.base_devices.specs.States.{ClockState}
use Rattle.cmd_backup_offline.specs.declared.order.OfflineOrder.{OfflineOrder}
use Rattle.cmd_backup_offline.specs.Taken.{IsTaken}
use Rattle.cmd_rehearse.specs.Backups.{IsTakenBy}
use Rattle.cmd_rehearse.specs.Commands.{sample}
use Rattle.cmd_rehearse.specs.declared.final_restore.RehearsalEnd.{RehearsalEnd}
use Rattle.cmd_rehearse.specs.Rehearsing.{IsKnown, IsKnownBehind, IsRestoredLast, ComesTo, IsEnded}

-- a verification ends with lines
ends_known : (found : List Finding) (o : Outcome) → EndsBy found o → IsKnown o
ends_known found (Finished lines) h = tt
ends_known [] (Absent name) h = absurd h
ends_known (x ∷ xs) (Absent name) h = absurd h
ends_known found (FindingsFound lines count) h = tt

pub examined_known : (stanza : Text) (now : Option Content) (o : Outcome) → IsVerified stanza now o → IsKnown o
examined_known stanza now o h = ends_known h.found o h.ends

pub after_known : (lines : Text) (found o : Outcome) → IsKnownBehind lines found o → IsKnown o
after_known lines (Finished known) (Finished all) h = tt
after_known lines (Finished known) (Absent name) h = absurd h
after_known lines (Finished known) (FindingsFound all number) h = tt
after_known lines (Absent name) (Finished all) h = tt
after_known lines (Absent name) (Absent other) h = absurd h
after_known lines (Absent name) (FindingsFound all number) h = tt
after_known lines (FindingsFound known count) (Finished all) h = tt
after_known lines (FindingsFound known count) (Absent name) h = absurd h
after_known lines (FindingsFound known count) (FindingsFound all number) h = tt

module _ (stanza : Text) (command : Command) (a d : View) where
  -- it reached its end
  pub went : {E : Type 0} (o : Outcome) → IsKnown o → Carries {E = E} stanza command (Ok o) a d → RepoEffect Whole stanza command (reached_by rehearse_early (Ok o)) a d
  went (Finished lines) known h = record { part = h.part; whole = h.whole; turned = tt }
  went (Absent name) known h = absurd known
  went (FindingsFound lines count) known h = record { part = h.part; whole = h.whole; turned = tt }

  -- one of its steps was refused
  module _ (W : StepFault → Type 0) (r s t u v w : ℕ) where
    pub stopped_does : {T : Type 0} (h : Halt StepFault) → HaltCause W (Fails r s t u v w) h → Carries {T = T} stanza command (Err h) a d → RepoEffect Whole stanza command (reached_by rehearse_early (Err (of_step h))) a d
    stopped_does (Refused e) cause h = record { part = h.part; whole = tt; turned = tt }
    stopped_does (Failed objects.Repo) cause h = record { part = h.part; whole = tt; turned = tt }
    stopped_does (Failed objects.Spool) cause h = absurd cause
    stopped_does (Failed objects.TheDataFolder) cause h = record { part = h.part; whole = tt; turned = tt }
    stopped_does (Failed objects.Server) cause h = absurd cause
    stopped_does (Failed objects.Others) cause h = absurd cause
    stopped_does (Failed objects.Clock) cause h = record { part = h.part; whole = tt; turned = tt }
    stopped_does (Failed objects.Locks) cause h = absurd cause
    stopped_does (Failed objects.Config) cause h = absurd cause
    stopped_does (Failed objects.Output) cause h = absurd cause
    stopped_does NoMemory cause h = record { part = h.part; whole = tt; turned = tt }

  -- nothing was done
  pub idle_does : LeavesNoMore a d → d.now ≡ a.now → (h : Halt RehearseFault) → RepoEffect Whole stanza command (reached_by rehearse_early (Err h)) a d
  idle_does rests same h = rests_does Whole stanza command (reached_by rehearse_early (Err h)) a d (not_end h) rests same
    where
      not_end : (h : Halt RehearseFault) → ¬ (reached_by rehearse_early (Err h) ≡ to_end)
      not_end (Refused (StanzaExists text)) e = cc
      not_end (Refused (NotEmpty path)) e = cc
      not_end (Refused (Step fault)) e = cc
      not_end (Failed objects.Repo) e = cc
      not_end (Failed objects.Spool) e = cc
      not_end (Failed objects.TheDataFolder) e = cc
      not_end (Failed objects.Server) e = cc
      not_end (Failed objects.Others) e = cc
      not_end (Failed objects.Clock) e = cc
      not_end (Failed objects.Locks) e = cc
      not_end (Failed objects.Config) e = cc
      not_end (Failed objects.Output) e = cc
      not_end NoMemory e = cc

-- a command that succeeded has lines
pub lines_of : (o : Outcome) (P : Text → Type 0) → OnFinished o P → (lines : Text) × P lines
lines_of (Finished lines) P h = (string_bytes lines, h)
lines_of (Absent name) P h = absurd h
lines_of (FindingsFound lines count) P h = absurd h

-- the result that a repository reaches, seen from another moment
pub ends_over : {E : Type 0} (stanza : Text) (a m : Option Content) → m ≡ a → (nodes : Option Nodes) → IsRestoredLast stanza a nodes → (r : Result RehearsalEnd E) → IfOk r (λ e. ComesTo stanza m e.kept e.restored e.found) → IfOk r (λ e. IsEnded stanza a nodes e.kept e.restored e.found)
ends_over stanza a m same nodes given (Ok e) h = record { given = given; comes = subst (λ (o : Option Content). ComesTo stanza o e.kept e.restored e.found) same h }
ends_over stanza a m same nodes given (Err e) h = tt

pub taken_by : (stanza : Text) (o : OfflineOrder) (nodes : Option Nodes) (used : List LinkState) (before now : Option Content) (clock new_clock : ClockState) (outcome : Outcome) → OnFinished outcome (IsTaken stanza sample o nodes used before now clock new_clock) → IsTakenBy stanza o.kind before now
taken_by stanza o nodes used before now clock new_clock outcome h = let x = lines_of outcome (IsTaken stanza sample o nodes used before now clock new_clock) h in
    record { order = o; kind_is = refl; nodes = nodes; used = used; clock = clock; new_clock = new_clock; lines = x.0; taken = x.1 }
