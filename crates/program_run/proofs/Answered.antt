-- From the configuration that was read, to what the program answers.
use Rattle.std.proofs.Common.{◌≡◌, ◌≤◌, ℕ, Bool, true, false, List, [], inl, inr, Option, None, Some, Ok, refl, sym, subst}
use Rattle.base_devices.specs.Cause.{Rises}
use Rattle.base_devices.specs.States.{InputState, OutputState}
use Rattle.base_model.specs.Text.{Text}
use Rattle.options_read.specs.declared.resolve.Command.{Command}
use Rattle.options_read.specs.declared.usage.Usage.{Usage}
use Rattle.options_read.specs.Commands.{IsCommand}
use Rattle.options_read.specs.Settings.{Resolved}
use Rattle.options_table.specs.declared.table.Opt.TheVariants.{Number, Online}
use Rattle.options_table.specs.declared.table.Verb.{Verb}
use Rattle.options_table.specs.declared.table.Verb.TheVariants.{Backup, Rehearse}
use Rattle.expire_rules.specs.declared.rules.Rules.{Rules}
use Rattle.cmd_stanza_create.specs.Server.{Server}
use Rattle.cmd_types.specs.World.{World}
use Rattle.cmd_trait.specs.declared.fault.Fault.{Fault}
use Rattle.cmd_trait.specs.CallEffect.{Carries}
use Rattle.cmd_trait.specs.InForce.{is_on, count_in, place_in}
use Rattle.cmd_trait.specs.Meaning.{Place, Meaning}
use Rattle.cmd_trait.specs.Output.{Prints}
use Rattle.cmd_trait.proofs.Carried.{carries_from, idle_self}
use Rattle.program_run.specs.Answers.{Answers, Obeys}
use Rattle.run_backup.specs.Asking.{BackupHow, RunningHow}
use Rattle.run_backup.specs.Offline.{backup_offline_meaning}
use Rattle.run_backup.specs.Online.{backup_online_meaning}
use Rattle.run_rehearse.specs.Rehearsing.{rehearse_meaning}
use Rattle.program_run.specs.Asked.{ArgumentsResolve, asked, asked_by, backup_by, server_in, expires_in, backup_in, running_in}
use Rattle.program_run.specs.Configuring.{ConfigCause}
use Rattle.program_run.specs.Refusals.{refusal_lines, refusal_status}
use Rattle.program_run.proofs.Lawful.{lawful}

obeys_from : (s : Resolved) (b k : World) (i : InputState) (n : ℕ) → i.files ≡ b.config.files → b.config.faults ≤ i.faults → Obeys s (record b { config = i }) k n → Obeys s b k n
obeys_from s b k i n files le c = carries_from (asked s).at (asked s).means (lawful s) s.warnings b k i n files le c

-- what was resolved is carried out
pub runs_on : (arguments : List Text) (b k : World) (i : InputState) (n : ℕ) (c : Command) → i.files ≡ b.config.files → b.config.faults ≤ i.faults → ((s : Resolved) × ArgumentsResolve arguments b.config.files (Ok s) × IsCommand c s) →
    ((s : Resolved) → IsCommand c s → Obeys s (record b { config = i }) k n) → Answers arguments b k n
runs_on arguments b k i n c files le x obeys = inr (x.0, x.1, obeys_from x.0 b k i n files le (obeys x.0 x.2))

-- what was refused is reported
pub runs_off : (arguments given : List Text) (b : World) (i : InputState) (o : OutputState) (n : ℕ) (fault : Fault Usage) → given ≡ [] → ConfigCause arguments b.config.files (Rises b.config.faults i.faults) fault → Prints (refusal_lines given fault) (refusal_status fault) b.out o n → Answers arguments b (record b { config = i; out = o }) n
runs_off arguments given b i o n fault none cause printed = inl (record {
  fault = fault;
  cause = cause;
  idle = idle_self b i o;
  printed = subst (λ (u : List Text). Prints (refusal_lines u fault) (refusal_status fault) b.out o n) none printed;
})

-- ---- the commands whose values are records

module _ (s : Resolved) (p : Place) (place : p ≡ place_in s) (u : List Text) (warnings : u ≡ s.warnings) (b k : World) (n : ℕ) where
  at_place : {F : Type 0} (m : Meaning F) → Carries p m u b k n → Carries (place_in s) m s.warnings b k n
  at_place m h = subst (λ (q : Place). Carries q m s.warnings b k n) place (subst (λ (w : List Text). Carries p m w b k n) warnings h)

  at_verb : (verb : Verb) → s.source.verb ≡ verb → Carries (place_in s) (asked_by verb s.source s.parameters).means s.warnings b k n → Obeys s b k n
  at_verb verb is h = subst (λ (v : Verb). Carries (place_in s) (asked_by v s.source s.parameters).means s.warnings b k n) (sym is) h

  backed_up : (online : Bool) → s.source.verb ≡ Backup → is_on s.source Online ≡ online → Carries (place_in s) (backup_by online s.source).means s.warnings b k n → Obeys s b k n
  backed_up online verb is h = at_verb Backup verb (subst (λ (t : Bool). Carries (place_in s) (backup_by t s.source).means s.warnings b k n) (sym is) h)

  pub offline_obeys : (how : BackupHow) (expires : Option Rules) → s.source.verb ≡ Backup → is_on s.source Online ≡ false → how ≡ backup_in s.source → expires ≡ expires_in s.source → Carries p (backup_offline_meaning how expires) u b k n → Obeys s b k n
  offline_obeys how expires verb off same follows h = backed_up false verb off (at_place (backup_offline_meaning (backup_in s.source) (expires_in s.source))
      (subst (λ (x : BackupHow). Carries p (backup_offline_meaning x (expires_in s.source)) u b k n) same (subst (λ (e : Option Rules). Carries p (backup_offline_meaning how e) u b k n) follows h)))

  pub online_obeys : (server : Server) (how : RunningHow) (expires : Option Rules) → s.source.verb ≡ Backup → is_on s.source Online ≡ true → server ≡ server_in s.source → how ≡ running_in s.source → expires ≡ expires_in s.source → Carries p (backup_online_meaning server how expires) u b k n → Obeys s b k n
  online_obeys server how expires verb on asked same follows h = backed_up true verb on (at_place (backup_online_meaning (server_in s.source) (running_in s.source) (expires_in s.source))
      (subst (λ (v : Server). Carries p (backup_online_meaning v (running_in s.source) (expires_in s.source)) u b k n) asked
      (subst (λ (x : RunningHow). Carries p (backup_online_meaning server x (expires_in s.source)) u b k n) same (subst (λ (e : Option Rules). Carries p (backup_online_meaning server how e) u b k n) follows h))))

  pub rehearse_obeys : (number : ℕ) → s.source.verb ≡ Rehearse → number ≡ count_in s.source Number → Carries p (rehearse_meaning number) u b k n → Obeys s b k n
  rehearse_obeys number verb same h = at_verb Rehearse verb (at_place (rehearse_meaning (count_in s.source Number)) (subst (λ (x : ℕ). Carries p (rehearse_meaning x) u b k n) same h))
