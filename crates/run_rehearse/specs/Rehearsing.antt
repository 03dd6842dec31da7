-- What rehearse means.
use Rattle.std.specs.Prelude.{◌≡◌, ◌⊎◌, ℕ, min, true, IfSome}
use Rattle.base_model.specs.Repository.{Backup}
use Rattle.base_model.specs.Text.{Text}
use Rattle.base_sample.specs.Having.{IsEmpty}
use Rattle.cmd_types.specs.declared.stages.outcome.Outcome.{Outcome}
use Rattle.cmd_types.specs.declared.stages.plan.SyncScope.TheVariants.{Whole}
use Rattle.cmd_types.specs.DisksEffect.{one}
use Rattle.cmd_rehearse.specs.declared.fault.RehearseFault.{RehearseFault}
use Rattle.cmd_rehearse.specs.Causes.{RehearseCause}
use Rattle.cmd_rehearse.specs.Commands.{IsRehearsal}
use Rattle.cmd_rehearse.specs.Faults.{rehearse_early}
use Rattle.cmd_rehearse.specs.Rehearsing.{IsRehearsed}
use Rattle.cmd_rehearse.specs.Texts.{rehearse_status, rehearse_message}
use Rattle.cmd_trait.specs.KnownWorld.{KnownWorld}
use Rattle.cmd_trait.specs.Meaning.{Meaning, nothing, places_plan, usual_meaning}

-- a sample cluster's size is at most 64 (the option's bounds)
abbrev pub size_by : ℕ → ℕ
size_by number = min number 64

-- Ok of rehearse: three backups were made, of which one is left, and the lines say what the result of each step was,
-- and what a verification found
abbrev pub Rehearses : Text → ℕ → KnownWorld → KnownWorld → Outcome → Type 0
Rehearses stanza number old new outcome = (b : Backup) × (c : Backup) × (d : Backup)
    × IsRehearsed stanza number b c d old.repo new.repo new.nodes outcome

-- A rehearsal of this number. It works in a data folder that is empty.
abbrev pub rehearse_meaning : ℕ → Meaning RehearseFault
rehearse_meaning number = record (usual_meaning rehearse_status rehearse_message) {
  -- both locks are taken, and the whole stanza is synced
  plan = record places_plan { sync_scope = Whole; backup_lock = true; archive_lock = true };
  uses = record nothing { workers = true; clock = true };
  unsyncs = true;
  manner = λ p old new. one (IsRehearsal (size_by number));
  promise = λ p old new outcome. Rehearses p.stanza (size_by number) old new outcome;
  cause = λ p old new failed fault. RehearseCause p.stanza (size_by number) old.repo old.nodes fault;
  early = rehearse_early;
  repo_effect = λ p least old new. Unit {0};
  folder_effect = λ p old nodes. (nodes ≡ old.nodes) ⊎ IfSome old.nodes IsEmpty;
}
