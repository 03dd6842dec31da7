-- What restore means.
use Rattle.std.specs.Prelude.{◌≡◌, ◌⊎◌, ◌≢◌, ℕ, Bool, true, false, take, Option, Some}
use Rattle.base_devices.specs.Content.{Content}
use Rattle.base_devices.specs.DataFolder.{Nodes}
use Rattle.base_model.specs.Now.{NowRepresents}
use Rattle.base_model.specs.Repository.{Stanza}
use Rattle.base_model.specs.Text.{Text}
use Rattle.restore_steps.specs.Clearing.{control_path, HasNone}
use Rattle.cmd_types.specs.declared.stages.outcome.Outcome.{Outcome}
use Rattle.cmd_types.specs.Reached.{OnFinished}
use Rattle.cmd_restore.specs.declared.fault.RestoreCommandFault.{RestoreCommandFault}
use Rattle.cmd_restore.specs.Causes.{RestoreCommandCause}
use Rattle.cmd_restore.specs.Ends.{restore_early}
use Rattle.cmd_restore.specs.Fetching.{RecoveryType, options_by}
use Rattle.cmd_restore.specs.Restoring.{Before, Recovers, GivesBackup}
use Rattle.cmd_restore.specs.Texts.{restore_status, restore_message}
use Rattle.cmd_restore.specs.Words.{ShowsChoice, WordCause}
use Rattle.restore_choice.specs.declared.choice.Choice.{Choice}
use Rattle.cmd_trait.specs.KnownWorld.{KnownWorld}
use Rattle.cmd_trait.specs.Meaning.{Place, Meaning, nothing, reading_plan, usual_meaning}

-- how a backup is restored: with how many workers, whether equal files stay, and how the server is to recover
pub record RestoreHow : Type 0 where
  pub workers : ℕ
  pub delta : Bool
  pub recovery : RecoveryType

-- what a restore finds
abbrev pub found_for : Place → Choice → RestoreHow → KnownWorld → Before
found_for p choice how old = record {
  stanza = p.stanza;
  choice = choice;
  repo = old.repo;
  nodes = old.nodes;
  used = take how.workers old.links;
  options = options_by p.stanza how.delta how.recovery;
}

-- Ok of restore: the chosen backup is in the folder
pub record Restores (p : Place) (set : Option Text) (how : RestoreHow) (old new : KnownWorld) (outcome : Outcome) : Type
    0 where
  pub choice : Choice
  pub is : ShowsChoice set how.recovery choice
  pub recovers : OnFinished outcome (Recovers (found_for p choice how old) new.nodes)
  pub gives : (s : Stanza) (f : Content) → old.repo ≡ Some f → NowRepresents p.stanza (Some s) old.repo
      → OnFinished outcome (GivesBackup s (found_for p choice how old) f new.nodes)

-- the arguments choose a backup: a label that is given is one's, and a target has its form
abbrev pub Chooses : Option Text → RecoveryType → Type 0
Chooses set recovery = (choice : Choice) × ShowsChoice set recovery choice

-- a backup isn't restored for this
abbrev pub RestoreCause : Place → Option Text → RestoreHow → KnownWorld → RestoreCommandFault → Type 0
RestoreCause p set how old fault =
    (choice : Choice) × ShowsChoice set how.recovery choice × RestoreCommandCause (found_for p choice how old) fault

-- the folder is unchanged, or has no control file, so that no server starts from half of a backup
abbrev pub LeavesNoHalf : KnownWorld → Option Nodes → Type 0
LeavesNoHalf old new = (new ≡ old.nodes) ⊎ HasNone control_path new

-- the folder holds the whole chosen backup
abbrev pub HoldsAsked : Place → Option Text → RestoreHow → KnownWorld → Option Nodes → Type 0
HoldsAsked p set how old new = (choice : Choice) × ShowsChoice set how.recovery choice
    × ((lines : Text) × Recovers (found_for p choice how old) new lines)

-- no half of a backup is left, or the whole one
abbrev pub LeavesWhole : Place → Option Text → RestoreHow → KnownWorld → Option Nodes → Type 0
LeavesWhole p set how old new = LeavesNoHalf old new ⊎ HoldsAsked p set how old new

-- Refused, it leaves no half of a backup, and no whole one. Where it is refused for another reason than lost workers
-- (55), an unread file (56) or a damaged one (63), it has started no worker, and the folder is unchanged.
abbrev pub LeavesRefused : KnownWorld → KnownWorld → ℕ → Type 0
LeavesRefused old new n = LeavesNoHalf old new.nodes × (n ≢ 55 → n ≢ 56 → n ≢ 63 → new.nodes ≡ old.nodes)

abbrev pub restore_meaning : Option Text → RestoreHow → Meaning RestoreCommandFault
restore_meaning set how = record (usual_meaning restore_status restore_message) {
  -- no lock: the data folder is opened, the stanza is synced, and both pairs are read
  plan = record reading_plan { folder = true };
  uses = record nothing { workers = true };
  folder_unsynced = false;
  promise = λ p old new outcome. Restores p set how old new outcome;
  arguments = λ p. Chooses set how.recovery;
  arguments_cause = λ p fault. WordCause set how.recovery fault;
  cause = λ p old new failed fault. RestoreCause p set how old fault;
  early = restore_early;
  folder_effect = λ p old nodes. LeavesWhole p set how old nodes;
  turned = λ p old new n. LeavesRefused old new n;
}
