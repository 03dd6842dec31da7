-- What the command restore promises, over the devices and the pool that it is given.
use Rattle.std.specs.Prelude.{◌≡◌, List, Some, take}
use Rattle.base_devices.specs.Content.{Content}
use Rattle.base_devices.specs.Links.{LinkState}
use Rattle.base_devices.specs.States.{DiskState, DataFolderState, DiskFailed, FolderFailed}
use Rattle.base_model.specs.Now.{NowRepresents}
use Rattle.base_model.specs.Repository.{Stanza}
use Rattle.base_model.specs.Text.{Text}
use Rattle.worker_pool.specs.Pools.{links_in}
use Rattle.worker_pool.specs.declared.pool.Pool.{Pool}
use Rattle.cmd_types.specs.Halts.{HaltCause}
use Rattle.cmd_types.specs.Reached.{OnFinished}
use Rattle.cmd_types.specs.Risen.{none, rose_in}
use Rattle.cmd_types.specs.declared.stages.halt.Halt.{Halt}
use Rattle.cmd_types.specs.declared.stages.outcome.Outcome.{Outcome}
use Rattle.cmd_restore.specs.declared.fault.RestoreCommandFault.{RestoreCommandFault}
use Rattle.cmd_restore.specs.declared.order.RecoverOrder.{RecoverOrder}
use Rattle.cmd_restore.specs.Fetching.{recovery_type, options_by}
use Rattle.cmd_restore.specs.Restoring.{Before, Recovers, GivesBackup}
use Rattle.cmd_restore.specs.Causes.{RestoreCommandCause}

-- what comes before a restore by this order
abbrev pub before_by : Text → RecoverOrder → DiskState → DataFolderState → List LinkState → Before
before_by stanza order repo tree links = record {
  stanza = stanza;
  choice = order.choice;
  repo = repo.view.now;
  nodes = tree.nodes;
  used = take order.workers links;
  options = options_by stanza order.delta (recovery_type order.recovery);
}

-- the folder has all that the manifest of the chosen label states, and the one line states the label
abbrev pub RecoversBy : {L S T : Type 0} → Text → RecoverOrder → DiskState → (L → LinkState) → Pool L S
    → (T → DataFolderState) → T → T → Outcome → Type 0
RecoversBy stanza order repo of pool state old new outcome =
    OnFinished outcome (Recovers (before_by stanza order repo (state old) (links_in of pool)) (state new).nodes)

-- where the repository represents a stanza, the folder has a backup of the stanza's
abbrev pub GivesBackupBy : {L S T : Type 0} → Text → RecoverOrder → DiskState → (L → LinkState) → Pool L S
    → (T → DataFolderState) → T → T → Outcome → Type 0
GivesBackupBy stanza order repo of pool state old new outcome = (s : Stanza) (f : Content) → repo.view.now ≡ Some f
    → NowRepresents stanza (Some s) repo.view.now
    → OnFinished outcome (GivesBackup s (before_by stanza order repo (state old) (links_in of pool)) f (state new).nodes)

-- why the command ended without its result: it was refused, or the repository or the folder failed
abbrev pub HaltsBy : {D L S T : Type 0} → Text → RecoverOrder → (D → DiskState) → D → D → (L → LinkState) → Pool L S
    → (T → DataFolderState) → T → T → Halt RestoreCommandFault → Type 0
HaltsBy stanza order disk repo repo_new of pool state old new halt =
    HaltCause (RestoreCommandCause (before_by stanza order (disk repo) (state old) (links_in of pool)))
    (rose_in (record none {
      repo = DiskFailed (disk repo) (disk repo_new);
      tree = FolderFailed (state old) (state new);
    })) halt
