-- How the files are put into the folder, over the pool and the folder that the calls are given. Own.
use Rattle.std.specs.Prelude.{[], ◌<◌, ◌^◌, List, length, take, Result, IfErr, IfSome}
use Rattle.base_devices.specs.Links.{LinkState}
use Rattle.base_devices.specs.States.{DataFolderState, FolderFailed}
use Rattle.base_model.specs.Values.{manifest_of}
use Rattle.worker_pool.specs.Pools.{links_in}
use Rattle.worker_pool.specs.Run.{Left}
use Rattle.worker_pool.specs.declared.pool.Pool.{Pool}
use Rattle.restore_make.specs.Finished.{IsFinished}
use Rattle.restore_make.specs.Options.{options_of}
use Rattle.restore_make.specs.declared.options.RestoreOptions.{RestoreOptions}
use Rattle.cmd_types.specs.Halts.{HaltCause, Only}
use Rattle.cmd_types.specs.declared.stages.halt.Halt.{Halt}
use Rattle.cmd_types.specs.declared.stages.object.Object.TheVariants.{TheDataFolder}
use Rattle.cmd_restore.specs.declared.fault.RestoreCommandFault.{RestoreCommandFault}
use Rattle.cmd_restore.specs.declared.folder_fill.FillOrder.{FillOrder}
use Rattle.cmd_restore.specs.declared.order.RecoverOrder.{RecoverOrder}
use Rattle.cmd_restore.specs.Fetching.{recovery_type, options_by}
use Rattle.cmd_restore.specs.Filling.{StartCause, FillCause}

-- ---- the workers

-- the links that an order uses: the first ones, as many as it has workers
abbrev pub used_links : {L S : Type 0} → RecoverOrder → (L → LinkState) → Pool L S → List LinkState
used_links order of pool = take order.workers (links_in of pool)

-- of the links that are used some are left, and each of the others has its entry
abbrev pub LeavesUsed : {L S : Type 0} → RecoverOrder → (L → LinkState) → Pool L S → Pool L S → Type 0
LeavesUsed order of old new = Left [] (used_links order of old) [] new.lost.items (links_in of new)

-- why the workers weren't started
abbrev pub StartHalts : {L S : Type 0} → RecoverOrder → (L → LinkState) → Pool L S → Halt RestoreCommandFault → Type 0
StartHalts order of pool halt = HaltCause (StartCause (used_links order of pool)) (λ _. ⊥) halt

-- ---- the files

-- the folder has all that the manifest states, as the pool's links read it
abbrev pub PutsFiles : {L S T : Type 0} → FillOrder → RestoreOptions → (L → LinkState) → Pool L S
    → (T → DataFolderState) → T → T → Type 0
PutsFiles asked options of pool state old new = IfSome (state new).nodes
    (IsFinished asked.stanza.now (links_in of pool) (options_of options) (manifest_of asked.manifest.now)
    (state old).nodes)

-- why the files weren't put into the folder, where the pool's links are those that are left of these
abbrev pub PutHalts : {A L S T : Type 0} → Result A (Halt RestoreCommandFault) → FillOrder → (L → LinkState)
    → Pool L S → (T → DataFolderState) → T → T → Type 0
PutHalts result asked of pool state old new = (used : List LinkState) → length used < 2 ^ 32
    → Left [] used [] pool.lost.items (links_in of pool)
    → IfErr result (HaltCause (FillCause asked.stanza.now (manifest_of asked.manifest.now) used)
    (Only TheDataFolder (FolderFailed (state old) (state new))))

-- the folder has all that the manifest states
abbrev pub FillsBy : {L S T : Type 0} → FillOrder → (L → LinkState) → Pool L S → (T → DataFolderState) → T → T → Type 0
FillsBy asked of pool state old new = IfSome (state new).nodes
    (IsFinished asked.stanza.now (used_links asked.order.now of pool)
    (options_by asked.stanza.now asked.order.now.delta (recovery_type asked.order.now.recovery))
    (manifest_of asked.manifest.now) (state old).nodes)

-- why it hasn't
abbrev pub FillHalts : {L S T : Type 0} → FillOrder → (L → LinkState) → Pool L S → (T → DataFolderState) → T → T
    → Halt RestoreCommandFault → Type 0
FillHalts asked of pool state old new halt =
    HaltCause (FillCause asked.stanza.now (manifest_of asked.manifest.now) (used_links asked.order.now of pool))
    (Only TheDataFolder (FolderFailed (state old) (state new))) halt
