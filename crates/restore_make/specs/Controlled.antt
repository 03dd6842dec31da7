-- How the control file is put in its place. Own.
use Rattle.std.specs.Prelude.{◌≡◌, ◌≢◌, List, [], ◌∷◌, Result, IfSome}
use Rattle.base_devices.specs.Content.{at}
use Rattle.base_devices.specs.DataFolder.{ChangesTree, moved_node}
use Rattle.base_devices.specs.Links.{LinkState}
use Rattle.base_devices.specs.States.{DataFolderState, IsSyncedAt}
use Rattle.base_model.specs.Text.{Text, In}
use Rattle.base_model.specs.Values.{FileEntry, file_entry_of}
use Rattle.worker_pool.specs.Pools.{links_in}
use Rattle.worker_pool.specs.declared.pool.Pool.{Pool}
use Rattle.restore_steps.specs.Files.{temporary_path}
use Rattle.restore_steps.specs.Clearing.{control_path}
use Rattle.restore_make.specs.declared.control.BackupFile.{BackupFile}
use Rattle.restore_make.specs.declared.fault.FillFault.{FillFault}
use Rattle.restore_make.specs.Finished.{waiting_path, HasEntry, IsAway}
use Rattle.restore_make.specs.Faults.{FillFails}

-- it is the control file's among these entries
abbrev pub IsControlOf : List FileEntry → FileEntry → Type 0
IsControlOf es e = In e es × (e.path ≡ control_path)

-- where the tree is known, it has the file at a path
abbrev pub HasBackupFile : {L S : Type 0} → BackupFile → Text → (L → LinkState) → Pool L S → DataFolderState → Type 0
HasBackupFile file path of pool tree = IfSome tree.nodes
    (HasEntry file.stanza.now file.own.now (links_in of pool) (file_entry_of file.entry.now) path)

-- where nothing was at a path nothing is
abbrev pub StaysAway : Text → DataFolderState → DataFolderState → Type 0
StaysAway path old new = IsAway path old.nodes → IsAway path new.nodes

-- where what is at the path was synced it is
abbrev pub KeepsSynced : Text → DataFolderState → DataFolderState → Type 0
KeepsSynced path old new = IsSyncedAt old path → IsSyncedAt new path

-- the control file that waits gets its own name
abbrev pub MovesControl : {A E : Type 0} → Result A E → DataFolderState → DataFolderState → Type 0
MovesControl result old new = ChangesTree result (moved_node waiting_path control_path) old.nodes new.nodes

-- nothing but the control file, and what it is before, has changed
abbrev pub ChangesControl : DataFolderState → DataFolderState → Type 0
ChangesControl old new = (q : Text) → q ≢ control_path → q ≢ waiting_path → q ≢ temporary_path waiting_path
    → at q new.nodes ≡ at q old.nodes

-- why the file isn't there
abbrev pub FailsToFetch : {L S T : Type 0} → BackupFile → (L → LinkState) → Pool L S → Pool L S → (T → DataFolderState)
    → T → T → FillFault → Type 0
FailsToFetch file of old new state tree tree_new e =
    FillFails e file.stanza.now file.own.now (file_entry_of file.entry.now ∷ []) (links_in of old) (links_in of new)
    old.lost.items new.lost.items (state tree).faults (state tree_new).faults
