-- What the steps of a restore leave, over what is restored. Own.
use Rattle.std.specs.Prelude.{ℕ, Bool, false, ◌≡◌, ◌⊎◌, List, Result, IfErr, IfSome, map}
use Rattle.base_devices.specs.Content.{at}
use Rattle.base_devices.specs.Links.{LinkState}
use Rattle.base_devices.specs.States.{DataFolderState}
use Rattle.base_devices.specs.declared.data_folder.FolderEntry.{FolderEntry}
use Rattle.base_model.specs.Text.{Text}
use Rattle.base_model.specs.Values.{FileEntry, file_entry_of, manifest_of}
use Rattle.base_model.specs.declared.files.FileEntry as rust_file
use Rattle.base_model.specs.declared.files.Manifest as rust_manifest
use Rattle.base_model.specs.declared.labels.Label.{Label}
use Rattle.worker_pool.specs.Pools.{links_in}
use Rattle.worker_pool.specs.declared.pool.Pool.{Pool}
use Rattle.restore_steps.specs.Clearing.{control_path, seen_of, HasNone, IsListed}
use Rattle.restore_make.specs.declared.fault.FillFault.{FillFault}
use Rattle.restore_make.specs.declared.options.Restoration.{Restoration}
use Rattle.restore_make.specs.Recovered.{LogFetch, Recovery}
use Rattle.restore_make.specs.Options.{Options, options_of, is_added}
use Rattle.restore_make.specs.Listed.{IsPrepared, HasFolders}
use Rattle.restore_make.specs.KeptTimes.{OnlyShown}
use Rattle.restore_make.specs.Settings.{IsBytesOf, HasSettings, HoldsConf}
use Rattle.restore_make.specs.Finished.{IsFinished, Rebuilds, AppliesSettings, Finishes, Completes, PutsAll, Restores}
use Rattle.restore_make.specs.Faults.{FillFails}

-- ---- the data folder alone

-- a folder of this listing was made ready for the manifest's files
abbrev pub Prepares : rust_manifest.Manifest → List FolderEntry → DataFolderState → DataFolderState → Type 0
Prepares manifest seen old new = IsPrepared (manifest_of manifest) (map seen_of seen) old.nodes new.nodes

-- where all that is there is listed, no call is faulty
abbrev pub ProperWhereListed : List FolderEntry → DataFolderState → DataFolderState → Type 0
ProperWhereListed seen old new = IfSome old.nodes (IsListed (map seen_of seen)) → new.faulty_calls ≡ old.faulty_calls

-- where the manifest's folders are there, no call is faulty
abbrev pub ProperInFolders : Restoration → DataFolderState → DataFolderState → Type 0
ProperInFolders what old new = HasFolders (manifest_of what.manifest.now).folders old.nodes
    → new.faulty_calls ≡ old.faulty_calls

-- the marks are of ordinary entries of which the listing shows files
abbrev pub MarksShown : Restoration → List Bool → Type 0
MarksShown what marks =
    OnlyShown (options_of what.options) (map seen_of what.seen.now) (manifest_of what.manifest.now).files marks

-- nothing but the files with settings of the recovery has changed
abbrev pub ChangesSettings : Recovery → DataFolderState → DataFolderState → Type 0
ChangesSettings recovery old new = (q : Text) → is_added recovery q ≡ false → at q new.nodes ≡ at q old.nodes

-- nothing was changed, or no control file is there
abbrev pub StopsSafely : DataFolderState → DataFolderState → Type 0
StopsSafely old new = (new.nodes ≡ old.nodes) ⊎ HasNone control_path new.nodes

-- ---- what is read in memory

-- a link of the pool read these bytes of a file of the backup
abbrev pub ReadsBytes : {L S : Type 0} → Text → Label → rust_file.FileEntry → (L → LinkState) → Pool L S → Text → Type 0
ReadsBytes stanza own file of pool bytes = IsBytesOf stanza own (links_in of pool) (file_entry_of file) bytes

-- of the file with settings, where the backup has one
abbrev pub ReadsConf : {L S : Type 0} → Text → Label → List rust_file.FileEntry → (L → LinkState) → Pool L S → Text → Type
    0
ReadsConf stanza own files of pool bytes = HoldsConf stanza own (links_in of pool) (map file_entry_of files) bytes

-- why files weren't read: of no fault of the folder
abbrev pub ReadsFail : {A L S : Type 0} → Result A FillFault → Text → Label → List FileEntry → (L → LinkState) → Pool L S
    → Pool L S → Type 0
ReadsFail result stanza own es of old new = (f g : ℕ) → IfErr result
    (λ e. FillFails e stanza own es (links_in of old) (links_in of new) old.lost.items new.lost.items f g)

-- ---- the steps of a restore

-- the settings of a recovery that fetches the log so are there
abbrev pub AddsFetch : {L S : Type 0} → Restoration → LogFetch → (L → LinkState) → Pool L S → DataFolderState → Type 0
AddsFetch what fetch of pool tree = IfSome tree.nodes
    (HasSettings what.stanza.now what.manifest.now.label (links_in of pool) (manifest_of what.manifest.now).files fetch)

-- all but the settings and the control file is there
abbrev pub RebuildsAll : {L S T : Type 0} → Restoration → List Bool → (L → LinkState) → Pool L S → (T → DataFolderState)
    → T → T → Type 0
RebuildsAll what marks of pool state old new =
    Rebuilds what.stanza.now (links_in of pool) (options_of what.options) (manifest_of what.manifest.now)
    (map seen_of what.seen.now) marks (state old).nodes (state new).nodes

-- the settings are there as well
abbrev pub SettlesAll : {L S T : Type 0} → Restoration → (L → LinkState) → Pool L S → (T → DataFolderState) → T → T → Type
    0
SettlesAll what of pool state old new = (marks : List Bool)
    → AppliesSettings what.stanza.now (links_in of pool) (options_of what.options) (manifest_of what.manifest.now) marks
    (state old).nodes (state new).nodes

-- the control file is there as well
abbrev pub FinishesAll : {L S T : Type 0} → Restoration → (L → LinkState) → Pool L S → (T → DataFolderState) → T → T
    → Type 0
FinishesAll what of pool state old new = (o : Options) (marks : List Bool)
    → Finishes what.stanza.now (links_in of pool) o (manifest_of what.manifest.now) marks (state old).nodes
    (state new).nodes

-- the settings and the control file are there
abbrev pub CompletesAll : {L S T : Type 0} → Restoration → (L → LinkState) → Pool L S → (T → DataFolderState) → T → T
    → Type 0
CompletesAll what of pool state old new = (marks : List Bool)
    → Completes what.stanza.now (links_in of pool) (options_of what.options) (manifest_of what.manifest.now) marks
    (state old).nodes (state new).nodes

-- everything is there where these marks state which files are kept
abbrev pub PutsRest : {L S T : Type 0} → Restoration → List Bool → (L → LinkState) → Pool L S → (T → DataFolderState) → T
    → T → Type 0
PutsRest what marks of pool state old new =
    PutsAll what.stanza.now (links_in of pool) (options_of what.options) (manifest_of what.manifest.now)
    (map seen_of what.seen.now) marks (state old).nodes (state new).nodes

-- ---- a whole restore

-- the tree has all that the manifest states
abbrev pub LeavesFinished : {L S T : Type 0} → Restoration → (L → LinkState) → Pool L S → (T → DataFolderState) → T → T
    → Type 0
LeavesFinished what of pool state old new = IfSome (state new).nodes
    (IsFinished what.stanza.now (links_in of pool) (options_of what.options) (manifest_of what.manifest.now)
    (state old).nodes)

-- over links that read the repository it is the restored tree of the manifest's backup
abbrev pub LeavesRestored : {L S T : Type 0} → Restoration → (L → LinkState) → Pool L S → (T → DataFolderState) → T → T
    → Type 0
LeavesRestored what of pool state old new = IfSome (state new).nodes
    (Restores what.stanza.now (links_in of pool) (options_of what.options) (manifest_of what.manifest.now)
    (state old).nodes)

-- why not all files of the manifest are there
abbrev pub FailsToRestore : {L S T : Type 0} → Restoration → (L → LinkState) → Pool L S → Pool L S → (T → DataFolderState)
    → T → T → FillFault → Type 0
FailsToRestore what of old new state tree tree_new e =
    FillFails e what.stanza.now what.manifest.now.label (manifest_of what.manifest.now).files (links_in of old)
    (links_in of new) old.lost.items new.lost.items (state tree).faults (state tree_new).faults
