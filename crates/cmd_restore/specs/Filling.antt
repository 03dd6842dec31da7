-- Why the files of a backup aren't put into the folder, from the links as they were. Own.
use Rattle.std.specs.Prelude.{◌≡◌, ℕ, List, length, Some, string_bytes, slice_get}
use Rattle.base_devices.specs.Links.{LinkState}
use Rattle.base_model.specs.Text.{Text, In}
use Rattle.base_model.specs.Values.{FileEntry, Manifest}
use Rattle.worker_pool.specs.Reads.{IsSteadyWorker, UnreadBy}
use Rattle.restore_steps.specs.Sources.{source}
use Rattle.restore_make.specs.declared.fault.FillFault.{FillFault}
use Rattle.restore_make.specs.declared.fault.FillFault.TheVariants as fills
use Rattle.restore_make.specs.Faults.{IsDamaged}
use Rattle.cmd_types.specs.declared.stages.halt.Halt.{Halt}
use Rattle.cmd_types.specs.declared.stages.halt.Halt.TheVariants.{Refused, Failed, NoMemory}
use Rattle.cmd_types.specs.declared.stages.object.Object.TheVariants.{TheDataFolder as TheFolder}
use Rattle.cmd_restore.specs.declared.fault.RestoreCommandFault.{RestoreCommandFault}
use Rattle.cmd_restore.specs.declared.fault.RestoreCommandFault.TheVariants.{WorkersLost, Unread, FileDamaged}

-- what a fault of the filling is, by when this many workers were lost
abbrev pub of_fill : ℕ → FillFault → Halt RestoreCommandFault
of_fill lost (fills.FileDamaged path known found) = Refused (FileDamaged path known found)
of_fill lost fills.WorkersLost = Refused (WorkersLost lost)
of_fill lost (fills.Unread path) = Refused (Unread path)
of_fill lost fills.DataFolder = Failed TheFolder
of_fill lost fills.NoMemory = NoMemory

-- this many links there were, and none of them is a steady worker
pub record AreLost (used : List LinkState) (lost : ℕ) : Type 0 where
  pub count : lost ≡ length used
  pub unsteady : (i : ℕ) (from : LinkState) → slice_get used i ≡ Some from → ¬ IsSteadyWorker from.known

-- one of the links couldn't read the bytes of the manifest's file of this path
pub record CannotRead (stanza : Text) (m : Manifest) (used : List LinkState) (path : Text) : Type 0 where
  pub entry : FileEntry
  pub listed : In entry m.files
  pub path_is : path ≡ entry.path
  pub link : ℕ
  pub from : LinkState
  pub from_is : slice_get used link ≡ Some from
  pub unread : UnreadBy from.known (source stanza m.label entry)

-- why the workers aren't started
abbrev pub StartCause : List LinkState → RestoreCommandFault → Type 0
StartCause used (WorkersLost lost) = AreLost used lost
StartCause used other = ⊥

-- why the files of this manifest aren't all there
abbrev pub FillCause : Text → Manifest → List LinkState → RestoreCommandFault → Type 0
FillCause stanza m used (WorkersLost lost) = AreLost used lost
FillCause stanza m used (Unread path) = CannotRead stanza m used (string_bytes path)
FillCause stanza m used (FileDamaged path known found) =
    IsDamaged stanza m.label used m.files (string_bytes path) known found
FillCause stanza m used other = ⊥
