-- What a restore leaves of the data folder where it is refused.
use Rattle.std.specs.Prelude.{◌≡◌, Bool, true, false}
use Rattle.base_devices.specs.States.{DataFolderState}
use Rattle.cmd_types.specs.declared.stages.halt.Halt.{Halt}
use Rattle.cmd_types.specs.declared.stages.halt.Halt.TheVariants.{Refused, Failed, NoMemory}
use Rattle.cmd_types.specs.declared.stages.object.Object.{Object}
use Rattle.cmd_types.specs.declared.stages.object.Object.TheVariants.{Repo}
use Rattle.cmd_restore.specs.declared.fault.RestoreCommandFault.{RestoreCommandFault}
use Rattle.cmd_restore.specs.declared.fault.RestoreCommandFault.TheVariants.{WorkersLost, Unread, FileDamaged}

-- no refusal comes after a step of the repository
abbrev pub restore_early : RestoreCommandFault → Bool
restore_early fault = true

-- the refusal comes before the workers are started
abbrev pub comes_first : RestoreCommandFault → Bool
comes_first (WorkersLost lost) = false
comes_first (Unread path) = false
comes_first (FileDamaged path known found) = false
comes_first other = true

-- the repository is only read before they are
abbrev pub fails_first : Object → Bool
fails_first Repo = true
fails_first _ = false

-- a restore that ended so has left the folder unchanged
abbrev pub leaves_folder : Halt RestoreCommandFault → Bool
leaves_folder (Refused fault) = comes_first fault
leaves_folder (Failed object) = fails_first object
leaves_folder NoMemory = false

-- where it has, the folder holds what it held
abbrev pub LeavesFolder : DataFolderState → DataFolderState → Halt RestoreCommandFault → Type 0
LeavesFolder old new halt = leaves_folder halt ≡ true → new.nodes ≡ old.nodes
