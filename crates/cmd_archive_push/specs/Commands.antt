-- Which command of the repository's log a push is.
use Rattle.std.specs.Prelude.{◌≡◌, ◌⊎◌}
use Rattle.base_devices.specs.DataFolder.{Nodes}
use Rattle.base_model.specs.Text.{Text}
use Rattle.base_model.specs.Steps.{Command, ArchivePush, Reading, Named}
use Rattle.cmd_archive_push.specs.WalPath.{HasWal}

-- a push of the file that the path names, where the data folder has it; else a command without steps
abbrev pub IsPushOf : Nodes → Text → Text → Command → Type 0
IsPushOf f folder path command = ((n : Named) × HasWal f folder path n.name n.bytes × (command ≡ ArchivePush n))
    ⊎ (((n : Named) → ¬ HasWal f folder path n.name n.bytes) × (command ≡ Reading))
