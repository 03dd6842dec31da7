-- Why a restore is refused, from what was there before.
use Rattle.std.specs.Prelude.{IfSome}
use Rattle.base_model.specs.declared.labels.Label.{Label}
use Rattle.base_model.specs.Values.{Manifest}
use Rattle.cmd_restore.specs.declared.fault.RestoreCommandFault.{RestoreCommandFault}
use Rattle.cmd_restore.specs.declared.fault.RestoreCommandFault.TheVariants.{Unchosen, Running, NotEmpty, ManifestDamaged, WorkersLost, Unread, FileDamaged}
use Rattle.restore_choice.specs.declared.fault.ChoiceFault.{ChoiceFault}
use Rattle.restore_choice.specs.declared.fault.DamagedManifest.{DamagedManifest}
use Rattle.restore_choice.specs.Choosing.{ChooseCause}
use Rattle.restore_choice.specs.Loading.{HasManifest, LoadCause}
use Rattle.cmd_restore.specs.Choosing.{OnList}
use Rattle.cmd_restore.specs.Filling.{FillCause}
use Rattle.cmd_restore.specs.Looking.{IsOpen, FolderCause}
use Rattle.cmd_restore.specs.Restoring.{Before, Chooses}

-- no backup of the repository's list is chosen
abbrev pub ListCause : Before → ChoiceFault → Type 0
ListCause b fault = IfSome b.repo (λ f. OnList b.stanza f (λ v. ChooseCause b.stanza b.choice f v fault))

-- a label is chosen, and the folder may be restored into, but the label's manifest can't be read
abbrev pub ManifestCause : Before → DamagedManifest → Type 0
ManifestCause b fault =
    (label : Label) × Chooses b label × IfSome b.nodes (IsOpen b.options.delta) × LoadCause b.stanza label b.repo fault

-- the manifest of a chosen label is read, and the folder may be restored into, but not all files can be put there
abbrev pub FilesCause : Before → RestoreCommandFault → Type 0
FilesCause b fault =
    (label : Label) × (m : Manifest) × Chooses b label × IfSome b.nodes (IsOpen b.options.delta)
    × IfSome b.repo (HasManifest b.stanza label m) × FillCause b.stanza m b.used fault

-- why a restore is refused
abbrev pub RestoreCommandCause : Before → RestoreCommandFault → Type 0
RestoreCommandCause b (Unchosen fault) = ListCause b fault
RestoreCommandCause b Running = FolderCause b.options.delta b.nodes Running
RestoreCommandCause b (NotEmpty path) = FolderCause b.options.delta b.nodes (NotEmpty path)
RestoreCommandCause b (ManifestDamaged fault) = ManifestCause b fault
RestoreCommandCause b (WorkersLost lost) = FilesCause b (WorkersLost lost)
RestoreCommandCause b (Unread path) = FilesCause b (Unread path)
RestoreCommandCause b (FileDamaged path known found) = FilesCause b (FileDamaged path known found)
RestoreCommandCause b other = ⊥
