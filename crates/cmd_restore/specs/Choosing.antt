-- The list of backups, and which refusals of a restore those of the choice are. Own.
use Rattle.base_devices.specs.Content.{Content}
use Rattle.base_model.specs.InfoFiles.{IsBackupText}
use Rattle.base_model.specs.Names.{backup_info}
use Rattle.base_model.specs.Pair.{PairIs}
use Rattle.base_model.specs.Text.{Text}
use Rattle.base_model.specs.Values.{BackupInfo}
use Rattle.cmd_types.specs.declared.stages.halt.Halt.{Halt}
use Rattle.cmd_types.specs.declared.stages.halt.Halt.TheVariants.{Refused, Failed, NoMemory}
use Rattle.restore_choice.specs.declared.fault.ChoiceFault.{ChoiceFault}
use Rattle.restore_choice.specs.declared.fault.DamagedManifest.{DamagedManifest}
use Rattle.cmd_restore.specs.declared.fault.RestoreCommandFault.{RestoreCommandFault}
use Rattle.cmd_restore.specs.declared.fault.RestoreCommandFault.TheVariants.{Unchosen, ManifestDamaged}

-- this holds of f's list of backups
abbrev pub OnList : Text → Content → (BackupInfo → Type 0) → Type 0
OnList stanza f P = (v : BackupInfo) × PairIs IsBackupText f (backup_info stanza) v × P v

-- no backup is chosen
abbrev pub of_choice : Halt ChoiceFault → Halt RestoreCommandFault
of_choice (Refused fault) = Refused (Unchosen fault)
of_choice (Failed object) = Failed object
of_choice NoMemory = NoMemory

-- the chosen backup's manifest isn't read
abbrev pub of_load : Halt DamagedManifest → Halt RestoreCommandFault
of_load (Refused fault) = Refused (ManifestDamaged fault)
of_load (Failed object) = Failed object
of_load NoMemory = NoMemory
