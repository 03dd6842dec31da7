-- Which refusal of a rehearsal a refusal of its parts is.
use Rattle.std.specs.Prelude.{Bool, true, false}
use Rattle.cmd_stanza_create.specs.declared.fault.CreateFault.{CreateFault}
use Rattle.cmd_verify.specs.declared.command.fault.VerifyCommandFault.{VerifyCommandFault}
use Rattle.cmd_verify.specs.declared.command.fault.VerifyCommandFault.TheVariants as examines
use Rattle.cmd_restore.specs.declared.fault.RestoreCommandFault.{RestoreCommandFault}
use Rattle.expire_make.specs.declared.fault.ExpireFault.{ExpireFault}
use Rattle.expire_make.specs.declared.fault.ExpireFault.TheVariants as expiries
use Rattle.repo_pair.specs.declared.fault.InfoFault.{InfoFault}
use Rattle.repo_pair.specs.declared.fault.InfoFault.TheVariants as pairs
use Rattle.cmd_archive_push.specs.declared.fault.PushFault.{PushFault}
use Rattle.base_sample.specs.declared.folder.fault.FolderFault.{FolderFault}
use Rattle.base_sample.specs.declared.folder.fault.FolderFault.TheVariants as folders
use Rattle.archive_lookup.specs.declared.stored.fault.ArchiveFault.{ArchiveFault}
use Rattle.archive_lookup.specs.declared.stored.fault.ArchiveFault.TheVariants as archives
use Rattle.cmd_types.specs.declared.stages.halt.Halt.{Halt}
use Rattle.cmd_types.specs.declared.stages.halt.Halt.TheVariants.{Refused, Failed, NoMemory}
use Rattle.cmd_types.specs.declared.stages.object.Object.TheVariants.{Repo, TheDataFolder, Server}
use Rattle.cmd_backup_offline.specs.declared.fault.OfflineFault.{OfflineFault}
use Rattle.cmd_rehearse.specs.declared.fault.StepFault.{StepFault}
use Rattle.cmd_rehearse.specs.declared.fault.StepFault.TheVariants.{Create, Push, Take, Lost, HistoryDiffers, Recover, Examine}
use Rattle.cmd_rehearse.specs.declared.fault.RehearseFault.{RehearseFault}
use Rattle.cmd_rehearse.specs.declared.fault.RehearseFault.TheVariants.{NotEmpty, Step}

-- the first two come before the first step
abbrev pub rehearse_early : RehearseFault → Bool
rehearse_early (Step fault) = false
rehearse_early other = true

abbrev pub of_create : Halt CreateFault → Halt StepFault
of_create (Refused e) = Refused (Create e)
of_create (Failed Server) = NoMemory
of_create (Failed object) = Failed object
of_create NoMemory = NoMemory

abbrev pub of_push : Halt PushFault → Halt StepFault
of_push (Refused e) = Refused (Push e)
of_push (Failed object) = Failed object
of_push NoMemory = NoMemory

abbrev pub of_info : InfoFault → Halt StepFault
of_info pairs.Missing = Refused Lost
of_info (pairs.Damaged main copy) = Refused Lost
of_info pairs.Disk = Failed Repo
of_info pairs.NoMemory = NoMemory

abbrev pub of_folder : FolderFault → Halt RehearseFault
of_folder (folders.NotEmpty path) = Refused (NotEmpty path)
of_folder folders.DataFolder = Failed TheDataFolder
of_folder folders.NoMemory = NoMemory

abbrev pub of_offline : Halt OfflineFault → Halt StepFault
of_offline (Refused e) = Refused (Take e)
of_offline (Failed object) = Failed object
of_offline NoMemory = NoMemory

abbrev pub of_base : Halt OfflineFault → Halt StepFault
of_base (Refused e) = Refused Lost
of_base (Failed object) = Failed object
of_base NoMemory = NoMemory

abbrev pub of_expire : ExpireFault → Halt StepFault
of_expire (expiries.Info fault) = Refused Lost
of_expire (expiries.HistoryDiffers at) = Refused (HistoryDiffers at)
of_expire expiries.Disk = Failed Repo
of_expire expiries.NoMemory = NoMemory

abbrev pub of_restore : Halt RestoreCommandFault → Halt StepFault
of_restore (Refused e) = Refused (Recover e)
of_restore (Failed object) = Failed object
of_restore NoMemory = NoMemory

abbrev pub of_all : ArchiveFault → Halt StepFault
of_all (archives.TooMany limit) = Refused (Examine (examines.TooMany limit))
of_all archives.Disk = Failed Repo
of_all other = NoMemory

abbrev pub of_examine : Halt VerifyCommandFault → Halt StepFault
of_examine (Refused e) = Refused (Examine e)
of_examine (Failed object) = Failed object
of_examine NoMemory = NoMemory

abbrev pub of_step : Halt StepFault → Halt RehearseFault
of_step (Refused e) = Refused (Step e)
of_step (Failed object) = Failed object
of_step NoMemory = NoMemory
