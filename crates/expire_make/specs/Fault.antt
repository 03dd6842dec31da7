-- The fault of an expiry that a fault below becomes, and why an expiry is refused.
use Rattle.std.specs.Prelude.{◌⊎◌, Option, IfSome}
use Rattle.base_devices.specs.Content.{Content}
use Rattle.base_devices.specs.States.{DiskState, DiskFailed}
use Rattle.base_devices.specs.declared.device_error.DeviceError.{DeviceError}
use Rattle.base_devices.specs.declared.device_error.DeviceError.TheVariants.{Failed, NoMemory as ErrorNoMemory}
use Rattle.base_disk.specs.declared.fault.StoreFault.{StoreFault}
use Rattle.base_disk.specs.declared.fault.StoreFault.TheVariants.{Disk as StoreDisk, TooLong as StoreTooLong, NoMemory as StoreNoMemory}
use Rattle.repo_pair.specs.declared.fault.SaveFault.{SaveFault}
use Rattle.repo_pair.specs.declared.fault.SaveFault.TheVariants.{Disk as SaveDisk, NoMemory as SaveNoMemory}
use Rattle.repo_pair.specs.declared.fault.InfoFault.{InfoFault}
use Rattle.repo_pair.specs.declared.fault.InfoFault.TheVariants.{Disk as InfoDisk, NoMemory as InfoNoMemory}
use Rattle.expire_make.specs.declared.fault.ExpireFault.{ExpireFault}
use Rattle.base_model.specs.Text.{Text}
use Rattle.base_model.specs.Names.{archive_info, backup_info}
use Rattle.base_model.specs.InfoFiles.{IsArchiveText, IsBackupText, info_limit}
use Rattle.repo_info.specs.ArchiveForm.{IsArchiveForm}
use Rattle.repo_info.specs.BackupForm.{IsBackupForm}
use Rattle.repo_pair.specs.Causes.{PairCause}
use Rattle.repo_pair.specs.Causes as info_causes
use Rattle.repo_stanza.specs.declared.fault.StanzaFault.{StanzaFault}
use Rattle.repo_stanza.specs.declared.fault.StanzaFault.TheVariants as stanzas
use Rattle.repo_stanza.specs.Causes.{HistoriesDiffer}
use Rattle.expire_make.specs.declared.fault.ExpireFault.TheVariants.{Info, HistoryDiffers, Disk, NoMemory}

-- which fault of an expiry it is that a list couldn't be read
abbrev pub fault_of_info : InfoFault → ExpireFault
fault_of_info InfoDisk = Disk
fault_of_info InfoNoMemory = NoMemory
fault_of_info fault = Info fault

-- of two values that were read: their histories may differ
abbrev pub fault_of_stanza : StanzaFault → ExpireFault
fault_of_stanza (stanzas.HistoryDiffers at) = HistoryDiffers at
fault_of_stanza (stanzas.InfoDamaged name main copy) = NoMemory
fault_of_stanza (stanzas.StanzaMismatch kept found) = NoMemory
fault_of_stanza (stanzas.ArchiveLost label) = NoMemory
fault_of_stanza (stanzas.FilesFound name) = NoMemory
fault_of_stanza stanzas.Disk = NoMemory
fault_of_stanza stanzas.NoMemory = NoMemory

abbrev pub fault_of_save : SaveFault → ExpireFault
fault_of_save SaveDisk = Disk
fault_of_save SaveNoMemory = NoMemory

abbrev pub fault_of_store : StoreFault → ExpireFault
fault_of_store StoreDisk = Disk
fault_of_store (StoreTooLong name limit) = NoMemory
fault_of_store StoreNoMemory = NoMemory

abbrev pub fault_of_error : DeviceError → ExpireFault
fault_of_error Failed = Disk
fault_of_error ErrorNoMemory = NoMemory

-- the fault is of what was found: no failure of the disk, and not out of memory
abbrev pub IsFinding : InfoFault → Type 0
IsFinding InfoDisk = ⊥
IsFinding InfoNoMemory = ⊥
IsFinding fault = Unit {0}

-- Why an expiry isn't done, or not whole: one of the pairs has no value; their histories differ; or the count of faults
-- rose, or memory ran out.
abbrev pub ExpireCause : Text → Option Content → Type 0 → ExpireFault → Type 0
ExpireCause stanza old rose (Info fault) = IsFinding fault
    × (PairCause IsArchiveText IsArchiveForm info_limit (archive_info stanza) old rose fault
    ⊎ PairCause IsBackupText IsBackupForm info_limit (backup_info stanza) old rose fault)
ExpireCause stanza old rose (HistoryDiffers at) = IfSome old (λ f. HistoriesDiffer stanza f at)
ExpireCause stanza old rose Disk = rose
ExpireCause stanza old rose NoMemory = Unit {0}

-- why the calls on a disk ended with it
abbrev pub ExpiryFails : Text → DiskState → DiskState → ExpireFault → Type 0
ExpiryFails stanza old new fault = ExpireCause stanza old.view.now (DiskFailed old new) fault

-- what holds where it is refused
abbrev pub IfRefused : ExpireFault → Type 0 → Type 0
IfRefused (Info fault) P = info_causes.IfRefused fault P
IfRefused (HistoryDiffers at) P = P
IfRefused Disk P = Unit {0}
IfRefused NoMemory P = Unit {0}

-- the count of faults rose, or memory ran out
abbrev pub IsDeviceFault : Type 0 → ExpireFault → Type 0
IsDeviceFault rose (Info fault) = ⊥
IsDeviceFault rose (HistoryDiffers at) = ⊥
IsDeviceFault rose Disk = rose
IsDeviceFault rose NoMemory = Unit {0}
