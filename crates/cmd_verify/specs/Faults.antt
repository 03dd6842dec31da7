-- What the faults of the layers below become, and why a repository isn't looked at to its end.
use Rattle.std.specs.Prelude.{Option}
use Rattle.base_devices.specs.Content.{Content}
use Rattle.base_devices.specs.States.{DiskState, DiskFailed}
use Rattle.base_devices.specs.declared.device_error.DeviceError.{DeviceError}
use Rattle.base_devices.specs.declared.device_error.DeviceError.TheVariants.{Failed, NoMemory as ErrorNoMemory}
use Rattle.base_model.specs.Text.{Text}
use Rattle.archive_lookup.specs.Causes.{AllCause}
use Rattle.archive_lookup.specs.declared.stored.fault.ArchiveFault.{ArchiveFault}
use Rattle.archive_lookup.specs.declared.stored.fault.ArchiveFault.TheVariants.{TooMany as ManyFiles, Disk as ArchiveDisk}
use Rattle.cmd_verify.specs.declared.findings.finding.LookFault.{LookFault}
use Rattle.cmd_verify.specs.declared.findings.finding.LookFault.TheVariants as looks
use Rattle.cmd_verify.specs.declared.findings.finding.VerifyFault.{VerifyFault}
use Rattle.cmd_verify.specs.declared.findings.finding.VerifyFault.TheVariants.{TooMany, Disk, NoMemory}

-- which fault of looking it is that a call failed
abbrev pub fault_of_error : DeviceError → LookFault
fault_of_error Failed = looks.Disk
fault_of_error ErrorNoMemory = looks.NoMemory

abbrev pub fault_of_look : LookFault → VerifyFault
fault_of_look looks.Disk = Disk
fault_of_look looks.NoMemory = NoMemory

-- listing the archive has no other fault than these two and out of memory
abbrev pub fault_of_archive : ArchiveFault → VerifyFault
fault_of_archive (ManyFiles limit) = TooMany limit
fault_of_archive ArchiveDisk = Disk
fault_of_archive fault = NoMemory

-- more files are archived than can be listed, or the disk failed
abbrev pub VerifyCause : Text → Option Content → Type 0 → VerifyFault → Type 0
VerifyCause stanza now rose (TooMany limit) = AllCause stanza now rose (ManyFiles limit)
VerifyCause stanza now rose Disk = rose
VerifyCause stanza now rose NoMemory = Unit {0}

-- why the calls on a disk ended with it
abbrev pub VerifyFails : Text → DiskState → DiskState → VerifyFault → Type 0
VerifyFails stanza old new fault = VerifyCause stanza old.view.now (DiskFailed old new) fault
