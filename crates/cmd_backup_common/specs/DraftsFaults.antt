-- The fault that a failed call of an object becomes. Own.
use Rattle.base_devices.specs.declared.device_error.DeviceError.{DeviceError}
use Rattle.base_devices.specs.declared.device_error.DeviceError.TheVariants as stops
use Rattle.cmd_backup_common.specs.declared.drafts.fault.SecondFault.{SecondFault}
use Rattle.cmd_backup_common.specs.declared.drafts.fault.SecondFault.TheVariants.{Clock, Disk, NoMemory}

-- which fault it is that a call of the clock or of the repository failed
abbrev pub clock_fault : DeviceError → SecondFault
clock_fault stops.Failed = Clock
clock_fault stops.NoMemory = NoMemory

abbrev pub disk_fault : DeviceError → SecondFault
disk_fault stops.Failed = Disk
disk_fault stops.NoMemory = NoMemory
