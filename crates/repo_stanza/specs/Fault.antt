-- The fault of a stanza that a fault below becomes.
use Rattle.base_devices.specs.declared.device_error.DeviceError.{DeviceError}
use Rattle.base_devices.specs.declared.device_error.DeviceError.TheVariants.{Failed, NoMemory as ErrorNoMemory}
use Rattle.repo_pair.specs.declared.fault.SaveFault.{SaveFault}
use Rattle.repo_pair.specs.declared.fault.SaveFault.TheVariants.{Disk as SaveDisk, NoMemory as SaveNoMemory}
use Rattle.repo_stanza.specs.declared.fault.StanzaFault.{StanzaFault}
use Rattle.repo_stanza.specs.declared.fault.StanzaFault.TheVariants.{Disk, NoMemory}

-- which fault of a stanza it is that a pair couldn't be saved
abbrev pub fault_of : SaveFault → StanzaFault
fault_of SaveDisk = Disk
fault_of SaveNoMemory = NoMemory

-- of a call on the disk
abbrev pub fault_of_error : DeviceError → StanzaFault
fault_of_error Failed = Disk
fault_of_error ErrorNoMemory = NoMemory
