-- The fault that a failed call of the data folder becomes.
use Rattle.base_devices.specs.declared.device_error.DeviceError.{DeviceError}
use Rattle.base_devices.specs.declared.device_error.DeviceError.TheVariants.{Failed, NoMemory as WithoutMemory}
use Rattle.base_sample.specs.declared.folder.fault.FolderFault.{FolderFault}
use Rattle.base_sample.specs.declared.folder.fault.FolderFault.TheVariants.{DataFolder, NoMemory}

-- what a stopped call of the data folder is
abbrev pub fault_of : DeviceError → FolderFault
fault_of Failed = DataFolder
fault_of WithoutMemory = NoMemory
