-- Which fault of a push each fault of the source of its bytes is.
use Rattle.base_devices.specs.declared.device_error.DeviceError.{DeviceError}
use Rattle.base_devices.specs.declared.device_error.DeviceError.TheVariants.{Failed, NoMemory as ErrorNoMemory}
use Rattle.archive_lookup.specs.declared.stored.fault.ArchiveFault.TheVariants.{NoMemory}
use Rattle.archive_store.specs.declared.fault.PushFault.{PushFault}
use Rattle.archive_store.specs.declared.fault.PushFault.TheVariants.{Archive, Source}

-- of a call on the source
abbrev pub fault_of_source : DeviceError → PushFault
fault_of_source Failed = Source
fault_of_source ErrorNoMemory = Archive NoMemory
