-- Why a reply isn't taken to its end. Own.
use Rattle.base_devices.specs.declared.device_error.DeviceError.{DeviceError}
use Rattle.base_devices.specs.declared.device_error.DeviceError.TheVariants.{Failed, NoMemory}
use Rattle.worker_pool.specs.declared.replies.fault.ReplyFault.{ReplyFault}
use Rattle.worker_pool.specs.declared.replies.fault.ReplyFault.TheVariants as faults

-- why a keeper's call failed
abbrev pub fault_of : DeviceError → ReplyFault
fault_of Failed = faults.PartSink
fault_of NoMemory = faults.NoMemory
