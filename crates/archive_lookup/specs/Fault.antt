-- The fault of the archive that a fault below becomes.
use Rattle.base_devices.specs.declared.device_error.DeviceError.{DeviceError}
use Rattle.base_devices.specs.declared.device_error.DeviceError.TheVariants.{Failed, NoMemory as ErrorNoMemory}
use Rattle.base_disk.specs.declared.fault.StoreFault.{StoreFault}
use Rattle.base_disk.specs.declared.fault.StoreFault.TheVariants.{Disk as StoreDisk, TooLong as StoreTooLong, NoMemory as StoreNoMemory}
use Rattle.repo_names.specs.declared.wal.header.HeaderFault.{HeaderFault}
use Rattle.repo_names.specs.declared.wal.header.HeaderFault.TheVariants.{Form, Size, System}
use Rattle.archive_lookup.specs.declared.stored.fault.ArchiveFault.{ArchiveFault}
use Rattle.archive_lookup.specs.declared.stored.fault.ArchiveFault.TheVariants.{HeaderForm, SegmentSize, HeaderMismatch, TooLong, Disk, NoMemory}

-- of a segment's header
abbrev pub fault_of_header : HeaderFault → ArchiveFault
fault_of_header (Form found info) = HeaderForm info
fault_of_header (Size known found) = SegmentSize known found
fault_of_header (System kept found) = HeaderMismatch kept found

-- of the store
abbrev pub fault_of_store : StoreFault → ArchiveFault
fault_of_store StoreDisk = Disk
fault_of_store (StoreTooLong name limit) = TooLong name limit
fault_of_store StoreNoMemory = NoMemory

-- of a call on the disk
abbrev pub fault_of_error : DeviceError → ArchiveFault
fault_of_error Failed = Disk
fault_of_error ErrorNoMemory = NoMemory
