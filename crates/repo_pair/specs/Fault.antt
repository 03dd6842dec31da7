-- The fault of an info file that a fault of the store becomes. The store reports TooLong of a read alone.
use Rattle.std.specs.Prelude.{string_bytes}
use Rattle.base_disk.specs.declared.fault.StoreFault.{StoreFault}
use Rattle.base_disk.specs.declared.fault.StoreFault.TheVariants.{Disk as StoreDisk, TooLong, NoMemory as StoreNoMemory}
use Rattle.base_model.specs.Text.{Text}
use Rattle.repo_pair.specs.declared.fault.SaveFault.{SaveFault}
use Rattle.repo_pair.specs.declared.fault.SaveFault.TheVariants.{Disk, NoMemory}
use Rattle.repo_pair.specs.declared.fault.InfoFault.{InfoFault}
use Rattle.repo_pair.specs.declared.fault.InfoFault.TheVariants.{Disk as InfoDisk, NoMemory as InfoNoMemory}

-- which fault of saving it is that a file couldn't be stored
abbrev pub fault_of : StoreFault → SaveFault
fault_of StoreDisk = Disk
fault_of (TooLong name limit) = NoMemory
fault_of StoreNoMemory = NoMemory

-- a fault of saving, at a pair
abbrev pub info_fault_of : SaveFault → InfoFault
info_fault_of Disk = InfoDisk
info_fault_of NoMemory = InfoNoMemory
