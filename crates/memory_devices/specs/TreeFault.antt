-- Why no tree was made of some nodes.
use Rattle.std.specs.Prelude.{string_bytes}
use Rattle.base_devices.specs.DataFolder.{Nodes}
use Rattle.memory_devices.specs.declared.tree.TreeFault.{TreeFault}
use Rattle.memory_devices.specs.declared.tree.TreeFault.TheVariants.{NoFolder, NoMemory}
use Rattle.memory_devices.specs.Nodes.{IsLost}

-- the fault names a path whose folder isn't there, or memory
abbrev pub Names : Nodes → TreeFault → Type 0
Names nodes (NoFolder path) = IsLost nodes (string_bytes path)
Names nodes NoMemory = Unit {0}
