use Rattle.std.proofs.Common.{◌≡◌, take}
use Rattle.memory_devices.specs.Image.{named}
use Rattle.memory_workers.proofs.meet.copy_files.Given as goal

abbrev pub invariant-loop-name : goal.invariant-loop-name
invariant-loop-name l = named l.copy.items ≡ named (take l.name-index l.files)
