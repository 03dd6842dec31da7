-- What the faults of steps of others and of marks are.
use Rattle.base_disk.specs.declared.fault.StoreFault.{StoreFault}
use Rattle.base_disk.specs.declared.fault.StoreFault.TheVariants as marks
use Rattle.cmd_types.specs.declared.stages.object.Object.TheVariants.{Repo, Spool}
use Rattle.cmd_types.specs.declared.stages.halt.Halt.{Halt}
use Rattle.cmd_types.specs.declared.stages.halt.Halt.TheVariants.{Refused, Failed, NoMemory}
use Rattle.archive_lookup.specs.declared.pushes.processes.TurnError.{TurnError}
use Rattle.archive_lookup.specs.declared.pushes.processes.TurnError.TheVariants as stops
use Rattle.cmd_archive_push_wait.specs.declared.fault.QueueFault.{QueueFault}
use Rattle.cmd_archive_push.specs.declared.fault.PushFault.{PushFault}
use Rattle.cmd_archive_push.specs.declared.fault.PushFault.TheVariants.{SegmentMissing as FileMissing, TooLong as FileLong}
use Rattle.cmd_archive_push_wait.specs.declared.fault.QueueFault.TheVariants.{SegmentMissing, TooLong}

-- the fault that a failed step of others becomes
abbrev pub halt_of_turn : TurnError → Halt QueueFault
halt_of_turn stops.Repo = Failed Repo
halt_of_turn stops.Spool = Failed Spool
halt_of_turn stops.NoMemory = NoMemory

-- what a fault of a mark is
abbrev pub halt_of_mark : StoreFault → Halt QueueFault
halt_of_mark marks.Disk = Failed Spool
halt_of_mark (marks.TooLong name limit) = Refused (TooLong name limit)
halt_of_mark marks.NoMemory = NoMemory

-- what the halt of a file is that is opened
abbrev pub halt_of_file : Halt PushFault → Halt QueueFault
halt_of_file (Refused (FileMissing path)) = Refused (SegmentMissing path)
halt_of_file (Refused (FileLong name limit)) = Refused (TooLong name limit)
halt_of_file (Refused other) = NoMemory
halt_of_file (Failed object) = Failed object
halt_of_file NoMemory = NoMemory
