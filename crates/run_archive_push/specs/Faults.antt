-- Why a file that is queued isn't acknowledged: which refusal it is, its status and its message.
use Rattle.std.specs.Prelude.{ℕ, Bool, Result, Ok, Err, String, string_bytes}
use Rattle.std.specs.declared.alloc.Global.{Global}
use Rattle.base_model.specs.Text.{Text}
use Rattle.cmd_archive_push.specs.declared.fault.PushFault.{PushFault}
use Rattle.cmd_archive_push.specs.Faults.{push_early}
use Rattle.cmd_archive_push.specs.Texts.{push_status, push_message}
use Rattle.cmd_archive_push_wait.specs.declared.fault.QueueFault.{QueueFault}
use Rattle.cmd_archive_push_wait.specs.Pushing.{queue_early}
use Rattle.cmd_archive_push_wait.specs.Texts.{queue_status, queue_message}
use Rattle.cmd_types.specs.declared.stages.halt.Halt.{Halt}
use Rattle.cmd_types.specs.declared.stages.halt.Halt.TheVariants.{Refused, Failed, NoMemory}
use Rattle.cmd_types.specs.declared.stages.outcome.Outcome.{Outcome}
use Rattle.run_archive_push.specs.declared.fault.QueuedPushFault.{QueuedPushFault}
use Rattle.run_archive_push.specs.declared.fault.QueuedPushFault.TheVariants.{Push, Queue}

-- the path was refused
abbrev pub halt_of_order : Halt PushFault → Halt QueuedPushFault
halt_of_order (Refused fault) = Refused (Push fault)
halt_of_order (Failed object) = Failed object
halt_of_order NoMemory = NoMemory

-- the file of this name wasn't acknowledged
abbrev pub halt_of_queue : String Global → Halt QueueFault → Halt QueuedPushFault
halt_of_queue name (Refused fault) = Refused (Queue name fault)
halt_of_queue name (Failed object) = Failed object
halt_of_queue name NoMemory = NoMemory

abbrev pub ended_of : String Global → Result Outcome (Halt QueueFault) → Result Outcome (Halt QueuedPushFault)
ended_of name (Ok outcome) = Ok outcome
ended_of name (Err halt) = Err (halt_of_queue name halt)

abbrev pub queued_push_status : QueuedPushFault → ℕ
queued_push_status (Push fault) = push_status fault
queued_push_status (Queue name fault) = queue_status fault

abbrev pub queued_push_message : QueuedPushFault → Text
queued_push_message (Push fault) = push_message fault
queued_push_message (Queue name fault) = queue_message (string_bytes name) fault

-- each comes after no step but those of other processes
abbrev pub queued_push_early : QueuedPushFault → Bool
queued_push_early (Push fault) = push_early fault
queued_push_early (Queue name fault) = queue_early fault
