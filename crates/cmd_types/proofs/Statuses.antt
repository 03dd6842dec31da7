-- What the status of a refusal says about it.
use Rattle.std.proofs.Common.{◌≤◌, arith}
use Rattle.server_talk.specs.declared.session.fault.ServerFault.{ServerFault}
use Rattle.server_talk.specs.declared.session.fault.ServerFault.TheVariants as faults
use Rattle.cmd_types.specs.ServerTextsTexts.{server_status}

-- no refusal has the status of a command that succeeded
pub server_over : (fault : ServerFault) → 2 ≤ server_status fault
server_over (faults.SystemMismatch kept found) = omega arith
server_over (faults.ServerSaid code text) = omega arith
server_over (faults.AuthUnsupported code) = omega arith
server_over (faults.ServerForm at) = omega arith
server_over (faults.ServerEnded at) = omega arith
server_over (faults.TooLong length) = omega arith
server_over (faults.TooMany limit) = omega arith
server_over faults.ServerConnection = omega arith
server_over faults.NoMemory = omega arith
