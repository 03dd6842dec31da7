-- What a backup does with the workers that it uses. Own.
use Rattle.std.specs.Prelude.{List, [], take, Result, String, string_bytes}
use Rattle.std.specs.declared.alloc.Global.{Global}
use Rattle.base_devices.specs.Links.{LinkState}
use Rattle.base_devices.specs.States.{ClockState, DiskState}
use Rattle.worker_pool.specs.declared.pool.Pool.{Pool}
use Rattle.worker_pool.specs.Pools.{links_in}
use Rattle.worker_pool.specs.Run.{Left}
use Rattle.backup_make.specs.declared.draft.Draft.{Draft}
use Rattle.cmd_types.specs.declared.stages.halt.Halt.{Halt}
use Rattle.cmd_types.specs.declared.stages.outcome.Outcome.{Outcome}
use Rattle.cmd_backup_common.specs.declared.parts.fault.BackupFault.{BackupFault}
use Rattle.cmd_backup_common.specs.declared.parts.order.TakeOrder.{TakeOrder}
use Rattle.cmd_backup_common.specs.Making.{Finishes}

-- the links that an order uses: the first ones, as many as it has workers
abbrev pub used_in : {L S : Type 0} → TakeOrder → (L → LinkState) → Pool L S → List LinkState
used_in order of pool = take order.workers (links_in of pool)

-- of these some are left and ready, and each of the others has its entry, which are all that there are
abbrev pub LeavesUsed : {L S : Type 0} → TakeOrder → (L → LinkState) → Pool L S → Pool L S → Type 0
LeavesUsed order of old new = Left [] (used_in order of old) [] new.lost.items (links_in of new)

-- the draft's backup was made of what the pool's links read, and the command ended so; or it wasn't
abbrev pub FinishesBy : {L S D C : Type 0} → Draft → String Global → (L → LinkState) → Pool L S → (D → DiskState)
    → D → D → (C → ClockState) → C → C → Result Outcome (Halt BackupFault) → Type 0
FinishesBy d line of pool state before after clock first last result =
    Finishes d (string_bytes line) (links_in of pool) (state before).view (state after).view (clock first) (clock last)
    result
