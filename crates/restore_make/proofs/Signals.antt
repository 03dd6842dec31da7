-- The file that asks a server to recover lies in the root.
use Rattle.std.proofs.Common.{refl, Option}
use Rattle.std.specs.Prelude.{codes}
use Rattle.base_devices.specs.DataFolder.{Nodes, IsPlaced}
use Rattle.restore_steps.proofs.Placing.{in_root}
use Rattle.restore_make.specs.Recovered.{LogFetch, signal_path}
use Rattle.restore_make.proofs.Names.{by_signal}

pub signal_placed : (fetch : LogFetch) (o : Option Nodes) → IsPlaced o (signal_path fetch)
signal_placed fetch o = by_signal (IsPlaced o) fetch (in_root (codes "standby.signal") o refl) (in_root (codes "recovery.signal") o refl)
