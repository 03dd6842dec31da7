-- Looks at a disk, one after the other.
use Rattle.std.proofs.Common.{refl, arith}
use Rattle.base_devices.specs.States.{DiskState, OnlyReads}
use Rattle.archive_store.specs.Still.{rests_none}

pub looks_still : (a : DiskState) → OnlyReads a a
looks_still a = record { now = refl; time = rests_none a.view; opened = refl; proper = refl; later = omega arith }
