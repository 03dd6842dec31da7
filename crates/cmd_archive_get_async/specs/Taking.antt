-- What is taken of the segments that were fetched ahead.
use Rattle.std.specs.Prelude.{◌≡◌, ◌≤◌, ◌^◌, Bool, true, false, Option, Some, Result, Ok, Err, IfSome, IsSome, length}
use Rattle.sha1.specs.Sha1.{sha1}
use Rattle.base_text.specs.Sum.{IsSum}
use Rattle.base_devices.specs.Cause.{Rises}
use Rattle.base_devices.specs.Content.{Content}
use Rattle.base_devices.specs.States.{DiskState, DataFolderState}
use Rattle.base_devices.specs.DataFolder.{Nodes}
use Rattle.base_model.specs.declared.wal.Segment.{Segment}
use Rattle.base_model.specs.Text.{Text}
use Rattle.cmd_types.specs.declared.stages.halt.Halt.{Halt}
use Rattle.cmd_types.specs.declared.stages.object.Object.{Object}
use Rattle.cmd_types.specs.Risen.{none, rose_in}
use Rattle.cmd_archive_get.specs.declared.fault.GetFault.{GetFault}
use Rattle.cmd_archive_get.specs.Getting.{IsPut}
use Rattle.cmd_archive_get.specs.Serving.{AreStoredAt}
use Rattle.cmd_archive_get_async.specs.Names.{ahead_name}

-- at the name lie no bytes with this sum that are as short as a segment
abbrev pub LacksSum : Option Content → Text → Text → Type 0
LacksSum spool name sum = IfSome spool
    (λ f. (bytes : Text) → f name ≡ Some bytes → length bytes ≤ 2 ^ 30 → ¬ (sha1 bytes ≡ sum))

-- The bytes at a name, which have the sum, were put at the path; or the name doesn't have such bytes, and the folder is
-- unchanged.
abbrev pub TakesAt : Result Bool (Halt GetFault) → Option Content → Text → Text → Text → Option Nodes → Option Nodes
    → Type 0
TakesAt (Ok true) spool name sum path old new = (bytes : Text) × AreStoredAt spool name sum bytes
    × IfSome new (IsPut path bytes)
TakesAt (Ok false) spool name sum path old new = LacksSum spool name sum × (new ≡ old)
TakesAt (Err halt) spool name sum path old new = Unit {0}

-- the spool or the data folder failed between these states
abbrev pub SpoolOrFolder : DiskState → DiskState → DataFolderState → DataFolderState → Object → Type 0
SpoolOrFolder spool new_spool tree new_tree =
    rose_in (record none { spool = Rises spool.faults new_spool.faults; tree = Rises tree.faults new_tree.faults })

-- the spool has the segment, whatever its bytes
abbrev pub IsAhead : Text → Segment → Content → Type 0
IsAhead stanza segment f = (sum : Text) × IsSum sum × IsSome (f (ahead_name stanza segment sum))
