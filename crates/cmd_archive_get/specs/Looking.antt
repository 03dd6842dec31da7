-- Where a file of the archive is stored, under the highest id that has it.
use Rattle.std.specs.Prelude.{List, Option, Some, None, IfSome}
use Rattle.base_devices.specs.Content.{Content}
use Rattle.base_model.specs.declared.clusters.ClusterId.{ClusterId}
use Rattle.base_model.specs.declared.wal.ArchiveName.{ArchiveName}
use Rattle.base_model.specs.Text.{Text, In}
use Rattle.repo_stanza.specs.declared.control.Control.{Control}
use Rattle.archive_lookup.specs.declared.stored.files.Stored.{Stored}
use Rattle.archive_lookup.specs.Stored.{Finds}
use Rattle.cmd_types.specs.Current.{id_kept}
use Rattle.cmd_types.specs.declared.stages.halt.Halt.{Halt}
use Rattle.cmd_types.specs.declared.stages.halt.Halt.TheVariants.{Refused}
use Rattle.cmd_archive_get.specs.declared.fault.GetFault.{GetFault}
use Rattle.cmd_archive_get.specs.declared.fault.GetFault.TheVariants.{SegmentDamaged}
use Rattle.cmd_archive_get.specs.Getting.{IsSame, NoneAbove, AbsentIn, OnHistory, IsAbsent}
use Rattle.cmd_archive_get.specs.Serving.{IsUnstoredUnder}

-- the highest id of a history that has the file stores it with one sum alone, as this states
pub record KeptIn (history : List ClusterId) (stanza : Text) (known : Control) (name : ArchiveName) (file : Stored)
    (f : Content) : Type 0 where
  pub cluster : ClusterId
  pub listed : In cluster history
  pub same : IsSame known cluster
  pub above : NoneAbove history stanza known name cluster f
  pub finds : Finds stanza (id_kept cluster) name f (Some file)

-- where the file is stored; or no id of the history has it
abbrev pub FindsIn : List ClusterId → Text → Control → ArchiveName → Option Stored → Content → Type 0
FindsIn history stanza known name (Some file) f = KeptIn history stanza known name file f
FindsIn history stanza known name None f = AbsentIn history stanza known name f

-- the archive pair's history has the file so
abbrev pub IsKeptAs : Text → Control → ArchiveName → Stored → Option Content → Type 0
IsKeptAs stanza known name file repo =
    IfSome repo (λ f. OnHistory stanza f (λ v. KeptIn v.history stanza known name file f))

-- where the file is stored; or the archive pair's history has clusters of the data folder, and none of them has it
abbrev pub IsLookedUp : Text → Control → ArchiveName → Option Stored → Option Content → Type 0
IsLookedUp stanza known name (Some file) repo = IsKeptAs stanza known name file repo
IsLookedUp stanza known name None repo = IsAbsent stanza known name repo

-- where it is stored under the id of a cluster, which is the data folder's
abbrev pub FindsUnder : ClusterId → Text → Control → ArchiveName → Option Stored → Option Content → Type 0
FindsUnder cluster stanza known name (Some file) repo = IsSame known cluster
    × IfSome repo (λ f. Finds stanza (id_kept cluster) name f (Some file))
FindsUnder cluster stanza known name None repo = IsUnstoredUnder cluster stanza known name repo

-- no stored bytes are read, so none are found damaged
abbrev pub IsUndamaged : Halt GetFault → Type 0
IsUndamaged (Refused (SegmentDamaged known found)) = ⊥
IsUndamaged other = Unit {0}
