-- What archive-get serves with archive-async: a segment of the spool where its bytes have the sum that the repository's
-- name states.
use Rattle.std.specs.Prelude.{◌≡◌, List, [], Option, Some, None, Result, Ok, Err, IfSome, string_bytes}
use Rattle.sha1.specs.Sha1.{sha1}
use Rattle.base_devices.specs.Content.{Content}
use Rattle.base_devices.specs.DataFolder.{Nodes}
use Rattle.base_model.specs.declared.clusters.ClusterId.{ClusterId}
use Rattle.base_model.specs.declared.wal.ArchiveName.{ArchiveName}
use Rattle.base_model.specs.declared.wal.ArchiveName.TheVariants.{Segment as Whole}
use Rattle.base_model.specs.Repository.{Stanza}
use Rattle.base_model.specs.Text.{Text, In}
use Rattle.repo_stanza.specs.declared.control.Control.{Control}
use Rattle.archive_lookup.specs.declared.stored.files.Stored.{Stored}
use Rattle.archive_lookup.specs.Stored.{StoresOnly}
use Rattle.cmd_types.specs.Current.{id_kept}
use Rattle.cmd_types.specs.declared.stages.outcome.Outcome.{Outcome}
use Rattle.cmd_types.specs.declared.stages.outcome.Outcome.TheVariants.{Finished, Absent, FindingsFound}
use Rattle.cmd_types.specs.declared.stages.halt.Halt.{Halt}
use Rattle.cmd_types.specs.declared.stages.halt.Halt.TheVariants.{Refused, Failed, NoMemory}
use Rattle.archive_lookup.specs.Turns.{ProcessesState}
use Rattle.cmd_archive_get.specs.declared.fault.GetFault.{GetFault}
use Rattle.cmd_archive_get.specs.declared.fault.GetFault.TheVariants.{SegmentDamaged}
use Rattle.cmd_archive_get.specs.Getting.{IsSame, NoneAbove, OnHistory, IsWanted, IsPut, IsMissing, GetCause, served_path, ServesArchived, LacksArchived}
use Rattle.cmd_archive_get.specs.Looking.{IsKeptAs}
use Rattle.cmd_archive_get_async.specs.Names.{ahead_name}
use Rattle.cmd_archive_get_async.specs.Taking.{LacksSum}
use Rattle.cmd_archive_get_async.specs.Following.{Follows}

-- ---- what is served

-- the highest id of a history that has the file has it with this sum, and with no other
pub record HasSumIn (history : List ClusterId) (stanza : Text) (known : Control) (name : ArchiveName) (sum : Text)
    (f : Content) : Type 0 where
  pub cluster : ClusterId
  pub listed : In cluster history
  pub same : IsSame known cluster
  pub above : NoneAbove history stanza known name cluster f
  pub only : StoresOnly stanza (id_kept cluster) name f sum

-- the archive pair's history has the file with the sum of these bytes, under the highest id that has it
abbrev pub IsFoundBySum : Text → Control → ArchiveName → Option Content → Text → Type 0
IsFoundBySum stanza known name repo bytes =
    IfSome repo (λ f. OnHistory stanza f (λ v. HasSumIn v.history stanza known name (sha1 bytes) f))

-- the repository has the file that the arguments name with the sum of these bytes
pub record IsServedBySum (stanza folder word path : Text) (repo : Option Content) (nodes : Option Nodes)
    (bytes : Text) : Type 0 where
  pub name : ArchiveName
  pub known : Control
  pub wanted : IsWanted folder word path nodes name known
  pub found : IsFoundBySum stanza known name repo bytes

-- and the data folder has the bytes now at the path
abbrev pub ServesBySum : Text → Text → Text → Text → Option Content → Option Nodes → Option Nodes → Type 0
ServesBySum stanza folder word path repo nodes now_nodes =
    (bytes : Text) × IsServedBySum stanza folder word path repo nodes bytes
    × IfSome now_nodes (IsPut (served_path folder path) bytes)

-- no two contents that the repository and the spool have share a SHA-1
abbrev pub NoTwins : Option Content → Option Content → Type 0
NoTwins repo spool = IfSome repo (λ f. IfSome spool (λ g. (p q kept bytes : Text) → f p ≡ Some kept → g q ≡ Some bytes
    → sha1 bytes ≡ sha1 kept → bytes ≡ kept))

-- ---- how it succeeded

-- the file was served, or nothing was found
abbrev pub GotAhead : Text → Text → Text → Text → Option Content → Option Nodes → Option Nodes → Outcome → Type 0
GotAhead stanza folder word path repo nodes now_nodes (Finished lines) =
    ServesBySum stanza folder word path repo nodes now_nodes
GotAhead stanza folder word path repo nodes now_nodes (Absent name) =
    (string_bytes name ≡ word) × IsMissing stanza folder word path repo nodes
GotAhead stanza folder word path repo nodes now_nodes (FindingsFound lines count) = ⊥

-- the same for where the file is stored
abbrev pub ServedAs : Text → Text → Text → Text → Option Content → Option Nodes → Option Nodes → Option Stored → Type 0
ServedAs stanza folder word path repo nodes now_nodes (Some file) =
    ServesBySum stanza folder word path repo nodes now_nodes
ServedAs stanza folder word path repo nodes now_nodes None = IsMissing stanza folder word path repo nodes

-- the same, of the stanza that the repository represents
abbrev pub GivenAs : Stanza → Text → Text → Text → Option Nodes → Option Nodes → Option Stored → Type 0
GivenAs s folder word path nodes now_nodes (Some file) = ServesArchived s folder word path nodes now_nodes
GivenAs s folder word path nodes now_nodes None = LacksArchived s folder word path nodes

-- where nothing is served for what was found, the data folder is unchanged
abbrev pub StillFolder : Result (Option Stored) (Halt GetFault) → Option Nodes → Option Nodes → Type 0
StillFolder (Ok (Some file)) old new = Unit {0}
StillFolder (Ok None) old new = new ≡ old
StillFolder (Err (Refused fault)) old new = new ≡ old
StillFolder (Err (Failed object)) old new = Unit {0}
StillFolder (Err NoMemory) old new = Unit {0}

-- What follows a served segment is fetched ahead, by the length of the stored one; of no other file, and where nothing
-- is served.
abbrev pub FollowsUp : Text → Control → ArchiveName → Option Content → List Text → Option Content → ProcessesState
    → ProcessesState → Outcome → Type 0
FollowsUp stanza known (Whole segment) repo arguments spool old new (Finished lines) =
    (file : Stored) × IsKeptAs stanza known (Whole segment) file repo
    × Follows stanza segment file.size arguments spool old new (string_bytes lines)
FollowsUp stanza known name repo arguments spool old new (Finished lines) = (new.started ≡ old.started)
    × (string_bytes lines ≡ [])
FollowsUp stanza known name repo arguments spool old new other = new.started ≡ old.started

-- ---- why it isn't served

-- the spool has no fetched segment with the sum that the repository's name states
abbrev pub LacksFetched : Text → Control → ArchiveName → Option Content → Option Content → Type 0
LacksFetched stanza known (Whole segment) repo spool =
    (file : Stored) × IsKeptAs stanza known (Whole segment) file repo
    × IfSome file.sum (λ sum. LacksSum spool (ahead_name stanza segment sum.0) sum.0)
LacksFetched stanza known other repo spool = Unit {0}

-- Why it isn't: as without the spool; and a damaged segment isn't in the spool either.
abbrev pub GetAheadCause : Text → Text → Text → Text → Control → ArchiveName → Option Content → Option Nodes
    → Option Content → GetFault → Type 0
GetAheadCause stanza folder word path known name repo nodes spool (SegmentDamaged sum found) =
    GetCause stanza folder word path repo nodes (SegmentDamaged sum found) × LacksFetched stanza known name repo spool
GetAheadCause stanza folder word path known name repo nodes spool other =
    GetCause stanza folder word path repo nodes other
