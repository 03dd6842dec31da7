-- What archive-get serves, and why it doesn't (pgBackRest command reference, "Archive Get Command").
use Rattle.std.specs.Prelude.{Bool, true, ◌≡◌, ◌≢◌, ◌⊎◌, ◌<◌, ◌+◌, ◌++◌, List, [], Option, Some, None, IfSome, IsSome, drop, length, codes, if◌then◌else◌, string_bytes}
use Rattle.sha1.specs.Sha1.{sha1}
use Rattle.base_devices.specs.Content.{Content, Name, at, is_below}
use Rattle.base_devices.specs.DataFolder.{Nodes, file_bytes}
use Rattle.base_model.specs.declared.clusters.ClusterId.{ClusterId}
use Rattle.base_model.specs.declared.clusters.Cluster.{Cluster}
use Rattle.base_model.specs.declared.wal.ArchiveName.{ArchiveName}
use Rattle.base_model.specs.Text.{Text, In}
use Rattle.base_model.specs.Fields.{at_number}
use Rattle.base_model.specs.Names.{archive_info, wal_text}
use Rattle.base_model.specs.Pair.{PairIs}
use Rattle.base_model.specs.Paths.{IsPath}
use Rattle.base_model.specs.Values.{ArchiveInfo}
use Rattle.base_model.specs.InfoFiles.{IsArchiveText}
use Rattle.base_model.specs.Repository.{Stanza, identity_of, id_of}
use Rattle.base_model.specs.Represents.{IsWalName}
use Rattle.repo_stanza.specs.declared.control.Control.{Control}
use Rattle.archive_lookup.specs.declared.stored.fault.ArchiveFault.{ArchiveFault}
use Rattle.archive_lookup.specs.declared.stored.fault.ArchiveFault.TheVariants.{Ambiguous as AmbiguousOf, SegmentDamaged as DamagedOf, TooLong as LongOf}
use Rattle.archive_lookup.specs.Causes.{StoresBytes, GetCause as ArchiveCause, IsUnarchived}
use Rattle.archive_lookup.specs.Stored.{archived_file, StoresNone}
use Rattle.cmd_types.specs.Cluster.{FolderShows}
use Rattle.cmd_types.specs.Current.{id_kept}
use Rattle.cmd_types.specs.declared.stages.outcome.Outcome.{Outcome}
use Rattle.cmd_types.specs.declared.stages.outcome.Outcome.TheVariants.{Finished, Absent, FindingsFound}
use Rattle.cmd_archive_get.specs.declared.fault.GetFault.{GetFault}
use Rattle.cmd_archive_get.specs.declared.fault.GetFault.TheVariants.{SegmentName, PathOutside, StanzaMismatch, Ambiguous, SegmentDamaged, TooLong}
use Rattle.repo_stanza.specs.Pairs.{identity_kept, identity_known}

-- ---- what is reported

-- the argument is the name of a file of the archive
pub record IsFileName (word : Text) (name : ArchiveName) : Type 0 where
  pub fits : IsWalName name
  pub is : word ≡ wal_text name

-- the path below the data folder: an argument that doesn't begin with the folder is taken from there
abbrev pub served_path : Text → Text → Text
served_path folder word = if is_below folder word then drop (length folder + 1) word else word

-- the name under which a file is written before it is put in its place
abbrev pub temporary_path : Text → Text
temporary_path path = path ++ codes ".pgbackrest.tmp"

-- ---- where it is looked for

-- the cluster of the archive is the data folder's
abbrev pub IsSame : Control → ClusterId → Type 0
IsSame known c = identity_kept c ≡ identity_known known

-- a history has one of these
abbrev pub HasSame : List ClusterId → Control → Type 0
HasSame history known = (c : ClusterId) × In c history × IsSame known c

-- no such cluster with a higher number has the file
abbrev pub NoneAbove : List ClusterId → Text → Control → ArchiveName → ClusterId → Content → Type 0
NoneAbove history stanza known name c f =
    (d : ClusterId) → In d history → IsSame known d → c.id < d.id → StoresNone stanza (id_kept d) name f

-- the highest of them that has the file has these bytes
pub record FoundIn (history : List ClusterId) (stanza : Text) (known : Control) (name : ArchiveName) (bytes : Text)
    (f : Content) : Type 0 where
  pub cluster : ClusterId
  pub listed : In cluster history
  pub same : IsSame known cluster
  pub above : NoneAbove history stanza known name cluster f
  pub has : StoresBytes stanza (id_kept cluster) name f (sha1 bytes) bytes

-- none of them has it
pub record AbsentIn (history : List ClusterId) (stanza : Text) (known : Control) (name : ArchiveName)
    (f : Content) : Type 0 where
  pub none : (c : ClusterId) → In c history → IsSame known c → StoresNone stanza (id_kept c) name f

-- the highest of them that has it is refused
pub record RefusedIn (history : List ClusterId) (stanza : Text) (known : Control) (name : ArchiveName)
    (repo : Option Content) (fault : ArchiveFault) : Type 0 where
  pub cluster : ClusterId
  pub listed : In cluster history
  pub same : IsSame known cluster
  pub above : IfSome repo (NoneAbove history stanza known name cluster)
  pub cause : ArchiveCause stanza (id_kept cluster) name repo ⊥ fault

-- this holds of the archive pair's value
abbrev pub OnHistory : Text → Content → (ArchiveInfo → Type 0) → Type 0
OnHistory stanza f P = (v : ArchiveInfo) × PairIs IsArchiveText f (archive_info stanza) v × P v

-- ---- what is served

-- the arguments name a file of the archive and a path in the data folder, which states this cluster
pub record IsWanted (folder word path : Text) (nodes : Option Nodes) (name : ArchiveName) (known : Control) : Type
    0 where
  pub named : IsFileName word name
  pub inside : IsPath (served_path folder path)
  pub shows : IfSome nodes (λ f. FolderShows f known)

-- the archive pair's history has the file with these bytes, under the highest id that has it
abbrev pub IsFound : Text → Control → ArchiveName → Option Content → Text → Type 0
IsFound stanza known name repo bytes =
    IfSome repo (λ f. OnHistory stanza f (λ v. FoundIn v.history stanza known name bytes f))

-- it has clusters of the data folder, and none of them has the file
abbrev pub IsAbsent : Text → Control → ArchiveName → Option Content → Type 0
IsAbsent stanza known name repo =
    IfSome repo (λ f. OnHistory stanza f (λ v. HasSame v.history known × AbsentIn v.history stanza known name f))

-- the repository has the file with these bytes
pub record IsServed (stanza folder word path : Text) (repo : Option Content) (nodes : Option Nodes)
    (bytes : Text) : Type 0 where
  pub name : ArchiveName
  pub known : Control
  pub wanted : IsWanted folder word path nodes name known
  pub found : IsFound stanza known name repo bytes

-- a file of these bytes is at the path
abbrev pub HasFile : Text → Text → Nodes → Type 0
HasFile path bytes f = file_bytes (f path) ≡ Some bytes

-- and nothing under its temporary name
pub record IsPut (path bytes : Text) (f : Nodes) : Type 0 where
  pub whole : HasFile path bytes f
  pub alone : f (temporary_path path) ≡ None

-- and the data folder has them now at the path
abbrev pub Serves : Text → Text → Text → Text → Option Content → Option Nodes → Option Nodes → Type 0
Serves stanza folder word path repo nodes now_nodes =
    (bytes : Text) × IsServed stanza folder word path repo nodes bytes
    × IfSome now_nodes (IsPut (served_path folder path) bytes)

-- no id has the file of this name
pub record IsMissing (stanza folder word path : Text) (repo : Option Content) (nodes : Option Nodes) : Type 0 where
  pub name : ArchiveName
  pub known : Control
  pub wanted : IsWanted folder word path nodes name known
  pub absent : IsAbsent stanza known name repo

-- of the stanza's clusters that are the data folder's, the one of the highest number under whose id the file is
-- archived has it with these bytes
pub record IsArchivedFirst (s : Stanza) (known : Control) (name : ArchiveName) (bytes : Text) : Type 0 where
  pub cluster : Cluster
  pub listed : In cluster s.history
  pub same : IsSame known (identity_of cluster)
  pub archived : In (archived_file (id_of cluster) name bytes) s.archived
  pub above : (d : Cluster) → In d s.history → IsSame known (identity_of d) → cluster.id < d.id
      → IsUnarchived (id_of d) name s.archived

-- the data folder has at the path what the repository has archived
pub record ServesArchived (s : Stanza) (folder word path : Text) (nodes now_nodes : Option Nodes) : Type 0 where
  pub name : ArchiveName
  pub known : Control
  pub bytes : Text
  pub wanted : IsWanted folder word path nodes name known
  pub first : IsArchivedFirst s known name bytes
  pub at_path : IfSome now_nodes (IsPut (served_path folder path) bytes)

-- the repository doesn't have the file archived under any id of the data folder's cluster
pub record LacksArchived (s : Stanza) (folder word path : Text) (nodes : Option Nodes) : Type 0 where
  pub name : ArchiveName
  pub known : Control
  pub wanted : IsWanted folder word path nodes name known
  pub none : (d : Cluster) → In d s.history → IsSame known (identity_of d) → IsUnarchived (id_of d) name s.archived

-- The data folder is unchanged except for one path and its temporary name; at the path is what was there, or a whole
-- file with bytes of which this holds.
pub record ChangesPath (path : Text) (IsOf : Text → Type 0) (old new : Option Nodes) : Type 0 where
  pub known : IsSome old → IsSome new
  pub others : (q : Name) → q ≢ path → q ≢ temporary_path path → at q new ≡ at q old
  pub whole : (at path new ≡ at path old) ⊎ ((bytes : Text) × IsOf bytes × IfSome new (HasFile path bytes))

-- ---- why it isn't

-- of the archive pair's history, the highest id that has the file has it twice, damaged, or too long
abbrev pub RefusedOf : Text → Control → ArchiveName → Option Content → ArchiveFault → Type 0
RefusedOf stanza known name repo fault =
    (v : ArchiveInfo) × IfSome repo (λ f. PairIs IsArchiveText f (archive_info stanza) v)
    × RefusedIn v.history stanza known name repo fault

-- this is the archive pair's current cluster, and none of its history is the data folder's
abbrev pub IsForeign : Text → Control → ClusterId → Content → Type 0
IsForeign stanza known c f = OnHistory stanza f
    (λ v. (at_number v.current v.history ≡ Some c) × ¬ HasSame v.history known)

-- why a file isn't found in the repository, for a data folder that states this
abbrev pub FetchCause : Text → Control → ArchiveName → Option Content → GetFault → Type 0
FetchCause stanza known name repo (StanzaMismatch kept found) = (found ≡ identity_known known)
    × ((c : ClusterId) × (kept ≡ identity_kept c) × IfSome repo (IsForeign stanza known c))
FetchCause stanza known name repo (Ambiguous first second) = RefusedOf stanza known name repo (AmbiguousOf first second)
FetchCause stanza known name repo (SegmentDamaged sum found) = RefusedOf stanza known name repo (DamagedOf sum found)
FetchCause stanza known name repo (TooLong path limit) = RefusedOf stanza known name repo (LongOf path limit)
FetchCause stanza known name repo other = ⊥

-- the arguments are valid
abbrev pub AreArguments : Text → Text → Text → ArchiveName → Type 0
AreArguments folder word path name = IsFileName word name × IsPath (served_path folder path)

-- the cause is that of what the arguments ask for
abbrev pub WantedCause : Text → Text → Text → Text → Option Content → Option Nodes → GetFault → Type 0
WantedCause stanza folder word path repo nodes fault =
    (name : ArchiveName) × (known : Control) × IsWanted folder word path nodes name known
    × FetchCause stanza known name repo fault

-- why the arguments are refused
abbrev pub ArgumentsCause : Text → Text → Text → GetFault → Type 0
ArgumentsCause folder word path (SegmentName known) =
    (string_bytes known ≡ word) × ((name : ArchiveName) → ¬ IsFileName word name)
ArgumentsCause folder word path (PathOutside known) =
    (string_bytes known ≡ path) × ((name : ArchiveName) × IsFileName word name) × ¬ IsPath (served_path folder path)
ArgumentsCause folder word path other = ⊥

-- Why archive-get is refused: the arguments come first.
abbrev pub GetCause : Text → Text → Text → Text → Option Content → Option Nodes → GetFault → Type 0
GetCause stanza folder word path repo nodes (SegmentName known) = ArgumentsCause folder word path (SegmentName known)
GetCause stanza folder word path repo nodes (PathOutside known) = ArgumentsCause folder word path (PathOutside known)
GetCause stanza folder word path repo nodes fault = WantedCause stanza folder word path repo nodes fault

-- each refusal comes before anything is put into the data folder
abbrev pub get_early : GetFault → Bool
get_early fault = true

-- ---- how it succeeded

-- the file was served, or nothing was found
abbrev pub GotBy : Text → Text → Text → Text → Option Content → Option Nodes → Option Nodes → Outcome → Type 0
GotBy stanza folder word path repo nodes now_nodes (Finished lines) =
    (string_bytes lines ≡ []) × Serves stanza folder word path repo nodes now_nodes
GotBy stanza folder word path repo nodes now_nodes (Absent name) =
    (string_bytes name ≡ word) × IsMissing stanza folder word path repo nodes
GotBy stanza folder word path repo nodes now_nodes (FindingsFound lines count) = ⊥

-- the same, of the stanza that the repository represents
abbrev pub GivenBy : Stanza → Text → Text → Text → Option Nodes → Option Nodes → Outcome → Type 0
GivenBy s folder word path nodes now_nodes (Finished lines) = ServesArchived s folder word path nodes now_nodes
GivenBy s folder word path nodes now_nodes (Absent name) = LacksArchived s folder word path nodes
GivenBy s folder word path nodes now_nodes (FindingsFound lines count) = ⊥
