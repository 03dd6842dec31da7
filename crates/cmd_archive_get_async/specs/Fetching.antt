-- What fetching ahead leaves in the spool, and why it ends.
use Rattle.std.specs.Prelude.{◌≡◌, ◌⊎◌, ◌<◌, ◌≤◌, ◌^◌, ◌/◌, ℕ, List, [], ◌∷◌, Option, Some, None, IfSome, IsSomeAnd, length, max, option_map}
use Rattle.std.specs.List.{AllByRecursion}
use Rattle.sha1.specs.Sha1.{sha1}
use Rattle.base_devices.specs.Content.{Content, put}
use Rattle.base_disk.specs.Dropped.{without}
use Rattle.base_disk.specs.declared.fault.StoreFault.{StoreFault}
use Rattle.base_disk.specs.declared.fault.StoreFault.TheVariants as marks
use Rattle.base_model.specs.declared.wal.ArchiveId.{ArchiveId}
use Rattle.base_model.specs.declared.wal.ArchiveName.TheVariants.{Segment as Whole}
use Rattle.base_model.specs.declared.wal.Segment.{Segment}
use Rattle.base_model.specs.Text.{Text}
use Rattle.repo_names.specs.Next.{IsNext, IsLast}
use Rattle.archive_lookup.specs.Causes.{StoresBytes}
use Rattle.archive_lookup.specs.Stored.{StoresNone}
use Rattle.cmd_types.specs.declared.stages.halt.Halt.{Halt}
use Rattle.cmd_types.specs.declared.stages.halt.Halt.TheVariants.{Failed, NoMemory}
use Rattle.cmd_types.specs.declared.stages.object.Object.TheVariants.{Spool}
use Rattle.cmd_archive_get.specs.declared.fault.GetFault.{GetFault}
use Rattle.cmd_archive_get.specs.Serving.{FileCause}
use Rattle.cmd_archive_get_async.specs.declared.ahead.spool_copy.Copied.{Copied}
use Rattle.cmd_archive_get_async.specs.declared.ahead.spool_copy.Copied.TheVariants as copies
use Rattle.cmd_archive_get_async.specs.Names.{ahead_folder, ahead_name}

-- ---- segments that follow one another

-- a segment with its bytes
pub record Fetch : Type 0 where
  pub segment : Segment
  pub bytes : Text

-- the newest of these, which comes first; or the one before them all
abbrev pub newest : Segment → List Fetch → Segment
newest after [] = after
newest after (x ∷ xs) = x.segment

-- each follows the one after it in the list, and the first of all follows this one
abbrev pub Follow : ℕ → Segment → List Fetch → Type 0
Follow size after [] = Unit {0}
Follow size after (x ∷ xs) = IsNext size (newest after xs) x.segment × Follow size after xs

-- the repository stores the segment with these bytes
abbrev pub IsKept : Text → ArchiveId → Content → Fetch → Type 0
IsKept stanza id f x = StoresBytes stanza id (Whole x.segment) f (sha1 x.bytes) x.bytes

-- they follow the segment, and the repository has them
pub record AreFollowing (stanza : Text) (id : ArchiveId) (after : Segment) (size : ℕ) (repo : Option Content)
    (fetched : List Fetch) : Type 0 where
  pub follow : Follow size after fetched
  pub kept : IfSome repo (λ f. AllByRecursion (IsKept stanza id f) fetched)

-- ---- what lies in the spool

-- the content with each of these segments at its name
abbrev pub with_fetched : Text → List Fetch → Content → Content
with_fetched stanza [] f = f
with_fetched stanza (x ∷ xs) f = put (ahead_name stanza x.segment (sha1 x.bytes)) (Some x.bytes)
    (with_fetched stanza xs f)

-- in the folder of fetched segments lie these and nothing else; the rest is unchanged
abbrev pub HoldsFetched : Text → List Fetch → Option Content → Option Content → Type 0
HoldsFetched stanza fetched old new =
    new ≡ option_map (λ f. with_fetched stanza fetched (without (ahead_folder stanza) f)) old

-- at most this many bytes of segments, and one at least (command reference, "archive-get-queue-max")
abbrev pub most_ahead : ℕ → ℕ → ℕ
most_ahead size queue = max (queue / size) 1

-- none follows the segment, or the repository doesn't have the one that does
abbrev pub HasNoNext : Text → ArchiveId → ℕ → Option Content → Segment → Type 0
HasNoNext stanza id size repo last = IsLast size last
    ⊎ ((s : Segment) × IsNext size last s × IfSome repo (StoresNone stanza id (Whole s)))

-- This many segments after this one were fetched: as many as the queue holds, or all up to the first that the
-- repository doesn't have.
pub record IsFetched (stanza : Text) (id : ArchiveId) (after : Segment) (size most : ℕ)
    (repo spool new_spool : Option Content) (n : ℕ) : Type 0 where
  pub fetched : List Fetch
  pub following : AreFollowing stanza id after size repo fetched
  pub count : length fetched ≡ n
  pub few : n ≤ most
  pub ends : (n ≡ most) ⊎ HasNoNext stanza id size repo (newest after fetched)
  pub holds : HoldsFetched stanza fetched spool new_spool

-- ---- why it ends

-- of the spool: no name is read there, so none is too long
abbrev pub halt_of_spool : StoreFault → Halt GetFault
halt_of_spool marks.Disk = Failed Spool
halt_of_spool (marks.TooLong name limit) = NoMemory
halt_of_spool marks.NoMemory = NoMemory

-- the segment that follows these isn't available
pub record AheadCause (stanza : Text) (id : ArchiveId) (after : Segment) (size most : ℕ) (repo : Option Content)
    (fault : GetFault) : Type 0 where
  pub fetched : List Fetch
  pub following : AreFollowing stanza id after size repo fetched
  pub few : length fetched < most
  pub next : Segment
  pub follows : IsNext size (newest after fetched) next
  pub cause : FileCause stanza id (Whole next) repo fault

-- ---- one copy

-- what was copied to a name of the spool
abbrev pub CopiedTo : Copied → Option Content → Text → Text → Option Content → Option Content → Type 0
CopiedTo (copies.Whole sum) repo from name old new = (bytes : Text) × IfSome repo (λ f. f from ≡ Some bytes)
    × (sum.0 ≡ sha1 bytes) × (new ≡ option_map (put name (Some bytes)) old)
CopiedTo copies.Long repo from name old new = IfSome repo (λ f. IsSomeAnd (f from) (λ all. 2 ^ 30 < length all))
CopiedTo copies.Vanished repo from name old new = IfSome repo (λ f. f from ≡ None)

-- a stored file was put at a name of the spool
abbrev pub PutsAhead : Option Content → Text → Text → Text → Option Content → Option Content → Type 0
PutsAhead repo from sum name old new = (bytes : Text) × IfSome repo (λ f. f from ≡ Some bytes) × (sha1 bytes ≡ sum)
    × (new ≡ option_map (put name (Some bytes)) old)

-- the repository stores the segment, and its bytes were put at its name
pub record FetchesOne (stanza : Text) (id : ArchiveId) (segment : Segment) (repo old new : Option Content) : Type
    0 where
  pub bytes : Text
  pub kept : IfSome repo (λ f. StoresBytes stanza id (Whole segment) f (sha1 bytes) bytes)
  pub put_there : new ≡ option_map (put (ahead_name stanza segment (sha1 bytes)) (Some bytes)) old

-- the segment that follows this one was fetched, or there is none
abbrev pub FetchesNext : Text → ArchiveId → Segment → ℕ → Option Content → Option Content → Option Content
    → Option Segment → Type 0
FetchesNext stanza id last size repo old new (Some s) = IsNext size last s × FetchesOne stanza id s repo old new
FetchesNext stanza id last size repo old new None = HasNoNext stanza id size repo last × (new ≡ old)

-- why it isn't
abbrev pub NextCause : Text → ArchiveId → Segment → ℕ → Option Content → GetFault → Type 0
NextCause stanza id last size repo fault = (s : Segment) × IsNext size last s × FileCause stanza id (Whole s) repo fault
