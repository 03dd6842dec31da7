-- The segments of a part of the log, as they are stored in the archive (pgBackRest user guide, "Backup").
use Rattle.std.specs.Prelude.{◌≡◌, ◌<◌, ℕ, Bool, true, false, List, Option, IfSome, IfNone, IsSome, IsSomeAnd}
use Rattle.base_devices.specs.Content.{Content}
use Rattle.base_devices.specs.Moments.{View}
use Rattle.base_devices.specs.Crash.{Leaves}
use Rattle.base_devices.specs.States.{DiskState}
use Rattle.base_model.specs.declared.wal.ArchiveId.{ArchiveId}
use Rattle.base_model.specs.declared.wal.ArchiveName.TheVariants.{Segment as Whole}
use Rattle.base_model.specs.declared.wal.Segment.{Segment}
use Rattle.base_model.specs.declared.wal.WalPart.{WalPart}
use Rattle.base_model.specs.Log.{Done, KeepsRepository}
use Rattle.base_model.specs.ManifestText.{position}
use Rattle.base_model.specs.Repository.{Archived, Repository, Stanza, IsWithinSpan}
use Rattle.base_model.specs.Represents.{HasStanza}
use Rattle.base_model.specs.Text.{Text, In}
use Rattle.base_model.specs.Walks.{IsSynced}
use Rattle.archive_lookup.specs.Stored.{StoresNone, StoresOnly}
use Rattle.archive_lookup.specs.Turns.{ProcessesState}

-- f stores the segment under the id with one sum alone, and a stanza that f represents has it archived
pub record HoldsSegment (stanza : Text) (id : ArchiveId) (f : Content) (segment : Segment) : Type 0 where
  pub sum : Text
  pub stored : StoresOnly stanza id (Whole segment) f sum
  pub archived : (s : Stanza) → HasStanza stanza f s →
      (a : Archived) × In a s.archived × (a.id ≡ id) × (a.name ≡ Whole segment)

-- it holds those of the part that come before a position
abbrev pub HoldsBefore : Text → ArchiveId → WalPart → ℕ → Content → Type 0
HoldsBefore stanza id w place f = (segment : Segment) → IsWithinSpan w.size.0 w.span segment →
    position w.size.0 segment < place → HoldsSegment stanza id f segment

-- it holds all of them
abbrev pub HoldsPart : Text → ArchiveId → WalPart → Content → Type 0
HoldsPart stanza id w f = (segment : Segment) → IsWithinSpan w.size.0 w.span segment → HoldsSegment stanza id f segment

-- the segment is of the part, and f stores it with no sum, but all that come before it
pub record IsFirstMissing (stanza : Text) (id : ArchiveId) (w : WalPart) (segment : Segment) (f : Content)
    : Type 0 where
  pub missing : StoresNone stanza id (Whole segment) f
  pub before : HoldsBefore stanza id w (position w.size.0 segment) f

-- The disk has P, and so has all that a crash then leaves, where no name that is looked at was unsynced.
pub record Lasts (stanza : Text) (P : Content → Type 0) (old new : View) : Type 0 where
  pub now : IfSome new.now P
  pub left : IsSynced stanza old → IsSome old.now → (f : Content) → Leaves new new.moment f → P f

-- ---- what a look finds

-- a segment that was found lasts
abbrev pub LastsIfFound : Text → ArchiveId → Segment → DiskState → DiskState → Bool → Type 0
LastsIfFound stanza id segment old new found =
    found ≡ true → Lasts stanza (λ f. HoldsSegment stanza id f segment) old.view new.view

-- one that wasn't found isn't stored
abbrev pub LacksUnlessFound : Text → ArchiveId → Segment → DiskState → Bool → Type 0
LacksUnlessFound stanza id segment repo found =
    found ≡ false → IfSome repo.view.now (StoresNone stanza id (Whole segment))

-- where no segment is missing the part lasts
abbrev pub LastsIfWhole : Text → ArchiveId → WalPart → DiskState → DiskState → Option Segment → Type 0
LastsIfWhole stanza id w old new missing = IfNone missing (Lasts stanza (HoldsPart stanza id w) old.view new.view)

-- the one that is missing is the first of the part that is
abbrev pub MissesFirst : Text → ArchiveId → WalPart → DiskState → Option Segment → Type 0
MissesFirst stanza id w repo missing = IfSome missing
    (λ s. IsWithinSpan w.size.0 w.span s × IfSome repo.view.now (IsFirstMissing stanza id w s))

-- ---- what a wait leaves

-- Where the steps of others are known and are of this stanza, and the repository kept a log, all that a crash leaves
-- has the part.
abbrev pub Endures : {A D : Type 0} → (A → ProcessesState) → (D → DiskState) → Text → ArchiveId → WalPart → A → D → D
    → Type 0
Endures others disk stanza id w new_others old new = IfSome (others new_others).account (λ a. a.stanza ≡ stanza
    → (q : Repository) (log : List Done) → IsSome (disk old).view.now
    → KeepsRepository stanza q log (disk old).view
    → (f : Content) → Leaves (disk new).view (disk new).view.moment f → HoldsPart stanza id w f)

-- where the repository has the part no step of others is taken
abbrev pub Idles : {A S : Type 0} → Text → ArchiveId → WalPart → DiskState → A → A → S → S → Type 0
Idles stanza id w repo others new_others spool new_spool =
    IsSomeAnd repo.view.now (HoldsPart stanza id w) → (new_others ≡ others) × (new_spool ≡ spool)
