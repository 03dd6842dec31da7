-- The segments that a backup needs, up to a place in the log.
use Rattle.std.specs.Prelude.{◌≡◌, ◌⊎◌, ◌↔◌, ℕ, ◌<◌, ◌≤◌, List}
use Rattle.base_model.specs.declared.wal.Segment.{Segment}
use Rattle.base_model.specs.declared.wal.Span.{Span}
use Rattle.base_model.specs.declared.wal.WalPart.{WalPart}
use Rattle.base_model.specs.declared.wal.ArchiveId.{ArchiveId}
use Rattle.base_model.specs.declared.wal.ArchiveName.TheVariants.{Segment as Whole}
use Rattle.base_model.specs.Text.{Text, In}
use Rattle.base_model.specs.ManifestText.{position}
use Rattle.base_model.specs.Repository.{IsWithinSpan}
use Rattle.archive_lookup.specs.declared.stored.files.Stored.{Stored}
use Rattle.cmd_verify.specs.What.{What, Gap}

-- the timeline is the span's, and the log lies between those of its ends: the same for each segment within
abbrev pub IsNear : Span → Segment → Type 0
IsNear span s = (s.timeline ≡ span.start.timeline) × (span.start.log ≤ s.log) × (s.log ≤ span.stop.log)

-- the file is the whole segment under the id, and is near the span
abbrev pub IsWhole : ArchiveId → Span → Stored → Segment → Type 0
IsWhole id span file s = (file.id ≡ id) × (file.name ≡ Whole s) × IsNear span s

-- its segment was added, where it is
abbrev pub AddsWhole : ArchiveId → Span → Stored → List Segment → List Segment → Type 0
AddsWhole id span file old new = (s : Segment) → In s new ↔ (In s old ⊎ IsWhole id span file s)

-- one of the files is
abbrev pub HasWhole : ArchiveId → Span → List Stored → Segment → Type 0
HasWhole id span files s = (file : Stored) × In file files × IsWhole id span file s

-- the segment is reported at the name where it isn't among these
abbrev pub IsGap : Text → List Segment → Segment → Text → What → Type 0
IsGap at stored s name (Gap t) = (name ≡ at) × (t ≡ s) × ¬ In s stored
IsGap at stored s name what = ⊥

-- the segments of the span before a position that aren't among these are reported
abbrev pub GapsBelow : Text → List Segment → ℕ → Span → ℕ → Text → What → Type 0
GapsBelow at stored size span k name (Gap s) =
    (name ≡ at) × IsWithinSpan size span s × (position size s < k) × ¬ In s stored
GapsBelow at stored size span k name what = ⊥

-- all of the span
abbrev pub Gaps : Text → List Segment → ℕ → Span → Text → What → Type 0
Gaps at stored size span name (Gap s) = (name ≡ at) × IsWithinSpan size span s × ¬ In s stored
Gaps at stored size span name what = ⊥

-- of the log that a manifest states
abbrev pub GapsOf : Text → List Segment → WalPart → Text → What → Type 0
GapsOf at stored wal = Gaps at stored wal.size.0 wal.span
