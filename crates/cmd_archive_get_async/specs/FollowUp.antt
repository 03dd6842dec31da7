-- archive-get:async: what it leaves in the spool, and why it is refused.
use Rattle.std.specs.Prelude.{Bool, true, ◌≡◌, ◌⊎◌, ℕ, [], Option, string_bytes}
use Rattle.base_devices.specs.Content.{Content}
use Rattle.base_model.specs.declared.wal.ArchiveName.TheVariants.{Segment as Whole}
use Rattle.base_model.specs.declared.wal.Segment.{Segment}
use Rattle.base_model.specs.InfoFiles.{IsSegment}
use Rattle.base_model.specs.Names.{segment_text}
use Rattle.base_model.specs.Text.{Text}
use Rattle.repo_stanza.specs.declared.control.Control.{Control}
use Rattle.archive_lookup.specs.declared.stored.files.Stored.{Stored}
use Rattle.cmd_types.specs.declared.stages.outcome.Outcome.{Outcome}
use Rattle.cmd_types.specs.declared.stages.outcome.Outcome.TheVariants.{Finished, Absent, FindingsFound}
use Rattle.cmd_archive_get.specs.declared.fault.GetFault.{GetFault}
use Rattle.cmd_archive_get.specs.declared.fault.GetFault.TheVariants.{SegmentName}
use Rattle.cmd_archive_get.specs.Getting.{IsAbsent, FetchCause}
use Rattle.cmd_archive_get.specs.Looking.{IsKeptAs}
use Rattle.cmd_archive_get_async.specs.Fetching.{IsFetched, AheadCause, most_ahead}
use Rattle.cmd_archive_get_async.specs.Following.{HasSize}

-- the argument is the name of a whole segment
pub record IsSegmentName (word : Text) (segment : Segment) : Type 0 where
  pub fits : IsSegment segment
  pub is : word ≡ segment_text segment

-- The segments after a stored one were fetched, by its length; or that is no segment's, and nothing was done.
abbrev pub FetchesAfter : Text → Segment → Stored → ℕ → Option Content → Option Content → Option Content → Type 0
FetchesAfter stanza segment file queue repo spool new_spool =
    (HasSize segment file.size × ((n : ℕ)
    × IsFetched stanza file.id segment file.size (most_ahead file.size queue) repo spool new_spool n))
    ⊎ (¬ HasSize segment file.size × (new_spool ≡ spool))

-- how it succeeded: the segment is stored, and those after it were fetched; or it isn't
abbrev pub FetchedBy : Text → Control → Text → Segment → ℕ → Option Content → Option Content → Option Content → Outcome
    → Type 0
FetchedBy stanza known word segment queue repo spool new_spool (Finished lines) =
    (string_bytes lines ≡ []) × ((file : Stored) × IsKeptAs stanza known (Whole segment) file repo
    × FetchesAfter stanza segment file queue repo spool new_spool)
FetchedBy stanza known word segment queue repo spool new_spool (Absent name) =
    (string_bytes name ≡ word) × IsAbsent stanza known (Whole segment) repo × (new_spool ≡ spool)
FetchedBy stanza known word segment queue repo spool new_spool (FindingsFound lines count) = ⊥

-- why the argument is refused
abbrev pub WordCause : Text → GetFault → Type 0
WordCause word (SegmentName known) = (string_bytes known ≡ word) × ((segment : Segment) → ¬ IsSegmentName word segment)
WordCause word other = ⊥

-- Why it is refused: the segment can't be found, or one after it isn't available.
abbrev pub FollowUpCause : Text → Control → Segment → ℕ → Option Content → GetFault → Type 0
FollowUpCause stanza known segment queue repo fault = FetchCause stanza known (Whole segment) repo fault
    ⊎ ((file : Stored) × IsKeptAs stanza known (Whole segment) file repo
    × AheadCause stanza file.id segment file.size (most_ahead file.size queue) repo fault)

-- it has no step in the log
abbrev pub after_early : GetFault → Bool
after_early fault = true
