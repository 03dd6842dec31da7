-- What archive-get:async means.
use Rattle.std.specs.Prelude.{◌≡◌, ℕ, true, Option, Some, IfSome}
use Rattle.base_devices.specs.DataFolder.{Nodes}
use Rattle.base_model.specs.declared.wal.Segment.{Segment}
use Rattle.base_model.specs.InfoFiles.{IsSegment}
use Rattle.base_model.specs.Text.{Text}
use Rattle.repo_stanza.specs.declared.control.Control.{Control}
use Rattle.cmd_types.specs.declared.stages.outcome.Outcome.{Outcome}
use Rattle.cmd_types.specs.declared.stages.plan.Pairs.TheVariants.{ReadArchive}
use Rattle.cmd_types.specs.Cluster.{FolderShows}
use Rattle.cmd_archive_get.specs.declared.fault.GetFault.{GetFault}
use Rattle.cmd_archive_get.specs.Getting.{get_early}
use Rattle.cmd_archive_get.specs.Texts.{get_status, get_message}
use Rattle.cmd_archive_get_async.specs.declared.command.async_fetch.FetchOrder.{FetchOrder}
use Rattle.cmd_archive_get_async.specs.FollowUp.{IsSegmentName, FetchedBy, FollowUpCause, WordCause as NameCause}
use Rattle.cmd_trait.specs.KnownWorld.{KnownWorld}
use Rattle.cmd_trait.specs.Meaning.{Place, Meaning, nothing, places_plan, usual_meaning}

-- the order is what was asked for, with its argument read
abbrev pub IsFetchOrder : Text → FetchOrder → Type 0
IsFetchOrder name o = (o.word.now ≡ name) × IsSegment o.segment

-- the data folder reports this cluster, and this holds of it
abbrev pub OnCluster : Option Nodes → (Control → Type 0) → Type 0
OnCluster nodes P = (known : Control) × IfSome nodes (λ f. FolderShows f known) × P known

-- Ok: what follows the segment that the argument names was fetched, or it isn't stored
abbrev pub FetchesAhead : Place → Text → ℕ → KnownWorld → KnownWorld → Outcome → Type 0
FetchesAhead p name queue old new outcome = (segment : Segment) × IsSegmentName name segment
    × OnCluster old.nodes (λ known. FetchedBy p.stanza known name segment queue old.repo old.spool new.spool outcome)

-- The argument names a segment, and that can't be found, or one after it isn't available.
abbrev pub FetchingCause : Place → Text → ℕ → KnownWorld → GetFault → Type 0
FetchingCause p name queue old fault = (segment : Segment) × IsSegmentName name segment
    × OnCluster old.nodes (λ known. FollowUpCause p.stanza known segment queue old.repo fault)

-- It only reads the repository and the data folder, and changes the spool that it opens.
abbrev pub fetch_meaning : Text → Text → ℕ → Meaning GetFault
fetch_meaning name spool queue = record (usual_meaning get_status get_message) {
  -- no lock is taken, the folder of the archive pair is synced, and the control file and the archive pair are read
  plan = record places_plan { control = true; pairs = ReadArchive };
  spool = Some spool;
  uses = record nothing { spool = true };
  promise = λ p old new outcome. FetchesAhead p name queue old new outcome;
  arguments = λ p. (segment : Segment) × IsSegmentName name segment;
  arguments_cause = λ p fault. NameCause name fault;
  cause = λ p old new failed fault. FetchingCause p name queue old fault;
  early = get_early;
}
