-- What archive-get means that serves through the spool.
use Rattle.std.specs.Prelude.{ℕ, true, Some, IsSome}
use Rattle.base_devices.specs.Content.{Content}
use Rattle.base_devices.specs.Crash.{Leaves}
use Rattle.base_model.specs.declared.wal.ArchiveName.{ArchiveName}
use Rattle.base_model.specs.Now.{NowRepresents}
use Rattle.base_model.specs.Repository.{Stanza}
use Rattle.base_model.specs.Text.{Text}
use Rattle.repo_stanza.specs.declared.control.Control.{Control}
use Rattle.cmd_types.specs.declared.stages.outcome.Outcome.{Outcome}
use Rattle.cmd_archive_get.specs.declared.fault.GetFault.{GetFault}
use Rattle.cmd_archive_get.specs.Getting.{AreArguments, ArgumentsCause, ChangesPath, GivenBy, IsWanted, get_early, served_path}
use Rattle.cmd_archive_get.specs.Texts.{get_status, get_message}
use Rattle.cmd_archive_get_async.specs.Following.{QuietOthers}
use Rattle.cmd_archive_get_async.specs.Getting.{FollowsUp, GetAheadCause, GotAhead, IsServedBySum, NoTwins}
use Rattle.cmd_trait.specs.KnownWorld.{KnownWorld}
use Rattle.cmd_trait.specs.Meaning.{Place, Meaning, nothing, usual_meaning}
use Rattle.run_archive_get.specs.Getting.{get_plan}
use Rattle.run_archive_get.specs.Started.{fetch_argument_list}

-- The file was served, or nothing was found.
pub record GetsThrough (p : Place) (name path spool : Text) (queue : ℕ) (old new : KnownWorld) (outcome : Outcome) :
    Type 0 where
  -- by the sum that the repository's name states
  pub got : GotAhead p.stanza p.data_folder name path old.repo old.nodes new.nodes outcome
  -- what is served is archived, where no two contents share a SHA-1
  pub given : (s : Stanza) → IsSome old.repo → IsSome old.spool → NowRepresents p.stanza (Some s) old.repo
      → NoTwins old.repo old.spool → GivenBy s p.data_folder name path old.nodes new.nodes outcome
  -- and what follows it is fetched ahead
  pub file : ArchiveName
  pub known : Control
  pub wanted : IsWanted p.data_folder name path old.nodes file known
  pub follows : FollowsUp p.stanza known file old.repo (fetch_argument_list p name spool queue) new.spool old.others
      new.others outcome

-- The arguments name a file, and neither the spool nor the repository gives it.
abbrev pub ThroughCause : Place → Text → Text → KnownWorld → GetFault → Type 0
ThroughCause p name path old fault = (file : ArchiveName) × (known : Control)
    × IsWanted p.data_folder name path old.nodes file known
    × GetAheadCause p.stanza p.data_folder name path known file old.repo old.nodes old.spool fault

-- As archive-get; but it opens the spool, changes that, and starts another process at most, with these arguments. That
-- takes no step meanwhile.
abbrev pub through_meaning : Text → Text → Text → ℕ → Meaning GetFault
through_meaning name path spool queue = record (usual_meaning get_status get_message) {
  plan = get_plan;
  spool = Some spool;
  uses = record nothing { spool = true };
  promise = λ p old new outcome. GetsThrough p name path spool queue old new outcome;
  lasts = λ p nodes repo now_nodes outcome. (f : Content) → Leaves repo repo.moment f
      → GotAhead p.stanza p.data_folder name path (Some f) nodes now_nodes outcome;
  arguments = λ p. (file : ArchiveName) × AreArguments p.data_folder name path file;
  arguments_cause = λ p fault. ArgumentsCause p.data_folder name path fault;
  cause = λ p old new failed fault. ThroughCause p name path old fault;
  early = get_early;
  folder_effect = λ p old nodes. ChangesPath (served_path p.data_folder path)
      (IsServedBySum p.stanza p.data_folder name path old.repo old.nodes) old.nodes nodes;
  others_effect = λ p old new. QuietOthers (fetch_argument_list p name spool queue) old new;
}
