-- What archive-get means that serves from the repository.
use Rattle.std.specs.Prelude.{◌≡◌, true, Option, Some, IsSome}
use Rattle.base_devices.specs.Content.{Content}
use Rattle.base_devices.specs.Crash.{Leaves}
use Rattle.base_model.specs.declared.wal.ArchiveName.{ArchiveName}
use Rattle.base_model.specs.Now.{NowRepresents}
use Rattle.base_model.specs.Repository.{Stanza}
use Rattle.base_model.specs.Text.{Text}
use Rattle.cmd_types.specs.declared.stages.plan.Plan.{Plan}
use Rattle.cmd_types.specs.declared.stages.plan.Pairs.TheVariants.{ReadArchive}
use Rattle.cmd_archive_get.specs.declared.fault.GetFault.{GetFault}
use Rattle.cmd_archive_get.specs.declared.order.GetOrder.{GetOrder}
use Rattle.cmd_archive_get.specs.Getting.{AreArguments, ArgumentsCause, ChangesPath, GetCause, GivenBy, GotBy, IsServed, get_early, served_path}
use Rattle.cmd_archive_get.specs.Texts.{get_status, get_message}
use Rattle.cmd_trait.specs.Meaning.{Place, Meaning, places_plan, usual_meaning}

-- no lock is taken, the folder of the archive pair is synced, and the control file and the archive pair are read
abbrev pub get_plan : Plan
get_plan = record places_plan { control = true; pairs = ReadArchive }

-- the order is what was asked for, with its arguments read
abbrev pub IsGetOrder : Place → Text → Text → GetOrder → Type 0
IsGetOrder p name path o = (o.folder.now ≡ p.data_folder) × (o.word.now ≡ name) × (o.path.now ≡ path)

-- this holds of the stanza that the repository represents
abbrev pub OnStanza : Text → Option Content → (Stanza → Type 0) → Type 0
OnStanza stanza repo P = (s : Stanza) → IsSome repo → NowRepresents stanza (Some s) repo → P s

-- It only reads the repository, and puts into the data folder what is served. What it answers holds of all that a crash
-- leaves of the repository.
abbrev pub get_meaning : Text → Text → Meaning GetFault
get_meaning name path = record (usual_meaning get_status get_message) {
  plan = get_plan;
  promise = λ p old new outcome. GotBy p.stanza p.data_folder name path old.repo old.nodes new.nodes outcome
      × OnStanza p.stanza old.repo (λ s. GivenBy s p.data_folder name path old.nodes new.nodes outcome);
  lasts = λ p nodes repo now_nodes outcome. (f : Content) → Leaves repo repo.moment f
      → GotBy p.stanza p.data_folder name path (Some f) nodes now_nodes outcome;
  arguments = λ p. (file : ArchiveName) × AreArguments p.data_folder name path file;
  arguments_cause = λ p fault. ArgumentsCause p.data_folder name path fault;
  cause = λ p old new failed fault. GetCause p.stanza p.data_folder name path old.repo old.nodes fault;
  early = get_early;
  folder_effect = λ p old nodes. ChangesPath (served_path p.data_folder path)
      (IsServed p.stanza p.data_folder name path old.repo old.nodes) old.nodes nodes;
}
