-- What a restore does (pgBackRest command reference, "Restore Command").
use Rattle.std.specs.Prelude.{◌≡◌, List, Option, IfSome}
use Rattle.base_devices.specs.Content.{Content}
use Rattle.base_devices.specs.Links.{LinkState}
use Rattle.base_devices.specs.DataFolder.{Nodes}
use Rattle.base_model.specs.declared.labels.Label.{Label}
use Rattle.base_model.specs.Repository.{Backup, Stanza}
use Rattle.restore_make.specs.Recovered.{IsRestored}
use Rattle.base_model.specs.Text.{Text}
use Rattle.base_model.specs.Values.{Manifest}
use Rattle.worker_pool.specs.Payloads.{AllRead}
use Rattle.restore_make.specs.Options.{Options}
use Rattle.restore_make.specs.Finished.{IsFinished, AreKnown}
use Rattle.restore_choice.specs.declared.choice.Choice.{Choice}
use Rattle.restore_choice.specs.Choosing.{IsChosen, IsChosenOf}
use Rattle.restore_choice.specs.Loading.{HasManifest}
use Rattle.cmd_restore.specs.Choosing.{OnList}
use Rattle.cmd_restore.specs.Looking.{IsOpen}
use Rattle.cmd_restore.specs.Texts.{restored_line}

-- what comes before: the repository and the data folder, which backup is chosen, the links that are used, and how
-- the backup is to be restored
pub record Before : Type 0 where
  pub stanza : Text
  pub choice : Choice
  pub repo : Option Content
  pub nodes : Option Nodes
  pub used : List LinkState
  pub options : Options

-- the label is chosen from the repository's list
abbrev pub Chooses : Before → Label → Type 0
Chooses b label = IfSome b.repo (λ f. OnList b.stanza f (λ v. IsChosen b.stanza b.choice f v label))

-- The folder could be restored into, and has now all that a manifest of the chosen label states, as the used links read
-- it or as delta kept it, with the settings of the recovery, and nothing else. The one line states the label.
pub record Recovers (b : Before) (now_nodes : Option Nodes) (lines : Text) : Type 0 where
  pub label : Label
  pub line : lines ≡ restored_line label
  pub chosen : Chooses b label
  pub open_before : IfSome b.nodes (IsOpen b.options.delta)
  pub manifest : Manifest
  pub has : IfSome b.repo (HasManifest b.stanza label manifest)
  pub finished : IfSome now_nodes (IsFinished b.stanza b.used b.options manifest b.nodes)

-- The folder has now the restored tree of the chosen one of the stanza's backups, where all used links read the
-- repository f, and with delta the folder's files too. The one line states its label.
pub record GivesBackup (s : Stanza) (b : Before) (f : Content) (now_nodes : Option Nodes) (lines : Text) : Type 0 where
  pub backup : Backup
  pub is : IsChosenOf b.choice s backup
  pub line : lines ≡ restored_line backup.entry.label
  pub restored : (tree : Content) → AllRead tree f b.used → AreKnown b.options backup b.nodes tree
      → IfSome now_nodes (IsRestored backup b.options.recovery)
