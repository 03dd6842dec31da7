-- A whole restore (pgBackRest command reference, "Restore Command").
use Rattle.std.specs.Prelude.{Bool, true, false, ◌≡◌, ◌≢◌, ◌<◌, ◌⊎◌, List, Option, Some, None, IfSome}
use Rattle.base_devices.specs.Content.{Content}
use Rattle.base_devices.specs.Links.{LinkState}
use Rattle.base_devices.specs.DataFolder.{Nodes, folder}
use Rattle.base_devices.specs.declared.data_folder.Node.{Node}
use Rattle.base_model.specs.declared.labels.Label.{Label}
use Rattle.base_model.specs.Text.{Text, In}
use Rattle.base_model.specs.Values.{FileEntry, Manifest}
use Rattle.base_model.specs.Repository.{Backup, Stanza}
use Rattle.restore_make.specs.Recovered.{IsRestored}
use Rattle.restore_make.specs.Recovered.Recovery.{Nothing}
use Rattle.base_model.specs.Represents.{IsManifestOf}
use Rattle.worker_pool.specs.Payloads.{AllRead}
use Rattle.worker_pool.specs.declared.dispatch.fault.Lost.{Lost}
use Rattle.restore_steps.specs.Files.{temporary_path}
use Rattle.restore_steps.specs.Clearing.{control_path, HasTimed}
use Rattle.restore_steps.specs.Sources.{source}
use Rattle.restore_make.specs.Options.{Options, is_added}
use Rattle.restore_make.specs.Written.{IsReadOf}
use Rattle.restore_make.specs.Entries.{AreOf}
use Rattle.restore_make.specs.Kept.{marked, AllAlike, IsKept, AreFilesOf, KeepsAlike}
use Rattle.restore_make.specs.Settings.{HasAdded}
use Rattle.restore_make.specs.Listed.{IsPlain}
use Rattle.worker_pool.specs.Left.{IsLeft}
use Rattle.worker_pool.specs.Twins.{HasNoTwin}

-- the name under which the control file waits until all else is valid
abbrev pub waiting_path : Text
waiting_path = temporary_path control_path

-- The tree has a file of the entry's bytes and its time at a path. Where there are any bytes, a link read them at the
-- entry's place.
pub record HasEntry (stanza : Text) (own : Label) (links : List LinkState) (e : FileEntry) (path : Text)
    (f : Nodes) : Type 0 where
  pub bytes : Text
  pub file : HasTimed path bytes e.time f
  pub are : AreOf e bytes
  pub read : 0 < e.size → IsReadOf links (source stanza own e) bytes

-- nothing is there, where that is known
abbrev pub IsAway : Text → Option Nodes → Type 0
IsAway path nodes = IfSome nodes (λ f. f path ≡ None)

-- the entry's file is there: written, with bytes that a link read at its place, or kept
abbrev pub HasCome : Text → Label → List LinkState → Options → FileEntry → Option Nodes → Nodes → Type 0
HasCome stanza own links o e old f = HasEntry stanza own links e e.path f ⊎ IsKept links o e old f

-- The tree has each file of the manifest, written or kept, the settings of the recovery, the folders, and nothing else.
pub record IsFinished (stanza : Text) (links : List LinkState) (o : Options) (m : Manifest) (old : Option Nodes)
    (f : Nodes) : Type 0 where
  pub file : (e : FileEntry) → In e m.files → is_added o.recovery e.path ≡ false
      → HasCome stanza m.label links o e old f
  pub alike : KeepsAlike links o m.files old f
  pub settings : HasAdded stanza m.label links m.files o.recovery f
  pub folder : (path : Text) → In path m.folders → f path ≡ Some folder
  pub nothing : (path : Text) → ¬ In path m.folders → ((e : FileEntry) → In e m.files → path ≢ e.path)
      → is_added o.recovery path ≡ false → f path ≡ None

-- the same, where the marks state which files were kept
pub record IsMarked (stanza : Text) (links : List LinkState) (o : Options) (m : Manifest) (marks : List Bool)
    (old : Option Nodes) (f : Nodes) : Type 0 where
  pub file : (e : FileEntry) → In e m.files → is_added o.recovery e.path ≡ false
      → HasCome stanza m.label links o e old f
  pub kept : (e : FileEntry) → In (e, true) (marked m.files marks) → IsKept links o e old f
  pub settings : HasAdded stanza m.label links m.files o.recovery f
  pub folder : (path : Text) → In path m.folders → f path ≡ Some folder
  pub nothing : (path : Text) → ¬ In path m.folders → ((e : FileEntry) → In e m.files → path ≢ e.path)
      → is_added o.recovery path ≡ false → f path ≡ None

-- ---- steps, over links that earlier steps have left

-- Where a tree is listed except for its control file, and links of which these are left reported that the marked files
-- are alike, all but the settings and the control file is there.
abbrev pub Rebuilds : Text → List LinkState → Options → Manifest → List (Text × Node) → List Bool → Option Nodes
    → Option Nodes → Type 0
Rebuilds stanza links o m seen marks old new =
    (first : List LinkState) (before after : List Lost) → IsLeft first links before after
    → AllAlike first o seen m.files marks
    → IfSome new (IsPlain stanza first o m marks old Nothing)

-- where all but the settings and the control file was there, the settings are there as well
abbrev pub AppliesSettings : Text → List LinkState → Options → Manifest → List Bool → Option Nodes → Option Nodes → Type
    0
AppliesSettings stanza links o m marks old new =
    (first : List LinkState) (before after : List Lost) (start : Option Nodes) → IsLeft first links before after
    → IfSome old (IsPlain stanza first o m marks start Nothing)
    → IfSome new (IsPlain stanza first o m marks start o.recovery)

-- where all but the control file was there, all of it is
abbrev pub Finishes : Text → List LinkState → Options → Manifest → List Bool → Option Nodes → Option Nodes → Type 0
Finishes stanza links o m marks old new =
    (first : List LinkState) (before after : List Lost) (start : Option Nodes) → IsLeft first links before after
    → IfSome old (IsPlain stanza first o m marks start o.recovery)
    → IfSome new (IsMarked stanza first o m marks start)

-- where all but the settings and the control file was there, all of it is
abbrev pub Completes : Text → List LinkState → Options → Manifest → List Bool → Option Nodes → Option Nodes → Type 0
Completes stanza links o m marks old new =
    (first : List LinkState) (before after : List Lost) (start : Option Nodes) → IsLeft first links before after
    → IfSome old (IsPlain stanza first o m marks start Nothing)
    → IfSome new (IsMarked stanza first o m marks start)

-- where the tree is listed except for its control file, all of it is there
abbrev pub PutsAll : Text → List LinkState → Options → Manifest → List (Text × Node) → List Bool → Option Nodes
    → Option Nodes → Type 0
PutsAll stanza links o m seen marks old new =
    (first : List LinkState) (before after : List Lost) → IsLeft first links before after
    → AllAlike first o seen m.files marks
    → IfSome new (IsMarked stanza first o m marks old)

-- ---- the restored tree

-- What delta rests on: the links read the files that the data folder held, and a digest distinguishes each of them from
-- the backup's.
abbrev pub AreKnown : Options → Backup → Option Nodes → Content → Type 0
AreKnown o b old tree = o.delta ≡ true → AreFilesOf old tree × HasNoTwin b tree

-- Where all links read a repository of which this is a backup's manifest, the tree is the restored one of that backup.
abbrev pub Restores : Text → List LinkState → Options → Manifest → Option Nodes → Nodes → Type 0
Restores stanza links o m old f = (tree repo : Content) (s : Stanza) (b : Backup) → AllRead tree repo links
    → IsManifestOf stanza repo s b m → AreKnown o b old tree → IsRestored b o.recovery f
