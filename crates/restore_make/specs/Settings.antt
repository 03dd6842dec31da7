-- The settings of a recovery in the data folder (pgBackRest command reference, "Restore Command", option "type").
use Rattle.std.specs.Prelude.{ℕ, ◌≡◌, ◌≢◌, ◌<◌, List, Option, Some, None, [], ◌∷◌, unwrap_or, string_bytes}
use Rattle.base_devices.specs.Links.{LinkState}
use Rattle.base_devices.specs.DataFolder.{Nodes}
use Rattle.base_text.specs.declared.sum.Sum.{Sum}
use Rattle.base_model.specs.declared.labels.Label.{Label}
use Rattle.base_model.specs.Text.{Text, In}
use Rattle.base_model.specs.Values.{FileEntry}
use Rattle.restore_steps.specs.Clearing.{HasFile}
use Rattle.restore_steps.specs.Sources.{source}
use Rattle.restore_make.specs.declared.fault.FillFault.{FillFault}
use Rattle.restore_make.specs.declared.fault.FillFault.TheVariants as faults
use Rattle.worker_pool.specs.declared.digest_runs.memory_keeper.ReadItem.{ReadItem}
use Rattle.restore_make.specs.Entries.{AreOf}
use Rattle.restore_make.specs.Recovered.{LogFetch, Recovery, conf_path, signal_path, with_block}
use Rattle.restore_make.specs.Recovered.Recovery.{FromArchive, Nothing}
use Rattle.worker_pool.specs.Digests.{IsWhole}
use Rattle.restore_make.specs.Written.{IsReadOf}

-- the bytes are those of the entry, and a link read them at its place where there are any
pub record IsBytesOf (stanza : Text) (own : Label) (links : List LinkState) (e : FileEntry) (bytes : Text) : Type
    0 where
  pub are : AreOf e bytes
  pub read : 0 < e.size → IsReadOf links (source stanza own e) bytes

-- what the backup's file of a path held, where the backup has such a file
abbrev pub WasHeld : Text → Label → List LinkState → List FileEntry → Text → Option Text → Type 0
WasHeld stanza own links es path None = (e : FileEntry) → In e es → e.path ≢ path
WasHeld stanza own links es path (Some bytes) = (e : FileEntry) × In e es × (e.path ≡ path)
    × IsBytesOf stanza own links e bytes

-- the settings are there, after what the backup's file held, and an empty file that asks the server to recover
pub record HasSettings (stanza : Text) (own : Label) (links : List LinkState) (es : List FileEntry) (fetch : LogFetch)
    (f : Nodes) : Type 0 where
  pub held : Option Text
  pub was : WasHeld stanza own links es conf_path held
  pub conf : HasFile conf_path (with_block fetch held) f
  pub signal : HasFile (signal_path fetch) [] f

-- the settings of this recovery are there
abbrev pub HasAdded : Text → Label → List LinkState → List FileEntry → Recovery → Nodes → Type 0
HasAdded stanza own links es (FromArchive fetch) f = HasSettings stanza own links es fetch f
HasAdded stanza own links es Nothing f = Unit {0}

-- ---- what is read for them

-- these are the bytes of the backup's file, or none where the backup has no such file
abbrev pub HoldsConf : Text → Label → List LinkState → List FileEntry → Text → Type 0
HoldsConf stanza own links es bytes = (held : Option Text) × WasHeld stanza own links es conf_path held
    × (bytes ≡ unwrap_or held [])

-- these are the bytes of the first item, which ended with the entry's number and digest
abbrev pub IsFirstOf : FileEntry → List ReadItem → Text → Type 0
IsFirstOf e ended bytes = (first : ReadItem) × (rest : List ReadItem) × (ended ≡ first ∷ rest)
    × IsWhole (Some first.how) e.size e.sum × (bytes ≡ first.bytes.items)

-- the first item ended with another number or digest, and the fault reports it
pub record IsWrongItem (e : FileEntry) (ended : List ReadItem) (path : Text) (known found : Sum) : Type 0 where
  pub first : ReadItem
  pub rest : List ReadItem
  pub is : ended ≡ first ∷ rest
  pub n : ℕ
  pub whole : IsWhole (Some first.how) n found.0
  pub wrong : ¬ ((n ≡ e.size) × (found.0 ≡ e.sum))
  pub path_is : path ≡ e.path
  pub known_fact_is : known.0 ≡ e.sum

-- or memory ran out
abbrev pub ShowsWrongItem : FileEntry → List ReadItem → FillFault → Type 0
ShowsWrongItem e ended (faults.FileDamaged path known found) = IsWrongItem e ended (string_bytes path) known found
ShowsWrongItem e ended faults.WorkersLost = ⊥
ShowsWrongItem e ended (faults.Unread path) = ⊥
ShowsWrongItem e ended faults.DataFolder = ⊥
ShowsWrongItem e ended faults.NoMemory = Unit {0}
