-- Which sections are those of no value of `backup.info`, and at which key.
use Rattle.std.specs.Prelude.{◌≡◌, ◌≢◌, ◌≤◌, ◌<◌, ◌^◌, ◌⊎◌, ℕ, max, List, [], ◌∷◌, map, length, true, codes, IfSome}
use Rattle.base_devices.specs.Order.{is_before, are_in_order}
use Rattle.serde_json.specs.Data.{Data}
use Rattle.base_model.specs.declared.clusters.Cluster.{Cluster}
use Rattle.base_model.specs.declared.labels.Label.{Label}
use Rattle.base_model.specs.Text.{Text, In}
use Rattle.base_model.specs.InfoText.{Section}
use Rattle.base_model.specs.Fields.{Field}
use Rattle.base_model.specs.Names.{label_text}
use Rattle.base_model.specs.InfoFiles.{IsCluster, cluster_fields, entry_field, AreListed, backup_sections, IsBackupInfo}
use Rattle.base_model.specs.Values.{BackupInfo, Entry}
use Rattle.repo_info.specs.Entries.{IsEntry}
use Rattle.repo_keys.specs.Agree.{AgreeAt, KeysAgree, KeysAgreeBefore, db, db_history}

-- the section of the listed backups
abbrev pub backup_current : Text
backup_current = codes "backup:current"

-- its number in the history
abbrev pub own_id : Cluster → ℕ
own_id c = c.id

-- the value has at each key of the section what the sections have
abbrev pub AgreeIn : BackupInfo → List Section → Text → Type 0
AgreeIn v ss section = (key : Text) → AgreeAt (backup_sections v) ss section key

-- the value has at each earlier key of the section what the sections have
abbrev pub AgreeBefore : BackupInfo → List Section → Text → Text → Type 0
AgreeBefore v ss section key = (earlier : Text) → is_before earlier key ≡ true
    → AgreeAt (backup_sections v) ss section earlier

-- the history has a cluster for each of its keys
abbrev pub HasClusters : BackupInfo → List Section → Type 0
HasClusters v ss = (s : Section) → In s ss → s.name ≡ db_history → length s.keys ≤ length v.history

-- The value has all that comes before the key. Before a key of the history are the two other sections, and the count
-- of its clusters.
pub record HasBefore (v : BackupInfo) (ss : List Section) (section key : Text) : Type 0 where
  pub listed : section ≡ backup_current → AgreeBefore v ss backup_current key
  pub current : section ≡ db → AgreeIn v ss backup_current × AgreeBefore v ss db key
  pub history : section ≡ db_history → AgreeIn v ss backup_current × AgreeIn v ss db × HasClusters v ss

-- The sections are those of no value. Some value has all that comes before this key, and each that does has something
-- else at the key.
pub record IsBackupForm (ss : List Section) (section key : Text) : Type 0 where
  pub none : (v : BackupInfo) → IsBackupInfo v → backup_sections v ≢ ss
  pub known : (v : BackupInfo) × IsBackupInfo v × HasBefore v ss section key
  pub wrong : (v : BackupInfo) → IsBackupInfo v → HasBefore v ss section key
      → ¬ AgreeAt (backup_sections v) ss section key

-- ---- section by section

-- a list of backups, whatever the history
pub record IsList (es : List Entry) : Type 0 where
  pub backups : AreListed 4294967296 [] es
  pub order : are_in_order (map (λ e. label_text e.label) es) ≡ true

-- the keys have one with this label
abbrev pub HasLabel : List Field → Label → Type 0
HasLabel ks l = (d : Data) × In (label_text l, d) ks

-- the key and its value are a backup's, whose prior one is among the keys before it
pub record IsNext (prefix : List Field) (k : Field) (e : Entry) : Type 0 where
  pub rules : IsEntry e
  pub field : k ≡ entry_field e
  pub prior : IfSome e.prior (HasLabel prefix)

-- Some list has all that comes before this key of `backup:current`, and each that does has something else at the key.
pub record IsWrongBackup (ks : List Field) (key : Text) : Type 0 where
  pub known : (es : List Entry) × IsList es × KeysAgreeBefore (map entry_field es) ks key
  pub wrong : (es : List Entry) → IsList es → KeysAgreeBefore (map entry_field es) ks key
      → ¬ KeysAgree (map entry_field es) ks key

-- Some cluster has all that comes before this key of `db`, and none has what is at it.
pub record IsWrongCluster (ks : List Field) (key : Text) : Type 0 where
  pub known : (c : Cluster) × IsCluster c × (1 ≤ c.id) × KeysAgreeBefore (cluster_fields c) ks key
  pub wrong : (c : Cluster) → IsCluster c → 1 ≤ c.id → ¬ KeysAgree (cluster_fields c) ks key

-- the number is the one that the keys state under this name, where they state one of 32 bits in this form
abbrev pub IsNumberAt : (ℕ → Data) → Text → List Field → ℕ → Type 0
IsNumberAt form key ks number = (n : ℕ) → n < 2 ^ 32 → In (key, form n) ks → number ≡ n

-- the sections of the text
abbrev pub backup_names : List Text
backup_names = backup_current ∷ db ∷ db_history ∷ []

-- the highest history number of these backups, or 0
abbrev pub highest : List Entry → ℕ
highest [] = 0
highest (e ∷ es) = max e.db (highest es)
