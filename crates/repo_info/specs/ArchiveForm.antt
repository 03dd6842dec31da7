-- Which sections are those of no value of `archive.info`, and at which key.
use Rattle.std.specs.Prelude.{◌≡◌, ◌≢◌, ◌≤◌, ℕ, List, [], ◌∷◌, length, codes}
use Rattle.base_model.specs.declared.clusters.ClusterId.{ClusterId}
use Rattle.base_model.specs.Text.{Text, In}
use Rattle.base_model.specs.InfoText.{Section}
use Rattle.base_model.specs.Fields.{Field, at_number, fields_of}
use Rattle.base_model.specs.InfoFiles.{IsClusterId, cluster_id_fields, archive_sections, IsArchiveInfo}
use Rattle.base_model.specs.Values.{ArchiveInfo}
use Rattle.repo_keys.specs.Agree.{AgreeAt, KeysAgree, db, db_history}

-- its number in the history
abbrev pub own_id : ClusterId → ℕ
own_id c = c.id

-- the current cluster is the one that the section `db` states, and the history has a cluster for each of its keys
pub record Matches (ss : List Section) (v : ArchiveInfo) : Type 0 where
  pub current : (s : Section) → In s ss → s.name ≡ db
      → s.keys ≡ fields_of cluster_id_fields (at_number v.current v.history)
  pub clusters : (s : Section) → In s ss → s.name ≡ db_history → length s.keys ≤ length v.history

-- the section `db` states a cluster
pub record ShowsCluster (ss : List Section) : Type 0 where
  pub cluster : ClusterId
  pub rules : IsClusterId cluster
  pub found : In (record { name = db; keys = cluster_id_fields cluster }) ss

-- The sections are those of no value, and no value has at this key what they have. In the history only the values count
-- that match the rest.
pub record IsArchiveForm (ss : List Section) (section key : Text) : Type 0 where
  pub none : (v : ArchiveInfo) → IsArchiveInfo v → archive_sections v ≢ ss
  pub wrong : (v : ArchiveInfo) → IsArchiveInfo v → (section ≡ db_history → Matches ss v)
      → ¬ AgreeAt (archive_sections v) ss section key
  pub known : section ≡ db_history → ShowsCluster ss

-- ---- section by section

-- no cluster has at this key of `db` what these keys have
abbrev pub IsWrongCurrent : List Field → Text → Type 0
IsWrongCurrent ks key = (c : ClusterId) → IsClusterId c → 1 ≤ c.id → ¬ KeysAgree (cluster_id_fields c) ks key

-- the keys of the section `db`
abbrev pub cluster_keys : List Text
cluster_keys = codes "db-id" ∷ codes "db-system-id" ∷ codes "db-version" ∷ []

-- the sections of the text
abbrev pub section_names : List Text
section_names = db ∷ db_history ∷ []
