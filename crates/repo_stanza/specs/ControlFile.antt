-- What a data folder's two files say about its cluster (PostgreSQL manual, "Database File Layout" and
-- "pg_controldata").
use Rattle.std.specs.Prelude.{◌≡◌, ◌⊎◌, ℕ, ◌<◌, ◌≤◌, ◌^◌, [], ◌∷◌, ◌++◌, length, take, drop, decimal}
use Rattle.base_model.specs.Text.{Text, little_endian}
use Rattle.base_model.specs.declared.clusters.Cluster.{Cluster}
use Rattle.repo_stanza.specs.declared.control.Control.{Control}
use Rattle.repo_stanza.specs.declared.control.ControlFault.{ControlFault}
use Rattle.repo_stanza.specs.declared.control.ControlFault.TheVariants.{ControlShort, VersionText, VersionUnsupported}

-- a number in decimal and a newline
abbrev pub IsVersionText : ℕ → Text → Type 0
IsVersionText n text = text ≡ decimal n ++ 10 ∷ []

-- the major versions of PostgreSQL that are supported
abbrev pub oldest_version : ℕ
oldest_version = 15

abbrev pub newest_version : ℕ
newest_version = 17

abbrev pub IsSupported : ℕ → Type 0
IsSupported n = (oldest_version ≤ n) × (n ≤ newest_version)

-- the files `global/pg_control` and `PG_VERSION` state this
pub record Shows (control version : Text) (c : Control) : Type 0 where
  pub long : 16 ≤ length control
  pub system : c.system ≡ little_endian (take 8 control)
  pub control_version : c.control ≡ little_endian (take 4 (drop 8 control))
  pub catalog : c.catalog ≡ little_endian (take 4 (drop 12 control))
  pub version_text : IsVersionText c.version version
  pub supported : IsSupported c.version

-- why the version file states none that is supported
abbrev pub IsVersionRefused : Text → ControlFault → Type 0
IsVersionRefused version (ControlShort n) = ⊥
IsVersionRefused version VersionText = (n : ℕ) → n < 2 ^ 64 → ¬ IsVersionText n version
IsVersionRefused version (VersionUnsupported n) = (n < 2 ^ 64) × IsVersionText n version
    × ((n < oldest_version) ⊎ (newest_version < n))

-- why the two files state nothing: a short control file comes first
abbrev pub IsRefused : Text → Text → ControlFault → Type 0
IsRefused control version (ControlShort n) = (n ≡ length control) × (length control < 16)
IsRefused control version VersionText = (16 ≤ length control) × IsVersionRefused version VersionText
IsRefused control version (VersionUnsupported n) = (16 ≤ length control)
    × IsVersionRefused version (VersionUnsupported n)

-- the cluster of a new stanza
abbrev pub first_cluster : Control → Cluster
first_cluster c = record { id = 1; system = c.system; version = c.version; control = c.control; catalog = c.catalog }
