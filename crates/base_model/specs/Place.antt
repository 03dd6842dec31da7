-- Where the bytes of a manifest's file lie.
use Rattle.std.specs.Prelude.{◌≡◌, ℕ, ◌+◌, Option, Some, None, unwrap_or, slice_range, length}
use Rattle.base_devices.specs.Content.{Content}
use Rattle.base_model.specs.declared.labels.Label.{Label}
use Rattle.base_model.specs.declared.files.Bundled.{Bundled}
use Rattle.base_model.specs.Text.{Text}
use Rattle.base_model.specs.Names.{file_name, bundle_name}
use Rattle.base_model.specs.Values.{FileEntry}

-- the label in whose folder they lie: the reference, else the backup's own
abbrev pub holder : Label → FileEntry → Label
holder own e = unwrap_or e.reference own

-- the name at which they lie, and where they begin there
abbrev pub place_by : Text → Label → FileEntry → Option Bundled → Text × ℕ
place_by stanza own e None = (file_name stanza (holder own e) e.path, 0)
place_by stanza own e (Some b) = (bundle_name stanza (holder own e) b.number, b.at)

-- the place of a file with bytes in a backup of this label; a file without bytes isn't stored
abbrev pub place : Text → Label → FileEntry → Text × ℕ
place stanza own e = place_by stanza own e e.bundle

-- these bytes lie at this place
abbrev pub LiesAt : Content → Text × ℕ → Text → Type 0
LiesAt f at bytes = (whole : Text) × (f at.0 ≡ Some whole) × (slice_range whole at.1 (at.1 + length bytes) ≡ bytes)
