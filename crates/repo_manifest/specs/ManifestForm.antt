-- Which sections are those of no manifest, and at which key.
use Rattle.std.specs.Prelude.{◌≡◌, ◌≢◌, ◌⊎◌, List, map}
use Rattle.base_model.specs.Text.{Text, In}
use Rattle.base_model.specs.InfoText.{Section}
use Rattle.base_model.specs.ManifestText.{data_path, file_field, manifest_sections, IsManifest}
use Rattle.base_model.specs.Values.{FileEntry, Manifest}
use Rattle.repo_manifest.specs.Sections.{target_file, IsPast}
use Rattle.repo_manifest.specs.Tied.{IsTied}
use Rattle.repo_manifest.specs.Wrong.{IsWrongAt}

-- the section states these files, whose sizes pass their bound with the one of this key
pub record IsPastAt (ss : List Section) (section key : Text) : Type 0 where
  pub files : List FileEntry
  pub known : In (record { name = target_file; keys = map file_field files }) ss
  pub last : FileEntry
  pub past : IsPast files last
  pub named : section ≡ target_file
  pub at : key ≡ data_path last.path

-- The sections are those of no manifest: none has at this key what they have, with what they have at keys that a rule
-- ties to it. Or the sizes of the files pass their bound here.
pub record IsManifestForm (ss : List Section) (section key : Text) : Type 0 where
  pub none : (m : Manifest) → IsManifest m → manifest_sections m ≢ ss
  pub wrong : IsWrongAt IsManifest manifest_sections IsTied ss section key ⊎ IsPastAt ss section key
