-- What a manifest describes a file.
use Rattle.std.specs.Prelude.{◌≡◌, ◌≢◌, ℕ, [], Option, Some, None, option_map, codes}
use Rattle.sha1.specs.Sha1.{sha1}
use Rattle.serde_json.specs.Data.{Data, Members, put}
use Rattle.base_text.specs.declared.sum.Sum.{Sum}
use Rattle.base_model.specs.declared.labels.Label.{Label}
use Rattle.base_model.specs.declared.files.Bundled.{Bundled}
use Rattle.base_model.specs.Text.{Text}
use Rattle.base_model.specs.Fields.{Field, whole}
use Rattle.base_model.specs.InfoFiles.{label_value}
use Rattle.base_model.specs.ManifestText.{file_field}
use Rattle.base_model.specs.Values.{FileEntry}
use Rattle.repo_manifest.specs.Alone.{IsFile}
use Rattle.repo_manifest.specs.declared.known.FileFacts.{FileFacts}

-- the file of this path
abbrev pub file_with : Text → FileFacts → FileEntry
file_with path t = record {
  path = path;
  size = t.size;
  time = t.time;
  sum = t.sum.0;
  reference = t.reference;
  bundle = t.bundle;
}

-- the members with the place in a bundle, where there is one
abbrev pub with_bundle : Option Bundled → Members → Members
with_bundle None ms = ms
with_bundle (Some b) ms = put (codes "bno") (whole b.at) (put (codes "bni") (whole b.number) ms)

-- the members with the reference, where there is one
abbrev pub with_reference : Option Label → Members → Members
with_reference None ms = ms
with_reference (Some l) ms = put (codes "reference") (label_value l) ms

-- a file without bytes has no place, and the sum of the empty text
abbrev pub IsFit : FileFacts → Type 0
IsFit t = t.size ≡ 0 → (t.sum.0 ≡ sha1 []) × (t.reference ≡ None) × (t.bundle ≡ None)

-- ---- what is read of a value, where it is that of a file

-- its sum
abbrev pub SumIs : Data → Option Sum → Type 0
SumIs value read = (e : FileEntry) → IsFile e → value ≡ (file_field e).1 → option_map (λ s. s.0) read ≡ Some e.sum

-- the number of its bundle, and where it begins there
abbrev pub BundleIs : Data → Option ℕ → Type 0
BundleIs value read = (e : FileEntry) → (b : Bundled) → IsFile e → e.bundle ≡ Some b → value ≡ (file_field e).1
    → read ≡ Some b.number

abbrev pub OffsetIs : Data → Option ℕ → Type 0
OffsetIs value read = (e : FileEntry) → (b : Bundled) → e.bundle ≡ Some b → value ≡ (file_field e).1
    → read ≡ Some b.at

-- all that it says but its path
abbrev pub FactsAre : Data → Option FileFacts → Type 0
FactsAre value read = (e : FileEntry) → IsFile e → value ≡ (file_field e).1
    → option_map (file_with e.path) read ≡ Some e

-- the field states the file, or none
abbrev pub StatesFile : Field → FileEntry → Type 0
StatesFile k e = k ≡ file_field e

abbrev pub StatesNoFile : Field → Type 0
StatesNoFile k = (e : FileEntry) → IsFile e → k ≢ file_field e
