-- The labels that files refer to.
use Rattle.std.specs.Prelude.{◌≡◌, ◌⊎◌, ◌↔◌, List, map, Option, Some}
use Rattle.base_model.specs.declared.labels.Label.{Label}
use Rattle.base_model.specs.declared.labels.Entry as rust_entry
use Rattle.base_model.specs.declared.files.Manifest as rust_manifest
use Rattle.base_model.specs.Text.{Text, In}
use Rattle.base_model.specs.Values.{FileEntry, file_entry_of}
use Rattle.cmd_verify.specs.What.{What, Reference}

-- one of the files refers to the label
abbrev pub RefersTo : List FileEntry → Label → Type 0
RefersTo files l = (e : FileEntry) × In e files × (e.reference ≡ Some l)

-- at this name the label is reported, which isn't among the listed ones
abbrev pub IsUnlisted : Text → List Label → Label → Text → What → Type 0
IsUnlisted at listed l name (Reference m) = (name ≡ at) × (m ≡ l) × ¬ In l listed
IsUnlisted at listed l name what = ⊥

-- so is each that one of the files refers to
abbrev pub AreUnlisted : Text → List FileEntry → List Label → Text → What → Type 0
AreUnlisted at files listed name (Reference l) = (name ≡ at) × RefersTo files l × ¬ In l listed
AreUnlisted at files listed name what = ⊥

-- the label that a file refers to was added, where there is one
abbrev pub AddsReference : Option Label → List Label → List Label → Type 0
AddsReference reference old new = (l : Label) → In l new ↔ (In l old ⊎ (reference ≡ Some l))

-- the labels that the manifest's files refer to are those of the entry
abbrev pub RefersAlike : rust_entry.Entry → rust_manifest.Manifest → Type 0
RefersAlike entry manifest = (l : Label)
    → In l entry.references.items ↔ RefersTo (map file_entry_of manifest.files.items) l
