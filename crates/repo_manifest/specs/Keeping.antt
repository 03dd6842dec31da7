-- How a manifest is kept.
use Rattle.std.specs.Prelude.{◌≡◌, ◌<◌, ℕ, IfSome, length}
use Rattle.base_devices.specs.States.{DiskState, DiskFailed}
use Rattle.base_model.specs.declared.files.Manifest as rust
use Rattle.base_model.specs.Text.{Text}
use Rattle.base_model.specs.InfoText.{info_text}
use Rattle.base_model.specs.ManifestText.{manifest_limit, manifest_sections, IsManifestText}
use Rattle.base_model.specs.Names.{manifest_name}
use Rattle.base_model.specs.Pair.{PairIs}
use Rattle.base_model.specs.Values.{Manifest, manifest_of}
use Rattle.repo_pair.specs.Causes.{PairCause}
use Rattle.repo_pair.specs.Writes.{SavesBoth, SavesNow, EndsBoth, EndsNow}
use Rattle.repo_pair.specs.declared.fault.InfoFault.{InfoFault}
use Rattle.repo_pair.specs.declared.fault.SaveFault.{SaveFault}
use Rattle.repo_pair.specs.declared.fault.SaveFault.TheVariants.{Disk as SaveDisk, NoMemory as SaveNoMemory}
use Rattle.repo_manifest.specs.ManifestForm.{IsManifestForm}
use Rattle.repo_manifest.specs.declared.write_fault.WriteFault.{WriteFault}
use Rattle.repo_manifest.specs.declared.write_fault.WriteFault.TheVariants.{TooLong, Disk, NoMemory}

-- the one text of a manifest
abbrev pub manifest_text : Manifest → Text
manifest_text m = info_text (manifest_sections m)

-- the name of its main member
abbrev pub own_name : Text → rust.Manifest → Text
own_name stanza m = manifest_name stanza m.label

-- what holds of the length, where the fault reports one
abbrev pub IfTooLong : WriteFault → (ℕ → Type 0) → Type 0
IfTooLong (TooLong length) P = P length
IfTooLong Disk P = Unit {0}
IfTooLong NoMemory P = Unit {0}

-- the fault that a fault of saving becomes
abbrev pub write_fault_of : SaveFault → WriteFault
write_fault_of SaveDisk = Disk
write_fault_of SaveNoMemory = NoMemory

-- ---- loading

-- the pair of this name has this manifest
abbrev pub HoldsManifest : Text → rust.Manifest → DiskState → Type 0
HoldsManifest name m d = IfSome d.view.now (λ f. PairIs IsManifestText f name (manifest_of m))

-- why the pair has none
abbrev pub RefusesLoad : Text → DiskState → DiskState → InfoFault → Type 0
RefusesLoad name old new e =
    PairCause IsManifestText IsManifestForm manifest_limit name old.view.now (DiskFailed old new) e

-- ---- saving

-- of the two members the main one or both have the text, at each crash and now
abbrev pub SavesManifest : Text → rust.Manifest → DiskState → DiskState → Type 0
SavesManifest stanza m old new = SavesBoth (own_name stanza m) (manifest_text (manifest_of m)) old.view new.view

abbrev pub SavesManifestNow : Text → rust.Manifest → DiskState → DiskState → Type 0
SavesManifestNow stanza m old new = SavesNow (own_name stanza m) (manifest_text (manifest_of m)) old.view new.view

-- both have it at the end, after each crash and now
abbrev pub EndsManifest : Text → rust.Manifest → DiskState → DiskState → Type 0
EndsManifest stanza m old new = EndsBoth (own_name stanza m) (manifest_text (manifest_of m)) old.view new.view

abbrev pub EndsManifestNow : Text → rust.Manifest → DiskState → DiskState → Type 0
EndsManifestNow stanza m old new = EndsNow (own_name stanza m) (manifest_text (manifest_of m)) old.view new.view

-- this length of its text is above the limit, and nothing was done
abbrev pub RefusesLength : rust.Manifest → Type 0 → ℕ → Type 0
RefusesLength m NothingDone n = (n ≡ length (manifest_text (manifest_of m))) × (manifest_limit < n) × NothingDone
