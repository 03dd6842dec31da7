-- The manifest of a listed backup. Own.
use Rattle.std.specs.Prelude.{◌≡◌, ◌≢◌, ◌⊎◌, codes, Option, IfSome, string_bytes}
use Rattle.base_devices.specs.Content.{Content}
use Rattle.base_devices.specs.States.{DiskState, DiskFailed}
use Rattle.repo_info.specs.declared.fault.MemberFault.{MemberFault}
use Rattle.repo_info.specs.declared.fault.MemberFault.TheVariants.{Absent, Form}
use Rattle.base_model.specs.declared.labels.Label.{Label}
use Rattle.base_model.specs.ManifestText.{IsManifestText, manifest_limit}
use Rattle.base_model.specs.Names.{label_text, manifest_name}
use Rattle.base_model.specs.Pair.{PairIs, PairAbsent}
use Rattle.base_model.specs.Text.{Text}
use Rattle.base_model.specs.Values.{Manifest}
use Rattle.repo_pair.specs.declared.fault.InfoFault.{InfoFault}
use Rattle.repo_pair.specs.declared.fault.InfoFault.TheVariants.{Missing, Damaged, Disk, NoMemory}
use Rattle.repo_pair.specs.Causes.{AreDamaged}
use Rattle.repo_manifest.specs.ManifestForm.{IsManifestForm}
use Rattle.cmd_types.specs.Halts.{HaltCause, Only}
use Rattle.cmd_types.specs.declared.stages.halt.Halt.{Halt}
use Rattle.cmd_types.specs.declared.stages.object.Object.{Object}
use Rattle.cmd_types.specs.declared.stages.object.Object.TheVariants.{Repo}
use Rattle.restore_choice.specs.declared.fault.DamagedManifest.{DamagedManifest}

-- f has this manifest where the label's lies
abbrev pub IsThere : Text → Label → Manifest → Content → Type 0
IsThere stanza label m f = PairIs IsManifestText f (manifest_name stanza label) m

-- and it states the label
abbrev pub HasManifest : Text → Label → Manifest → Content → Type 0
HasManifest stanza label m f = (m.label ≡ label) × IsThere stanza label m f

-- the fault of a member that states another label
abbrev pub IsOtherLabel : MemberFault → Type 0
IsOtherLabel (Form section key) = (string_bytes section ≡ codes "backup") × (string_bytes key ≡ codes "backup-label")
IsOtherLabel other = ⊥

-- its members have these faults: where neither is there, both are absent; a manifest of another label has it as a
-- foreign value
abbrev pub LacksManifest : Text → Label → MemberFault → MemberFault → Content → Type 0
LacksManifest stanza label main copy f =
    AreDamaged IsManifestText IsManifestForm manifest_limit f (manifest_name stanza label) main copy
    ⊎ (PairAbsent f (manifest_name stanza label) × (main ≡ Absent) × (copy ≡ Absent))
    ⊎ ((m : Manifest) × IsThere stanza label m f × (m.label ≢ label) × IsOtherLabel main × IsOtherLabel copy)

-- why it isn't read
abbrev pub LoadCause : Text → Label → Option Content → DamagedManifest → Type 0
LoadCause stanza label repo fault =
    (string_bytes fault.label ≡ label_text label) × IfSome repo (LacksManifest stanza label fault.main fault.copy)

-- the refusal reports this label, and these faults of the members
abbrev pub ShowsDamage : Label → MemberFault → MemberFault → DamagedManifest → Type 0
ShowsDamage label main copy fault =
    (string_bytes fault.label ≡ label_text label) × (fault.main ≡ main) × (fault.copy ≡ copy)

-- the refusal reports this label, and that both members state another
abbrev pub ShowsForeign : Label → DamagedManifest → Type 0
ShowsForeign label fault =
    (string_bytes fault.label ≡ label_text label) × IsOtherLabel fault.main × IsOtherLabel fault.copy

-- the refusal of a manifest's label by what is found of its pair
abbrev pub ShowsPair : Label → InfoFault → DamagedManifest → Type 0
ShowsPair label Missing fault = ShowsDamage label Absent Absent fault
ShowsPair label (Damaged main copy) fault = ShowsDamage label main copy fault
ShowsPair label Disk fault = ⊥
ShowsPair label NoMemory fault = ⊥

-- the repository failed
abbrev pub FailsPair : InfoFault → Object → Type 0
FailsPair fault object = (object ≡ Repo) × (fault ≡ Disk)

-- ---- over the repository's states

-- where the repository is known, it has this manifest, which states the label
abbrev pub LoadsManifest : Text → Label → DiskState → Manifest → Type 0
LoadsManifest stanza label repo m = IfSome repo.view.now (HasManifest stanza label m)

-- why it isn't read
abbrev pub LoadHalts : Text → Label → DiskState → DiskState → Halt DamagedManifest → Type 0
LoadHalts stanza label old new halt =
    HaltCause (LoadCause stanza label old.view.now) (Only Repo (DiskFailed old new)) halt
