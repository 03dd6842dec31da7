-- What a backup is based on (pgBackRest command reference, "Backup", option type).
use Rattle.std.specs.Prelude.{◌≡◌, ◌⊎◌, List, [], Option, Some, None, IfSome, IsSomeAnd, option_and_then, option_map, string_bytes}
use Rattle.repo_info.specs.declared.fault.MemberFault.{MemberFault}
use Rattle.repo_info.specs.declared.fault.MemberFault.TheVariants.{Absent}
use Rattle.base_devices.specs.Content.{Content}
use Rattle.base_model.specs.declared.clusters.Cluster.{Cluster}
use Rattle.base_model.specs.declared.labels.BackupKind.{BackupKind}
use Rattle.base_model.specs.declared.labels.Label.{Label}
use Rattle.base_model.specs.Fields.{at_number}
use Rattle.base_model.specs.ManifestText.{IsManifest, IsManifestText, manifest_limit}
use Rattle.base_model.specs.Names.{label_text, manifest_name}
use Rattle.base_model.specs.Pair.{PairIs, PairAbsent}
use Rattle.base_model.specs.Text.{Text}
use Rattle.base_model.specs.Values.{BackupInfo, Entry, FileEntry, Manifest}
use Rattle.repo_manifest.specs.ManifestForm.{IsManifestForm}
use Rattle.repo_pair.specs.Causes.{AreDamaged}
use Rattle.cmd_backup_common.specs.Priors.{prior_for}
use Rattle.cmd_backup_offline.specs.declared.fault.OfflineFault.{OfflineFault}
use Rattle.cmd_backup_offline.specs.declared.fault.OfflineFault.TheVariants.{Take, PriorDamaged}

-- the listed backup that one of this kind is based on: of the list's current cluster
abbrev pub base_in : BackupKind → BackupInfo → Option Entry
base_in kind list = option_and_then (λ (c : Cluster). prior_for kind c.id list.backups)
    (at_number list.current list.history)

-- its label
abbrev pub base_label : BackupKind → BackupInfo → Option Label
base_label kind list = option_map (λ (e : Entry). e.label) (base_in kind list)

-- the manifest of the backup of this label is one, and the disk holds it
abbrev pub ReadsBase : Text → Option Content → Option Label → Option Manifest → Type 0
ReadsBase stanza now None m = m ≡ None
ReadsBase stanza now (Some l) m = IsSomeAnd m
    (λ x. IsManifest x × IfSome now (λ f. PairIs IsManifestText f (manifest_name stanza l) x))

-- the files of a manifest, and none without one
abbrev pub old_files : Option Manifest → List FileEntry
old_files None = []
old_files (Some m) = m.files

-- f has no manifest of this label: its members have these faults, and where neither is there, both are absent
abbrev pub LacksManifest : Text → Label → MemberFault → MemberFault → Content → Type 0
LacksManifest stanza label main copy f =
    AreDamaged IsManifestText IsManifestForm manifest_limit f (manifest_name stanza label) main copy
    ⊎ (PairAbsent f (manifest_name stanza label) × (main ≡ Absent) × (copy ≡ Absent))

-- the manifest of the backup of this label isn't read
abbrev pub BaseCause : Text → Option Content → Option Label → OfflineFault → Type 0
BaseCause stanza now base (Take fault) = ⊥
BaseCause stanza now base (PriorDamaged text main copy) =
    IsSomeAnd base (λ l. (string_bytes text ≡ label_text l) × IfSome now (LacksManifest stanza l main copy))
