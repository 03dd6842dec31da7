-- Which refusal of a backup of any kind a fault below is, and which refusals come before its first step.
use Rattle.std.specs.Prelude.{◌≡◌, Bool, true, string_bytes}
use Rattle.repo_info.specs.declared.fault.MemberFault.{MemberFault}
use Rattle.repo_info.specs.declared.fault.MemberFault.TheVariants.{Absent}
use Rattle.base_model.specs.declared.labels.Label.{Label}
use Rattle.base_model.specs.Names.{label_text}
use Rattle.repo_pair.specs.declared.fault.InfoFault.{InfoFault}
use Rattle.repo_pair.specs.declared.fault.InfoFault.TheVariants as pairs
use Rattle.cmd_types.specs.declared.stages.object.Object.{Object}
use Rattle.cmd_types.specs.declared.stages.object.Object.TheVariants.{Repo as TheRepo}
use Rattle.cmd_types.specs.declared.stages.halt.Halt.{Halt}
use Rattle.cmd_types.specs.declared.stages.halt.Halt.TheVariants.{Refused, Failed, NoMemory}
use Rattle.cmd_backup_common.specs.declared.parts.fault.BackupFault.{BackupFault}
use Rattle.cmd_backup_offline.specs.declared.fault.OfflineFault.{OfflineFault}
use Rattle.cmd_backup_offline.specs.declared.fault.OfflineFault.TheVariants.{Take, PriorDamaged}

-- each comes before the backup is listed
abbrev pub offline_early : OfflineFault → Bool
offline_early fault = true

-- of a halt that a full backup may have too
abbrev pub of_backup : Halt BackupFault → Halt OfflineFault
of_backup (Refused fault) = Refused (Take fault)
of_backup (Failed object) = Failed object
of_backup NoMemory = NoMemory

-- the refusal reports this label, and these faults of the members of its manifest
abbrev pub ShowsDamage : Label → MemberFault → MemberFault → OfflineFault → Type 0
ShowsDamage label main copy (PriorDamaged text of_main of_copy) = (string_bytes text ≡ label_text label)
    × (of_main ≡ main) × (of_copy ≡ copy)
ShowsDamage label main copy other = ⊥

-- by what is found of the pair: where neither is there, both are absent
abbrev pub ShowsPair : Label → InfoFault → OfflineFault → Type 0
ShowsPair label pairs.Missing fault = ShowsDamage label Absent Absent fault
ShowsPair label (pairs.Damaged main copy) fault = ShowsDamage label main copy fault
ShowsPair label pairs.Disk fault = ⊥
ShowsPair label pairs.NoMemory fault = ⊥

-- the repository failed
abbrev pub FailsPair : InfoFault → Object → Type 0
FailsPair fault object = (object ≡ TheRepo) × (fault ≡ pairs.Disk)
