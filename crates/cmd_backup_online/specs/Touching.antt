-- Which names the backup of a running server changes. Own.
use Rattle.std.specs.Prelude.{◌≡◌, ◌⊎◌, IfSome, IsTrue}
use Rattle.base_devices.specs.Content.{Name, is_below}
use Rattle.base_devices.specs.States.{DiskState}
use Rattle.base_model.specs.declared.labels.Label.{Label}
use Rattle.base_model.specs.Names.{archive_folder}
use Rattle.base_model.specs.Text.{Text}
use Rattle.base_model.specs.Values.{backup_info_of}
use Rattle.archive_lookup.specs.Turns.{ProcessesState}
use Rattle.backup_make.specs.Touched.{TouchesOnly, IsOfBackup}
use Rattle.cmd_backup_common.specs.Priors.{made_label}
use Rattle.cmd_backup_offline.specs.declared.order.BackupBasis.{BackupBasis}
use Rattle.cmd_backup_offline.specs.Basing.{base_in}
use Rattle.cmd_backup_offline.specs.Touching.{TouchesOneOf}
use Rattle.cmd_backup_online.specs.declared.order.NextBackup.{NextBackup}
use Rattle.cmd_backup_online.specs.declared.order.ServerTask.{ServerTask}

-- a name of the backup of this label, or one below the stanza's folder of the archive, where others push meanwhile
abbrev pub IsOfRunning : Text → Label → Name → Type 0
IsOfRunning stanza label name = IsOfBackup stanza label name ⊎ IsTrue (is_below (archive_folder stanza) name)

-- Whatever the disk held, no names but these of one backup are touched, whose label is new, where others report steps of
-- this stanza alone.
abbrev pub TouchesIn : {D : Type 0} → Text → ProcessesState → (D → DiskState) → D → D → Type 0
TouchesIn stanza processes state before after = IfSome processes.account
    (λ a. a.stanza ≡ stanza → TouchesOneOf stanza (IsOfRunning stanza) (state before).view (state after).view)

-- the label of the backup that is made next on this basis
abbrev pub label_for : BackupBasis → NextBackup → Label
label_for b next = made_label b.order.kind (base_in b.order.kind (backup_info_of next.list)) next.second

-- no names but those of the backup of this label are touched
abbrev pub TouchesNext : {D : Type 0} → ServerTask → (D → DiskState) → D → D → Type 0
TouchesNext task state before after = TouchesOnly (IsOfBackup task.basis.stanza.now (label_for task.basis task.next))
    (state before).view (state after).view
