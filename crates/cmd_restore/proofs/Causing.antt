-- Each part's cause is one of the restore's.
use Rattle.std.proofs.Common.{◌≡◌, Option, Some, None, sym, subst}
use Rattle.std.specs.Prelude.{IfSome}
use Rattle.base_devices.specs.Content.{Content}
use Rattle.base_model.specs.declared.labels.Label.{Label}
use Rattle.base_model.specs.InfoFiles.{IsBackupText}
use Rattle.base_model.specs.Names.{backup_info}
use Rattle.base_model.specs.Pair.{PairIs}
use Rattle.base_model.specs.Text.{Text}
use Rattle.base_model.specs.Values.{BackupInfo, Manifest}
use Rattle.cmd_types.specs.declared.stages.object.Object.{Object}
use Rattle.cmd_types.specs.declared.stages.object.Object.TheVariants.{Repo, TheDataFolder}
use Rattle.cmd_types.specs.declared.stages.halt.Halt.{Halt}
use Rattle.cmd_types.specs.declared.stages.halt.Halt.TheVariants.{Refused, Failed, NoMemory}
use Rattle.cmd_types.specs.Halts.{HaltCause, Only}
use Rattle.cmd_types.specs.Risen.{none, rose_in}
use Rattle.cmd_restore.specs.declared.fault.RestoreCommandFault.{RestoreCommandFault}
use Rattle.cmd_restore.specs.declared.fault.RestoreCommandFault.TheVariants as faults
use Rattle.restore_choice.specs.declared.fault.ChoiceFault.{ChoiceFault}
use Rattle.restore_choice.specs.declared.fault.DamagedManifest.{DamagedManifest}
use Rattle.restore_choice.specs.Choosing.{ChooseCause}
use Rattle.restore_choice.specs.Loading.{HasManifest, LoadCause}
use Rattle.cmd_restore.specs.Choosing.{OnList, of_choice, of_load}
use Rattle.cmd_restore.specs.Filling.{FillCause}
use Rattle.cmd_restore.specs.Looking.{IsOpen, FolderCause}
use Rattle.cmd_restore.specs.Restoring.{Before, Chooses}
use Rattle.cmd_restore.specs.Causes.{RestoreCommandCause}

-- what holds of the value of the backup pair holds of the repository's list
pub on_list : (stanza : Text) (repo : Option Content) (v : BackupInfo) → IfSome repo (λ f. PairIs IsBackupText f (backup_info stanza) v) → (P : Content → BackupInfo → Type 0) → IfSome repo (λ f. P f v) → IfSome repo (λ f. OnList stanza f (P f))
on_list stanza None v pair P p = tt
on_list stanza (Some f) v pair P p = (v, pair, p)

module _ (b : Before) where
  module _ (label : Label) (chosen : Chooses b label) (open_before : IfSome b.nodes (IsOpen b.options.delta)) where
    module _ (m : Manifest) (has : IfSome b.repo (HasManifest b.stanza label m)) where
      pub fill_restores : (e : RestoreCommandFault) → FillCause b.stanza m b.used e → RestoreCommandCause b e
      fill_restores faults.SetForm h = absurd h
      fill_restores faults.TargetForm h = absurd h
      fill_restores (faults.Unchosen fault) h = absurd h
      fill_restores faults.Running h = absurd h
      fill_restores (faults.NotEmpty path) h = absurd h
      fill_restores (faults.ManifestDamaged fault) h = absurd h
      fill_restores (faults.WorkersLost lost) h = (label, m, chosen, open_before, has, h)
      fill_restores (faults.Unread path) h = (label, m, chosen, open_before, has, h)
      fill_restores (faults.FileDamaged path known found) h = (label, m, chosen, open_before, has, h)

-- ---- objects that failed

pub folder_fails : (R S rose : Type 0) → (rose → S) → (o : Object) → Only TheDataFolder rose o → rose_in (record none { repo = R; tree = S }) o
folder_fails R S rose to o h = subst (λ (p : Object). rose_in (record none { repo = R; tree = S }) p) (sym h.0) (to h.1)
