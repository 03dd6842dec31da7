use Rattle.std.proofs.Common.{sym, subst}
use Rattle.backup_make.specs.declared.fault.MakeFault.{MakeFault}
use Rattle.cmd_types.specs.declared.stages.halt.Halt.TheVariants.{Refused, Failed}
use Rattle.cmd_types.specs.declared.stages.object.Object.TheVariants.{Repo, Clock}
use Rattle.base_model.specs.InfoFiles.{info_limit}
use Rattle.base_model.specs.ManifestText.{manifest_limit}
use Rattle.cmd_backup_common.specs.declared.parts.fault.BackupFault.TheVariants.{WorkersLost, ControlMissing, Unread, TooLong}
use Rattle.cmd_backup_common.specs.PartsFaults.{IsHaltOf, NoneLeft, NotRead, Vanished, LongManifest, LongList, NoClock, NoDisk, Starved}
use Rattle.cmd_backup_common.proofs.parts.fault.of_make.Goals as goal

pub returns-in-WorkersLost : goal.returns-in-WorkersLost
returns-in-WorkersLost c = subst (λ (e : MakeFault). IsHaltOf c.args.stanza.now c.args.label.now c.args.lost e (Refused (WorkersLost c.args.lost)))
    (sym c.in-WorkersLost.is) NoneLeft

pub returns-in-Unread : goal.returns-in-Unread
returns-in-Unread c = subst (λ (e : MakeFault). IsHaltOf c.args.stanza.now c.args.label.now c.args.lost e (Refused (Unread c.in-Unread.path)))
    (sym c.in-Unread.is) (NotRead c.in-Unread.path)

pub returns-in-Ok : goal.returns-in-Ok
returns-in-Ok c = subst (λ (e : MakeFault). IsHaltOf c.args.stanza.now c.args.label.now c.args.lost e (Refused (ControlMissing c.in-Ok.path)))
    (sym c.in-ControlMissing.is) (Vanished c.in-ControlMissing.path c.in-Ok.path c.in-Ok.ensures.ok)

pub returns-in-Err : goal.returns-in-Err
returns-in-Err c = Starved c.args.fault

pub returns-in-Ok-manifest_name : goal.returns-in-Ok-manifest_name
returns-in-Ok-manifest_name c = subst (λ (e : MakeFault). IsHaltOf c.args.stanza.now c.args.label.now c.args.lost e (Refused (TooLong c.in-Ok-manifest_name.name manifest_limit)))
    (sym c.in-ManifestTooLong.is) (LongManifest c.in-ManifestTooLong.length c.in-Ok-manifest_name.name c.in-Ok-manifest_name.ensures)

pub returns-in-Err-manifest_name : goal.returns-in-Err-manifest_name
returns-in-Err-manifest_name c = Starved c.args.fault

pub returns-in-Ok-backup_info_name : goal.returns-in-Ok-backup_info_name
returns-in-Ok-backup_info_name c = subst (λ (e : MakeFault). IsHaltOf c.args.stanza.now c.args.label.now c.args.lost e (Refused (TooLong c.in-Ok-backup_info_name.name info_limit)))
    (sym c.in-ListTooLong.is) (LongList c.in-ListTooLong.length c.in-Ok-backup_info_name.name c.in-Ok-backup_info_name.ensures)

pub returns-in-Err-backup_info_name : goal.returns-in-Err-backup_info_name
returns-in-Err-backup_info_name c = Starved c.args.fault

pub returns-in-Clock : goal.returns-in-Clock
returns-in-Clock c = subst (λ (e : MakeFault). IsHaltOf c.args.stanza.now c.args.label.now c.args.lost e (Failed Clock)) (sym c.in-Clock.is) NoClock

pub returns-in-Disk : goal.returns-in-Disk
returns-in-Disk c = subst (λ (e : MakeFault). IsHaltOf c.args.stanza.now c.args.label.now c.args.lost e (Failed Repo)) (sym c.in-Disk.is) NoDisk

pub returns-in-NoMemory : goal.returns-in-NoMemory
returns-in-NoMemory c = Starved c.args.fault
