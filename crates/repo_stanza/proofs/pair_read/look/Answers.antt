use Rattle.std.proofs.Common.{◌∙◌, Option, subst}
use Rattle.std.specs.Prelude.{IfSome, IfNone}
use Rattle.base_devices.specs.Content.{Content}
use Rattle.base_devices.specs.Cause.{Rises}
use Rattle.base_model.specs.Text.{Text}
use Rattle.base_model.specs.Pair.{PairIs, PairAbsent}
use Rattle.base_model.specs.Values.{archive_info_of, backup_info_of}
use Rattle.base_model.specs.InfoFiles.{IsArchiveText, IsBackupText, info_limit}
use Rattle.repo_info.specs.BackupForm.{IsBackupForm}
use Rattle.repo_stanza.specs.Causes.{CreateCause, ReadCause}
use Rattle.repo_stanza.proofs.Looked.{handed, backup_cause, lacking, keeping, refused, rises_from}
use Rattle.repo_stanza.proofs.pair_read.look.Goals as goal

pub returns-in_err-backup-clause-cause : goal.returns-in_err-backup-clause-cause
returns-in_err-backup-clause-cause g c =
    let named = c.as_str.ensures.value ∙ c.in_ok-archive_name.ensures in
    handed c.from_residual-in_err-backup.result c.in_err-backup.field-0.0 (CreateCause c.args.stanza.now c.args.known.now (g.D.Disk.state c.args.d.now).view.now (Rises (g.D.Disk.state c.args.d.now).faults (g.D.Disk.state c.read_pair-2.new.d).faults)) c.from_residual-in_err-backup.ensures.1
    (backup_cause c.args.stanza.now c.args.known.now (g.D.Disk.state c.args.d.now).view.now c.in_ok-archive.archive
    (subst (λ (n : Text). IfSome c.in_ok-archive.archive (λ v. IfSome (g.D.Disk.state c.args.d.now).view.now (λ (f : Content). PairIs IsArchiveText f n (archive_info_of v)))) named c.in_ok-archive.ensures.found)
    (subst (λ (n : Text). IfNone c.in_ok-archive.archive (IfSome (g.D.Disk.state c.args.d.now).view.now (λ (f : Content). PairAbsent f n))) named c.in_ok-archive.ensures.missing)
    _ _ (λ rose. rises_from _ _ _ c.read_pair.ensures.looks.later rose) _ (c.as_str-2.ensures.value ∙ c.in_ok-backup_name.ensures) c.in_err-backup.field-0.0
    (subst (λ (o : Option Content). ReadCause IsBackupText IsBackupForm info_limit c.as_str-2.result.now o (Rises (g.D.Disk.state c.read_pair.new.d).faults (g.D.Disk.state c.read_pair-2.new.d).faults) c.in_err-backup.field-0.0) c.read_pair.ensures.looks.now c.in_err-backup.ensures.cause))

pub returns-clause-lacking : goal.returns-clause-lacking
returns-clause-lacking g c =
    let named = c.as_str.ensures.value ∙ c.in_ok-archive_name.ensures in
    let backup_named = c.as_str-2.ensures.value ∙ c.in_ok-backup_name.ensures in
    lacking c.args.stanza.now c.args.known.now (g.D.Disk.state c.args.d.now).view.now c.in_ok-archive.archive
    (subst (λ (n : Text). IfSome c.in_ok-archive.archive (λ v. IfSome (g.D.Disk.state c.args.d.now).view.now (λ (f : Content). PairIs IsArchiveText f n (archive_info_of v)))) named c.in_ok-archive.ensures.found)
    (subst (λ (n : Text). IfNone c.in_ok-archive.archive (IfSome (g.D.Disk.state c.args.d.now).view.now (λ (f : Content). PairAbsent f n))) named c.in_ok-archive.ensures.missing)
    c.in_ok-backup.backup
    (subst (λ (n : Text). IfSome c.in_ok-backup.backup (λ v. IfSome (g.D.Disk.state c.args.d.now).view.now (λ (f : Content). PairIs IsBackupText f n (backup_info_of v)))) backup_named (subst (λ (o : Option Content). IfSome c.in_ok-backup.backup (λ v. IfSome o (λ (f : Content). PairIs IsBackupText f c.as_str-2.result.now (backup_info_of v)))) c.read_pair.ensures.looks.now c.in_ok-backup.ensures.found))
    (subst (λ (n : Text). IfNone c.in_ok-backup.backup (IfSome (g.D.Disk.state c.args.d.now).view.now (λ (f : Content). PairAbsent f n))) backup_named (subst (λ (o : Option Content). IfNone c.in_ok-backup.backup (IfSome o (λ (f : Content). PairAbsent f c.as_str-2.result.now))) c.read_pair.ensures.looks.now c.in_ok-backup.ensures.missing))
    c.judge.result c.judge.ensures.nothing

pub returns-clause-kept : goal.returns-clause-kept
returns-clause-kept g c =
    let named = c.as_str.ensures.value ∙ c.in_ok-archive_name.ensures in
    let backup_named = c.as_str-2.ensures.value ∙ c.in_ok-backup_name.ensures in
    keeping c.args.stanza.now c.args.known.now (g.D.Disk.state c.args.d.now).view.now c.in_ok-archive.archive
    (subst (λ (n : Text). IfSome c.in_ok-archive.archive (λ v. IfSome (g.D.Disk.state c.args.d.now).view.now (λ (f : Content). PairIs IsArchiveText f n (archive_info_of v)))) named c.in_ok-archive.ensures.found)
    (subst (λ (n : Text). IfNone c.in_ok-archive.archive (IfSome (g.D.Disk.state c.args.d.now).view.now (λ (f : Content). PairAbsent f n))) named c.in_ok-archive.ensures.missing)
    c.in_ok-backup.backup
    (subst (λ (n : Text). IfSome c.in_ok-backup.backup (λ v. IfSome (g.D.Disk.state c.args.d.now).view.now (λ (f : Content). PairIs IsBackupText f n (backup_info_of v)))) backup_named (subst (λ (o : Option Content). IfSome c.in_ok-backup.backup (λ v. IfSome o (λ (f : Content). PairIs IsBackupText f c.as_str-2.result.now (backup_info_of v)))) c.read_pair.ensures.looks.now c.in_ok-backup.ensures.found))
    (subst (λ (n : Text). IfNone c.in_ok-backup.backup (IfSome (g.D.Disk.state c.args.d.now).view.now (λ (f : Content). PairAbsent f n))) backup_named (subst (λ (o : Option Content). IfNone c.in_ok-backup.backup (IfSome o (λ (f : Content). PairAbsent f c.as_str-2.result.now))) c.read_pair.ensures.looks.now c.in_ok-backup.ensures.missing))
    c.judge.result c.judge.ensures.kept

pub returns-clause-cause : goal.returns-clause-cause
returns-clause-cause g c =
    let named = c.as_str.ensures.value ∙ c.in_ok-archive_name.ensures in
    let backup_named = c.as_str-2.ensures.value ∙ c.in_ok-backup_name.ensures in
    refused c.args.stanza.now c.args.known.now (g.D.Disk.state c.args.d.now).view.now c.in_ok-archive.archive
    (subst (λ (n : Text). IfSome c.in_ok-archive.archive (λ v. IfSome (g.D.Disk.state c.args.d.now).view.now (λ (f : Content). PairIs IsArchiveText f n (archive_info_of v)))) named c.in_ok-archive.ensures.found)
    (subst (λ (n : Text). IfNone c.in_ok-archive.archive (IfSome (g.D.Disk.state c.args.d.now).view.now (λ (f : Content). PairAbsent f n))) named c.in_ok-archive.ensures.missing)
    c.in_ok-backup.backup
    (subst (λ (n : Text). IfSome c.in_ok-backup.backup (λ v. IfSome (g.D.Disk.state c.args.d.now).view.now (λ (f : Content). PairIs IsBackupText f n (backup_info_of v)))) backup_named (subst (λ (o : Option Content). IfSome c.in_ok-backup.backup (λ v. IfSome o (λ (f : Content). PairIs IsBackupText f c.as_str-2.result.now (backup_info_of v)))) c.read_pair.ensures.looks.now c.in_ok-backup.ensures.found))
    (subst (λ (n : Text). IfNone c.in_ok-backup.backup (IfSome (g.D.Disk.state c.args.d.now).view.now (λ (f : Content). PairAbsent f n))) backup_named (subst (λ (o : Option Content). IfNone c.in_ok-backup.backup (IfSome o (λ (f : Content). PairAbsent f c.as_str-2.result.now))) c.read_pair.ensures.looks.now c.in_ok-backup.ensures.missing))
    _ c.in_ok-backup_name.backup_name c.in_ok-backup_name.ensures c.judge.result c.judge.ensures.refused
