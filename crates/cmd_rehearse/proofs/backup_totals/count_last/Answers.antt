use Rattle.std.proofs.Math.Nat.{le_refl}
use Rattle.std.proofs.Common.{◌∙◌, ◌≡◌, ap, arith, map, sym, subst, Option, List}
use Rattle.std.specs.Prelude.{IfSome, None, option_map}
use Rattle.base_devices.specs.Cause.{Rises}
use Rattle.base_devices.specs.Content.{Content}
use Rattle.base_devices.proofs.States.{looks_on}
use Rattle.base_model.specs.declared.files.FileEntry as rust
use Rattle.base_model.specs.declared.files.Manifest as rust_manifest
use Rattle.base_model.specs.declared.labels.BackupKind.TheVariants.{Incr}
use Rattle.base_model.specs.InfoFiles.{IsBackupText}
use Rattle.base_model.specs.ManifestText.{IsManifestText}
use Rattle.base_model.specs.Names.{backup_info, manifest_name}
use Rattle.base_model.specs.Pair.{PairIs}
use Rattle.base_model.specs.Values.{Manifest, backup_info_of, manifest_of, file_entry_of}
use Rattle.backup_record.specs.Making.{size_of}
use Rattle.cmd_types.specs.declared.stages.object.Object.TheVariants.{Repo}
use Rattle.cmd_types.specs.Halts.{HaltCause, Only}
use Rattle.cmd_backup_common.proofs.Beginnings.{halt_as, ends_with}
use Rattle.cmd_backup_common.proofs.Causes.{if_both}
use Rattle.cmd_backup_offline.specs.Basing.{base_label, ReadsBase, BaseCause}
use Rattle.cmd_rehearse.specs.Causes.{LostCause, StepCause}
use Rattle.cmd_rehearse.specs.Counting.{HasLast, amount_of}
use Rattle.cmd_rehearse.proofs.Causing.{lost_step, base_last, none_lost, base_fails}
use Rattle.cmd_rehearse.proofs.Failing.{only_in}
use Rattle.cmd_rehearse.proofs.backup_totals.count_last.Goals as goal

pub returns-in_err-list-clause-cause : goal.returns-in_err-list-clause-cause
returns-in_err-list-clause-cause g c =
    let stanza = c.args.stanza.now in
    let a = g.D.Disk.state c.args.repo.now in
    let F = Only Repo (Rises a.faults (g.D.Disk.state c.read_backup.new.repo).faults) in
    ends_with (HaltCause (StepCause stanza a.view.now) F) c.from_residual.result c.in_err-list.field-0.0 c.from_residual.ensures.1
    (halt_as (LostCause stanza a.view.now) (StepCause stanza a.view.now) F F (lost_step stanza a.view.now) (λ o h. h) c.in_err-list.field-0.0 c.in_err-list.ensures.cause)

pub amount_of-requires : goal.amount_of-requires
amount_of-requires g c =
    let x = base_last c.args.stanza.now (g.D.Disk.state c.read_backup.new.repo).view.now (base_label Incr (backup_info_of c.in_ok-list.list)) (manifest_of c.in-Ok-Some.manifest) (subst (λ (o : Option rust_manifest.Manifest). ReadsBase c.args.stanza.now (g.D.Disk.state c.read_backup.new.repo).view.now (base_label Incr (backup_info_of c.in_ok-list.list)) (option_map manifest_of o)) c.in-Ok-Some.field-0-is c.in-Ok-Some.ensures.reads) in
    let sizes = x.2.sizes in
    let same = ap (λ (es : List rust.FileEntry). size_of (map file_entry_of es)) c.deref.ensures.value in
    omega (arith, sizes, same)

pub returns-in-Ok-Some-clause-known : goal.returns-in-Ok-Some-clause-known
returns-in-Ok-Some-clause-known g c =
    let stanza = c.args.stanza.now in
    let now = (g.D.Disk.state c.args.repo.now).view.now in
    let v = backup_info_of c.in_ok-list.list in
    let m = manifest_of c.in-Ok-Some.manifest in
    let x = base_last stanza (g.D.Disk.state c.read_backup.new.repo).view.now (base_label Incr v) m (subst (λ (o : Option rust_manifest.Manifest). ReadsBase stanza (g.D.Disk.state c.read_backup.new.repo).view.now (base_label Incr v) (option_map manifest_of o)) c.in-Ok-Some.field-0-is c.in-Ok-Some.ensures.reads) in
    let P : Manifest → Type 0 = λ y. c.amount_of.result ≡ amount_of c.args.counted y.files in
    let counts : P m = c.amount_of.ensures ∙ ap (λ (es : List rust.FileEntry). amount_of c.args.counted (map file_entry_of es)) c.deref.ensures.value in
    if_both (λ f. PairIs IsBackupText f (backup_info stanza) v) (λ f. PairIs IsManifestText f (manifest_name stanza x.0) m) (HasLast stanza P) now c.in_ok-list.ensures.found.0
    (subst (λ (o : Option Content). IfSome o (λ f. PairIs IsManifestText f (manifest_name stanza x.0) m)) c.read_backup.ensures.looks.now x.3)
    (λ f list manifest. record { list = v; read = list; label = x.0; last = x.1; manifest = m; of_it = manifest; holds = counts })

pub returns-in-Ok-Some-clause-looks : goal.returns-in-Ok-Some-clause-looks
returns-in-Ok-Some-clause-looks g c = looks_on (g.D.Disk.state c.args.repo.now) (g.D.Disk.state c.read_backup.new.repo) (g.D.Disk.state c.load_base.new.repo) c.read_backup.ensures.looks c.load_base.ensures.looks

pub returns-in-Ok-None-clause-looks : goal.returns-in-Ok-None-clause-looks
returns-in-Ok-None-clause-looks g c = looks_on (g.D.Disk.state c.args.repo.now) (g.D.Disk.state c.read_backup.new.repo) (g.D.Disk.state c.load_base.new.repo) c.read_backup.ensures.looks c.load_base.ensures.looks

pub returns-clause-looks : goal.returns-clause-looks
returns-clause-looks g c = looks_on (g.D.Disk.state c.args.repo.now) (g.D.Disk.state c.read_backup.new.repo) (g.D.Disk.state c.load_base.new.repo) c.read_backup.ensures.looks c.load_base.ensures.looks

pub returns-in-Ok-None-clause-cause : goal.returns-in-Ok-None-clause-cause
returns-in-Ok-None-clause-cause g c =
    let stanza = c.args.stanza.now in
    let v = backup_info_of c.in_ok-list.list in
    none_lost stanza (g.D.Disk.state c.args.repo.now).view.now v c.in_ok-list.ensures.found.0
    (subst (λ (o : Option Content). ReadsBase stanza o (base_label Incr v) None) c.read_backup.ensures.looks.now (subst (λ (o : Option rust_manifest.Manifest). ReadsBase stanza (g.D.Disk.state c.read_backup.new.repo).view.now (base_label Incr v) (option_map manifest_of o)) c.in-Ok-None.field-0-is c.in-Ok-None.ensures.reads))

pub returns-clause-cause : goal.returns-clause-cause
returns-clause-cause g c =
    let stanza = c.args.stanza.now in
    let a = g.D.Disk.state c.args.repo.now in
    let m = g.D.Disk.state c.read_backup.new.repo in
    let d = g.D.Disk.state c.load_base.new.repo in
    let v = backup_info_of c.in_ok-list.list in
    let F = Only Repo (Rises m.faults d.faults) in
    let cause = subst (λ (o : Option Content). HaltCause (BaseCause stanza o (base_label Incr v)) F c.in-Err.halt) c.read_backup.ensures.looks.now c.in-Err.ensures.cause in
    subst (HaltCause (StepCause stanza a.view.now) (Only Repo (Rises a.faults d.faults))) (sym c.of_base.ensures)
    (halt_as (StepCause stanza a.view.now) (StepCause stanza a.view.now) F (Only Repo (Rises a.faults d.faults)) (λ e h. h)
    (only_in a.faults m.faults d.faults d.faults c.read_backup.ensures.looks.later (le_refl d.faults)) _
    (base_fails stanza a.view.now v c.in_ok-list.ensures.found.0 F c.in-Err.halt cause))
