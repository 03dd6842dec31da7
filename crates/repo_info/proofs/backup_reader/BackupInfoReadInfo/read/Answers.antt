use Rattle.std.proofs.Common.{ℕ, ◌<◌, ◌≤◌, ◌^◌, List, length, sym, subst}
use Rattle.std.specs.Prelude.{string_bytes}
use Rattle.std.specs.List.{AllByRecursion}
use Rattle.base_model.specs.InfoText.{Section}
use Rattle.base_model.specs.InfoFiles.{info_limit, backup_sections, IsBackupText}
use Rattle.base_model.specs.Values.{backup_info_of}
use Rattle.repo_ini.specs.declared.part.Part.{Part}
use Rattle.repo_ini.specs.Parts.{sections_of}
use Rattle.repo_info.specs.BackupForm.{IsBackupForm}
use Rattle.repo_info.proofs.BackupRules.{backup_is_info}
use Rattle.repo_info.proofs.FewKeys.{few_keys}
use Rattle.repo_info.proofs.KindTexts.{IsOfSections, unread, misfit}
use Rattle.repo_info.proofs.backup_reader.BackupInfoReadInfo.read.Goals as goal

of_sections : IsOfSections IsBackupText backup_sections
of_sections = record { info = λ v b t. backup_is_info v t.rules; spelled = λ v b t. t.spelled }

pub returns-in-Err-clause-gives : goal.returns-in-Err-clause-gives
returns-in-Err-clause-gives c = unread IsBackupText IsBackupForm backup_info_of backup_sections of_sections c.args.bytes.now c.in-Err.fault (rw c.in-Err.is at c.in_ok-parts.ensures)

pub returns-in-Err-Form-clause-gives : goal.returns-in-Err-Form-clause-gives
returns-in-Err-Form-clause-gives c =
    let read = rw c.in-Ok.is at c.in_ok-parts.ensures in
    let section = string_bytes c.in-Err-Form.section in
    let key = string_bytes c.in-Err-Form.key in
    let form = subst (λ (ps : List Part). IsBackupForm (sections_of ps) section key) c.deref.ensures.value (rw c.in-Err-Form.field-0-is at c.in-Err-Form.ensures.fault) in
    misfit IsBackupText IsBackupForm backup_info_of backup_sections of_sections c.args.bytes.now (sections_of c.in-Ok.parts.items) section key read.0 read.1 form (λ w t. form.none w t.rules)

pub backup_of-requires-clause-few : goal.backup_of-requires-clause-few
backup_of-requires-clause-few c =
    let read = rw c.in-Ok.is at c.in_ok-parts.ensures in
    let few = few_keys (sections_of c.in-Ok.parts.items) (subst (λ (t : List ℕ). length t ≤ info_limit) read.1 c.requires) in
    subst (λ (ps : List Part). AllByRecursion (λ (s : Section). length s.keys < 2 ^ 32) (sections_of ps)) (sym c.deref.ensures.value) few
