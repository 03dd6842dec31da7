use Rattle.std.proofs.Common.{List, subst}
use Rattle.std.specs.Prelude.{string_bytes}
use Rattle.base_model.specs.InfoFiles.{archive_sections, IsArchiveText}
use Rattle.base_model.specs.Values.{archive_info_of}
use Rattle.repo_ini.specs.declared.part.Part.{Part}
use Rattle.repo_ini.specs.Parts.{sections_of}
use Rattle.repo_info.specs.ArchiveForm.{IsArchiveForm}
use Rattle.repo_info.proofs.ArchiveRules.{archive_is_info}
use Rattle.repo_info.proofs.KindTexts.{IsOfSections, unread, misfit}
use Rattle.repo_info.proofs.archive_reader.ArchiveInfoReadInfo.read.Goals as goal

of_sections : IsOfSections IsArchiveText archive_sections
of_sections = record { info = λ v b t. archive_is_info v t.rules; spelled = λ v b t. t.spelled }

pub returns-in-Err-clause-gives : goal.returns-in-Err-clause-gives
returns-in-Err-clause-gives c = unread IsArchiveText IsArchiveForm archive_info_of archive_sections of_sections c.args.bytes.now c.in-Err.fault (rw c.in-Err.is at c.in_ok-parts.ensures)

pub returns-in-Err-Form-clause-gives : goal.returns-in-Err-Form-clause-gives
returns-in-Err-Form-clause-gives c =
    let read = rw c.in-Ok.is at c.in_ok-parts.ensures in
    let section = string_bytes c.in-Err-Form.section in
    let key = string_bytes c.in-Err-Form.key in
    let form = subst (λ (ps : List Part). IsArchiveForm (sections_of ps) section key) c.deref.ensures.value (rw c.in-Err-Form.field-0-is at c.in-Err-Form.ensures.fault) in
    misfit IsArchiveText IsArchiveForm archive_info_of archive_sections of_sections c.args.bytes.now (sections_of c.in-Ok.parts.items) section key read.0 read.1 form (λ w t. form.none w t.rules)
