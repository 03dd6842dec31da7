use Rattle.std.proofs.Common.{◌≡◌, codes}
use Rattle.std.proofs.lemmas.Result.{err_from_is_err_and}
use Rattle.base_model.specs.declared.clusters.ClusterId.{ClusterId}
use Rattle.base_model.specs.InfoText.{IsSection}
use Rattle.base_model.specs.InfoFiles.{IsClusterId, cluster_id_field}
use Rattle.repo_ini.specs.Parts.{section_of, sections_of}
use Rattle.repo_info.specs.ArchiveForm.{section_names, IsArchiveForm, IsWrongCurrent}
use Rattle.repo_keys.specs.Agree.{db as db_name, db_history}
use Rattle.repo_info.specs.History.{IsWrongHistory}
use Rattle.repo_info.proofs.ArchiveForms.{foreign_form, no_db, db_form, db_found, no_history, history_form, value_sections}
use Rattle.repo_keys.specs.Foreign.{IsForeignKey}
use Rattle.repo_keys.proofs.Foreign.{foreign_as}
use Rattle.repo_keys.proofs.Forms.{form_as, form_wide}
use Rattle.repo_info.proofs.IdentityFields.{identities_are_numbered}
use Rattle.repo_keys.proofs.Numbers.{all_in}
use Rattle.repo_info.proofs.archive_reader.archive_of.Goals as goal

pub returns-in_default-clause-fault : goal.returns-in_default-clause-fault
returns-in_default-clause-fault c = form_as c.form.result db_name (codes "db-id") (IsArchiveForm (sections_of c.args.parts.now)) c.form.ensures (no_db (sections_of c.args.parts.now) c.requires c.in_default.ensures.none)

pub current_of-requires : goal.current_of-requires
current_of-requires c = all_in IsSection (sections_of c.args.parts.now) (section_of c.in-Some.db.now) c.requires.sections c.in-Some.ensures.found.0

pub returns-in_err-current-clause-fault : goal.returns-in_err-current-clause-fault
returns-in_err-current-clause-fault c =
    let ss = sections_of c.args.parts.now in
    let section = section_of c.in-Some.db.now in
    let found = c.in-Some.ensures.found in
    let p = err_from_is_err_and c.from_residual.result c.from_residual.ensures.1 in
    rw (p.1, p.2)
    (form_wide c.in_err-current.field-0.0 (λ s k. (s ≡ db_name) × IsWrongCurrent section.keys k) (IsArchiveForm ss) c.in_err-current.ensures.fault (λ s k h. db_form ss c.requires section s k found.0 found.1 h.0 h.1))

pub returns-in_default-part_of-clause-fault : goal.returns-in_default-part_of-clause-fault
returns-in_default-part_of-clause-fault c =
    let ss = sections_of c.args.parts.now in
    let found = c.in-Some.ensures.found in
    let is = c.in_ok-current.ensures.cluster in
    let current = c.in_ok-current.current in
    let there = db_found ss (section_of c.in-Some.db.now) current found.0 found.1 is.2 in
    form_as c.form-in_default-part_of.result db_history (codes "1") (IsArchiveForm ss) c.form-in_default-part_of.ensures (no_history ss c.requires current is.0 there c.in_default-part_of.ensures.none)

pub history_of-requires-clause-laws : goal.history_of-requires-clause-laws
history_of-requires-clause-laws c = identities_are_numbered

pub history_of-requires-clause-rules : goal.history_of-requires-clause-rules
history_of-requires-clause-rules c = all_in IsSection (sections_of c.args.parts.now) (section_of c.in-Some-part_of.past.now) c.requires.sections c.in-Some-part_of.ensures.found.0

pub returns-in_err-history-clause-fault : goal.returns-in_err-history-clause-fault
returns-in_err-history-clause-fault c =
    let ss = sections_of c.args.parts.now in
    let found = c.in-Some.ensures.found in
    let is = c.in_ok-current.ensures.cluster in
    let current = c.in_ok-current.current in
    let there = db_found ss (section_of c.in-Some.db.now) current found.0 found.1 is.2 in
    let past = section_of c.in-Some-part_of.past.now in
    let at = c.in-Some-part_of.ensures.found in
    let p = err_from_is_err_and c.from_residual-in_err-history.result c.from_residual-in_err-history.ensures.1 in
    rw (p.1, p.2)
    (form_wide c.in_err-history.field-0.0 (λ s k. (s ≡ db_history) × IsWrongHistory IsClusterId (λ (c : ClusterId). c.id) cluster_id_field current current.id past.keys k) (IsArchiveForm ss) c.in_err-history.ensures.fault (λ s k h. history_form ss c.requires current is.0 there past s k at.0 at.1 h.0 h.1))

pub returns-in_err-check_names-clause-fault : goal.returns-in_err-check_names-clause-fault
returns-in_err-check_names-clause-fault c =
    let ss = sections_of c.args.parts.now in
    let p = err_from_is_err_and c.from_residual-in_err-check_names.result c.from_residual-in_err-check_names.ensures.1 in
    rw (p.1, p.2)
    (form_wide c.in_err-check_names.field-0.0 (IsForeignKey section_names ss) (IsArchiveForm ss) c.in_err-check_names.ensures.fault (foreign_as section_names ss (IsArchiveForm ss) (foreign_form ss c.requires)))

pub returns-clause-sections : goal.returns-clause-sections
returns-clause-sections c =
    let ss = sections_of c.args.parts.now in
    let found = c.in-Some.ensures.found in
    let is = c.in_ok-current.ensures.cluster in
    let current = c.in_ok-current.current in
    let there = db_found ss (section_of c.in-Some.db.now) current found.0 found.1 is.2 in
    let at = c.in-Some-part_of.ensures.found in
    value_sections ss c.requires current is.0 there (section_of c.in-Some-part_of.past.now) c.in_ok-history.history.items at.0 at.1 c.in_ok-history.ensures.history c.in_ok-history.ensures.keys is.1 c.in_ok-check_names.ensures.names
