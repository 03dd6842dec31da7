use Rattle.std.proofs.Common.{◌≡◌, ◌<◌, ◌^◌, ℕ, List, length, map, sym, ap, ◌∙◌, subst}
use Rattle.std.specs.Prelude.{codes, max}
use Rattle.std.proofs.lemmas.Result.{err_from_is_err_and}
use Rattle.base_model.specs.declared.clusters.Cluster.{Cluster}
use Rattle.base_model.specs.declared.labels.Entry as rust
use Rattle.base_model.specs.Text.{Text}
use Rattle.base_model.specs.InfoText.{Section, IsSection}
use Rattle.base_model.specs.InfoFiles.{IsCluster, cluster_field}
use Rattle.base_model.specs.Values.{entry_of}
use Rattle.repo_ini.specs.Parts.{key_of, section_of, sections_of}
use Rattle.repo_keys.specs.Agree.{db as db_name, db_history, IsKeysOf}
use Rattle.repo_info.specs.BackupForm.{backup_current, backup_names, highest, IsBackupForm, IsWrongBackup, IsWrongCluster}
use Rattle.repo_info.specs.History.{IsWrongHistory}
use Rattle.repo_info.proofs.BackupForms.{foreign_form, listed_form, db_form, no_history, history_form, value_rules, value_sections}
use Rattle.repo_info.proofs.ClusterFields.{clusters_are_numbered}
use Rattle.repo_keys.specs.Foreign.{IsForeignKey}
use Rattle.repo_keys.proofs.Foreign.{foreign_as}
use Rattle.repo_keys.proofs.Forms.{form_as, form_wide}
use Rattle.repo_keys.proofs.Numbers.{all_in}
use Rattle.repo_info.proofs.backup_reader.backup_of.Goals as goal

named_as : (ss : List Section) (n m key : Text) → n ≡ m → IsBackupForm ss m key → IsBackupForm ss n key
named_as ss n m key e form = subst (λ (k : Text). IsBackupForm ss k key) (sym e) form

pub returns-in_err-backups-clause-fault : goal.returns-in_err-backups-clause-fault
returns-in_err-backups-clause-fault c =
    let ss = sections_of c.args.parts.now in
    let info = c.requires.info in
    let ks = map key_of c.keys_at.result.now in
    let p = err_from_is_err_and c.from_residual.result c.from_residual.ensures.1 in
    rw (p.1, p.2)
    (form_wide c.in_err-backups.field-0.0 (λ s k. (s ≡ backup_current) × IsWrongBackup ks k) (IsBackupForm ss) c.in_err-backups.ensures.fault (λ s k h. named_as ss s backup_current k h.0 (listed_form ss info ks k c.keys_at.ensures.is h.1)))

pub returns-in_err-current-clause-fault : goal.returns-in_err-current-clause-fault
returns-in_err-current-clause-fault c =
    let ss = sections_of c.args.parts.now in
    let info = c.requires.info in
    let es = map entry_of c.in_ok-backups.backups.items in
    let list = c.in_ok-backups.ensures.list in
    let of = subst (IsKeysOf ss backup_current) c.in_ok-backups.ensures.keys c.keys_at.ensures.is in
    let ks = map key_of c.keys_at-2.result.now in
    let p = err_from_is_err_and c.from_residual-in_err-current.result c.from_residual-in_err-current.ensures.1 in
    rw (p.1, p.2)
    (form_wide c.in_err-current.field-0.0 (λ s k. (s ≡ db_name) × IsWrongCluster ks k) (IsBackupForm ss) c.in_err-current.ensures.fault (λ s k h. named_as ss s db_name k h.0 (db_form ss info es list of ks k c.keys_at-2.ensures.is h.1)))

pub returns-in_default-clause-fault : goal.returns-in_default-clause-fault
returns-in_default-clause-fault c =
    let ss = sections_of c.args.parts.now in
    let info = c.requires.info in
    let es = map entry_of c.in_ok-backups.backups.items in
    let list = c.in_ok-backups.ensures.list in
    let of = subst (IsKeysOf ss backup_current) c.in_ok-backups.ensures.keys c.keys_at.ensures.is in
    let current = c.in_ok-current.current in
    let cluster = c.in_ok-current.ensures.cluster in
    let has = subst (IsKeysOf ss db_name) cluster.2 c.keys_at-2.ensures.is in
    form_as c.form.result db_history (codes "1") (IsBackupForm ss) c.form.ensures (no_history ss info es list of current cluster.0 cluster.1 has c.in_default.ensures.none)

pub history_of-requires-clause-laws : goal.history_of-requires-clause-laws
history_of-requires-clause-laws c = clusters_are_numbered

pub history_of-requires-clause-rules : goal.history_of-requires-clause-rules
history_of-requires-clause-rules c = all_in IsSection (sections_of c.args.parts.now) (section_of c.in-Some.past.now) c.requires.info.sections c.in-Some.ensures.found.0

pub returns-in_err-history-clause-fault : goal.returns-in_err-history-clause-fault
returns-in_err-history-clause-fault c =
    let ss = sections_of c.args.parts.now in
    let info = c.requires.info in
    let es = map entry_of c.in_ok-backups.backups.items in
    let list = c.in_ok-backups.ensures.list in
    let of = subst (IsKeysOf ss backup_current) c.in_ok-backups.ensures.keys c.keys_at.ensures.is in
    let current = c.in_ok-current.current in
    let cluster = c.in_ok-current.ensures.cluster in
    let has = subst (IsKeysOf ss db_name) cluster.2 c.keys_at-2.ensures.is in
    let past = section_of c.in-Some.past.now in
    let at = c.in-Some.ensures.found in
    let few = all_in (λ (s : Section). length s.keys < 2 ^ 32) ss past c.requires.few at.0 in
    let number = c.max-least.ensures ∙ ap (λ (n : ℕ). max n current.id) (c.highest.ensures ∙ ap (λ (bs : List rust.Entry). highest (map entry_of bs)) c.deref.ensures.value) in
    let p = err_from_is_err_and c.from_residual-in_err-history.result c.from_residual-in_err-history.ensures.1 in
    rw (p.1, p.2)
    (form_wide c.in_err-history.field-0.0 (λ s k. (s ≡ db_history) × IsWrongHistory IsCluster (λ (x : Cluster). x.id) cluster_field current c.max-least.result past.keys k) (IsBackupForm ss) c.in_err-history.ensures.fault
    (λ s k h. named_as ss s db_history k h.0 (history_form ss info es list of current cluster.0 cluster.1 has past at.0 at.1 few c.max-least.result number k h.1)))

pub returns-in_err-check_names-clause-fault : goal.returns-in_err-check_names-clause-fault
returns-in_err-check_names-clause-fault c =
    let ss = sections_of c.args.parts.now in
    let p = err_from_is_err_and c.from_residual-in_err-check_names.result c.from_residual-in_err-check_names.ensures.1 in
    rw (p.1, p.2)
    (form_wide c.in_err-check_names.field-0.0 (IsForeignKey backup_names ss) (IsBackupForm ss) c.in_err-check_names.ensures.fault (foreign_as backup_names ss (IsBackupForm ss) (foreign_form ss c.requires.info)))

pub returns-clause-sections : goal.returns-clause-sections
returns-clause-sections c =
    let ss = sections_of c.args.parts.now in
    let info = c.requires.info in
    let es = map entry_of c.in_ok-backups.backups.items in
    let list = c.in_ok-backups.ensures.list in
    let of = subst (IsKeysOf ss backup_current) c.in_ok-backups.ensures.keys c.keys_at.ensures.is in
    let current = c.in_ok-current.current in
    let cluster = c.in_ok-current.ensures.cluster in
    let has = subst (IsKeysOf ss db_name) cluster.2 c.keys_at-2.ensures.is in
    let past = section_of c.in-Some.past.now in
    let at = c.in-Some.ensures.found in
    let few = all_in (λ (s : Section). length s.keys < 2 ^ 32) ss past c.requires.few at.0 in
    let number = c.max-least.ensures ∙ ap (λ (n : ℕ). max n current.id) (c.highest.ensures ∙ ap (λ (bs : List rust.Entry). highest (map entry_of bs)) c.deref.ensures.value) in
    value_sections ss info es list of current cluster.0 cluster.1 has past at.0 at.1 few c.max-least.result number c.in_ok-history.history.items c.in_ok-history.ensures.history c.in_ok-history.ensures.keys c.in_ok-check_names.ensures.names

pub returns-clause-valid : goal.returns-clause-valid
returns-clause-valid c =
    let ss = sections_of c.args.parts.now in
    let info = c.requires.info in
    let es = map entry_of c.in_ok-backups.backups.items in
    let list = c.in_ok-backups.ensures.list in
    let of = subst (IsKeysOf ss backup_current) c.in_ok-backups.ensures.keys c.keys_at.ensures.is in
    let current = c.in_ok-current.current in
    let cluster = c.in_ok-current.ensures.cluster in
    let has = subst (IsKeysOf ss db_name) cluster.2 c.keys_at-2.ensures.is in
    let past = section_of c.in-Some.past.now in
    let at = c.in-Some.ensures.found in
    let few = all_in (λ (s : Section). length s.keys < 2 ^ 32) ss past c.requires.few at.0 in
    let number = c.max-least.ensures ∙ ap (λ (n : ℕ). max n current.id) (c.highest.ensures ∙ ap (λ (bs : List rust.Entry). highest (map entry_of bs)) c.deref.ensures.value) in
    value_rules ss info es list of current cluster.0 cluster.1 has past at.0 at.1 few c.max-least.result number c.in_ok-history.history.items c.in_ok-history.ensures.history c.in_ok-history.ensures.keys c.in_ok-check_names.ensures.names
