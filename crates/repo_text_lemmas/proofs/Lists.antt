-- A text of `backup.info` is of one value.
use Rattle.std.proofs.Common.{◌≡◌, List, [], ◌∷◌, ◌++◌, length, refl, sym, ap, ◌∙◌}
use Rattle.base_model.specs.declared.clusters.Cluster.{Cluster}
use Rattle.base_model.specs.Text.{Text}
use Rattle.base_model.specs.InfoText.{Section}
use Rattle.base_model.specs.Fields.{Field}
use Rattle.base_model.specs.InfoFiles.{cluster_fields, backup_sections, IsBackupInfo, IsBackupText}
use Rattle.base_model.specs.Values.{BackupInfo, Entry}
use Rattle.repo_ini.proofs.OneText.{one_sections}
use Rattle.repo_info.proofs.BackupRules.{listed, db, history, backup_is_info}
use Rattle.repo_info.proofs.BackupForms.{shape}
use Rattle.repo_info.proofs.ClusterFields.{same_cluster}
use Rattle.repo_stanza.proofs.OneBackup.{same_value}
use Rattle.repo_text_lemmas.proofs.Entries.{same_entries}

-- the keys of the last section but one
abbrev keys_before_last : List Section → List Field
keys_before_last [] = []
keys_before_last (s ∷ []) = []
keys_before_last (s ∷ t ∷ []) = s.keys
keys_before_last (s ∷ t ∷ u ∷ us) = keys_before_last (t ∷ u ∷ us)

current_keys : (es : List Entry) (d h : Section) → keys_before_last (listed es ++ d ∷ h ∷ []) ≡ d.keys
current_keys [] d h = refl
current_keys (e ∷ es) d h = refl

-- the section `db` states the number of the current cluster
same_current : (v w : BackupInfo) → IsBackupInfo v → IsBackupInfo w → backup_sections v ≡ backup_sections w → v.current ≡ w.current
same_current v w h g same =
    let s = shape v h in
    let t = shape w g in
    let keys : cluster_fields s.current ≡ cluster_fields t.current = sym (current_keys v.backups (db s.current) (history v.history)) ∙ ap keys_before_last (sym s.are ∙ same ∙ t.are) ∙ current_keys w.backups (db t.current) (history w.history) in
    sym s.numbered ∙ ap (λ (c : Cluster). c.id) (same_cluster s.current t.current s.rules t.rules keys) ∙ t.numbered

pub one_list : (v w : BackupInfo) (t : Text) → IsBackupText v t → IsBackupText w t → v ≡ w
one_list v w t h g =
    let same = sym h.spelled ∙ g.spelled in
    let agree = same_value v w h.rules g.rules same in
    let current = same_current v w h.rules g.rules (one_sections (backup_sections v) (backup_sections w) (backup_is_info v h.rules) (backup_is_info w g.rules) same) in
    let backups = same_entries (length v.history) (length w.history) [] [] v.backups w.backups h.rules.backups g.rules.backups agree.entries in
    let history = agree.history in
    let parts : ◌≡◌ {A = BackupInfo} (record { current = v.current; history = v.history; backups = v.backups }) (record { current = w.current; history = w.history; backups = w.backups }) = rw (current, history, backups) refl in
    parts
