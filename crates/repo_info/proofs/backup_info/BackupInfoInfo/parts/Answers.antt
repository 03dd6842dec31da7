use Rattle.std.proofs.Common.{◌≡◌, ◌-◌, ◌<◌, ℕ, List, [], ◌∷◌, ◌++◌, map, length, Some, refl, sym, ap, ◌∙◌, subst, arith}
use Rattle.std.specs.List.{AllByRecursion}
use Rattle.std.proofs.lemmas.Option.{slice_get_read}
use Rattle.base_model.specs.declared.labels.Entry as rust
use Rattle.base_model.specs.Fields.{at_number}
use Rattle.base_model.specs.InfoFiles.{AreListed}
use Rattle.base_model.specs.Values.{Entry, entry_of, backup_info_of}
use Rattle.repo_info.specs.Entries.{HasLabels}
use Rattle.repo_info.proofs.BackupRules.{listed, db, history, backup_sections_are}
use Rattle.repo_info.proofs.EntryRules.{HasLabels-listed}
use Rattle.repo_info.proofs.PartLists.{two_more}
use Rattle.repo_info.proofs.backup_info.BackupInfoInfo.parts.Goals as goal

have_labels : (clusters : ℕ) (earlier : List Entry) (es : List rust.Entry) → AreListed clusters earlier (map entry_of es) → AllByRecursion (λ e. HasLabels (entry_of e)) es
have_labels clusters earlier [] h = tt
have_labels clusters earlier (e ∷ es) h = (HasLabels-listed clusters earlier (entry_of e) h.0, have_labels clusters (earlier ++ entry_of e ∷ []) es h.1)

pub listed_parts-requires : goal.listed_parts-requires
listed_parts-requires c =
    let v = c.args.self.now in
    subst (AllByRecursion (λ e. HasLabels (entry_of e))) (sym c.deref.ensures.value) (have_labels (length v.history.items) [] v.backups.items c.requires.backups)

pub returns-clause-sections : goal.returns-clause-sections
returns-clause-sections c =
    let v = c.args.self.now in
    let clusters = v.history.items in
    let current = c.index-current.result.now in
    let at : at_number v.current clusters ≡ Some current = slice_get_read clusters (length clusters) (v.current - 1) current refl (omega arith) c.index-current.ensures in
    let kept : 0 < length clusters = omega arith in
    let entries = ap (λ es. listed (map entry_of es)) c.deref.ensures.value in
    two_more c.in_ok-parts.parts.items _ _ _ _ (listed (map entry_of v.backups.items)) (db current) (history clusters) (c.in_ok-parts.ensures ∙ entries) c.in_ok-push.ensures.items c.in_ok-push-2.ensures.items c.in_ok-cluster_part.ensures (c.in_ok-history_part.ensures ∙ ap history c.deref-2.ensures.value)
    ∙ sym (backup_sections_are (backup_info_of v) current kept at)
