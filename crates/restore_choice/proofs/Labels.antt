-- The labels of the listed backups.
use Rattle.std.proofs.Common.{◌≡◌, ◌≢◌, inl, inr, ℕ, List, [], ◌∷◌, ◌++◌, length, map, refl, sym, ap, ◌∙◌, subst, arith}
use Rattle.base_model.specs.declared.labels.Entry as rust_entry
use Rattle.base_model.specs.declared.labels.Label.{Label}
use Rattle.base_model.specs.declared.clusters.BackupInfo as rust_info
use Rattle.base_model.specs.InfoFiles.{AreListed, IsBackupInfo, IsLabel}
use Rattle.base_model.specs.Text.{In}
use Rattle.base_model.specs.Values.{Entry, entry_of, backup_info_of}
use Rattle.restore_choice.specs.Judging.{HaveLabels}

-- each listed label keeps the rules of labels
listed_label : (n : ℕ) (earlier es : List Entry) → AreListed n earlier es → (e : Entry) → In e es → IsLabel e.label
listed_label n earlier [] h e i = absurd i
listed_label n earlier (x ∷ es) h e (inl is) = subst (λ (y : Entry). IsLabel y.label) (sym is) h.0.label
listed_label n earlier (x ∷ es) h e (inr i) = listed_label n (earlier ++ x ∷ []) es h.1 e i

pub have_labels : (v : rust_info.BackupInfo) → IsBackupInfo (backup_info_of v) → (backups : List rust_entry.Entry) → backups ≡ v.backups.items → HaveLabels backups
have_labels v rules backups is e i =
    listed_label (length v.history.items) [] (map entry_of v.backups.items) rules.backups e (subst (λ (es : List rust_entry.Entry). In e (map entry_of es)) is i)

-- a list with elements isn't empty
pub some_listed : {X Y : Type 0} (g : X → Y) (xs : List X) → length xs ≢ 0 → map g xs ≢ []
some_listed g [] some = absurd (some refl)
some_listed g (x ∷ xs) some = λ e. cc

pub none_listed : {X Y : Type 0} (g : X → Y) (xs : List X) → length xs ≡ 0 → map g xs ≡ []
none_listed g [] none = refl
none_listed g (x ∷ xs) none = absurd (omega (arith, none))
