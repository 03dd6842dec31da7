-- What expires, by ancestors: a backup expires exactly where a rule requires it to, or requires one of its ancestors
-- to.
use Rattle.std.specs.Prelude.{◌≡◌, ◌≢◌, ◌⊎◌, ◌↔◌, ℕ, Bool, true, not, ◌||◌, List, [], ◌∷◌, map, filter, Some}
use Rattle.base_model.specs.declared.labels.Label.{Label}
use Rattle.base_model.specs.Text.{In}
use Rattle.base_model.specs.Values.{Entry}
use Rattle.base_model.specs.Repository.{Backup}
use Rattle.base_model.specs.Represents.{IsAncestor}
use Rattle.expire_rules.specs.declared.rules.Rules.{Rules}
use Rattle.expire_rules.specs.Labels.{has_label, labels_of}
use Rattle.expire_rules.specs.Condemned.{is_full, full_gone, diffs_gone, is_condemned_full}

-- the backups as `backup.info` lists them
abbrev pub listed_in : List Backup → List Entry
listed_in backups = map (λ b. b.entry) backups

-- Each label is there once, and no prior is the label of the backup itself or of one after it.
abbrev pub AreInLine : List Entry → Type 0
AreInLine [] = Unit {0}
AreInLine (e ∷ es) = ((x : Entry) → In x es → x.label ≢ e.label)
    × ((l : Label) → e.prior ≡ Some l → (e.label ≢ l) × ((x : Entry) → In x es → x.label ≢ l)) × AreInLine es

-- one of the two rules counts the label's backup among those that expire
abbrev pub is_known_fact : Rules → ℕ → List Entry → Label → Bool
is_known_fact rules now es l = has_label (labels_of (full_gone rules.full now (filter is_full es))) l
    || has_label (labels_of (diffs_gone rules.diff (filter (λ e. not (is_condemned_full rules now es e.label)) es))) l

-- a label that has to expire is an ancestor of a backup of this label
abbrev pub HasKnown : List Backup → (Label → Bool) → Label → Type 0
HasKnown backups known l = (b : Backup) × In b backups × (b.entry.label ≡ l)
    × ((a : Label) × (known a ≡ true) × IsAncestor backups a b)

-- these labels are those of the listed backups that are to expire, or have an ancestor that is
abbrev pub Descends : Rules → ℕ → List Backup → List Label → Type 0
Descends rules now backups labels = (l : Label) →
    In l labels ↔ (In l (labels_of (listed_in backups))
    × ((is_known_fact rules now (listed_in backups) l ≡ true)
    ⊎ HasKnown backups (is_known_fact rules now (listed_in backups)) l))

-- the same for whichever backups are listed so
abbrev pub DescendWhereListed : Rules → ℕ → List Entry → List Label → Type 0
DescendWhereListed rules now es labels = (backups : List Backup) → listed_in backups ≡ es
    → AreInLine (listed_in backups) → Descends rules now backups labels
