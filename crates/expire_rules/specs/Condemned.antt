-- Which backups an expiry removes (pgBackRest configuration reference, "repo-retention-full",
-- "repo-retention-full-type" and "repo-retention-diff").
use Rattle.std.specs.Prelude.{◌≡◌, ℕ, ◌+◌, ◌-◌, ◌*◌, nat_le, Bool, false, not, ◌&&◌, ◌||◌, List, [], ◌∷◌, length, take, filter, Option, Some, None, if◌then◌else◌}
use Rattle.std.specs.Option.{option_map_or}
use Rattle.base_model.specs.declared.labels.BackupKind.TheVariants.{Full, Diff}
use Rattle.base_model.specs.declared.labels.Label.{Label}
use Rattle.base_model.specs.Values.{Entry}
use Rattle.expire_rules.specs.declared.rules.FullRule.{FullRule}
use Rattle.expire_rules.specs.declared.rules.FullRule.TheVariants.{Unset, Count, Days}
use Rattle.expire_rules.specs.declared.rules.Rules.{Rules}
use Rattle.expire_rules.specs.Labels.{is_kind, is_label, has_label, labels_of}

-- whether the backup is full, and whether it is differential
abbrev pub is_full : Entry → Bool
is_full e = is_kind e.kind Full

abbrev pub is_diff : Entry → Bool
is_diff e = is_kind e.kind Diff

-- a full or a differential backup
abbrev pub is_counted : Entry → Bool
is_counted e = is_full e || is_diff e

-- all but the last n
abbrev pub all_but_last : {X : Type 0} → ℕ → List X → List X
all_but_last n xs = take (length xs - n) xs

abbrev pub has_some : {X : Type 0} → (X → Bool) → List X → Bool
has_some passes [] = false
has_some passes (x ∷ xs) = passes x || has_some passes xs

-- those that come before the last that passes
abbrev pub before_last : {X : Type 0} → (X → Bool) → List X → List X
before_last passes [] = []
before_last passes (x ∷ xs) = if has_some passes xs then x ∷ before_last passes xs else []

-- a backup that ended at least this number of days ago
abbrev pub is_old : ℕ → ℕ → Entry → Bool
is_old now days e = nat_le (e.stop + days * 86400) now

-- the full backups that the rule expires: all but the last n; or all before the last old one
abbrev pub full_gone : FullRule → ℕ → List Entry → List Entry
full_gone Unset now fulls = []
full_gone (Count n) now fulls = all_but_last n fulls
full_gone (Days d) now fulls = before_last (is_old now d) fulls

-- the labels of the full backups
abbrev pub labels_of_full : List Entry → List Label
labels_of_full es = labels_of (filter is_full es)

-- the labels of those that the rule expires
abbrev pub full_labels_gone : FullRule → ℕ → List Entry → List Label
full_labels_gone rule now es = labels_of (full_gone rule now (filter is_full es))

-- the differentials that aren't among the last n full and differential backups
abbrev pub diffs_gone : Option ℕ → List Entry → List Entry
diffs_gone None es = []
diffs_gone (Some n) es = filter is_diff (all_but_last n (filter is_counted es))

-- their labels
abbrev pub diff_labels_gone : Option ℕ → List Entry → List Label
diff_labels_gone rule es = labels_of (diffs_gone rule es)

-- the backups of other labels than these
abbrev pub without_labels : List Label → List Entry → List Entry
without_labels labels es = filter (λ e. not (has_label labels e.label)) es

-- these labels, and those of all backups that depend on them by prior: a prior comes before
abbrev pub with_dependents : (Label → Bool) → List Entry → Label → Bool
with_dependents goes [] l = goes l
with_dependents goes (e ∷ es) l = with_dependents
    (λ k. goes k || (is_label e.label k && option_map_or goes e.prior false)) es l

-- the labels are those that were known, and those of all backups that depend on them
abbrev pub AreWithDependents : List Label → List Entry → List Label → Type 0
AreWithDependents known es labels = (l : Label) → has_label labels l ≡ with_dependents (has_label known) es l

-- a backup's label was added, where its prior was among the labels
abbrev pub AddsDependent : Label → Option Label → List Label → List Label → Type 0
AddsDependent label prior old new = (l : Label) → has_label new l
    ≡ (has_label old l || (is_label label l && option_map_or (has_label old) prior false))

-- by the rule on full backups
abbrev pub is_condemned_full : Rules → ℕ → List Entry → Label → Bool
is_condemned_full rules now es = with_dependents (has_label (labels_of (full_gone rules.full now (filter is_full es))))
    es

-- by that, or by the rule on differentials among what is then left
abbrev pub is_condemned : Rules → ℕ → List Entry → Label → Bool
is_condemned rules now es =
    let full = is_condemned_full rules now es in
    with_dependents (λ l. full l || has_label (labels_of (diffs_gone rules.diff (filter (λ e. not (full e.label)) es)))
    l) es

abbrev pub condemned_labels : Rules → ℕ → List Entry → List Label
condemned_labels rules now es = filter (is_condemned rules now es) (labels_of es)
