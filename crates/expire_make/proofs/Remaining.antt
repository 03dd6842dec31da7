-- What is left of a value of `backup.info` keeps the rules, and its text the limit.
use Rattle.std.proofs.Common.{◌≡◌, ◌≤◌, ℕ, Bool, true, false, not, cond, List, [], ◌∷◌, ◌++◌, length, ap, ◌∙◌, sym, subst, arith}
use Rattle.std.specs.Prelude.{filter}
use Rattle.std.specs.List.{AllByRecursion}
use Rattle.std.proofs.lemmas.Bool.{not-true, false_from_ne_true, false≢true}
use Rattle.base_model.specs.declared.labels.Label.{Label}
use Rattle.base_model.specs.InfoFiles.{AreListed, IsBackupInfo, IsLabel, info_limit}
use Rattle.base_model.specs.Values.{BackupInfo, Entry}
use Rattle.expire_rules.specs.declared.rules.Rules.{Rules}
use Rattle.expire_rules.specs.Labels.{labels_of}
use Rattle.expire_rules.specs.Condemned.{is_condemned, condemned_labels}
use Rattle.expire_make.specs.Planning.{left_of, list_text}
use Rattle.expire_rules.proofs.Closed.{condemned_closed}
use Rattle.expire_make.proofs.Proper.{proper}
use Rattle.expire_make.proofs.Shorter.{PriorsStay, rules_left, shorter_text}

module _ (rules : Rules) (moment : ℕ) (v : BackupInfo) (is : IsBackupInfo v) where
  stays : PriorsStay (λ e. not (is_condemned rules moment v.backups e.label)) v.backups
  stays e at pass l prior x same =
      ap not (ap (is_condemned rules moment v.backups) same ∙ false_from_ne_true (is_condemned rules moment v.backups l) (λ on.
      false≢true (sym (not-true (is_condemned rules moment v.backups e.label) pass) ∙ condemned_closed rules moment v.backups (proper v is) e at l prior on)))

  pub left_rules : IsBackupInfo (left_of rules moment v)
  left_rules = rules_left (λ e. not (is_condemned rules moment v.backups e.label)) v is stays

  pub left_fits : length (list_text v) ≤ info_limit → length (list_text (left_of rules moment v)) ≤ info_limit
  unfolding list_text
  left_fits h = let short = shorter_text (λ e. not (is_condemned rules moment v.backups e.label)) v is in omega (arith, short, h)

  pub left_rules_as : (w : BackupInfo) → w ≡ left_of rules moment v → IsBackupInfo w
  left_rules_as w e = subst IsBackupInfo (sym e) left_rules

  pub left_fits_as : (w : BackupInfo) → w ≡ left_of rules moment v → length (list_text v) ≤ info_limit → length (list_text w) ≤ info_limit
  left_fits_as w e h = subst (λ (x : BackupInfo). length (list_text x) ≤ info_limit) (sym e) (left_fits h)

-- ---- the labels that expire

listed_labels : (n : ℕ) (earlier es : List Entry) → AreListed n earlier es → AllByRecursion IsLabel (labels_of es)
listed_labels n earlier [] h = tt
listed_labels n earlier (e ∷ es) h = (h.0.label, listed_labels n (earlier ++ e ∷ []) es h.1)

some_labels : (p : Label → Bool) (ls : List Label) → AllByRecursion IsLabel ls → AllByRecursion IsLabel (filter p ls)
some_labels p [] h = tt
some_labels p (l ∷ ls) h = by (some_labels p ls h.1) (p l)
  where
    by : AllByRecursion IsLabel (filter p ls) → (b : Bool) → AllByRecursion IsLabel (cond b (l ∷ filter p ls) (filter p ls))
    by rest true = (h.0, rest)
    by rest false = rest

pub gone_labels : (rules : Rules) (moment : ℕ) (v : BackupInfo) → IsBackupInfo v → (labels : List Label) → labels ≡ condemned_labels rules moment v.backups → AllByRecursion IsLabel labels
gone_labels rules moment v is labels e = subst (AllByRecursion IsLabel) (sym e)
    (some_labels (is_condemned rules moment v.backups) (labels_of v.backups) (listed_labels (length v.history) [] v.backups is.backups))
