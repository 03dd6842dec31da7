-- A backup expires exactly where a rule names it, or one of its ancestors.
use Rattle.std.proofs.Common.{◌≡◌, ◌⊎◌, ⊎_elim, inl, inr, Bool, true, false, List, [], ◌∷◌, ℕ, Option, Some, None, refl, ap, ◌∙◌, sym, subst}
use Rattle.std.specs.Prelude.{◌&&◌, ◌||◌, not, filter}
use Rattle.std.specs.Option.{option_map_or}
use Rattle.std.proofs.lemmas.Bool.{or_cases, or_left, or_right, and_parts, false≢true}
use Rattle.base_model.specs.declared.labels.Label.{Label}
use Rattle.base_model.specs.Text.{In}
use Rattle.base_model.specs.Repository.{Backup}
use Rattle.base_model.specs.Represents.{IsAncestor, Prior, Earlier}
use Rattle.expire_rules.specs.declared.rules.Rules.{Rules}
use Rattle.expire_rules.specs.Labels.{is_label, has_label, labels_of}
use Rattle.expire_rules.specs.Condemned.{with_dependents, is_full, full_gone, diffs_gone, is_condemned_full, is_condemned, condemned_labels}
use Rattle.expire_rules.specs.Descent.{AreInLine, listed_in, HasKnown, is_known_fact, Descends}
use Rattle.expire_rules.proofs.Lists.{in_filter, filter_in}
use Rattle.repo_keys.proofs.Numbers.{in_map}
use Rattle.expire_rules.proofs.LabelTests.{label_same}
use Rattle.expire_rules.proofs.Closed.{grows, closed}

-- the prior of an ancestor is an ancestor
farther : (backups : List Backup) (x : Backup) (p : Label) → In x backups → x.entry.prior ≡ Some p → (l : Label) (b : Backup) → IsAncestor backups l b → l ≡ x.entry.label → IsAncestor backups p b
farther backups x p at prior l b (Prior c m is) same = Earlier c x p at (is ∙ ap (λ (k : Label). Some k) same) (Prior x p prior)
farther backups x p at prior l b (Earlier c d m in_d is more) same = Earlier c d p in_d is (farther backups x p at prior m d more same)

prior_known : (known : Label → Bool) (o : Option Label) → option_map_or known o false ≡ true → (p : Label) × (o ≡ Some p) × (known p ≡ true)
prior_known known None e = absurd (false≢true e)
prior_known known (Some p) e = (p, refl, e)

module _ (backups : List Backup) where
  -- by the backups from some on
  line_of : (bs : List Backup) → ((b : Backup) → In b bs → In b backups) → (known : Label → Bool) (l : Label) → with_dependents known (listed_in bs) l ≡ true → (known l ≡ true) ⊎ HasKnown backups known l
  line_of [] of_it known l h = inl h
  line_of (x ∷ bs) of_it known l h = ⊎_elim first rest (line_of bs (λ b i. of_it b (inr i)) (λ k. known k || (is_label x.entry.label k && option_map_or known x.entry.prior false)) l h)
    where
      by_x : (k : Label) → (known k || (is_label x.entry.label k && option_map_or known x.entry.prior false)) ≡ true → (known k ≡ true) ⊎ ((x.entry.label ≡ k) × ((p : Label) × (x.entry.prior ≡ Some p) × (known p ≡ true)))
      by_x k e = ⊎_elim (λ t. inl t) (λ t. let parts = and_parts (is_label x.entry.label k) (option_map_or known x.entry.prior false) t in inr (label_same x.entry.label k parts.0, prior_known known x.entry.prior parts.1)) (or_cases (known k) (is_label x.entry.label k && option_map_or known x.entry.prior false) e)

      first : (known l || (is_label x.entry.label l && option_map_or known x.entry.prior false)) ≡ true → (known l ≡ true) ⊎ HasKnown backups known l
      first e = ⊎_elim (λ t. inl t) (λ (t : (x.entry.label ≡ l) × ((p : Label) × (x.entry.prior ≡ Some p) × (known p ≡ true))). inr (x, of_it x (inl refl), t.0, (t.1.0, t.1.2, Prior x t.1.0 t.1.1))) (by_x l e)

      rest : HasKnown backups (λ k. known k || (is_label x.entry.label k && option_map_or known x.entry.prior false)) l → (known l ≡ true) ⊎ HasKnown backups known l
      rest h =
          let (b, at, same, (a, e, line)) = h in
          ⊎_elim (λ t. inr (b, at, same, (a, t, line)))
          (λ (t : (x.entry.label ≡ a) × ((p : Label) × (x.entry.prior ≡ Some p) × (known p ≡ true))). inr (b, at, same, (t.1.0, t.1.2, farther backups x t.1.0 (of_it x (inl refl)) t.1.1 a b line (sym t.0))))
          (by_x a e)

  module _ (proper : AreInLine (listed_in backups)) (known : Label → Bool) where
    below : (a : Label) (b : Backup) → IsAncestor backups a b → In b backups → with_dependents known (listed_in backups) a ≡ true → with_dependents known (listed_in backups) b.entry.label ≡ true
    below a b (Prior c m is) at h = closed (listed_in backups) known proper c.entry (in_map (λ (x : Backup). x.entry) backups c at) m is h
    below a b (Earlier c d m in_d is more) at h = closed (listed_in backups) known proper c.entry (in_map (λ (x : Backup). x.entry) backups c at) d.entry.label is (below m d more in_d h)

    -- what depends on the named labels, by prior
    pub lines : (l : Label) → (with_dependents known (listed_in backups) l ≡ true → (known l ≡ true) ⊎ HasKnown backups known l) × ((known l ≡ true) ⊎ HasKnown backups known l → with_dependents known (listed_in backups) l ≡ true)
    lines l = (
      line_of backups (λ b i. i) known l,
      λ h. ⊎_elim (λ t. grows (listed_in backups) known l t)
          (λ (x : HasKnown backups known l). let (b, at, same, (a, t, line)) = x in subst (λ (k : Label). with_dependents known (listed_in backups) k ≡ true) same (below a b line at (grows (listed_in backups) known a t))) h,
    )

-- an ancestor of an ancestor is one
beyond : (backups : List Backup) (x : Backup) (a : Label) → In x backups → IsAncestor backups a x → (l : Label) (b : Backup) → IsAncestor backups l b → l ≡ x.entry.label → IsAncestor backups a b
beyond backups x a at anc l b (Prior c m is) same = Earlier c x a at (is ∙ ap (λ (k : Label). Some k) same) anc
beyond backups x a at anc l b (Earlier c d m in_d is more) same = Earlier c d a in_d is (beyond backups x a at anc m d more same)

module _ (rules : Rules) (now : ℕ) (backups : List Backup) (proper : AreInLine (listed_in backups)) where
  abbrev by_full : Label → Bool
  by_full = has_label (labels_of (full_gone rules.full now (filter is_full (listed_in backups))))

  abbrev by_diff : Label → Bool
  by_diff = has_label (labels_of (diffs_gone rules.diff (filter (λ e. not (is_condemned_full rules now (listed_in backups) e.label)) (listed_in backups))))

  abbrev known : Label → Bool
  known = is_known_fact rules now (listed_in backups)

  -- the labels whose dependents expire in the second round
  abbrev second : Label → Bool
  second l = is_condemned_full rules now (listed_in backups) l || by_diff l

  wider : (l : Label) → known l ≡ true → second l ≡ true
  wider l h = ⊎_elim (λ (f : by_full l ≡ true). or_left (is_condemned_full rules now (listed_in backups) l) (by_diff l) (grows (listed_in backups) by_full l f))
      (λ (d : by_diff l ≡ true). or_right (is_condemned_full rules now (listed_in backups) l) (by_diff l) d) (or_cases (by_full l) (by_diff l) h)

  -- what expires in the second round is named, or has a named ancestor
  narrower : (l : Label) → second l ≡ true → (known l ≡ true) ⊎ HasKnown backups known l
  narrower l h = ⊎_elim first (λ (d : by_diff l ≡ true). inl (or_right (by_full l) (by_diff l) d)) (or_cases (is_condemned_full rules now (listed_in backups) l) (by_diff l) h)
    where
      first : is_condemned_full rules now (listed_in backups) l ≡ true → (known l ≡ true) ⊎ HasKnown backups known l
      first f = ⊎_elim (λ (t : by_full l ≡ true). inl (or_left (by_full l) (by_diff l) t))
          (λ (x : HasKnown backups by_full l). let (b, at, same, (a, t, line)) = x in inr (b, at, same, (a, or_left (by_full a) (by_diff a) t, line)))
          ((lines backups proper by_full l).0 f)

  goes : (l : Label) → is_condemned rules now (listed_in backups) l ≡ true → (known l ≡ true) ⊎ HasKnown backups known l
  goes l h = ⊎_elim (λ t. narrower l t) line ((lines backups proper second l).0 h)
    where
      line : HasKnown backups second l → (known l ≡ true) ⊎ HasKnown backups known l
      line x =
          let (b, at, same, (a, t, way)) = x in
          ⊎_elim (λ h. inr (b, at, same, (a, h, way)))
          (λ (y : HasKnown backups known a). let (c, in_c, is, (k, h, on)) = y in inr (b, at, same, (k, h, beyond backups c k in_c on a b way (sym is))))
          (narrower a t)

  back : (l : Label) → (known l ≡ true) ⊎ HasKnown backups known l → is_condemned rules now (listed_in backups) l ≡ true
  back l h = (lines backups proper second l).1 (⊎_elim (λ t. inl (wider l t)) (λ (x : HasKnown backups known l). let (b, at, same, (a, t, line)) = x in inr (b, at, same, (a, wider a t, line))) h)

  -- a listed label expires exactly where it is named, or an ancestor of its backup is
  pub descends : (labels : List Label) → labels ≡ condemned_labels rules now (listed_in backups) → Descends rules now backups labels
  descends labels are l = (
    λ i. let found = in_filter (is_condemned rules now (listed_in backups)) l (labels_of (listed_in backups)) (subst (λ ls. In l ls) are i) in (found.0, goes l found.1),
    λ h. subst (λ ls. In l ls) (sym are) (filter_in (is_condemned rules now (listed_in backups)) l (labels_of (listed_in backups)) h.0 (back l h.1)),
  )
