-- Labels that are one, and lists that have them.
use Rattle.std.proofs.Common.{◌≡◌, ◌≢◌, ⊎_elim, inl, inr, true, false, List, [], ◌∷◌, Option, Some, None, refl, ap, ◌∙◌, sym}
use Rattle.std.specs.Prelude.{nat_eq}
use Rattle.std.proofs.lemmas.Bool.{eqb-true, eq-eqb, and_parts, and_from, or_cases, or_left, or_right, false≢true, false_from_ne_true}
use Rattle.base_model.specs.declared.labels.BackupKind.{BackupKind}
use Rattle.base_model.specs.declared.labels.BackupKind.TheVariants.{Full, Diff, Incr}
use Rattle.base_model.specs.declared.labels.Later.{Later}
use Rattle.base_model.specs.declared.labels.Label.{Label}
use Rattle.base_model.specs.Text.{In}
use Rattle.expire_rules.specs.Labels.{is_kind, is_later, is_label, has_label}

kind_refl : (k : BackupKind) → is_kind k k ≡ true
kind_refl Full = refl
kind_refl Diff = refl
kind_refl Incr = refl

kind_same : (a b : BackupKind) → is_kind a b ≡ true → a ≡ b
kind_same Full Full e = refl
kind_same Full Diff e = cc
kind_same Full Incr e = cc
kind_same Diff Full e = cc
kind_same Diff Diff e = refl
kind_same Diff Incr e = cc
kind_same Incr Full e = cc
kind_same Incr Diff e = cc
kind_same Incr Incr e = refl

later_refl : (o : Option Later) → is_later o o ≡ true
later_refl None = refl
later_refl (Some l) = and_from (nat_eq l.time l.time) (is_kind l.kind l.kind) (eq-eqb l.time l.time refl) (kind_refl l.kind)

later_same : (o p : Option Later) → is_later o p ≡ true → o ≡ p
later_same None None e = refl
later_same None (Some p) e = cc
later_same (Some o) None e = cc
later_same (Some o) (Some p) e =
    let both = and_parts (nat_eq o.time p.time) (is_kind o.kind p.kind) e in
    let time = eqb-true o.time p.time both.0 in
    let kind = kind_same o.kind p.kind both.1 in
    let parts : ◌≡◌ {A = Later} (record { time = o.time; kind = o.kind }) (record { time = p.time; kind = p.kind }) = rw (time, kind) refl in
    ap (λ (l : Later). Some l) parts

pub label_refl : (l : Label) → is_label l l ≡ true
label_refl l = and_from (nat_eq l.full l.full) (is_later l.later l.later) (eq-eqb l.full l.full refl) (later_refl l.later)

pub label_same : (l m : Label) → is_label l m ≡ true → l ≡ m
label_same l m e =
    let both = and_parts (nat_eq l.full m.full) (is_later l.later m.later) e in
    let full = eqb-true l.full m.full both.0 in
    let later = later_same l.later m.later both.1 in
    let parts : ◌≡◌ {A = Label} (record { full = l.full; later = l.later }) (record { full = m.full; later = m.later }) = rw (full, later) refl in
    parts

pub label_apart : (l m : Label) → l ≢ m → is_label l m ≡ false
label_apart l m off = false_from_ne_true (is_label l m) (λ e. off (label_same l m e))

pub has_in : (ls : List Label) (l : Label) → has_label ls l ≡ true → In l ls
has_in [] l e = absurd (false≢true e)
has_in (k ∷ ks) l e = ⊎_elim (λ (same : is_label k l ≡ true). inl (sym (label_same k l same))) (λ (more : has_label ks l ≡ true). inr (has_in ks l more)) (or_cases (is_label k l) (has_label ks l) e)

pub in_has : (ls : List Label) (l : Label) → In l ls → has_label ls l ≡ true
in_has [] l i = absurd i
in_has (k ∷ ks) l (inl e) = or_left (is_label k l) (has_label ks l) (ap (λ (x : Label). is_label x l) (sym e) ∙ label_refl l)
in_has (k ∷ ks) l (inr i) = or_right (is_label k l) (has_label ks l) (in_has ks l i)
