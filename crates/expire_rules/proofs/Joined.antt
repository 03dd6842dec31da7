-- Two lists of labels, and what depends on both.
use Rattle.std.proofs.Common.{◌≡◌, ℕ, ◌+◌, ◌<◌, Bool, true, false, List, [], ◌∷◌, ◌++◌, map, length, take, get_or, Result, Ok, Err, refl, ap, ◌∙◌, sym}
use Rattle.std.specs.Prelude.{◌||◌, not, filter, IfOk}
use Rattle.std.proofs.lemmas.List.{map_more}
use Rattle.std.proofs.lemmas.List.Elements.{filter-append, filter_agree}
use Rattle.base_model.specs.declared.labels.Label.{Label}
use Rattle.base_model.specs.declared.labels.Entry as rust_entry
use Rattle.base_model.specs.Values.{Entry, entry_of}
use Rattle.expire_rules.specs.declared.rules.Rules.{Rules}
use Rattle.expire_rules.specs.Labels.{is_label, has_label, labels_of}
use Rattle.expire_rules.specs.Condemned.{with_dependents, is_full, full_gone, diffs_gone, is_condemned, is_condemned_full, condemned_labels}
use Rattle.expire_rules.proofs.Depending.{same_dependents}

-- what holds at Ok, by something stronger
pub if_ok_on : {T E : Type 0} (r : Result T E) (P Q : T → Type 0) → ((x : T) → P x → Q x) → IfOk r P → IfOk r Q
if_ok_on (Ok x) P Q wider h = wider x h
if_ok_on (Err e) P Q wider h = h

or_assoc : (a b c : Bool) → (a || (b || c)) ≡ ((a || b) || c)
or_assoc true b c = refl
or_assoc false b c = refl

has_append : (ls ms : List Label) (l : Label) → has_label (ls ++ ms) l ≡ (has_label ls l || has_label ms l)
has_append [] ms l = refl
has_append (k ∷ ks) ms l = ap (λ (b : Bool). is_label k l || b) (has_append ks ms l) ∙ or_assoc (is_label k l) (has_label ks l) (has_label ms l)

map_append : (xs ys : List Entry) → labels_of (xs ++ ys) ≡ labels_of xs ++ labels_of ys
map_append [] ys = refl
map_append (x ∷ xs) ys = ap (λ (l : List Label). x.label ∷ l) (map_append xs ys)

-- one backup more
pub among_more : (labels : List Label) (es : List rust_entry.Entry) (i : ℕ) (e : rust_entry.Entry) (before after : List Label) → i < length es → e ≡ get_or es i e → before ≡ filter (has_label labels) (labels_of (map entry_of (take i es)))
    → after ≡ before ++ filter (has_label labels) (e.label ∷ []) → after ≡ filter (has_label labels) (labels_of (map entry_of (take (i + 1) es)))
among_more labels es i e before after low is so_far more =
    let p = has_label labels in
    let next : labels_of (map entry_of (take (i + 1) es)) ≡ labels_of (map entry_of (take i es)) ++ e.label ∷ [] =
    ap labels_of (map_more entry_of es i e low) ∙ map_append (map entry_of (take i es)) (entry_of (get_or es i e) ∷ []) ∙ ap (λ (x : rust_entry.Entry). labels_of (map entry_of (take i es)) ++ x.label ∷ []) (sym is) in
    more ∙ ap (λ (l : List Label). l ++ filter p (e.label ∷ [])) so_far ∙ sym (filter-append p (labels_of (map entry_of (take i es))) (e.label ∷ [])) ∙ ap (filter p) (sym next)

-- the labels that expire, from those that the rules name
module _ (rules : Rules) (moment : ℕ) (es : List Entry) (known full diffs both gone : List Label) (known_fact_is : known ≡ labels_of (full_gone rules.full moment (filter is_full es)))
    (full_is : (l : Label) → has_label full l ≡ with_dependents (has_label known) es l) (diffs_are : diffs ≡ labels_of (diffs_gone rules.diff (filter (λ e. not (has_label full e.label)) es)))
    (both_are : both ≡ full ++ diffs) (gone_are : (l : Label) → has_label gone l ≡ with_dependents (has_label both) es l) where
  full_so : (l : Label) → has_label full l ≡ is_condemned_full rules moment es l
  full_so l = full_is l ∙ ap (λ (ls : List Label). with_dependents (has_label ls) es l) known_fact_is

  diffs_so : diffs ≡ labels_of (diffs_gone rules.diff (filter (λ e. not (is_condemned_full rules moment es e.label)) es))
  diffs_so = diffs_are ∙ ap (λ (xs : List Entry). labels_of (diffs_gone rules.diff xs)) (filter_agree (λ (e : Entry). not (has_label full e.label)) (λ (e : Entry). not (is_condemned_full rules moment es e.label)) (λ e. ap not (full_so e.label)) es)

  both_so : (l : Label) → has_label both l ≡ (is_condemned_full rules moment es l || has_label (labels_of (diffs_gone rules.diff (filter (λ e. not (is_condemned_full rules moment es e.label)) es))) l)
  both_so l = ap (λ (ls : List Label). has_label ls l) both_are ∙ has_append full diffs l ∙ ap (λ (b : Bool). b || has_label diffs l) (full_so l) ∙ ap (λ (ls : List Label). is_condemned_full rules moment es l || has_label ls l) diffs_so

  gone_so : (l : Label) → has_label gone l ≡ is_condemned rules moment es l
  gone_so l = gone_are l ∙ same_dependents es (has_label both) (λ l. is_condemned_full rules moment es l || has_label (labels_of (diffs_gone rules.diff (filter (λ e. not (is_condemned_full rules moment es e.label)) es))) l) both_so l

  pub condemned_are : filter (has_label gone) (labels_of es) ≡ condemned_labels rules moment es
  condemned_are = filter_agree (has_label gone) (is_condemned rules moment es) gone_so (labels_of es)
