-- Labels that are referred to.
use Rattle.std.proofs.Common.{◌≡◌, ◌↔◌, ◌⊎◌, ⊎_elim, inl, inr, ℕ, ◌+◌, ◌<◌, List, [], ◌∷◌, ◌++◌, length, take, get_or, map, Option, Some, None, refl, sym, ap, ◌∙◌, subst}
use Rattle.std.proofs.lemmas.List.{take_more, map-append}
use Rattle.base_model.specs.declared.labels.Label.{Label}
use Rattle.base_model.specs.Text.{Text, In}
use Rattle.base_model.specs.Values.{FileEntry}
use Rattle.base_model.proofs.Pushed.{in_left, in_either}
use Rattle.cmd_verify.specs.declared.findings.finding.Finding.{Finding}
use Rattle.cmd_verify.specs.What.{What, Shows, MemberAbsent, MemberBad, MembersDiffer, Absent, Short, Digest, Second, Gap, Reference, Unlike, Contradicts}
use Rattle.cmd_verify.specs.Adding.{Adds, OfSome}
use Rattle.cmd_verify.specs.References.{RefersTo, IsUnlisted, AreUnlisted}
use Rattle.cmd_verify.proofs.Adding.{in_right, adds_one, adds_none, adds_as, adds_next}

pub one_more : (old new : List Label) (x l : Label) → new ≡ old ++ x ∷ [] → In l new ↔ (In l old ⊎ (l ≡ x))
one_more old new x l grown = (λ at. in_either l x old (subst (λ (ys : List Label). In l ys) grown at), λ h. subst (λ (ys : List Label). In l ys) (sym grown) (⊎_elim (in_left l old (x ∷ [])) (λ e. in_right l old (x ∷ []) (inl e)) h))

pub there_already : (old : List Label) (x l : Label) → In x old → In l old ↔ (In l old ⊎ (l ≡ x))
there_already old x l at = (λ h. inl h, λ h. ⊎_elim (λ k. k) (λ e. subst (λ (y : Label). In y old) (sym e) at) h)

same_some : (a b : Label) → ◌≡◌ {A = Option Label} (Some a) (Some b) → b ≡ a
same_some a b e = cc e

pub by_reference : (r : Option Label) (label : Label) → r ≡ Some label → (old new : List Label) (l : Label) → In l new ↔ (In l old ⊎ (l ≡ label)) → In l new ↔ (In l old ⊎ (r ≡ Some l))
by_reference r label is old new l h = (
  λ at. ⊎_elim (λ k. inl k) (λ e. inr (is ∙ ap (λ (x : Label). Some x) (sym e))) (h.0 at),
  λ k. h.1 (⊎_elim (λ x. inl x) (λ e. inr (same_some label l (sym is ∙ e))) k),
)

pub no_reference : (r : Option Label) → r ≡ None → (old : List Label) (l : Label) → In l old ↔ (In l old ⊎ (r ≡ Some l))
no_reference r none old l = (λ at. inl at, λ h. ⊎_elim (λ k. k) (λ e. let c : ◌≡◌ {A = Option Label} None (Some l) = sym none ∙ e in cc c) h)

pub no_files : (l : Label) → In l [] ↔ RefersTo [] l
no_files l = (λ at. absurd at, λ h. absurd h.1)

pub file_more : {X : Type 0} (h : X → FileEntry) (xs : List X) (i : ℕ) (x : X) (old new : List Label) → i < length xs → x ≡ get_or xs i x → ((l : Label) → In l old ↔ RefersTo (map h (take i xs)) l)
    → ((l : Label) → In l new ↔ (In l old ⊎ ((h x).reference ≡ Some l))) → (l : Label) → In l new ↔ RefersTo (map h (take (i + 1) xs)) l
file_more {X} h xs i x old new lt is p q l =
    let more : map h (take i xs) ++ h x ∷ [] ≡ map h (take (i + 1) xs) = sym (map-append h (take i xs) (x ∷ [])) ∙ ap (λ (z : X). map h (take i xs ++ z ∷ [])) is ∙ sym (ap (map h) (take_more xs i x lt)) in
    subst (λ (es : List FileEntry). In l new ↔ RefersTo es l) more (
      λ at. ⊎_elim (λ k. let r = (p l).0 k in (r.0, in_left r.0 (map h (take i xs)) (h x ∷ []) r.1, r.2)) (λ e. (h x, in_right (h x) (map h (take i xs)) (h x ∷ []) (inl refl), e)) ((q l).0 at),
      λ r. (q l).1 (⊎_elim (λ k. inl ((p l).1 (r.0, k, r.2))) (λ e. inr (subst (λ (z : FileEntry). z.reference ≡ Some l) e r.2)) (in_either r.0 (h x) (map h (take i xs)) r.1)),
    )

-- ---- one label

only : (at : Text) (listed : List Label) (l : Label) (n : Text) (w : What) → IsUnlisted at listed l n w → (n ≡ at) × (w ≡ Reference l) × ¬ In l listed
only at listed l n (Reference m) d = (d.0, ap Reference d.1, d.2)
only at listed l n MemberAbsent d = absurd d
only at listed l n MemberBad d = absurd d
only at listed l n MembersDiffer d = absurd d
only at listed l n Absent d = absurd d
only at listed l n (Short t k) d = absurd d
only at listed l n (Digest t k) d = absurd d
only at listed l n (Second s) d = absurd d
only at listed l n (Gap s) d = absurd d
only at listed l n Unlike d = absurd d
only at listed l n (Contradicts t) d = absurd d

pub label_known : (at : Text) (listed : List Label) (l : Label) (a b : List Finding) (x : Finding) → ¬ In l listed → Shows x at (Reference l) → b ≡ a ++ x ∷ [] → Adds (IsUnlisted at listed l) a b
label_known at listed l a b x none shows grown = subst (λ (c : List Finding). Adds (IsUnlisted at listed l) a c) (sym grown)
    (adds_one (IsUnlisted at listed l) a x at (Reference l) (refl, refl, none) shows (λ n w d. let o = only at listed l n w d in (o.0, o.1)))

pub label_clean : (at : Text) (listed : List Label) (l : Label) (a : List Finding) → In l listed → Adds (IsUnlisted at listed l) a a
label_clean at listed l a there = adds_none (IsUnlisted at listed l) a (λ n w d. (only at listed l n w d).2 there)

-- ---- all

pub labels_none : (at : Text) (listed : List Label) (a : List Finding) → Adds (OfSome (IsUnlisted at listed) []) a a
labels_none at listed a = adds_none (OfSome (IsUnlisted at listed) []) a (λ n w h. absurd h.1)

pub labels_next : (at : Text) (listed xs : List Label) (i : ℕ) (x : Label) (a b c : List Finding) → i < length xs → x ≡ get_or xs i x → Adds (OfSome (IsUnlisted at listed) (take i xs)) a b → Adds (IsUnlisted at listed x) b c
    → Adds (OfSome (IsUnlisted at listed) (take (i + 1) xs)) a c
labels_next at listed xs i x a b c lt is p q =
    subst (λ (ys : List Label). Adds (OfSome (IsUnlisted at listed) ys) a c) (ap (λ (z : Label). take i xs ++ z ∷ []) is ∙ sym (take_more xs i x lt)) (adds_next (IsUnlisted at listed) (take i xs) x a b c p q)

pub references_known : (at : Text) (files : List FileEntry) (labels listed : List Label) → ((l : Label) → In l labels ↔ RefersTo files l) → (a b : List Finding) → Adds (OfSome (IsUnlisted at listed) labels) a b → Adds (AreUnlisted at files listed) a b
references_known at files labels listed are a b p = adds_as (OfSome (IsUnlisted at listed) labels) (AreUnlisted at files listed) a b to back p
  where
    to : (n : Text) (w : What) → OfSome (IsUnlisted at listed) labels n w → AreUnlisted at files listed n w
    to n w h = let o = only at listed h.0 n w h.2 in subst (λ (u : What). AreUnlisted at files listed n u) (sym o.1) (o.0, (are h.0).0 h.1, o.2)

    back : (n : Text) (w : What) → AreUnlisted at files listed n w → OfSome (IsUnlisted at listed) labels n w
    back n (Reference l) d = (l, (are l).1 d.1, (d.0, refl, d.2))
    back n MemberAbsent d = absurd d
    back n MemberBad d = absurd d
    back n MembersDiffer d = absurd d
    back n Absent d = absurd d
    back n (Short t k) d = absurd d
    back n (Digest t k) d = absurd d
    back n (Second s) d = absurd d
    back n (Gap s) d = absurd d
    back n Unlike d = absurd d
    back n (Contradicts t) d = absurd d
