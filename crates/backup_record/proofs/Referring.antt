-- The labels to which files refer.
use Rattle.std.proofs.Common.{◌≡◌, ◌≢◌, ◌⊎◌, ◌↔◌, ⊎_elim, inl, inr, ℕ, zero, suc, ◌+◌, ◌<◌, ◌≤◌, Bool, true, false, List, [], ◌∷◌, ◌++◌, length, map, take, drop, get_or, Option, Some, None, Result, Ok, Err, refl, sym, ◌∙◌, ap, subst, arith, append_assoc}
use Rattle.std.specs.Prelude.{◌||◌, ◌&&◌, IsTrue, OnOk}
use Rattle.std.proofs.Math.Seq.{drop-cons}
use Rattle.std.proofs.lemmas.List.{take_all, take_more, map-append}
use Rattle.base_devices.specs.Order.{is_before, are_in_order}
use Rattle.base_model.specs.declared.files.FileEntry as rust
use Rattle.base_model.specs.declared.labels.Entry as rust_entry
use Rattle.base_model.specs.declared.labels.Label.{Label}
use Rattle.base_model.specs.Text.{Text, In}
use Rattle.base_model.specs.Names.{label_text}
use Rattle.base_model.specs.Values.{FileEntry, Entry, file_entry_of, entry_of}
use Rattle.backup_plan.proofs.Lists.{in_parts, passed}
use Rattle.base_model.proofs.Pushed.{in_left}
use Rattle.backup_record.specs.Making.{RefersTo, labels_of}
use Rattle.backup_record.proofs.Maps.{both}
use Rattle.backup_record.proofs.Sorted.{all_after, rises, order_rises, join}
use Rattle.backup_record.proofs.Rules.{rises_order}

-- the label is one of those that a loop has passed, or none of them is
module _ (labels : List Label) (i : ℕ) (d : Label) (less : i < length labels) where
  pub in_here : In (get_or labels i d) labels
  in_here = by labels i less
    where
      by : (ls : List Label) (k : ℕ) → k < length ls → In (get_or ls k d) ls
      by [] k lt = absurd (omega (arith, lt))
      by (l ∷ ls) zero lt = inl refl
      by (l ∷ ls) (suc k) lt = inr (by ls k (omega (arith, lt)))

  pub none_next : (l : Label) → ¬ In l (take i labels) → l ≢ get_or labels i d → ¬ In l (take (i + 1) labels)
  none_next l before off k = ⊎_elim
      (λ (o : In l (take i labels)). before o)
      (λ (o : In l (get_or labels i d ∷ [])). ⊎_elim (λ (e : l ≡ get_or labels i d). off e) (λ (none : ⊥). none) o)
      (in_parts (take i labels) (get_or labels i d ∷ []) l (subst (λ (ls : List Label). In l ls) (take_more labels i d less) k))

-- ---- the labels of files

module _ (files : List rust.FileEntry) (i : ℕ) (x : rust.FileEntry) (less : i < length files) (is : x ≡ get_or files i x) (old new : List Label)
    (so_far : (l : Label) → In l old ↔ RefersTo (map file_entry_of (take i files)) l) (more : (l : Label) → In l new ↔ (In l old ⊎ (x.reference ≡ Some l))) where
  pub next_labels : (l : Label) → In l new ↔ RefersTo (map file_entry_of (take (i + 1) files)) l
  next_labels l = (
    λ k. subst (λ (es : List FileEntry). RefersTo es l) (sym (passed file_entry_of files i x less is))
        (⊎_elim
        (λ (o : In l old). let r = (so_far l).0 o in (r.0, in_left r.0 (map file_entry_of (take i files)) (file_entry_of x ∷ []) r.1, r.2))
        (λ (o : x.reference ≡ Some l). (file_entry_of x, at_back (map file_entry_of (take i files)), o))
        ((more l).0 k)),
    λ r. (let s = subst (λ (es : List FileEntry). RefersTo es l) (passed file_entry_of files i x less is) r in
        (more l).1 (⊎_elim
        (λ (k : In s.0 (map file_entry_of (take i files))). inl ((so_far l).1 (s.0, k, s.2)))
        (λ (k : In s.0 (file_entry_of x ∷ [])). ⊎_elim (λ (e : s.0 ≡ file_entry_of x). inr (ap (λ (y : FileEntry). y.reference) (sym e) ∙ s.2)) (λ (none : ⊥). absurd none) k)
        (in_parts (map file_entry_of (take i files)) (file_entry_of x ∷ []) s.0 s.1))),
  )
    where
      at_back : (es : List FileEntry) → In (file_entry_of x) (es ++ file_entry_of x ∷ [])
      at_back [] = inl refl
      at_back (e ∷ es) = inr (at_back es)

pub end_labels : (files : List rust.FileEntry) (i : ℕ) (v : List Label) → length files ≤ i → ((l : Label) → In l v ↔ RefersTo (map file_entry_of (take i files)) l) → (l : Label) → In l v ↔ RefersTo (map file_entry_of files) l
end_labels files i v done all l = subst (λ (fs : List rust.FileEntry). In l v ↔ RefersTo (map file_entry_of fs) l) (take_all i files done) (all l)

-- ---- the order of labels

after_less : (p : Text) (xs : List Text) (y : Text) (zs : List Text) → all_after p (xs ++ y ∷ zs) ≡ true → all_after p (xs ++ zs) ≡ true
after_less p [] y zs h = (both (is_before p y) (all_after p zs) h).1
after_less p (x ∷ xs) y zs h = let b = both (is_before p x) (all_after p (xs ++ y ∷ zs)) h in join (is_before p x) (all_after p (xs ++ zs)) b.0 (after_less p xs y zs b.1)

rises_less : (xs : List Text) (y : Text) (zs : List Text) → rises (xs ++ y ∷ zs) ≡ true → rises (xs ++ zs) ≡ true
rises_less [] y zs h = (both (all_after y zs) (rises zs) h).1
rises_less (x ∷ xs) y zs h =
    let b = both (all_after x (xs ++ y ∷ zs)) (rises (xs ++ y ∷ zs)) h in
    join (all_after x (xs ++ zs)) (rises (xs ++ zs)) (after_less x xs y zs b.0) (rises_less xs y zs b.1)

-- names in order are so without one of them
pub order_less : (xs : List Text) (y : Text) (zs : List Text) → are_in_order (xs ++ y ∷ zs) ≡ true → are_in_order (xs ++ zs) ≡ true
order_less xs y zs h = rises_order (xs ++ zs) (rises_less xs y zs (order_rises (xs ++ y ∷ zs) h))

-- ---- the labels of a list

module _ (listed : List rust_entry.Entry) (i : ℕ) (x : rust_entry.Entry) (less : i < length listed) (is : x ≡ get_or listed i x) (labels : List Label) where
  passed_labels : labels_of (map entry_of (take (i + 1) listed)) ≡ labels_of (map entry_of (take i listed)) ++ x.label ∷ []
  passed_labels = ap labels_of (passed entry_of listed i x less is) ∙ map-append (λ (e : Entry). e.label) (map entry_of (take i listed)) (entry_of x ∷ [])

  rest_labels : labels_of (map entry_of (drop i listed)) ≡ x.label ∷ labels_of (map entry_of (drop (i + 1) listed))
  rest_labels =
      let next : suc i ≡ i + 1 = omega arith in
      ap (λ (es : List rust_entry.Entry). labels_of (map entry_of es)) (drop-cons listed i x less ∙ ap (λ (e : rust_entry.Entry). e ∷ drop (suc i) listed) (sym is) ∙ ap (λ (k : ℕ). x ∷ drop k listed) next)

  module _ (refs : List Label) where
    -- the label is one of these
    pub each_taken : In x.label labels → ((l : Label) → In l refs ↔ (In l (labels_of (map entry_of (take i listed))) × In l labels)) → (new : List Label) → new ≡ refs ++ x.label ∷ [] → (l : Label) → In l new ↔ (In l (labels_of (map entry_of (take (i + 1) listed))) × In l labels)
    each_taken here all new new_is l = (
      λ k. ⊎_elim
          (λ (o : In l refs). let r = (all l).0 o in (subst (λ (ls : List Label). In l ls) (sym passed_labels) (in_left l (labels_of (map entry_of (take i listed))) (x.label ∷ []) r.0), r.1))
          (λ (o : In l (x.label ∷ [])). ⊎_elim (λ (e : l ≡ x.label). (subst (λ (ls : List Label). In l ls) (sym passed_labels) (last_in l e (labels_of (map entry_of (take i listed)))), subst (λ (m : Label). In m labels) (sym e) here)) (λ (none : ⊥). absurd none) o)
          (in_parts refs (x.label ∷ []) l (subst (λ (ls : List Label). In l ls) new_is k)),
      λ p. subst (λ (ls : List Label). In l ls) (sym new_is) (⊎_elim
          (λ (o : In l (labels_of (map entry_of (take i listed)))). in_left l refs (x.label ∷ []) ((all l).1 (o, p.1)))
          (λ (o : In l (x.label ∷ [])). ⊎_elim (λ (e : l ≡ x.label). last_in l e refs) (λ (none : ⊥). absurd none) o)
          (in_parts (labels_of (map entry_of (take i listed))) (x.label ∷ []) l (subst (λ (ls : List Label). In l ls) passed_labels p.0))),
    )
      where
        last_in : (l : Label) → l ≡ x.label → (ls : List Label) → In l (ls ++ x.label ∷ [])
        last_in l e [] = inl e
        last_in l e (m ∷ ls) = inr (last_in l e ls)

    -- or it isn't
    pub each_left : (In x.label labels → ⊥) → ((l : Label) → In l refs ↔ (In l (labels_of (map entry_of (take i listed))) × In l labels)) → (l : Label) → In l refs ↔ (In l (labels_of (map entry_of (take (i + 1) listed))) × In l labels)
    each_left off all l = (
      λ k. (let r = (all l).0 k in (subst (λ (ls : List Label). In l ls) (sym passed_labels) (in_left l (labels_of (map entry_of (take i listed))) (x.label ∷ []) r.0), r.1)),
      λ p. ⊎_elim
          (λ (o : In l (labels_of (map entry_of (take i listed)))). (all l).1 (o, p.1))
          (λ (o : In l (x.label ∷ [])). ⊎_elim (λ (e : l ≡ x.label). absurd (off (subst (λ (m : Label). In m labels) e p.1))) (λ (none : ⊥). absurd none) o)
          (in_parts (labels_of (map entry_of (take i listed))) (x.label ∷ []) l (subst (λ (ls : List Label). In l ls) passed_labels p.0)),
    )

    pub order_taken : (are_in_order (map label_text (labels_of (map entry_of listed))) ≡ true → are_in_order (map label_text refs ++ map label_text (labels_of (map entry_of (drop i listed)))) ≡ true) → (new : List Label) → new ≡ refs ++ x.label ∷ []
        → are_in_order (map label_text (labels_of (map entry_of listed))) ≡ true → are_in_order (map label_text new ++ map label_text (labels_of (map entry_of (drop (i + 1) listed)))) ≡ true
    order_taken all new new_is order =
        let moved : map label_text new ++ map label_text (labels_of (map entry_of (drop (i + 1) listed))) ≡ map label_text refs ++ map label_text (labels_of (map entry_of (drop i listed))) =
        ap (λ (ls : List Label). map label_text ls ++ map label_text (labels_of (map entry_of (drop (i + 1) listed)))) new_is
        ∙ ap (λ (ts : List Text). ts ++ map label_text (labels_of (map entry_of (drop (i + 1) listed)))) (map-append label_text refs (x.label ∷ []))
        ∙ append_assoc (map label_text refs) (label_text x.label ∷ []) (map label_text (labels_of (map entry_of (drop (i + 1) listed))))
        ∙ ap (λ (ls : List Label). map label_text refs ++ map label_text ls) (sym rest_labels) in
        ap are_in_order moved ∙ all order

    pub order_left : (are_in_order (map label_text (labels_of (map entry_of listed))) ≡ true → are_in_order (map label_text refs ++ map label_text (labels_of (map entry_of (drop i listed)))) ≡ true)
        → are_in_order (map label_text (labels_of (map entry_of listed))) ≡ true → are_in_order (map label_text refs ++ map label_text (labels_of (map entry_of (drop (i + 1) listed)))) ≡ true
    order_left all order = order_less (map label_text refs) (label_text x.label) (map label_text (labels_of (map entry_of (drop (i + 1) listed)))) (ap (λ (ls : List Label). are_in_order (map label_text refs ++ map label_text ls)) (sym rest_labels) ∙ all order)

pub end_each : (listed : List rust_entry.Entry) (i : ℕ) (labels refs : List Label) → length listed ≤ i → ((l : Label) → In l refs ↔ (In l (labels_of (map entry_of (take i listed))) × In l labels)) → (l : Label) → In l refs ↔ (In l (labels_of (map entry_of listed)) × In l labels)
end_each listed i labels refs done all l = subst (λ (es : List rust_entry.Entry). In l refs ↔ (In l (labels_of (map entry_of es)) × In l labels)) (take_all i listed done) (all l)

-- the one label that was added is that to which the file refers
pub on_same : {T E : Type 0} (r : Result T E) (old new : List Label) (x : Label) (o : Option Label) → o ≡ Some x → OnOk r ((l : Label) → In l new ↔ (In l old ⊎ (l ≡ x))) → OnOk r ((l : Label) → In l new ↔ (In l old ⊎ (o ≡ Some l)))
on_same (Ok t) old new x o is h = λ l. (
  λ k. ⊎_elim (λ (w : In l old). inl w) (λ (e : l ≡ x). inr (is ∙ ap (λ (y : Label). Some y) (sym e))) ((h l).0 k),
  λ k. (h l).1 (⊎_elim (λ (w : In l old). inl w) (λ (e : o ≡ Some l). inr (let both : ◌≡◌ {A = Option Label} (Some l) (Some x) = sym e ∙ is in cc)) k),
)
on_same (Err e) old new x o is h = tt

-- ---- a step of the loop over the list

module _ (listed : List rust_entry.Entry) (i : ℕ) (x : rust_entry.Entry) (less : i < length listed) (is : x ≡ get_or listed i x) (labels refs : List Label)
    (each : (l : Label) → In l refs ↔ (In l (labels_of (map entry_of (take i listed))) × In l labels))
    (order : are_in_order (map label_text (labels_of (map entry_of listed))) ≡ true → are_in_order (map label_text refs ++ map label_text (labels_of (map entry_of (drop i listed)))) ≡ true) (new : List Label) where
  pub taken_items : new ≡ refs ++ x.label ∷ [] → In x.label labels → record { each : (l : Label) → In l new ↔ (In l (labels_of (map entry_of (take (i + 1) listed))) × In l labels); order : are_in_order (map label_text (labels_of (map entry_of listed))) ≡ true → are_in_order (map label_text new ++ map label_text (labels_of (map entry_of (drop (i + 1) listed)))) ≡ true }
  taken_items new_is here = record { each = each_taken listed i x less is labels refs here each new new_is; order = order_taken listed i x less is labels refs order new new_is }

  pub left_items : new ≡ refs → (In x.label labels → ⊥) → record { each : (l : Label) → In l new ↔ (In l (labels_of (map entry_of (take (i + 1) listed))) × In l labels); order : are_in_order (map label_text (labels_of (map entry_of listed))) ≡ true → are_in_order (map label_text new ++ map label_text (labels_of (map entry_of (drop (i + 1) listed)))) ≡ true }
  left_items new_is off = record {
    each = subst (λ (ls : List Label). (l : Label) → In l ls ↔ (In l (labels_of (map entry_of (take (i + 1) listed))) × In l labels)) (sym new_is) (each_left listed i x less is labels refs off each);
    order = subst (λ (ls : List Label). are_in_order (map label_text (labels_of (map entry_of listed))) ≡ true → are_in_order (map label_text ls ++ map label_text (labels_of (map entry_of (drop (i + 1) listed)))) ≡ true) (sym new_is) (order_left listed i x less is labels refs order);
  }
