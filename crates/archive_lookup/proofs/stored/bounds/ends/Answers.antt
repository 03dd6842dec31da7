use Rattle.std.proofs.Common.{ℕ, length, sym, subst, ap, ◌∙◌, refl}
use Rattle.std.proofs.lemmas.List.Sorted.{IsPermutation-refl}
use Rattle.std.specs.List.{ReversedBelow}
use Rattle.archive_lookup.proofs.Bounding.{known_ends}
use Rattle.archive_lookup.proofs.stored.bounds.ends.Goals as goal

pub returns-clause-ends : goal.returns-clause-ends
returns-clause-ends g c =
    let sorted = c.in_ok-folders.folders.items in
    let long = sym (ap length c.deref.ensures.value) ∙ c.deref.ensures.len in
    let back : ReversedBelow sorted c.reverse.new.self.items (length sorted) = subst (λ (n : ℕ). ReversedBelow sorted c.reverse.new.self.items n) (sym long) c.reverse.ensures.by_index in
    known_ends c.args.stanza.now c.args.id.now _ _ _ _ _ sorted sorted _ c.reverse.new.self.items _ c.in_ok-ends.ends.items c.in_ok-last.last.items _ c.extend_from_slice.new.self.items
    c.sorted_folders.ensures.looks.now (c.in_ok-ends.ensures.looks.now ∙ c.sorted_folders.ensures.looks.now) refl refl c.in_ok-folders.ensures.folders (IsPermutation-refl sorted) c.in_ok-folders.ensures.sorted
    back (sym (ap length c.deref-2.ensures.value) ∙ c.deref-2.ensures.len ∙ c.reverse.ensures.len ∙ sym long) c.deref.ensures.value c.deref-2.ensures.value c.in_ok-ends.ensures.first c.in_ok-last.ensures.first c.deref-3.ensures.value c.in_ok-extend_from_slice.ensures.items
