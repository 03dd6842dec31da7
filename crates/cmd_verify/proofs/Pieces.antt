-- One piece more of what lies at a place.
use Rattle.std.proofs.Common.{◌≡◌, ◌⊎◌, ⊎_elim, inl, inr, ℕ, ◌+◌, ◌<◌, ◌≤◌, List, ◌++◌, length, take, drop, Option, Some, None, refl, sym, ap, ◌∙◌, arith, length-drop}
use Rattle.std.specs.Prelude.{IfSome, option_map}
use Rattle.std.proofs.lemmas.List.{length-take-le, take_all, take-take, drop-drop}
use Rattle.sha1.specs.Sha1.{sha1}
use Rattle.base_devices.specs.Content.{Value, Content, Reads}
use Rattle.base_disk.proofs.Read.{IsPrefixOf, prefix_more}
use Rattle.base_text.specs.declared.sum.Sum.{Sum}
use Rattle.base_model.specs.Text.{Text}
use Rattle.cmd_verify.specs.declared.findings.place_sum.Lies.TheVariants.{Nothing, Few, All}
use Rattle.cmd_verify.specs.Findings.{part}
use Rattle.cmd_verify.specs.Lies.{LiesSo}

-- what a name has from a place on
abbrev pub following : Text → ℕ → Content → Value
following name at f = option_map (drop at) (f name)

-- so far these bytes were read
abbrev pub IsRead : Option Content → Text → ℕ → Text → ℕ → Type 0
IsRead o name at bytes count = (count ≡ 0) ⊎ IfSome o (λ f. IsPrefixOf (following name at f) bytes count)

-- a read, as one of what comes after the place
read_after : (v : Value) (at count room : ℕ) (new : List ℕ) (n : ℕ) → Reads v (at + count) room new (Some n) → 0 < n → Reads (option_map (drop at) v) count room new (Some n)
read_after None at count room new n reads some = cc
read_after (Some whole) at count room new n reads some = record {
  part = reads.part ∙ ap (take n) (sym (drop-drop count at whole));
  within = omega (arith, reads.within, length-drop at whole);
  ends = λ zero. absurd (omega (arith, zero, some));
}

pub one_more : (o : Option Content) (name : Text) (at : ℕ) (bytes new : Text) (count room n : ℕ) → IfSome o (λ f. Reads (f name) (at + count) room new (Some n)) → 0 < n → length bytes ≡ count
    → IsRead o name at bytes count → IsRead o name at (bytes ++ take n new) (count + n)
one_more o name at bytes new count room n reads some long prefix = inr (prefix_more o (following name at) bytes new (bytes ++ take n new) count n room (count + n) (moved o reads) prefix long refl refl)
  where
    moved : (o : Option Content) → IfSome o (λ f. Reads (f name) (at + count) room new (Some n)) → IfSome o (λ f. Reads (following name at f) count room new (Some n))
    moved None reads = tt
    moved (Some f) reads = read_after (f name) at count room new n reads some

-- nothing is read of an absent name
pub none_lies : (o : Option Content) (name : Text) (at size from room : ℕ) (new : List ℕ) → IfSome o (λ f. Reads (f name) from room new None) → IfSome o (λ f. LiesSo (f name) at size Nothing)
none_lies None name at size from room new reads = tt
none_lies (Some f) name at size from room new reads = by (f name) reads
  where
    by : (v : Value) → Reads v from room new None → LiesSo v at size Nothing
    by None reads = tt
    by (Some whole) reads = absurd reads

-- nothing more is read only at the end
pub few_lie : (o : Option Content) (name : Text) (at size count room : ℕ) (bytes new : List ℕ) → IfSome o (λ f. Reads (f name) (at + count) room new (Some 0)) → 0 < room → count < size → IsRead o name at bytes count
    → IfSome o (λ f. LiesSo (f name) at size (Few count))
few_lie None name at size count room bytes new reads some fewer prefix = tt
few_lie (Some f) name at size count room bytes new reads some fewer prefix = by (f name) reads prefix
  where
    by : (v : Value) → Reads v (at + count) room new (Some 0) → (count ≡ 0) ⊎ IsPrefixOf (option_map (drop at) v) bytes count → LiesSo v at size (Few count)
    by None reads prefix = cc
    by (Some whole) reads prefix = (length_is, fewer)
      where
        past : length whole ≤ at + count
        past = ⊎_elim (λ (e : room ≡ 0). absurd (omega (arith, e, some))) (λ (h : length whole ≤ at + count). h) (reads.ends refl)

        reached : count ≤ length (drop at whole)
        reached = ⊎_elim (λ (e : count ≡ 0). omega (arith, e)) (λ (h : IsPrefixOf (Some (drop at whole)) bytes count). h.0) prefix

        length_is : count ≡ length (part whole at size)
        length_is = let long = length-drop at whole in let end : length (drop at whole) ≡ count = omega (arith, long, past, reached) in
            sym end ∙ sym (ap length (take_all size (drop at whole) (omega (arith, end, fewer))))

-- all were read
pub all_lie : (o : Option Content) (name : Text) (at size : ℕ) (bytes sum : Text) → 0 < size → sum ≡ sha1 bytes → IsRead o name at bytes size → IfSome o (λ f. (s : Sum) → s.0 ≡ sum → LiesSo (f name) at size (All s))
all_lie None name at size bytes sum some digest prefix = tt
all_lie (Some f) name at size bytes sum some digest prefix = by (f name) prefix
  where
    by : (v : Value) → (size ≡ 0) ⊎ IsPrefixOf (option_map (drop at) v) bytes size → (s : Sum) → s.0 ≡ sum → LiesSo v at size (All s)
    by v (inl e) s is = absurd (omega (arith, e, some))
    by None (inr h) s is = absurd h
    by (Some whole) (inr h) s is = (length-take-le size (drop at whole) h.0, is ∙ digest ∙ ap sha1 h.1)
