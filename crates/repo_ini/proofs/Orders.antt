-- Byte order of names, at the end of a list of them.
use Rattle.std.proofs.Common.{◌≡◌, ℕ, true, false, List, [], ◌∷◌, ◌++◌, Ordering, Less, Equal, Greater, nat_cmp, fold, refl, ap}
use Rattle.std.specs.Cmp.Lexicographic.{slice_cmp}
use Rattle.std.specs.Ordering.{match_ordering}
use Rattle.std.proofs.lemmas.Bool.{and_parts}
use Rattle.std.proofs.lemmas.Cmp.{nat_list_cmp_total, tied_itself}
use Rattle.base_devices.specs.Order.{is_before, are_after}

pub less_from : (a b : List ℕ) → is_before a b ≡ true → slice_cmp nat_cmp a b ≡ Less
less_from a b h = by_order (slice_cmp nat_cmp a b) h where
  by_order : (o : Ordering) → match_ordering o true false false ≡ true → o ≡ Less
  by_order Less h = refl
  by_order Equal h = cc h
  by_order Greater h = cc h

-- the last of some names, which `last` comes before
abbrev pub end_of : List ℕ → List (List ℕ) → List ℕ
end_of last ns = fold (λ _ n. n) last ns

pub are_after_push : (last : List ℕ) (ns : List (List ℕ)) (n : List ℕ) → are_after last ns ≡ true → is_before (end_of last ns) n ≡ true → are_after last (ns ++ n ∷ []) ≡ true
are_after_push last [] n h b = rw b refl
are_after_push last (m ∷ ns) n h b = let p = and_parts (is_before last m) (are_after m ns) h in rw (p.0, are_after_push m ns n p.1 b) refl

pub before_later : (last : List ℕ) (ns : List (List ℕ)) (n : List ℕ) → are_after last ns ≡ true → is_before (end_of last ns) n ≡ true → slice_cmp nat_cmp last n ≡ Less
before_later last [] n h b = less_from last n b
before_later last (m ∷ ns) n h b =
    let p = and_parts (is_before last m) (are_after m ns) h in
    nat_list_cmp_total.trans last m n (less_from last m p.0) (before_later m ns n p.1 b)

pub not_itself : (a b : List ℕ) → slice_cmp nat_cmp a b ≡ Less → a ≡ b → ⊥
not_itself a b h e =
    let same : slice_cmp nat_cmp a a ≡ Equal = tied_itself nat_list_cmp_total a in
    cc (ap (slice_cmp nat_cmp a) e, same, h)
