-- Lists, and byte order.
use Rattle.std.proofs.Common.{◌≡◌, ◌≢◌, inl, inr, ℕ, zero, suc, ◌<◌, true, false, List, [], ◌∷◌, ◌++◌, length, Ordering, Less, Equal, Greater, nat_cmp, refl, ap, ◌∙◌, sym, arith, map}
use Rattle.std.specs.Prelude.{Contains, slice_index_or}
use Rattle.std.specs.Cmp.Lexicographic.{slice_cmp}
use Rattle.std.specs.Ordering.{match_ordering, ordering_reverse, ordering_then, is_eq}
use Rattle.std.proofs.lemmas.Bool.{false≢true}
use Rattle.std.proofs.lemmas.Map.Text.{is_eq-slice_cmp}
use Rattle.std.proofs.lemmas.Slice.Eq.{bytes_eq-Decides}
use Rattle.std.proofs.lemmas.Cmp.{nat_list_cmp_total, tied_itself}
use Rattle.base_devices.specs.Order.{is_before}
use Rattle.base_model.specs.Text.{Text, In, text_cmp}
use Rattle.repo_names.proofs.Compared.{text_cmp-append}

-- ---- membership

in_at : {X : Type 0} (xs : List X) (x : X) (k : ℕ) → k < length xs → slice_index_or xs k x ≡ x → In x xs
in_at [] x k lt e = absurd (omega arith)
in_at (y ∷ ys) x zero lt e = inl (sym e)
in_at (y ∷ ys) x (suc k) lt e = inr (in_at ys x k (omega arith) e)

pub in_of : {X : Type 0} (xs : List X) (x : X) → Contains xs x → In x xs
in_of xs x at = in_at xs x at.0 at.1 at.2

pub contains_of : {X : Type 0} (xs : List X) (x : X) → In x xs → Contains xs x
contains_of [] x at = absurd at
contains_of (y ∷ ys) x (inl e) = (0, omega arith, sym e)
contains_of (y ∷ ys) x (inr at) = let c = contains_of ys x at in (suc c.0, let lt = c.1 in omega arith, c.2)

-- ---- byte order

pub less_from : (a b : Text) → is_before a b ≡ true → slice_cmp nat_cmp a b ≡ Less
less_from a b h = by_order (slice_cmp nat_cmp a b) h
  where
    by_order : (o : Ordering) → match_ordering o true false false ≡ true → o ≡ Less
    by_order Less h = refl
    by_order Equal h = cc h
    by_order Greater h = cc h

pub before_on : (a b c : Text) → is_before a b ≡ true → is_before b c ≡ true → is_before a c ≡ true
before_on a b c h k = ap (λ (o : Ordering). match_ordering o true false false) (nat_list_cmp_total.trans a b c (less_from a b h) (less_from b c k))

pub not_itself : (a : Text) → is_before a a ≡ true → ⊥
not_itself a h = let same : slice_cmp nat_cmp a a ≡ Equal = tied_itself nat_list_cmp_total a in cc (same, less_from a a h)

-- ---- what is made of each

pub in_map : {X Y : Type 0} (h : X → Y) (xs : List X) (x : X) → In x xs → In (h x) (map h xs)
in_map h [] x at = absurd at
in_map h (y ∷ ys) x (inl e) = inl (ap h e)
in_map h (y ∷ ys) x (inr at) = inr (in_map h ys x at)

pub from_map : {X Y : Type 0} (h : X → Y) (xs : List X) (y : Y) → In y (map h xs) → (x : X) × In x xs × (y ≡ h x)
from_map h [] y at = absurd at
from_map h (x ∷ xs) y (inl e) = (x, inl refl, e)
from_map h (x ∷ xs) y (inr at) = let c = from_map h xs y at in (c.0, inr c.1, c.2)

-- ---- at or before

pub not_before_on : (a b c : Text) → is_before b a ≡ false → is_before c b ≡ false → is_before c a ≡ false
not_before_on a b c h k = by_order (slice_cmp nat_cmp c a) refl
  where
    contrary : is_before c a ≡ true → ⊥
    contrary less = by_middle (slice_cmp nat_cmp b a) refl h
      where
        above : (x y : Text) → slice_cmp nat_cmp x y ≡ Less → slice_cmp nat_cmp y x ≡ Greater
        above x y e = nat_list_cmp_total.antisymm y x ∙ ap ordering_reverse e

        below : (x y : Text) → slice_cmp nat_cmp x y ≡ Greater → slice_cmp nat_cmp y x ≡ Less
        below x y e = nat_list_cmp_total.antisymm y x ∙ ap ordering_reverse e

        is_so : (x y : Text) → slice_cmp nat_cmp x y ≡ Less → is_before x y ≡ true
        is_so x y e = ap (λ (o : Ordering). match_ordering o true false false) e

        clash : is_before c b ≡ true → ⊥
        clash e = false≢true (sym k ∙ e)

        by_middle : (o : Ordering) → slice_cmp nat_cmp b a ≡ o → match_ordering o true false false ≡ false → ⊥
        by_middle Less e off = false≢true (sym off)
        by_middle Equal e off = clash (is_so c b (below b c (nat_list_cmp_total.congr b a c e ∙ above c a (less_from c a less))))
        by_middle Greater e off = clash (is_so c b (nat_list_cmp_total.trans c a b (less_from c a less) (below b a e)))

    by_order : (o : Ordering) → slice_cmp nat_cmp c a ≡ o → is_before c a ≡ false
    by_order Less e = absurd (contrary (ap (λ (o : Ordering). match_ordering o true false false) e))
    by_order Equal e = ap (λ (o : Ordering). match_ordering o true false false) e
    by_order Greater e = ap (λ (o : Ordering). match_ordering o true false false) e

-- one that isn't after the other comes before it, where they are two
pub before_of : (a b : Text) → is_before b a ≡ false → a ≢ b → is_before a b ≡ true
before_of a b off apart = by_order (slice_cmp nat_cmp b a) refl off
  where
    by_order : (o : Ordering) → slice_cmp nat_cmp b a ≡ o → match_ordering o true false false ≡ false → is_before a b ≡ true
    by_order Less e h = absurd (false≢true (sym h))
    by_order Equal e h = absurd (apart (sym ((bytes_eq-Decides b a).0 (sym (is_eq-slice_cmp b a) ∙ ap is_eq e))))
    by_order Greater e h = ap (λ (o : Ordering). match_ordering o true false false) (nat_list_cmp_total.antisymm a b ∙ ap ordering_reverse e)

pub not_both : (a b : Text) → is_before a b ≡ true → is_before b a ≡ false
not_both a b h = ap (λ (o : Ordering). match_ordering o true false false) (nat_list_cmp_total.antisymm b a ∙ ap ordering_reverse (less_from a b h))

-- texts of one length in front decide
pub before_prefix : (a b x y : Text) → length a ≡ length b → is_before a b ≡ true → is_before (a ++ x) (b ++ y) ≡ true
before_prefix a b x y long h =
    ap (λ (o : Ordering). match_ordering o true false false) (text_cmp-append a b x y long ∙ ap (λ (o : Ordering). ordering_then o (text_cmp x y)) (less_from a b h))
