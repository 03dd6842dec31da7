-- The first key at which two lists in order differ.
use Rattle.std.proofs.Common.{◌≡◌, ◌≢◌, ◌⊎◌, ⊎_elim, inl, inr, ℕ, ◌+◌, ◌<◌, ◌≤◌, Bool, true, false, if◌then◌else◌, List, [], ◌∷◌, ◌++◌, map, length, drop, get_or, refl, sym, ap, ◌∙◌, subst, append_assoc, Ordering, Less, Equal, Greater, nat_cmp, is_eq}
use Rattle.std.specs.Cmp.Lexicographic.{slice_cmp}
use Rattle.std.specs.Ordering.{match_ordering, ordering_reverse}
use Rattle.std.proofs.lemmas.Cmp.{nat_list_cmp_total}
use Rattle.std.proofs.lemmas.Map.Text.{is_eq-slice_cmp}
use Rattle.std.proofs.lemmas.Slice.Eq.{bytes_eq-Decides}
use Rattle.std.proofs.lemmas.Bool.{and_parts}
use Rattle.base_devices.specs.Order.{is_before, are_after}
use Rattle.base_model.specs.Text.{Text, In}
use Rattle.base_model.specs.Fields.{Field}
use Rattle.repo_ini.proofs.Orders.{less_from, not_itself}
use Rattle.repo_keys.specs.Agree.{IsOrdered}
use Rattle.repo_keys.specs.Agree.{IsFirstDifference, KeysAgreeBefore}
use Rattle.repo_keys.proofs.ByKey.{both}
use Rattle.repo_keys.proofs.Seeking.{opened, ended}
use Rattle.repo_keys.proofs.Sorted.{Before, Sorted, later, rest, unique}

abbrev name : Field → Text
name k = k.0

pub in_prefix : (p xs : List Field) (z : Field) → In z p → In z (p ++ xs)
in_prefix [] xs z i = absurd i
in_prefix (k ∷ p) xs z (inl e) = inl e
in_prefix (k ∷ p) xs z (inr i) = inr (in_prefix p xs z i)

pub in_back : (p xs : List Field) (z : Field) → In z xs → In z (p ++ xs)
in_back [] xs z i = i
in_back (k ∷ p) xs z i = inr (in_back p xs z i)

pub in_parts : (p xs : List Field) (z : Field) → In z (p ++ xs) → In z p ⊎ In z xs
in_parts [] xs z i = inr i
in_parts (k ∷ p) xs z (inl e) = inl (inl e)
in_parts (k ∷ p) xs z (inr i) = ⊎_elim (λ (j : In z p). inl (inr j)) (λ (j : In z xs). inr j) (in_parts p xs z i)

-- what follows comes after what is in front
pub prefix_first : (last : Text) (p xs : List Field) (z w : Field) → Sorted name last (p ++ xs) → In z p → In w xs → Before z.0 w.0
prefix_first last [] xs z w h i j = absurd i
prefix_first last (k ∷ p) xs z w h (inl e) j = subst (λ (f : Field). Before f.0 w.0) (sym e) (later name k.0 (p ++ xs) w (rest name last k (p ++ xs) h) (in_back p xs w j))
prefix_first last (k ∷ p) xs z w h (inr i) j = prefix_first k.0 p xs z w (rest name last k (p ++ xs) h) i j

pub following : (last : Text) (p xs : List Field) → Sorted name last (p ++ xs) → (next : Text) × Sorted name next xs
following last [] xs h = (last, h)
following last (k ∷ p) xs h = following k.0 p xs (rest name last k (p ++ xs) h)

pub sorted_prefix : (last : Text) (p xs : List Field) → Sorted name last (p ++ xs) → Sorted name last p
sorted_prefix last [] xs h = refl
sorted_prefix last (k ∷ p) xs h = let parts = and_parts (is_before last k.0) (are_after k.0 (map name (p ++ xs))) h in both (is_before last k.0) (are_after k.0 (map name p)) parts.0 (sorted_prefix k.0 p xs parts.1)

-- none of these comes before the key
abbrev NotBefore : Text → List Field → Type 0
NotBefore key xs = (z : Field) → In z xs → Before z.0 key → ⊥

-- each of these comes after the key
abbrev After : Text → List Field → Type 0
After key xs = (z : Field) → In z xs → Before key z.0

after_not : (key : Text) (xs : List Field) → After key xs → NotBefore key xs
after_not key xs h z i before = not_itself key key (nat_list_cmp_total.trans key z.0 key (h z i) before) refl

pub head_not : (last : Text) (x : Field) (xs : List Field) → Sorted name last (x ∷ xs) → NotBefore x.0 (x ∷ xs)
head_not last x xs h z (inl e) before = not_itself z.0 x.0 before (ap name e)
head_not last x xs h z (inr i) before = not_itself x.0 x.0 (nat_list_cmp_total.trans x.0 z.0 x.0 (later name x.0 xs z (rest name last x xs h) i) before) refl

-- before the key both have what is in front alone
pub before_agree : (p xs ys : List Field) (key : Text) → NotBefore key xs → NotBefore key ys → KeysAgreeBefore (p ++ xs) (p ++ ys) key
before_agree p xs ys key h g earlier first =
    let less = less_from earlier key first in
    record {
      there = λ d i. ⊎_elim (λ (j : In (earlier, d) p). in_prefix p ys (earlier, d) j) (λ (j : In (earlier, d) xs). absurd (h (earlier, d) j less)) (in_parts p xs (earlier, d) i);
      back = λ d i. ⊎_elim (λ (j : In (earlier, d) p). in_prefix p xs (earlier, d) j) (λ (j : In (earlier, d) ys). absurd (g (earlier, d) j less)) (in_parts p ys (earlier, d) i);
    }

-- the first of the ones that follow is in one alone, since the other's come after it
alone : (p xs ys : List Field) (x : Field) → IsOrdered (p ++ x ∷ xs) → After x.0 ys → In x (p ++ ys) → ⊥
alone p xs ys x h after i = ⊎_elim
    (λ (j : In x p). not_itself x.0 x.0 (prefix_first [] p (x ∷ xs) x x h j (inl refl)) refl)
    (λ (j : In x ys). not_itself x.0 x.0 (after x j) refl)
    (in_parts p ys x i)

pub first_more : (p xs ys : List Field) (x : Field) → IsOrdered (p ++ x ∷ xs) → After x.0 ys → IsFirstDifference (p ++ x ∷ xs) (p ++ ys) x.0
first_more p xs ys x h after =
    let (last, own) = following [] p (x ∷ xs) h in
    record {
      before = before_agree p (x ∷ xs) ys x.0 (head_not last x xs own) (after_not x.0 ys after);
      here = λ agree. alone p xs ys x h after (agree.there x.1 (in_back p (x ∷ xs) x (inl refl)));
    }

pub second_more : (p xs ys : List Field) (y : Field) → IsOrdered (p ++ y ∷ ys) → After y.0 xs → IsFirstDifference (p ++ xs) (p ++ y ∷ ys) y.0
second_more p xs ys y h after =
    let (last, own) = following [] p (y ∷ ys) h in
    record {
      before = before_agree p xs (y ∷ ys) y.0 (after_not y.0 xs after) (head_not last y ys own);
      here = λ agree. alone p ys xs y h after (agree.back y.1 (in_back p (y ∷ ys) y (inl refl)));
    }

-- the same key with two values
pub other_value : (p xs ys : List Field) (x y : Field) → IsOrdered (p ++ x ∷ xs) → IsOrdered (p ++ y ∷ ys) → x.0 ≡ y.0 → x ≢ y → IsFirstDifference (p ++ x ∷ xs) (p ++ y ∷ ys) x.0
other_value p xs ys x y h g same apart =
    let (last, own) = following [] p (x ∷ xs) h in
    let (last', others) = following [] p (y ∷ ys) g in
    record {
      before = before_agree p (x ∷ xs) (y ∷ ys) x.0 (head_not last x xs own) (subst (λ (k : Text). NotBefore k (y ∷ ys)) (sym same) (head_not last' y ys others));
      here = λ agree. apart (unique name [] (p ++ y ∷ ys) x y g (agree.there x.1 (in_back p (x ∷ xs) x (inl refl))) (in_back p (y ∷ ys) y (inl refl)) same);
    }

after_head : (last : Text) (key : Text) (y : Field) (ys : List Field) → Sorted name last (y ∷ ys) → Before key y.0 → After key (y ∷ ys)
after_head last key y ys h less z (inl e) = subst (λ (f : Field). Before key f.0) (sym e) less
after_head last key y ys h less z (inr i) = nat_list_cmp_total.trans key y.0 z.0 less (later name y.0 ys z (rest name last y ys h) i)

same_name : (a b : Text) → is_before a b ≡ false → is_before b a ≡ false → a ≡ b
same_name a b h g = by (slice_cmp nat_cmp a b) refl
  where
    off : {x : Bool} → x ≡ true → x ≡ false → ⊥
    off t f = let e : ◌≡◌ {A = Bool} true false = sym t ∙ f in cc

    by : (o : Ordering) → slice_cmp nat_cmp a b ≡ o → a ≡ b
    by Less e = absurd (off (ap (λ o. match_ordering o true false false) e) h)
    by Equal e = (bytes_eq-Decides a b).0 (sym (is_eq-slice_cmp a b) ∙ ap is_eq e)
    by Greater e = absurd (off (ap (λ o. match_ordering o true false false) (nat_list_cmp_total.antisymm b a ∙ ap ordering_reverse e)) g)

-- the first two after aren't the same
pub both_more : (p xs ys : List Field) (x y : Field) → IsOrdered (p ++ x ∷ xs) → IsOrdered (p ++ y ∷ ys) → x ≢ y → IsFirstDifference (p ++ x ∷ xs) (p ++ y ∷ ys) (if is_before y.0 x.0 then y.0 else x.0)
both_more p xs ys x y h g apart = by (is_before y.0 x.0) refl
  where
    first : is_before y.0 x.0 ≡ true → IsFirstDifference (p ++ x ∷ xs) (p ++ y ∷ ys) y.0
    first b = let (last, own) = following [] p (x ∷ xs) h in second_more p (x ∷ xs) ys y g (after_head last y.0 x xs own (less_from y.0 x.0 b))

    second : is_before y.0 x.0 ≡ false → (b : Bool) → is_before x.0 y.0 ≡ b → IsFirstDifference (p ++ x ∷ xs) (p ++ y ∷ ys) x.0
    second off true b = let (last, own) = following [] p (y ∷ ys) g in first_more p xs (y ∷ ys) x h (after_head last x.0 y ys own (less_from x.0 y.0 b))
    second off false b = other_value p xs ys x y h g (same_name x.0 y.0 b off) apart

    by : (b : Bool) → is_before y.0 x.0 ≡ b → IsFirstDifference (p ++ x ∷ xs) (p ++ y ∷ ys) (if b then y.0 else x.0)
    by true b = first b
    by false b = second b (is_before x.0 y.0) refl

-- ---- a walk along both

-- what follows in both, and the same in front of it
abbrev pub Walked : {X : Type 0} → (X → Field) → List X → List X → ℕ → Type 0
Walked f a b i = (p : List Field) × (map f a ≡ p ++ map f (drop i a)) × (map f b ≡ p ++ map f (drop i b))

module _ {X : Type 0} (f : X → Field) (a b : List X) (i : ℕ) where
  pub walk_next : (x y : X) → i < length a → i < length b → x ≡ get_or a i x → y ≡ get_or b i y → f x ≡ f y → Walked f a b i → Walked f a b (i + 1)
  walk_next x y h g is at same w =
      let (p, first, second) = w in
      let more = λ (z : X) (zs : List X). sym (append_assoc p (f z ∷ []) (map f (drop (i + 1) zs))) in (
        p ++ f x ∷ [],
        first ∙ ap (λ (l : List X). p ++ map f l) (opened f a i x h is) ∙ more x a,
        second ∙ ap (λ (l : List X). p ++ map f l) (opened f b i y g at) ∙ ap (λ (k : Field). p ++ k ∷ map f (drop (i + 1) b)) (sym same) ∙ sym (append_assoc p (f x ∷ []) (map f (drop (i + 1) b))),
      )

  pub walk_in_first : (x : X) → i < length a → x ≡ get_or a i x → Walked f a b i → In (f x) (map f a)
  walk_in_first x h is w =
      let (p, first, second) = w in
      subst (λ (ks : List Field). In (f x) ks) (sym (first ∙ ap (λ (l : List X). p ++ map f l) (opened f a i x h is))) (in_back p (f x ∷ map f (drop (i + 1) a)) (f x) (inl refl))

  pub walk_in_second : (y : X) → i < length b → y ≡ get_or b i y → Walked f a b i → In (f y) (map f b)
  walk_in_second y h is w =
      let (p, first, second) = w in
      subst (λ (ks : List Field). In (f y) ks) (sym (second ∙ ap (λ (l : List X). p ++ map f l) (opened f b i y h is))) (in_back p (f y ∷ map f (drop (i + 1) b)) (f y) (inl refl))

  module _ (h : IsOrdered (map f a)) (g : IsOrdered (map f b)) (w : Walked f a b i) where
    pub walk_apart : (x y : X) → i < length a → i < length b → x ≡ get_or a i x → y ≡ get_or b i y → f x ≢ f y → IsFirstDifference (map f a) (map f b) (if is_before (f y).0 (f x).0 then (f y).0 else (f x).0)
    walk_apart x y low high is at apart =
        let (p, first, second) = w in
        let one = first ∙ ap (λ (l : List X). p ++ map f l) (opened f a i x low is) in
        let two = second ∙ ap (λ (l : List X). p ++ map f l) (opened f b i y high at) in
        let key = if is_before (f y).0 (f x).0 then (f y).0 else (f x).0 in
        let found = both_more p (map f (drop (i + 1) a)) (map f (drop (i + 1) b)) (f x) (f y) (subst IsOrdered one h) (subst IsOrdered two g) apart in
        subst (λ (xs : List Field). IsFirstDifference xs (map f b) key) (sym one) (subst (λ (ys : List Field). IsFirstDifference (p ++ f x ∷ map f (drop (i + 1) a)) ys key) (sym two) found)

    pub walk_first : (x : X) → i < length a → length b ≤ i → x ≡ get_or a i x → IsFirstDifference (map f a) (map f b) (f x).0
    walk_first x low high is =
        let (p, first, second) = w in
        let one = first ∙ ap (λ (l : List X). p ++ map f l) (opened f a i x low is) in
        let two = second ∙ ap (λ (l : List X). p ++ map f l) (ended f b i high) in
        let found = first_more p (map f (drop (i + 1) a)) [] (f x) (subst IsOrdered one h) (λ z j. absurd j) in
        subst (λ (xs : List Field). IsFirstDifference xs (map f b) (f x).0) (sym one) (subst (λ (ys : List Field). IsFirstDifference (p ++ f x ∷ map f (drop (i + 1) a)) ys (f x).0) (sym two) found)

    pub walk_second : (y : X) → length a ≤ i → i < length b → y ≡ get_or b i y → IsFirstDifference (map f a) (map f b) (f y).0
    walk_second y low high at =
        let (p, first, second) = w in
        let one = first ∙ ap (λ (l : List X). p ++ map f l) (ended f a i low) in
        let two = second ∙ ap (λ (l : List X). p ++ map f l) (opened f b i y high at) in
        let found = second_more p [] (map f (drop (i + 1) b)) (f y) (subst IsOrdered two g) (λ z j. absurd j) in
        subst (λ (xs : List Field). IsFirstDifference xs (map f b) (f y).0) (sym one) (subst (λ (ys : List Field). IsFirstDifference (p ++ []) ys (f y).0) (sym two) found)

  pub walk_end : length a ≤ i → length b ≤ i → Walked f a b i → map f a ≡ map f b
  walk_end h g w =
      let (p, first, second) = w in
      first ∙ ap (λ (l : List X). p ++ map f l) (ended f a i h) ∙ sym (second ∙ ap (λ (l : List X). p ++ map f l) (ended f b i g))

module _ {X : Type 0} (xs : List X) (i : ℕ) (x y : X) where
  pub same_item : i < length xs → x ≡ get_or xs i x → y ≡ get_or xs i y → x ≡ y
  same_item h is at =
      let e = sym (opened (λ (z : X). z) xs i x h is) ∙ opened (λ (z : X). z) xs i y h at in
      cc
