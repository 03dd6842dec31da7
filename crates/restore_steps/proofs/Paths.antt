-- Paths that are looked for, and lists that are gone through.
use Rattle.std.proofs.Common.{ℕ, zero, suc, Bool, true, false, ◌≡◌, ◌⊎◌, inl, inr, ◌<◌, ◌+◌, ◌||◌, refl, sym, ap, ◌∙◌, arith, add-one, List, [], ◌∷◌, ◌++◌, length, take, drop, map, get_or, Option, Some, None, option_map, bytes_eq, cond}
use Rattle.std.specs.Option.{is_some}
use Rattle.std.proofs.lemmas.Slice.Eq.{bytes_eq-Decides}
use Rattle.base_model.specs.Text.{Text, In}
use Rattle.base_model.specs.Values.{FileEntry}
use Rattle.backup_plan.specs.Listed.{entry_at}
use Rattle.restore_steps.specs.Clearing.{has_path}

-- ---- a path that is looked for

entry_found : (es : List FileEntry) (q : Text) → is_some (entry_at q es) ≡ has_path (map (λ (e : FileEntry). e.path) es) q
entry_found [] q = refl
entry_found (e ∷ es) q = by (bytes_eq e.path q) (entry_found es q)
  where
    by : (b : Bool) → is_some (entry_at q es) ≡ has_path (map (λ (x : FileEntry). x.path) es) q → is_some (cond b (Some e) (entry_at q es)) ≡ (b || has_path (map (λ (x : FileEntry). x.path) es) q)
    by true rest = refl
    by false rest = rest

some_viewed : {A B : Type 0} (f : A → B) (o : Option A) → is_some (option_map f o) ≡ is_some o
some_viewed f None = refl
some_viewed f (Some a) = refl

-- a search that gives an entry where there is one
pub has_found : {A : Type 0} (f : A → FileEntry) (o : Option A) (es : List FileEntry) (q : Text) → option_map f o ≡ entry_at q es → is_some o ≡ has_path (map (λ (e : FileEntry). e.path) es) q
has_found f o es q is = sym (some_viewed f o) ∙ ap is_some is ∙ entry_found es q

pub has_in : (ps : List Text) (q : Text) → has_path ps q ≡ true → In q ps
has_in [] q h = cc
has_in (p ∷ ps) q h = by (bytes_eq p q) refl h (has_in ps q)
  where
    by : (b : Bool) → bytes_eq p q ≡ b → (b || has_path ps q) ≡ true → (has_path ps q ≡ true → In q ps) → In q (p ∷ ps)
    by true is t rest = inl (sym ((bytes_eq-Decides p q).0 is))
    by false is t rest = inr (rest t)

or_true : (b : Bool) → (b || true) ≡ true
or_true true = refl
or_true false = refl

pub in_has : (ps : List Text) (q : Text) → In q ps → has_path ps q ≡ true
in_has [] q i = absurd i
in_has (p ∷ ps) q (inl e) = ap (λ (b : Bool). b || has_path ps q) ((bytes_eq-Decides p q).1 (sym e))
in_has (p ∷ ps) q (inr i) = ap (λ (b : Bool). bytes_eq p q || b) (in_has ps q i) ∙ or_true (bytes_eq p q)

-- ---- lists

take_next : {A : Type 0} (xs : List A) (i : ℕ) (x : A) → i < length xs → x ≡ get_or xs i x → take (suc i) xs ≡ take i xs ++ x ∷ []
take_next [] i x lt e = absurd (omega (arith, lt))
take_next (y ∷ ys) zero x lt e = ap (λ z. z ∷ []) (sym e)
take_next (y ∷ ys) (suc i) x lt e = ap (λ l. y ∷ l) (take_next ys i x (omega (arith, lt)) e)

-- one more of a list
pub take_more : {A : Type 0} (xs : List A) (i : ℕ) (x : A) → i < length xs → x ≡ get_or xs i x → take (i + 1) xs ≡ take i xs ++ x ∷ []
take_more xs i x lt e = ap (λ n. take n xs) (add-one i) ∙ take_next xs i x lt e

drop_next : {A : Type 0} (xs : List A) (i : ℕ) (x : A) → i < length xs → x ≡ get_or xs i x → drop i xs ≡ x ∷ drop (suc i) xs
drop_next [] i x lt e = absurd (omega (arith, lt))
drop_next (y ∷ ys) zero x lt e = ap (λ z. z ∷ ys) (sym e)
drop_next (y ∷ ys) (suc i) x lt e = drop_next ys i x (omega (arith, lt)) e

pub drop_more : {A : Type 0} (xs : List A) (i k : ℕ) (x : A) → k ≡ suc i → i < length xs → x ≡ get_or xs i x → drop i xs ≡ x ∷ drop k xs
drop_more xs i k x is lt e = drop_next xs i x lt e ∙ ap (λ n. x ∷ drop n xs) (sym is)

pub take_whole : {A : Type 0} (xs : List A) (n : ℕ) → length xs ≡ n → take n xs ≡ xs
take_whole [] zero e = refl
take_whole [] (suc n) e = refl
take_whole (x ∷ xs) zero e = absurd (omega (arith, e))
take_whole (x ∷ xs) (suc n) e = ap (λ l. x ∷ l) (take_whole xs n (omega (arith, e)))
