use Rattle.std.specs.Prelude.{Result, Ok, Err, IfOk}
use Rattle.std.proofs.Common.{◌++◌, ℕ, zero, suc, ◌≡◌, ◌<◌, ◌+◌, ◌⊎◌, inl, inr, List, [], ◌∷◌, Some, None, length, refl, sym, ap, subst, arith, slice_get, set, ◌∙◌, slice_index_or}
use Rattle.std.proofs.lemmas.Option.{slice_get_within}
use Rattle.worker_pool.specs.Dispatch.{IsDispatch}
use Rattle.worker_pool.specs.declared.jobs.JobPlace.{JobPlace}
use Rattle.worker_pool.specs.declared.jobs.JobPlace.TheVariants.{With}
use Rattle.worker_pool.specs.declared.jobs.LinkPlace.{LinkPlace}
use Rattle.worker_pool.specs.declared.jobs.LinkPlace.TheVariants.{Busy}

pub get_set_same : {X : Type 0} (xs : List X) (i : ℕ) (v x : X) → slice_get xs i ≡ Some x → slice_get (set xs i v) i ≡ Some v
get_set_same [] i v x e = cc
get_set_same (y ∷ xs) zero v x e = refl
get_set_same (y ∷ xs) (suc i) v x e = get_set_same xs i v x e

pub get_set_other : {X : Type 0} (xs : List X) (i k : ℕ) (v : X) → (k ≡ i → ⊥) → slice_get (set xs i v) k ≡ slice_get xs k
get_set_other [] i k v n = refl
get_set_other (y ∷ xs) zero zero v n = absurd (n refl)
get_set_other (y ∷ xs) zero (suc k) v n = refl
get_set_other (y ∷ xs) (suc i) zero v n = refl
get_set_other (y ∷ xs) (suc i) (suc k) v n = get_set_other xs i k v (λ e. n (ap suc e))

pub get_set_cases : {X : Type 0} (xs : List X) (i k : ℕ) (v y : X) → slice_get (set xs i v) k ≡ Some y → ((k ≡ i) × (y ≡ v)) ⊎ ((k ≡ i → ⊥) × (slice_get xs k ≡ Some y))
get_set_cases [] i k v y e = cc
get_set_cases (z ∷ xs) zero zero v y e = inl (refl, cc)
get_set_cases (z ∷ xs) zero (suc k) v y e = inr (λ q. cc, e)
get_set_cases (z ∷ xs) (suc i) zero v y e = inr (λ q. cc, e)
get_set_cases (z ∷ xs) (suc i) (suc k) v y e = elim (get_set_cases xs i k v y e) [ inl h ↦ inl (ap suc h.0, h.1) | inr h ↦ inr (λ q. h.0 (cc), h.1) ]

-- the pairs stay where a job and a link change together
pub pairs_after : (jobs : List JobPlace) (links : List LinkPlace) (job link : ℕ) (p o : JobPlace) (q u : LinkPlace) → IsDispatch jobs links
    → slice_get jobs job ≡ Some o → slice_get links link ≡ Some u
    → ((j : ℕ) → q ≡ Busy j → (j ≡ job) × (p ≡ With link)) → ((l : ℕ) → p ≡ With l → (l ≡ link) × (q ≡ Busy job))
    → ((l : ℕ) → o ≡ With l → l ≡ link) → ((j : ℕ) → u ≡ Busy j → j ≡ job)
    → IsDispatch (set jobs job p) (set links link q)
pairs_after jobs links job link p o q u h ej el busy with only_job only_link = record {
  to_job = λ l j e. elim (get_set_cases links link l q (Busy j) e) [
    | inl w ↦ let b = busy j (sym w.1) in rw (b.0, w.0) (get_set_same jobs job p o ej ∙ ap Some b.1)
    | inr w ↦ get_set_other jobs job j p (λ same. w.0 (only_job l (let f = h.to_job l j w.1 in let g : slice_get jobs job ≡ Some (With l) = subst (λ k. slice_get jobs k ≡ Some (With l)) same f in cc))) ∙ h.to_job l j w.1
  ];
  to_link = λ l j e. elim (get_set_cases jobs job j p (With l) e) [
    | inl w ↦ let b = with l (sym w.1) in rw (b.0, w.0) (get_set_same links link q u el ∙ ap Some b.1)
    | inr w ↦ get_set_other links link l q (λ same. w.0 (only_link j (let f = h.to_link l j w.1 in let g : slice_get links link ≡ Some (Busy j) = subst (λ k. slice_get links k ≡ Some (Busy j)) same f in cc))) ∙ h.to_link l j w.1
  ];
}

pub read_is : {X : Type 0} (xs : List X) (i : ℕ) (x r : X) → slice_get xs i ≡ Some x → r ≡ slice_index_or xs i r → r ≡ x
read_is [] i x r e h = cc
read_is (y ∷ xs) zero x r e h = cc
read_is (y ∷ xs) (suc i) x r e h = read_is xs i x r e h

pub within : {X : Type 0} (xs : List X) (i : ℕ) (x : X) → slice_get xs i ≡ Some x → i < length xs
within xs i x e = slice_get_within xs i x e

-- what was read at an index in range is there
pub read_has : {X : Type 0} (xs : List X) (i : ℕ) (r : X) → i < length xs → r ≡ slice_index_or xs i r → slice_get xs i ≡ Some r
read_has [] i r l e = absurd (omega arith)
read_has (y ∷ xs) zero r l e = cc
read_has (y ∷ xs) (suc i) r l e = read_has xs i r (omega arith) e

-- the pairs stay where a link that has no job changes to one that has none
pub pairs_idle : (jobs : List JobPlace) (links : List LinkPlace) (link : ℕ) (q : LinkPlace) → IsDispatch jobs links
    → ((j : ℕ) → q ≡ Busy j → ⊥) → ((j : ℕ) → slice_get links link ≡ Some (Busy j) → ⊥) → IsDispatch jobs (set links link q)
pairs_idle jobs links link q h idle none = record {
  to_job = λ l j e. elim (get_set_cases links link l q (Busy j) e) [
    | inl w ↦ absurd (idle j (sym w.1))
    | inr w ↦ h.to_job l j w.1
  ];
  to_link = λ l j e. let f = h.to_link l j e in
      get_set_other links link l q (λ same. none j (subst (λ k. slice_get links k ≡ Some (Busy j)) same f)) ∙ f;
}

get_push : {X : Type 0} (xs : List X) (x m : X) (k : ℕ) → slice_get (xs ++ x ∷ []) k ≡ Some m → (slice_get xs k ≡ Some m) ⊎ (m ≡ x)
get_push [] x m zero e = inr (let f : Some x ≡ Some m = e in cc)
get_push [] x m (suc k) e = absurd (let f : None ≡ Some m = e in cc)
get_push (y ∷ xs) x m zero e = inl e
get_push (y ∷ xs) x m (suc k) e = get_push xs x m k e

pub push_all : {X : Type 0} (P : X → Type 0) (xs ys : List X) (x : X) → ys ≡ xs ++ x ∷ [] → ((k : ℕ) (m : X) → slice_get xs k ≡ Some m → P m) → P x → (k : ℕ) (m : X) → slice_get ys k ≡ Some m → P m
push_all P xs ys x e h p k m at = elim (get_push xs x m k (ap (λ l. slice_get l k) (sym e) ∙ at)) [ inl q ↦ h k m q | inr q ↦ subst P (sym q) p ]

at_push : {X : Type 0} (xs : List X) (x : X) → slice_get (xs ++ x ∷ []) (length xs) ≡ Some x
at_push [] x = refl
at_push (y ∷ xs) x = at_push xs x

-- the one that was pushed is there, and those before it are
pub push_has : {X : Type 0} (xs ys : List X) (x : X) → ys ≡ xs ++ x ∷ [] → (k : ℕ) × (slice_get ys k ≡ Some x)
push_has xs ys x e = (length xs, ap (λ l. slice_get l (length xs)) e ∙ at_push xs x)

get_prefix : {X : Type 0} (xs : List X) (x m : X) (k : ℕ) → slice_get xs k ≡ Some m → slice_get (xs ++ x ∷ []) k ≡ Some m
get_prefix [] x m k e = absurd (let f : None ≡ Some m = e in cc)
get_prefix (y ∷ xs) x m zero e = e
get_prefix (y ∷ xs) x m (suc k) e = get_prefix xs x m k e

pub push_keeps : {X : Type 0} (xs ys : List X) (x m : X) → ys ≡ xs ++ x ∷ [] → (k : ℕ) × (slice_get xs k ≡ Some m) → (k : ℕ) × (slice_get ys k ≡ Some m)
push_keeps xs ys x m e h = (h.0, ap (λ l. slice_get l h.0) e ∙ get_prefix xs x m h.0 h.1)

pub if_ok_map : {A B : Type 0} (r : Result A B) (P Q : A → Type 0) → IfOk r P → ((v : A) → P v → Q v) → IfOk r Q
if_ok_map (Ok v) P Q h f = f v h
if_ok_map (Err e) P Q h f = tt

eq_at : (a b : ℕ) → (a ≡ b) ⊎ (a ≡ b → ⊥)
eq_at zero zero = inl refl
eq_at zero (suc b) = inr (λ e. omega arith)
eq_at (suc a) zero = inr (λ e. omega arith)
eq_at (suc a) (suc b) = elim (eq_at a b) [ inl e ↦ inl (ap suc e) | inr n ↦ inr (λ e. n (omega arith)) ]

pub below_one : (P : ℕ → Type 0) (i : ℕ) → ((m : ℕ) → m < i → P m) → P i → (m : ℕ) → m < i + 1 → P m
below_one P i h p m lt = elim (eq_at m i) [ inl e ↦ subst P (sym e) p | inr n ↦ h m (omega (arith, lt, n)) ]

pub none_there : {X : Type 0} (xs : List X) (k : ℕ) (x : X) → xs ≡ [] → slice_get xs k ≡ Some x → ⊥
none_there [] k x e h = absurd (let f : None ≡ Some x = h in cc)
none_there (y ∷ xs) k x e h = absurd (let f : y ∷ xs ≡ [] = e in cc)

-- each busy link below one more, after this one was pushed
pub each_push : (xs ys : List ℕ) (i : ℕ) (holders : List LinkPlace) → ys ≡ xs ++ i ∷ [] → ((m j : ℕ) → m < i → slice_get holders m ≡ Some (Busy j) → (k : ℕ) × (slice_get xs k ≡ Some m))
    → (m j : ℕ) → m < i + 1 → slice_get holders m ≡ Some (Busy j) → (k : ℕ) × (slice_get ys k ≡ Some m)
each_push xs ys i holders e h = λ m j lt at. elim (eq_at m i) [
  | inl q ↦ subst (λ x. (k : ℕ) × (slice_get ys k ≡ Some x)) (sym q) (push_has xs ys i e)
  | inr n ↦ push_keeps xs ys i m e (h m j (omega (arith, lt, n)) at)
]
