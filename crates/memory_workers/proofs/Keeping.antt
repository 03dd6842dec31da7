-- A change of one job, seen as a keeper's.
use Rattle.std.proofs.Common.{ℕ, Bool, true, false, zero, suc, refl, sym, ◌+◌, length-append, ◌≡◌, ◌<◌, List, [], ◌∷◌, ◌++◌, length, Some, map, All, subst, ap, ◌∙◌, slice_get, set, get_or, IsSomeAnd, arith}
use Rattle.std.proofs.lemmas.List.{map-set, map-append}
use Rattle.worker_protocol.specs.PartSinkState.{JobItems, Holds, Adds, Ends, Clears, IsFresh}
use Rattle.worker_protocol.specs.Lists.{ChangesAt}
use Rattle.memory_workers.specs.declared.keep.KeptJob.{KeptJob}
use Rattle.memory_workers.specs.declared.keep.HeldItem.{HeldItem}
use Rattle.memory_workers.specs.Keeps.{held_of, done_of, kept_of, IsEmpty}

get_map : {A X : Type 0} (f : A → X) (xs : List A) (i : ℕ) (d : A) (x : X) → slice_get (map f xs) i ≡ Some x → f (get_or xs i d) ≡ x
get_map f [] i d x e = cc
get_map f (a ∷ xs) zero d x e = cc
get_map f (a ∷ xs) (suc i) d x e = get_map f xs i d x e

pub changes_at : (R : JobItems → JobItems → Type 0) (holds : Bool) (jobs : List KeptJob) (i : ℕ) (a b : KeptJob) → a ≡ get_or jobs i a → R (kept_of holds a) (kept_of holds b) → ChangesAt R (map (kept_of holds) jobs) (map (kept_of holds) (set jobs i b)) i
changes_at R holds jobs i a b e r = record {
  after = kept_of holds b;
  is = map-set (kept_of holds) jobs i b;
  by = λ before was. subst (λ x. R x (kept_of holds b)) (ap (kept_of holds) e ∙ get_map (kept_of holds) jobs i a before was) r;
}

pub fresh_held : (holds : Bool) (n : ℕ) (bytes : List ℕ) → n ≡ 0 → bytes ≡ [] → Holds (held_of holds n bytes) []
fresh_held false n bytes zero_count none = (zero_count, tt)
fresh_held true n bytes zero_count none = (zero_count, none)

pub fresh_job : (holds : Bool) (j : KeptJob) → IsEmpty j → IsFresh (kept_of holds j)
fresh_job holds j e = record { done = ap (map (done_of holds)) e.0; held = fresh_held holds j.count j.bytes.items e.1 e.2 }

pub fresh_at : (holds : Bool) (jobs : List KeptJob) (j : ℕ) → All IsEmpty jobs → j < length jobs → IsSomeAnd (slice_get (map (kept_of holds) jobs) j) IsFresh
fresh_at holds [] j all lt = absurd (omega arith)
fresh_at holds (k ∷ ks) zero all lt = fresh_job holds k (all zero k (omega arith))
fresh_at holds (k ∷ ks) (suc j) all lt = fresh_at holds ks j (λ i d l. all (suc i) d (omega arith)) (omega arith)

pub adds : (holds : Bool) (a b : KeptJob) (bytes : List ℕ) → b.ended ≡ a.ended → b.count ≡ a.count + length bytes → (holds ≡ true → b.bytes.items ≡ a.bytes.items ++ bytes) → Adds bytes (kept_of holds a) (kept_of holds b)
adds false a b bytes ended n is = record {
  done = ap (λ v. map (done_of false) v.items) ended;
  held = λ before h. (n ∙ ap (λ k. k + length bytes) h.0 ∙ sym (length-append before bytes), tt);
}
adds true a b bytes ended n is = record {
  done = ap (λ v. map (done_of true) v.items) ended;
  held = λ before h. (n ∙ ap (λ k. k + length bytes) h.0 ∙ sym (length-append before bytes), is refl ∙ ap (λ l. l ++ bytes) h.1);
}

pub ends : (holds : Bool) (a b : KeptJob) (e : HeldItem) → b.ended.items ≡ a.ended.items ++ e ∷ [] → e.count ≡ a.count → e.bytes.items ≡ a.bytes.items → b.count ≡ 0 → b.bytes.items ≡ [] → Ends e.how (kept_of holds a) (kept_of holds b)
ends holds a b e ended n kept zero_count none = record {
  done = ap (map (done_of holds)) ended ∙ map-append (done_of holds) a.ended.items (e ∷ []) ∙ ap (λ k. map (done_of holds) a.ended.items ++ (record { held = held_of holds k e.bytes.items; end = e.how }) ∷ []) n ∙ ap (λ l. map (done_of holds) a.ended.items ++ (record { held = held_of holds a.count l; end = e.how }) ∷ []) kept;
  held = fresh_held holds b.count b.bytes.items zero_count none;
}

pub clears : (holds : Bool) (a b : KeptJob) → b.ended.items ≡ [] → b.count ≡ 0 → b.bytes.items ≡ [] → Clears (kept_of holds a) (kept_of holds b)
clears holds a b ended n none = fresh_job holds b (ended, n, none)
