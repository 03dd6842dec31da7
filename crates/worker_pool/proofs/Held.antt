-- A change of one job, seen as a keeper's.
use Rattle.std.proofs.Common.{ℕ, zero, suc, ◌≡◌, ◌<◌, List, [], ◌∷◌, ◌++◌, length, map, All, subst, sym, ap, ◌∙◌, slice_get, set, get_or, IsSomeAnd, arith}
use Rattle.std.proofs.lemmas.List.{map-set, map-append}
use Rattle.std.proofs.lemmas.Option.{get_or_from_slice_get}
use Rattle.std.proofs.Math.ListN.{get_or-map}
use Rattle.worker_protocol.specs.PartSinkState.{JobItems, Holds, Adds, Ends, Clears, IsFresh}
use Rattle.worker_protocol.specs.Lists.{ChangesAt}
use Rattle.worker_pool.specs.declared.digest_runs.memory_keeper.ReadItem.{ReadItem}
use Rattle.worker_pool.specs.declared.digest_runs.memory_keeper.HeldJob.{HeldJob}
use Rattle.worker_pool.specs.Holdings.{held_bytes, done_item, held_job, IsEmpty}

pub changes_at : (R : JobItems → JobItems → Type 0) (jobs : List HeldJob) (i : ℕ) (a b : HeldJob) → a ≡ get_or jobs i a → R (held_job a) (held_job b) → ChangesAt R (map held_job jobs) (map held_job (set jobs i b)) i
changes_at R jobs i a b e r = record {
  after = held_job b;
  is = map-set held_job jobs i b;
  by = λ before was. subst (λ x. R x (held_job b)) (ap held_job e ∙ sym (get_or-map held_job jobs i a) ∙ get_or_from_slice_get (map held_job jobs) i before (held_job a) was) r;
}

fresh_held : (bytes : List ℕ) → bytes ≡ [] → Holds (held_bytes bytes) []
fresh_held bytes none = (ap (λ l. length l) none, none)

pub fresh_job : (j : HeldJob) → IsEmpty j → IsFresh (held_job j)
fresh_job j e = record { done = ap (map done_item) e.0; held = fresh_held j.bytes.items e.1 }

pub fresh_at : (jobs : List HeldJob) (j : ℕ) → All IsEmpty jobs → j < length jobs → IsSomeAnd (slice_get (map held_job jobs) j) IsFresh
fresh_at [] j all lt = absurd (omega arith)
fresh_at (k ∷ ks) zero all lt = fresh_job k (all zero k (omega arith))
fresh_at (k ∷ ks) (suc j) all lt = fresh_at ks j (λ i d l. all (suc i) d (omega arith)) (omega arith)

pub adds : (a b : HeldJob) (bytes : List ℕ) → b.ended ≡ a.ended → b.bytes.items ≡ a.bytes.items ++ bytes → Adds bytes (held_job a) (held_job b)
adds a b bytes ended is = record {
  done = ap (λ v. map done_item v.items) ended;
  held = λ before h. (ap (λ l. length l) (is ∙ ap (λ l. l ++ bytes) h.1), is ∙ ap (λ l. l ++ bytes) h.1);
}

pub ends : (a b : HeldJob) (e : ReadItem) → b.ended.items ≡ a.ended.items ++ e ∷ [] → e.bytes.items ≡ a.bytes.items → b.bytes.items ≡ [] → Ends e.how (held_job a) (held_job b)
ends a b e ended kept none = record {
  done = ap (map done_item) ended ∙ map-append done_item a.ended.items (e ∷ []) ∙ ap (λ l. map done_item a.ended.items ++ (record { held = held_bytes l; end = e.how }) ∷ []) kept;
  held = fresh_held b.bytes.items none;
}

pub clears : (a b : HeldJob) → b.ended.items ≡ [] → b.bytes.items ≡ [] → Clears (held_job a) (held_job b)
clears a b ended none = fresh_job b (ended, none)
