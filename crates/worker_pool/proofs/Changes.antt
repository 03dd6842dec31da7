-- A change of one element, seen through a function.
use Rattle.std.proofs.Common.{ℕ, zero, suc, ◌≡◌, List, [], ◌∷◌, Option, Some, None, map, subst, ap, ◌∙◌, refl, slice_get, set, get_or, ◌<◌, length}
use Rattle.std.proofs.lemmas.List.{map-set}
use Rattle.worker_protocol.specs.Lists.{ChangesAt}
use Rattle.base_devices.specs.Links.{LinkState}
use Rattle.worker_pool.specs.declared.replies.receiving.Receiving.{Receiving}
use Rattle.worker_pool.proofs.Places.{read_has}
use Rattle.worker_pool.specs.Slots.{ReceivedAt}

get_map : {A X : Type 0} (f : A → X) (xs : List A) (i : ℕ) (d : A) (x : X) → slice_get (map f xs) i ≡ Some x → f (get_or xs i d) ≡ x
get_map f [] i d x e = cc
get_map f (a ∷ xs) zero d x e = cc
get_map f (a ∷ xs) (suc i) d x e = get_map f xs i d x e

pub changes_at : {A X : Type 0} (f : A → X) (R : X → X → Type 0) (xs : List A) (i : ℕ) (a b : A) → a ≡ get_or xs i a → R (f a) (f b) → ChangesAt R (map f xs) (map f (set xs i b)) i
changes_at f R xs i a b e r = record {
  after = f b;
  is = map-set f xs i b;
  by = λ before was. subst (λ x. R x (f b)) (ap f e ∙ get_map f xs i a before was) r;
}

same_some : {X : Type 0} (x y : X) → Some x ≡ Some y → x ≡ y
same_some x y e = cc

map_has : {A X : Type 0} (f : A → X) (xs : List A) (i : ℕ) (a : A) → slice_get xs i ≡ Some a → slice_get (map f xs) i ≡ Some (f a)
map_has f [] i a e = absurd (let q : None ≡ Some a = e in cc)
map_has f (x ∷ xs) zero a e = ap (λ y. Some (f y)) (same_some x a e)
map_has f (x ∷ xs) (suc i) a e = map_has f xs i a e

pub received_at : {A : Type 0} (f : A → Option LinkState) (R : Receiving → Receiving → Option LinkState → Option LinkState → Type 0) (xs : List A) (hs : List Receiving) (i : ℕ) (a b : A) (h n : Receiving) → i < length xs → i < length hs
    → a ≡ get_or xs i a → h ≡ get_or hs i h → R h n (f a) (f b) → ReceivedAt R i (map f xs) (map f (set xs i b)) hs (set hs i n)
received_at f R xs hs i a b h n lx lh ea eh r = record {
  receive_reply = h;
  next = n;
  slot = f a;
  then_slot = f b;
  receive_is = read_has hs i h lh eh;
  slot_is = map_has f xs i a (read_has xs i a lx ea);
  receivings_are = refl;
  slots_are = map-set f xs i b;
  by = r;
}
