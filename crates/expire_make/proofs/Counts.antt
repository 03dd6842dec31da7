-- Names that are removed, counted.
use Rattle.std.proofs.Common.{◌≡◌, ◌≢◌, ⊎_elim, inl, inr, ℕ, suc, zero, ◌+◌, ◌-◌, ◌^◌, ◌<◌, Bool, true, false, List, [], ◌∷◌, ◌++◌, map, length, length-append, drop, get_or, Option, Some, None, refl, ap, ◌∙◌, sym, subst, arith, string_bytes}
use Rattle.std.specs.Prelude.{IsSome, option_map, min}
use Rattle.std.proofs.lemmas.Bool.{and_parts}
use Rattle.base_devices.specs.declared.disk.Found.{Found}
use Rattle.base_devices.specs.Content.{Name, Value, Content, IsThere, IsListing, SameBut, at, put}
use Rattle.base_devices.specs.Order.{is_before, are_after, are_in_order}
use Rattle.base_disk.proofs.Images.{put_same, put_other}
use Rattle.base_model.specs.Text.{In}
use Rattle.repo_keys.proofs.Seeking.{opened}
use Rattle.archive_lookup.proofs.Orders.{not_itself}
use Rattle.archive_lookup.proofs.Picked.{each_after}
use Rattle.archive_lookup.proofs.Looked.{held_at, found_order}
use Rattle.repo_keys.proofs.Numbers.{map_in}
use Rattle.expire_make.specs.Losing.{names_of}
use Rattle.expire_make.specs.Removed.{pair_of, Took, Nothing, Further, Counted, AreDistinct}

module _ (these : Name → Type 0) where
  pub counted_none : (o p : Option Content) → p ≡ o → Counted these 0 o p
  counted_none o p same = record { names = []; ever_taken = Nothing o p same; count = refl }

  pub counted_one : (o p : Option Content) (n : Name) → these n → IsThere o n → p ≡ option_map (put n None) o → Counted these 1 o p
  counted_one o p n one there is = record { names = n ∷ []; ever_taken = Further [] o o p n (Nothing o o refl) one there is; count = refl }

  took_on : (ms ns : List Name) (o p q : Option Content) → Took these ms o p → Took these ns p q → Took these (ns ++ ms) o q
  took_on ms ns o p q before (Nothing p' q' same) = subst (λ (x : Option Content). Took these ms o x) (sym same) before
  took_on ms ns o p q before (Further ks p' mid q' n more one there is) = Further (ks ++ ms) o mid q n (took_on ms ks o p mid before more) one there is

  pub counted_on : (j k r : ℕ) (o p q : Option Content) → r ≡ min (j + k) (2 ^ 64 - 1) → Counted these j o p → Counted these k p q → Counted these r o q
  counted_on j k r o p q is first next = record {
    names = next.names ++ first.names;
    ever_taken = took_on first.names next.names o p q first.ever_taken next.ever_taken;
    count = let l = length-append next.names first.names in omega (arith, is, first.count, next.count, l);
  }

  pub counted_as : (k : ℕ) (o p a b : Option Content) → a ≡ o → p ≡ b → Counted these k o p → Counted these k a b
  counted_as k o p a b first last c = subst (λ (x : Option Content). Counted these k x b) (sym first) (subst (λ (x : Option Content). Counted these k o x) last c)

took_wide : (these those : Name → Type 0) → ((n : Name) → these n → those n) → (ns : List Name) (o p : Option Content) → Took these ns o p → Took those ns o p
took_wide these those wider ns o p (Nothing o' p' same) = Nothing o p same
took_wide these those wider ns o p (Further ks o' mid p' n more one there is) = Further ks o mid p n (took_wide these those wider ks o mid more) (wider n one) there is

pub counted_wide : (these those : Name → Type 0) (k : ℕ) (o p : Option Content) → ((n : Name) → these n → those n) → Counted these k o p → Counted those k o p
counted_wide these those k o p wider c = record { names = c.names; ever_taken = took_wide these those wider c.names o p c.ever_taken; count = c.count }

-- ---- the files of a listing

-- those to come have bytes
abbrev pub AreThere : List Found → ℕ → Option Content → Type 0
AreThere found i now = (n : Name) → In n (names_of (drop i found)) → IsThere now n

rest_order : (x : Name) (xs : List Name) → are_in_order (x ∷ xs) ≡ true → are_in_order xs ≡ true
rest_order x [] h = refl
rest_order x (y ∷ ys) h = (and_parts (is_before x y) (are_after y ys) h).1

drop_order : (found : List Found) (i : ℕ) → are_in_order (names_of found) ≡ true → are_in_order (names_of (drop i found)) ≡ true
drop_order found zero h = h
drop_order [] (suc i) h = refl
drop_order (x ∷ xs) (suc i) h = drop_order xs i (rest_order (string_bytes x.name) (names_of xs) h)

at_there : (o p : Option Content) (n : Name) → at n p ≡ at n o → IsThere o n → IsThere p n
at_there o None n e h = tt
at_there None (Some g) n e h = let no : ◌≡◌ {A = Option Value} (Some (g n)) None = e in cc
at_there (Some f) (Some g) n e h = let is : ◌≡◌ {A = Option Value} (Some (g n)) (Some (f n)) = e in let same : g n ≡ f n = cc in subst (λ (v : Value). IsSome v) (sym same) h

pub there_first : (place : Name) (found : List Found) (f : Content) (now : Option Content) → now ≡ Some f → IsListing place f (map pair_of found) → AreThere found 0 now
there_first place found f now known listing n i =
    let (x, j, same) = map_in (λ (y : Found). string_bytes y.name) found n i in
    let held = held_at place f found listing x j in
    subst (λ (o : Option Content). IsThere o n) (sym known) (subst (λ (k : Name). IsSome (f k)) (sym same) (subst (λ (v : Value). IsSome v) (sym held.1) refl))

module _ (found : List Found) (i : ℕ) (x : Found) (low : i < length found) (is : x ≡ get_or found i x) where
  ahead : names_of (drop i found) ≡ string_bytes x.name ∷ names_of (drop (i + 1) found)
  ahead = ap names_of (opened (λ (y : Found). string_bytes y.name) found i x low is)

  pub there_now : (now : Option Content) → AreThere found i now → IsThere now (string_bytes x.name)
  there_now now there = there (string_bytes x.name) (subst (λ (ns : List Name). In (string_bytes x.name) ns) (sym ahead) (inl refl))

  pub there_next : (old new : Option Content) → are_in_order (names_of found) ≡ true → SameBut (string_bytes x.name) old new → AreThere found i old → AreThere found (i + 1) new
  there_next old new order others there n j =
      let later = each_after (λ (k : Name). k) (string_bytes x.name) (names_of (drop (i + 1) found)) (subst (λ (ns : List Name). are_in_order ns ≡ true) (ahead ∙ ap (λ (ns : List Name). string_bytes x.name ∷ ns) (sym (map_id (names_of (drop (i + 1) found))))) (drop_order found i order)) n j in
      let off : n ≢ string_bytes x.name = λ e. not_itself (string_bytes x.name) (subst (λ (k : Name). is_before (string_bytes x.name) k ≡ true) e later) in
      at_there old new n (others n off) (there n (subst (λ (ns : List Name). In n ns) (sym ahead) (inr j)))
    where
      map_id : (ns : List Name) → map (λ (k : Name). k) ns ≡ ns
      map_id [] = refl
      map_id (k ∷ ks) = ap (λ (l : List Name). k ∷ l) (map_id ks)

pub order_of : (place : Name) (found : List Found) (f : Content) → IsListing place f (map pair_of found) → are_in_order (names_of found) ≡ true
order_of place found f listing = found_order place f found listing

-- ---- what was taken is gone

-- each was there and is gone, and nothing else changed
pub record Shows (these : Name → Type 0) (ns : List Name) (f g : Content) : Type 0 where
  pub distinct : AreDistinct ns
  pub was : (n : Name) → In n ns → these n × IsSome (f n) × (g n ≡ None)
  pub others : (n : Name) → ¬ In n ns → g n ≡ f n

some_is : (f g : Content) → ◌≡◌ {A = Option Content} (Some f) (Some g) → f ≡ g
some_is f g e = cc

pub took_shows : (these : Name → Type 0) (ns : List Name) (o p : Option Content) → Took these ns o p → (f g : Content) → o ≡ Some f → p ≡ Some g → Shows these ns f g
took_shows these ns o p (Nothing o' p' same) f g first last =
    let e : g ≡ f = some_is g f (sym last ∙ same ∙ first) in
    record { distinct = tt; was = λ n i. absurd i; others = λ n off. ap (λ (h : Content). h n) e }
took_shows these ns o p (Further ks o' None p' n more one there is) f g first last = let no : ◌≡◌ {A = Option Content} None (Some g) = sym is ∙ last in cc
took_shows these ns o p (Further ks o' (Some m) p' n more one there is) f g first last =
    let so_far = took_shows these ks o (Some m) more f m first refl in
    let now : put n None m ≡ g = some_is (put n None m) g (sym is ∙ last) in
    let here : g n ≡ None = ap (λ (h : Content). h n) (sym now) ∙ put_same n None m in
    let away : (k : Name) → k ≢ n → g k ≡ m k = λ k off. ap (λ (h : Content). h k) (sym now) ∙ put_other n None m k off in
    let fresh : ¬ In n ks = λ i. none_some (m n) ((so_far.was n i).2) there in
    record {
      distinct = (fresh, so_far.distinct);
      was = λ k i. ⊎_elim
          (λ (e : k ≡ n). subst (λ (q : Name). these q × IsSome (f q) × (g q ≡ None)) (sym e) (one, subst (λ (v : Value). IsSome v) (so_far.others n fresh) there, here))
          (λ (j : In k ks). let w = so_far.was k j in (w.0, w.1, away k (λ e. fresh (subst (λ (q : Name). In q ks) e j)) ∙ w.2)) i;
      others = λ k off. away k (λ e. off (inl e)) ∙ so_far.others k (λ j. off (inr j));
    }
  where
    none_some : (v : Value) → v ≡ None → IsSome v → ⊥
    none_some None e h = let no : ◌≡◌ {A = Bool} false true = h in cc
    none_some (Some b) e h = let no : ◌≡◌ {A = Value} (Some b) None = e in cc
