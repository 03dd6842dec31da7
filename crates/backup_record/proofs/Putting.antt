-- One value more in the order of paths.
use Rattle.std.proofs.Common.{◌≡◌, ◌≢◌, ◌⊎◌, ⊎_elim, inl, inr, ◌+◌, ℕ, Bool, true, false, List, [], ◌∷◌, map, Option, Some, refl, ◌∙◌, ap, arith}
use Rattle.std.specs.Prelude.{IsSome, sum_by, bytes_eq, if◌then◌else◌}
use Rattle.std.proofs.lemmas.List.Sums.{sum_by-cons}
use Rattle.std.specs.FinMap.{slice_cmp-IsAntisymmetric, nat_cmp-IsAntisymmetric}
use Rattle.std.specs.declared.cmp.Ordering.{Ordering}
use Rattle.std.specs.declared.cmp.Ordering.TheVariants.{Less, Equal, Greater}
use Rattle.std.specs.Ordering.{match_ordering, ordering_reverse}
use Rattle.std.specs.Cmp.Lexicographic.{nat_list_cmp_total}
use Rattle.base_devices.specs.Order.{is_before}
use Rattle.base_model.specs.Text.{Text, In, text_cmp}
use Rattle.base_model.specs.Values.{FileEntry}
use Rattle.backup_plan.specs.Listed.{entry_at}
use Rattle.backup_record.specs.Further.{put_in}
use Rattle.backup_record.proofs.Maps.{both}
use Rattle.backup_record.proofs.Sorted.{all_after, rises, join, after_all}

-- of two names that differ one comes before the other
following : (a b : Text) → is_before a b ≡ false → a ≢ b → is_before b a ≡ true
following a b h off = by (text_cmp a b) refl h
  where
    by : (r : Ordering) → text_cmp a b ≡ r → match_ordering r true false false ≡ false → is_before b a ≡ true
    by Less e k = absurd (let x : ◌≡◌ {A = Bool} true false = k in cc)
    by Equal e k = absurd (off (slice_cmp-IsAntisymmetric nat_cmp-IsAntisymmetric a b e))
    by Greater e k = ap (λ (r : Ordering). match_ordering r true false false) (nat_list_cmp_total.antisymm b a ∙ ap ordering_reverse e)

pub put_map : {X Y : Type 0} (f : X → Y) (path : Y → Text) (x : X) (xs : List X) → map f (put_in (λ (y : X). path (f y)) x xs) ≡ put_in path (f x) (map f xs)
put_map f path x [] = refl
put_map {X} f path x (y ∷ ys) = by (is_before (path (f x)) (path (f y))) (put_map f path x ys)
  where
    by : (b : Bool) → map f (put_in (λ (y : X). path (f y)) x ys) ≡ put_in path (f x) (map f ys) → map f (if b then x ∷ y ∷ ys else y ∷ put_in (λ (y : X). path (f y)) x ys) ≡ (if b then f x ∷ f y ∷ map f ys else f y ∷ put_in path (f x) (map f ys))
    by true rest = refl
    by false rest = ap (λ zs. f y ∷ zs) rest

module _ {X : Type 0} (path : X → Text) (x : X) where
  pub in_put : (y : X) (xs : List X) → In y (put_in path x xs) → (y ≡ x) ⊎ In y xs
  in_put y [] at = ⊎_elim inl (λ (none : ⊥). absurd none) at
  in_put y (z ∷ zs) at = by (is_before (path x) (path z)) (in_put y zs) at
    where
      by : (b : Bool) → (In y (put_in path x zs) → (y ≡ x) ⊎ In y zs) → In y (if b then x ∷ z ∷ zs else z ∷ put_in path x zs) → (y ≡ x) ⊎ In y (z ∷ zs)
      by true rest k = k
      by false rest k = ⊎_elim (λ (e : y ≡ z). inr (inl e)) (λ (r : In y (put_in path x zs)). ⊎_elim inl (λ (h : In y zs). inr (inr h)) (rest r)) k

  pub put_there : (xs : List X) → In x (put_in path x xs)
  put_there [] = inl refl
  put_there (z ∷ zs) = by (is_before (path x) (path z)) (put_there zs)
    where
      by : (b : Bool) → In x (put_in path x zs) → In x (if b then x ∷ z ∷ zs else z ∷ put_in path x zs)
      by true rest = inl refl
      by false rest = inr rest

  pub put_sum : (f : X → ℕ) (xs : List X) → sum_by f (put_in path x xs) ≡ f x + sum_by f xs
  put_sum f [] = sum_by-cons f x []
  put_sum f (z ∷ zs) = by (is_before (path x) (path z)) (put_sum f zs)
    where
      by : (b : Bool) → sum_by f (put_in path x zs) ≡ f x + sum_by f zs → sum_by f (if b then x ∷ z ∷ zs else z ∷ put_in path x zs) ≡ f x + sum_by f (z ∷ zs)
      by true rest = sum_by-cons f x (z ∷ zs)
      by false rest = let a = sum_by-cons f z (put_in path x zs) in let b = sum_by-cons f z zs in omega (arith, a, b, rest)

  after_put : (p : Text) (xs : List X) → all_after p (map path xs) ≡ true → is_before p (path x) ≡ true → all_after p (map path (put_in path x xs)) ≡ true
  after_put p [] h here = join (is_before p (path x)) true here refl
  after_put p (z ∷ zs) h here =
      let b = both (is_before p (path z)) (all_after p (map path zs)) h in
      by (is_before (path x) (path z)) (after_put p zs b.1 here) b.0 b.1
    where
      by : (b : Bool) → all_after p (map path (put_in path x zs)) ≡ true → is_before p (path z) ≡ true → all_after p (map path zs) ≡ true → all_after p (map path (if b then x ∷ z ∷ zs else z ∷ put_in path x zs)) ≡ true
      by true rest first others = join (is_before p (path x)) _ here (join (is_before p (path z)) _ first others)
      by false rest first others = join (is_before p (path z)) _ first rest

  -- the order stays, where the path is new
  pub put_rises : (xs : List X) → rises (map path xs) ≡ true → ¬ In (path x) (map path xs) → rises (map path (put_in path x xs)) ≡ true
  put_rises [] h off = refl
  put_rises (z ∷ zs) h off =
      let b = both (all_after (path z) (map path zs)) (rises (map path zs)) h in
      by (is_before (path x) (path z)) refl (put_rises zs b.1 (λ k. off (inr k))) b.0 b.1
    where
      by : (b : Bool) → is_before (path x) (path z) ≡ b → rises (map path (put_in path x zs)) ≡ true → all_after (path z) (map path zs) ≡ true → rises (map path zs) ≡ true → rises (map path (if b then x ∷ z ∷ zs else z ∷ put_in path x zs)) ≡ true
      by true is rest after order =
          join (all_after (path x) (path z ∷ map path zs)) _ (join (is_before (path x) (path z)) _ is (after_all (path x) (path z) (map path zs) is after)) (join (all_after (path z) (map path zs)) _ after order)
      by false is rest after order = join (all_after (path z) (map path (put_in path x zs))) _ (after_put (path z) zs after (following (path x) (path z) is (λ (e : path x ≡ path z). off (inl e)))) rest

-- a file that was there is there
pub entry_stays : (e : FileEntry) (path : Text) (es : List FileEntry) → IsSome (entry_at path es) → IsSome (entry_at path (put_in (λ (d : FileEntry). d.path) e es))
entry_stays e path [] some = absurd (let x : ◌≡◌ {A = Bool} false true = some in cc)
entry_stays e path (d ∷ es) some = by (is_before e.path d.path) (bytes_eq d.path path) (bytes_eq e.path path) (entry_stays e path es) some
  where
    further : (q : Bool) (o : Option FileEntry) → IsSome o → IsSome (if q then Some e else o)
    further true o h = refl
    further false o h = h

    after_it : (a : Bool) → (IsSome (entry_at path es) → IsSome (entry_at path (put_in (λ (d : FileEntry). d.path) e es))) → IsSome (if a then Some d else entry_at path es) → IsSome (if a then Some d else entry_at path (put_in (λ (d : FileEntry). d.path) e es))
    after_it true rest h = refl
    after_it false rest h = rest h

    by : (b a q : Bool) → (IsSome (entry_at path es) → IsSome (entry_at path (put_in (λ (d : FileEntry). d.path) e es))) → IsSome (if a then Some d else entry_at path es)
        → IsSome (entry_at path (if b then e ∷ d ∷ es else d ∷ put_in (λ (d : FileEntry). d.path) e es))
    by true a q rest h = further (bytes_eq e.path path) (if bytes_eq d.path path then Some d else entry_at path es) some
    by false a q rest h = after_it (bytes_eq d.path path) rest some
