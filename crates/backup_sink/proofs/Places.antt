-- From what a keeper holds to the places of a backup.
use Rattle.std.proofs.Common.{◌≡◌, ◌≤◌, ◌<◌, ◌+◌, ◌-◌, ◌⊎◌, ℕ, zero, suc, Bool, true, false, List, [], ◌∷◌, Option, Some, None, length, map, take, drop, refl, sym, ◌∙◌, ap, subst, arith, length-drop, slice_get}
use Rattle.std.specs.Prelude.{IsSome, IfSome, IsSomeAnd, option_map, unwrap_or, if◌then◌else◌, slice_range}
use Rattle.std.proofs.lemmas.Bool.{true_from_ne_false}
use Rattle.std.proofs.lemmas.List.{length-take-le, drop-drop}
use Rattle.base_devices.specs.Content.{Name, Value, Content, HasBytes, Holds, at}
use Rattle.base_devices.specs.Moments.{View}
use Rattle.base_model.specs.Place.{LiesAt}
use Rattle.worker_protocol.specs.PartSinkState.{Held, Done, JobItems}
use Rattle.backup_sink.specs.declared.keeper.EndedItem.{EndedItem}
use Rattle.backup_sink.specs.Keeping.{Progress, keeps, kept_of, job_bytes, dones, total, Agrees, IsKept, IsPlan, is_own}
use Rattle.backup_sink.proofs.Made.{HasStored, sealed_in}
use Rattle.backup_sink.specs.Placed.{held_sum, IsPlaced, IsPlacedIn}
use Rattle.backup_sink.specs.Sealed.{IsSealed}
use Rattle.backup_sink.proofs.JobItems.{some_and, keeps_at, model}

done_is : EndedItem → Option (List ℕ) → Done
done_is e b = record { held = record { count = e.count; known = b }; end = e.how }

same_done : (x y : Done) → ◌≡◌ {A = Option Done} (Some x) (Some y) → x ≡ y
same_done x y e = cc

-- an item's bytes lie after those of the items before it
known_at : (es : List EndedItem) (b : Option (List ℕ)) (i : ℕ) (x : Done) → slice_get (dones es b) i ≡ Some x → x.held.known ≡ option_map (λ (l : List ℕ). take x.held.count (drop (held_sum (take i (dones es b))) l)) b
known_at [] b i x e = cc
known_at (y ∷ es) None zero x e = let one : x ≡ (record { held = record { count = y.count; known = None }; end = y.how }) = sym (same_done _ x e) in ap (λ (z : Done). z.held.known) one
known_at (y ∷ es) (Some l) zero x e =
    let one : ◌≡◌ {A = Done} (record { held = record { count = y.count; known = Some (take y.count l) }; end = y.how }) x = same_done _ x e in
    subst (λ (z : Done). z.held.known ≡ Some (take z.held.count l)) one refl
known_at (y ∷ es) None (suc i) x e = known_at es None i x e
known_at (y ∷ es) (Some l) (suc i) x e = known_at es (Some (drop y.count l)) i x e
    ∙ ap (λ (z : List ℕ). Some (take x.held.count z)) (drop-drop (held_sum (take i (dones es (Some (drop y.count l))))) y.count l)

count_within : (es : List EndedItem) (b : Option (List ℕ)) (i : ℕ) (x : Done) → slice_get (dones es b) i ≡ Some x → held_sum (take i (dones es b)) + x.held.count ≤ total es
count_within [] b i x e = cc
count_within (y ∷ es) b zero x e =
    let one : ◌≡◌ {A = Done} (record { held = record { count = y.count; known = option_map (take y.count) b }; end = y.how }) x = same_done _ x e in
    let n : y.count ≡ x.held.count = ap (λ (z : Done). z.held.count) one in omega arith
count_within (y ∷ es) b (suc i) x e = omega (arith, count_within es (option_map (drop y.count) b) i x e)

-- the slice that a place names
slice_is : (b : List ℕ) (at n : ℕ) → at + n ≤ length b → (slice_range b at (at + length (take n (drop at b))) ≡ take n (drop at b)) × (length (take n (drop at b)) ≡ n)
slice_is b at n fits =
    let long : length (take n (drop at b)) ≡ n = length-take-le n (drop at b) (omega (arith, length-drop at b)) in
    let gap : at + length (take n (drop at b)) - at ≡ n = omega arith in
    (ap (λ (k : ℕ). take k (drop at b)) gap, long)

-- what a name that was kept holds gives each item's place
place_in : (g : Content) (name : Name) (b : List ℕ) (es : List EndedItem) (count i : ℕ) (x : Done) (known : Option (List ℕ)) → known ≡ Some b → g name ≡ Some b → length b ≡ total es + count → slice_get (dones es known) i ≡ Some x
    → IsSomeAnd x.held.known (λ bytes. LiesAt g (name, held_sum (take i (dones es known))) bytes × (length bytes ≡ x.held.count))
place_in g name b es count i x known is has long e =
    let n = held_sum (take i (dones es known)) in
    let bytes : x.held.known ≡ Some (take x.held.count (drop n b)) = known_at es known i x e ∙ ap (option_map (λ (l : List ℕ). take x.held.count (drop n l))) is in
    let fits : n + x.held.count ≤ length b = omega (arith, count_within es known i x e) in
    let lies = slice_is b n x.held.count fits in
    subst (λ (o : Option (List ℕ)). IsSomeAnd o (λ c. LiesAt g (name, n) c × (length c ≡ x.held.count))) (sym bytes) ((b, has, lies.0), lies.1)

known_bytes : (begun : Bool) (v : Value) (b : List ℕ) → begun ≡ true → v ≡ Some b → option_map (λ (w : Value). if begun then unwrap_or w [] else []) (Some v) ≡ Some b
known_bytes begun v b is e = ap (λ (c : Bool). option_map (λ (w : Value). if c then unwrap_or w [] else []) (Some v)) is ∙ ap (λ (w : Value). Some (unwrap_or w [])) e

-- a job whose items have bytes is begun
begun_of : (p : Progress) (b : Option (List ℕ)) (i : ℕ) (x : Done) → (p.begun ≡ false → (total p.ended ≡ 0) × (p.count ≡ 0)) → slice_get (dones p.ended b) i ≡ Some x → 0 < x.held.count → p.begun ≡ true
begun_of p b i x none e some = true_from_ne_false p.begun (λ (is : p.begun ≡ false). let n = none is in absurd (omega (arith, count_within p.ended b i x e)))

some_of : (v : Value) (b : List ℕ) → v ≡ Some b → IsSome v
some_of v b e = subst (λ (x : Value). IsSome x) (sym e) refl

module _ (folder : Name) (names : List Name) (ps : List Progress) (f g : Content) (plan : IsPlan folder names) (agree : Agrees names ps (Some f)) (has : HasStored (is_own folder) (Some f) g) where
  place_of : (n : Name) (p : Progress) (j i : ℕ) (x : Done) → slice_get names j ≡ Some n → slice_get ps j ≡ Some p → slice_get (dones p.ended (job_bytes p (Some (f n)))) i ≡ Some x → 0 < x.held.count
      → IsSomeAnd x.held.known (λ bytes. LiesAt g (n, held_sum (take i (dones p.ended (job_bytes p (Some (f n)))))) bytes × (length bytes ≡ x.held.count))
  place_of n p j i x named was e some =
      let kept = agree j n p named was in
      let begun = begun_of p (job_bytes p (Some (f n))) i x kept.none e some in
      let b = some_and (f n) (λ (b : List ℕ). length b ≡ total p.ended + p.count) (kept.bytes begun) in
      let there : IsSome (f n) = some_of (f n) b.0 b.1 in
      let held : g n ≡ Some b.0 = has.stored n (plan.own j n named) (plan.lasting j n named) there ∙ b.1 in
      place_in g n b.0 p.ended p.count i x (job_bytes p (Some (f n))) (known_bytes p.begun (f n) b.0 begun b.1) held b.2 e

  pub placed_in : IsPlaced names (keeps names ps (Some f)) g
  placed_in = record {
    placed = λ j i n k d is_n is_k is_d some.
        let x = model names ps (Some f) j k is_k in
        let name : x.0 ≡ n = let both : ◌≡◌ {A = Option Name} (Some x.0) (Some n) = sym x.2 ∙ is_n in cc in
        let named : slice_get names j ≡ Some n = is_n in
        let kept : k ≡ kept_of x.1 (Some (f n)) = let both : ◌≡◌ {A = Option JobItems} (Some k) (Some (kept_of x.1 (Some (f n)))) = sym is_k ∙ keeps_at names ps (Some f) j n x.1 named x.3 in cc in
        subst (λ (y : JobItems). IsSomeAnd d.held.known (λ bytes. LiesAt g (n, held_sum (take i y.done)) bytes × (length bytes ≡ d.held.count))) (sym kept)
        (place_of n x.1 j i d named x.3 (ap (λ (y : JobItems). slice_get y.done i) (sym kept) ∙ is_d) some);
  }

pub placed : (folder : Name) (names : List Name) (ps : List Progress) (now : Option Content) (g : Content) → IsSome now → IsPlan folder names → Agrees names ps now → HasStored (is_own folder) now g → IsPlaced names (keeps names ps now) g
placed folder names ps None g known plan agree has = cc
placed folder names ps (Some f) g known plan agree has = placed_in folder names ps f g plan agree has

-- what is sealed lies there whatever a crash leaves
pub sealed_placed : (folder : Name) (names : List Name) (ps : List Progress) (v : View) → IsPlan folder names → Agrees names ps v.now → IsSealed (is_own folder) v → IsPlacedIn names (keeps names ps v.now) v
sealed_placed folder names ps v plan agree sealed known g leaves =
    placed folder names ps v.now g known plan agree (record { stored = λ n is lasts has. sealed_in (is_own folder) v sealed g leaves n is has })

-- a name at which an item with bytes lies has bytes
pub bytes_at : (names : List Name) (ps : List Progress) (now : Option Content) → IsSome now → Agrees names ps now → (j i : ℕ) (n : Name) (k : JobItems) (d : Done) → slice_get names j ≡ Some n → slice_get (keeps names ps now) j ≡ Some k
    → slice_get k.done i ≡ Some d → 0 < d.held.count → HasBytes now n
bytes_at names ps None known agree j i n k d is_n is_k is_d some = cc
bytes_at names ps (Some f) known agree j i n k d is_n is_k is_d some =
    let x = model names ps (Some f) j k is_k in
    let kept : k ≡ kept_of x.1 (Some (f n)) = let both : ◌≡◌ {A = Option JobItems} (Some k) (Some (kept_of x.1 (Some (f n)))) = sym is_k ∙ keeps_at names ps (Some f) j n x.1 is_n x.3 in cc in
    let counts = agree j n x.1 is_n x.3 in
    let begun = begun_of x.1 (job_bytes x.1 (Some (f n))) i d counts.none (ap (λ (y : JobItems). slice_get y.done i) (sym kept) ∙ is_d) some in
    let b = some_and (f n) (λ (b : List ℕ). length b ≡ total x.1.ended + x.1.count) (counts.bytes begun) in
    some_of (f n) b.0 b.1
