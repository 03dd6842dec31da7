-- One call more of a keeper.
use Rattle.std.proofs.Common.{◌≡◌, ◌≢◌, ◌≤◌, ◌<◌, ◌+◌, ◌⊎◌, ◌++◌, ◌∷◌, [], ℕ, Bool, true, false, zero, suc, set, slice_get, get_or, List, Option, Some, None, length, map, take, drop, refl, sym, ◌∙◌, ap, subst, arith, inl, inr, length-append, length-drop}
use Rattle.std.proofs.lemmas.List.{take-append-le, take_all, drop_all, drop-append-le, drop-drop, map-set}
use Rattle.std.specs.Prelude.{option_map, unwrap_or, IfSome, IsSomeAnd, if◌then◌else◌}
use Rattle.base_devices.specs.Content.{Name, Value, Content, at, SameBut}
use Rattle.worker_protocol.specs.PartSinkState.{Held, Done, JobItems, Holds, Adds, Ends, IsFresh}
use Rattle.worker_protocol.specs.declared.sinks.ItemEnd.{ItemEnd}
use Rattle.backup_sink.specs.declared.keeper.EndedItem.{EndedItem}
use Rattle.backup_sink.specs.declared.keeper.Stored.{Stored}
use Rattle.backup_sink.specs.Keeping.{Progress, keeps, kept_of, job_bytes, dones, total, Agrees, IsKept, grown, after_end, nothing, lengthened_from, Becomes, progress_of}

pub becomes : (xs ys : List Stored) (i : ℕ) (b : Stored) (after : Progress) → ys ≡ set xs i b → progress_of b ≡ after → Becomes i after (map progress_of xs) (map progress_of ys)
becomes xs ys i b after is e = record { is = ap (map progress_of) is ∙ map-set progress_of xs i b ∙ ap (set (map progress_of xs) i) e }

-- what an option with a fact holds
pub some_and : {A : Type 0} (o : Option A) (P : A → Type 0) → IsSomeAnd o P → (x : A) × (o ≡ Some x) × P x
some_and None P h = absurd h
some_and (Some x) P h = (x, refl, h)

-- ---- the list of what is held

pub keeps_at : (ns : List Name) (ps : List Progress) (now : Option Content) (j : ℕ) (n : Name) (p : Progress) → slice_get ns j ≡ Some n → slice_get ps j ≡ Some p → slice_get (keeps ns ps now) j ≡ Some (kept_of p (at n now))
keeps_at [] ps now j n p e q = cc
keeps_at (m ∷ ns) [] now j n p e q = cc
keeps_at (m ∷ ns) (r ∷ ps) now zero n p e q =
    let a : ◌≡◌ {A = Option Name} (Some m) (Some n) = e in let b : ◌≡◌ {A = Option Progress} (Some r) (Some p) = q in
    let c : m ≡ n = cc in let d : r ≡ p = cc in
    ap (λ (x : Progress). Some (kept_of x (at m now))) d ∙ ap (λ (x : Name). Some (kept_of p (at x now))) c
keeps_at (m ∷ ns) (r ∷ ps) now (suc j) n p e q = keeps_at ns ps now j n p e q

pub keeps_length : (ns : List Name) (ps : List Progress) (now : Option Content) → length ps ≡ length ns → length (keeps ns ps now) ≡ length ns
keeps_length [] ps now e = refl
keeps_length (n ∷ ns) [] now e = absurd (omega (arith, e))
keeps_length (n ∷ ns) (p ∷ ps) now e = ap suc (keeps_length ns ps now (omega (arith, e)))

-- names that aren't changed
keeps_same : (ns : List Name) (ps : List Progress) (now new : Option Content) (name : Name) → SameBut name now new → ((k : ℕ) (m : Name) → slice_get ns k ≡ Some m → m ≢ name) → keeps ns ps new ≡ keeps ns ps now
keeps_same [] ps now new name same far = refl
keeps_same (m ∷ ns) [] now new name same far = refl
keeps_same (m ∷ ns) (p ∷ ps) now new name same far =
    ap (λ (v : Option Value). kept_of p v ∷ keeps ns ps new) (same m (far zero m refl)) ∙ ap (λ (l : List JobItems). kept_of p (at m now) ∷ l) (keeps_same ns ps now new name same (λ k x e. far (suc k) x e))

pub keeps_set : (ns : List Name) (ps : List Progress) (now new : Option Content) (name : Name) (job : ℕ) (after : Progress) → SameBut name now new
    → ((k : ℕ) → slice_get ns k ≡ Some name → k ≡ job) → slice_get ns job ≡ Some name → keeps ns (set ps job after) new ≡ set (keeps ns ps now) job (kept_of after (at name new))
keeps_set [] ps now new name job after same apart is = cc
keeps_set (m ∷ ns) [] now new name zero after same apart is = refl
keeps_set (m ∷ ns) [] now new name (suc j) after same apart is = refl
keeps_set (m ∷ ns) (p ∷ ps) now new name zero after same apart is =
    let e : ◌≡◌ {A = Option Name} (Some m) (Some name) = is in let here : m ≡ name = cc in
    ap (λ (x : Name). kept_of after (at x new) ∷ keeps ns ps new) here
    ∙ ap (λ (l : List JobItems). kept_of after (at name new) ∷ l) (keeps_same ns ps now new name same (λ k x at_k same_name. let none : suc k ≡ zero = apart (suc k) (at_k ∙ ap (λ (y : Name). Some y) same_name) in cc))
keeps_set (m ∷ ns) (p ∷ ps) now new name (suc j) after same apart is =
    let far : m ≢ name = λ (e : m ≡ name). let none : zero ≡ suc j = apart zero (ap (λ (y : Name). Some y) e) in cc in
    ap (λ (v : Option Value). kept_of p v ∷ keeps ns (set ps j after) new) (same m far)
    ∙ ap (λ (l : List JobItems). kept_of p (at m now) ∷ l) (keeps_set ns ps now new name j after same (λ k e. let s : suc k ≡ suc j = apart (suc k) e in omega (arith, s)) is)

-- ---- how much is held

-- the bytes of a job are as many as it counts
long : (begun : Bool) (n c : ℕ) (v : Option Value) → (begun ≡ false → (n ≡ 0) × (c ≡ 0)) → (begun ≡ true → IfSome v (λ w. IsSomeAnd w (λ b. length b ≡ n + c)))
    → IfSome (option_map (λ (w : Value). if begun then unwrap_or w [] else []) v) (λ b. length b ≡ n + c)
long begun n c None none bytes = tt
long true n c (Some None) none bytes = absurd (bytes refl)
long true n c (Some (Some b)) none bytes = bytes refl
long false n c (Some w) none bytes = let a = none refl in omega arith

pub long_job : (p : Progress) (v : Option Value) → IsKept p v → IfSome (job_bytes p v) (λ b. length b ≡ total p.ended + p.count)
long_job p v k = long p.begun (total p.ended) p.count v k.none k.bytes

pub length_dones : (es : List EndedItem) (b : Option (List ℕ)) → length (dones es b) ≡ length es
length_dones [] b = refl
length_dones (e ∷ es) b = ap suc (length_dones es (option_map (drop e.count) b))

total_append : (es : List EndedItem) (e : EndedItem) → total (es ++ e ∷ []) ≡ total es + e.count
total_append [] e = omega arith
total_append (x ∷ es) e = omega (arith, total_append es e)

abbrev done_at : EndedItem → Option (List ℕ) → Done
done_at e b = record { held = record { count = e.count; known = b }; end = e.how }

-- more bytes after those of the items that have ended
dones_more : (es : List EndedItem) (b : Option (List ℕ)) (bytes : List ℕ) → IfSome b (λ (l : List ℕ). total es ≤ length l) → dones es (option_map (λ (l : List ℕ). l ++ bytes) b) ≡ dones es b
dones_more [] b bytes h = refl
dones_more (e ∷ es) None bytes h = ap (λ (g : List Done). done_at e None ∷ g) (dones_more es None bytes tt)
dones_more (e ∷ es) (Some l) bytes h =
    let within : e.count ≤ length l = omega arith in
    let rest : total es ≤ length (drop e.count l) = omega (arith, length-drop e.count l) in
    ap (λ (x : List ℕ). done_at e (Some x) ∷ dones es (Some (drop e.count (l ++ bytes)))) (take-append-le e.count l bytes within)
    ∙ ap (λ (x : List ℕ). done_at e (Some (take e.count l)) ∷ dones es (Some x)) (drop-append-le e.count l bytes within)
    ∙ ap (λ (g : List Done). done_at e (Some (take e.count l)) ∷ g) (dones_more es (Some (drop e.count l)) bytes rest)

drop_more : (n : ℕ) (b : Option (List ℕ)) (bytes : List ℕ) → IfSome b (λ (l : List ℕ). n ≤ length l) → option_map (drop n) (option_map (λ (l : List ℕ). l ++ bytes) b) ≡ option_map (λ (l : List ℕ). l ++ bytes) (option_map (drop n) b)
drop_more n None bytes h = refl
drop_more n (Some l) bytes h = ap (λ (x : List ℕ). Some x) (drop-append-le n l bytes h)

-- the item that ends has the bytes that are left
dones_end : (es : List EndedItem) (e : EndedItem) (b : Option (List ℕ)) → IfSome b (λ (l : List ℕ). length l ≡ total es + e.count) → dones (es ++ e ∷ []) b ≡ dones es b ++ done_at e (option_map (drop (total es)) b) ∷ []
dones_end [] e None h = refl
dones_end [] e (Some l) h = ap (λ (x : List ℕ). done_at e (Some x) ∷ []) (take_all e.count l (omega arith))
dones_end (x ∷ es) e None h = ap (λ (g : List Done). done_at x None ∷ g) (dones_end es e None tt)
dones_end (x ∷ es) e (Some l) h =
    let rest : length (drop x.count l) ≡ total es + e.count = omega (arith, length-drop x.count l) in
    ap (λ (g : List Done). done_at x (Some (take x.count l)) ∷ g) (dones_end es e (Some (drop x.count l)) rest)
    ∙ ap (λ (y : List ℕ). (done_at x (Some (take x.count l)) ∷ dones es (Some (drop x.count l))) ++ done_at e (Some y) ∷ []) (drop-drop (total es) x.count l)

drop_end : (n c : ℕ) (b : Option (List ℕ)) → IfSome b (λ (l : List ℕ). length l ≡ n + c) → option_map (drop (n + c)) b ≡ option_map (λ (l : List ℕ). []) (option_map (drop n) b)
drop_end n c None h = refl
drop_end n c (Some l) h = ap (λ (x : List ℕ). Some x) (drop_all (n + c) l (omega arith))

below_long : (b : Option (List ℕ)) (n c : ℕ) → IfSome b (λ (l : List ℕ). length l ≡ n + c) → IfSome b (λ (l : List ℕ). n ≤ length l)
below_long None n c h = tt
below_long (Some l) n c h = omega arith

-- ---- a part

bytes_more : (begun : Bool) (v : Option Value) (bytes : List ℕ) → option_map (λ (w : Value). unwrap_or w []) (lengthened_from begun bytes v)
    ≡ option_map (λ (l : List ℕ). l ++ bytes) (option_map (λ (w : Value). if begun then unwrap_or w [] else []) v)
bytes_more begun None bytes = refl
bytes_more begun (Some w) bytes = refl

known_more : (o : Option (List ℕ)) (before bytes : List ℕ) → IfSome o (λ t. t ≡ before) → IfSome (option_map (λ (l : List ℕ). l ++ bytes) o) (λ t. t ≡ before ++ bytes)
known_more None before bytes h = tt
known_more (Some l) before bytes h = ap (λ (x : List ℕ). x ++ bytes) h

pub part_here : (p : Progress) (v new : Option Value) (bytes : List ℕ) (count : ℕ) → IsKept p v → count ≡ p.count + length bytes → new ≡ lengthened_from p.begun bytes v
    → Adds bytes (kept_of p v) (kept_of (grown count p) new)
part_here p v new bytes count k n e =
    let b = job_bytes p v in
    let more : job_bytes (grown count p) new ≡ option_map (λ (l : List ℕ). l ++ bytes) b = ap (option_map (λ (w : Value). unwrap_or w [])) e ∙ bytes_more p.begun v bytes in
    let fits : IfSome b (λ (l : List ℕ). total p.ended ≤ length l) = below_long b (total p.ended) p.count (long_job p v k) in
    record {
      done = ap (dones p.ended) more ∙ dones_more p.ended b bytes fits;
      held = λ before h. (
        n ∙ ap (λ (m : ℕ). m + length bytes) h.0 ∙ sym (length-append before bytes),
        subst (λ (o : Option (List ℕ)). IfSome o (λ t. t ≡ before ++ bytes)) (sym (ap (option_map (drop (total p.ended))) more ∙ drop_more (total p.ended) b bytes fits)) (known_more (option_map (drop (total p.ended)) b) before bytes h.1),
      );
    }

counts_more : (begun : Bool) (v : Option Value) (bytes : List ℕ) (n c : ℕ) → IfSome (option_map (λ (w : Value). if begun then unwrap_or w [] else []) v) (λ b. length b ≡ n + c)
    → IfSome (lengthened_from begun bytes v) (λ w. IsSomeAnd w (λ b. length b ≡ n + (c + length bytes)))
counts_more begun None bytes n c h = tt
counts_more begun (Some w) bytes n c h = omega (arith, length-append (if begun then unwrap_or w [] else []) bytes)

pub part_kept : (p : Progress) (v new : Option Value) (bytes : List ℕ) (count : ℕ) → IsKept p v → count ≡ p.count + length bytes → new ≡ lengthened_from p.begun bytes v → IsKept (grown count p) new
part_kept p v new bytes count k n e = record {
  none = λ h. cc;
  bytes = λ h. subst (λ (m : ℕ). IfSome new (λ w. IsSomeAnd w (λ b. length b ≡ total p.ended + m))) (sym n)
      (subst (λ (x : Option Value). IfSome x (λ w. IsSomeAnd w (λ b. length b ≡ total p.ended + (p.count + length bytes)))) (sym e) (counts_more p.begun v bytes (total p.ended) p.count (long_job p v k)));
}

-- ---- an end

nothing_known : (o : Option (List ℕ)) → IfSome (option_map (λ (l : List ℕ). let none : List ℕ = [] in none) o) (λ t. t ≡ [])
nothing_known None = tt
nothing_known (Some l) = refl

pub end_here : (p : Progress) (v : Option Value) (how : ItemEnd) → IsKept p v → Ends how (kept_of p v) (kept_of (after_end how p) v)
end_here p v how k =
    let b = job_bytes p v in
    let e : EndedItem = record { count = p.count; how = how } in
    let fits : IfSome b (λ (l : List ℕ). length l ≡ total p.ended + p.count) = long_job p v k in
    let rest : option_map (drop (total (p.ended ++ e ∷ []))) b ≡ option_map (λ (l : List ℕ). []) (option_map (drop (total p.ended)) b) = ap (λ (n : ℕ). option_map (drop n) b) (total_append p.ended e) ∙ drop_end (total p.ended) p.count b fits in
    record {
      done = dones_end p.ended e b fits;
      held = (refl, subst (λ (o : Option (List ℕ)). IfSome o (λ t. t ≡ [])) (sym rest) (nothing_known (option_map (drop (total p.ended)) b)));
    }

pub end_kept : (p : Progress) (v : Option Value) (how : ItemEnd) → IsKept p v → IsKept (after_end how p) v
end_kept p v how k =
    let e : EndedItem = record { count = p.count; how = how } in
    let sums : total (p.ended ++ e ∷ []) ≡ total p.ended + p.count = total_append p.ended e in
    record {
      none = λ h. let n = k.none h in (omega arith, refl);
      bytes = λ h. subst (λ (n : ℕ). IfSome v (λ w. IsSomeAnd w (λ b. length b ≡ n))) (let s : total p.ended + p.count ≡ total (p.ended ++ e ∷ []) + 0 = omega arith in s) (k.bytes h);
    }

-- ---- nothing

none_known : (v : Option Value) → IfSome (option_map (drop 0) (option_map (λ (w : Value). let none : List ℕ = [] in none) v)) (λ t. t ≡ [])
none_known None = tt
none_known (Some w) = refl

pub again_here : (v : Option Value) → IsFresh (kept_of nothing v)
again_here v = record { done = refl; held = (refl, none_known v) }

pub again_kept : (v : Option Value) → IsKept nothing v
again_kept v = record { none = λ h. (refl, refl); bytes = λ h. cc }

-- ---- one job's progress

get_map : {A X : Type 0} (f : A → X) (xs : List A) (i : ℕ) (d : A) (x : X) → slice_get (map f xs) i ≡ Some x → f (get_or xs i d) ≡ x
get_map f [] i d x e = cc
get_map f (a ∷ xs) zero d x e = cc
get_map f (a ∷ xs) (suc i) d x e = get_map f xs i d x e

pub becomes_by : (f : Progress → Progress) (xs : List Stored) (i : ℕ) (a b : Stored) → a ≡ get_or xs i a → progress_of b ≡ f (progress_of a)
    → IfSome (slice_get (map progress_of xs) i) (λ p. Becomes i (f p) (map progress_of xs) (map progress_of (set xs i b)))
becomes_by f xs i a b is e = go (slice_get (map progress_of xs) i) refl
  where
    go : (o : Option Progress) → slice_get (map progress_of xs) i ≡ o → IfSome o (λ p. Becomes i (f p) (map progress_of xs) (map progress_of (set xs i b)))
    go None was = tt
    go (Some p) was = record { is = map-set progress_of xs i b ∙ ap (set (map progress_of xs) i) (e ∙ ap f (ap progress_of is ∙ get_map progress_of xs i a p was)) }

-- a job of which something is held has its name and its progress
pub model : (ns : List Name) (ps : List Progress) (now : Option Content) (j : ℕ) (k : JobItems) → slice_get (keeps ns ps now) j ≡ Some k → (n : Name) × (p : Progress) × (slice_get ns j ≡ Some n) × (slice_get ps j ≡ Some p)
model [] ps now j k e = cc
model (n ∷ ns) [] now j k e = cc
model (n ∷ ns) (p ∷ ps) now zero k e = (n, p, refl, refl)
model (n ∷ ns) (p ∷ ps) now (suc j) k e = model ns ps now j k e
