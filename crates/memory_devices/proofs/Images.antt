-- What a crash leaves is an image of the disk.
use Rattle.std.proofs.Common.{◌≡◌, ◌⊎◌, inl, inr, ◌<◌, ◌-◌, ℕ, zero, suc, Bool, true, false, cond, ◌&&◌, not, ⊎_elim, bytes_eq, List, [], ◌∷◌, ◌++◌, length, Option, Some, None, IsSome, String, Vec, refl, sym, ◌∙◌, ap, subst, arith, length-append, get_or, take, Result, Ok, Err, string_bytes}
use Rattle.std.specs.Prelude.{IsTrue, is_some, nat_lt, ◌↔◌, IfOk, OnOk, map, Contains}
use Rattle.std.specs.declared.alloc.Global.{Global}
use Rattle.std.proofs.Math.Path.{fun_ext}
use Rattle.std.proofs.lemmas.Bool.Decides.{nat_tests}
use Rattle.base_devices.specs.Content.{Name, Value, Content, set_at}
use Rattle.base_devices.specs.Moments.{IsImage}
use Rattle.memory_devices.specs.declared.change.Change.{Change}
use Rattle.memory_devices.specs.declared.change.Change.TheVariants.{Begun, Appended, Unsynced, Synced, Renamed, Removed, Swept}
use Rattle.memory_devices.specs.declared.change.Sweep.TheVariants.{SyncFolders, SyncFolder, Sync}
use Rattle.memory_devices.specs.State.{State, step, after, first_state, state_at, Among, view_at, given_at, takes_in}
use Rattle.memory_devices.specs.Replay.{NameStates, states_of, value_of}
use Rattle.memory_devices.specs.Image.{picked, left_of, left_value, positions_at, image_of, are_unsynced, are_kept}
use Rattle.memory_devices.proofs.Left.{given_unsynced, position_kept}

-- ---- each name keeps a value

abbrev Named : Type 0
Named = String Global × Vec ℕ Global

abbrev IsFull : State → Type 0
IsFull s = (q : Name) → 0 < length (s.kept q)

more_full : (xs : List Value) (x : Value) → 0 < length (xs ++ x ∷ [])
more_full xs x = omega (arith, length-append xs (x ∷ []))

full_cond : (b : Bool) (xs ys : List Value) → 0 < length xs → 0 < length ys → 0 < length (cond b xs ys)
full_cond true xs ys x y = x
full_cond false xs ys x y = y

set_full : (n : Name) (xs : List Value) (x : Value) (kept : Name → List Value) → ((q : Name) → 0 < length (kept q)) → (q : Name) → 0 < length (set_at n (xs ++ x ∷ []) kept q)
set_full n xs x kept full q = full_cond (bytes_eq n q) (xs ++ x ∷ []) (kept q) (more_full xs x) (full q)

step_full : (c : Change) (s : State) → IsFull s → IsFull (step c s)
step_full (Begun name) s full = full
step_full (Appended name bytes) s full = full
step_full (Unsynced name) s full = full
step_full (Synced name) s full = let n = string_bytes name in set_full n (s.kept n) (s.now n) s.kept full
step_full (Renamed from to) s full =
    let a = string_bytes from in
    let b = string_bytes to in
    set_full b (s.kept b) (s.now a) (set_at a (s.kept a ++ None ∷ []) s.kept) (set_full a (s.kept a) None s.kept full)
step_full (Removed name) s full = let n = string_bytes name in set_full n (s.kept n) None s.kept full
step_full (Swept SyncFolders folder) s full = λ q. full_cond (takes_in SyncFolders (string_bytes folder) q && not (s.unsynced q)) (s.now q ∷ []) (s.kept q) (omega arith) (full q)
step_full (Swept SyncFolder folder) s full = λ q. full_cond (takes_in SyncFolder (string_bytes folder) q && not (s.unsynced q)) (s.now q ∷ []) (s.kept q) (omega arith) (full q)
step_full (Swept Sync folder) s full = λ q. full_cond (takes_in Sync (string_bytes folder) q && (s.unsynced q && is_some (s.now q))) (s.kept q ++ s.now q ∷ []) (s.kept q) (more_full (s.kept q) (s.now q)) (full q)

after_full : (cs : List Change) (s : State) → IsFull s → IsFull (after s cs)
after_full [] s full = full
after_full (c ∷ cs) s full = after_full cs (step c s) (step_full c s full)

-- ---- the kept value at a position

among_at : (xs : List Value) (i : ℕ) → i < length xs → Among (get_or xs i None) xs
among_at [] i within = absurd (omega (arith, within))
among_at (x ∷ xs) zero within = inl refl
among_at (x ∷ xs) (suc i) within = inr (among_at xs i (omega (arith, within)))

picked_among : (kept : List Value) (position : Option ℕ) → 0 < length kept → ((p : ℕ) → position ≡ Some p → nat_lt p (length kept) ≡ true) → Among (picked kept position) kept
picked_among kept None full within = among_at kept (length kept - 1) (omega (arith, full))
picked_among kept (Some p) full within = among_at kept p (grind (arith, nat_tests, within p refl))

module _ (given : List (String Global × Vec ℕ Global)) (cs : List Change) (t : ℕ) where
  abbrev then : State
  then = state_at (first_state given) cs t

  full : IsFull then
  full = after_full (take t cs) (first_state given) (λ q. omega arith)

  pub image_is_left : (choice : List (String Global × ℕ)) (unsynced : List (String Global × Vec ℕ Global)) → are_unsynced (states_of then) unsynced ≡ true → are_kept (states_of then) choice ≡ true
      → IsImage (view_at (first_state given) cs) t (image_of (states_of then) choice unsynced)
  image_is_left choice unsynced all_unsynced all_kept name =
      one (given_at unsynced name) (given_unsynced (states_of then) unsynced all_unsynced name)
    where
      one : (v : Value) → (IsSome v → then.unsynced name ≡ true)
          → Among (left_value (states_of then name) (positions_at choice name) v) (then.kept name) ⊎ (IsTrue (then.unsynced name) × IsSome (left_value (states_of then name) (positions_at choice name) v))
      one None unsynced = inl (picked_among (then.kept name) (positions_at choice name) (full name) (λ p. position_kept (states_of then) choice all_kept name p))
      one (Some bytes) unsynced = inr (unsynced refl, refl)

  -- an image at a name: a position of a kept value, or the bytes of an unsynced name
  pub record LeftBy (f : Content) (name : Name) : Type 0 where
    pub position : Option ℕ
    pub bytes : Value
    pub kept : (p : ℕ) → position ≡ Some p → p < length (then.kept name)
    pub unsynced : IsSome bytes → then.unsynced name ≡ true
    pub left : left_value (states_of then name) position bytes ≡ f name

  place_of : (v : Value) (xs : List Value) → Among v xs → (p : ℕ) × (p < length xs) × (get_or xs p None ≡ v)
  place_of v [] none = absurd none
  place_of v (x ∷ xs) (inl is) = (0, omega arith, sym is)
  place_of v (x ∷ xs) (inr there) = let p = place_of v xs there in (suc p.0, omega (arith, p.1), p.2)

  -- each image is left by some positions and bytes
  pub image_by : (f : Content) → IsImage (view_at (first_state given) cs) t f → (name : Name) → LeftBy f name
  image_by f image name = ⊎_elim
      (λ among. let p = place_of (f name) (then.kept name) among in record { position = Some p.0; bytes = None; kept = λ q is. subst (λ (n : ℕ). n < length (then.kept name)) (cc is) p.1; unsynced = λ some. cc some; left = p.2 })
      (λ any. record { position = None; bytes = f name; kept = λ q is. cc is; unsynced = λ some. any.0; left = given_left (f name) any.1 })
      (image name)
    where
      given_left : (v : Value) → IsSome v → left_value (states_of then name) None v ≡ v
      given_left None some = cc some
      given_left (Some bytes) some = refl

  -- each image as a whole: positions of kept values, and bytes of unsynced names alone
  pub each_image : (f : Content) → IsImage (view_at (first_state given) cs) t f
      → (positions : Name → Option ℕ) × (bytes : Content) × ((q : Name) (p : ℕ) → positions q ≡ Some p → p < length (then.kept q)) × ((q : Name) → IsSome (bytes q) → then.unsynced q ≡ true) × (left_of (states_of then) positions bytes ≡ f)
  each_image f image = (
    λ q. (image_by f image q).position,
    λ q. (image_by f image q).bytes,
    λ q. (image_by f image q).kept,
    λ q. (image_by f image q).unsynced,
    fun_ext (λ q. (image_by f image q).left),
  )

  -- ---- what the calls return

  pub image_known : {E : Type 0} (result : Result (Vec Named Global) E) (states : NameStates) (choice : List (String Global × ℕ)) (unsynced : List Named) → states ≡ states_of then
      → IfOk result (λ names. given_at names.items ≡ image_of states choice unsynced) → OnOk result (are_unsynced states unsynced ≡ true) → OnOk result (are_kept states choice ≡ true)
      → IfOk result (λ names. IsImage (view_at (first_state given) cs) t (given_at names.items))
  image_known (Ok names) states choice unsynced same content all_unsynced all_kept =
      subst (λ (f : Content). IsImage (view_at (first_state given) cs) t f) (sym (content ∙ ap (λ (g : NameStates). image_of g choice unsynced) same))
      (image_is_left choice unsynced (sym (ap (λ (g : NameStates). are_unsynced g unsynced) same) ∙ all_unsynced) (sym (ap (λ (g : NameStates). are_kept g choice) same) ∙ all_kept))
  image_known (Err e) states choice unsynced same content all_unsynced all_kept = tt

  pub unsynced_known : {E : Type 0} (result : Result (Vec (String Global) Global) E) (states : NameStates) → states ≡ states_of then
      → IfOk result (λ names. (n : Name) → Contains (map string_bytes names.items) n ↔ ((states n).unsynced ≡ true)) → IfOk result (λ names. (n : Name) → Contains (map string_bytes names.items) n ↔ (then.unsynced n ≡ true))
  unsynced_known (Ok names) states same known = λ n. subst (λ (g : NameStates). Contains (map string_bytes names.items) n ↔ ((g n).unsynced ≡ true)) same (known n)
  unsynced_known (Err e) states same known = tt

  pub values_known : {E : Type 0} (result : Result (Vec (Option (Vec ℕ Global)) Global) E) (states : NameStates) (n : Name) → states ≡ states_of then
      → IfOk result (λ values. map value_of values.items ≡ (states n).kept) → IfOk result (λ values. map value_of values.items ≡ then.kept n)
  values_known (Ok values) states n same known = known ∙ ap (λ (g : NameStates). (g n).kept) same
  values_known (Err e) states n same known = tt

  pub kept_known : {E : Type 0} (result : Result (Vec (Option (Vec ℕ Global)) Global) E) (n : Name)
      → IfOk result (λ values. map value_of values.items ≡ then.kept n) → IfOk result (λ values. (v : Value) → Among v (map value_of values.items) ↔ Among v (then.kept n))
  kept_known (Ok values) n known = λ v. (subst (λ (l : List Value). Among v l) known, subst (λ (l : List Value). Among v l) (sym known))
  kept_known (Err e) n known = tt
