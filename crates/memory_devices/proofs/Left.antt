-- What is known of the traces of a disk in memory: its unsynced names, and what a crash leaves.
use Rattle.std.proofs.Common.{◌≡◌, ◌⊎◌, inl, inr, ⊎_elim, ◌+◌, ◌<◌, ℕ, suc, Bool, true, false, cond, ◌&&◌, ◌||◌, List, [], ◌∷◌, ◌++◌, length, take, get_or, Option, Some, None, IsSome, zero, String, Vec, string_bytes, bytes_eq, refl, sym, ◌∙◌, ap, subst, arith, append_assoc}
use Rattle.std.specs.Prelude.{◌↔◌, fold, filter, map, option_map, Contains, All, is_some, nat_lt}
use Rattle.std.specs.List.{AllByRecursion}
use Rattle.std.proofs.lemmas.List.Sums.{fold_more}
use Rattle.std.proofs.lemmas.List.{map-append}
use Rattle.std.specs.List.{list_any, list_all}
use Rattle.std.specs.declared.alloc.Global.{Global}
use Rattle.std.specs.String.{string_cmp, string_cmp_total}
use Rattle.std.specs.BTreeMap.{IsOrdered, is_at}
use Rattle.std.specs.Map.{lookup}
use Rattle.std.proofs.Math.Path.{fun_ext}
use Rattle.std.proofs.lemmas.Slice.Eq.{bytes_eq-Decides}
use Rattle.std.proofs.lemmas.Map.Text.{is_eq-slice_cmp, text_cmp}
use Rattle.std.proofs.lemmas.Map.Views.{All-found}
use Rattle.std.proofs.lemmas.List.Elements.{All-contains, All-map, All-filter, filter_passes, Contains-append_right, Contains-push, Contains-append_left}
use Rattle.base_devices.specs.Content.{Name, Value, Content, set_at, put}
use Rattle.memory_devices.specs.declared.trace.Trace.{Trace}
use Rattle.memory_devices.specs.State.{given_at}
use Rattle.memory_devices.specs.Replay.{first_at, NameState, NameStates, state_of_trace, found_state, states_in}
use Rattle.memory_devices.specs.Image.{are_unsynced, are_kept, picked, left_of, unsynced_names, positions_at, left_value, left_names, with_value, named}
use Rattle.memory_devices.proofs.Replayed.{Traces, eq_sym, absent}

abbrev Entry : Type 0
Entry = String Global × Trace

abbrev key : Entry → Name
key e = string_bytes e.0

abbrev marked : Entry → Bool
marked e = (state_of_trace e.1).unsynced

two : (b : Bool) → (b ≡ true) ⊎ (b ≡ false)
two true = inl refl
two false = inr refl

-- ---- the unsynced names

kept_here : (b : Bool) (e : Entry) (l : List Entry) → b ≡ true → Contains (map key (cond b (e ∷ l) l)) (key e)
kept_here true e l is = Contains-append_left (key e ∷ []) (map key l) (key e) (Contains-push [] (key e))
kept_here false e l is = cc

kept_later : (b : Bool) (e : Entry) (l : List Entry) (q : Name) → Contains (map key l) q → Contains (map key (cond b (e ∷ l) l)) q
kept_later true e l q has = Contains-append_right (key e ∷ []) (map key l) q has
kept_later false e l q has = has

abbrev at_name : List Entry → Name → NameState
at_name es q = found_state (option_map state_of_trace (lookup (is_at (text_cmp {Y = Global} q)) es))

-- the state of the first entry's name, and of another
at_first : (e : Entry) (es : List Entry) (q : Name) (b : Bool) → bytes_eq q (key e) ≡ b → at_name (e ∷ es) q ≡ found_state (option_map state_of_trace (cond b (Some e.1) (lookup (is_at (text_cmp {Y = Global} q)) es)))
at_first e es q b is = ap (λ c. found_state (option_map state_of_trace (cond c (Some e.1) (lookup (is_at (text_cmp {Y = Global} q)) es)))) (is_eq-slice_cmp q (key e) ∙ is)

unsynced_listed : (es : List Entry) (q : Name) → (at_name es q).unsynced ≡ true → Contains (unsynced_names es) q
unsynced_listed [] q is = cc
unsynced_listed (e ∷ es) q is = ⊎_elim
    (λ (here : bytes_eq q (key e) ≡ true). subst (λ (n : Name). Contains (unsynced_names (e ∷ es)) n) (sym ((bytes_eq-Decides q (key e)).0 here))
    (kept_here (marked e) e (filter marked es) (sym (ap (λ (s : NameState). s.unsynced) (at_first e es q true here)) ∙ is)))
    (λ (apart : bytes_eq q (key e) ≡ false). kept_later (marked e) e (filter marked es) q (unsynced_listed es q (sym (ap (λ (s : NameState). s.unsynced) (at_first e es q false apart)) ∙ is)))
    (two (bytes_eq q (key e)))

module _ (m : Traces) (ordered : IsOrdered string_cmp m) where
  -- each entry is what a look-up finds
  pub entry_found : All (λ e. states_in m (key e) ≡ state_of_trace e.1) m.entries
  entry_found k d within = ap (λ (o : Option Trace). found_state (option_map state_of_trace o)) (All-found string_cmp_total m ordered k d within)

  listed_unsynced : (q : Name) → Contains (unsynced_names m.entries) q → (states_in m q).unsynced ≡ true
  listed_unsynced q has = All-contains (λ n. (states_in m n).unsynced ≡ true) (unsynced_names m.entries) q (All-map (λ n. (states_in m n).unsynced ≡ true) key (filter marked m.entries) all) has
    where
      all : All (λ e. (states_in m (key e)).unsynced ≡ true) (filter marked m.entries)
      all k d within = ap (λ (s : NameState). s.unsynced) (All-filter marked (λ e. states_in m (key e) ≡ state_of_trace e.1) m.entries entry_found k d within) ∙ filter_passes marked m.entries k d within

  pub unsynced_iff : (ns : List Name) → ns ≡ unsynced_names m.entries → (q : Name) → Contains ns q ↔ ((states_in m q).unsynced ≡ true)
  unsynced_iff ns are q = (λ has. listed_unsynced q (subst (λ (l : List Name). Contains l q) are has), λ is. subst (λ (l : List Name). Contains l q) (sym are) (unsynced_listed m.entries q is))

-- ---- the positions, one after another

abbrev Chosen : Type 0
Chosen = String Global × ℕ

pub position_more : (choice : List Chosen) (i : ℕ) (x : Chosen) (f g : Name → Option ℕ) (name : Name) (position : ℕ) → i < length choice → x ≡ get_or choice i x → name ≡ string_bytes x.0 → position ≡ x.1
    → g ≡ set_at name (Some position) f → f ≡ positions_at (take i choice) → g ≡ positions_at (take (i + 1) choice)
position_more choice i x f g name position within is called value puts so_far =
    puts
    ∙ ap (λ (n : Name). set_at {X = Option ℕ} n (Some position) f) called
    ∙ ap (λ (p : ℕ). set_at {X = Option ℕ} (string_bytes x.0) (Some p) f) value
    ∙ ap (λ (h : Name → Option ℕ). set_at {X = Option ℕ} (string_bytes x.0) (Some x.1) h) so_far
    ∙ ap (λ (y : Chosen). set_at {X = Option ℕ} (string_bytes y.0) (Some y.1) (positions_at (take i choice))) is
    ∙ sym (fold_more (λ (h : Name → Option ℕ) (y : Chosen). set_at (string_bytes y.0) (Some y.1) h) (λ _. None) choice i x within)

-- ---- what a crash leaves, name by name

abbrev Named : Type 0
Named = String Global × Vec ℕ Global

module _ (positions : Name → Option ℕ) (given : Content) where
  abbrev value_at : Entry → Value
  value_at e = left_value (state_of_trace e.1) (positions (key e)) (given (key e))

  pub left_pushed : (s t : List Entry) (e : Entry) → s ≡ e ∷ t → (xs ys : List Named) (x : Named) (name : Name) (whole : List (Name × List ℕ)) → ys ≡ xs ++ x ∷ [] → string_bytes x.0 ≡ string_bytes e.0 → name ≡ string_bytes e.0
      → left_value (state_of_trace e.1) (positions name) (given name) ≡ Some x.1.items → named xs ++ left_names positions given s ≡ whole → named ys ++ left_names positions given t ≡ whole
  left_pushed s t e next xs ys x name whole more called is value so_far =
      ap (λ (l : List Named). named l ++ left_names positions given t) more
      ∙ ap (λ (l : List (Name × List ℕ)). l ++ left_names positions given t) (map-append (λ (y : Named). (string_bytes y.0, y.1.items)) xs (x ∷ []))
      ∙ append_assoc (named xs) ((string_bytes x.0, x.1.items) ∷ []) (left_names positions given t)
      ∙ ap (λ (n : Name). named xs ++ (n, x.1.items) ∷ left_names positions given t) called
      ∙ sym (ap (λ (v : Value). named xs ++ with_value (key e) v (left_names positions given t)) (sym (ap (λ (n : Name). left_value (state_of_trace e.1) (positions n) (given n)) is) ∙ value))
      ∙ sym (ap (λ (l : List Entry). named xs ++ left_names positions given l) next)
      ∙ so_far

  pub left_skipped : (s t : List Entry) (e : Entry) → s ≡ e ∷ t → (xs : List Named) (name : Name) (whole : List (Name × List ℕ)) → name ≡ string_bytes e.0
      → left_value (state_of_trace e.1) (positions name) (given name) ≡ None → named xs ++ left_names positions given s ≡ whole → named xs ++ left_names positions given t ≡ whole
  left_skipped s t e next xs name whole is value so_far =
      sym (ap (λ (v : Value). named xs ++ with_value (key e) v (left_names positions given t)) (sym (ap (λ (n : Name). left_value (state_of_trace e.1) (positions n) (given n)) is) ∙ value))
      ∙ sym (ap (λ (l : List Entry). named xs ++ left_names positions given l) next)
      ∙ so_far

absent_value : (b : Bool) (o w : Value) → o ≡ None → cond (b && is_some o) o w ≡ w
absent_value b None w is = no b
  where
    no : (b : Bool) → cond (b && false) None w ≡ w
    no true = refl
    no false = refl
absent_value b (Some bytes) w is = cc is

-- a first entry without a value, and one with a value
none_first : (b c : Bool) (o w : Value) → (b ≡ true → o ≡ None) → cond (c && is_some o) o w ≡ cond ((b || c) && is_some o) o w
none_first true c o w is = absent_value c o w (is refl) ∙ sym (absent_value true o w (is refl))
none_first false c o w is = refl

some_first : (b t c : Bool) (o w : Value) (bytes : List ℕ) → t ≡ b → (b ≡ true → o ≡ Some bytes) → cond (c && is_some o) o (cond t (Some bytes) w) ≡ cond ((b || c) && is_some o) o w
some_first true t c o w bytes same is =
    ap (λ u. cond (c && is_some o) o (cond u (Some bytes) w)) same
    ∙ ap (λ (v : Value). cond (c && is_some v) v (Some bytes)) (is refl)
    ∙ both c
    ∙ sym (ap (λ (v : Value). cond (is_some v) v w) (is refl))
  where
    both : (c : Bool) → cond (c && true) (Some bytes) (Some bytes) ≡ Some bytes
    both true = refl
    both false = refl
some_first false t c o w bytes same is = ap (λ u. cond (c && is_some o) o (cond u (Some bytes) w)) same

-- a list of names with their bytes, as a content
abbrev laid : List (Name × List ℕ) → Content → Content
laid ps f = fold (λ g p. put p.0 (Some p.1) g) f ps

as_named : (xs : List Named) (f : Content) → fold (λ g x. put (string_bytes x.0) (Some x.1.items) g) f xs ≡ laid (named xs) f
as_named [] f = refl
as_named (x ∷ xs) f = as_named xs (put (string_bytes x.0) (Some x.1.items) f)

module _ (states : NameStates) (positions : Name → Option ℕ) (given : Content) where
  abbrev image_at : Name → Value
  image_at = left_of states positions given

  -- the names of these entries are laid out, and no others
  abbrev known_at : List Entry → Content → Name → Value
  known_at es f q = cond (list_any (λ e. bytes_eq q (key e)) es && is_some (image_at q)) (image_at q) (f q)

  laid_left : (es : List Entry) (f : Content) (q : Name) → AllByRecursion (λ e. states (key e) ≡ state_of_trace e.1) es → laid (left_names positions given es) f q ≡ known_at es f q
  laid_left [] f q all = refl
  laid_left (e ∷ es) f q all = one (left_value (state_of_trace e.1) (positions (key e)) (given (key e))) (ap (λ (s : NameState). left_value s (positions (key e)) (given (key e))) all.0)
      (λ g. laid_left es g q all.1)
    where
      -- the first entry's value is the one that the image has at its name
      one : (v : Value) → image_at (key e) ≡ v → ((g : Content) → laid (left_names positions given es) g q ≡ known_at es g q) → laid (with_value (key e) v (left_names positions given es)) f q ≡ known_at (e ∷ es) f q
      one None is later = later f ∙ none_first (bytes_eq q (key e)) (list_any (λ e. bytes_eq q (key e)) es) (image_at q) (f q) (λ b. ap image_at ((bytes_eq-Decides q (key e)).0 b) ∙ is)
      one (Some bytes) is later = later (put (key e) (Some bytes) f)
          ∙ some_first (bytes_eq q (key e)) (bytes_eq (key e) q) (list_any (λ e. bytes_eq q (key e)) es) (image_at q) (f q) bytes (eq_sym (key e) q) (λ b. ap image_at ((bytes_eq-Decides q (key e)).0 b) ∙ is)

pick_none : (position : Option ℕ) → picked (None ∷ []) position ≡ None
pick_none None = refl
pick_none (Some zero) = refl
pick_none (Some (suc n)) = refl

none_unsynced : (v : Value) → (IsSome v → false ≡ true) → v ≡ None
none_unsynced None unsynced = refl
none_unsynced (Some bytes) unsynced = cc (unsynced refl)

all_in : {X : Type 0} (P : X → Type 0) (xs : List X) → All P xs → AllByRecursion P xs
all_in P [] all = tt
all_in P (x ∷ xs) all = (all 0 x (omega arith), all_in P xs (λ k d within. all (suc k) d (omega (arith, within))))

-- what is left of all the traces, as a content
pub image_laid : (m : Traces) → IsOrdered string_cmp m → (positions : Name → Option ℕ) (given : Content) → ((q : Name) → IsSome (given q) → (states_in m q).unsynced ≡ true)
    → (xs : List Named) → named xs ≡ left_names positions given m.entries → given_at xs ≡ left_of (states_in m) positions given
image_laid m ordered positions given unsynced xs are = fun_ext (λ q.
    ap (λ (f : Content). f q) (as_named xs (λ _. None))
    ∙ ap (λ (l : List (Name × List ℕ)). laid l (λ _. None) q) are
    ∙ laid_left (states_in m) positions given m.entries (λ _. None) q (all_in (λ e. states_in m (key e) ≡ state_of_trace e.1) m.entries (entry_found m ordered))
    ∙ all_known (list_any (λ e. bytes_eq q (key e)) m.entries) (image_at (states_in m) positions given q) (no_trace q))
  where
    all_known : (c : Bool) (o : Value) → (c ≡ false → o ≡ None) → cond (c && is_some o) o None ≡ o
    all_known true None none = refl
    all_known true (Some bytes) none = refl
    all_known false o none = sym (none refl)

    no_trace : (q : Name) → list_any (λ e. bytes_eq q (key e)) m.entries ≡ false → image_at (states_in m) positions given q ≡ None
    no_trace q none =
        let is = absent m q none in
        ap (λ (s : NameState). left_value s (positions q) (given q)) is
        ∙ ap (λ (v : Value). left_value (first_at None) (positions q) v) (none_unsynced (given q) (λ some. sym (ap (λ (s : NameState). s.unsynced) is) ∙ unsynced q some))
        ∙ pick_none (positions q)

-- ---- what was checked of a choice

module _ {X V : Type 0} (key : X → Name) (value : X → V) (passes : Name → V → Bool) where
  -- the last value of a name passes, where each value does
  last_passes : (xs : List X) (f : Name → Option V) (q : Name) (v : V) → fold (λ g x. set_at (key x) (Some (value x)) g) f xs q ≡ Some v → list_all (λ x. passes (key x) (value x)) xs ≡ true
      → (f q ≡ Some v → passes q v ≡ true) → passes q v ≡ true
  last_passes [] f q v is all first = first is
  last_passes (x ∷ xs) f q v is all first = one (passes (key x) (value x)) refl all (λ rest at. last_passes xs (set_at (key x) (Some (value x)) f) q v is rest at)
    where
      at_first_name : (b : Bool) → (b ≡ true → key x ≡ q) → passes (key x) (value x) ≡ true → cond b (Some (value x)) (f q) ≡ Some v → passes q v ≡ true
      at_first_name true same pass here = subst (λ (w : V). passes q w ≡ true) (cc here) (subst (λ (n : Name). passes n (value x) ≡ true) (same refl) pass)
      at_first_name false same pass here = first here

      one : (b : Bool) → passes (key x) (value x) ≡ b → (b && list_all (λ x. passes (key x) (value x)) xs) ≡ true
          → (list_all (λ x. passes (key x) (value x)) xs ≡ true → (cond (bytes_eq (key x) q) (Some (value x)) (f q) ≡ Some v → passes q v ≡ true) → passes q v ≡ true) → passes q v ≡ true
      one true pass rest others = others rest (at_first_name (bytes_eq (key x) q) (bytes_eq-Decides (key x) q).0 pass)
      one false pass rest others = cc rest

some_value : (v : Value) → IsSome v → (bytes : List ℕ) × (v ≡ Some bytes)
some_value None some = cc some
some_value (Some bytes) some = (bytes, refl)

pub given_unsynced : (states : NameStates) (unsynced : List Named) → are_unsynced states unsynced ≡ true → (q : Name) → IsSome (given_at unsynced q) → (states q).unsynced ≡ true
given_unsynced states unsynced all q some =
    let v = some_value (given_at unsynced q) some in
    last_passes (λ (x : Named). string_bytes x.0) (λ (x : Named). x.1.items) (λ n _. (states n).unsynced) unsynced (λ _. None) q v.0 v.1 all (λ is. cc is)

pub position_kept : (states : NameStates) (choice : List Chosen) → are_kept states choice ≡ true → (q : Name) (p : ℕ) → positions_at choice q ≡ Some p → nat_lt p (length (states q).kept) ≡ true
position_kept states choice all q p is =
    last_passes (λ (x : Chosen). string_bytes x.0) (λ (x : Chosen). x.1) (λ n p. nat_lt p (length (states n).kept)) choice (λ _. None) q p is all (λ is. cc is)
