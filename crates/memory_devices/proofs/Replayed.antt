-- The disk model name by name, against the model as a whole.
use Rattle.std.proofs.Common.{◌≡◌, ◌+◌, ◌<◌, length, take, get_or, Result, ℕ, Bool, true, false, cond, ◌&&◌, ◌||◌, not, List, [], ◌∷◌, ◌++◌, Option, Some, None, String, string_bytes, bytes_eq, refl, sym, ◌∙◌, ap, arith}
use Rattle.std.specs.Prelude.{OnOk, fold, filter, map, option_map, is_some}
use Rattle.std.specs.List.{list_any}
use Rattle.std.proofs.lemmas.Result.{on_ok_weaker}
use Rattle.std.specs.declared.alloc.Global.{Global}
use Rattle.std.specs.String.{string_cmp}
use Rattle.std.specs.Ordering.{nat_cmp}
use Rattle.std.specs.Cmp.Lexicographic.{slice_cmp}
use Rattle.std.specs.BTreeMap.{BTreeMap, UpdatesBy}
use Rattle.std.proofs.Math.Path.{fun_ext}
use Rattle.std.proofs.lemmas.List.Sums.{fold_more}
use Rattle.std.proofs.lemmas.Grind.{common_steps}
use Rattle.std.proofs.lemmas.Slice.Eq.{bytes_eq-Decides}
use Rattle.base_devices.specs.Content.{Name, Value, Content, set_at, put}
use Rattle.memory_devices.specs.declared.change.Change.{Change}
use Rattle.memory_devices.specs.declared.change.Change.TheVariants.{Begun, Appended, Unsynced, Synced, Renamed, Removed, Swept}
use Rattle.memory_devices.specs.declared.change.Sweep.{Sweep}
use Rattle.memory_devices.specs.declared.change.Sweep.TheVariants.{SyncFolders, SyncFolder, Sync}
use Rattle.memory_devices.specs.declared.trace.Trace.{Trace}
use Rattle.memory_devices.specs.State.{State, step, after, first_state, given_at, takes_in}
use Rattle.memory_devices.specs.Replay.{NameState, NameStates, first_at, begun_at, appended_at, unsynced_at, synced_at, removed_at, arrived_at, settled_at, all_synced_at, swept_at, changed_at, renamed_at, swept_names, each_swept, names_under, step_at, states_of, state_of_trace, found_state, states_in}
use Rattle.memory_devices.proofs.Maps.{shown_at, shown_put, shown_set}
use Rattle.memory_devices.proofs.Found.{none_found}
use Rattle.memory_devices.proofs.Given.{Given, given_more}

abbrev pub Traces : Type 0
Traces = BTreeMap (String Global) Trace

-- ---- a map of traces after one change

found_cond : (b : Bool) (x y : Option NameState) → found_state (cond b x y) ≡ cond b (found_state x) (found_state y)
found_cond true x y = refl
found_cond false x y = refl

pub traces_put : (m n : Traces) (bs name : Name) (t : Trace) → UpdatesBy string_cmp (λ k. slice_cmp nat_cmp bs (string_bytes k)) m n (Some t) → bs ≡ name
    → states_in n ≡ set_at name (state_of_trace t) (states_in m)
traces_put m n bs name t updates same =
    ap {B = NameStates} (λ (f : Name → Option NameState) (q : Name). found_state (f q)) (shown_put state_of_trace m n bs name (Some t) updates same)
    ∙ fun_ext (λ q. found_cond (bytes_eq name q) (Some (state_of_trace t)) (shown_at state_of_trace m q))

over_cond : (b : Bool) (s : NameState) (x y : Option NameState) → cond b s (found_state (cond b x y)) ≡ cond b s (found_state y)
over_cond true s x y = refl
over_cond false s x y = refl

-- what is put over a name that was taken
pub traces_taken : (m n : Traces) (name : Name) → UpdatesBy string_cmp (λ k. slice_cmp nat_cmp name (string_bytes k)) m n None
    → (s : NameState) → set_at name s (states_in n) ≡ set_at name s (states_in m)
traces_taken m n name updates s =
    ap (λ (f : Name → Option NameState). set_at name s (λ q. found_state (f q))) (shown_set state_of_trace m n name None updates)
    ∙ fun_ext (λ q. over_cond (bytes_eq name q) s None (shown_at state_of_trace m q))

-- a trace that was taken, changed and put back
pub edited : {T E : Type 0} (result : Result T E) (name : Name) (change : NameState → NameState) (f g h : NameStates) (t u : NameState) → OnOk result (h ≡ set_at name u g)
    → ((s : NameState) → set_at name s g ≡ set_at name s f) → t ≡ f name → u ≡ change t → OnOk result (h ≡ changed_at name change f)
edited result name change f g h t u puts others was is = on_ok_weaker result (λ (put : h ≡ set_at name u g). put ∙ others u ∙ ap (λ (s : NameState). set_at name s f) (is ∙ ap change was)) puts

-- the next of the given names
pub first_more : (given : List Given) (i : ℕ) (x : Given) (f g : NameStates) (t : NameState) (name bytes : List ℕ) → i < length given → x ≡ get_or given i x → name ≡ string_bytes x.0 → bytes ≡ x.1.items
    → t ≡ first_at (Some bytes) → g ≡ set_at name t f → f ≡ states_of (first_state (take i given)) → g ≡ states_of (first_state (take (i + 1) given))
first_more given i x f g t name bytes within is called value trace puts so_far =
    puts ∙ ap (λ (s : NameState). set_at name s f) trace ∙ ap (set_at name (first_at (Some bytes))) so_far
    ∙ first_put name bytes (given_at (take i given))
    ∙ ap {B = NameStates} (λ (h : Content) (q : Name). first_at (h q)) (given_more given i x (given_at (take i given)) (put name (Some bytes) (given_at (take i given))) name bytes within is called value refl refl)
  where
    put_cond : (b : Bool) (x y : Value) → cond b (first_at x) (first_at y) ≡ first_at (cond b x y)
    put_cond true x y = refl
    put_cond false x y = refl

    first_put : (name bytes : List ℕ) (h : Content) → set_at name (first_at (Some bytes)) (λ q. first_at (h q)) ≡ (λ q. first_at (put name (Some bytes) h q))
    first_put name bytes h = fun_ext (λ q. put_cond (bytes_eq name q) (Some bytes) (h q))

-- what a helper did for a change
pub known : {T E : Type 0} (result : Result T E) (f g : NameStates) (change c : Change) (x : NameStates) → change ≡ c → OnOk result (g ≡ x) → x ≡ step_at f c → OnOk result (g ≡ step_at f change)
known result f g change c x is did same = on_ok_weaker result (λ (h : g ≡ x). h ∙ same ∙ ap (step_at f) (sym is)) did

-- ---- a change name by name

module _ (s : State) (n q : Name) where
  begun_case : (b : Bool) → (b ≡ true → n ≡ q) → record { now = cond b (Some []) (s.now q); kept = s.kept q; unsynced = cond b true (s.unsynced q) } ≡ cond b (begun_at (states_of s n)) (states_of s q)
  begun_case true is = ap (λ (m : Name). begun_at (states_of s m)) (sym (is refl))
  begun_case false is = refl

  appended_case : (bytes : List ℕ) (b : Bool) → (b ≡ true → n ≡ q)
      → record { now = cond b (option_map (λ (old : List ℕ). old ++ bytes) (s.now n)) (s.now q); kept = s.kept q; unsynced = cond b true (s.unsynced q) } ≡ cond b (appended_at bytes (states_of s n)) (states_of s q)
  appended_case bytes true is = ap (λ (m : Name). record { now = option_map (λ (old : List ℕ). old ++ bytes) (s.now n); kept = s.kept m; unsynced = true }) (sym (is refl))
  appended_case bytes false is = refl

  unsynced_case : (b : Bool) → (b ≡ true → n ≡ q) → record { now = s.now q; kept = s.kept q; unsynced = cond b true (s.unsynced q) } ≡ cond b (unsynced_at (states_of s n)) (states_of s q)
  unsynced_case true is = ap (λ (m : Name). unsynced_at (states_of s m)) (sym (is refl))
  unsynced_case false is = refl

  synced_case : (b : Bool) → (b ≡ true → n ≡ q)
      → record { now = s.now q; kept = cond b (s.kept n ++ s.now n ∷ []) (s.kept q); unsynced = cond b false (s.unsynced q) } ≡ cond b (synced_at (states_of s n)) (states_of s q)
  synced_case true is = ap (λ (m : Name). record { now = s.now m; kept = s.kept n ++ s.now n ∷ []; unsynced = false }) (sym (is refl))
  synced_case false is = refl

  removed_case : (b : Bool) → (b ≡ true → n ≡ q)
      → record { now = cond b None (s.now q); kept = cond b (s.kept n ++ None ∷ []) (s.kept q); unsynced = s.unsynced q } ≡ cond b (removed_at (states_of s n)) (states_of s q)
  removed_case true is = ap (λ (m : Name). record { now = None; kept = s.kept n ++ None ∷ []; unsynced = s.unsynced m }) (sym (is refl))
  removed_case false is = refl

renamed_case : (s : State) (a b q : Name) (x y : Bool) → (y ≡ true → a ≡ q)
    → record { now = cond x (s.now a) (cond y None (s.now q)); kept = cond x (s.kept b ++ s.now a ∷ []) (cond y (s.kept a ++ None ∷ []) (s.kept q)); unsynced = cond x (s.unsynced b || s.unsynced a) (s.unsynced q) }
    ≡ cond x (arrived_at (s.now a) (s.unsynced a) (states_of s b)) (cond y (removed_at (states_of s a)) (states_of s q))
renamed_case s a b q true y is = refl
renamed_case s a b q false true is = ap (λ (m : Name). record { now = None; kept = s.kept a ++ None ∷ []; unsynced = s.unsynced m }) (sym (is refl))
renamed_case s a b q false false is = refl

settled_case : (now : Value) (kept : List Value) (below unsynced : Bool)
    → record { now = now; kept = cond (below && not unsynced) (now ∷ []) kept; unsynced = unsynced } ≡ cond below (settled_at (record { now = now; kept = kept; unsynced = unsynced })) (record { now = now; kept = kept; unsynced = unsynced })
settled_case now kept true true = refl
settled_case now kept true false = refl
settled_case now kept false unsynced = refl

all_synced_case : (now : Value) (kept : List Value) (b unsynced has : Bool) → is_some now ≡ has
    → record { now = now; kept = cond (b && (unsynced && has)) (kept ++ now ∷ []) kept; unsynced = cond (b && (unsynced && has)) false unsynced }
    ≡ cond b (cond (unsynced && has) (synced_at (record { now = now; kept = kept; unsynced = unsynced })) (record { now = now; kept = kept; unsynced = unsynced })) (record { now = now; kept = kept; unsynced = unsynced })
all_synced_case now kept true true true is = refl
all_synced_case now kept true true false is = refl
all_synced_case now kept true false has is = refl
all_synced_case now kept false unsynced has is = refl

same : (n q : Name) → bytes_eq n q ≡ true → n ≡ q
same n q = (bytes_eq-Decides n q).0

pub stepped : (c : Change) (s : State) → states_of (step c s) ≡ step_at (states_of s) c
stepped (Begun name) s = fun_ext (λ q. begun_case s (string_bytes name) q (bytes_eq (string_bytes name) q) (same (string_bytes name) q))
stepped (Appended name bytes) s = fun_ext (λ q. appended_case s (string_bytes name) q bytes.items (bytes_eq (string_bytes name) q) (same (string_bytes name) q))
stepped (Unsynced name) s = fun_ext (λ q. unsynced_case s (string_bytes name) q (bytes_eq (string_bytes name) q) (same (string_bytes name) q))
stepped (Synced name) s = fun_ext (λ q. synced_case s (string_bytes name) q (bytes_eq (string_bytes name) q) (same (string_bytes name) q))
stepped (Renamed from to) s = fun_ext (λ q. renamed_case s (string_bytes from) (string_bytes to) q (bytes_eq (string_bytes to) q) (bytes_eq (string_bytes from) q) (same (string_bytes from) q))
stepped (Removed name) s = fun_ext (λ q. removed_case s (string_bytes name) q (bytes_eq (string_bytes name) q) (same (string_bytes name) q))
stepped (Swept SyncFolders folder) s = fun_ext (λ q. settled_case (s.now q) (s.kept q) (takes_in SyncFolders (string_bytes folder) q) (s.unsynced q))
stepped (Swept SyncFolder folder) s = fun_ext (λ q. settled_case (s.now q) (s.kept q) (takes_in SyncFolder (string_bytes folder) q) (s.unsynced q))
stepped (Swept Sync folder) s = fun_ext (λ q. all_synced_case (s.now q) (s.kept q) (takes_in Sync (string_bytes folder) q) (s.unsynced q) (is_some (s.now q)) refl)

pub followed : (cs : List Change) (s : State) → states_of (after s cs) ≡ fold step_at (states_of s) cs
followed [] s = refl
followed (c ∷ cs) s = followed cs (step c s) ∙ ap (λ (f : NameStates). fold step_at f cs) (stepped c s)

-- ---- a rename in parts

pub renamed_parts : (from to : Name) (f g : NameStates) (value : Value) (unsynced : Bool) → value ≡ (f from).now → unsynced ≡ (f from).unsynced
    → g ≡ cond (bytes_eq from to) f (changed_at from removed_at f) → changed_at to (arrived_at value unsynced) g ≡ renamed_at from to f
renamed_parts from to f g value unsynced v l is =
    ap (changed_at to (arrived_at value unsynced)) is
    ∙ ap (λ (x : Value). changed_at to (arrived_at x unsynced) (cond (bytes_eq from to) f (changed_at from removed_at f))) v
    ∙ ap (λ (x : Bool). changed_at to (arrived_at (f from).now x) (cond (bytes_eq from to) f (changed_at from removed_at f))) l
    ∙ both (bytes_eq from to) refl
  where
    -- a name that is moved to itself
    to_itself : from ≡ to → (q : Name) (x y : Bool) → (y ≡ true → from ≡ q) → (to ≡ q → x ≡ true)
        → cond x (arrived_at (f from).now (f from).unsynced (f to)) (f q) ≡ cond x (arrived_at (f from).now (f from).unsynced (f to)) (cond y (removed_at (f from)) (f q))
    to_itself is q true y fq qt = refl
    to_itself is q false true fq qt = cc (qt (sym is ∙ fq refl))
    to_itself is q false false fq qt = refl

    both : (e : Bool) → bytes_eq from to ≡ e → changed_at to (arrived_at (f from).now (f from).unsynced) (cond e f (changed_at from removed_at f)) ≡ renamed_at from to f
    both true e = fun_ext (λ q. to_itself (same from to e) q (bytes_eq to q) (bytes_eq from q) (same from q) (bytes_eq-Decides to q).1)
    both false e = ap (λ (s : NameState). set_at to (arrived_at (f from).now (f from).unsynced s) (changed_at from removed_at f)) (ap (λ b. cond b (removed_at (f from)) (f to)) e)

-- ---- the names that a sweep takes in, swept one by one

settled_twice : (now : Value) (kept : List Value) (unsynced : Bool) → settled_at (settled_at (record { now = now; kept = kept; unsynced = unsynced })) ≡ settled_at (record { now = now; kept = kept; unsynced = unsynced })
settled_twice now kept true = refl
settled_twice now kept false = refl

all_synced_twice : (now : Value) (kept : List Value) (unsynced : Bool) → all_synced_at (all_synced_at (record { now = now; kept = kept; unsynced = unsynced })) ≡ all_synced_at (record { now = now; kept = kept; unsynced = unsynced })
all_synced_twice (Some bytes) kept true = refl
all_synced_twice None kept true = refl
all_synced_twice now kept false = refl

pub eq_sym : (n q : Name) → bytes_eq n q ≡ bytes_eq q n
eq_sym n q = grind (arith, common_steps, bytes_eq-Decides n q, bytes_eq-Decides q n)

module _ (sweep : Sweep) where
  swept_twice : (s : NameState) → swept_at sweep (swept_at sweep s) ≡ swept_at sweep s
  swept_twice s = by sweep
    where
      by : (w : Sweep) → swept_at w (swept_at w s) ≡ swept_at w s
      by SyncFolders = settled_twice s.now s.kept s.unsynced
      by SyncFolder = settled_twice s.now s.kept s.unsynced
      by Sync = all_synced_twice s.now s.kept s.unsynced

  -- one name more
  pub swept_more : (ns : List (String Global)) (i : ℕ) (n : String Global) (f g h : NameStates) (name : Name) → i < length ns → n ≡ get_or ns i n → name ≡ string_bytes n → h ≡ changed_at name (swept_at sweep) g
      → g ≡ each_swept sweep (take i ns) f → h ≡ each_swept sweep (take (i + 1) ns) f
  swept_more ns i n f g h name within is called did so_far =
      did ∙ ap (λ (m : Name). changed_at m (swept_at sweep) g) called ∙ ap (changed_at (string_bytes n) (swept_at sweep)) so_far
      ∙ ap (λ (m : String Global). changed_at (string_bytes m) (swept_at sweep) (each_swept sweep (take i ns) f)) is
      ∙ sym (fold_more (λ (k : NameStates) (m : String Global). changed_at (string_bytes m) (swept_at sweep) k) f ns i n within)

  abbrev swept_list : List Name → NameStates → NameStates
  swept_list ns f = fold (λ g n. changed_at n (swept_at sweep) g) f ns

  as_list : (ns : List (String Global)) (f : NameStates) → each_swept sweep ns f ≡ swept_list (map string_bytes ns) f
  as_list [] f = refl
  as_list (n ∷ ns) f = as_list ns (changed_at (string_bytes n) (swept_at sweep) f)

  names_swept : (ns : List Name) (f : NameStates) (q : Name) → swept_list ns f q ≡ cond (list_any (bytes_eq q) ns) (swept_at sweep (f q)) (f q)
  names_swept [] f q = refl
  names_swept (n ∷ ns) f q =
      names_swept ns (changed_at n (swept_at sweep) f) q
      ∙ one (bytes_eq n q) (list_any (bytes_eq q) ns) (same n q)
      ∙ ap (λ b. cond (b || list_any (bytes_eq q) ns) (swept_at sweep (f q)) (f q)) (eq_sym n q)
    where
      one : (b c : Bool) → (b ≡ true → n ≡ q) → cond c (swept_at sweep (cond b (swept_at sweep (f n)) (f q))) (cond b (swept_at sweep (f n)) (f q)) ≡ cond (b || c) (swept_at sweep (f q)) (f q)
      one true true is = swept_twice (f n) ∙ ap (λ (m : Name). swept_at sweep (f m)) (is refl)
      one true false is = ap (λ (m : Name). swept_at sweep (f m)) (is refl)
      one false c is = refl

and_false : (b : Bool) → (b && false) ≡ false
and_false true = refl
and_false false = refl

first_in : (t c others : Bool) → (t ≡ true → true ≡ c) → (t || (c && others)) ≡ (c && (t || others))
first_in true true others inside = refl
first_in true false others inside = cc (inside refl)
first_in false c others inside = refl

first_beside : (t c others : Bool) → (t ≡ true → false ≡ c) → (c && others) ≡ (c && (t || others))
first_beside true true others beside = cc (beside refl)
first_beside true false others beside = refl
first_beside false c others beside = refl

module _ {X : Type 0} (these : Name → Bool) (q : Name) where
  abbrev has : List (String Global × X) → Bool
  has es = list_any (λ e. bytes_eq q (string_bytes e.0)) es

  one_more : (e : String Global × X) (kept : List (String Global × X)) (b t others : Bool) → bytes_eq q (string_bytes e.0) ≡ t → (t ≡ true → b ≡ these q)
      → list_any (bytes_eq q) (map (λ e. string_bytes e.0) kept) ≡ (these q && others)
      → list_any (bytes_eq q) (map (λ e. string_bytes e.0) (cond b (e ∷ kept) kept)) ≡ (these q && (t || others))
  one_more e kept true t others is inside later =
      ap (λ (c : Bool). c || list_any (bytes_eq q) (map (λ e. string_bytes e.0) kept)) is ∙ ap (λ (c : Bool). t || c) later ∙ first_in t (these q) others inside
  one_more e kept false t others is inside later = later ∙ first_beside t (these q) others inside

  any_under : (es : List (String Global × X)) → list_any (bytes_eq q) (names_under these es) ≡ (these q && has es)
  any_under [] = sym (and_false (these q))
  any_under (e ∷ es) = one_more e (filter (λ e. these (string_bytes e.0)) es) (these (string_bytes e.0)) (bytes_eq q (string_bytes e.0)) (has es) refl
      (λ h. ap these (sym ((bytes_eq-Decides q (string_bytes e.0)).0 h))) (any_under es)

pub absent : (m : Traces) (q : Name) → list_any (λ e. bytes_eq q (string_bytes e.0)) m.entries ≡ false → states_in m q ≡ first_at None
absent m q none = ap (λ (o : Option Trace). found_state (option_map state_of_trace o)) (none_found (bytes_eq q) m.entries q none ((bytes_eq-Decides q q).1 refl))

swept_none : (sweep : Sweep) → swept_at sweep (first_at None) ≡ first_at None
swept_none SyncFolders = refl
swept_none SyncFolder = refl
swept_none Sync = refl

pub swept_all : (sweep : Sweep) (folder : Name) (m : Traces) (ns : List (String Global)) → map string_bytes ns ≡ names_under (takes_in sweep folder) m.entries → each_swept sweep ns (states_in m) ≡ swept_names sweep folder (states_in m)
swept_all sweep folder m ns are = as_list sweep ns (states_in m) ∙ ap (λ (l : List Name). swept_list sweep l (states_in m)) are ∙ fun_ext (λ q.
    names_swept sweep (names_under (takes_in sweep folder) m.entries) (states_in m) q
    ∙ ap (λ b. cond b (swept_at sweep (states_in m q)) (states_in m q)) (any_under (takes_in sweep folder) q m.entries)
    ∙ one q (takes_in sweep folder q) (list_any (λ e. bytes_eq q (string_bytes e.0)) m.entries) (absent m q))
  where
    one : (q : Name) (b t : Bool) → (t ≡ false → states_in m q ≡ first_at None) → cond (b && t) (swept_at sweep (states_in m q)) (states_in m q) ≡ cond b (swept_at sweep (states_in m q)) (states_in m q)
    one q true true none = refl
    one q true false none = none refl ∙ sym (swept_none sweep) ∙ sym (ap (swept_at sweep) (none refl))
    one q false t none = refl
