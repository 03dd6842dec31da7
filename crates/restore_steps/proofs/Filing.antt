-- One file, call by call.
use Rattle.std.proofs.Common.{ℕ, zero, suc, Bool, true, false, ◌≡◌, ◌≢◌, ◌<◌, ◌+◌, ◌&&◌, refl, sym, ap, ◌∙◌, subst, arith, List, [], ◌∷◌, ◌++◌, length, length-append, Option, Some, None, option_map, Result, Ok, Err, bytes_eq}
use Rattle.std.specs.Prelude.{IfSome, IsSome, codes, nat_lt, ◌==◌}
use Rattle.std.proofs.lemmas.Grind.{common_steps}
use Rattle.std.proofs.lemmas.Slice.Eq.{bytes_eq-Decides}
use Rattle.base_devices.specs.Content.{Name, at, SameBut}
use Rattle.base_devices.specs.DataFolder.{Held as Node, file, folder, link, other, Nodes, file_bytes, with_node, longer, lengthened_file, with_time, timed_file, moved_node, ChangesFile, ChangesTree, IsFileAt}
use Rattle.base_model.specs.Text.{Text}
use Rattle.worker_protocol.specs.declared.sinks.ItemEnd.{ItemEnd}
use Rattle.worker_protocol.specs.declared.sinks.ItemEnd.TheVariants.{Whole, Vanished}
use Rattle.worker_protocol.specs.PartSinkState.{Held, Done, JobItems, Holds, Adds, Ends, IsFresh}
use Rattle.restore_steps.specs.declared.contents.files.Wanted.{Wanted}
use Rattle.restore_steps.specs.declared.contents.files.Filed.{Filed}
use Rattle.restore_steps.specs.Files.{temporary_path, bytes_at, is_wanted, is_right, known_by, held_by, done_by, next_by, kept_by, kept_of, put_in_tree, IsFileOf, SameBeside, IsInPlace, IsTidy, IsBegun, Grows, IsPut}
use Rattle.restore_steps.proofs.Timed.{timed_bytes, timed_is}

-- ---- nodes

pub set_other : (name : Name) (x : Option Node) (f : Nodes) (q : Name) → q ≢ name → with_node name x f q ≡ f q
set_other name x f q apart = grind (arith, common_steps, bytes_eq-Decides name q)

pub set_same : (name : Name) (x : Option Node) (f : Nodes) → with_node name x f name ≡ x
set_same name x f = grind (arith, common_steps, bytes_eq-Decides name name)

pub not_temporary : (path : Text) → path ≢ temporary_path path
not_temporary path e = absurd (omega (arith, ap length e, length-append path (codes ".pgbackrest.tmp")))

-- ---- what calls change

same_set : (name : Name) (x : Nodes → Option Node) (o : Option Nodes) → SameBut name o (option_map (λ (f : Nodes). with_node name (x f) f) o)
same_set name x None q apart = refl
same_set name x (Some f) q apart = ap (λ (v : Option Node). Some v) (set_other name (x f) f q apart)

pub same_begun : {T E : Type 0} (result : Result T E) (name : Name) (old new : Option Nodes) → ChangesFile result name (λ time. with_node name (Some (file [] time))) old new → SameBut name old new
same_begun (Ok x) name old new h = λ q apart. ap (at q) h.1 ∙ same_set name (λ f. Some (file [] h.0)) old q apart
same_begun (Err e) name old new h = h

pub same_longer : {T E : Type 0} (result : Result T E) (name : Name) (bytes : Text) (old new : Option Nodes) → ChangesFile result name (lengthened_file name bytes) old new → SameBut name old new
same_longer (Ok x) name bytes old new h = λ q apart. ap (at q) h.1 ∙ same_set name (λ f. longer bytes h.0 (f name)) old q apart
same_longer (Err e) name bytes old new h = h

pub same_on : (name : Name) (a b c : Option Nodes) → SameBut name a b → SameBut name b c → SameBut name a c
same_on name a b c p q n apart = q n apart ∙ p n apart

pub beside : (path name : Text) (old new : Option Nodes) → name ≡ temporary_path path → SameBut name old new → SameBeside path old new
beside path name old new is h q apart not_temp = h q (λ e. not_temp (e ∙ is))

pub beside_temp : (path : Text) (old new : Option Nodes) → SameBut (temporary_path path) old new → SameBeside path old new
beside_temp path old new h q apart not_temp = h q not_temp

beside_moved : (path : Text) (o : Option Nodes) → SameBeside path o (option_map (moved_node (temporary_path path) path) o)
beside_moved path None q apart not_temp = refl
beside_moved path (Some f) q apart not_temp = ap (λ (v : Option Node). Some v) (set_other path (f (temporary_path path)) (with_node (temporary_path path) None f) q apart ∙ set_other (temporary_path path) None f q not_temp)

pub beside_on : (path : Text) (a b c : Option Nodes) → SameBeside path a b → SameBeside path b c → SameBeside path a c
beside_on path a b c p q n apart not_temp = q n apart not_temp ∙ p n apart not_temp

pub beside_rename : {T E : Type 0} (result : Result T E) (path name : Text) (old new : Option Nodes) → name ≡ temporary_path path → ChangesTree result (moved_node name path) old new → SameBeside path old new
beside_rename (Ok x) path name old new is h q apart not_temp = ap (at q) (h ∙ ap (λ (n : Text). option_map (moved_node n path) old) is) ∙ beside_moved path old q apart not_temp
beside_rename (Err e) path name old new is h q apart not_temp = ap (at q) h

-- ---- bytes

-- a file grows by bytes after those that it has
longer_bytes : (o : Option Node) (before more : Text) (time : ℕ) → IfSome (file_bytes o) (λ t. t ≡ before) → IfSome (file_bytes (longer more time o)) (λ t. t ≡ before ++ more)
longer_bytes None before more time h = tt
longer_bytes (Some (file bytes old)) before more time h = ap (λ (l : Text). l ++ more) h
longer_bytes (Some folder) before more time h = tt
longer_bytes (Some link) before more time h = tt
longer_bytes (Some other) before more time h = tt

no_bytes : (before : Text) → 0 ≡ length before → [] ≡ before
no_bytes [] e = refl
no_bytes (b ∷ bs) e = absurd (omega (arith, e))

-- after the bytes of a file that is there
appended : (name before bytes : Text) (time : ℕ) (mid new : Option Nodes) → IfSome (bytes_at name mid) (λ t. t ≡ before) → new ≡ option_map (lengthened_file name bytes time) mid → IfSome (bytes_at name new) (λ t. t ≡ before ++ bytes)
appended name before bytes time None new h is = subst (λ (o : Option Nodes). IfSome (bytes_at name o) (λ t. t ≡ before ++ bytes)) (sym is) tt
appended name before bytes time (Some f) new h is =
    subst (λ (o : Option Nodes). IfSome (bytes_at name o) (λ t. t ≡ before ++ bytes)) (sym is)
    (subst (λ (o : Option Node). IfSome (file_bytes o) (λ t. t ≡ before ++ bytes)) (sym (set_same name (longer bytes time (f name)) f)) (longer_bytes (f name) before bytes time h))

begun_bytes : (name : Text) (time : ℕ) (old mid : Option Nodes) → mid ≡ option_map (with_node name (Some (file [] time))) old → IfSome (bytes_at name mid) (λ t. t ≡ [])
begun_bytes name time None mid is = subst (λ (o : Option Nodes). IfSome (bytes_at name o) (λ t. t ≡ [])) (sym is) tt
begun_bytes name time (Some f) mid is =
    subst (λ (o : Option Nodes). IfSome (bytes_at name o) (λ t. t ≡ [])) (sym is)
    (subst (λ (o : Option Node). IfSome (file_bytes o) (λ t. t ≡ [])) (sym (set_same name (Some (file [] time)) f)) refl)

module _ (path name bytes : Text) (is_name : name ≡ temporary_path path) (old mid new : Option Nodes) where
  pub grows : (count : ℕ) → IsBegun count name old mid → ((time : ℕ) × (new ≡ option_map (lengthened_file name bytes time) mid)) → Grows count path bytes old new
  grows zero begun h before n held =
      let b = begun.first refl in
      let there : IfSome (bytes_at name mid) (λ t. t ≡ before) = subst (λ (l : Text). IfSome (bytes_at name mid) (λ t. t ≡ l)) (no_bytes before n) (begun_bytes name b.0 old mid b.1) in
      subst (λ (q : Text). IfSome (bytes_at q new) (λ t. t ≡ before ++ bytes)) is_name (appended name before bytes h.0 mid new there h.1)
  grows (suc k) begun h before n held =
      let there : IfSome (bytes_at name mid) (λ t. t ≡ before) = subst (λ (o : Option Nodes). IfSome (bytes_at name o) (λ t. t ≡ before)) (sym (begun.later (omega arith))) (subst (λ (q : Text). IfSome (bytes_at q old) (λ t. t ≡ before)) (sym is_name) held) in
      subst (λ (q : Text). IfSome (bytes_at q new) (λ t. t ≡ before ++ bytes)) is_name (appended name before bytes h.0 mid new there h.1)

-- ---- what is held

-- the part is held too
known_more : (path before bytes : Text) (m : ℕ) (new : Option Nodes) → m ≡ length (before ++ bytes) → IfSome (bytes_at (temporary_path path) new) (λ t. t ≡ before ++ bytes) → IfSome (known_by false m path new) (λ t. t ≡ before ++ bytes)
known_more path before bytes zero new n h = no_bytes (before ++ bytes) n
known_more path before bytes (suc k) new n h = h

adds_open : (w : Wanted) (count m : ℕ) (bytes : Text) (old new : Option Nodes) → m ≡ count + length bytes → Grows count w.path.now bytes old new → Adds bytes (kept_by old w count None) (kept_by new w m None)
adds_open w count m bytes old new n grows = record {
  done = refl;
  held = λ before h.
      let long : m ≡ length (before ++ bytes) = n ∙ ap (λ k. k + length bytes) h.0 ∙ sym (length-append before bytes) in
      (long, known_more w.path.now before bytes m new long (grows before h.0 h.1));
}

pub adds : (a b : Filed) (bytes : Text) (old new : Option Nodes) → a.end ≡ None → b.end ≡ a.end → b.wanted ≡ a.wanted → b.count ≡ a.count + length bytes → Grows a.count a.wanted.path.now bytes old new → Adds bytes (kept_of old a) (kept_of new b)
adds a b bytes old new none same wanted n grows =
    subst (λ (e : Option ItemEnd). Adds bytes (kept_by old a.wanted a.count e) (kept_of new b)) (sym none)
    (subst (λ (e : Option ItemEnd). Adds bytes (kept_by old a.wanted a.count None) (kept_by new b.wanted b.count e)) (sym (same ∙ none))
    (subst (λ (w : Wanted). Adds bytes (kept_by old a.wanted a.count None) (kept_by new w b.count None)) (sym wanted) (adds_open a.wanted a.count b.count bytes old new n grows)))

-- the node that is put in its place
put_node : (path : Text) (time : ℕ) (f : Nodes) → put_in_tree path time f path ≡ with_time time (f (temporary_path path))
put_node path time f =
    set_same path (timed_file (temporary_path path) time f (temporary_path path)) (with_node (temporary_path path) None (timed_file (temporary_path path) time f))
    ∙ set_same (temporary_path path) (with_time time (f (temporary_path path))) f

-- the file has the bytes that lay under its temporary name
moved_bytes : (path : Text) (time : ℕ) (old new : Option Nodes) → new ≡ option_map (put_in_tree path time) old → bytes_at path new ≡ bytes_at (temporary_path path) old
moved_bytes path time None new is = ap (bytes_at path) is
moved_bytes path time (Some f) new is = ap (bytes_at path) is ∙ ap file_bytes (put_node path time f) ∙ timed_bytes time (f (temporary_path path))

-- an end, by whether it is right
known_end : (right : Bool) (count : ℕ) (path : Text) (time : ℕ) (old new : Option Nodes) → (right ≡ true → 0 < count) → (right ≡ true → new ≡ option_map (put_in_tree path time) old) → (right ≡ false → new ≡ old) → known_by right count path new ≡ known_by false count path old
known_end true zero path time old new some moved still = absurd (omega (arith, some refl))
known_end true (suc k) path time old new some moved still = moved_bytes path time old new (moved refl)
known_end false count path time old new some moved still = ap (known_by false count path) (still refl)

last_true : (a b : Bool) → a && b ≡ true → b ≡ true
last_true true b e = e
last_true false b e = cc

some_came : (w : Wanted) (count : ℕ) (end : Option ItemEnd) → is_right w count end ≡ true → 0 < count
some_came w zero end e = let h : ◌≡◌ {A = Bool} false true = last_true (is_wanted w end) false e in cc
some_came w (suc k) end e = omega arith

pub ends : (a b : Filed) (how : ItemEnd) (old new : Option Nodes) → a.end ≡ None → b.end ≡ Some how → b.wanted ≡ a.wanted → b.count ≡ a.count → (is_right a.wanted a.count (Some how) ≡ true → IsPut a.wanted.path.now a.wanted.time old new) → (is_right a.wanted a.count (Some how) ≡ false → new ≡ old) → Ends how (kept_of old a) (kept_of new b)
ends a b how old new none is wanted count put still =
    subst (λ (e : Option ItemEnd). Ends how (kept_by old a.wanted a.count e) (kept_of new b)) (sym none)
    (subst (λ (e : Option ItemEnd). Ends how (kept_by old a.wanted a.count None) (kept_by new b.wanted b.count e)) (sym is)
    (subst (λ (w : Wanted). Ends how (kept_by old a.wanted a.count None) (kept_by new w b.count (Some how))) (sym wanted)
    (subst (λ (n : ℕ). Ends how (kept_by old a.wanted a.count None) (kept_by new a.wanted n (Some how))) (sym count)
    (record {
      done = ap (λ (t : Option Text). (record { held = record { count = a.count; known = t }; end = how }) ∷ []) (known_end (is_right a.wanted a.count (Some how)) a.count a.wanted.path.now a.wanted.time old new (some_came a.wanted a.count (Some how)) (λ e. (put e).moved) still);
      held = (refl, refl);
    }))))

pub cleared : (f : Filed) (nodes : Option Nodes) → f.count ≡ 0 → f.end ≡ None → IsFresh (kept_of nodes f)
cleared f nodes none open_end =
    subst (λ (e : Option ItemEnd). IsFresh (kept_by nodes f.wanted f.count e)) (sym open_end)
    (subst (λ (n : ℕ). IsFresh (kept_by nodes f.wanted n None)) (sym none) (record { done = refl; held = (refl, refl) }))

-- ---- another file's

bytes_stay : (q : Text) (u v : Option Nodes) → at q v ≡ at q u → bytes_at q v ≡ bytes_at q u
bytes_stay q None None e = refl
bytes_stay q None (Some g) e = let h : ◌≡◌ {A = Option (Option Node)} (Some (g q)) None = e in cc
bytes_stay q (Some f) None e = let h : ◌≡◌ {A = Option (Option Node)} None (Some (f q)) = e in cc
bytes_stay q (Some f) (Some g) e = let h : ◌≡◌ {A = Option (Option Node)} (Some (g q)) (Some (f q)) = e in let same : g q ≡ f q = cc in ap file_bytes same

known_stays : (right : Bool) (count : ℕ) (path : Text) (u v : Option Nodes) → at path v ≡ at path u → at (temporary_path path) v ≡ at (temporary_path path) u → known_by right count path v ≡ known_by right count path u
known_stays true count path u v e t = bytes_stay path u v e
known_stays false zero path u v e t = refl
known_stays false (suc k) path u v e t = bytes_stay (temporary_path path) u v t

pub kept_stays : (f : Filed) (u v : Option Nodes) → at f.wanted.path.now v ≡ at f.wanted.path.now u → at (temporary_path f.wanted.path.now) v ≡ at (temporary_path f.wanted.path.now) u → kept_of v f ≡ kept_of u f
kept_stays f u v e t =
    let held : held_by (is_right f.wanted f.count f.end) f.count f.wanted.path.now v ≡ held_by (is_right f.wanted f.count f.end) f.count f.wanted.path.now u
    = ap (λ (x : Option Text). record { count = f.count; known = x }) (known_stays (is_right f.wanted f.count f.end) f.count f.wanted.path.now u v e t) in
    ap (λ (h : Held). record { done = done_by f.end h; held = next_by f.end h }) held

pub place_stays : (path : Text) (time : ℕ) (u v : Option Nodes) → at path v ≡ at path u → at (temporary_path path) v ≡ at (temporary_path path) u → IsInPlace path time u → IsInPlace path time v
place_stays path time u None e t here = tt
place_stays path time None (Some g) e t here = let h : ◌≡◌ {A = Option (Option Node)} (Some (g path)) None = e in cc
place_stays path time (Some f) (Some g) e t here =
    let h : ◌≡◌ {A = Option (Option Node)} (Some (g path)) (Some (f path)) = e in
    let k : ◌≡◌ {A = Option (Option Node)} (Some (g (temporary_path path))) (Some (f (temporary_path path))) = t in
    let same : g path ≡ f path = cc in
    let away : g (temporary_path path) ≡ f (temporary_path path) = cc in
    (subst (IsFileOf time) (sym same) here.0, away ∙ here.1)

-- a file that got its own name is in its place
pub put_tidy : (path : Text) (time : ℕ) (old new : Option Nodes) → IsPut path time old new → IsInPlace path time new
put_tidy path time old new put = subst (IsInPlace path time) (sym put.moved) (go old put.there)
  where
    go : (o : Option Nodes) → IsFileAt o (temporary_path path) → IsInPlace path time (option_map (put_in_tree path time) o)
    go None there = tt
    go (Some f) there =
        let timed = timed_file (temporary_path path) time f in (
          subst (IsFileOf time) (sym (put_node path time f)) (timed_is time (f (temporary_path path)) there),
          set_other path (timed (temporary_path path)) (with_node (temporary_path path) None timed) (temporary_path path) (λ e. not_temporary path (sym e)) ∙ set_same (temporary_path path) None timed,
        )

pub open_tidy : (f : Filed) (nodes : Option Nodes) → f.end ≡ None → IsTidy nodes f
open_tidy f nodes none right = let h : ◌≡◌ {A = Bool} false true = ap (is_right f.wanted f.count) (sym none) ∙ right in cc
