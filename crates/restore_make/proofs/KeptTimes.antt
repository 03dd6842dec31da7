-- The files that are kept get their times, one after another.
use Rattle.std.proofs.Common.{ℕ, Bool, true, false, ◌≡◌, ◌≢◌, ◌⊎◌, inl, inr, ⊎_elim, ◌<◌, ◌+◌, refl, sym, ap, ◌∙◌, subst, arith, List, [], ◌∷◌, ◌++◌, length, take, drop, map, Option, Some, None, Result, Ok, Err, option_map}
use Rattle.std.specs.Prelude.{OnOk, IsSome}
use Rattle.std.proofs.lemmas.List.{take-append-drop}
use Rattle.base_devices.specs.Content.{at, SameBut}
use Rattle.base_devices.specs.Order.{are_in_order}
use Rattle.base_devices.specs.DataFolder.{Nodes, Held, file_bytes, with_time, timed_file, ChangesTree, IsFileAt}
use Rattle.base_model.specs.Text.{Text, In}
use Rattle.base_model.specs.Values.{FileEntry}
use Rattle.repo_ini.proofs.Orders.{not_itself}
use Rattle.backup_plan.proofs.Searched.{later}
use Rattle.restore_steps.proofs.Bare.{in_left, in_right, in_split}
use Rattle.restore_steps.proofs.Nodes.{set_same}
use Rattle.restore_steps.proofs.Ordered.{tail_order}
use Rattle.restore_steps.proofs.Timed.{timed_but}
use Rattle.restore_make.specs.Kept.{marked, mark_at}
use Rattle.restore_make.specs.KeptTimes.{IsUnmarked, AreThere, SetsTimes}
use Rattle.restore_make.proofs.ReadEntries.{marked_order}

abbrev pub Marked : Type 0
Marked = FileEntry × Bool

abbrev pub path_of : Marked → Text
path_of p = p.0.path

-- ---- one file

pub none_timed : (e : FileEntry) (kept : Bool) (o : Option Nodes) → kept ≡ false → SetsTimes ((e, kept) ∷ []) o o
none_timed e kept o is = record { each = λ d i. absurd (never d i); others = λ q off. refl }
  where
    never : (d : FileEntry) → In {X = Marked} (d, true) ((e, kept) ∷ []) → ⊥
    never d (inl same) = let h : ◌≡◌ {A = Bool} true false = ap (λ (p : Marked). p.1) same ∙ is in cc
    never d (inr i) = i

-- the node of a file that gets its time
timed_node : (path : Text) (time : ℕ) (old : Option Nodes) → at path (option_map (timed_file path time) old) ≡ option_map (with_time time) (at path old)
timed_node path time None = refl
timed_node path time (Some f) = ap (λ (x : Option Held). Some x) (set_same path (with_time time (f path)) f)

-- the same by a path that is the entry's
by_path : {T E : Type 0} (result : Result T E) (e : FileEntry) (path : Text) (old new : Option Nodes) → path ≡ e.path → ChangesTree result (timed_file path e.time) old new → ChangesTree result (timed_file e.path e.time) old new
by_path result e path old new same h = subst (λ (p : Text). ChangesTree result (timed_file p e.time) old new) same h

pub one_timed : {T E : Type 0} (result : Result T E) (e : FileEntry) (kept : Bool) (path : Text) (old new : Option Nodes) → kept ≡ true → path ≡ e.path → ChangesTree result (timed_file path e.time) old new → OnOk result (SetsTimes ((e, kept) ∷ []) old new)
one_timed (Ok x) e kept path old new is same_path changed = record {
  each = λ d i. by d i;
  others = λ q off. timed_but {T = Unit {0}} {E = Unit {0}} (Ok tt) e.path e.time old new h q (off e (inl (ap (λ (b : Bool). (e, b)) (sym is))));
}
  where
    h : new ≡ option_map (timed_file e.path e.time) old
    h = changed ∙ ap (λ (p : Text). option_map (timed_file p e.time) old) same_path

    by : (d : FileEntry) → In {X = Marked} (d, true) ((e, kept) ∷ []) → at d.path new ≡ option_map (with_time d.time) (at d.path old)
    by d (inl same) =
        let one : d ≡ e = ap (λ (p : Marked). p.0) same in
        subst (λ (y : FileEntry). at y.path new ≡ option_map (with_time y.time) (at y.path old)) (sym one) (ap (at e.path) h ∙ timed_node e.path e.time old)
    by d (inr i) = absurd i
one_timed (Err x) e kept path old new is same_path changed = tt

pub one_others : {T E : Type 0} (result : Result T E) (e : FileEntry) (kept : Bool) (path : Text) (old new : Option Nodes) → kept ≡ true → path ≡ e.path → ChangesTree result (timed_file path e.time) old new → (q : Text) → IsUnmarked ((e, kept) ∷ []) q → at q new ≡ at q old
one_others result e kept path old new is same_path h q off = timed_but result e.path e.time old new (by_path result e path old new same_path h) q (off e (inl (ap (λ (b : Bool). (e, b)) (sym is))))

pub one_there : (e : FileEntry) (kept : Bool) (path : Text) (o : Option Nodes) → kept ≡ true → path ≡ e.path → AreThere ((e, kept) ∷ []) o → IsFileAt o path
one_there e kept path o is same there = subst (IsFileAt o) (sym same) (there e (inl (ap (λ (b : Bool). (e, b)) (sym is))))

-- ---- one more

-- in order none of those before has the same name
before_apart : {X : Type 0} (name : X → Text) (xs back : List X) (x y : X) → are_in_order (map name (xs ++ x ∷ back)) ≡ true → In y xs → name y ≢ name x
before_apart name [] back x y order i same = absurd i
before_apart name (z ∷ zs) back x y order (inl e) same = absurd (not_itself (name z) (name x) (later name (name z) (zs ++ x ∷ back) x order (in_right x zs (x ∷ back) (inl refl))) (ap name (sym e) ∙ same))
before_apart name (z ∷ zs) back x y order (inr i) same = before_apart name zs back x y (tail_order name z (zs ++ x ∷ back) order) i same

-- the marked entries before another have other paths
pub earlier_apart : (es : List FileEntry) (marks : List Bool) (n : ℕ) (p : Marked) → are_in_order (map (λ (e : FileEntry). e.path) es) ≡ true → take (n + 1) (marked es marks) ≡ take n (marked es marks) ++ p ∷ [] → (q : Marked) → In q (take n (marked es marks)) → q.0.path ≢ p.0.path
earlier_apart es marks n p order more q i =
    before_apart path_of (take n (marked es marks)) (drop (n + 1) (marked es marks)) p q
    (subst (λ (l : List Marked). are_in_order (map path_of l) ≡ true) (whole (marked es marks) more) (marked_order es marks order)) i
  where
    joined : (xs ys : List Marked) → (xs ++ p ∷ []) ++ ys ≡ xs ++ p ∷ ys
    joined [] ys = refl
    joined (x ∷ xs) ys = ap (λ (l : List Marked). x ∷ l) (joined xs ys)

    whole : (ps : List Marked) → take (n + 1) ps ≡ take n ps ++ p ∷ [] → ps ≡ take n ps ++ p ∷ drop (n + 1) ps
    whole ps is = sym (take-append-drop (n + 1) ps) ∙ ap (λ (l : List Marked). l ++ drop (n + 1) ps) is ∙ joined (take n ps) (drop (n + 1) ps)

pub more_timed : (ps : List Marked) (p : Marked) (o a b : Option Nodes) → ((q : Marked) → In q ps → q.0.path ≢ p.0.path) → SetsTimes ps o a → SetsTimes (p ∷ []) a b → SetsTimes (ps ++ p ∷ []) o b
more_timed ps p o a b apart prev step = record {
  each = λ d i. ⊎_elim
      (λ (was : In (d, true) ps). step.others d.path (λ e j same. apart (d, true) was (same ∙ one e j)) ∙ prev.each d was)
      (λ (same : (d, true) ≡ p). last d same)
      (in_split (d, true) p ps i);
  others = λ q off. step.others q (λ e j. off e (in_right (e, true) ps (p ∷ []) j)) ∙ prev.others q (λ e j. off e (in_left (e, true) ps (p ∷ []) j));
}
  where
    one : (e : FileEntry) → In (e, true) (p ∷ []) → e.path ≡ p.0.path
    one e (inl same) = ap path_of same
    one e (inr i) = absurd i

    last : (d : FileEntry) → (d, true) ≡ p → at d.path b ≡ option_map (with_time d.time) (at d.path o)
    last d same =
        step.each d (inl same)
        ∙ ap (option_map (with_time d.time)) (prev.others d.path (λ e j is. apart (e, true) j (sym is ∙ ap path_of same)))

-- ---- the files are still there

file_at : (path : Text) (u v : Option Nodes) → at path v ≡ at path u → IsFileAt u path → IsFileAt v path
file_at path u None e there = tt
file_at path None (Some g) e there = let h : ◌≡◌ {A = Option (Option Held)} (Some (g path)) None = e in cc
file_at path (Some f) (Some g) e there =
    let h : ◌≡◌ {A = Option (Option Held)} (Some (g path)) (Some (f path)) = e in
    let same : g path ≡ f path = cc in
    subst (λ (x : Option Held). IsSome (file_bytes x)) (sym same) there

-- the file of the next entry is there while those before get their times
pub next_there : (ps : List Marked) (p : Marked) (whole : List Marked) (o a : Option Nodes) → ((q : Marked) → In q ps → q.0.path ≢ p.0.path) → In p whole → SetsTimes ps o a → AreThere whole o → AreThere (p ∷ []) a
next_there ps p whole o a apart listed prev there e (inl same) =
    file_at e.path o a (prev.others e.path (λ d j is. apart (d, true) j (sym is ∙ ap path_of same))) (there e (subst (λ (q : Marked). In q whole) (sym same) listed))
next_there ps p whole o a apart listed prev there e (inr i) = absurd i

pub taken_in : (n : ℕ) (ps : List Marked) (q : Marked) → In q (take n ps) → In q ps
taken_in n ps q i = subst (λ (l : List Marked). In q l) (take-append-drop n ps) (in_left q (take n ps) (drop n ps) i)

pub next_in : (n : ℕ) (ps : List Marked) (p : Marked) → take (n + 1) ps ≡ take n ps ++ p ∷ [] → In p ps
next_in n ps p more = taken_in (n + 1) ps p (subst (λ (l : List Marked). In p l) (sym more) (in_right p (take n ps) (p ∷ []) (inl refl)))

pub no_times : (o : Option Nodes) → SetsTimes [] o o
no_times o = record { each = λ e i. absurd i; others = λ q off. refl }

-- a path that no marked entry has isn't that of a part of them
pub taken_unmarked : (n : ℕ) (ps : List Marked) (q : Text) → IsUnmarked ps q → IsUnmarked (take n ps) q
taken_unmarked n ps q off e i = off e (taken_in n ps (e, true) i)

pub part_unmarked : (p : Marked) (ps : List Marked) (q : Text) → In p ps → IsUnmarked ps q → IsUnmarked (p ∷ []) q
part_unmarked p ps q listed off e (inl same) = off e (subst (λ (x : Marked). In x ps) (sym same) listed)
part_unmarked p ps q listed off e (inr i) = absurd i
