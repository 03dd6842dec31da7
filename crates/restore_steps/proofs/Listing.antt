-- A change of one file among the others.
use Rattle.std.proofs.Common.{ℕ, zero, suc, true, ◌≡◌, ◌≢◌, ◌⊎◌, inl, inr, ◌<◌, refl, sym, ap, ◌∙◌, subst, arith, List, [], ◌∷◌, length, Option, Some, None, map, set, get_or, slice_get}
use Rattle.std.specs.Prelude.{codes, IsSomeAnd, slice_set}
use Rattle.std.proofs.lemmas.List.{append_cancel_right}
use Rattle.base_devices.specs.DataFolder.{Nodes}
use Rattle.base_model.specs.Text.{Text}
use Rattle.worker_protocol.specs.Frames.{Job}
use Rattle.worker_protocol.specs.declared.sinks.ItemEnd.{ItemEnd}
use Rattle.worker_protocol.specs.PartSinkState.{Held, JobItems, IsFresh}
use Rattle.worker_protocol.specs.Lists.{ChangesAt}
use Rattle.restore_steps.specs.declared.contents.files.Wanted.{Wanted}
use Rattle.restore_steps.specs.declared.contents.files.Filed.{Filed}
use Rattle.restore_steps.specs.Files.{temporary_path, held_by, done_by, is_right, kept_of, path_of, wanted_of, untouched_of, SameBeside, IsInPlace, IsTidy, AllTidy, IsUnderWay, AreInOrder}
use Rattle.restore_steps.specs.Apart.{AreApart, HasOneItem}
use Rattle.restore_steps.proofs.Filing.{kept_stays, place_stays, open_tidy}
use Rattle.restore_steps.proofs.Placing.{file_stays}

-- ---- lists

pub map_changes : {A B : Type 0} (f g : A → B) (xs : List A) (i : ℕ) (y : A) → ((k : ℕ) (x : A) → k ≢ i → slice_get xs k ≡ Some x → g x ≡ f x) → map g (set xs i y) ≡ slice_set (map f xs) i (g y)
map_changes f g [] i y same = refl
map_changes f g (x ∷ xs) zero y same = ap (λ l. g y ∷ l) (rest xs (λ k z is. same (suc k) z (omega arith) is))
  where
    rest : (zs : List _) → ((k : ℕ) (z : _) → slice_get zs k ≡ Some z → g z ≡ f z) → map g zs ≡ map f zs
    rest [] h = refl
    rest (z ∷ zs) h = cc (h zero z refl, rest zs (λ k w is. h (suc k) w is))
map_changes f g (x ∷ xs) (suc i) y same =
    let first : g x ≡ f x = same zero x (omega arith) refl in
    cc (first, map_changes f g xs i y (λ k z off is. same (suc k) z (λ e. off (omega (arith, e))) is))

pub map_stays : {A B : Type 0} (f : A → B) (xs : List A) (i : ℕ) (a b : A) → a ≡ get_or xs i a → f b ≡ f a → map f (set xs i b) ≡ map f xs
map_stays f [] i a b is same = refl
map_stays f (x ∷ xs) zero a b is same = ap (λ y. y ∷ map f xs) (same ∙ ap f is)
map_stays f (x ∷ xs) (suc i) a b is same = ap (λ l. f x ∷ l) (map_stays f xs i a b is same)

pub get_map : {A X : Type 0} (f : A → X) (xs : List A) (i : ℕ) (d : A) (x : X) → slice_get (map f xs) i ≡ Some x → f (get_or xs i d) ≡ x
get_map f [] i d x e = cc
get_map f (a ∷ xs) zero d x e = cc
get_map f (a ∷ xs) (suc i) d x e = get_map f xs i d x e

pub map_get : {A X : Type 0} (f : A → X) (xs : List A) (i : ℕ) (a : A) → slice_get xs i ≡ Some a → slice_get (map f xs) i ≡ Some (f a)
map_get f [] i a e = cc
map_get f (b ∷ xs) zero a e = cc
map_get f (b ∷ xs) (suc i) a e = map_get f xs i a e

pub got : {A : Type 0} (xs : List A) (i : ℕ) (a : A) → i < length xs → a ≡ get_or xs i a → slice_get xs i ≡ Some a
got [] i a lt e = absurd (omega (arith, lt))
got (x ∷ xs) zero a lt e = ap (λ y. Some y) (sym e)
got (x ∷ xs) (suc i) a lt e = got xs i a (omega (arith, lt)) e

pub some_within : {A : Type 0} (xs : List A) (i : ℕ) (a : A) → slice_get xs i ≡ Some a → i < length xs
some_within [] i a e = cc
some_within (x ∷ xs) zero a e = omega arith
some_within (x ∷ xs) (suc i) a e = omega (arith, some_within xs i a e)

pub get_set_other : {A : Type 0} (xs : List A) (i k : ℕ) (y : A) → k ≢ i → slice_get (set xs i y) k ≡ slice_get xs k
get_set_other [] i k y off = refl
get_set_other (x ∷ xs) zero zero y off = absurd (off refl)
get_set_other (x ∷ xs) zero (suc k) y off = refl
get_set_other (x ∷ xs) (suc i) zero y off = refl
get_set_other (x ∷ xs) (suc i) (suc k) y off = get_set_other xs i k y (λ e. off (omega (arith, e)))

pub get_set_same : {A : Type 0} (xs : List A) (i : ℕ) (y z : A) → slice_get (set xs i y) i ≡ Some z → z ≡ y
get_set_same [] i y z e = cc
get_set_same (x ∷ xs) zero y z e = cc
get_set_same (x ∷ xs) (suc i) y z e = get_set_same xs i y z e

pub either_is : (k i : ℕ) → (k ≡ i) ⊎ (k ≢ i)
either_is k i = grind arith

-- ---- names

one_temporary : (p q : Text) → temporary_path p ≡ temporary_path q → p ≡ q
one_temporary p q e = append_cancel_right p q (codes ".pgbackrest.tmp") e

-- ---- the change of one file

module _ (u v : Option Nodes) (fs : List Filed) (i : ℕ) (a b : Filed) (lt : i < length fs) (is : a ≡ get_or fs i a) (apart : AreApart (map path_of fs)) where
  others_stay : SameBeside a.wanted.path.now u v → (k : ℕ) (f : Filed) → k ≢ i → slice_get fs k ≡ Some f → kept_of v f ≡ kept_of u f
  others_stay same k f off is_f =
      let mine : slice_get (map path_of fs) i ≡ Some (path_of a) = map_get path_of fs i a (got fs i a lt is) in
      let its : slice_get (map path_of fs) k ≡ Some (path_of f) = map_get path_of fs k f is_f in
      kept_stays f u v
      (same (path_of f) (λ e. off (apart.once k i (path_of a) (subst (λ (p : Text). slice_get (map path_of fs) k ≡ Some p) e its) mine)) (apart.lasting k i (path_of f) (path_of a) its mine))
      (same (temporary_path (path_of f)) (λ e. apart.lasting i k (path_of a) (path_of f) mine its (sym e)) (λ e. off (apart.once k i (path_of a) (subst (λ (p : Text). slice_get (map path_of fs) k ≡ Some p) (one_temporary (path_of f) (path_of a) e) its) mine)))

  pub changes_at : (R : JobItems → JobItems → Type 0) → R (kept_of u a) (kept_of v b) → SameBeside a.wanted.path.now u v → ChangesAt R (map (kept_of u) fs) (map (kept_of v) (set fs i b)) i
  changes_at R r same = record {
    after = kept_of v b;
    is = map_changes (kept_of u) (kept_of v) fs i b (others_stay same);
    by = λ before was. subst (λ x. R x (kept_of v b)) (ap (kept_of u) is ∙ get_map (kept_of u) fs i a before was) r;
  }

  pub apart_still : b.wanted ≡ a.wanted → AreApart (map path_of (set fs i b))
  apart_still same = subst AreApart (sym (map_stays path_of fs i a b is (ap (λ (w : Wanted). w.path.now) same))) apart

  -- no file that has its own name is there under its temporary name
  tidy_still : SameBeside a.wanted.path.now u v → IsTidy v b → AllTidy u fs → AllTidy v (set fs i b)
  tidy_still same here all k f is_f right = go (either_is k i)
    where
      go : (k ≡ i) ⊎ (k ≢ i) → IsInPlace (path_of f) f.wanted.time v
      go (inl e) =
          let mine : f ≡ b = get_set_same fs i b f (subst (λ (n : ℕ). slice_get (set fs i b) n ≡ Some f) e is_f) in
          subst (IsTidy v) (sym mine) here right
      go (inr off) =
          let was : slice_get fs k ≡ Some f = sym (get_set_other fs i k b off) ∙ is_f in
          let mine : slice_get (map path_of fs) i ≡ Some (path_of a) = map_get path_of fs i a (got fs i a lt is) in
          let its : slice_get (map path_of fs) k ≡ Some (path_of f) = map_get path_of fs k f was in
          place_stays (path_of f) f.wanted.time u v
          (same (path_of f) (λ e. off (apart.once k i (path_of a) (subst (λ (p : Text). slice_get (map path_of fs) k ≡ Some p) e its) mine)) (apart.lasting k i (path_of f) (path_of a) its mine))
          (same (temporary_path (path_of f)) (λ e. apart.lasting i k (path_of a) (path_of f) mine its (sym e)) (λ e. off (apart.once k i (path_of a) (subst (λ (p : Text). slice_get (map path_of fs) k ≡ Some p) (one_temporary (path_of f) (path_of a) e) its) mine)))
          (all k f was right)

  begun_still : SameBeside a.wanted.path.now u v → IsUnderWay v b → ((k : ℕ) (f : Filed) → slice_get fs k ≡ Some f → IsUnderWay u f) → (k : ℕ) (f : Filed) → slice_get (set fs i b) k ≡ Some f → IsUnderWay v f
  begun_still same here all k f is_f = go (either_is k i)
    where
      go : (k ≡ i) ⊎ (k ≢ i) → IsUnderWay v f
      go (inl e) =
          let mine : f ≡ b = get_set_same fs i b f (subst (λ (n : ℕ). slice_get (set fs i b) n ≡ Some f) e is_f) in
          subst (IsUnderWay v) (sym mine) here
      go (inr off) = λ open_end some.
          let was : slice_get fs k ≡ Some f = sym (get_set_other fs i k b off) ∙ is_f in
          let mine : slice_get (map path_of fs) i ≡ Some (path_of a) = map_get path_of fs i a (got fs i a lt is) in
          let its : slice_get (map path_of fs) k ≡ Some (path_of f) = map_get path_of fs k f was in
          file_stays (temporary_path (path_of f)) u v
          (same (temporary_path (path_of f)) (λ e. apart.lasting i k (path_of a) (path_of f) mine its (sym e)) (λ e. off (apart.once k i (path_of a) (subst (λ (p : Text). slice_get (map path_of fs) k ≡ Some p) (one_temporary (path_of f) (path_of a) e) its) mine)))
          (all k f was open_end some)

  -- each file lies where the keeper counts on it
  pub order_still : SameBeside a.wanted.path.now u v → IsTidy v b → IsUnderWay v b → AreInOrder u fs → AreInOrder v (set fs i b)
  order_still same tidy begun all = record { tidy = tidy_still same tidy all.tidy; begun = begun_still same begun all.begun }

-- ---- the next item

none_done : (e : Option ItemEnd) (h : Held) (item : ℕ) → length (done_by e h) ≡ item → item < 1 → e ≡ None
none_done None h item is lt = refl
none_done (Some how) h item is lt = absurd (omega (arith, is, lt))

-- an item that is still to end is the first, and hasn't ended
pub open_by : (nodes : Option Nodes) (fs : List Filed) (jobs : List Job) (i item : ℕ) (a : Filed) (k : JobItems) (j : Job) → a ≡ get_or fs i a → slice_get (map (kept_of nodes) fs) i ≡ Some k → length k.done ≡ item → slice_get jobs i ≡ Some j → item < length j.items → ((j : ℕ) (job : Job) → slice_get jobs j ≡ Some job → HasOneItem job) → a.end ≡ None
open_by nodes fs jobs i item a k j is kept_is done asked within one =
    let kept : kept_of nodes a ≡ k = ap (kept_of nodes) is ∙ get_map (kept_of nodes) fs i a k kept_is in
    let single : HasOneItem j = one i j asked in
    none_done a.end (held_by (is_right a.wanted a.count a.end) a.count a.wanted.path.now nodes) item (ap (λ (x : JobItems). length x.done) kept ∙ done) (omega (arith, within, single))

-- ---- nothing yet

pub fresh_at : (nodes : Option Nodes) (ws : List Wanted) (fs : List Filed) (j : ℕ) → fs ≡ map untouched_of ws → j < length ws → IsSomeAnd (slice_get (map (kept_of nodes) fs) j) IsFresh
fresh_at nodes ws fs j is lt = subst (λ (l : List Filed). IsSomeAnd (slice_get (map (kept_of nodes) l) j) IsFresh) (sym is) (go ws j lt)
  where
    go : (l : List Wanted) (k : ℕ) → k < length l → IsSomeAnd (slice_get (map (kept_of nodes) (map untouched_of l)) k) IsFresh
    go [] k less = absurd (omega arith)
    go (w ∷ l) zero less = record { done = refl; held = (refl, refl) }
    go (w ∷ l) (suc k) less = go l k (omega arith)

pub wanted_back : (ws : List Wanted) (fs : List Filed) → fs ≡ map untouched_of ws → map wanted_of fs ≡ ws
wanted_back ws fs is = ap (map wanted_of) is ∙ go ws
  where
    go : (l : List Wanted) → map wanted_of (map untouched_of l) ≡ l
    go [] = refl
    go (w ∷ l) = ap (λ k. w ∷ k) (go l)

pub paths_back : (ws : List Wanted) (fs : List Filed) → fs ≡ map untouched_of ws → map path_of fs ≡ map (λ (w : Wanted). w.path.now) ws
paths_back ws fs is = ap (map path_of) is ∙ go ws
  where
    go : (l : List Wanted) → map path_of (map untouched_of l) ≡ map (λ (w : Wanted). w.path.now) l
    go [] = refl
    go (w ∷ l) = ap (λ k. w.path.now ∷ k) (go l)

-- nothing has its own name yet
none_tidy : (nodes : Option Nodes) (ws : List Wanted) (fs : List Filed) → fs ≡ map untouched_of ws → AllTidy nodes fs
none_tidy nodes ws fs is k f is_f right = go ws k (subst (λ (l : List Filed). slice_get l k ≡ Some f) is is_f) right
  where
    go : (l : List Wanted) (n : ℕ) → slice_get (map untouched_of l) n ≡ Some f → is_right f.wanted f.count f.end ≡ true → IsInPlace (path_of f) f.wanted.time nodes
    go [] n e r = cc
    go (w ∷ l) zero e r = open_tidy f nodes (let h : ◌≡◌ {A = Option Filed} (Some (untouched_of w)) (Some f) = e in let same : untouched_of w ≡ f = cc in sym (ap (λ (x : Filed). x.end) same)) r
    go (w ∷ l) (suc n) e r = go l n e r

-- and no bytes were received
none_begun : (nodes : Option Nodes) (ws : List Wanted) (fs : List Filed) → fs ≡ map untouched_of ws → (k : ℕ) (f : Filed) → slice_get fs k ≡ Some f → IsUnderWay nodes f
none_begun nodes ws fs is k f is_f open_end some = absurd (go ws k (subst (λ (l : List Filed). slice_get l k ≡ Some f) is is_f) some)
  where
    go : (l : List Wanted) (n : ℕ) → slice_get (map untouched_of l) n ≡ Some f → 0 < f.count → ⊥
    go [] n e s = cc
    go (w ∷ l) zero e s = let h : ◌≡◌ {A = Option Filed} (Some (untouched_of w)) (Some f) = e in let same : untouched_of w ≡ f = cc in omega (arith, s, ap (λ (x : Filed). x.count) same)
    go (w ∷ l) (suc n) e s = go l n e s

pub first_order : (nodes : Option Nodes) (ws : List Wanted) (fs : List Filed) → fs ≡ map untouched_of ws → AreInOrder nodes fs
first_order nodes ws fs is = record { tidy = none_tidy nodes ws fs is; begun = none_begun nodes ws fs is }
