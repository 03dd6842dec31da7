-- Digest jobs of a listing, and the marks that their ends give.
use Rattle.std.proofs.Common.{◌≡◌, inl, inr, ◌+◌, ◌-◌, ◌<◌, ◌≤◌, ◌==◌, ◌&&◌, ℕ, zero, suc, Bool, true, false, not, List, [], ◌∷◌, ◌++◌, length, map, drop, Option, Some, None, refl, sym, ap, ◌∙◌, subst, arith, get_or, slice_get, bytes_eq, append_assoc, All}
use Rattle.std.specs.Prelude.{IsSomeAnd, if◌then◌else◌}
use Rattle.std.proofs.lemmas.Bool.{and_parts}
use Rattle.std.proofs.lemmas.List.{drop-map, length-drop}
use Rattle.std.proofs.lemmas.List.Sums.{sum_by-cons}
use Rattle.std.proofs.lemmas.Slice.Eq.{bytes_eq-Decides}
use Rattle.base_devices.specs.Links.{LinkState}
use Rattle.base_devices.specs.Order.{are_in_order, are_after, is_before}
use Rattle.base_model.specs.Text.{Text, In}
use Rattle.base_model.specs.Values.{FileEntry}
use Rattle.repo_ini.proofs.Orders.{not_itself}
use Rattle.worker_protocol.specs.declared.frames.frames.Job as rust
use Rattle.worker_protocol.specs.Frames.{Job, job_bytes, FitsJob}
use Rattle.worker_protocol.specs.Views.{job_of}
use Rattle.worker_protocol.specs.declared.sinks.ItemEnd.{ItemEnd}
use Rattle.worker_protocol.specs.declared.sinks.ItemEnd.TheVariants.{Whole, Vanished}
use Rattle.worker_pool.specs.Digests.{AreDigests, IsEndBy, AreEnds, is_equal}
use Rattle.worker_pool.proofs.Digests.{whole_of, equal_of, digested_as}
use Rattle.backup_plan.specs.declared.values.Taken as rust_taken
use Rattle.backup_plan.specs.declared.values.PlanSettings.{PlanSettings}
use Rattle.backup_plan.specs.declared.values.What.{What}
use Rattle.backup_plan.specs.declared.values.What.TheVariants.{Nothing, Single, Control}
use Rattle.backup_plan.specs.Digests.{is_asked, has_size, digest_job, digest_jobs}
use Rattle.backup_plan.specs.Filter.{IsListing, paths_of, size_of}
use Rattle.backup_plan.specs.Layout.{item_for, read_job, begin, laid, jobs_of}
use Rattle.backup_plan.specs.Listed.{Taken, entry_at, control_path}
use Rattle.backup_plan.specs.Views.{taken_of}
use Rattle.backup_plan.proofs.Fitting.{jobs_fit}
use Rattle.backup_plan.proofs.Lists.{in_map}
use Rattle.backup_plan.proofs.Searched.{later}
use Rattle.backup_make.specs.Faults.{IsUnread}
use Rattle.cmd_backup_offline.specs.Equal.{CannotDigest, begins_with, first_equal, next_mark, marks_of, IsOther, IsMarked, AreMarked}

-- ---- the jobs

-- each is that of a file that is asked for
pub digest_in : (old : List FileEntry) (fs : List Taken) (j : Job) → In j (digest_jobs old fs) → (f : Taken) × In f fs × (is_asked (entry_at f.path old) f ≡ true) × (j ≡ digest_job f)
digest_in old [] j i = absurd i
digest_in old (f ∷ fs) j i = by (is_asked (entry_at f.path old) f) refl (digest_in old fs j) i
  where
    by : (b : Bool) → is_asked (entry_at f.path old) f ≡ b → (In j (digest_jobs old fs) → (g : Taken) × In g fs × (is_asked (entry_at g.path old) g ≡ true) × (j ≡ digest_job g))
        → In j (if b then digest_job f ∷ digest_jobs old fs else digest_jobs old fs) → (g : Taken) × In g (f ∷ fs) × (is_asked (entry_at g.path old) g ≡ true) × (j ≡ digest_job g)
    by true is rest (inl e) = (f, inl refl, is, e)
    by true is rest (inr k) = let r = rest k in (r.0, inr r.1, r.2, r.3)
    by false is rest k = let r = rest k in (r.0, inr r.1, r.2, r.3)

pub are_digests : (old : List FileEntry) (fs : List Taken) (jobs : List Job) → jobs ≡ digest_jobs old fs → AreDigests jobs
are_digests old fs jobs are j i = let r = digest_in old fs j (subst (λ (js : List Job). In j js) are i) in (item_for r.0, r.3)

pub digest_count : (old : List FileEntry) (fs : List Taken) → length (digest_jobs old fs) ≤ length fs
digest_count old [] = omega arith
digest_count old (f ∷ fs) = by (is_asked (entry_at f.path old) f) (digest_count old fs)
  where
    by : (b : Bool) → length (digest_jobs old fs) ≤ length fs → length (if b then digest_job f ∷ digest_jobs old fs else digest_jobs old fs) ≤ suc (length fs)
    by true rest = omega (arith, rest)
    by false rest = omega (arith, rest)

-- ---- they may be sent

-- one file to a job
abbrev plain : PlanSettings
plain = record { delta = false; bundle = false; bundle_size = 0; bundle_limit = 0 }

size_in : (fs : List Taken) (f : Taken) → In f fs → f.size ≤ size_of fs
size_in [] f i = absurd i
size_in (g ∷ fs) f (inl e) = let all = sum_by-cons (λ (h : Taken). h.size) g fs in let same = ap (λ (h : Taken). h.size) e in omega (arith, all, same)
size_in (g ∷ fs) f (inr i) = let all = sum_by-cons (λ (h : Taken). h.size) g fs in let rest = size_in fs f i in omega (arith, all, rest)

one_listing : (fs : List Taken) (folders : List Text) → IsListing fs folders → (f : Taken) → In f fs → IsListing (f ∷ []) folders
one_listing fs folders l f i = record {
  files = λ g k. l.files g (only g k);
  folders_hold = l.folders_hold;
  file_order = refl;
  folder_order = l.folder_order;
  apart = λ path k. l.apart path (path_in path k);
  sizes = (
      let one = sum_by-cons (λ (h : Taken). h.size) f [] in
      let most = l.sizes in
      let part = size_in fs f i in
      omega (arith, one, most, part)
      );
}
  where
    only : (g : Taken) → In g (f ∷ []) → In g fs
    only g (inl e) = subst (λ (h : Taken). In h fs) (sym e) i
    only g (inr k) = absurd k

    path_in : (path : Text) → In path (paths_of (f ∷ [])) → In path (paths_of fs)
    path_in path (inl e) = subst (λ (p : Text). In p (paths_of fs)) (sym e) (in_map (λ (h : Taken). h.path) fs f i)
    path_in path (inr k) = absurd k

-- a file that is asked for is no control file, and has bytes
asked_parts : (old : Option FileEntry) (f : Taken) → is_asked old f ≡ true → (bytes_eq f.path control_path ≡ false) × ((f.size == 0) ≡ false)
asked_parts old f is = by (bytes_eq f.path control_path) (f.size == 0) (has_size old f.size) is
  where
    by : (a b c : Bool) → (not a && not b && c) ≡ true → (a ≡ false) × (b ≡ false)
    by false false c e = (refl, refl)
    by false true c e = cc
    by true b c e = cc

read_fits : (f : Taken) (folders : List Text) → IsListing (f ∷ []) folders → (bytes_eq f.path control_path ≡ false) × ((f.size == 0) ≡ false) → FitsJob (read_job (item_for f ∷ []))
read_fits f folders l is = jobs_fit (f ∷ []) folders l plain [] (false ∷ []) (read_job (item_for f ∷ []))
    (subst (λ (w : What). In (read_job (item_for f ∷ [])) (jobs_of (laid plain begin f w))) (sym (single (bytes_eq f.path control_path) (f.size == 0) is.0 is.1)) (inl refl))
  where
    single : (a b : Bool) → a ≡ false → b ≡ false → (if a then Control else (if b then Nothing else Single)) ≡ Single
    single false false p q = refl
    single true b p q = absurd (let x : ◌≡◌ {A = Bool} true false = p in cc)
    single false true p q = absurd (let x : ◌≡◌ {A = Bool} true false = q in cc)

pub digest_fits : (old : List FileEntry) (fs : List Taken) (folders : List Text) → IsListing fs folders → (j : Job) → In j (digest_jobs old fs) → FitsJob j
unfolding job_bytes
digest_fits old fs folders l j i =
    let r = digest_in old fs j i in
    let fits = read_fits r.0 folders (one_listing fs folders l r.0 r.1) (asked_parts (entry_at r.0.path old) r.0 r.2) in
    subst FitsJob (sym r.3) (record { some = fits.some; few = fits.few; items = fits.items; small = fits.small })

pub all_fit : (jobs : List rust.Job) (js : List Job) → map job_of jobs ≡ js → ((j : Job) → In j js → FitsJob j) → All (λ (j : rust.Job). FitsJob (job_of j)) jobs
all_fit jobs js are fits k x less = fits (job_of (get_or jobs k x)) (subst (λ (l : List Job). In (job_of (get_or jobs k x)) l) are (in_jobs jobs k less))
  where
    in_jobs : (ks : List rust.Job) (n : ℕ) → n < length ks → In (job_of (get_or ks n x)) (map job_of ks)
    in_jobs [] n lt = absurd (omega (arith, lt))
    in_jobs (y ∷ ys) zero lt = inl refl
    in_jobs (y ∷ ys) (suc n) lt = inr (in_jobs ys n (omega (arith, lt)))

-- ---- the marks

-- those after a file have other paths
other_path : (f : Taken) (fs : List Taken) → are_in_order (paths_of (f ∷ fs)) ≡ true → (g : Taken) → In g fs → bytes_eq g.path f.path ≡ false
other_path f fs order g i = by (bytes_eq g.path f.path) refl
  where
    by : (b : Bool) → bytes_eq g.path f.path ≡ b → b ≡ false
    by true is = absurd (not_itself f.path g.path (later (λ (h : Taken). h.path) f.path fs g order i) (sym ((bytes_eq-Decides g.path f.path).0 is)))
    by false is = refl

itself : (path : Text) → bytes_eq path path ≡ true
itself path = (bytes_eq-Decides path path).1 refl

pub rest_order : (f : Taken) (fs : List Taken) → are_in_order (paths_of (f ∷ fs)) ≡ true → are_in_order (paths_of fs) ≡ true
rest_order f [] order = refl
rest_order f (g ∷ fs) order = (and_parts (is_before f.path g.path) (are_after g.path (paths_of fs)) order).1

-- the next mark is that of the file, where it is asked for
pub next_is : (old : List FileEntry) (f : Taken) (fs : List Taken) (ends : List (Option ItemEnd)) → are_in_order (paths_of (f ∷ fs)) ≡ true
    → next_mark old (digest_jobs old (f ∷ fs)) ends f ≡ (if is_asked (entry_at f.path old) f then Some (first_equal (entry_at f.path old) ends) else None)
next_is old f fs ends order = by (is_asked (entry_at f.path old) f)
  where
    none : (js : List Job) → ((j : Job) → In j js → begins_with j.items f ≡ false) → next_mark old js ends f ≡ None
    none [] all = refl
    none (j ∷ js) all = let is : begins_with j.items f ≡ false = all j (inl refl) in rw is refl

    others : (j : Job) → In j (digest_jobs old fs) → begins_with j.items f ≡ false
    others j i = let r = digest_in old fs j i in subst (λ (k : Job). begins_with k.items f ≡ false) (sym r.3) (other_path f fs order r.0 r.1)

    by : (b : Bool) → next_mark old (if b then digest_job f ∷ digest_jobs old fs else digest_jobs old fs) ends f ≡ (if b then Some (first_equal (entry_at f.path old) ends) else None)
    by true = let is = itself f.path in rw is refl
    by false = none (digest_jobs old fs) others

module _ (old : List FileEntry) (f : Taken) (rest : List Taken) (js : List Job) (ends : List (Option ItemEnd)) (jobs_are : js ≡ digest_jobs old (f ∷ rest)) (order : are_in_order (paths_of (f ∷ rest)) ≡ true) where
  abbrev Chosen : Bool → Option Bool
  Chosen b = if b then Some (first_equal (entry_at f.path old) ends) else None

  mark_is : (b : Bool) → is_asked (entry_at f.path old) f ≡ b → next_mark old js ends f ≡ Chosen b
  mark_is b is = ap (λ (l : List Job). next_mark old l ends f) jobs_are ∙ next_is old f rest ends order ∙ ap Chosen is

  jobs_by : (b : Bool) → is_asked (entry_at f.path old) f ≡ b → js ≡ (if b then digest_job f ∷ digest_jobs old rest else digest_jobs old rest)
  jobs_by b is = jobs_are ∙ ap (λ (c : Bool). if c then digest_job f ∷ digest_jobs old rest else digest_jobs old rest) is

  marks_by : (b : Bool) → is_asked (entry_at f.path old) f ≡ b
      → marks_of old (f ∷ rest) ends ≡ (if b then first_equal (entry_at f.path old) ends ∷ marks_of old rest (drop 1 ends) else false ∷ marks_of old rest ends)
  marks_by b is = ap (λ (c : Bool). if c then first_equal (entry_at f.path old) ends ∷ marks_of old rest (drop 1 ends) else false ∷ marks_of old rest ends) is

  -- a file that has a job
  pub with_mark : (equal : Bool) → next_mark old js ends f ≡ Some equal → (0 < length js) × (drop 1 js ≡ digest_jobs old rest) × (marks_of old (f ∷ rest) ends ≡ equal ∷ marks_of old rest (drop 1 ends))
  with_mark equal is = by (is_asked (entry_at f.path old) f) refl
    where
      by : (b : Bool) → is_asked (entry_at f.path old) f ≡ b → (0 < length js) × (drop 1 js ≡ digest_jobs old rest) × (marks_of old (f ∷ rest) ends ≡ equal ∷ marks_of old rest (drop 1 ends))
      by true at =
          let e : ◌≡◌ {A = Option Bool} (Some (first_equal (entry_at f.path old) ends)) (Some equal) = sym (mark_is true at) ∙ is in
          let same : first_equal (entry_at f.path old) ends ≡ equal = cc in
          let jobs = jobs_by true at in
          (subst (λ (l : List Job). 0 < length l) (sym jobs) (omega arith), ap (λ (l : List Job). drop 1 l) jobs, marks_by true at ∙ ap (λ (m : Bool). m ∷ marks_of old rest (drop 1 ends)) same)
      by false at = absurd (let e : ◌≡◌ {A = Option Bool} None (Some equal) = sym (mark_is false at) ∙ is in cc)

  -- and one that has none
  pub without_mark : next_mark old js ends f ≡ None → (js ≡ digest_jobs old rest) × (marks_of old (f ∷ rest) ends ≡ false ∷ marks_of old rest ends)
  without_mark is = by (is_asked (entry_at f.path old) f) refl
    where
      by : (b : Bool) → is_asked (entry_at f.path old) f ≡ b → (js ≡ digest_jobs old rest) × (marks_of old (f ∷ rest) ends ≡ false ∷ marks_of old rest ends)
      by true at = absurd (let e : ◌≡◌ {A = Option Bool} (Some (first_equal (entry_at f.path old) ends)) None = sym (mark_is true at) ∙ is in cc)
      by false at = (jobs_by false at, marks_by false at)

-- ---- what the marks say

-- the end of a file that is asked for says whether it is equal
mark_of : (links : List LinkState) (old : List FileEntry) (f : Taken) (e : FileEntry) → is_asked (entry_at f.path old) f ≡ true → entry_at f.path old ≡ Some e → (end : Option ItemEnd) → IsSomeAnd end (IsEndBy links (item_for f)) → IsMarked links old f (is_equal e end)
mark_of links old f e asked is end known = by (is_equal e end) refl
  where
    other : (end : Option ItemEnd) → is_equal e end ≡ false → IsSomeAnd end (IsEndBy links (item_for f)) → IsOther links f e
    other None none known = absurd known
    other (Some (Whole n sum)) none known = inl (n, sum.0, known, λ same. let t : ◌≡◌ {A = Bool} true false = sym (equal_of e (Some (Whole n sum)) same) ∙ none in cc)
    other (Some Vanished) none known = inr known

    by : (b : Bool) → is_equal e end ≡ b → IsMarked links old f b
    by true equal = record { asked = asked; entry = e; is = is; digested = digested_as links (item_for f) e.size e.sum end known (whole_of e end equal) }
    by false none = inr (e, is, other end none known)

-- a file that is asked for has an entry
asked_entry : (o : Option FileEntry) (f : Taken) → is_asked o f ≡ true → (e : FileEntry) × (o ≡ Some e)
asked_entry None f is = absurd (by (bytes_eq f.path control_path) (f.size == 0) is)
  where
    by : (a b : Bool) → (not a && not b && false) ≡ true → ⊥
    by false false e = cc
    by false true e = cc
    by true b e = cc
asked_entry (Some e) f is = (e, refl)

some_end : (ends : List (Option ItemEnd)) (P : Option ItemEnd → Type 0) → IsSomeAnd (slice_get ends 0) P → (end : Option ItemEnd) × (more : List (Option ItemEnd)) × (ends ≡ end ∷ more) × P end
some_end [] P h = absurd h
some_end (end ∷ more) P h = (end, more, refl, h)

abbrev marks_when : List FileEntry → Taken → List Taken → List (Option ItemEnd) → Bool → List Bool
marks_when old f fs ends b = if b then first_equal (entry_at f.path old) ends ∷ marks_of old fs (drop 1 ends) else false ∷ marks_of old fs ends

abbrev jobs_when : List FileEntry → Taken → List Taken → Bool → List Job
jobs_when old f fs b = if b then digest_job f ∷ digest_jobs old fs else digest_jobs old fs

-- those of the other files
rest_ends : (links : List LinkState) (f : Taken) (js rest : List Job) (ends more : List (Option ItemEnd)) (end : Option ItemEnd) → js ≡ digest_job f ∷ rest → ends ≡ end ∷ more → AreEnds links js ends → AreEnds links rest more
rest_ends links f js rest ends more end jobs is known = record {
  count = (let c = known.count in let m = ap (λ (l : List (Option ItemEnd)). length l) is in let n = ap (λ (l : List Job). length l) jobs in omega (arith, c, m, n));
  each = λ k item at. subst (λ (l : List (Option ItemEnd)). IsSomeAnd (slice_get l (suc k)) (λ end. IsSomeAnd end (IsEndBy links item))) is
      (known.each (suc k) item (ap (λ (l : List Job). slice_get l (suc k)) jobs ∙ at));
}

pub are_marked : (links : List LinkState) (old : List FileEntry) (fs : List Taken) (js : List Job) (ends : List (Option ItemEnd)) → js ≡ digest_jobs old fs → AreEnds links js ends → AreMarked links old fs (marks_of old fs ends)
are_marked links old [] js ends jobs_are known = tt
are_marked links old (f ∷ fs) js ends jobs_are known = by (λ ks es k t. are_marked links old fs ks es k t) (is_asked (entry_at f.path old) f) refl
  where
    by : ((ks : List Job) (es : List (Option ItemEnd)) → ks ≡ digest_jobs old fs → AreEnds links ks es → AreMarked links old fs (marks_of old fs es)) → (b : Bool) → is_asked (entry_at f.path old) f ≡ b
        → AreMarked links old (f ∷ fs) (marks_when old f fs ends (is_asked (entry_at f.path old) f))
    by others false at =
        let jobs : js ≡ digest_jobs old fs = jobs_are ∙ ap (jobs_when old f fs) at in
        subst (λ (b : Bool). AreMarked links old (f ∷ fs) (marks_when old f fs ends b)) (sym at) (inl at, others js ends jobs known)
    by others true at =
        let jobs : js ≡ digest_job f ∷ digest_jobs old fs = jobs_are ∙ ap (jobs_when old f fs) at in
        let e = asked_entry (entry_at f.path old) f at in
        let here : slice_get js 0 ≡ Some (digest_job f) = ap (λ (l : List Job). slice_get l 0) jobs in
        let x = some_end ends (λ (end : Option ItemEnd). IsSomeAnd end (IsEndBy links (item_for f))) (known.each 0 (item_for f) here) in
        let rest = rest_ends links f js (digest_jobs old fs) ends x.1 x.0 jobs x.2 known in
        let marks : marks_when old f fs ends true ≡ is_equal e.0 x.0 ∷ marks_of old fs x.1 =
        ap (λ (o : Option FileEntry). first_equal o ends ∷ marks_of old fs (drop 1 ends)) e.1 ∙ ap (λ (l : List (Option ItemEnd)). first_equal (Some e.0) l ∷ marks_of old fs (drop 1 l)) x.2 in
        subst (λ (b : Bool). AreMarked links old (f ∷ fs) (marks_when old f fs ends b)) (sym at) (subst (λ (ms : List Bool). AreMarked links old (f ∷ fs) ms) (sym marks)
        (mark_of links old f e.0 at e.1 x.0 x.3, others (digest_jobs old fs) x.1 refl rest))

-- as many marks as files
pub marked_length : (links : List LinkState) (old : List FileEntry) (fs : List Taken) (ms : List Bool) → AreMarked links old fs ms → length ms ≡ length fs
marked_length links old [] [] h = refl
marked_length links old [] (m ∷ ms) h = absurd h
marked_length links old (f ∷ fs) [] h = absurd h
marked_length links old (f ∷ fs) (m ∷ ms) h = ap (λ (n : ℕ). suc n) (marked_length links old fs ms h.1)

-- ---- a step of the loop over the files

drop_here : (xs : List rust_taken.Taken) (k : ℕ) (x : rust_taken.Taken) → k < length xs → x ≡ get_or xs k x → drop k xs ≡ x ∷ drop (k + 1) xs
drop_here [] k x lt e = absurd (omega (arith, lt))
drop_here (y ∷ ys) zero x lt e = ap (λ (z : rust_taken.Taken). z ∷ ys) (sym e)
drop_here (y ∷ ys) (suc k) x lt e = drop_here ys k x (omega (arith, lt)) e ∙ ap (λ (n : ℕ). x ∷ drop n (y ∷ ys)) (let same : suc (k + 1) ≡ suc k + 1 = omega arith in same)

drop_sorted : (fs : List Taken) (k : ℕ) → are_in_order (paths_of fs) ≡ true → are_in_order (paths_of (drop k fs)) ≡ true
drop_sorted fs zero o = o
drop_sorted [] (suc k) o = refl
drop_sorted (f ∷ fs) (suc k) o = drop_sorted fs k (rest_order f fs o)

module _ (old : List FileEntry) (files : List rust_taken.Taken) (i : ℕ) (file : rust_taken.Taken) (less : i < length files) (is : file ≡ get_or files i file) (order : are_in_order (paths_of (map taken_of files)) ≡ true) where
  -- the files from this one on
  here : map taken_of (drop i files) ≡ taken_of file ∷ map taken_of (drop (i + 1) files)
  here = ap (map taken_of) (drop_here files i file less is)

  sorted : are_in_order (paths_of (taken_of file ∷ map taken_of (drop (i + 1) files))) ≡ true
  sorted = subst (λ (fs : List Taken). are_in_order (paths_of fs) ≡ true) (drop-map taken_of i files ∙ here) (drop_sorted (map taken_of files) i order)

  abbrev Rest : List Taken
  Rest = map taken_of (drop (i + 1) files)

  module _ (jobs : List rust.Job) (ends : List (Option ItemEnd)) (marks : List Bool) (all : List Bool) (jobs_are : map job_of jobs ≡ digest_jobs old (map taken_of (drop i files))) (count : length ends ≡ length jobs)
      (marks_are : marks ++ marks_of old (map taken_of (drop i files)) ends ≡ all) where
    now : map job_of jobs ≡ digest_jobs old (taken_of file ∷ Rest)
    now = jobs_are ∙ ap (λ (fs : List Taken). digest_jobs old fs) here

    so_far : marks ++ marks_of old (taken_of file ∷ Rest) ends ≡ all
    so_far = ap (λ (fs : List Taken). marks ++ marks_of old fs ends) (sym here) ∙ marks_are

    more : (m : Bool) (left : List (Option ItemEnd)) → marks_of old (taken_of file ∷ Rest) ends ≡ m ∷ marks_of old Rest left → (marks ++ m ∷ []) ++ marks_of old Rest left ≡ all
    more m left is = append_assoc marks (m ∷ []) (marks_of old Rest left) ∙ ap (λ (l : List Bool). marks ++ l) (sym is) ∙ so_far

    -- after a file that has a job
    pub after_mark : (equal : Bool) → next_mark old (map job_of jobs) ends (taken_of file) ≡ Some equal
        → (map job_of (drop 1 jobs) ≡ digest_jobs old (map taken_of (drop (i + 1) files))) × (length (drop 1 ends) ≡ length (drop 1 jobs)) × ((marks ++ equal ∷ []) ++ marks_of old (map taken_of (drop (i + 1) files)) (drop 1 ends) ≡ all)
    after_mark equal is =
        let w = with_mark old (taken_of file) Rest (map job_of jobs) ends now sorted equal is in (
          sym (drop-map job_of 1 jobs) ∙ w.1,
          length-drop 1 ends ∙ ap (λ (n : ℕ). n - 1) count ∙ sym (length-drop 1 jobs),
          more equal (drop 1 ends) w.2,
        )

    -- and after one that has none
    pub after_none : next_mark old (map job_of jobs) ends (taken_of file) ≡ None
        → (map job_of jobs ≡ digest_jobs old (map taken_of (drop (i + 1) files))) × ((marks ++ false ∷ []) ++ marks_of old (map taken_of (drop (i + 1) files)) ends ≡ all)
    after_none is =
        let w = without_mark old (taken_of file) Rest (map job_of jobs) ends now sorted is in
        (w.0, more false ends w.1)

abbrev pub IsAt : List FileEntry → List rust_taken.Taken → ℕ → List rust.Job → List (Option ItemEnd) → List Bool → List Bool → Type 0
IsAt old files i jobs ends marks all =
    (map job_of jobs ≡ digest_jobs old (map taken_of (drop i files))) × (length ends ≡ length jobs) × (marks ++ marks_of old (map taken_of (drop i files)) ends ≡ all)

pub moved : (old : List FileEntry) (files : List rust_taken.Taken) (i : ℕ) (jobs jobs2 : List rust.Job) (ends ends2 : List (Option ItemEnd)) (marks marks2 : List Bool) (equal : Bool) (all : List Bool)
    → jobs2 ≡ drop 1 jobs → ends2 ≡ drop 1 ends → marks2 ≡ marks ++ equal ∷ [] → IsAt old files (i + 1) (drop 1 jobs) (drop 1 ends) (marks ++ equal ∷ []) all → IsAt old files (i + 1) jobs2 ends2 marks2 all
moved old files i jobs jobs2 ends ends2 marks marks2 equal all p q r at =
    subst (λ (ms : List Bool). IsAt old files (i + 1) jobs2 ends2 ms all) (sym r)
    (subst (λ (es : List (Option ItemEnd)). IsAt old files (i + 1) jobs2 es (marks ++ equal ∷ []) all) (sym q)
    (subst (λ (js : List rust.Job). IsAt old files (i + 1) js (drop 1 ends) (marks ++ equal ∷ []) all) (sym p) at))

pub stayed : (old : List FileEntry) (files : List rust_taken.Taken) (i : ℕ) (jobs jobs2 : List rust.Job) (ends ends2 : List (Option ItemEnd)) (marks marks2 : List Bool) (all : List Bool)
    → jobs2 ≡ jobs → ends2 ≡ ends → marks2 ≡ marks ++ false ∷ [] → length ends ≡ length jobs
    → (map job_of jobs ≡ digest_jobs old (map taken_of (drop (i + 1) files))) × ((marks ++ false ∷ []) ++ marks_of old (map taken_of (drop (i + 1) files)) ends ≡ all) → IsAt old files (i + 1) jobs2 ends2 marks2 all
stayed old files i jobs jobs2 ends ends2 marks marks2 all p q r count at =
    subst (λ (ms : List Bool). IsAt old files (i + 1) jobs2 ends2 ms all) (sym r)
    (subst (λ (es : List (Option ItemEnd)). IsAt old files (i + 1) jobs2 es (marks ++ false ∷ []) all) (sym q)
    (subst (λ (js : List rust.Job). IsAt old files (i + 1) js ends (marks ++ false ∷ []) all) (sym p) (at.0, count, at.1)))

-- ---- a file that couldn't be read

pub undigested : (old : List FileEntry) (fs : List Taken) (jobs : List Job) → jobs ≡ digest_jobs old fs → (links left : List LinkState) (path : Text) → IsUnread jobs links left path → CannotDigest links old fs path
undigested old fs jobs are links left path h = record {
  link = h.link;
  from = h.from;
  from_is = h.from_is;
  job = h.job;
  asked = subst (λ (js : List Job). In h.job js) are h.asked;
  item = h.item;
  of_job = h.of_job;
  path_is = h.path_is;
  unread = h.unread;
}
