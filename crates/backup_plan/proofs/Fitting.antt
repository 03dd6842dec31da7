-- The jobs of a listing may be sent to a worker.
use Rattle.std.proofs.Common.{◌≡◌, ⊎_elim, inl, inr, ◌*◌, ◌<◌, ◌≤◌, Bool, true, false, List, [], ◌∷◌, ◌++◌, length, refl, sym, ap, subst, arith, lit<, lit≤, length-append}
use Rattle.std.specs.Int.{w16, w32, w64, to_be_bytes}
use Rattle.std.specs.List.{AllByRecursion, flat_map}
use Rattle.std.proofs.lemmas.List.Sums.{sum_by-cons}
use Rattle.worker_protocol.specs.declared.frames.frames.JobKind.{JobKind}
use Rattle.worker_protocol.specs.declared.frames.frames.JobKind.TheVariants.{Read}
use Rattle.worker_protocol.specs.Frames.{Item, Job, item_bytes, job_bytes, job_limit, short_text, FitsItem, FitsJob}
use Rattle.base_model.specs.Text.{Text, In}
use Rattle.base_model.specs.Values.{FileEntry}
use Rattle.backup_plan.specs.declared.values.PlanSettings.{PlanSettings}
use Rattle.backup_plan.specs.declared.values.What.{What}
use Rattle.backup_plan.specs.declared.values.What.TheVariants.{Leave, Nothing, Single, Small, Control}
use Rattle.backup_plan.specs.Listed.{Taken, entry_at, what}
use Rattle.backup_plan.specs.Layout.{Layout, item_for, read_job, takes, bundled_by, bundles, bundle_job, laid, laid_all, layout, begin, jobs_of}
use Rattle.backup_plan.specs.Filter.{size_of, IsListing}
use Rattle.backup_plan.proofs.Lists.{in_parts}

-- ---- how long a job is

item_count : (i : Item) → length i.path ≤ 1024 → length (item_bytes i) ≤ 1043
unfolding item_bytes
item_count i short =
    let a = length-append (short_text i.path ++ to_be_bytes w64 i.at) (to_be_bytes w64 i.size) in
    let b = length-append (short_text i.path) (to_be_bytes w64 i.at) in
    let c = length-append (to_be_bytes w16 (length i.path)) i.path in
    let d : length (to_be_bytes w64 i.at) ≡ 8 = refl in
    let e : length (to_be_bytes w64 i.size) ≡ 8 = refl in
    let f : length (to_be_bytes w16 (length i.path)) ≡ 2 = refl in
    omega (arith, a, b, c, d, e, f, short)

-- items whose paths may be in a data folder
abbrev AreShort : List Item → Type 0
AreShort is = AllByRecursion (λ (i : Item). length i.path ≤ 1024) is

items_count : (is : List Item) → AreShort is → length (flat_map item_bytes is) ≤ length is * 1043
items_count [] h = omega arith
items_count (i ∷ is) h =
    let a = length-append (item_bytes i) (flat_map item_bytes is) in
    let b = item_count i h.0 in
    let c = items_count is h.1 in
    omega (arith, a, b, c)

job_count : (j : Job) → AreShort j.items → length j.items ≤ 50000 → length (job_bytes j) ≤ job_limit
unfolding job_bytes job_limit
job_count j short few =
    let a = length-append (to_be_bytes w32 (length j.items)) (flat_map item_bytes j.items) in
    let b : length (to_be_bytes w32 (length j.items)) ≡ 4 = refl in
    let c = items_count j.items short in
    omega (arith, a, b, c, few)

-- ---- a job that may be sent

abbrev IsGood : Item → Type 0
IsGood i = FitsItem i × (length i.path ≤ 1024)

record IsReady (j : Job) : Type 0 where
  some : 0 < length j.items
  few : length j.items ≤ 50000
  items : AllByRecursion IsGood j.items

fitting : (is : List Item) → AllByRecursion IsGood is → AllByRecursion FitsItem is
fitting [] h = tt
fitting (i ∷ is) h = (h.0.0, fitting is h.1)

short : (is : List Item) → AllByRecursion IsGood is → AreShort is
short [] h = tt
short (i ∷ is) h = (h.0.1, short is h.1)

fits_job : (j : Job) → IsReady j → FitsJob j
fits_job j h = let few = h.few in record { some = h.some; few = omega (arith, few); items = fitting j.items h.items; small = job_count j (short j.items h.items) h.few }

-- ---- the jobs of a layout

record AreReady (l : Layout) : Type 0 where
  singles : (j : Job) → In j l.singles → IsReady j
  full : (j : Job) → In j l.full → IsReady j
  last : (j : Job) → In j l.last → IsReady j
  current : AllByRecursion IsGood l.current
  few : length l.current ≤ 50000

both_ready : (js ks : List Job) → ((j : Job) → In j js → IsReady j) → ((j : Job) → In j ks → IsReady j) → (j : Job) → In j (js ++ ks) → IsReady j
both_ready js ks a b j h = ⊎_elim (λ (i : In j js). a j i) (λ (i : In j ks). b j i) (in_parts js ks j h)

bundle_ready : (is : List Item) → AllByRecursion IsGood is → length is ≤ 50000 → (j : Job) → In j (bundle_job is) → IsReady j
bundle_ready [] good few j h = absurd h
bundle_ready (i ∷ is) good few j (inl e) = subst IsReady (sym e) (record { some = omega arith; few = few; items = good })
bundle_ready (i ∷ is) good few j (inr h) = absurd h

good_append : (is : List Item) (i : Item) → AllByRecursion IsGood is → IsGood i → AllByRecursion IsGood (is ++ i ∷ [])
good_append [] i h g = (g, tt)
good_append (k ∷ is) i h g = (h.0, good_append is i h.1 g)

takes_room : (s : PlanSettings) (l : Layout) (f : Taken) → takes s l f.size ≡ true → length l.current < 50000
takes_room s l f is = grind (arith, is)

module _ (f : Taken) (good : IsGood (item_for f)) where
  one : (kind : JobKind) (j : Job) → In j ((let job : Job = record { kind = kind; items = item_for f ∷ [] } in job) ∷ []) → IsReady j
  one kind j (inl e) = subst IsReady (sym e) (record { some = lit< tt; few = lit≤ tt; items = (good, tt) })
  one kind j (inr h) = absurd h

  in_bundle_ready : (b : Bool) (l : Layout) → (b ≡ true → length l.current < 50000) → AreReady l → AreReady (bundled_by b l f)
  in_bundle_ready true l room h =
      let r = room refl in
      let count = length-append l.current (item_for f ∷ []) in
      record { singles = h.singles; full = h.full; last = h.last; current = good_append l.current (item_for f) h.current good; few = omega (arith, r, count) }
  in_bundle_ready false l room h =
      record { singles = h.singles; full = both_ready l.full (bundle_job l.current) h.full (bundle_ready l.current h.current h.few); last = h.last; current = (good, tt); few = lit≤ tt }

  step : (s : PlanSettings) (l : Layout) (w : What) → AreReady l → AreReady (laid s l f w)
  step s l Leave h = record { singles = h.singles; full = h.full; last = h.last; current = h.current; few = h.few }
  step s l Nothing h = record { singles = h.singles; full = h.full; last = h.last; current = h.current; few = h.few }
  step s l Single h = record { singles = both_ready l.singles (read_job (item_for f ∷ []) ∷ []) h.singles (one Read); full = h.full; last = h.last; current = h.current; few = h.few }
  step s l Small h =
      let g = in_bundle_ready (takes s l f.size) l (takes_room s l f) h in
      record { singles = g.singles; full = g.full; last = g.last; current = g.current; few = g.few }
  step s l Control h = record { singles = h.singles; full = h.full; last = both_ready l.last (read_job (item_for f ∷ []) ∷ []) h.last (one Read); current = h.current; few = h.few }

all_ready : (s : PlanSettings) (old : List FileEntry) (l : Layout) (fs : List Taken) (es : List Bool) → ((f : Taken) → In f fs → IsGood (item_for f)) → AreReady l → AreReady (laid_all s old l fs es)
all_ready s old l [] es good h = h
all_ready s old l (f ∷ fs) [] good h = h
all_ready s old l (f ∷ fs) (e ∷ es) good h =
    all_ready s old (laid s l f (what s (entry_at f.path old) f e)) fs es (λ g i. good g (inr i)) (step f (good f (inl refl)) s l (what s (entry_at f.path old) f e) h)

size_in : (fs : List Taken) (f : Taken) → In f fs → f.size ≤ size_of fs
size_in [] f i = absurd i
size_in (g ∷ fs) f (inl e) = let all = sum_by-cons (λ (h : Taken). h.size) g fs in let same = ap (λ (h : Taken). h.size) e in omega (arith, all, same)
size_in (g ∷ fs) f (inr i) = let all = sum_by-cons (λ (h : Taken). h.size) g fs in let rest = size_in fs f i in omega (arith, all, rest)

module _ (fs : List Taken) (folders : List Text) (listing : IsListing fs folders) where
  good : (f : Taken) → In f fs → IsGood (item_for f)
  good f i =
      let path = (listing.files f i).path in
      let most = listing.sizes in
      let part = size_in fs f i in
      (record { path = path; at = lit< tt; size = omega (arith, most, part) }, path.short)

  -- each job of a plan
  pub jobs_fit : (s : PlanSettings) (old : List FileEntry) (es : List Bool) (j : Job) → In j (jobs_of (layout s old fs es)) → FitsJob j
  jobs_fit s old es j i =
      let none = λ (k : Job) (h : ⊥). absurd h in
      let ready = all_ready s old begin fs es good (record { singles = none; full = none; last = none; current = tt; few = lit≤ tt }) in
      let l = layout s old fs es in
      let bundled = both_ready l.full (bundle_job l.current) ready.full (bundle_ready l.current ready.current ready.few) in
      fits_job j (both_ready (l.singles ++ bundles l) l.last (both_ready l.singles (bundles l) ready.singles bundled) ready.last j i)
