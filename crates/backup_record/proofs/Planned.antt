-- The names of a plan's jobs are the backup's own, none of them is temporary, and no two jobs have one.
use Rattle.std.proofs.Common.{◌≡◌, ◌≢◌, ◌⊎◌, ⊎_elim, inl, inr, ◌<◌, ◌≤◌, ◌+◌, ◌-◌, ◌^◌, ℕ, zero, suc, Bool, true, false, List, [], ◌∷◌, ◌++◌, length, map, Option, Some, None, refl, sym, ◌∙◌, ap, subst, arith, slice_get, append_assoc, lit<}
use Rattle.std.specs.Prelude.{◌||◌, codes, decimal}
use Rattle.std.proofs.lemmas.Bool.{and_parts}
use Rattle.std.proofs.lemmas.Fmt.{decimal_injective}
use Rattle.std.proofs.lemmas.List.{append_cancel_left}
use Rattle.sha1.specs.Sha1.{sha1}
use Rattle.base_text.proofs.Digests.{IsSum-sha1}
use Rattle.base_devices.specs.Content.{Name, is_below}
use Rattle.base_devices.specs.Crash.{IsTemporary}
use Rattle.base_devices.specs.Order.{is_before, are_after, are_in_order}
use Rattle.worker_protocol.specs.Frames.{Item, Job}
use Rattle.base_disk.proofs.Below.{below_prefix}
use Rattle.repo_ini.proofs.Orders.{not_itself}
use Rattle.base_model.specs.declared.labels.Label.{Label}
use Rattle.base_model.specs.Text.{Text, In, ◌⫽◌}
use Rattle.base_model.specs.Names.{label_folder, file_name, bundle_name}
use Rattle.base_model.specs.Values.{FileEntry}
use Rattle.base_model.specs.ManifestText.{IsFileEntry}
use Rattle.base_model.proofs.Temporary.{entry_lasts}
use Rattle.backup_sink.specs.Keeping.{IsPlan, is_own}
use Rattle.backup_plan.specs.declared.values.PlanSettings.{PlanSettings}
use Rattle.backup_plan.specs.declared.values.What.{What}
use Rattle.backup_plan.specs.declared.values.What.TheVariants.{Leave, Nothing, Single, Small, Control}
use Rattle.backup_plan.specs.Listed.{Taken, entry_at, what}
use Rattle.backup_plan.specs.Layout.{Layout, item_for, read_job, takes, bundled_by, bundles, laid, laid_all, layout, begin}
use Rattle.backup_plan.specs.Filter.{paths_of, IsTaken}
use Rattle.backup_plan.proofs.Lists.{in_parts}
use Rattle.backup_plan.proofs.Searched.{later}
use Rattle.backup_record.specs.Naming.{single_in, bundles_in, names_in}
use Rattle.backup_record.proofs.Made.{map_map, of_map, in_map}

-- ---- lists of different elements

abbrev IsDistinct : {X : Type 0} → List X → Type 0
IsDistinct [] = Unit {0}
IsDistinct (x ∷ xs) = (¬ In x xs) × IsDistinct xs

get_in : {X : Type 0} (xs : List X) (i : ℕ) (x : X) → slice_get xs i ≡ Some x → In x xs
get_in [] i x is = absurd (let e : ◌≡◌ {A = Option _} None (Some x) = is in cc)
get_in (y ∷ ys) zero x is = inl (let e : ◌≡◌ {A = Option _} (Some y) (Some x) = is in cc)
get_in (y ∷ ys) (suc i) x is = inr (get_in ys i x is)

one_place : {X : Type 0} (xs : List X) → IsDistinct xs → (i j : ℕ) (x : X) → slice_get xs i ≡ Some x → slice_get xs j ≡ Some x → i ≡ j
one_place [] h i j x a b = absurd (let e : ◌≡◌ {A = Option _} None (Some x) = a in cc)
one_place (y ∷ ys) h zero zero x a b = refl
one_place (y ∷ ys) h zero (suc j) x a b = absurd (h.0 (subst (λ (z : _). In z ys) (let e : ◌≡◌ {A = Option _} (Some y) (Some x) = a in let s : x ≡ y = cc in s) (get_in ys j x b)))
one_place (y ∷ ys) h (suc i) zero x a b = absurd (h.0 (subst (λ (z : _). In z ys) (let e : ◌≡◌ {A = Option _} (Some y) (Some x) = b in let s : x ≡ y = cc in s) (get_in ys i x a)))
one_place (y ∷ ys) h (suc i) (suc j) x a b = ap suc (one_place ys h.1 i j x a b)

distinct_append : {X : Type 0} (xs ys : List X) → IsDistinct xs → IsDistinct ys → ((x : X) → In x xs → In x ys → ⊥) → IsDistinct (xs ++ ys)
distinct_append [] ys a b none = b
distinct_append (x ∷ xs) ys a b none = (
  λ i. ⊎_elim (λ (j : In x xs). a.0 j) (λ (j : In x ys). none x (inl refl) j) (in_parts xs ys x i),
  distinct_append xs ys a.1 b (λ y i j. none y (inr i) j),
)

-- ---- the files of the jobs

is_single : What → Bool
is_single Leave = false
is_single Nothing = false
is_single Single = true
is_single Small = false
is_single Control = false

is_control : What → Bool
is_control Leave = false
is_control Nothing = false
is_control Single = false
is_control Small = false
is_control Control = true

abbrev job_for : Taken → Job
job_for f = read_job (item_for f ∷ [])

abbrev with_one : Bool → Taken → List Taken → List Taken
with_one true f fs = f ∷ fs
with_one false f fs = fs

module _ (test : What → Bool) (s : PlanSettings) (old : List FileEntry) where
  -- the files of this kind
  chosen : List Taken → List Bool → List Taken
  chosen [] es = []
  chosen (f ∷ fs) [] = []
  chosen (f ∷ fs) (e ∷ es) = with_one (test (what s (entry_at f.path old) f e)) f (chosen fs es)

  chosen_in : (fs : List Taken) (es : List Bool) (g : Taken) → In g (chosen fs es) → In g fs
  unfolding chosen
  chosen_in [] es g i = absurd i
  chosen_in (f ∷ fs) [] g i = absurd i
  chosen_in (f ∷ fs) (e ∷ es) g i = by (test (what s (entry_at f.path old) f e)) (chosen_in fs es g) i
    where
      by : (b : Bool) → (In g (chosen fs es) → In g fs) → In g (with_one b f (chosen fs es)) → In g (f ∷ fs)
      by true rest j = ⊎_elim (λ (k : g ≡ f). inl k) (λ (k : In g (chosen fs es)). inr (rest k)) j
      by false rest j = inr (rest j)

with_more : (b : Bool) (f : Taken) (fs : List Taken) → map job_for (with_one b f []) ++ map job_for fs ≡ map job_for (with_one b f fs)
with_more true f fs = refl
with_more false f fs = refl

bundle_singles : (b : Bool) (l : Layout) (f : Taken) → (bundled_by b l f).singles ≡ l.singles
bundle_singles true l f = refl
bundle_singles false l f = refl

bundle_last : (b : Bool) (l : Layout) (f : Taken) → (bundled_by b l f).last ≡ l.last
bundle_last true l f = refl
bundle_last false l f = refl

none_more : {X : Type 0} (xs : List X) → xs ≡ xs ++ []
none_more [] = refl
none_more (x ∷ xs) = ap (λ (ys : List _). x ∷ ys) (none_more xs)

laid_singles : (s : PlanSettings) (l : Layout) (f : Taken) (w : What) → (laid s l f w).singles ≡ l.singles ++ map job_for (with_one (is_single w) f [])
unfolding is_single
laid_singles s l f Leave = none_more l.singles
laid_singles s l f Nothing = none_more l.singles
laid_singles s l f Single = refl
laid_singles s l f Small = bundle_singles (takes s l f.size) l f ∙ none_more l.singles
laid_singles s l f Control = none_more l.singles

laid_last : (s : PlanSettings) (l : Layout) (f : Taken) (w : What) → (laid s l f w).last ≡ l.last ++ map job_for (with_one (is_control w) f [])
unfolding is_control
laid_last s l f Leave = none_more l.last
laid_last s l f Nothing = none_more l.last
laid_last s l f Single = none_more l.last
laid_last s l f Small = bundle_last (takes s l f.size) l f ∙ none_more l.last
laid_last s l f Control = refl

module _ (test : What → Bool) (part : Layout → List Job) (s : PlanSettings) (one : (l : Layout) (f : Taken) (w : What) → part (laid s l f w) ≡ part l ++ map job_for (with_one (test w) f [])) where
  all_jobs : (old : List FileEntry) (l : Layout) (fs : List Taken) (es : List Bool) → part (laid_all s old l fs es) ≡ part l ++ map job_for (chosen test s old fs es)
  unfolding chosen
  all_jobs old l [] es = none_more (part l)
  all_jobs old l (f ∷ fs) [] = none_more (part l)
  all_jobs old l (f ∷ fs) (e ∷ es) =
      let w = what s (entry_at f.path old) f e in
      all_jobs old (laid s l f w) fs es
      ∙ ap (λ (js : List Job). js ++ map job_for (chosen test s old fs es)) (one l f w)
      ∙ append_assoc (part l) (map job_for (with_one (test w) f [])) (map job_for (chosen test s old fs es))
      ∙ ap (λ (js : List Job). part l ++ js) (with_more (test w) f (chosen test s old fs es))

-- ---- their names

order_rest : (p : Text) (ps : List Text) → are_after p ps ≡ true → are_in_order ps ≡ true
order_rest p [] h = refl
order_rest p (q ∷ ps) h = (and_parts (is_before p q) (are_after q ps) h).1

module _ (folder : Text) where
  abbrev name_of : Taken → Name
  name_of f = folder ⫽ codes "pg_data" ⫽ f.path

  path_of : (f g : Taken) → name_of f ≡ name_of g → f.path ≡ g.path
  path_of f g e =
      let cut : 47 ∷ (codes "pg_data" ⫽ f.path) ≡ 47 ∷ (codes "pg_data" ⫽ g.path) = append_cancel_left folder (47 ∷ (codes "pg_data" ⫽ f.path)) (47 ∷ (codes "pg_data" ⫽ g.path)) e in
      append_cancel_left (codes "/pg_data/") f.path g.path cut

  -- a later file has another name
  other_name : (f : Taken) (fs : List Taken) → are_after f.path (paths_of fs) ≡ true → (g : Taken) → In g fs → name_of f ≢ name_of g
  other_name f fs order g i e = not_itself f.path g.path (later (λ (t : Taken). t.path) f.path fs g order i) (path_of f g e)

  module _ (s : PlanSettings) (old : List FileEntry) where
    new_name : (test : What → Bool) (f : Taken) (fs : List Taken) (es : List Bool) → are_after f.path (paths_of fs) ≡ true → ¬ In (name_of f) (map name_of (chosen test s old fs es))
    new_name test f fs es order i =
        let r = of_map name_of (name_of f) (chosen test s old fs es) i in
        other_name f fs order r.0 (chosen_in test s old fs es r.0 r.1) r.2

    distinct_files : (test : What → Bool) (fs : List Taken) (es : List Bool) → are_in_order (paths_of fs) ≡ true → IsDistinct (map name_of (chosen test s old fs es))
    unfolding chosen
    distinct_files test [] es order = tt
    distinct_files test (f ∷ fs) [] order = tt
    distinct_files test (f ∷ fs) (e ∷ es) order =
        by (test (what s (entry_at f.path old) f e)) (new_name test f fs es order) (distinct_files test fs es (order_rest f.path (paths_of fs) order))
      where
        by : (b : Bool) → ¬ In (name_of f) (map name_of (chosen test s old fs es)) → IsDistinct (map name_of (chosen test s old fs es)) → IsDistinct (map name_of (with_one b f (chosen test s old fs es)))
        by true new rest = (new, rest)
        by false new rest = rest

    -- no file is of two kinds
    kinds_apart : (test other : What → Bool) → ((w : What) → test w ≡ true → other w ≡ false) → (fs : List Taken) (es : List Bool) → are_in_order (paths_of fs) ≡ true
        → (n : Name) → In n (map name_of (chosen test s old fs es)) → In n (map name_of (chosen other s old fs es)) → ⊥
    unfolding chosen
    kinds_apart test other apart [] es order n i j = absurd i
    kinds_apart test other apart (f ∷ fs) [] order n i j = absurd i
    kinds_apart test other apart (f ∷ fs) (e ∷ es) order n i j =
        let w = what s (entry_at f.path old) f e in
        by (test w) (other w) (apart w) (new_name test f fs es order) (new_name other f fs es order) (kinds_apart test other apart fs es (order_rest f.path (paths_of fs) order) n) i j
      where
        by : (a b : Bool) → (a ≡ true → b ≡ false) → ¬ In (name_of f) (map name_of (chosen test s old fs es)) → ¬ In (name_of f) (map name_of (chosen other s old fs es))
            → (In n (map name_of (chosen test s old fs es)) → In n (map name_of (chosen other s old fs es)) → ⊥)
            → In n (map name_of (with_one a f (chosen test s old fs es))) → In n (map name_of (with_one b f (chosen other s old fs es))) → ⊥
        by true true off x y rest k m = let e : ◌≡◌ {A = Bool} true false = off refl in cc
        by true false off x y rest k m = ⊎_elim (λ (h : n ≡ name_of f). y (subst (λ (z : Name). In z (map name_of (chosen other s old fs es))) h m)) (λ (h : In n (map name_of (chosen test s old fs es))). rest h m) k
        by false true off x y rest k m = ⊎_elim (λ (h : n ≡ name_of f). x (subst (λ (z : Name). In z (map name_of (chosen test s old fs es))) h k)) (λ (h : In n (map name_of (chosen other s old fs es))). rest k h) m
        by false false off x y rest k m = rest k m

  -- ---- bundles

  pub record IsBundleName (low : ℕ) (js : List Job) (n : Name) : Type 0 where
    pub number : ℕ
    pub from : low ≤ number
    pub below : number < low + length js
    pub is : n ≡ folder ⫽ codes "bundle" ⫽ decimal number

  bundle_named : (low : ℕ) (js : List Job) (n : Name) → In n (bundles_in folder low js) → IsBundleName low js n
  bundle_named low [] n i = absurd i
  bundle_named low (j ∷ js) n i = ⊎_elim
      (λ (e : n ≡ folder ⫽ codes "bundle" ⫽ decimal low). record { number = low; from = omega arith; below = omega arith; is = e })
      (λ (k : In n (bundles_in folder (low + 1) js)). (
      let r = bundle_named (low + 1) js n k in
      let a = r.from in
      let b = r.below in
      record { number = r.number; from = omega (arith, a); below = omega (arith, b); is = r.is }
      ))
      i

  number_of : (a b : ℕ) → a < 2 ^ 64 → b < 2 ^ 64 → folder ⫽ codes "bundle" ⫽ decimal a ≡ folder ⫽ codes "bundle" ⫽ decimal b → a ≡ b
  number_of a b small few e =
      let cut : 47 ∷ (codes "bundle" ⫽ decimal a) ≡ 47 ∷ (codes "bundle" ⫽ decimal b) = append_cancel_left folder (47 ∷ (codes "bundle" ⫽ decimal a)) (47 ∷ (codes "bundle" ⫽ decimal b)) e in
      decimal_injective a b small few (append_cancel_left (codes "/bundle/") (decimal a) (decimal b) cut)

  distinct_bundles : (low : ℕ) (js : List Job) → low + length js < 2 ^ 64 → IsDistinct (bundles_in folder low js)
  distinct_bundles low [] small = tt
  distinct_bundles low (j ∷ js) small = (
    λ i. (
        let r = bundle_named (low + 1) js (folder ⫽ codes "bundle" ⫽ decimal low) i in
        let a = r.from in
        let b = r.below in
        let same = number_of low r.number (omega (arith, small)) (omega (arith, b, small)) r.is in
        omega (arith, a, same)
        ),
    distinct_bundles (low + 1) js (omega (arith, small)),
  )

  -- the name of a file is none of a bundle
  name_apart : (f : Taken) (number : ℕ) → name_of f ≢ folder ⫽ codes "bundle" ⫽ decimal number
  name_apart f number e =
      let cut : 47 ∷ (codes "pg_data" ⫽ f.path) ≡ 47 ∷ (codes "bundle" ⫽ decimal number) = append_cancel_left folder (47 ∷ (codes "pg_data" ⫽ f.path)) (47 ∷ (codes "bundle" ⫽ decimal number)) e in
      let first : ◌≡◌ {A = ℕ} 112 98 = ap (λ (t : Text). by t) cut in
      omega (arith, first)
    where
      by : Text → ℕ
      by [] = 0
      by (a ∷ []) = 0
      by (a ∷ b ∷ t) = b

  file_apart : (f : Taken) (low : ℕ) (js : List Job) → In (name_of f) (bundles_in folder low js) → ⊥
  file_apart f low js i = let r = bundle_named low js (name_of f) i in name_apart f r.number r.is

left_or : (a b : Bool) → a ≡ true → (a || b) ≡ true
left_or a b h = ap (λ (c : Bool). c || b) h

right_or : (a b : Bool) → b ≡ true → (a || b) ≡ true
right_or true b h = refl
right_or false b h = h

single_not_control : (w : What) → is_single w ≡ true → is_control w ≡ false
unfolding is_single is_control
single_not_control Leave h = refl
single_not_control Nothing h = refl
single_not_control Single h = refl
single_not_control Small h = refl
single_not_control Control h = absurd (let e : ◌≡◌ {A = Bool} false true = h in cc)

module _ (stanza : Text) (label : Label) (s : PlanSettings) (old : List FileEntry) (fs : List Taken) (folders : List Text) (es : List Bool) (order : are_in_order (paths_of fs) ≡ true)
    (taken : (f : Taken) → In f fs → IsTaken folders f) (some : Taken) (listed : In some fs) (few : length (bundles (layout s old fs es)) < 2 ^ 32 - 1) where
  abbrev folder : Text
  folder = label_folder stanza label

  abbrev l : Layout
  l = layout s old fs es

  abbrev singles : List Taken
  singles = chosen is_single s old fs es

  abbrev lasts : List Taken
  lasts = chosen is_control s old fs es

  names_are : names_in folder l ≡ map (name_of folder) singles ++ (bundles_in folder 1 (bundles l) ++ map (name_of folder) lasts)
  names_are =
      let a : l.singles ≡ map job_for singles = all_jobs is_single (λ (k : Layout). k.singles) s (laid_singles s) old begin fs es in
      let b : l.last ≡ map job_for lasts = all_jobs is_control (λ (k : Layout). k.last) s (laid_last s) old begin fs es in
      ap (λ (js : List Job). map (single_in folder) js ++ (bundles_in folder 1 (bundles l) ++ map (single_in folder) l.last)) a
      ∙ ap (λ (js : List Job). map (single_in folder) (map job_for singles) ++ (bundles_in folder 1 (bundles l) ++ map (single_in folder) js)) b
      ∙ ap (λ (ns : List Name). ns ++ (bundles_in folder 1 (bundles l) ++ map (single_in folder) (map job_for lasts))) (map_map (single_in folder) job_for singles)
      ∙ ap (λ (ns : List Name). map (name_of folder) singles ++ (bundles_in folder 1 (bundles l) ++ ns)) (map_map (single_in folder) job_for lasts)

  -- each is the name of a file that is taken, or of a bundle
  name_is : (n : Name) → In n (names_in folder l) → ((f : Taken) × In f fs × (n ≡ name_of folder f)) ⊎ IsBundleName folder 1 (bundles l) n
  name_is n i = ⊎_elim
      (λ (j : In n (map (name_of folder) singles)). let r = of_map (name_of folder) n singles j in inl (r.0, chosen_in is_single s old fs es r.0 r.1, r.2))
      (λ (j : In n (bundles_in folder 1 (bundles l) ++ map (name_of folder) lasts)). ⊎_elim
      (λ (k : In n (bundles_in folder 1 (bundles l))). inr (bundle_named folder 1 (bundles l) n k))
      (λ (k : In n (map (name_of folder) lasts)). let r = of_map (name_of folder) n lasts k in inl (r.0, chosen_in is_control s old fs es r.0 r.1, r.2))
      (in_parts (bundles_in folder 1 (bundles l)) (map (name_of folder) lasts) n j))
      (in_parts (map (name_of folder) singles) (bundles_in folder 1 (bundles l) ++ map (name_of folder) lasts) n (subst (λ (ns : List Name). In n ns) names_are i))

  own : (n : Name) → In n (names_in folder l) → is_own folder n ≡ true
  own n i = ⊎_elim
      (λ (x : (f : Taken) × In f fs × (n ≡ name_of folder f)). left_or (is_below (folder ⫽ codes "pg_data") n) (is_below (folder ⫽ codes "bundle") n)
      (below_prefix (folder ⫽ codes "pg_data") x.0.path n (x.2 ∙ sym (append_assoc folder (codes "/pg_data") (47 ∷ x.0.path)))))
      (λ (x : IsBundleName folder 1 (bundles l) n). right_or (is_below (folder ⫽ codes "pg_data") n) (is_below (folder ⫽ codes "bundle") n)
      (below_prefix (folder ⫽ codes "bundle") (decimal x.number) n (x.is ∙ sym (append_assoc folder (codes "/bundle") (47 ∷ decimal x.number)))))
      (name_is n i)

  file_lasts : (f : Taken) → In f fs → ¬ IsTemporary (name_of folder f)
  file_lasts f i =
      let t = taken f i in
      entry_lasts stanza label folders (record { path = f.path; size = 1; time = f.time; sum = sha1 []; reference = None; bundle = None })
      (record {
        path = t.path;
        lasting = t.lasting;
        placed = t.placed;
        signal = t.signal;
        size = lit< tt;
        time = t.time;
        sum = IsSum-sha1 [];
        empty = λ none. absurd (omega (arith, none));
        reference = tt;
        bundle = tt;
      })

  bundle_lasts : (number : ℕ) → 1 ≤ number → number < 2 ^ 32 → ¬ IsTemporary (bundle_name stanza label number)
  bundle_lasts number some_number small =
      let t = taken some listed in
      entry_lasts stanza label folders (record { path = some.path; size = 1; time = some.time; sum = sha1 []; reference = None; bundle = Some (record { number = number; at = 0 }) })
      (record {
        path = t.path;
        lasting = t.lasting;
        placed = t.placed;
        signal = t.signal;
        size = lit< tt;
        time = t.time;
        sum = IsSum-sha1 [];
        empty = λ none. absurd (omega (arith, none));
        reference = tt;
        bundle = (some_number, small, lit< tt);
      })

  lasting : (n : Name) → In n (names_in folder l) → ¬ IsTemporary n
  lasting n i = ⊎_elim
      (λ (x : (f : Taken) × In f fs × (n ≡ name_of folder f)). subst (λ (m : Name). ¬ IsTemporary m) (sym x.2) (file_lasts x.0 x.1))
      (λ (x : IsBundleName folder 1 (bundles l) n). subst (λ (m : Name). ¬ IsTemporary m) (sym x.is) (let below = x.below in bundle_lasts x.number x.from (omega (arith, below, few))))
      (name_is n i)

  distinct : IsDistinct (names_in folder l)
  distinct = subst (λ (ns : List Name). IsDistinct ns) (sym names_are)
      (distinct_append (map (name_of folder) singles) (bundles_in folder 1 (bundles l) ++ map (name_of folder) lasts)
      (distinct_files folder s old is_single fs es order)
      (distinct_append (bundles_in folder 1 (bundles l)) (map (name_of folder) lasts) (distinct_bundles folder 1 (bundles l) (omega (arith, few))) (distinct_files folder s old is_control fs es order)
      (λ n i j. let r = of_map (name_of folder) n lasts j in file_apart folder r.0 1 (bundles l) (subst (λ (m : Name). In m (bundles_in folder 1 (bundles l))) r.2 i)))
      (λ n i j. ⊎_elim
      (λ (k : In n (bundles_in folder 1 (bundles l))). let r = of_map (name_of folder) n singles i in file_apart folder r.0 1 (bundles l) (subst (λ (m : Name). In m (bundles_in folder 1 (bundles l))) r.2 k))
      (λ (k : In n (map (name_of folder) lasts)). kinds_apart folder s old is_single is_control single_not_control fs es order n i k)
      (in_parts (bundles_in folder 1 (bundles l)) (map (name_of folder) lasts) n j)))

  pub is_plan : IsPlan (label_folder stanza label) (names_in (label_folder stanza label) (layout s old fs es))
  is_plan = record {
    own = λ j n is. own n (get_in (names_in folder l) j n is);
    apart = λ i j n a b. one_place (names_in folder l) distinct i j n a b;
    lasting = λ j n is. lasting n (get_in (names_in folder l) j n is);
  }

  -- none is that of a file at a path that isn't taken
  pub names_other : (path : Text) → ¬ In path (paths_of fs) → (j : ℕ) (n : Name) → slice_get (names_in (label_folder stanza label) (layout s old fs es)) j ≡ Some n → n ≢ file_name stanza label path
  names_other path free j n is same =
      let f : Taken = record { path = path; size = 0; time = 0 } in
      ⊎_elim
      (λ (x : (g : Taken) × In g fs × (n ≡ name_of folder g)). free (subst (λ (p : Text). In p (paths_of fs)) (path_of folder x.0 f (sym x.2 ∙ same)) (in_map (λ (g : Taken). g.path) x.0 fs x.1)))
      (λ (x : IsBundleName folder 1 (bundles l) n). name_apart folder f x.number (sym same ∙ x.is))
      (name_is n (get_in (names_in folder l) j n is))
