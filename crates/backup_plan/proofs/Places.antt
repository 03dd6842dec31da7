-- Each file that is read is an item of its job.
use Rattle.std.proofs.Common.{◌≡◌, ◌⊎◌, ⊎_elim, inl, inr, ◌<◌, ◌+◌, ◌-◌, ℕ, zero, suc, Bool, true, false, List, [], ◌∷◌, ◌++◌, length, Option, Some, None, refl, sym, ◌∙◌, ap, subst, arith, slice_get, length-append, append_assoc, append-nil}
use Rattle.std.proofs.lemmas.Bool.{eqb-true}
use Rattle.std.specs.Prelude.{◌&&◌, ◌==◌, nat_lt, if◌then◌else◌, bytes_eq}
use Rattle.worker_protocol.specs.Frames.{Item, Job}
use Rattle.base_model.specs.Text.{In}
use Rattle.base_model.specs.Values.{FileEntry}
use Rattle.backup_plan.specs.declared.values.PlanSettings.{PlanSettings}
use Rattle.backup_plan.specs.declared.values.Choice.{Choice}
use Rattle.backup_plan.specs.declared.values.Choice.TheVariants.{Skip, Empty, Alone, Bundle, Last}
use Rattle.backup_plan.specs.declared.values.What.{What}
use Rattle.backup_plan.specs.declared.values.What.TheVariants.{Leave, Nothing, Single, Small, Control}
use Rattle.backup_plan.specs.Listed.{Taken, entry_at, what, is_unchanged, control_path}
use Rattle.backup_plan.specs.Layout.{Layout, item_for, read_job, takes, bundled_by, bundled, bundles, bundle_job, laid, laid_all, layout, begin}
use Rattle.backup_plan.proofs.Layouts.{bundle_choices}
use Rattle.backup_plan.specs.Spots.{WasLeft, IsInBundle, HasItem, HaveItems}

-- ---- lists

pub at_prefix : {X : Type 0} (xs ys : List X) (i : ℕ) (x : X) → slice_get xs i ≡ Some x → slice_get (xs ++ ys) i ≡ Some x
at_prefix [] ys i x is = absurd (let e : ◌≡◌ {A = Option _} None (Some x) = is in cc)
at_prefix (y ∷ xs) ys zero x is = is
at_prefix (y ∷ xs) ys (suc i) x is = at_prefix xs ys i x is

pub at_end : {X : Type 0} (xs : List X) (x : X) → slice_get (xs ++ x ∷ []) (length xs) ≡ Some x
at_end [] x = refl
at_end (y ∷ xs) x = at_end xs x

-- an element of two lists after one another is one of the first, or of the second
pub at_parts : {X : Type 0} (xs : List X) (y : X) (i : ℕ) (x : X) → slice_get (xs ++ y ∷ []) i ≡ Some x → (slice_get xs i ≡ Some x) ⊎ ((i ≡ length xs) × (y ≡ x))
at_parts [] y zero x is = inr (refl, (let e : ◌≡◌ {A = Option _} (Some y) (Some x) = is in cc))
at_parts [] y (suc i) x is = absurd (let e : ◌≡◌ {A = Option _} None (Some x) = is in cc)
at_parts (z ∷ xs) y zero x is = inl is
at_parts (z ∷ xs) y (suc i) x is = ⊎_elim (λ (e : slice_get xs i ≡ Some x). inl e) (λ (p : (i ≡ length xs) × (y ≡ x)). inr (ap suc p.0, p.1)) (at_parts xs y i x is)

in_prefix : {X : Type 0} (x : X) (xs ys : List X) → In x xs → In x (xs ++ ys)
in_prefix x [] ys h = absurd h
in_prefix x (y ∷ xs) ys h = ⊎_elim (λ (e : x ≡ y). inl e) (λ (k : In x xs). inr (in_prefix x xs ys k)) h

in_end : {X : Type 0} (x : X) (xs : List X) → In x (xs ++ x ∷ [])
in_end x [] = inl refl
in_end x (y ∷ xs) = inr (in_end x xs)

-- ---- a layout continues to another

record Extends (l n : Layout) : Type 0 where
  singles : (j : ℕ) (job : Job) → slice_get l.singles j ≡ Some job → slice_get n.singles j ≡ Some job
  bundled : (j i : ℕ) (x : Item) → IsInBundle l j i x → IsInBundle n j i x
  last : (job : Job) → In job l.last → In job n.last

some_job : (is : List Item) (i : Item) → bundle_job (is ++ i ∷ []) ≡ read_job (is ++ i ∷ []) ∷ []
some_job [] i = refl
some_job (x ∷ is) i = refl

-- the bundle that is filled takes one more file
fills : (l : Layout) (f : Taken) → 0 < length l.current → (j i : ℕ) (x : Item) → IsInBundle l j i x → IsInBundle (bundled_by true l f) j i x
fills l f some j i x h = go l.current some refl
  where
    go : (is : List Item) → 0 < length is → l.current ≡ is → IsInBundle (bundled_by true l f) j i x
    go [] none e = absurd (omega (arith, none))
    go (y ∷ is) one e =
        let after : bundles (bundled_by true l f) ≡ l.full ++ read_job (l.current ++ item_for f ∷ []) ∷ [] = ap (λ (js : List Job). l.full ++ js) (some_job l.current (item_for f)) in
        let before : bundles l ≡ l.full ++ read_job l.current ∷ [] = ap (λ (c : List Item). l.full ++ bundle_job c) e ∙ ap (λ (c : List Item). l.full ++ read_job c ∷ []) (sym e) in
        let at : slice_get (l.full ++ read_job l.current ∷ []) j ≡ Some (read_job h.items) = subst (λ (js : List Job). slice_get js j ≡ Some (read_job h.items)) before h.is in
        ⊎_elim
        (λ (k : slice_get l.full j ≡ Some (read_job h.items)). record { items = h.items; is = subst (λ (js : List Job). slice_get js j ≡ Some (read_job h.items)) (sym after) (at_prefix l.full _ j (read_job h.items) k); item_is = h.item_is })
        (λ (p : (j ≡ length l.full) × (read_job l.current ≡ read_job h.items)). record {
          items = l.current ++ item_for f ∷ [];
          is = subst (λ (js : List Job). slice_get js j ≡ Some (read_job (l.current ++ item_for f ∷ []))) (sym after) (subst (λ (n : ℕ). slice_get (l.full ++ read_job (l.current ++ item_for f ∷ []) ∷ []) n ≡ Some (read_job (l.current ++ item_for f ∷ []))) (sym p.0) (at_end l.full (read_job (l.current ++ item_for f ∷ []))));
          item_is = at_prefix l.current (item_for f ∷ []) i x (subst (λ (c : List Item). slice_get c i ≡ Some x) (sym (ap (λ (q : Job). q.items) p.1)) h.item_is);
        })
        (at_parts l.full (read_job l.current) j (read_job h.items) at)

-- a new one begins
opens : (l : Layout) (f : Taken) (j i : ℕ) (x : Item) → IsInBundle l j i x → IsInBundle (bundled_by false l f) j i x
opens l f j i x h = record { items = h.items; is = at_prefix (bundles l) (read_job (item_for f ∷ []) ∷ []) j (read_job h.items) h.is; item_is = h.item_is }

both : (a b : Bool) → (a && b) ≡ true → (a ≡ true) × (b ≡ true)
both true b is = (refl, is)
both false b is = absurd (let e : ◌≡◌ {A = Bool} false true = is in cc)

bundle_extends : (b : Bool) (l : Layout) (f : Taken) → (b ≡ true → 0 < length l.current) → (j i : ℕ) (x : Item) → IsInBundle l j i x → IsInBundle (bundled_by b l f) j i x
bundle_extends true l f some = fills l f (some refl)
bundle_extends false l f some = opens l f

singles_kept : (b : Bool) (l : Layout) (f : Taken) → ((bundled_by b l f).singles ≡ l.singles) × ((bundled_by b l f).last ≡ l.last)
singles_kept true l f = (refl, refl)
singles_kept false l f = (refl, refl)

takes_some : (s : PlanSettings) (l : Layout) (f : Taken) → takes s l f.size ≡ true → 0 < length l.current
takes_some s l f is = grind (arith, is)

extends : (s : PlanSettings) (l : Layout) (f : Taken) (w : What) → Extends l (laid s l f w)
extends s l f Leave = record { singles = λ j job h. h; bundled = λ j i x h. record { items = h.items; is = h.is; item_is = h.item_is }; last = λ job h. h }
extends s l f Nothing = record { singles = λ j job h. h; bundled = λ j i x h. record { items = h.items; is = h.is; item_is = h.item_is }; last = λ job h. h }
extends s l f Single = record { singles = λ j job h. at_prefix l.singles _ j job h; bundled = λ j i x h. record { items = h.items; is = h.is; item_is = h.item_is }; last = λ job h. h }
extends s l f Small =
    let b = takes s l f.size in
    let k = singles_kept b l f in
    record {
      singles = λ j job h. subst (λ (js : List Job). slice_get js j ≡ Some job) (sym k.0) h;
      bundled = λ j i x h. (let g = bundle_extends b l f (takes_some s l f) j i x h in record { items = g.items; is = g.is; item_is = g.item_is });
      last = λ job h. subst (λ (js : List Job). In job js) (sym k.1) h;
    }
extends s l f Control = record { singles = λ j job h. h; bundled = λ j i x h. record { items = h.items; is = h.is; item_is = h.item_is }; last = λ job h. in_prefix job l.last _ h }

-- ---- each file's item

abbrev pub choice_of : PlanSettings → Layout → Taken → What → Choice
choice_of s l f Leave = Skip
choice_of s l f Nothing = Empty
choice_of s l f Single = Alone (length l.singles)
choice_of s l f Small = let n = bundled s l f in Bundle (length n.full + 1) (length n.current - 1)
choice_of s l f Control = Last

choices_are : (s : PlanSettings) (l : Layout) (f : Taken) (w : What) → (laid s l f w).choices ≡ l.choices ++ choice_of s l f w ∷ []
choices_are s l f Leave = refl
choices_are s l f Nothing = refl
choices_are s l f Single = refl
choices_are s l f Small = ap (λ (cs : List Choice). cs ++ choice_of s l f Small ∷ []) (bundle_choices (takes s l f.size) l f)
choices_are s l f Control = refl

new_in_bundle : (b : Bool) (l : Layout) (f : Taken) → IsInBundle (bundled_by b l f) ((length (bundled_by b l f).full + 1) - 1) (length (bundled_by b l f).current - 1) (item_for f)
new_in_bundle true l f =
    let x = item_for f in
    let job = read_job (l.current ++ x ∷ []) in
    let place : length l.full ≡ (length l.full + 1) - 1 = omega arith in
    let count : length (l.current ++ x ∷ []) ≡ length l.current + 1 = length-append l.current (x ∷ []) in
    let item : length l.current ≡ length (l.current ++ x ∷ []) - 1 = omega (arith, count) in
    record {
      items = l.current ++ x ∷ [];
      is = subst (λ (n : ℕ). slice_get (l.full ++ bundle_job (l.current ++ x ∷ [])) n ≡ Some job) place (subst (λ (js : List Job). slice_get (l.full ++ js) (length l.full) ≡ Some job) (sym (some_job l.current x)) (at_end l.full job));
      item_is = subst (λ (n : ℕ). slice_get (l.current ++ x ∷ []) n ≡ Some x) item (at_end l.current x);
    }
new_in_bundle false l f =
    let x = item_for f in
    let job = read_job (x ∷ []) in
    let place : length (bundles l) ≡ (length (bundles l) + 1) - 1 = omega arith in
    record {
      items = x ∷ [];
      is = subst (λ (n : ℕ). slice_get (bundles l ++ job ∷ []) n ≡ Some job) place (at_end (bundles l) job);
      item_is = refl;
    }

picked : (a b c d : Bool) → (if a then Control else (if b then Nothing else (if c then Leave else (if d then Small else Single)))) ≡ Leave → (b ≡ false) × (c ≡ true)
picked true b c d is = absurd (let e : ◌≡◌ {A = What} Control Leave = is in cc)
picked false true c d is = absurd (let e : ◌≡◌ {A = What} Nothing Leave = is in cc)
picked false false true d is = (refl, refl)
picked false false false true is = absurd (let e : ◌≡◌ {A = What} Small Leave = is in cc)
picked false false false false is = absurd (let e : ◌≡◌ {A = What} Single Leave = is in cc)

positive : (n : ℕ) → (n == 0) ≡ false → 0 < n
positive zero e = absurd (let x : ◌≡◌ {A = Bool} true false = e in cc)
positive (suc n) e = omega arith

left_by : (delta : Bool) (old : List FileEntry) (o : Option FileEntry) (f : Taken) (equal : Bool) → entry_at f.path old ≡ o → is_unchanged delta o f equal ≡ true → 0 < f.size → WasLeft old f
left_by delta old None f equal is same some = absurd (let x : ◌≡◌ {A = Bool} false true = same in cc)
left_by delta old (Some e) f equal is same some = record { entry = e; is = is; size = eqb-true e.size f.size (both (e.size == f.size) _ same).0; some = some }

left_of : (s : PlanSettings) (old : List FileEntry) (f : Taken) (equal : Bool) → what s (entry_at f.path old) f equal ≡ Leave → WasLeft old f
left_of s old f equal is =
    let p = picked (bytes_eq f.path control_path) (f.size == 0) (is_unchanged s.delta (entry_at f.path old) f equal) (s.bundle && nat_lt f.size (s.bundle_limit + 1)) is in
    left_by s.delta old (entry_at f.path old) f equal refl p.1 (positive f.size p.0)

new_item : (s : PlanSettings) (old : List FileEntry) (l : Layout) (f : Taken) (w : What) → (w ≡ Leave → WasLeft old f) → HasItem old (laid s l f w) f (choice_of s l f w)
new_item s old l f Leave was = was refl
new_item s old l f Nothing was = tt
new_item s old l f Single was = at_end l.singles (read_job (item_for f ∷ []))
new_item s old l f Small was = let g = new_in_bundle (takes s l f.size) l f in (omega arith, record { items = g.items; is = g.is; item_is = g.item_is })
new_item s old l f Control was = in_end (read_job (item_for f ∷ [])) l.last

kept_item : (old : List FileEntry) (l n : Layout) (f : Taken) (c : Choice) → Extends l n → HasItem old l f c → HasItem old n f c
kept_item old l n f Skip x h = h
kept_item old l n f Empty x h = tt
kept_item old l n f (Alone job) x h = x.singles job (read_job (item_for f ∷ [])) h
kept_item old l n f (Bundle number item) x h = (h.0, x.bundled (number - 1) item (item_for f) h.1)
kept_item old l n f Last x h = x.last (read_job (item_for f ∷ [])) h

-- of the files so far, and of one more
have_more : (old : List FileEntry) (l n : Layout) (fs : List Taken) (cs : List Choice) (f : Taken) (c : Choice) → Extends l n → HaveItems old l fs cs → HasItem old n f c → HaveItems old n (fs ++ f ∷ []) (cs ++ c ∷ [])
have_more old l n [] [] f c x h new = (new, tt)
have_more old l n [] (d ∷ cs) f c x h new = absurd h
have_more old l n (g ∷ fs) [] f c x h new = absurd h
have_more old l n (g ∷ fs) (d ∷ cs) f c x h new = (kept_item old l n g d x h.0, have_more old l n fs cs f c x h.1 new)

have_all : (s : PlanSettings) (old : List FileEntry) (l : Layout) (so_far fs : List Taken) (es : List Bool) → length es ≡ length fs → HaveItems old l so_far l.choices → HaveItems old (laid_all s old l fs es) (so_far ++ fs) (laid_all s old l fs es).choices
have_all s old l so_far [] es same h = subst (λ (fs : List Taken). HaveItems old l fs l.choices) (sym (append-nil so_far)) h
have_all s old l so_far (f ∷ fs) [] same h = absurd (omega (arith, same))
have_all s old l so_far (f ∷ fs) (e ∷ es) same h =
    let w = what s (entry_at f.path old) f e in
    let n = laid s l f w in
    let next = have_more old l n so_far l.choices f (choice_of s l f w) (extends s l f w) h (new_item s old l f w (left_of s old f e)) in
    let here : HaveItems old n (so_far ++ f ∷ []) n.choices = subst (HaveItems old n (so_far ++ f ∷ [])) (sym (choices_are s l f w)) next in
    subst (λ (gs : List Taken). HaveItems old (laid_all s old n fs es) gs (laid_all s old n fs es).choices) (append_assoc so_far (f ∷ []) fs) (have_all s old n (so_far ++ f ∷ []) fs es (omega (arith, same)) here)

-- each file that is read is an item of its job, at the place that its choice states, and one that is left is the prior
-- backup's
pub have_items : (s : PlanSettings) (old : List FileEntry) (fs : List Taken) (es : List Bool) → length es ≡ length fs → HaveItems old (layout s old fs es) fs (layout s old fs es).choices
have_items s old fs es same = have_all s old begin [] fs es same tt
