-- The files of the manifest are in the order of the listing.
use Rattle.std.proofs.Common.{◌≡◌, Bool, true, false, List, [], ◌∷◌, map, Option, Some, None, refl, sym, ◌∙◌, ap, option_map}
use Rattle.std.specs.Prelude.{◌&&◌}
use Rattle.std.specs.FinMap.{is_sorted}
use Rattle.std.specs.FinMap.Entries.{below_all}
use Rattle.std.specs.declared.cmp.Ordering.{Ordering}
use Rattle.std.specs.declared.cmp.Ordering.TheVariants.{Less, Equal, Greater}
use Rattle.std.specs.Ordering.{is_lt, match_ordering}
use Rattle.std.specs.Cmp.Lexicographic.{nat_list_cmp_total}
use Rattle.base_devices.specs.Order.{is_before, are_after, are_in_order}
use Rattle.base_model.specs.Text.{Text, text_cmp}
use Rattle.base_model.specs.Values.{FileEntry}
use Rattle.backup_plan.specs.declared.values.Choice.{Choice}
use Rattle.backup_plan.specs.declared.values.Choice.TheVariants.{Skip, Empty, Alone, Bundle, Last}
use Rattle.backup_plan.specs.Listed.{Taken, entry_at}
use Rattle.backup_record.specs.Ends.{end_at, bytes_before}
use Rattle.backup_record.specs.Entries.{BackupRun, entry_for, left_entry, empty_entry, file_of, bundle_job_number, last_job_number}
use Rattle.backup_record.proofs.Maps.{both}
use Rattle.backup_record.proofs.Items.{copied_is}
use Rattle.backup_record.proofs.Rows.{entry_in}

-- it comes before each of these
abbrev pub all_after : Text → List Text → Bool
all_after p [] = true
all_after p (q ∷ qs) = is_before p q && all_after p qs

-- each comes before all after it
abbrev pub rises : List Text → Bool
rises [] = true
rises (p ∷ ps) = all_after p ps && rises ps

pub join : (a b : Bool) → a ≡ true → b ≡ true → (a && b) ≡ true
join a b x y = ap (λ (c : Bool). c && b) x ∙ y

pub less_is : (r : Ordering) → match_ordering r true false false ≡ true → r ≡ Less
less_is Less e = refl
less_is Equal e = absurd (let x : ◌≡◌ {A = Bool} false true = e in cc)
less_is Greater e = absurd (let x : ◌≡◌ {A = Bool} false true = e in cc)

pub before_through : (a b c : Text) → is_before a b ≡ true → is_before b c ≡ true → is_before a c ≡ true
before_through a b c x y = ap (λ (r : Ordering). match_ordering r true false false) (nat_list_cmp_total.trans a b c (less_is (text_cmp a b) x) (less_is (text_cmp b c) y))

pub after_all : (p q : Text) (qs : List Text) → is_before p q ≡ true → all_after q qs ≡ true → all_after p qs ≡ true
after_all p q [] x h = refl
after_all p q (r ∷ qs) x h =
    let b = both (is_before q r) (all_after q qs) h in
    join (is_before p r) (all_after p qs) (before_through p q r x b.0) (after_all p q qs x b.1)

after_rises : (p : Text) (ps : List Text) → are_after p ps ≡ true → (all_after p ps ≡ true) × (rises ps ≡ true)
after_rises p [] h = (refl, refl)
after_rises p (q ∷ qs) h =
    let b = both (is_before p q) (are_after q qs) h in
    let r = after_rises q qs b.1 in
    (join (is_before p q) (all_after p qs) b.0 (after_all p q qs b.0 r.0), join (all_after q qs) (rises qs) r.0 r.1)

pub order_rises : (ps : List Text) → are_in_order ps ≡ true → rises ps ≡ true
order_rises [] h = refl
order_rises (p ∷ ps) h = let r = after_rises p ps h in join (all_after p ps) (rises ps) r.0 r.1

-- an entry has the path of its file
pub path_of : (w : BackupRun) (f : Taken) (c : Choice) (e : FileEntry) → entry_for w f c ≡ Some e → e.path ≡ f.path
path_of w f Skip e is = by (entry_at f.path w.old) refl is
  where
    by : (o : Option FileEntry) → entry_at f.path w.old ≡ o → option_map (left_entry w.prior f) o ≡ Some e → e.path ≡ f.path
    by None at k = absurd (let x : ◌≡◌ {A = Option FileEntry} None (Some e) = k in cc)
    by (Some x) at k =
        let made : left_entry w.prior f x ≡ e = (let y : ◌≡◌ {A = Option FileEntry} (Some (left_entry w.prior f x)) (Some e) = k in cc) in
        ap (λ (y : FileEntry). y.path) (sym made) ∙ (entry_in f.path w.old x at).1
path_of w f Empty e is = let x : empty_entry f ≡ e = (let y : ◌≡◌ {A = Option FileEntry} (Some (empty_entry f)) (Some e) = is in cc) in ap (λ (y : FileEntry). y.path) (sym x)
path_of w f (Alone job) e is = (copied_is f None (end_at w.ends job 0) e is).2.path
path_of w f (Bundle number item) e is =
    let job = bundle_job_number w number in
    (copied_is f (Some (record { number = number; at = bytes_before w.ends job item })) (end_at w.ends job item) e is).2.path
path_of w f Last e is = (copied_is f None (end_at w.ends (last_job_number w) 0) e is).2.path

lt_of : (r : Ordering) → match_ordering r true false false ≡ true → is_lt r ≡ true
lt_of r h = ap is_lt (less_is r h)

-- files in the order of their paths make a sorted map
below_of : (p : Text) (rs : List (FileEntry × Text)) → all_after p (map (λ (r : FileEntry × Text). r.0.path) rs) ≡ true → below_all text_cmp p (map file_of rs) ≡ true
below_of p [] h = refl
below_of p (r ∷ rs) h =
    let b = both (is_before p r.0.path) (all_after p (map (λ (r : FileEntry × Text). r.0.path) rs)) h in
    join (is_lt (text_cmp p r.0.path)) _ (lt_of (text_cmp p r.0.path) b.0) (below_of p rs b.1)

pub sorted_of : (rs : List (FileEntry × Text)) → rises (map (λ (r : FileEntry × Text). r.0.path) rs) ≡ true → is_sorted text_cmp (map file_of rs) ≡ true
sorted_of [] h = refl
sorted_of (r ∷ rs) h =
    let b = both (all_after r.0.path (map (λ (r : FileEntry × Text). r.0.path) rs)) (rises (map (λ (r : FileEntry × Text). r.0.path) rs)) h in
    join (below_all text_cmp r.0.path (map file_of rs)) _ (below_of r.0.path rs b.0) (sorted_of rs b.1)
