-- The result of a plan's jobs keeps the bounds of the listing.
use Rattle.std.proofs.Common.{◌≡◌, ◌⊎◌, ⊎_elim, inl, inr, ◌<◌, ◌≤◌, ◌+◌, ◌-◌, ◌^◌, ℕ, zero, suc, Bool, true, false, List, [], ◌∷◌, ◌++◌, length, map, take, Option, Some, None, refl, sym, ◌∙◌, ap, subst, arith, slice_get, length-append, append_assoc}
use Rattle.std.specs.Prelude.{sum_by}
use Rattle.std.proofs.lemmas.List.Sums.{sum_by-cons, sum_by_push}
use Rattle.sha1.specs.Sha1.{sha1}
use Rattle.base_text.specs.declared.sum.Sum.{Sum}
use Rattle.base_text.specs.Sum.{IsSum}
use Rattle.base_text.proofs.Digests.{IsSum-sha1}
use Rattle.worker_protocol.specs.declared.frames.frames.JobKind.TheVariants.{Read}
use Rattle.worker_protocol.specs.Frames.{Item, Job}
use Rattle.base_model.specs.Text.{Text, In}
use Rattle.base_model.specs.InfoFiles.{IsLabel}
use Rattle.base_model.specs.ManifestText.{IsFileEntry}
use Rattle.base_model.specs.Values.{FileEntry}
use Rattle.worker_protocol.specs.declared.sinks.ItemEnd.{ItemEnd}
use Rattle.worker_protocol.specs.declared.sinks.ItemEnd.TheVariants.{Whole, Vanished}
use Rattle.backup_sink.specs.declared.keeper.EndedItem.{EndedItem}
use Rattle.backup_sink.specs.Keeping.{total}
use Rattle.backup_plan.specs.declared.values.Choice.{Choice}
use Rattle.backup_plan.specs.declared.values.Choice.TheVariants.{Skip, Empty, Alone, Bundle, Last}
use Rattle.backup_plan.specs.declared.values.PlanSettings.{PlanSettings}
use Rattle.backup_plan.specs.declared.values.What.{What}
use Rattle.backup_plan.specs.declared.values.What.TheVariants.{Leave, Nothing, Single, Small, Control}
use Rattle.backup_plan.specs.Listed.{Taken, entry_at, what}
use Rattle.backup_plan.specs.Layout.{Layout, item_for, read_job, takes, bundled_by, bundles, bundle_job, laid, laid_all, layout, begin, jobs_of, IsWithin}
use Rattle.backup_plan.specs.Filter.{size_of, most_bytes}
use Rattle.backup_plan.specs.Spots.{HasItem}
use Rattle.backup_plan.proofs.Layouts.{one_choice, within_laid}
use Rattle.backup_plan.proofs.Lists.{in_parts}
use Rattle.backup_plan.proofs.Places.{at_prefix, have_items}
use Rattle.backup_record.specs.Ends.{end_at, bytes_before, HasCome, ComesAs, AllCome, JobsCome}
use Rattle.backup_record.specs.Entries.{BackupRun, entry_for, empty_entry, copied, bundle_job_number, last_job_number}
use Rattle.backup_record.specs.Bounds.{HasBounds, KeepsBounds}
use Rattle.backup_record.proofs.Items.{copied_is}
use Rattle.backup_record.proofs.Naming.{at_back, one_of}
use Rattle.backup_record.proofs.Rows.{left_is}

-- ---- the bytes that are asked for

abbrev items_size : List Item → ℕ
items_size xs = sum_by (λ (x : Item). x.size) xs

abbrev jobs_size : List Job → ℕ
jobs_size [] = 0
jobs_size (j ∷ js) = items_size j.items + jobs_size js

abbrev layout_size : Layout → ℕ
layout_size l = jobs_size l.singles + jobs_size l.full + items_size l.current + jobs_size l.last

jobs_append : (js ks : List Job) → jobs_size (js ++ ks) ≡ jobs_size js + jobs_size ks
jobs_append [] ks = omega arith
jobs_append (j ∷ js) ks = let rest = jobs_append js ks in omega (arith, rest)

bundle_size : (xs : List Item) → jobs_size (bundle_job xs) ≡ items_size xs
bundle_size [] = refl
bundle_size (x ∷ xs) = omega arith

one_size : (f : Taken) → items_size (item_for f ∷ []) ≡ f.size
one_size f = let one = sum_by-cons (λ (x : Item). x.size) (item_for f) [] in omega (arith, one)

module _ (f : Taken) where
  bundled_size : (b : Bool) (l : Layout) → layout_size (bundled_by b l f) ≤ layout_size l + f.size
  bundled_size true l = let more = sum_by_push (λ (x : Item). x.size) l.current (item_for f) in omega (arith, more)
  bundled_size false l =
      let parts = jobs_append l.full (bundle_job l.current) in
      let filled = bundle_size l.current in
      let one = one_size f in
      omega (arith, parts, filled, one)

  laid_size : (s : PlanSettings) (l : Layout) (w : What) → layout_size (laid s l f w) ≤ layout_size l + f.size
  laid_size s l Leave = omega arith
  laid_size s l Nothing = omega arith
  laid_size s l Single =
      let parts = jobs_append l.singles (read_job (item_for f ∷ []) ∷ []) in
      let one = one_size f in
      omega (arith, parts, one)
  laid_size s l Small = bundled_size (takes s l f.size) l
  laid_size s l Control =
      let parts = jobs_append l.last (read_job (item_for f ∷ []) ∷ []) in
      let one = one_size f in
      omega (arith, parts, one)

all_size : (s : PlanSettings) (old : List FileEntry) (l : Layout) (fs : List Taken) (es : List Bool) → layout_size (laid_all s old l fs es) ≤ layout_size l + size_of fs
all_size s old l [] es = omega arith
all_size s old l (f ∷ fs) [] = omega arith
all_size s old l (f ∷ fs) (e ∷ es) =
    let w = what s (entry_at f.path old) f e in
    let one = laid_size f s l w in
    let rest = all_size s old (laid s l f w) fs es in
    let sum = sum_by-cons (λ (g : Taken). g.size) f fs in
    omega (arith, one, rest, sum)

asked_size : (s : PlanSettings) (old : List FileEntry) (fs : List Taken) (es : List Bool) → jobs_size (jobs_of (layout s old fs es)) ≤ size_of fs
asked_size s old fs es =
    let l = layout s old fs es in
    let a = jobs_append (l.singles ++ bundles l) l.last in
    let b = jobs_append l.singles (bundles l) in
    let c = jobs_append l.full (bundle_job l.current) in
    let d = bundle_size l.current in
    let e = all_size s old begin fs es in
    omega (arith, a, b, c, d, e)

-- ---- all jobs read

-- each of these jobs reads
abbrev pub AreReads : List Job → Type 0
AreReads js = (j : Job) → In j js → j.kind ≡ Read

read_one : (xs : List Item) → AreReads (read_job xs ∷ [])
read_one xs j h = ⊎_elim (λ (e : j ≡ read_job xs). ap (λ (k : Job). k.kind) e) (λ (none : ⊥). absurd none) h

read_both : (js ks : List Job) → AreReads js → AreReads ks → AreReads (js ++ ks)
read_both js ks a b j h = ⊎_elim (λ (i : In j js). a j i) (λ (i : In j ks). b j i) (in_parts js ks j h)

read_bundle : (xs : List Item) → AreReads (bundle_job xs)
read_bundle [] j h = absurd h
read_bundle (x ∷ xs) j h = read_one (x ∷ xs) j h

record AllRead (l : Layout) : Type 0 where
  singles : AreReads l.singles
  full : AreReads l.full
  last : AreReads l.last

bundled_read : (b : Bool) (l : Layout) (f : Taken) → AllRead l → AllRead (bundled_by b l f)
bundled_read true l f h = record { singles = h.singles; full = h.full; last = h.last }
bundled_read false l f h = record { singles = h.singles; full = read_both l.full (bundle_job l.current) h.full (read_bundle l.current); last = h.last }

laid_read : (s : PlanSettings) (l : Layout) (f : Taken) (w : What) → AllRead l → AllRead (laid s l f w)
laid_read s l f Leave h = record { singles = h.singles; full = h.full; last = h.last }
laid_read s l f Nothing h = record { singles = h.singles; full = h.full; last = h.last }
laid_read s l f Single h = record { singles = read_both l.singles (read_job (item_for f ∷ []) ∷ []) h.singles (read_one (item_for f ∷ [])); full = h.full; last = h.last }
laid_read s l f Small h = let g = bundled_read (takes s l f.size) l f h in record { singles = g.singles; full = g.full; last = g.last }
laid_read s l f Control h = record { singles = h.singles; full = h.full; last = read_both l.last (read_job (item_for f ∷ []) ∷ []) h.last (read_one (item_for f ∷ [])) }

all_read : (s : PlanSettings) (old : List FileEntry) (l : Layout) (fs : List Taken) (es : List Bool) → AllRead l → AllRead (laid_all s old l fs es)
all_read s old l [] es h = h
all_read s old l (f ∷ fs) [] h = h
all_read s old l (f ∷ fs) (e ∷ es) h = all_read s old (laid s l f (what s (entry_at f.path old) f e)) fs es (laid_read s l f (what s (entry_at f.path old) f e) h)

pub jobs_read : (s : PlanSettings) (old : List FileEntry) (fs : List Taken) (es : List Bool) → AreReads (jobs_of (layout s old fs es))
jobs_read s old fs es =
    let h = all_read s old begin fs es (record { singles = λ j i. absurd i; full = λ j i. absurd i; last = λ j i. absurd i }) in
    let l = layout s old fs es in
    read_both (l.singles ++ bundles l) l.last (read_both l.singles (bundles l) h.singles (read_both l.full (bundle_job l.current) h.full (read_bundle l.current))) h.last

-- ---- how many choices and bundles there are

counted : (s : PlanSettings) (old : List FileEntry) (l : Layout) (fs : List Taken) (es : List Bool) → IsWithin l → IsWithin (laid_all s old l fs es) × (length (laid_all s old l fs es).choices ≤ length l.choices + length fs)
counted s old l [] es h = (h, omega arith)
counted s old l (f ∷ fs) [] h = (h, omega arith)
counted s old l (f ∷ fs) (e ∷ es) h =
    let w = what s (entry_at f.path old) f e in
    let one = one_choice s l f w in
    let r = counted s old (laid s l f w) fs es (within_laid s l f w h) in
    let most = r.1 in
    (r.0, omega (arith, one, most))

-- there are no more bundles, and few more jobs, than files
pub bundles_few : (s : PlanSettings) (old : List FileEntry) (fs : List Taken) (es : List Bool) → length (bundles (layout s old fs es)) ≤ length fs
bundles_few s old fs es =
    let h = counted s old begin fs es (record { singles = omega arith; bundles = omega arith; current = omega arith }) in
    let a = h.0.bundles in
    let b = h.1 in
    omega (arith, a, b)

pub jobs_few : (s : PlanSettings) (old : List FileEntry) (fs : List Taken) (es : List Bool) → length (jobs_of (layout s old fs es)) ≤ length fs + length fs + length (layout s old fs es).last
jobs_few s old fs es =
    let l = layout s old fs es in
    let h = counted s old begin fs es (record { singles = omega arith; bundles = omega arith; current = omega arith }) in
    let a = h.0.bundles in
    let b = h.0.singles in
    let c = h.1 in
    let d = length-append (l.singles ++ bundles l) l.last in
    let e = length-append l.singles (bundles l) in
    omega (arith, a, b, c, d, e)

-- ---- what was received

came_count : (x : Item) (count : ℕ) (how : ItemEnd) → ComesAs x count how → count ≤ x.size
came_count x count (Whole n sum) h = let a = h.counted in let b = h.within in omega (arith, a, b)
came_count x count Vanished h = omega (arith, h)

came_total : (xs : List Item) (es : List EndedItem) → AllCome xs es → total es ≤ items_size xs
came_total [] [] h = omega arith
came_total [] (e ∷ es) h = absurd h
came_total (x ∷ xs) [] h = absurd h
came_total (x ∷ xs) (e ∷ es) h =
    let a = came_count x e.count e.how h.0 in
    let b = came_total xs es h.1 in
    let c = sum_by-cons (λ (y : Item). y.size) x xs in
    omega (arith, a, b, c)

-- the bytes that were received of a job are within those that are asked for of all
pub totals_within : (js : List Job) (ess : List (List EndedItem)) (most : ℕ) → JobsCome js ess → jobs_size js ≤ most → (j : ℕ) (es : List EndedItem) → slice_get ess j ≡ Some es → total es ≤ most
totals_within [] [] most h le j es is = absurd (let x : ◌≡◌ {A = Option (List EndedItem)} None (Some es) = is in cc)
totals_within [] (d ∷ ds) most h le j es is = absurd h
totals_within (k ∷ ks) [] most h le j es is = absurd h
totals_within (k ∷ ks) (d ∷ ds) most h le zero es is =
    let same : d ≡ es = (let x : ◌≡◌ {A = Option (List EndedItem)} (Some d) (Some es) = is in cc) in
    let a = came_total k.items d h.0 in
    let b = ap total same in
    omega (arith, a, b, le)
totals_within (k ∷ ks) (d ∷ ds) most h le (suc j) es is = totals_within ks ds most h.1 (omega (arith, le)) j es is

taken_total : (i : ℕ) (es : List EndedItem) → total (take i es) ≤ total es
taken_total zero es = omega arith
taken_total (suc i) [] = omega arith
taken_total (suc i) (e ∷ es) = let rest = taken_total i es in omega (arith, rest)

before_within : (ess : List (List EndedItem)) (most j i : ℕ) → ((k : ℕ) (es : List EndedItem) → slice_get ess k ≡ Some es → total es ≤ most) → bytes_before ess j i ≤ most
before_within [] most j i each = omega arith
before_within (es ∷ ess) most zero i each = let a = each 0 es refl in let b = taken_total i es in omega (arith, a, b)
before_within (es ∷ ess) most (suc j) i each = before_within ess most j i (λ k ds is. each (suc k) ds is)

-- an item that ended is one of its job
pub record IsOf (js : List Job) (j i : ℕ) (e : EndedItem) : Type 0 where
  pub asked : Job
  pub asked_is : slice_get js j ≡ Some asked
  pub item : Item
  pub item_is : slice_get asked.items i ≡ Some item
  pub came : ComesAs item e.count e.how

item_of : (xs : List Item) (es : List EndedItem) (i : ℕ) (e : EndedItem) → AllCome xs es → slice_get es i ≡ Some e → (x : Item) × (slice_get xs i ≡ Some x) × ComesAs x e.count e.how
item_of [] [] i e h is = absurd (let x : ◌≡◌ {A = Option EndedItem} None (Some e) = is in cc)
item_of [] (d ∷ ds) i e h is = absurd h
item_of (x ∷ xs) [] i e h is = absurd h
item_of (x ∷ xs) (d ∷ ds) zero e h is = let same : d ≡ e = (let y : ◌≡◌ {A = Option EndedItem} (Some d) (Some e) = is in cc) in (x, refl, subst (λ (y : EndedItem). ComesAs x y.count y.how) same h.0)
item_of (x ∷ xs) (d ∷ ds) (suc i) e h is = item_of xs ds i e h.1 is

pub of_job : (js : List Job) (ess : List (List EndedItem)) (j i : ℕ) (e : EndedItem) → JobsCome js ess → end_at ess j i ≡ Some e → IsOf js j i e
of_job [] [] j i e h is = absurd (let x : ◌≡◌ {A = Option EndedItem} None (Some e) = is in cc)
of_job [] (d ∷ ds) j i e h is = absurd h
of_job (k ∷ ks) [] j i e h is = absurd h
of_job (k ∷ ks) (d ∷ ds) zero i e h is = let r = item_of k.items d i e h.0 is in record { asked = k; asked_is = refl; item = r.0; item_is = r.1; came = r.2 }
of_job (k ∷ ks) (d ∷ ds) (suc j) i e h is = let r = of_job ks ds j i e h.1 is in record { asked = r.asked; asked_is = r.asked_is; item = r.item; item_is = r.item_is; came = r.came }

read_whole : (x : Item) (count : ℕ) (how : ItemEnd) (n : ℕ) (sum : Sum) → how ≡ Whole n sum → ComesAs x count how → HasCome x count n sum.0
read_whole x count how n sum is h = subst (λ (w : ItemEnd). ComesAs x count w) is h

nothing_of : (bytes : Text) → 0 ≡ length bytes → sha1 bytes ≡ sha1 []
nothing_of [] e = refl
nothing_of (b ∷ bs) e = absurd (omega (arith, e))

same_job : (a b : Job) (o : Option Job) → o ≡ Some a → o ≡ Some b → a ≡ b
same_job a b o x y = let both : ◌≡◌ {A = Option Job} (Some a) (Some b) = sym x ∙ y in cc

same_item : (a b : Item) (o : Option Item) → o ≡ Some a → o ≡ Some b → a ≡ b
same_item a b o x y = let both : ◌≡◌ {A = Option Item} (Some a) (Some b) = sym x ∙ y in cc

pub came_jobs : (js : List Job) (ess : List (List EndedItem)) → JobsCome js ess → length ess ≡ length js
came_jobs [] [] h = refl
came_jobs [] (d ∷ ds) h = absurd h
came_jobs (k ∷ ks) [] h = absurd h
came_jobs (k ∷ ks) (d ∷ ds) h = ap suc (came_jobs ks ds h.1)

-- ---- a file is no longer than it was listed

module _ (w : BackupRun) (l : Layout) (singles : w.singles ≡ length l.singles) (one : length l.last ≡ 1) (came : JobsCome (jobs_of l) w.ends) where
  by_item : (f : Taken) (e : FileEntry) (number : ℕ) (x : EndedItem) (sum : Sum) (job item : ℕ) (asked : Job) → end_at w.ends job item ≡ Some x → x.how ≡ Whole number sum → e.size ≡ number
      → slice_get (jobs_of l) job ≡ Some asked → slice_get asked.items item ≡ Some (item_for f) → e.size ≤ f.size
  by_item f e number x sum job item asked ended how size asked_is item_is =
      let o = of_job (jobs_of l) w.ends job item x came ended in
      let same = same_job o.asked asked (slice_get (jobs_of l) job) o.asked_is asked_is in
      let it : o.item ≡ item_for f = same_item o.item (item_for f) (slice_get o.asked.items item) o.item_is (ap (λ (j : Job). slice_get j.items item) same ∙ item_is) in
      let r = read_whole o.item x.count x.how number sum how o.came in
      let most = r.within in
      let of_f = ap (λ (i : Item). i.size) it in
      omega (arith, most, of_f, size)

  pub bundle_at : (number : ℕ) (job : Job) → slice_get (bundles l) (number - 1) ≡ Some job → slice_get (jobs_of l) (bundle_job_number w number) ≡ Some job
  bundle_at number job is =
      at_prefix (l.singles ++ bundles l) l.last (bundle_job_number w number) job
      (at_back l.singles (bundles l) (bundle_job_number w number) (number - 1) (omega (arith, singles)) ∙ is)

  pub last_at : (job : Job) → In job l.last → slice_get (jobs_of l) (last_job_number w) ≡ Some job
  last_at job at =
      let a = came_jobs (jobs_of l) w.ends came in
      let b = length-append (l.singles ++ bundles l) l.last in
      let here : last_job_number w ≡ length (l.singles ++ bundles l) + 0 = omega (arith, a, b, one) in
      at_back (l.singles ++ bundles l) l.last (last_job_number w) 0 here ∙ ap (λ (js : List Job). slice_get js 0) (one_of job l.last at one)

  pub within : (f : Taken) (c : Choice) (e : FileEntry) → HasItem w.old l f c → entry_for w f c ≡ Some e → e.size ≤ f.size
  within f Skip e was is =
      let same = ap (λ (y : FileEntry). y.size) (left_is w f (entry_at f.path w.old) e was.entry was.is is) in
      let size = was.size in
      omega (arith, same, size)
  within f Empty e was is =
      let made : empty_entry f ≡ e = (let y : ◌≡◌ {A = Option FileEntry} (Some (empty_entry f)) (Some e) = is in cc) in
      let none = ap (λ (y : FileEntry). y.size) made in
      omega (arith, none)
  within f (Alone job) e was is =
      let c = copied_is f None (end_at w.ends job 0) e is in
      let here = at_prefix (l.singles ++ bundles l) l.last job (read_job (item_for f ∷ [])) (at_prefix l.singles (bundles l) job (read_job (item_for f ∷ [])) was) in
      by_item f e c.2.number c.0 c.2.sum job 0 (read_job (item_for f ∷ [])) c.1 c.2.how_is c.2.size here refl
  within f (Bundle number item) e was is =
      let job = bundle_job_number w number in
      let c = copied_is f (Some (record { number = number; at = bytes_before w.ends job item })) (end_at w.ends job item) e is in
      by_item f e c.2.number c.0 c.2.sum job item (read_job was.1.items) c.1 c.2.how_is c.2.size (bundle_at number (read_job was.1.items) was.1.is) was.1.item_is
  within f Last e was is =
      let job = last_job_number w in
      let c = copied_is f None (end_at w.ends job 0) e is in
      by_item f e c.2.number c.0 c.2.sum job 0 (read_job (item_for f ∷ [])) c.1 c.2.how_is c.2.size (last_at (read_job (item_for f ∷ [])) was) refl

-- ---- the bounds

module _ (w : BackupRun) (s : PlanSettings) (fs : List Taken) (es : List Bool) (same : length es ≡ length fs) (few : length fs < 2 ^ 32 - 1) (most : size_of fs ≤ most_bytes)
    (singles : w.singles ≡ length (layout s w.old fs es).singles) (one : length (layout s w.old fs es).last ≡ 1) (came : JobsCome (jobs_of (layout s w.old fs es)) w.ends)
    (prior : IsLabel w.prior) (old_folders : List Text) (old : (e : FileEntry) → In e w.old → IsFileEntry old_folders e) where
  abbrev the_layout : Layout
  the_layout = layout s w.old fs es

  small : (j : ℕ) (ends : List EndedItem) → slice_get w.ends j ≡ Some ends → total ends ≤ most_bytes
  small = let asked = asked_size s w.old fs es in totals_within (jobs_of the_layout) w.ends most_bytes came (omega (arith, asked, most))

  bounds : HasBounds w the_layout old_folders
  bounds = record {
    came = λ job item end n sum is how. (
        let o = of_job (jobs_of the_layout) w.ends job item end came is in
        let r = read_whole o.item end.count end.how n sum how o.came in
        let number = r.number in
        let counted = r.counted in (
          small_number job item end n is counted,
          subst IsSum (sym r.digest) (IsSum-sha1 r.bytes),
          λ zero_is. r.digest ∙ nothing_of r.bytes (sym zero_is ∙ r.number),
        )
        );
    before = λ job item. (let a = before_within w.ends most_bytes job item small in omega (arith, a));
    few = (let a = bundles_few s w.old fs es in omega (arith, a, few));
    prior = prior;
    old = old;
  }
    where
      one_total : (i : ℕ) (ends : List EndedItem) (end : EndedItem) → slice_get ends i ≡ Some end → end.count ≤ total ends
      one_total i [] end is = absurd (let x : ◌≡◌ {A = Option EndedItem} None (Some end) = is in cc)
      one_total zero (d ∷ ds) end is = let e : d ≡ end = (let x : ◌≡◌ {A = Option EndedItem} (Some d) (Some end) = is in cc) in let c = ap (λ (x : EndedItem). x.count) e in omega (arith, c)
      one_total (suc i) (d ∷ ds) end is = let rest = one_total i ds end is in omega (arith, rest)

      at_total : (ess : List (List EndedItem)) (j i : ℕ) (end : EndedItem) → end_at ess j i ≡ Some end → ((k : ℕ) (ds : List EndedItem) → slice_get ess k ≡ Some ds → total ds ≤ most_bytes) → end.count ≤ most_bytes
      at_total [] j i end is each = absurd (let x : ◌≡◌ {A = Option EndedItem} None (Some end) = is in cc)
      at_total (ds ∷ ess) zero i end is each = let a = one_total i ds end is in let b = each 0 ds refl in omega (arith, a, b)
      at_total (ds ∷ ess) (suc j) i end is each = at_total ess j i end is (λ k xs e. each (suc k) xs e)

      small_number : (job item : ℕ) (end : EndedItem) (n : ℕ) → end_at w.ends job item ≡ Some end → end.count ≡ n → n < 2 ^ 64
      small_number job item end n is counted = let a = at_total w.ends job item end is small in omega (arith, a, counted)

  -- the result of a plan may be recorded
  pub keeps_bounds : KeepsBounds w fs (layout s w.old fs es).choices
  keeps_bounds = record {
    layout = the_layout;
    have = have_items s w.old fs es same;
    old_folders = old_folders;
    bounds = bounds;
    within = within w the_layout singles one came;
  }

  -- so are the bytes of each job
  pub totals_small : (j : ℕ) (ends : List EndedItem) → slice_get w.ends j ≡ Some ends → total ends < 2 ^ 64
  totals_small j ends is = let a = small j ends is in omega (arith, a)
