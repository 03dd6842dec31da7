-- A manifest with a further file, and the rows of its backup.
use Rattle.std.proofs.Common.{◌≡◌, ◌⊎◌, ⊎_elim, ◌+◌, ◌-◌, inl, inr, ◌≤◌, ℕ, zero, suc, true, List, [], ◌∷◌, ◌++◌, length, map, Option, Some, None, refl, sym, ◌∙◌, ap, subst, arith, slice_get}
use Rattle.std.specs.Prelude.{IfSome, IsSomeAnd, option_map, take, slice_range}
use Rattle.std.proofs.lemmas.List.{take_all}
use Rattle.std.proofs.lemmas.Option.{slice_get_within}
use Rattle.std.specs.FinMap.{is_sorted}
use Rattle.base_text.specs.declared.sum.Sum.{Sum}
use Rattle.base_devices.specs.Content.{Name, Content}
use Rattle.base_devices.specs.Order.{are_in_order}
use Rattle.base_model.specs.declared.labels.Label.{Label}
use Rattle.base_model.specs.Text.{Text, Map, In, text_cmp}
use Rattle.base_model.specs.ManifestText.{IsManifest, IsFileEntry}
use Rattle.base_model.specs.Place.{LiesAt}
use Rattle.base_model.specs.Repository.{File}
use Rattle.backup_sink.specs.Placed.{IsPlaced, held_sum}
use Rattle.base_model.specs.declared.files.FileEntry as rust
use Rattle.base_model.specs.Values.{FileEntry, file_entry_of}
use Rattle.worker_protocol.specs.declared.sinks.ItemEnd.{ItemEnd}
use Rattle.worker_protocol.specs.declared.sinks.ItemEnd.TheVariants.{Whole}
use Rattle.worker_protocol.specs.PartSinkState.{Done, JobItems}
use Rattle.backup_plan.specs.declared.values.Choice.{Choice}
use Rattle.backup_plan.specs.Filter.{most_bytes}
use Rattle.backup_plan.specs.Listed.{Taken}
use Rattle.backup_record.specs.declared.manifest_record.Head.{Head}
use Rattle.backup_record.specs.Ends.{AreReceived, IsReceived}
use Rattle.backup_record.specs.Entries.{BackupRun, entries, rows, file_of}
use Rattle.backup_record.specs.Further.{put_in, with_further, MayBeAdded, Further, IsFurther, entry_in, with_name, with_kept, with_row, kept_of, sum_in}
use Rattle.backup_record.specs.Item.{IsItem}
use Rattle.backup_record.specs.Making.{manifest_with, size_of}
use Rattle.backup_record.specs.Rows.{IsRow}
use Rattle.backup_record.proofs.Made.{map_map}
use Rattle.backup_record.proofs.Putting.{put_map, in_put, put_sum, put_rises}
use Rattle.backup_record.proofs.Rows.{rows_entries}
use Rattle.backup_record.proofs.Rules.{rises_order, entries_rise, path_listed}
use Rattle.backup_record.proofs.Sorted.{rises, order_rises, sorted_of}

-- ---- its entry among the others

-- a file that the program may add, as an entry
pub each_added : (o : Option rust.FileEntry) (fs : List Taken) (folders : List Text) → IfSome o (λ e. MayBeAdded fs folders (file_entry_of e)) → IfSome (option_map file_entry_of o) (MayBeAdded fs folders)
each_added None fs folders h = tt
each_added (Some e) fs folders h = h

module _ (w : BackupRun) (fs : List Taken) (cs : List Choice) where
  abbrev path_in : FileEntry → Text
  path_in e = e.path

  further_rises : (e : FileEntry) → are_in_order (map (λ (f : Taken). f.path) fs) ≡ true → ¬ In e.path (map (λ (f : Taken). f.path) fs) → rises (map path_in (put_in path_in e (entries w fs cs))) ≡ true
  further_rises e order free = put_rises path_in e (entries w fs cs) (entries_rise w fs cs (order_rises (map (λ (f : Taken). f.path) fs) order)) (λ at. free (path_listed w fs cs e.path at))

  -- the manifest with it keeps the rules
  pub further_rules : (folders : List Text) (h : Head) (e : FileEntry) → MayBeAdded fs folders e → are_in_order (map (λ (f : Taken). f.path) fs) ≡ true → size_of (entries w fs cs) ≤ most_bytes → IsManifest (manifest_with h (entries w fs cs) folders)
      → IsManifest (manifest_with h (put_in (λ (d : FileEntry). d.path) e (entries w fs cs)) folders)
  further_rules folders h e may order few m = record {
    label = m.label;
    kind = m.kind;
    prior = m.prior;
    start = m.start;
    stop = m.stop;
    cluster = m.cluster;
    wal = m.wal;
    files = λ d at. ⊎_elim (λ (is : d ≡ e). subst (IsFileEntry folders) (sym is) may.rules) (λ (was : In d (entries w fs cs)). m.files d was) (in_put path_in e d (entries w fs cs) at);
    folders = m.folders;
    file_order = rises_order (map path_in (put_in path_in e (entries w fs cs))) (further_rises e order may.free);
    folder_order = m.folder_order;
    apart = λ path at in_folders. ⊎_elim
        (λ (is : path ≡ e.path). may.apart (subst (λ (p : Text). In p folders) is in_folders))
        (λ (was : In path (map path_in (entries w fs cs))). m.apart path was in_folders)
        (in_put (λ (p : Text). p) e.path path (map path_in (entries w fs cs)) (subst (λ (ps : List Text). In path ps) (put_map path_in (λ (p : Text). p) e (entries w fs cs)) at));
    sizes = (let a = few in let b = put_sum path_in e (λ (d : FileEntry). d.size) (entries w fs cs) in let c = may.short in omega (arith, a, b, c));
  }

-- ---- its row

abbrev path_at : FileEntry × Text → Text
path_at r = r.0.path

-- the entries of the rows are those of the manifest
pub with_entries : (x : Option Further) (w : BackupRun) (files : Map File) (kept : List JobItems) (fs : List Taken) (cs : List Choice)
    → map (λ (r : FileEntry × Text). r.0) (with_row x (rows w files kept fs cs)) ≡ with_further (entry_in x) (entries w fs cs)
with_entries None w files kept fs cs = rows_entries w files kept fs cs
with_entries (Some x) w files kept fs cs =
    put_map (λ (r : FileEntry × Text). r.0) (λ (e : FileEntry). e.path) (x.entry, x.bytes) (rows w files kept fs cs)
    ∙ ap (put_in (λ (e : FileEntry). e.path) x.entry) (rows_entries w files kept fs cs)

-- they are in the order of their paths
pub rows_sorted : (x : Option Further) (w : BackupRun) (files : Map File) (kept : List JobItems) (fs : List Taken) (cs : List Choice) → are_in_order (map (λ (f : Taken). f.path) fs) ≡ true → IfSome (entry_in x) (λ e. ¬ In e.path (map (λ (f : Taken). f.path) fs))
    → is_sorted text_cmp (map file_of (with_row x (rows w files kept fs cs))) ≡ true
rows_sorted x w files kept fs cs order free =
    sorted_of (with_row x (rows w files kept fs cs)) (ap rises (sym (map_map (λ (e : FileEntry). e.path) (λ (r : FileEntry × Text). r.0) (with_row x (rows w files kept fs cs))) ∙ ap (map (λ (e : FileEntry). e.path)) (with_entries x w files kept fs cs)) ∙ by x free)
  where
    by : (x : Option Further) → IfSome (entry_in x) (λ e. ¬ In e.path (map (λ (f : Taken). f.path) fs)) → rises (map (λ (e : FileEntry). e.path) (with_further (entry_in x) (entries w fs cs))) ≡ true
    by None h = entries_rise w fs cs (order_rises (map (λ (f : Taken). f.path) fs) order)
    by (Some y) h = further_rises w fs cs y.entry order h

-- ---- its item, after those of the jobs

slice_range_all : (t : Text) → slice_range t 0 (0 + length t) ≡ t
slice_range_all t = let n : (0 + length t) - 0 ≡ length t = omega arith in ap (λ (k : ℕ). take k t) n ∙ take_all (length t) t (omega arith)

abbrev first_done : Further → Done
first_done x = record { held = record { count = length x.bytes; known = Some x.bytes }; end = Whole x.entry.size (sum_in x) }

at_prefix : {X : Type 0} (xs ys : List X) (n : ℕ) (x : X) → slice_get xs n ≡ Some x → slice_get (xs ++ ys) n ≡ Some x
at_prefix [] ys n x is = absurd (let e : ◌≡◌ {A = Option _} None (Some x) = is in cc)
at_prefix (y ∷ xs) ys zero x is = is
at_prefix (y ∷ xs) ys (suc n) x is = at_prefix xs ys n x is

at_end : {X : Type 0} (xs : List X) (x : X) → slice_get (xs ++ x ∷ []) (length xs) ≡ Some x
at_end [] x = refl
at_end (y ∷ xs) x = at_end xs x

pub at_either : {X : Type 0} (xs : List X) (x : X) (n : ℕ) (y : X) → slice_get (xs ++ x ∷ []) n ≡ Some y → (slice_get xs n ≡ Some y) ⊎ ((n ≡ length xs) × (y ≡ x))
at_either [] x zero y is = inr (refl, let e : ◌≡◌ {A = Option _} (Some x) (Some y) = is in let s : x ≡ y = cc in sym s)
at_either [] x (suc n) y is = absurd (let e : ◌≡◌ {A = Option _} None (Some y) = is in cc)
at_either (z ∷ xs) x zero y is = inl is
at_either (z ∷ xs) x (suc n) y is = ⊎_elim inl (λ (r : (n ≡ length xs) × (y ≡ x)). inr (ap suc r.0, r.1)) (at_either xs x n y is)

module _ (stanza : Text) (label : Label) (kept : List JobItems) where
  own_done : (x : Further) → IsFurther stanza label x → (i : ℕ) (d : Done) (n : ℕ) (sum : Sum) → slice_get (kept_of x).done i ≡ Some d → d.end ≡ Whole n sum → (bytes : Text) × IsReceived d n sum.0 bytes
  own_done x is zero d n sum at end =
      let same : first_done x ≡ d = (let e : ◌≡◌ {A = Option Done} (Some (first_done x)) (Some d) = at in cc) in
      let ends : ◌≡◌ {A = ItemEnd} (Whole x.entry.size (sum_in x)) (Whole n sum) = ap (λ (y : Done). y.end) same ∙ end in
      let size : x.entry.size ≡ n = cc in
      let sum_is : sum_in x ≡ sum = cc in
      (x.bytes, record { known = ap (λ (y : Done). y.held.known) (sym same); number = sym size ∙ is.size; digest = ap (λ (y : Sum). y.0) (sym sum_is) ∙ is.digest })
  own_done x is (suc i) d n sum at end = absurd (let e : ◌≡◌ {A = Option Done} None (Some d) = at in cc)

  -- what is received of all jobs, and of it
  pub with_received : (x : Option Further) → IfSome x (IsFurther stanza label) → AreReceived kept → AreReceived (with_kept x kept)
  with_received None is got = got
  with_received (Some x) is got = λ j i k d n sum at_k at_d end. ⊎_elim
      (λ (was : slice_get kept j ≡ Some k). got j i k d n sum was at_d end)
      (λ (r : (j ≡ length kept) × (k ≡ kept_of x)). own_done x is i d n sum (subst (λ (q : JobItems). slice_get q.done i ≡ Some d) r.1 at_d) end)
      (at_either kept (kept_of x) j k at_k)

  abbrev Counts : List JobItems → Type 0
  Counts ks = (j i : ℕ) (k : JobItems) (d : Done) (bytes : Text) → slice_get ks j ≡ Some k → slice_get k.done i ≡ Some d → d.held.known ≡ Some bytes → d.held.count ≡ length bytes

  own_count : (x : Further) (i : ℕ) (d : Done) (bytes : Text) → slice_get (kept_of x).done i ≡ Some d → d.held.known ≡ Some bytes → d.held.count ≡ length bytes
  own_count x zero d bytes at known =
      let same : first_done x ≡ d = (let e : ◌≡◌ {A = Option Done} (Some (first_done x)) (Some d) = at in cc) in
      let bytes_are : x.bytes ≡ bytes = (let e : ◌≡◌ {A = Option Text} (Some x.bytes) (Some bytes) = ap (λ (y : Done). y.held.known) same ∙ known in cc) in
      ap (λ (y : Done). y.held.count) (sym same) ∙ ap (λ (t : Text). length t) bytes_are
  own_count x (suc i) d bytes at known = absurd (let e : ◌≡◌ {A = Option Done} None (Some d) = at in cc)

  -- as many bytes as are known
  pub with_counts : (x : Option Further) → Counts kept → Counts (with_kept x kept)
  with_counts None counts = counts
  with_counts (Some x) counts = λ j i k d bytes at_k at_d known. ⊎_elim
      (λ (was : slice_get kept j ≡ Some k). counts j i k d bytes was at_d known)
      (λ (r : (j ≡ length kept) × (k ≡ kept_of x)). own_count x i d bytes (subst (λ (q : JobItems). slice_get q.done i ≡ Some d) r.1 at_d) known)
      (at_either kept (kept_of x) j k at_k)

  -- a job and what is held of it, or the file
  pub at_both : (names : List Name) (x : Further) → length names ≡ length kept → (j : ℕ) (n : Name) (k : JobItems) → slice_get (names ++ x.name ∷ []) j ≡ Some n → slice_get (kept ++ kept_of x ∷ []) j ≡ Some k
      → ((slice_get names j ≡ Some n) × (slice_get kept j ≡ Some k)) ⊎ ((n ≡ x.name) × (k ≡ kept_of x))
  at_both names x count j n k at_n at_k = ⊎_elim
      (λ (a : slice_get names j ≡ Some n). ⊎_elim
      (λ (b : slice_get kept j ≡ Some k). inl (a, b))
      (λ (b : (j ≡ length kept) × (k ≡ kept_of x)). let within = slice_get_within names j n a in let last = b.0 in absurd (omega (arith, within, last, count)))
      (at_either kept (kept_of x) j k at_k))
      (λ (a : (j ≡ length names) × (n ≡ x.name)). ⊎_elim
      (λ (b : slice_get kept j ≡ Some k). let within = slice_get_within kept j k b in let last = a.0 in absurd (omega (arith, within, last, count)))
      (λ (b : (j ≡ length kept) × (k ≡ kept_of x)). inr (a.1, b.1))
      (at_either kept (kept_of x) j k at_k))
      (at_either names x.name j n at_n)

  own_placed : (x : Further) (g : Content) → g x.name ≡ Some x.bytes → (i : ℕ) (d : Done) → slice_get (kept_of x).done i ≡ Some d → IsSomeAnd d.held.known (λ bytes. LiesAt g (x.name, held_sum (take i (kept_of x).done)) bytes × (length bytes ≡ d.held.count))
  own_placed x g is zero d at =
      let same : first_done x ≡ d = (let e : ◌≡◌ {A = Option Done} (Some (first_done x)) (Some d) = at in cc) in
      subst (λ (y : Done). IsSomeAnd y.held.known (λ bytes. LiesAt g (x.name, 0) bytes × (length bytes ≡ y.held.count))) same ((x.bytes, is, slice_range_all x.bytes), refl)
  own_placed x g is (suc i) d at = absurd (let e : ◌≡◌ {A = Option Done} None (Some d) = at in cc)

  -- all lie in their places
  pub with_placed : (names : List Name) (x : Option Further) (g : Content) → length names ≡ length kept → IfSome x (λ y. g y.name ≡ Some y.bytes) → IsPlaced names kept g → IsPlaced (with_name x names) (with_kept x kept) g
  with_placed names None g count is placed = placed
  with_placed names (Some x) g count is placed = record {
    placed = λ j i n k d at_n at_k at_d some. ⊎_elim
        (λ (y : (slice_get names j ≡ Some n) × (slice_get kept j ≡ Some k)). placed.placed j i n k d y.0 y.1 at_d some)
        (λ (y : (n ≡ x.name) × (k ≡ kept_of x)). subst (λ (m : Name). IsSomeAnd d.held.known (λ bytes. LiesAt g (m, held_sum (take i k.done)) bytes × (length bytes ≡ d.held.count))) (sym y.0)
        (subst (λ (q : JobItems). IsSomeAnd d.held.known (λ bytes. LiesAt g (x.name, held_sum (take i q.done)) bytes × (length bytes ≡ d.held.count))) (sym y.1) (own_placed x g is i d (subst (λ (q : JobItems). slice_get q.done i ≡ Some d) y.1 at_d))))
        (at_both names x count j n k at_n at_k);
  }

  module _ (names : List Name) where
    item_stays : (x : Further) (e : FileEntry) (bytes : Text) → IsItem stanza label names kept e bytes → IsItem stanza label (names ++ x.name ∷ []) (kept ++ kept_of x ∷ []) e bytes
    item_stays x e bytes i = record {
      job = i.job;
      item = i.item;
      name = i.name;
      of = i.of;
      done = i.done;
      name_is = at_prefix names (x.name ∷ []) i.job i.name i.name_is;
      of_is = at_prefix kept (kept_of x ∷ []) i.job i.of i.of_is;
      done_is = i.done_is;
      known = i.known;
      sum = i.sum;
      end = i.end;
      sum_is = i.sum_is;
      at = i.at;
    }

    own_item : (x : Further) → IsFurther stanza label x → length names ≡ length kept → IsItem stanza label (names ++ x.name ∷ []) (kept ++ kept_of x ∷ []) x.entry x.bytes
    own_item x is count = record {
      job = length kept;
      item = 0;
      name = x.name;
      of = kept_of x;
      done = first_done x;
      name_is = subst (λ (n : ℕ). slice_get (names ++ x.name ∷ []) n ≡ Some x.name) count (at_end names x.name);
      of_is = at_end kept (kept_of x);
      done_is = refl;
      known = refl;
      sum = sum_in x;
      end = refl;
      sum_is = refl;
      at = λ some. is.at;
    }

    row_stays : (x : Further) (w : BackupRun) (files : Map File) (e : FileEntry) (bytes : Text) → IsRow stanza label names w files kept e bytes → IsRow stanza label (names ++ x.name ∷ []) w files (kept ++ kept_of x ∷ []) e bytes
    row_stays x w files e bytes r = record { size = r.size; sum = r.sum; received = λ own some. item_stays x e bytes (r.received own some); left = r.left }

    own_row : (x : Further) → IsFurther stanza label x → length names ≡ length kept → (w : BackupRun) (files : Map File) → IsRow stanza label (names ++ x.name ∷ []) w files (kept ++ kept_of x ∷ []) x.entry x.bytes
    own_row x is count w files = record {
      size = λ own. is.size;
      sum = λ own. is.digest;
      received = λ own some. own_item x is count;
      left = λ l of. absurd (let e : ◌≡◌ {A = Option Label} None (Some l) = sym is.own ∙ of in cc);
    }

    -- each row has its bytes, and so has the further one
    pub with_rows : (x : Option Further) → IfSome x (IsFurther stanza label) → length names ≡ length kept → (w : BackupRun) (files : Map File) (rs : List (FileEntry × Text)) → ((r : FileEntry × Text) → In r rs → IsRow stanza label names w files kept r.0 r.1)
        → (r : FileEntry × Text) → In r (with_row x rs) → IsRow stanza label (with_name x names) w files (with_kept x kept) r.0 r.1
    with_rows None is count w files rs each = each
    with_rows (Some x) is count w files rs each = λ r at. ⊎_elim
        (λ (e : r ≡ (x.entry, x.bytes)). subst (λ (q : FileEntry × Text). IsRow stanza label (names ++ x.name ∷ []) w files (kept ++ kept_of x ∷ []) q.0 q.1) (sym e) (own_row x is count w files))
        (λ (was : In r rs). row_stays x w files r.0 r.1 (each r was))
        (in_put path_at (x.entry, x.bytes) r rs at)
