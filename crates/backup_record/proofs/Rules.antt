-- The manifest of a backup that was made keeps a manifest's rules.
use Rattle.std.proofs.Common.{◌≡◌, ◌≢◌, ⊎_elim, inl, inr, ◌<◌, ◌≤◌, ◌-◌, ◌^◌, ℕ, zero, suc, true, List, [], ◌∷◌, map, Option, Some, None, refl, sym, ◌∙◌, ap, subst, arith}
use Rattle.std.specs.Prelude.{IfSome, unwrap_or, codes, sum_by}
use Rattle.base_text.specs.Sum.{IsSum}
use Rattle.base_text.proofs.Digests.{IsSum-sha1}
use Rattle.std.proofs.lemmas.List.Sums.{sum_by-cons}
use Rattle.base_devices.specs.States.{last_second}
use Rattle.base_model.specs.InfoFiles.{IsCluster, label_kind}
use Rattle.base_model.specs.ManifestText.{IsManifest, IsWalPart, HasItsPrior}
use Rattle.base_model.specs.Values.{Manifest}
use Rattle.base_devices.specs.Order.{is_before, are_after, are_in_order}
use Rattle.base_model.specs.declared.labels.Label.{Label}
use Rattle.base_model.specs.declared.files.Bundled.{Bundled}
use Rattle.base_model.specs.Text.{Text, In}
use Rattle.base_model.specs.InfoFiles.{IsLabel}
use Rattle.base_model.specs.ManifestText.{IsFileEntry, IsFolder, HasItsFolders}
use Rattle.base_model.specs.Paths.{IsPath}
use Rattle.base_devices.specs.Crash.{IsTemporary}
use Rattle.std.proofs.lemmas.Option.{slice_get_within}
use Rattle.base_model.specs.Values.{FileEntry}
use Rattle.backup_plan.specs.declared.values.Choice.{Choice}
use Rattle.backup_plan.specs.declared.values.Choice.TheVariants.{Skip, Empty, Alone, Bundle, Last}
use Rattle.backup_plan.specs.Listed.{Taken, entry_at}
use Rattle.backup_plan.specs.Layout.{Layout, bundles}
use Rattle.backup_plan.specs.Spots.{HasItem, HaveItems}
use Rattle.backup_record.specs.Ends.{end_at, bytes_before}
use Rattle.backup_record.specs.Entries.{BackupRun, entry_for, entries, with_some, empty_entry, copied, bundle_job_number, last_job_number}
use Rattle.backup_plan.specs.Filter.{IsTaken, IsListing}
use Rattle.backup_record.specs.Bounds.{HasBounds}
use Rattle.backup_record.proofs.Maps.{both}
use Rattle.backup_record.proofs.Items.{copied_is}
use Rattle.backup_record.proofs.Rows.{entry_in, left_is}
use Rattle.backup_record.proofs.Sorted.{path_of, all_after, rises, order_rises, join}

-- ---- order

pub rises_order : (ps : List Text) → rises ps ≡ true → are_in_order ps ≡ true
rises_order [] h = refl
rises_order (p ∷ ps) h = let b = both (all_after p ps) (rises ps) h in after_of p ps b.0 b.1
  where
    after_of : (p : Text) (ps : List Text) → all_after p ps ≡ true → rises ps ≡ true → are_after p ps ≡ true
    after_of p [] a h = refl
    after_of p (q ∷ qs) a h =
        let x = both (is_before p q) (all_after p qs) a in
        let y = both (all_after q qs) (rises qs) h in
        join (is_before p q) (are_after q qs) x.0 (after_of q qs y.0 y.1)

module _ (w : BackupRun) where
  after_entries : (p : Text) (fs : List Taken) (cs : List Choice) → all_after p (map (λ (f : Taken). f.path) fs) ≡ true → all_after p (map (λ (e : FileEntry). e.path) (entries w fs cs)) ≡ true
  after_entries p [] cs h = refl
  after_entries p (f ∷ fs) [] h = refl
  after_entries p (f ∷ fs) (c ∷ cs) h = let b = both (is_before p f.path) (all_after p (map (λ (f : Taken). f.path) fs)) h in by b.0 (after_entries p fs cs b.1) (entry_for w f c) refl
    where
      by : is_before p f.path ≡ true → all_after p (map (λ (e : FileEntry). e.path) (entries w fs cs)) ≡ true → (o : Option FileEntry) → entry_for w f c ≡ o → all_after p (map (λ (e : FileEntry). e.path) (with_some o (entries w fs cs))) ≡ true
      by here rest None is = rest
      by here rest (Some e) is = join (is_before p e.path) _ (ap (is_before p) (path_of w f c e is) ∙ here) rest

  pub entries_rise : (fs : List Taken) (cs : List Choice) → rises (map (λ (f : Taken). f.path) fs) ≡ true → rises (map (λ (e : FileEntry). e.path) (entries w fs cs)) ≡ true
  entries_rise [] cs h = refl
  entries_rise (f ∷ fs) [] h = refl
  entries_rise (f ∷ fs) (c ∷ cs) h =
      let b = both (all_after f.path (map (λ (g : Taken). g.path) fs)) (rises (map (λ (g : Taken). g.path) fs)) h in
      by (entries_rise fs cs b.1) (after_entries f.path fs cs b.0) (entry_for w f c) refl
    where
      by : rises (map (λ (e : FileEntry). e.path) (entries w fs cs)) ≡ true → all_after f.path (map (λ (e : FileEntry). e.path) (entries w fs cs)) ≡ true → (o : Option FileEntry) → entry_for w f c ≡ o
          → rises (map (λ (e : FileEntry). e.path) (with_some o (entries w fs cs))) ≡ true
      by rest after None is = rest
      by rest after (Some e) is = join (all_after e.path (map (λ (e : FileEntry). e.path) (entries w fs cs))) _ (ap (λ (q : Text). all_after q (map (λ (e : FileEntry). e.path) (entries w fs cs))) (path_of w f c e is) ∙ after) rest

  -- the manifest's files are in byte order of their paths
  pub entries_in_order : (fs : List Taken) (cs : List Choice) → are_in_order (map (λ (f : Taken). f.path) fs) ≡ true → are_in_order (map (λ (e : FileEntry). e.path) (entries w fs cs)) ≡ true
  entries_in_order fs cs h = rises_order (map (λ (e : FileEntry). e.path) (entries w fs cs)) (entries_rise fs cs (order_rises (map (λ (f : Taken). f.path) fs) h))

  -- the paths of the manifest's files are those of files that were listed
  pub path_listed : (fs : List Taken) (cs : List Choice) (path : Text) → In path (map (λ (e : FileEntry). e.path) (entries w fs cs)) → In path (map (λ (f : Taken). f.path) fs)
  path_listed [] cs path at = absurd at
  path_listed (f ∷ fs) [] path at = absurd at
  path_listed (f ∷ fs) (c ∷ cs) path at = by (path_listed fs cs path) (entry_for w f c) refl at
    where
      by : (In path (map (λ (e : FileEntry). e.path) (entries w fs cs)) → In path (map (λ (f : Taken). f.path) fs)) → (o : Option FileEntry) → entry_for w f c ≡ o
          → In path (map (λ (e : FileEntry). e.path) (with_some o (entries w fs cs))) → In path (map (λ (f : Taken). f.path) (f ∷ fs))
      by rest None is k = inr (rest k)
      by rest (Some e) is k = ⊎_elim (λ (same : path ≡ e.path). inl (same ∙ path_of w f c e is)) (λ (r : In path (map (λ (e : FileEntry). e.path) (entries w fs cs))). inr (rest r)) k

-- ---- each file by itself

-- what holds of each file's entry holds of each
entries_each : (P : FileEntry → Type 0) (w : BackupRun) (l : Layout) (fs : List Taken) (cs : List Choice) → HaveItems w.old l fs cs
    → ((f : Taken) (c : Choice) (e : FileEntry) → In f fs → HasItem w.old l f c → entry_for w f c ≡ Some e → P e) → (e : FileEntry) → In e (entries w fs cs) → P e
entries_each P w l [] cs have each e at = absurd at
entries_each P w l (f ∷ fs) [] have each e at = absurd at
entries_each P w l (f ∷ fs) (c ∷ cs) have each e at = by (entries_each P w l fs cs have.1 (λ g d x h. each g d x (inr h)) e) (entry_for w f c) refl at
  where
    by : (In e (entries w fs cs) → P e) → (o : Option FileEntry) → entry_for w f c ≡ o → In e (with_some o (entries w fs cs)) → P e
    by rest None is k = rest k
    by rest (Some x) is k = ⊎_elim (λ (same : e ≡ x). subst P (sym same) (each f c x (inl refl) have.0 is)) rest k

module _ (w : BackupRun) (l : Layout) (folders old_folders : List Text) (bounds : HasBounds w l old_folders) where
  own_rules : (f : Taken) (at : Option Bundled) (job item : ℕ) (e : FileEntry) → IsTaken folders f → copied f at (end_at w.ends job item) ≡ Some e → IfSome at (λ b. (1 ≤ b.number) × (b.number < 2 ^ 32) × (b.at < 2 ^ 64)) → IsFileEntry folders e
  own_rules f at job item e taken is fits =
      let c = copied_is f at (end_at w.ends job item) e is in
      let r = c.2 in
      let k = bounds.came job item c.0 r.number r.sum c.1 r.how_is in
      let path = sym r.path in
      record {
        path = subst IsPath path taken.path;
        lasting = subst (λ (p : Text). ¬ IsTemporary p) path taken.lasting;
        placed = subst (HasItsFolders folders) path taken.placed;
        signal = subst (λ (p : Text). (p ≢ codes "recovery.signal") × (p ≢ codes "standby.signal")) path taken.signal;
        size = subst (λ (n : ℕ). n < 2 ^ 64) (sym r.size) k.0;
        time = subst (λ (n : ℕ). n < 2 ^ 64) (sym r.time) taken.time;
        sum = subst IsSum (sym r.sum_is) k.1;
        empty = λ none. (r.sum_is ∙ k.2 (sym r.size ∙ none), r.own, r.none (sym r.size ∙ none));
        reference = subst (λ (o : Option Label). IfSome o IsLabel) (sym r.own) tt;
        bundle = by r.number refl;
      }
    where
      by : (n : ℕ) → (copied_is f at (end_at w.ends job item) e is).2.number ≡ n → IfSome e.bundle (λ b. (1 ≤ b.number) × (b.number < 2 ^ 32) × (b.at < 2 ^ 64))
      by zero none = subst (λ (o : Option Bundled). IfSome o (λ b. (1 ≤ b.number) × (b.number < 2 ^ 32) × (b.at < 2 ^ 64))) (sym ((copied_is f at (end_at w.ends job item) e is).2.none none)) tt
      by (suc n) some = subst (λ (o : Option Bundled). IfSome o (λ b. (1 ≤ b.number) × (b.number < 2 ^ 32) × (b.at < 2 ^ 64))) (sym ((copied_is f at (end_at w.ends job item) e is).2.bundle (omega (arith, some)))) fits

  label_rules : (o : Option Label) → IfSome o IsLabel → IsLabel (unwrap_or o w.prior)
  label_rules None h = bounds.prior
  label_rules (Some x) h = h

  rules : (f : Taken) (c : Choice) (e : FileEntry) → IsTaken folders f → HasItem w.old l f c → entry_for w f c ≡ Some e → IsFileEntry folders e
  rules f Skip e taken was is =
      let x = left_is w f (entry_at f.path w.old) e was.entry was.is is in
      let i = entry_in f.path w.old was.entry was.is in
      let o = bounds.old was.entry i.0 in
      let path = sym (path_of w f Skip e is) in
      let size : e.size ≡ was.entry.size = ap (λ (y : FileEntry). y.size) x in
      let some = was.some in
      let same = was.size in
      record {
        path = subst IsPath path taken.path;
        lasting = subst (λ (p : Text). ¬ IsTemporary p) path taken.lasting;
        placed = subst (HasItsFolders folders) path taken.placed;
        signal = subst (λ (p : Text). (p ≢ codes "recovery.signal") × (p ≢ codes "standby.signal")) path taken.signal;
        size = subst (λ (n : ℕ). n < 2 ^ 64) (sym size) o.size;
        time = subst (λ (n : ℕ). n < 2 ^ 64) (sym (ap (λ (y : FileEntry). y.time) x)) taken.time;
        sum = subst IsSum (sym (ap (λ (y : FileEntry). y.sum) x)) o.sum;
        empty = λ none. absurd (omega (arith, none, size, some, same));
        reference = subst (λ (r : Option Label). IfSome r IsLabel) (sym (ap (λ (y : FileEntry). y.reference) x)) (label_rules was.entry.reference o.reference);
        bundle = subst (λ (b : Option Bundled). IfSome b (λ b. (1 ≤ b.number) × (b.number < 2 ^ 32) × (b.at < 2 ^ 64))) (sym (ap (λ (y : FileEntry). y.bundle) x)) o.bundle;
      }
  rules f Empty e taken was is =
      let x : e ≡ empty_entry f = sym (let y : ◌≡◌ {A = Option FileEntry} (Some (empty_entry f)) (Some e) = is in let z : empty_entry f ≡ e = cc in z) in
      subst (IsFileEntry folders) (sym x) (record {
        path = taken.path;
        lasting = taken.lasting;
        placed = taken.placed;
        signal = taken.signal;
        size = omega arith;
        time = taken.time;
        sum = IsSum-sha1 [];
        empty = λ none. (refl, refl, refl);
        reference = tt;
        bundle = tt;
      })
  rules f (Alone job) e taken was is = own_rules f None job 0 e taken is tt
  rules f (Bundle number item) e taken was is =
      let job = bundle_job_number w number in
      let within = slice_get_within (bundles l) (number - 1) _ was.1.is in
      let few = bounds.few in
      let one = was.0 in
      own_rules f (Some (record { number = number; at = bytes_before w.ends job item })) job item e taken is (one, omega (arith, within, few, one), bounds.before job item)
  rules f Last e taken was is = own_rules f None (last_job_number w) 0 e taken is tt

  -- each file of the manifest keeps a file's rules
  pub files_hold : (fs : List Taken) (cs : List Choice) → HaveItems w.old l fs cs → ((f : Taken) → In f fs → IsTaken folders f) → (e : FileEntry) → In e (entries w fs cs) → IsFileEntry folders e
  files_hold fs cs have taken = entries_each (IsFileEntry folders) w l fs cs have (λ f c e at item is. rules f c e (taken f at) item is)

  -- ---- their sizes, where none is longer than it was listed

  pub sizes : (fs : List Taken) (cs : List Choice) → HaveItems w.old l fs cs → ((f : Taken) (c : Choice) (e : FileEntry) → HasItem w.old l f c → entry_for w f c ≡ Some e → e.size ≤ f.size)
      → sum_by (λ (e : FileEntry). e.size) (entries w fs cs) ≤ sum_by (λ (f : Taken). f.size) fs
  sizes [] cs have within = omega arith
  sizes (f ∷ fs) [] have within = absurd have
  sizes (f ∷ fs) (c ∷ cs) have within = by (sizes fs cs have.1 within) (entry_for w f c) refl
    where
      by : sum_by (λ (e : FileEntry). e.size) (entries w fs cs) ≤ sum_by (λ (f : Taken). f.size) fs → (o : Option FileEntry) → entry_for w f c ≡ o
          → sum_by (λ (e : FileEntry). e.size) (with_some o (entries w fs cs)) ≤ sum_by (λ (f : Taken). f.size) (f ∷ fs)
      by rest None is = let a = sum_by-cons (λ (f : Taken). f.size) f fs in omega (arith, rest, a)
      by rest (Some e) is =
          let a = sum_by-cons (λ (f : Taken). f.size) f fs in
          let b = sum_by-cons (λ (e : FileEntry). e.size) e (entries w fs cs) in
          let c = within f c e have.0 is in
          omega (arith, rest, a, b, c)

  -- the manifest of these files keeps a manifest's rules
  pub is_manifest : (m : Manifest) (fs : List Taken) (cs : List Choice) → m.files ≡ entries w fs cs → m.folders ≡ folders → IsListing fs folders → HaveItems w.old l fs cs
      → ((f : Taken) (c : Choice) (e : FileEntry) → HasItem w.old l f c → entry_for w f c ≡ Some e → e.size ≤ f.size)
      → IsLabel m.label → m.kind ≡ label_kind m.label → HasItsPrior m.kind m.prior × IfSome m.prior IsLabel → m.start ≤ last_second → m.stop ≤ last_second → IsCluster m.cluster → IfSome m.wal IsWalPart → IsManifest m
  is_manifest m fs cs files_are folders_are listing have within label kind prior start stop cluster wal = record {
    label = label;
    kind = kind;
    prior = prior;
    start = start;
    stop = stop;
    cluster = cluster;
    wal = wal;
    files = λ e at. subst (λ (ps : List Text). IsFileEntry ps e) (sym folders_are) (files_hold fs cs have listing.files e (subst (λ (es : List FileEntry). In e es) files_are at));
    folders = λ path at. subst (λ (ps : List Text). IsFolder ps path) (sym folders_are) (listing.folders_hold path (subst (λ (ps : List Text). In path ps) folders_are at));
    file_order = ap (λ (es : List FileEntry). are_in_order (map (λ (e : FileEntry). e.path) es)) files_are ∙ entries_in_order w fs cs listing.file_order;
    folder_order = ap are_in_order folders_are ∙ listing.folder_order;
    apart = λ path at in_folders. listing.apart path (path_listed w fs cs path (subst (λ (es : List FileEntry). In path (map (λ (e : FileEntry). e.path) es)) files_are at)) (subst (λ (ps : List Text). In path ps) folders_are in_folders);
    sizes = (
        let a = sizes fs cs have within in
        let b = listing.sizes in
        let c : sum_by (λ (e : FileEntry). e.size) m.files ≡ sum_by (λ (e : FileEntry). e.size) (entries w fs cs) = ap (sum_by (λ (e : FileEntry). e.size)) files_are in
        omega (arith, a, b, c)
        );
  }
