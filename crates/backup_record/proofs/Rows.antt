-- Each entry of a manifest that was made has its bytes.
use Rattle.std.proofs.Common.{◌≡◌, ⊎_elim, inl, inr, ◌<◌, ◌+◌, ◌-◌, ℕ, zero, suc, Bool, true, false, List, [], ◌∷◌, map, Option, Some, None, refl, sym, ◌∙◌, ap, subst, arith, slice_get, option_map}
use Rattle.std.specs.Prelude.{unwrap_or, bytes_eq, if◌then◌else◌}
use Rattle.std.proofs.lemmas.Slice.Eq.{bytes_eq-Decides}
use Rattle.backup_sink.specs.declared.keeper.EndedItem.{EndedItem}
use Rattle.base_devices.specs.Content.{Name}
use Rattle.base_model.specs.declared.labels.Label.{Label}
use Rattle.base_model.specs.declared.files.Bundled.{Bundled}
use Rattle.base_model.specs.Text.{Text, Map, In}
use Rattle.base_model.specs.Names.{file_name, bundle_name}
use Rattle.base_model.specs.Values.{FileEntry}
use Rattle.base_model.specs.Place.{place, place_by}
use Rattle.base_model.specs.Repository.{File}
use Rattle.worker_protocol.specs.PartSinkState.{JobItems}
use Rattle.backup_plan.specs.declared.values.Choice.{Choice}
use Rattle.backup_plan.specs.declared.values.Choice.TheVariants.{Skip, Empty, Alone, Bundle, Last}
use Rattle.backup_plan.specs.Listed.{Taken, entry_at}
use Rattle.backup_plan.specs.Layout.{Layout, item_for}
use Rattle.backup_plan.specs.Spots.{HasItem, HaveItems}
use Rattle.backup_record.specs.Ends.{bytes_before, AreAllEnds, AreReceived}
use Rattle.backup_record.specs.Entries.{BackupRun, entry_for, entries, rows, bytes_for, with_some, left_entry, empty_entry, prior_bytes, bundle_job_number, last_job_number}
use Rattle.backup_record.specs.Naming.{IsNaming}
use Rattle.backup_record.specs.Rows.{IsRow}
use Rattle.backup_record.proofs.Items.{IsOwn, own_item}

-- the entries of the rows are those of the manifest
pub rows_entries : (w : BackupRun) (files : Map File) (kept : List JobItems) (fs : List Taken) (cs : List Choice) → map (λ (r : FileEntry × Text). r.0) (rows w files kept fs cs) ≡ entries w fs cs
rows_entries w files kept [] cs = refl
rows_entries w files kept (f ∷ fs) [] = refl
rows_entries w files kept (f ∷ fs) (c ∷ cs) = by (rows_entries w files kept fs cs) (entry_for w f c)
  where
    by : map (λ (r : FileEntry × Text). r.0) (rows w files kept fs cs) ≡ entries w fs cs → (o : Option FileEntry) → map (λ (r : FileEntry × Text). r.0) (with_some (option_map (λ (e : FileEntry). (e, bytes_for w files kept f c)) o) (rows w files kept fs cs)) ≡ with_some o (entries w fs cs)
    by rest None = rest
    by rest (Some e) = ap (λ (es : List FileEntry). e ∷ es) rest

-- what holds of each file's entry and bytes holds of each row
pub rows_each : (P : FileEntry × Text → Type 0) (w : BackupRun) (files : Map File) (kept : List JobItems) (l : Layout)
    → ((f : Taken) (c : Choice) (e : FileEntry) → HasItem w.old l f c → entry_for w f c ≡ Some e → P (e, bytes_for w files kept f c))
    → (fs : List Taken) (cs : List Choice) → HaveItems w.old l fs cs → (r : FileEntry × Text) → In r (rows w files kept fs cs) → P r
rows_each P w files kept l each [] cs have r at = absurd at
rows_each P w files kept l each (f ∷ fs) [] have r at = absurd at
rows_each P w files kept l each (f ∷ fs) (c ∷ cs) have r at = by (rows_each P w files kept l each fs cs have.1 r) (entry_for w f c) refl at
  where
    by : (In r (rows w files kept fs cs) → P r) → (o : Option FileEntry) → entry_for w f c ≡ o → In r (with_some (option_map (λ (e : FileEntry). (e, bytes_for w files kept f c)) o) (rows w files kept fs cs)) → P r
    by rest None is k = rest k
    by rest (Some e) is k = ⊎_elim (λ (same : r ≡ (e, bytes_for w files kept f c)). subst P (sym same) (each f c e have.0 is)) rest k

pub entry_in : (path : Text) (es : List FileEntry) (e : FileEntry) → entry_at path es ≡ Some e → In e es × (e.path ≡ path)
entry_in path [] e is = absurd (let x : ◌≡◌ {A = Option FileEntry} None (Some e) = is in cc)
entry_in path (d ∷ es) e is = by (entry_in path es e) (bytes_eq d.path path) refl is
  where
    by : (entry_at path es ≡ Some e → In e es × (e.path ≡ path)) → (b : Bool) → bytes_eq d.path path ≡ b → (if b then Some d else entry_at path es) ≡ Some e → In e (d ∷ es) × (e.path ≡ path)
    by rest true eq k = let same : d ≡ e = (let x : ◌≡◌ {A = Option FileEntry} (Some d) (Some e) = k in cc) in (inl (sym same), ap (λ (x : FileEntry). x.path) (sym same) ∙ (bytes_eq-Decides d.path path).0 eq)
    by rest false eq k = let r = rest k in (inr r.0, r.1)

pub left_is : (w : BackupRun) (f : Taken) (o : Option FileEntry) (e x : FileEntry) → o ≡ Some x → option_map (left_entry w.prior f) o ≡ Some e → e ≡ left_entry w.prior f x
left_is w f None e x a b = absurd (let y : ◌≡◌ {A = Option FileEntry} None (Some x) = a in cc)
left_is w f (Some y) e x a b =
    let same : y ≡ x = (let z : ◌≡◌ {A = Option FileEntry} (Some y) (Some x) = a in cc) in
    let made : left_entry w.prior f y ≡ e = (let z : ◌≡◌ {A = Option FileEntry} (Some (left_entry w.prior f y)) (Some e) = b in cc) in
    sym made ∙ ap (left_entry w.prior f) same

module _ (stanza : Text) (label : Label) (names : List Name) (w : BackupRun) (files : Map File) (kept : List JobItems) (l : Layout) (are : AreAllEnds w.ends kept) (got : AreReceived kept) (named : IsNaming stanza label names w l) where
  own_row : (e : FileEntry) (bytes : Text) → IsOwn stanza label names kept e bytes → IsRow stanza label names w files kept e bytes
  own_row e bytes x = record {
    size = λ own. x.size;
    sum = λ own. x.sum;
    received = λ own some. x.item;
    left = λ l is. absurd (let y : ◌≡◌ {A = Option Label} None (Some l) = sym x.own ∙ is in cc);
  }

  at_file : (f : Taken) (e : FileEntry) (n : ℕ) → n ≡ 0 → e.reference ≡ None → e.path ≡ f.path → (0 < e.size → e.bundle ≡ None) → 0 < e.size → place stanza label e ≡ (file_name stanza label f.path, n)
  at_file f e n zero_is own path bundle some =
      ap (λ (b : Option Bundled). place_by stanza label e b) (bundle some)
      ∙ ap (λ (r : Option Label). (file_name stanza (unwrap_or r label) e.path, 0)) own
      ∙ ap (λ (p : Text). (file_name stanza label p, 0)) path
      ∙ ap (λ (k : ℕ). (file_name stanza label f.path, k)) (sym zero_is)

  at_bundle : (f : Taken) (e : FileEntry) (b : Bundled) → e.reference ≡ None → e.path ≡ f.path → (0 < e.size → e.bundle ≡ Some b) → 0 < e.size → place stanza label e ≡ (bundle_name stanza label b.number, b.at)
  at_bundle f e b own path bundle some =
      ap (λ (x : Option Bundled). place_by stanza label e x) (bundle some) ∙ ap (λ (r : Option Label). (bundle_name stanza (unwrap_or r label) b.number, b.at)) own

  none_before : (ends : List (List EndedItem)) (job : ℕ) → bytes_before ends job 0 ≡ 0
  none_before [] job = refl
  none_before (es ∷ ess) zero = refl
  none_before (es ∷ ess) (suc job) = none_before ess job

  row : (f : Taken) (c : Choice) (e : FileEntry) → HasItem w.old l f c → entry_for w f c ≡ Some e → IsRow stanza label names w files kept e (bytes_for w files kept f c)
  row f Skip e was is =
      let x = left_is w f (entry_at f.path w.old) e was.entry was.is is in
      let i = entry_in f.path w.old was.entry was.is in
      let refers : e.reference ≡ Some (unwrap_or was.entry.reference w.prior) = ap (λ (y : FileEntry). y.reference) x in
      record {
        size = λ own. absurd (let y : ◌≡◌ {A = Option Label} None (Some (unwrap_or was.entry.reference w.prior)) = sym own ∙ refers in cc);
        sum = λ own. absurd (let y : ◌≡◌ {A = Option Label} None (Some (unwrap_or was.entry.reference w.prior)) = sym own ∙ refers in cc);
        received = λ own some. absurd (let y : ◌≡◌ {A = Option Label} None (Some (unwrap_or was.entry.reference w.prior)) = sym own ∙ refers in cc);
        left = λ l of. record {
          entry = was.entry;
          of_it = i.0;
          path = ap (λ (y : FileEntry). y.path) x;
          size = ap (λ (y : FileEntry). y.size) x;
          sum = ap (λ (y : FileEntry). y.sum) x;
          bundle = ap (λ (y : FileEntry). y.bundle) x;
          holder = (let y : ◌≡◌ {A = Option Label} (Some l) (Some (unwrap_or was.entry.reference w.prior)) = sym of ∙ refers in cc);
          some = subst (λ (n : ℕ). 0 < n) (sym (ap (λ (y : FileEntry). y.size) x ∙ was.size)) was.some;
          bytes_are = ap (prior_bytes files) (sym i.1);
        };
      }
  row f Empty e was is =
      let x : empty_entry f ≡ e = (let y : ◌≡◌ {A = Option FileEntry} (Some (empty_entry f)) (Some e) = is in cc) in
      let size : e.size ≡ 0 = ap (λ (y : FileEntry). y.size) (sym x) in
      let own : e.reference ≡ None = ap (λ (y : FileEntry). y.reference) (sym x) in
      record {
        size = λ o. size;
        sum = λ o. ap (λ (y : FileEntry). y.sum) (sym x);
        received = λ o some. absurd (omega (arith, some, size));
        left = λ l of. absurd (let y : ◌≡◌ {A = Option Label} None (Some l) = sym own ∙ of in cc);
      }
  row f (Alone job) e was is = own_row e _ (own_item stanza label names w.ends kept f None job 0 (file_name stanza label f.path) e are got (named.single job (item_for f) was) is (at_file f e (bytes_before w.ends job 0) (none_before w.ends job)))
  row f (Bundle number item) e was is =
      let job = bundle_job_number w number in
      let b : Bundled = record { number = number; at = bytes_before w.ends job item } in
      let again : (number - 1) + 1 ≡ number = (let h = was.0 in omega (arith, h)) in
      let name : slice_get names job ≡ Some (bundle_name stanza label number) = named.bundle (number - 1) _ was.1.is ∙ ap (λ (n : ℕ). Some (bundle_name stanza label n)) again in
      own_row e _ (own_item stanza label names w.ends kept f (Some b) job item (bundle_name stanza label number) e are got name is (at_bundle f e b))
  row f Last e was is = own_row e _ (own_item stanza label names w.ends kept f None (last_job_number w) 0 (file_name stanza label f.path) e are got (named.last (item_for f) was) is (at_file f e (bytes_before w.ends (last_job_number w) 0) (none_before w.ends (last_job_number w))))

  -- of each row
  pub all_rows : (fs : List Taken) (cs : List Choice) → HaveItems w.old l fs cs → (r : FileEntry × Text) → In r (rows w files kept fs cs) → IsRow stanza label names w files kept r.0 r.1
  all_rows = rows_each (λ (r : FileEntry × Text). IsRow stanza label names w files kept r.0 r.1) w files kept l row
