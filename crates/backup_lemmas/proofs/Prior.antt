-- The files of the prior backup, as the disk holds them, and which of them a backup leaves.
use Rattle.std.proofs.Common.{◌≡◌, ◌<◌, ⊎_elim, ◌+◌, ◌==◌, ℕ, Bool, true, false, List, [], ◌∷◌, ◌++◌, length, map, Option, Some, None, refl, sym, ◌∙◌, ap, subst, arith, append_assoc}
use Rattle.std.specs.Prelude.{unwrap_or, option_map, slice_range, bytes_eq, if◌then◌else◌, ◌&&◌, nat_lt}
use Rattle.std.specs.FinMap.{is_sorted, get}
use Rattle.std.proofs.lemmas.Bool.{eqb-true}
use Rattle.std.proofs.lemmas.List.{append-nil}
use Rattle.base_devices.specs.Content.{Content}
use Rattle.base_devices.specs.Order.{are_in_order}
use Rattle.base_model.specs.declared.labels.Label.{Label}
use Rattle.base_model.specs.Place.{place}
use Rattle.base_model.specs.Text.{Text, Map, In, text_cmp}
use Rattle.base_model.specs.Values.{FileEntry}
use Rattle.base_model.specs.Repository.{File}
use Rattle.base_model.specs.Represents.{IsEntryOf}
use Rattle.backup_plan.specs.declared.values.Choice.{Choice}
use Rattle.backup_plan.specs.declared.values.Choice.TheVariants.{Skip, Empty, Alone, Bundle, Last}
use Rattle.backup_plan.specs.declared.values.PlanSettings.{PlanSettings}
use Rattle.backup_plan.specs.declared.values.What.{What}
use Rattle.backup_plan.specs.declared.values.What.TheVariants.{Leave, Nothing, Single, Small, Control}
use Rattle.backup_plan.specs.Layout.{Layout, laid, laid_all, layout, takes}
use Rattle.backup_plan.specs.Listed.{Taken, control_path, entry_at, is_unchanged, what}
use Rattle.backup_plan.specs.Spots.{HasItem, HaveItems}
use Rattle.backup_plan.proofs.Layouts.{bundle_choices}
use Rattle.backup_plan.proofs.Places.{choice_of}
use Rattle.backup_record.specs.Entries.{BackupRun, rows, bytes_for, entry_for, prior_bytes, with_some, file_of}
use Rattle.backup_record.proofs.Made.{map_map, in_map}
use Rattle.backup_record.proofs.Maps.{map_of, get_of, both}
use Rattle.backup_record.proofs.Rows.{entry_in}
use Rattle.backup_record.proofs.Sorted.{order_rises, sorted_of}
use Rattle.worker_protocol.specs.PartSinkState.{JobItems}
use Rattle.backup_make.specs.declared.draft.Draft.{Draft}
use Rattle.backup_make.specs.Draft.{stanza_of, old_in}

-- ---- its files

-- this many bytes, as they lie at this place
abbrev pub bytes_at : Content → Text × ℕ → ℕ → Text
bytes_at f at size = slice_range (unwrap_or (f at.0) []) at.1 (at.1 + size)

-- each of a manifest's files with its bytes, in a backup of this label
abbrev pub old_rows : Text → Label → Content → List FileEntry → List (FileEntry × Text)
old_rows stanza own f old = map (λ (e : FileEntry). (e, bytes_at f (place stanza own e) e.size)) old

abbrev pub old_files : Text → Label → List FileEntry → Option Content → Map File
old_files stanza own old None = map_of []
old_files stanza own old (Some f) = map_of (map file_of (old_rows stanza own f old))

-- the files that a draft may leave
abbrev pub files_before : Draft → Option Content → Map File
files_before draft now = old_files (stanza_of draft) (unwrap_or draft.prior draft.label) (old_in draft) now

module _ (stanza : Text) (own : Label) (f : Content) (old : List FileEntry) (order : are_in_order (map (λ (e : FileEntry). e.path) old) ≡ true) where
  rows_sorted : is_sorted text_cmp (map file_of (old_rows stanza own f old)) ≡ true
  rows_sorted = sorted_of (old_rows stanza own f old)
      (order_rises (map (λ (r : FileEntry × Text). r.0.path) (old_rows stanza own f old))
      (ap are_in_order (map_map (λ (r : FileEntry × Text). r.0.path) (λ (e : FileEntry). (e, bytes_at f (place stanza own e) e.size)) old) ∙ order))

  old_bytes : (e : FileEntry) → In e old → prior_bytes (old_files stanza own old (Some f)) e.path ≡ bytes_at f (place stanza own e) e.size
  old_bytes e at =
      let row : FileEntry × Text = (e, bytes_at f (place stanza own e) e.size) in
      let there = in_map file_of row (old_rows stanza own f old) (in_map (λ (x : FileEntry). (x, bytes_at f (place stanza own x) x.size)) e old at) in
      ap (λ (o : Option File). unwrap_or (option_map (λ (x : File). x.bytes) o) []) (get_of (map file_of (old_rows stanza own f old)) e.path (record { bytes = row.1; time = e.time }) rows_sorted there)

  -- they are those that the manifest's backup has
  pub held_bytes : (e : FileEntry) → In e old → 0 < e.size → (file : File) → IsEntryOf stanza f own file e → prior_bytes (old_files stanza own old (Some f)) e.path ≡ file.bytes
  held_bytes e at some file is =
      let there = is.stored some in
      old_bytes e at
      ∙ ap (λ (n : ℕ). bytes_at f (place stanza own e) n) is.size
      ∙ ap (λ (o : Option Text). slice_range (unwrap_or o []) (place stanza own e).1 ((place stanza own e).1 + length file.bytes)) there.1
      ∙ there.2

-- the bytes of a file in a map that has it
pub bytes_of : (files : Map File) (path : Text) (file : File) → get files path ≡ Some file → prior_bytes files path ≡ file.bytes
bytes_of files path file is = ap (λ (o : Option File). unwrap_or (option_map (λ (x : File). x.bytes) o) []) is

-- maps that have the same bytes for what may be left give the same rows
module _ (w : BackupRun) (kept : List JobItems) (l : Layout) (p q : Map File) (same : (e : FileEntry) → In e w.old → 0 < e.size → prior_bytes p e.path ≡ prior_bytes q e.path) where
  same_for : (f : Taken) (c : Choice) → HasItem w.old l f c → bytes_for w p kept f c ≡ bytes_for w q kept f c
  same_for f Skip was =
      let x = entry_in f.path w.old was.entry was.is in
      subst (λ (k : Text). prior_bytes p k ≡ prior_bytes q k) x.1 (same was.entry x.0 (subst (λ (n : ℕ). 0 < n) (sym was.size) was.some))
  same_for f Empty was = refl
  same_for f (Alone job) was = refl
  same_for f (Bundle number item) was = refl
  same_for f Last was = refl

  pub rows_same : (fs : List Taken) (cs : List Choice) → HaveItems w.old l fs cs → rows w p kept fs cs ≡ rows w q kept fs cs
  rows_same [] cs have = refl
  rows_same (f ∷ fs) [] have = refl
  rows_same (f ∷ fs) (c ∷ cs) have =
      ap (λ (t : Text). with_some (option_map (λ (e : FileEntry). (e, t)) (entry_for w f c)) (rows w p kept fs cs)) (same_for f c have.0)
      ∙ ap (λ (rs : List (FileEntry × Text)). with_some (option_map (λ (e : FileEntry). (e, bytes_for w q kept f c)) (entry_for w f c)) rs) (rows_same fs cs have.1)

-- ---- a file that was left has the prior's time

-- unless digests were compared
abbrev pub IsTimed : Bool → List FileEntry → Taken → Choice → Type 0
IsTimed delta old f c = c ≡ Skip → delta ≡ false → (e : FileEntry) → entry_at f.path old ≡ Some e → e.time ≡ f.time

abbrev pub AreTimed : Bool → List FileEntry → List Taken → List Choice → Type 0
AreTimed delta old [] cs = Unit {0}
AreTimed delta old (f ∷ fs) [] = ⊥
AreTimed delta old (f ∷ fs) (c ∷ cs) = IsTimed delta old f c × AreTimed delta old fs cs

-- what holds of each file's entry and bytes holds of each row
pub rows_where : (P : FileEntry × Text → Type 0) (w : BackupRun) (files : Map File) (kept : List JobItems) (l : Layout) (delta : Bool)
    → ((f : Taken) (c : Choice) (e : FileEntry) → HasItem w.old l f c → IsTimed delta w.old f c → entry_for w f c ≡ Some e → P (e, bytes_for w files kept f c))
    → (fs : List Taken) (cs : List Choice) → HaveItems w.old l fs cs → AreTimed delta w.old fs cs → (r : FileEntry × Text) → In r (rows w files kept fs cs) → P r
rows_where P w files kept l delta each [] cs have all r at = absurd at
rows_where P w files kept l delta each (f ∷ fs) [] have all r at = absurd at
rows_where P w files kept l delta each (f ∷ fs) (c ∷ cs) have all r at = by (rows_where P w files kept l delta each fs cs have.1 all.1 r) (entry_for w f c) refl at
  where
    by : (In r (rows w files kept fs cs) → P r) → (o : Option FileEntry) → entry_for w f c ≡ o → In r (with_some (option_map (λ (e : FileEntry). (e, bytes_for w files kept f c)) o) (rows w files kept fs cs)) → P r
    by rest None is k = rest k
    by rest (Some e) is k = ⊎_elim (λ (same : r ≡ (e, bytes_for w files kept f c)). subst P (sym same) (each f c e have.0 all.0 is)) rest k

pub choices_are : (s : PlanSettings) (l : Layout) (f : Taken) (w : What) → (laid s l f w).choices ≡ l.choices ++ choice_of s l f w ∷ []
choices_are s l f Leave = refl
choices_are s l f Nothing = refl
choices_are s l f Single = refl
choices_are s l f Small = ap (λ (cs : List Choice). cs ++ choice_of s l f Small ∷ []) (bundle_choices (takes s l f.size) l f)
choices_are s l f Control = refl

pub skip_choice : (s : PlanSettings) (l : Layout) (f : Taken) (w : What) → choice_of s l f w ≡ Skip → w ≡ Leave
skip_choice s l f Leave e = refl
skip_choice s l f Nothing e = absurd (let x : ◌≡◌ {A = Choice} Empty Skip = e in cc)
skip_choice s l f Single e = absurd (let x : ◌≡◌ {A = Choice} (Alone (length l.singles)) Skip = e in cc)
skip_choice s l f Small e = cc
skip_choice s l f Control e = absurd (let x : ◌≡◌ {A = Choice} Last Skip = e in cc)

no_leave : (b : Bool) → (if b then Small else Single) ≡ Leave → ⊥
no_leave true e = let x : ◌≡◌ {A = What} Small Leave = e in cc
no_leave false e = let x : ◌≡◌ {A = What} Single Leave = e in cc

pub leave_unchanged : (s : PlanSettings) (old : Option FileEntry) (f : Taken) (e : Bool) → what s old f e ≡ Leave → is_unchanged s.delta old f e ≡ true
leave_unchanged s old f e is = by (bytes_eq f.path control_path) (f.size == 0) (is_unchanged s.delta old f e) is
  where
    by : (a b c : Bool) → (if a then Control else (if b then Nothing else (if c then Leave else (if s.bundle && nat_lt f.size (s.bundle_limit + 1) then Small else Single)))) ≡ Leave → c ≡ true
    by true b c h = absurd (let x : ◌≡◌ {A = What} Control Leave = h in cc)
    by false true c h = absurd (let x : ◌≡◌ {A = What} Nothing Leave = h in cc)
    by false false true h = refl
    by false false false h = absurd (no_leave (s.bundle && nat_lt f.size (s.bundle_limit + 1)) h)

unchanged_timed : (delta : Bool) (old : Option FileEntry) (f : Taken) (equal : Bool) (e : FileEntry) → is_unchanged delta old f equal ≡ true → delta ≡ false → old ≡ Some e → e.time ≡ f.time
unchanged_timed delta old f equal e is plain at =
    let here : is_unchanged false (Some e) f equal ≡ true = subst (λ (o : Option FileEntry). is_unchanged false o f equal ≡ true) at (subst (λ (b : Bool). is_unchanged b old f equal ≡ true) plain is) in
    eqb-true e.time f.time (both (e.size == f.size) (e.time == f.time) here).1

all_timed : (s : PlanSettings) (old : List FileEntry) (l : Layout) (fs : List Taken) (es : List Bool) → length es ≡ length fs → (cs : List Choice) × ((laid_all s old l fs es).choices ≡ l.choices ++ cs) × AreTimed s.delta old fs cs
all_timed s old l [] es same = ([], sym (append-nil l.choices), tt)
all_timed s old l (f ∷ fs) [] same = absurd (omega (arith, same))
all_timed s old l (f ∷ fs) (e ∷ es) same =
    let w = what s (entry_at f.path old) f e in
    let r = all_timed s old (laid s l f w) fs es (omega (arith, same)) in (
      choice_of s l f w ∷ r.0,
      r.1 ∙ ap (λ (cs : List Choice). cs ++ r.0) (choices_are s l f w) ∙ append_assoc l.choices (choice_of s l f w ∷ []) r.0,
      (λ is plain x at. unchanged_timed s.delta (entry_at f.path old) f e x (leave_unchanged s (entry_at f.path old) f e (skip_choice s l f w is)) plain at, r.2),
    )

pub timed : (s : PlanSettings) (old : List FileEntry) (fs : List Taken) (es : List Bool) → length es ≡ length fs → (cs : List Choice) → cs ≡ (layout s old fs es).choices → AreTimed s.delta old fs cs
timed s old fs es same cs is = let r = all_timed s old _ fs es same in subst (λ (xs : List Choice). AreTimed s.delta old fs xs) (sym (is ∙ r.1)) r.2
