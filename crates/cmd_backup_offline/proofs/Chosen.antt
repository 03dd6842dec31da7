-- Which files a plan leaves, and what that says of the manifest's entries.
use Rattle.std.proofs.Common.{◌≡◌, ◌≢◌, ◌⊎◌, inl, inr, ◌==◌, ◌&&◌, ◌+◌, ℕ, Bool, true, false, not, List, [], ◌∷◌, ◌++◌, length, Option, Some, None, refl, sym, ◌∙◌, ap, subst, arith, append_assoc, bytes_eq}
use Rattle.std.specs.Prelude.{option_map, unwrap_or, if◌then◌else◌, nat_lt}
use Rattle.std.proofs.lemmas.Bool.{and_parts, eqb-true}
use Rattle.std.proofs.lemmas.Bool.Decides.{nat_tests}
use Rattle.std.proofs.lemmas.List.{append-nil}
use Rattle.base_devices.specs.Links.{LinkState}
use Rattle.base_model.specs.declared.files.Bundled.{Bundled}
use Rattle.base_model.specs.declared.labels.Label.{Label}
use Rattle.base_model.specs.Text.{In}
use Rattle.base_model.specs.Values.{FileEntry}
use Rattle.worker_protocol.specs.declared.sinks.ItemEnd.{ItemEnd}
use Rattle.worker_protocol.specs.declared.sinks.ItemEnd.TheVariants.{Whole, Vanished}
use Rattle.backup_sink.specs.declared.keeper.EndedItem.{EndedItem}
use Rattle.backup_plan.specs.declared.values.Choice.{Choice}
use Rattle.backup_plan.specs.declared.values.Choice.TheVariants.{Skip, Empty, Alone, Bundle, Last}
use Rattle.backup_plan.specs.declared.values.PlanSettings.{PlanSettings}
use Rattle.backup_plan.specs.declared.values.What.{What}
use Rattle.backup_plan.specs.declared.values.What.TheVariants.{Leave, Nothing, Single, Small, Control}
use Rattle.backup_plan.specs.Digests.{is_asked, has_size}
use Rattle.backup_plan.specs.Layout.{Layout, laid, laid_all, layout}
use Rattle.backup_plan.specs.Listed.{Taken, control_path, entry_at, is_unchanged, what}
use Rattle.backup_plan.proofs.Places.{choice_of}
use Rattle.backup_record.specs.Ends.{end_at, bytes_before}
use Rattle.backup_record.specs.Entries.{BackupRun, entries, entry_for, left_entry, read_entry, copied, with_some, bundle_job_number, last_job_number}
use Rattle.backup_record.proofs.Rows.{left_is}
use Rattle.backup_record.proofs.Sorted.{path_of}
use Rattle.backup_lemmas.proofs.Prior.{choices_are, skip_choice}
use Rattle.cmd_backup_offline.specs.Equal.{IsMarked, AreMarked, IsSame, IsNew, IsEntryBy}

-- ---- what is done about a file

leave_parts : (s : PlanSettings) (o : Option FileEntry) (f : Taken) (m : Bool) → what s o f m ≡ Leave → (bytes_eq f.path control_path ≡ false) × ((f.size == 0) ≡ false) × (is_unchanged s.delta o f m ≡ true)
leave_parts s o f m is = by (bytes_eq f.path control_path) (f.size == 0) (is_unchanged s.delta o f m) (s.bundle && nat_lt f.size (s.bundle_limit + 1)) is
  where
    by : (a b c d : Bool) → (if a then Control else (if b then Nothing else (if c then Leave else (if d then Small else Single)))) ≡ Leave → (a ≡ false) × (b ≡ false) × (c ≡ true)
    by true b c d h = absurd (let x : ◌≡◌ {A = What} Control Leave = h in cc)
    by false true c d h = absurd (let x : ◌≡◌ {A = What} Nothing Leave = h in cc)
    by false false true d h = (refl, refl, refl)
    by false false false true h = absurd (let x : ◌≡◌ {A = What} Small Leave = h in cc)
    by false false false false h = absurd (let x : ◌≡◌ {A = What} Single Leave = h in cc)

stay_parts : (s : PlanSettings) (o : Option FileEntry) (f : Taken) (m : Bool) → ¬ (what s o f m ≡ Leave) → (bytes_eq f.path control_path ≡ true) ⊎ ((f.size == 0) ≡ true) ⊎ (is_unchanged s.delta o f m ≡ false)
stay_parts s o f m stays = by (bytes_eq f.path control_path) (f.size == 0) (is_unchanged s.delta o f m) (s.bundle && nat_lt f.size (s.bundle_limit + 1)) stays
  where
    by : (a b c d : Bool) → ¬ ((if a then Control else (if b then Nothing else (if c then Leave else (if d then Small else Single)))) ≡ Leave) → (a ≡ true) ⊎ (b ≡ true) ⊎ (c ≡ false)
    by true b c d h = inl refl
    by false true c d h = inr (inl refl)
    by false false true d h = absurd (h refl)
    by false false false d h = inr (inr refl)

asked_by : (a b c : Bool) → a ≡ false → b ≡ false → c ≡ true → (not a && not b && c) ≡ true
asked_by false false true p q r = refl
asked_by true b c p q r = absurd (let x : ◌≡◌ {A = Bool} true false = p in cc)
asked_by false true c p q r = absurd (let x : ◌≡◌ {A = Bool} true false = q in cc)
asked_by false false false p q r = absurd (let x : ◌≡◌ {A = Bool} false true = r in cc)

unasked_by : (a b c : Bool) → (a ≡ true) ⊎ (b ≡ true) ⊎ (c ≡ false) → (not a && not b && c) ≡ false
unasked_by true b c h = refl
unasked_by false true c h = refl
unasked_by false false false h = refl
unasked_by false false true (inl h) = absurd (let x : ◌≡◌ {A = Bool} false true = h in cc)
unasked_by false false true (inr (inl h)) = absurd (let x : ◌≡◌ {A = Bool} false true = h in cc)
unasked_by false false true (inr (inr h)) = absurd (let x : ◌≡◌ {A = Bool} true false = h in cc)

module _ (links : List LinkState) (old : List FileEntry) (f : Taken) (m : Bool) where
  same_by : (delta : Bool) (o : Option FileEntry) → entry_at f.path old ≡ o → (delta ≡ true → IsMarked links old f m) → bytes_eq f.path control_path ≡ false → (f.size == 0) ≡ false → is_unchanged delta o f m ≡ true → IsSame links delta old f
  same_by delta None is marked a b c = absurd (let x : ◌≡◌ {A = Bool} false true = c in cc)
  same_by true (Some e) is marked a b c = subst (IsMarked links old f) (and_parts (e.size == f.size) m c).1 (marked refl)
  same_by false (Some e) is marked a b c =
      let p = and_parts (e.size == f.size) (e.time == f.time) c in
      record {
        asked = ap (λ (o : Option FileEntry). is_asked o f) is ∙ asked_by (bytes_eq f.path control_path) (f.size == 0) (e.size == f.size) a b p.0;
        entry = e;
        is = is;
        time = eqb-true e.time f.time p.1;
      }

  -- it isn't asked for
  unasked : (delta : Bool) → is_asked (entry_at f.path old) f ≡ false → IsNew links delta old f
  unasked true is = inl is
  unasked false is = inl is

  not_time : (a b : ℕ) → (a == b) ≡ false → a ≢ b
  not_time a b is e = let x : (a == b) ≡ true = grind (arith, nat_tests, e) in let y : ◌≡◌ {A = Bool} true false = sym x ∙ is in cc

  other_by : (delta : Bool) (e : FileEntry) → entry_at f.path old ≡ Some e → (delta ≡ true → IsMarked links old f m) → (b : Bool) → (e.size == f.size) ≡ b → (b && (if delta then m else (e.time == f.time))) ≡ false → IsNew links delta old f
  other_by delta e is marked false size c = unasked delta (ap (λ (o : Option FileEntry). is_asked o f) is ∙ unasked_by (bytes_eq f.path control_path) (f.size == 0) (e.size == f.size) (inr (inr size)))
  other_by true e is marked true size c = subst (IsMarked links old f) c (marked refl)
  other_by false e is marked true size c = inr (e, is, not_time e.time f.time c)

  changed_by : (delta : Bool) (o : Option FileEntry) → entry_at f.path old ≡ o → (delta ≡ true → IsMarked links old f m) → is_unchanged delta o f m ≡ false → IsNew links delta old f
  changed_by delta None is marked c = unasked delta (ap (λ (o : Option FileEntry). is_asked o f) is ∙ unasked_by (bytes_eq f.path control_path) (f.size == 0) false (inr (inr refl)))
  changed_by delta (Some e) is marked c = other_by delta e is marked (e.size == f.size) refl c

  new_by : (delta : Bool) → (delta ≡ true → IsMarked links old f m) → (bytes_eq f.path control_path ≡ true) ⊎ ((f.size == 0) ≡ true) ⊎ (is_unchanged delta (entry_at f.path old) f m ≡ false) → IsNew links delta old f
  new_by delta marked (inl h) = unasked delta (unasked_by (bytes_eq f.path control_path) (f.size == 0) (has_size (entry_at f.path old) f.size) (inl h))
  new_by delta marked (inr (inl h)) = unasked delta (unasked_by (bytes_eq f.path control_path) (f.size == 0) (has_size (entry_at f.path old) f.size) (inr (inl h)))
  new_by delta marked (inr (inr h)) = changed_by delta (entry_at f.path old) refl marked h

-- ---- all files

-- a file that is left is to be left, and each other one is to be stored
abbrev pub IsChosen : List LinkState → Bool → List FileEntry → Taken → Choice → Type 0
IsChosen links delta old f c = (c ≡ Skip → IsSame links delta old f) × (c ≢ Skip → IsNew links delta old f)

abbrev pub AreChosen : List LinkState → Bool → List FileEntry → List Taken → List Choice → Type 0
AreChosen links delta old [] cs = Unit {0}
AreChosen links delta old (f ∷ fs) [] = ⊥
AreChosen links delta old (f ∷ fs) (c ∷ cs) = IsChosen links delta old f c × AreChosen links delta old fs cs

chosen_one : (links : List LinkState) (s : PlanSettings) (old : List FileEntry) (l : Layout) (f : Taken) (m : Bool) → (s.delta ≡ true → IsMarked links old f m) → IsChosen links s.delta old f (choice_of s l f (what s (entry_at f.path old) f m))
chosen_one links s old l f m marked = (
  λ is. (
      let p = leave_parts s (entry_at f.path old) f m (skip_choice s l f (what s (entry_at f.path old) f m) is) in
      same_by links old f m s.delta (entry_at f.path old) refl marked p.0 p.1 p.2
      ),
  λ stays. new_by links old f m s.delta marked (stay_parts s (entry_at f.path old) f m (λ leave. stays (ap (choice_of s l f) leave))),
)

all_chosen : (links : List LinkState) (s : PlanSettings) (old : List FileEntry) (l : Layout) (fs : List Taken) (es : List Bool) → length es ≡ length fs → (s.delta ≡ true → AreMarked links old fs es)
    → (cs : List Choice) × ((laid_all s old l fs es).choices ≡ l.choices ++ cs) × AreChosen links s.delta old fs cs
all_chosen links s old l [] es same marked = ([], sym (append-nil l.choices), tt)
all_chosen links s old l (f ∷ fs) [] same marked = absurd (omega (arith, same))
all_chosen links s old l (f ∷ fs) (e ∷ es) same marked =
    let w = what s (entry_at f.path old) f e in
    let r = all_chosen links s old (laid s l f w) fs es (omega (arith, same)) (λ delta. (marked delta).1) in (
      choice_of s l f w ∷ r.0,
      r.1 ∙ ap (λ (cs : List Choice). cs ++ r.0) (choices_are s l f w) ∙ append_assoc l.choices (choice_of s l f w ∷ []) r.0,
      (chosen_one links s old l f e (λ delta. (marked delta).0), r.2),
    )

pub chosen : (links : List LinkState) (s : PlanSettings) (old : List FileEntry) (fs : List Taken) (es : List Bool) → length es ≡ length fs → (s.delta ≡ true → AreMarked links old fs es) → (cs : List Choice) → cs ≡ (layout s old fs es).choices
    → AreChosen links s.delta old fs cs
chosen links s old fs es same marked cs is = let r = all_chosen links s old _ fs es same marked in subst (λ (xs : List Choice). AreChosen links s.delta old fs xs) (sym (is ∙ r.1)) r.2

-- ---- the entries

abbrev time_in : ℕ → Option FileEntry → ℕ
time_in n None = n
time_in n (Some e) = e.time

abbrev reference_in : Option FileEntry → Option Label
reference_in None = None
reference_in (Some e) = e.reference

read_own : (f : Taken) (at : Option Bundled) (end : ItemEnd) (e : FileEntry) → read_entry f at end ≡ Some e → (e.time ≡ f.time) × (e.reference ≡ None)
read_own f at (Whole n sum) e is =
    let x : ◌≡◌ {A = Option FileEntry} (Some (record { path = f.path; size = n; time = f.time; sum = sum.0; reference = None; bundle = if n == 0 then None else at })) (Some e) = is in
    (sym (ap (time_in f.time) x), sym (ap reference_in x))
read_own f at Vanished e is = absurd (let x : ◌≡◌ {A = Option FileEntry} None (Some e) = is in cc)

copied_own : (f : Taken) (at : Option Bundled) (end : Option EndedItem) (e : FileEntry) → copied f at end ≡ Some e → (e.time ≡ f.time) × (e.reference ≡ None)
copied_own f at None e is = absurd (let x : ◌≡◌ {A = Option FileEntry} None (Some e) = is in cc)
copied_own f at (Some x) e is = read_own f at x.how e is

-- the time is the listed one, and an own file's entry refers to no backup
own_entry : (w : BackupRun) (f : Taken) (c : Choice) (e : FileEntry) → c ≢ Skip → entry_for w f c ≡ Some e → (e.time ≡ f.time) × (e.reference ≡ None)
own_entry w f Skip e not is = absurd (not refl)
own_entry w f Empty e not is =
    let x : ◌≡◌ {A = Option FileEntry} (entry_for w f Empty) (Some e) = is in
    (sym (ap (time_in f.time) x), sym (ap reference_in x))
own_entry w f (Alone job) e not is = copied_own f None (end_at w.ends job 0) e is
own_entry w f (Bundle number item) e not is = copied_own f (Some (record { number = number; at = bytes_before w.ends (bundle_job_number w number) item })) (end_at w.ends (bundle_job_number w number) item) e is
own_entry w f Last e not is = copied_own f None (end_at w.ends (last_job_number w) 0) e is

-- and that of one that was left to some
pub left_by : (w : BackupRun) (f : Taken) (o : Option FileEntry) (e : FileEntry) → option_map (left_entry w.prior f) o ≡ Some e → (e.time ≡ f.time) × (e.reference ≢ None)
left_by w f None e is = absurd (let x : ◌≡◌ {A = Option FileEntry} None (Some e) = is in cc)
left_by w f (Some x) e is =
    let same : e ≡ left_entry w.prior f x = left_is w f (Some x) e x refl is in
    (ap (λ (y : FileEntry). y.time) same, λ none. let k : ◌≡◌ {A = Option Label} (Some (unwrap_or x.reference w.prior)) None = sym (ap (λ (y : FileEntry). y.reference) same) ∙ none in cc)

module _ (links : List LinkState) (delta : Bool) (w : BackupRun) (all : List Taken) where
  own : (f : Taken) (c : Choice) (e : FileEntry) → In f all → IsChosen links delta w.old f c → entry_for w f c ≡ Some e → c ≢ Skip → IsEntryBy links delta w.old all e
  own f c e at chosen is not = let x = own_entry w f c e not is in record {
    file = f;
    taken = at;
    path = path_of w f c e is;
    time = x.0;
    left = λ some. absurd (some x.1);
    stored = λ none. chosen.1 not;
  }

  entry_of : (f : Taken) (c : Choice) (e : FileEntry) → In f all → IsChosen links delta w.old f c → entry_for w f c ≡ Some e → IsEntryBy links delta w.old all e
  entry_of f Skip e at chosen is = let x = left_by w f (entry_at f.path w.old) e is in record {
    file = f;
    taken = at;
    path = path_of w f Skip e is;
    time = x.0;
    left = λ some. chosen.0 refl;
    stored = λ none. absurd (x.1 none);
  }
  entry_of f Empty e at chosen is = own f Empty e at chosen is (λ k. let y : ◌≡◌ {A = Choice} Empty Skip = k in cc)
  entry_of f (Alone job) e at chosen is = own f (Alone job) e at chosen is (λ k. let y : ◌≡◌ {A = Choice} (Alone job) Skip = k in cc)
  entry_of f (Bundle number item) e at chosen is = own f (Bundle number item) e at chosen is (λ k. let y : ◌≡◌ {A = Choice} (Bundle number item) Skip = k in cc)
  entry_of f Last e at chosen is = own f Last e at chosen is (λ k. let y : ◌≡◌ {A = Choice} Last Skip = k in cc)

  pub entries_of : (fs : List Taken) (cs : List Choice) → ((f : Taken) → In f fs → In f all) → AreChosen links delta w.old fs cs → (e : FileEntry) → In e (entries w fs cs) → IsEntryBy links delta w.old all e
  entries_of [] cs each chosen e at = absurd at
  entries_of (f ∷ fs) [] each chosen e at = absurd chosen
  entries_of (f ∷ fs) (c ∷ cs) each chosen e at = by (entries_of fs cs (λ g i. each g (inr i)) chosen.1 e) (entry_for w f c) refl at
    where
      by : (In e (entries w fs cs) → IsEntryBy links delta w.old all e) → (o : Option FileEntry) → entry_for w f c ≡ o → In e (with_some o (entries w fs cs)) → IsEntryBy links delta w.old all e
      by rest None is k = rest k
      by rest (Some x) is (inl same) = subst (IsEntryBy links delta w.old all) (sym same) (entry_of f c x (each f (inl refl)) chosen.0 is)
      by rest (Some x) is (inr k) = rest k
