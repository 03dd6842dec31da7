-- A backup of a stopped server holds the data folder's files, where all links read what the folder holds, and what it
-- leaves is as the folder has it.
use Rattle.std.proofs.Common.{◌≡◌, ◌≢◌, inl, inr, ◌==◌, ◌+◌, ℕ, zero, suc, Bool, true, false, List, [], ◌∷◌, ◌++◌, length, map, Option, Some, None, refl, sym, ◌∙◌, ap, subst, arith, slice_get, append_assoc}
use Rattle.std.specs.Prelude.{IfSome, IsSome, IsSomeAnd, unwrap_or, option_map, bytes_eq, if◌then◌else◌, ◌&&◌, nat_lt}
use Rattle.std.proofs.lemmas.Bool.{eqb-true}
use Rattle.std.proofs.lemmas.List.{take_all, append-nil}
use Rattle.sha1.specs.Sha1.{sha1}
use Rattle.base_text.specs.declared.sum.Sum.{Sum}
use Rattle.base_devices.specs.Content.{Content, Value}
use Rattle.base_devices.specs.Moments.{View}
use Rattle.base_devices.specs.Links.{LinkState}
use Rattle.worker_protocol.specs.declared.frames.frames.JobKind.{JobKind}
use Rattle.worker_protocol.specs.declared.frames.frames.JobKind.TheVariants.{Read}
use Rattle.worker_protocol.specs.Frames.{Item, Job}
use Rattle.worker_protocol.specs.Replies.{payload}
use Rattle.base_model.specs.declared.files.Bundled.{Bundled}
use Rattle.base_model.specs.Text.{Text, Map, In}
use Rattle.base_model.specs.Values.{FileEntry}
use Rattle.base_model.specs.Repository.{File}
use Rattle.worker_protocol.specs.declared.sinks.ItemEnd.{ItemEnd}
use Rattle.worker_protocol.specs.declared.sinks.ItemEnd.TheVariants.{Whole, Vanished}
use Rattle.worker_protocol.specs.PartSinkState.{Held, Done, JobItems}
use Rattle.worker_pool.specs.Reads.{file_of}
use Rattle.worker_pool.specs.Payloads.{AllRead, EndsByFile, AllEndByFile}
use Rattle.backup_sink.specs.declared.keeper.EndedItem.{EndedItem}
use Rattle.backup_sink.proofs.JobItems.{some_and}
use Rattle.backup_plan.specs.declared.values.Choice.{Choice}
use Rattle.backup_plan.specs.declared.values.Choice.TheVariants.{Skip, Empty, Alone, Bundle, Last}
use Rattle.backup_plan.specs.declared.values.PlanSettings.{PlanSettings}
use Rattle.backup_plan.specs.declared.values.What.{What}
use Rattle.backup_plan.specs.declared.values.What.TheVariants.{Leave, Nothing, Single, Small, Control}
use Rattle.backup_plan.specs.Listed.{Taken, entry_at, what, is_unchanged, control_path}
use Rattle.backup_plan.specs.Layout.{Layout, item_for, read_job, takes, laid, laid_all, layout, begin, bundles, jobs_of}
use Rattle.backup_plan.specs.Spots.{HasItem, HaveItems}
use Rattle.backup_plan.proofs.Layouts.{bundle_choices}
use Rattle.backup_plan.proofs.Places.{at_prefix, choice_of, have_items}
use Rattle.backup_record.specs.Ends.{end_at, bytes_before, AreEnds, AreAllEnds, JobsCome}
use Rattle.backup_record.specs.Entries.{BackupRun, read_entry, copied, entry_for, rows, bytes_for, left_entry, prior_bytes, known_at, with_some, file_of as row_file, bundle_job_number, last_job_number}
use Rattle.backup_record.proofs.Coming.{bundle_at, last_at}
use Rattle.backup_record.proofs.Items.{known_fact_is}
use Rattle.backup_record.proofs.Rows.{entry_in}
use Rattle.backup_make.specs.declared.draft.Draft.{Draft}
use Rattle.backup_make.specs.Draft.{taken_in, old_in, jobs_in, went_with, IsDraft}
use Rattle.backup_make.specs.Made.{Makes}
use Rattle.backup_make.proofs.Drafted.{one, reads}
use Rattle.backup_make.proofs.Unreads.{in_at}

-- ---- a file without a job is empty

no_nothing : (b c d : Bool) → (if b then Leave else (if c then Small else Single)) ≢ Nothing
no_nothing true c d e = let x : ◌≡◌ {A = What} Leave Nothing = e in cc
no_nothing false true d e = let x : ◌≡◌ {A = What} Small Nothing = e in cc
no_nothing false false d e = let x : ◌≡◌ {A = What} Single Nothing = e in cc

nothing_empty : (s : PlanSettings) (old : Option FileEntry) (f : Taken) (e : Bool) → what s old f e ≡ Nothing → f.size ≡ 0
nothing_empty s old f e is = by (bytes_eq f.path control_path) (f.size == 0) refl is
  where
    by : (a b : Bool) → (f.size == 0) ≡ b → (if a then Control else (if b then Nothing else (if is_unchanged s.delta old f e then Leave else (if s.bundle && nat_lt f.size (s.bundle_limit + 1) then Small else Single)))) ≡ Nothing → f.size ≡ 0
    by true b eq h = let x : ◌≡◌ {A = What} Control Nothing = h in cc
    by false true eq h = eqb-true f.size 0 eq
    by false false eq h = absurd (no_nothing (is_unchanged s.delta old f e) (s.bundle && nat_lt f.size (s.bundle_limit + 1)) true h)

empty_choice : (s : PlanSettings) (l : Layout) (f : Taken) (w : What) → choice_of s l f w ≡ Empty → w ≡ Nothing
empty_choice s l f Leave e = let x : ◌≡◌ {A = Choice} Skip Empty = e in cc
empty_choice s l f Nothing e = refl
empty_choice s l f Single e = let x : ◌≡◌ {A = Choice} (Alone (length l.singles)) Empty = e in cc
empty_choice s l f Small e = cc
empty_choice s l f Control e = let x : ◌≡◌ {A = Choice} Last Empty = e in cc

choices_are : (s : PlanSettings) (l : Layout) (f : Taken) (w : What) → (laid s l f w).choices ≡ l.choices ++ choice_of s l f w ∷ []
choices_are s l f Leave = refl
choices_are s l f Nothing = refl
choices_are s l f Single = refl
choices_are s l f Small = ap (λ (cs : List Choice). cs ++ choice_of s l f Small ∷ []) (bundle_choices (takes s l f.size) l f)
choices_are s l f Control = refl

abbrev AreSized : List Taken → List Choice → Type 0
AreSized [] cs = Unit {0}
AreSized (f ∷ fs) [] = ⊥
AreSized (f ∷ fs) (c ∷ cs) = (c ≡ Empty → f.size ≡ 0) × AreSized fs cs

all_sized : (s : PlanSettings) (old : List FileEntry) (l : Layout) (fs : List Taken) (es : List Bool) → length es ≡ length fs → (cs : List Choice) × ((laid_all s old l fs es).choices ≡ l.choices ++ cs) × AreSized fs cs
all_sized s old l [] es same = ([], sym (append-nil l.choices), tt)
all_sized s old l (f ∷ fs) [] same = absurd (omega (arith, same))
all_sized s old l (f ∷ fs) (e ∷ es) same =
    let w = what s (entry_at f.path old) f e in
    let r = all_sized s old (laid s l f w) fs es (omega (arith, same)) in (
      choice_of s l f w ∷ r.0,
      r.1 ∙ ap (λ (cs : List Choice). cs ++ r.0) (choices_are s l f w) ∙ append_assoc l.choices (choice_of s l f w ∷ []) r.0,
      (λ is. nothing_empty s (entry_at f.path old) f e (empty_choice s l f w is), r.2),
    )

-- ---- how an item ended by its file

end_in : (es : List EndedItem) (ds : List Done) (i : ℕ) (d : Done) → AreEnds es ds → slice_get ds i ≡ Some d → (e : EndedItem) × (slice_get es i ≡ Some e) × (d.end ≡ e.how)
end_in [] [] i d are is = absurd (let e : ◌≡◌ {A = Option Done} None (Some d) = is in cc)
end_in [] (x ∷ ds) i d are is = absurd are
end_in (e ∷ es) [] i d are is = absurd are
end_in (e ∷ es) (x ∷ ds) zero d are is = let same : x ≡ d = (let y : ◌≡◌ {A = Option Done} (Some x) (Some d) = is in cc) in (e, refl, ap (λ (y : Done). y.end) (sym same) ∙ are.1)
end_in (e ∷ es) (x ∷ ds) (suc i) d are is = end_in es ds i d are.2 is

pub end_of : (ess : List (List EndedItem)) (ks : List JobItems) (j i : ℕ) (k : JobItems) (d : Done) → AreAllEnds ess ks → slice_get ks j ≡ Some k → slice_get k.done i ≡ Some d → (e : EndedItem) × (end_at ess j i ≡ Some e) × (d.end ≡ e.how)
end_of [] [] j i k d are is in_k = absurd (let e : ◌≡◌ {A = Option JobItems} None (Some k) = is in cc)
end_of [] (x ∷ ks) j i k d are is in_k = absurd are
end_of (es ∷ ess) [] j i k d are is in_k = absurd are
end_of (es ∷ ess) (x ∷ ks) zero i k d are is in_k =
    let same : x ≡ k = (let y : ◌≡◌ {A = Option JobItems} (Some x) (Some k) = is in cc) in
    end_in es x.done i d are.0 (ap (λ (y : JobItems). slice_get y.done i) same ∙ in_k)
end_of (es ∷ ess) (x ∷ ks) (suc j) i k d are is in_k = end_of ess ks j i k d are.1 is in_k

ended_at : (kind : JobKind) (tree repo : Content) (xs : List Item) (ds : List Done) (i : ℕ) (x : Item) → AllEndByFile kind tree repo xs ds → slice_get xs i ≡ Some x → (d : Done) × (slice_get ds i ≡ Some d) × EndsByFile kind x (file_of x tree repo) d.held d.end
ended_at kind tree repo [] [] i x all is = absurd (let e : ◌≡◌ {A = Option Item} None (Some x) = is in cc)
ended_at kind tree repo [] (d ∷ ds) i x all is = absurd all
ended_at kind tree repo (y ∷ xs) [] i x all is = absurd all
ended_at kind tree repo (y ∷ xs) (d ∷ ds) zero x all is = let same : y ≡ x = (let z : ◌≡◌ {A = Option Item} (Some y) (Some x) = is in cc) in (d, refl, subst (λ (z : Item). EndsByFile kind z (file_of z tree repo) d.held d.end) same all.0)
ended_at kind tree repo (y ∷ xs) (d ∷ ds) (suc i) x all is = ended_at kind tree repo xs ds i x all.1 is

-- a file that is there is read whole
read_there : (x : Item) (file : Text) (held : Held) (how : ItemEnd) → EndsByFile Read x (Some file) held how → (n : ℕ) × (sum : Sum) × (how ≡ Whole n sum) × IfSome held.known (λ t. t ≡ payload x file)
read_there x file held (Whole n sum) h = (n, sum, refl, h.0.1)
read_there x file held Vanished h = absurd h

kind_of : (kind : JobKind) (tree repo : Content) (xs : List Item) (ds : List Done) → kind ≡ Read → AllEndByFile kind tree repo xs ds → AllEndByFile Read tree repo xs ds
kind_of kind tree repo xs ds is all = subst (λ (k : JobKind). AllEndByFile k tree repo xs ds) is all

no_bytes : (t : Text) → length t ≡ 0 → [] ≡ t
no_bytes [] e = refl
no_bytes (b ∷ t) e = absurd (omega (arith, e))

-- ---- the data folder's files

-- the bytes that the folder holds at a path
abbrev pub held_at : Content → Text → Text
held_at tree path = unwrap_or (tree path) []

-- a listed file as the folder holds it
abbrev pub file_in : Content → Taken → Text × File
file_in tree f = (f.path, record { bytes = held_at tree f.path; time = f.time })

-- the folder has the listed file, as long as it was listed
abbrev pub Represents : Content → Taken → Type 0
Represents tree f = IsSomeAnd (tree f.path) (λ bytes. length bytes ≡ f.size)

-- a file that is left has the folder's bytes
abbrev pub IsHeld : Content → Map File → Taken → Choice → Type 0
IsHeld tree files f c = c ≡ Skip → prior_bytes files f.path ≡ held_at tree f.path

abbrev pub AreHeld : Content → Map File → List Taken → List Choice → Type 0
AreHeld tree files [] cs = Unit {0}
AreHeld tree files (f ∷ fs) [] = ⊥
AreHeld tree files (f ∷ fs) (c ∷ cs) = IsHeld tree files f c × AreHeld tree files fs cs

-- without a prior backup none is left
pub none_left : (tree : Content) (files : Map File) (old : List FileEntry) (l : Layout) → old ≡ [] → (fs : List Taken) (cs : List Choice) → HaveItems old l fs cs → AreHeld tree files fs cs
none_left tree files old l none [] cs have = tt
none_left tree files old l none (f ∷ fs) [] have = absurd have
none_left tree files old l none (f ∷ fs) (c ∷ cs) have = (
  λ is. (
      let was = subst (λ (d : Choice). HasItem old l f d) is have.0 in
      absurd (let e : ◌≡◌ {A = Option FileEntry} None (Some was.entry) = ap (λ (es : List FileEntry). entry_at f.path es) (sym none) ∙ was.is in cc)
      ),
  none_left tree files old l none fs cs have.1,
)

module _ (draft : Draft) (is_draft : IsDraft draft) (links : List LinkState) (whole : Bool) (a d : View) (known : IsSome a.now) (makes : Makes draft links whole a d) (tree repo : Content) (read : AllRead tree repo links)
    (files : Map File) (standing : (f : Taken) → In f (taken_in draft) → Represents tree f) where
  abbrev w : BackupRun
  w = went_with draft makes.ends

  abbrev l : Layout
  l = layout is_draft.plan.settings (old_in draft) (taken_in draft) is_draft.plan.equal

  come : JobsCome (jobs_of l) makes.ends
  come = subst (λ (js : List Job). JobsCome js makes.ends) is_draft.plan.jobs makes.come

  -- an item of a listed file was received whole
  came : (f : Taken) → In f (taken_in draft) → (job item : ℕ) (asked : Job) → slice_get (jobs_of l) job ≡ Some asked → slice_get asked.items item ≡ Some (item_for f)
      → (e : EndedItem) × (end_at makes.ends job item ≡ Some e) × ((n : ℕ) × (sum : Sum) × (e.how ≡ Whole n sum)) × (known_at makes.kept job item ≡ held_at tree f.path)
  came f at job item asked asked_is item_is =
      let there = some_and (tree f.path) (λ bytes. length bytes ≡ f.size) (standing f at) in
      let in_jobs : slice_get (jobs_in draft) job ≡ Some asked = ap (λ (js : List Job). slice_get js job) is_draft.plan.jobs ∙ asked_is in
      let k = some_and (slice_get makes.kept job) (λ k. AllEndByFile asked.kind tree repo asked.items k.done) (makes.payload tree repo read job asked in_jobs) in
      let reading = reads draft is_draft asked (in_at (jobs_in draft) job asked in_jobs) in
      let x = ended_at Read tree repo asked.items k.0.done item (item_for f) (kind_of asked.kind tree repo asked.items k.0.done reading k.2) item_is in
      let r = read_there (item_for f) there.0 x.0.held x.0.end (subst (λ (v : Value). EndsByFile Read (item_for f) v x.0.held x.0.end) there.1 x.2) in
      let e = end_of makes.ends makes.kept job item k.0 x.0 makes.are k.1 x.1 in
      let g = makes.got known job item k.0 x.0 r.0 r.1 k.1 x.1 r.2 in
      let same : g.0 ≡ payload (item_for f) there.0 = (let h : IfSome (Some g.0) (λ t. t ≡ payload (item_for f) there.0) = subst (λ (o : Option Text). IfSome o (λ t. t ≡ payload (item_for f) there.0)) g.1.known r.3 in h) in
      let size = there.2 in
      let all : payload (item_for f) there.0 ≡ there.0 = take_all f.size there.0 (omega (arith, size)) in
      let bytes : there.0 ≡ held_at tree f.path = sym (ap (λ (v : Value). unwrap_or v []) there.1) in
      (e.0, e.1, (r.0, r.1, sym e.2 ∙ r.2), known_fact_is makes.kept job item k.0 x.0 g.0 k.1 x.1 g.1.known ∙ same ∙ all ∙ bytes)

  -- the row of a listed file
  pub record IsRowOf (f : Taken) (c : Choice) : Type 0 where
    pub entry : FileEntry
    pub is : entry_for w f c ≡ Some entry
    pub path : entry.path ≡ f.path
    pub time : entry.time ≡ f.time
    pub bytes : bytes_for w files makes.kept f c ≡ held_at tree f.path

  read_row : (f : Taken) (c : Choice) (at : Option Bundled) (e : EndedItem) (n : ℕ) (sum : Sum) → e.how ≡ Whole n sum → entry_for w f c ≡ read_entry f at e.how → bytes_for w files makes.kept f c ≡ held_at tree f.path → IsRowOf f c
  read_row f c at e n sum how is bytes = record {
    entry = record { path = f.path; size = n; time = f.time; sum = sum.0; reference = None; bundle = if n == 0 then None else at };
    is = is ∙ ap (λ (h : ItemEnd). read_entry f at h) how;
    path = refl;
    time = refl;
    bytes = bytes;
  }

  row : (f : Taken) (c : Choice) → In f (taken_in draft) → (c ≡ Empty → f.size ≡ 0) → IsHeld tree files f c → HasItem (old_in draft) l f c → IsRowOf f c
  row f Skip at sized held was = record {
    entry = left_entry w.prior f was.entry;
    is = ap (λ (o : Option FileEntry). option_map (left_entry w.prior f) o) was.is;
    path = (entry_in f.path (old_in draft) was.entry was.is).1;
    time = refl;
    bytes = held refl;
  }
  row f Empty at sized held was =
      let there = some_and (tree f.path) (λ bytes. length bytes ≡ f.size) (standing f at) in
      record {
        entry = record { path = f.path; size = 0; time = f.time; sum = sha1 []; reference = None; bundle = None };
        is = refl;
        path = refl;
        time = refl;
        bytes = no_bytes there.0 (there.2 ∙ sized refl) ∙ sym (ap (λ (v : Value). unwrap_or v []) there.1);
      }
  row f (Alone job) at sized held was =
      let here = at_prefix (l.singles ++ bundles l) l.last job (read_job (item_for f ∷ [])) (at_prefix l.singles (bundles l) job (read_job (item_for f ∷ [])) was) in
      let x = came f at job 0 (read_job (item_for f ∷ [])) here refl in
      read_row f (Alone job) None x.0 x.2.0 x.2.1 x.2.2 (ap (λ (o : Option EndedItem). copied f None o) x.1) x.3
  row f (Bundle number item) at sized held was =
      let job = bundle_job_number w number in
      let place : Option Bundled = Some (record { number = number; at = bytes_before w.ends job item }) in
      let x = came f at job item (read_job was.1.items) (bundle_at w l is_draft.plan.singles (one draft is_draft) come number (read_job was.1.items) was.1.is) was.1.item_is in
      read_row f (Bundle number item) place x.0 x.2.0 x.2.1 x.2.2 (ap (λ (o : Option EndedItem). copied f place o) x.1) x.3
  row f Last at sized held was =
      let job = last_job_number w in
      let x = came f at job 0 (read_job (item_for f ∷ [])) (last_at w l is_draft.plan.singles (one draft is_draft) come (read_job (item_for f ∷ [])) was) refl in
      read_row f Last None x.0 x.2.0 x.2.1 x.2.2 (ap (λ (o : Option EndedItem). copied f None o) x.1) x.3

  all_files : (fs : List Taken) (cs : List Choice) → ((f : Taken) → In f fs → In f (taken_in draft)) → AreSized fs cs → AreHeld tree files fs cs → HaveItems (old_in draft) l fs cs → map row_file (rows w files makes.kept fs cs) ≡ map (file_in tree) fs
  all_files [] [] each sized held have = refl
  all_files [] (c ∷ cs) each sized held have = absurd have
  all_files (f ∷ fs) [] each sized held have = absurd have
  all_files (f ∷ fs) (c ∷ cs) each sized held have =
      let r = row f c (each f (inl refl)) sized.0 held.0 have.0 in
      let rest = all_files fs cs (λ g i. each g (inr i)) sized.1 held.1 have.1 in
      ap (λ (o : Option FileEntry). map row_file (with_some (option_map (λ (e : FileEntry). (e, bytes_for w files makes.kept f c)) o) (rows w files makes.kept fs cs))) r.is
      ∙ ap (λ (x : Text × File). x ∷ map row_file (rows w files makes.kept fs cs)) (same_file r.entry.path f.path r.entry.time f.time (bytes_for w files makes.kept f c) (held_at tree f.path) r.path r.time r.bytes)
      ∙ ap (λ (xs : List (Text × File)). file_in tree f ∷ xs) rest
    where
      same_file : (p q : Text) (t u : ℕ) (x y : Text) → p ≡ q → t ≡ u → x ≡ y → (let a : Text × File = (p, record { bytes = x; time = t }) in a) ≡ (let b : Text × File = (q, record { bytes = y; time = u }) in b)
      same_file p q t u x y a b c = ap (λ (k : Text). (let z : Text × File = (k, record { bytes = x; time = t }) in z)) a
          ∙ ap (λ (k : ℕ). (let z : Text × File = (q, record { bytes = x; time = k }) in z)) b
          ∙ ap (λ (k : Text). (let z : Text × File = (q, record { bytes = k; time = u }) in z)) c

  have : HaveItems (old_in draft) (layout is_draft.plan.settings (old_in draft) (taken_in draft) is_draft.plan.equal) (taken_in draft) draft.plan.choices.items
  have =
      subst (λ (xs : List Choice). HaveItems (old_in draft) l (taken_in draft) xs) (sym is_draft.plan.choices)
      (have_items is_draft.plan.settings (old_in draft) (taken_in draft) is_draft.plan.equal is_draft.plan.same)

  -- the backup's files are those of the data folder that a backup takes
  pub folder_files : AreHeld tree files (taken_in draft) draft.plan.choices.items → map row_file (rows (went_with draft makes.ends) files makes.kept (taken_in draft) draft.plan.choices.items) ≡ map (file_in tree) (taken_in draft)
  folder_files held =
      let sized = all_sized is_draft.plan.settings (old_in draft) begin (taken_in draft) is_draft.plan.equal is_draft.plan.same in
      let cs : draft.plan.choices.items ≡ sized.0 = is_draft.plan.choices ∙ sized.1 in
      all_files (taken_in draft) draft.plan.choices.items (λ f i. i)
      (subst (λ (xs : List Choice). AreSized (taken_in draft) xs) (sym cs) sized.2) held have
