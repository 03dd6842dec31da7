-- The files of a backup have the bytes that its links read, or those of the prior backup.
use Rattle.std.proofs.Common.{◌≡◌, ◌≢◌, ◌⊎◌, ⊎_elim, inl, inr, ◌<◌, ℕ, zero, suc, Bool, true, false, List, [], ◌∷◌, ◌++◌, length, map, Option, Some, None, refl, sym, ◌∙◌, ap, subst, arith, slice_get}
use Rattle.std.specs.Prelude.{IfSome, IsSome, unwrap_or, option_and_then}
use Rattle.std.specs.FinMap.{is_sorted, get, get-empty, empty}
use Rattle.base_devices.specs.Content.{Content}
use Rattle.base_devices.specs.Moments.{View}
use Rattle.base_devices.specs.Links.{LinkState, Modelled}
use Rattle.base_devices.proofs.Nows.{known_as}
use Rattle.worker_protocol.specs.declared.frames.frames.JobKind.{JobKind}
use Rattle.worker_protocol.specs.declared.frames.frames.JobKind.TheVariants.{Read}
use Rattle.worker_protocol.specs.Frames.{Item, Job}
use Rattle.base_model.specs.declared.labels.BackupKind.TheVariants.{Full}
use Rattle.base_model.specs.declared.labels.Label.{Label}
use Rattle.base_model.specs.Text.{Text, Map, In, text_cmp}
use Rattle.base_model.specs.Values.{FileEntry, Manifest}
use Rattle.base_model.specs.Repository.{File, Backup, Stanza}
use Rattle.base_model.specs.Represents.{HasStanza}
use Rattle.base_model.specs.Now.{NowRepresents}
use Rattle.worker_protocol.specs.declared.sinks.ItemEnd.{ItemEnd}
use Rattle.worker_protocol.specs.declared.sinks.ItemEnd.TheVariants.{Whole, Vanished}
use Rattle.worker_protocol.specs.PartSinkState.{Held, Done, JobItems}
use Rattle.worker_pool.specs.Reads.{ReadBy, EndsAs, AllEnd}
use Rattle.worker_pool.specs.Run.{EndedBy}
use Rattle.backup_sink.specs.declared.keeper.EndedItem.{EndedItem}
use Rattle.backup_sink.proofs.JobItems.{some_and}
use Rattle.backup_plan.specs.declared.values.Choice.{Choice}
use Rattle.backup_plan.specs.declared.values.Choice.TheVariants.{Skip, Empty, Alone, Bundle, Last}
use Rattle.backup_plan.specs.Listed.{Taken, entry_at}
use Rattle.backup_plan.specs.Layout.{Layout, item_for, read_job, layout, bundles, jobs_of}
use Rattle.backup_plan.specs.Spots.{WasLeft, HasItem, HaveItems}
use Rattle.backup_plan.proofs.Places.{at_prefix, have_items}
use Rattle.backup_record.specs.Ends.{JobsCome}
use Rattle.backup_record.specs.Further.{Further, entry_in, with_row}
use Rattle.backup_record.specs.Entries.{BackupRun, entries, entry_for, rows, bytes_for, known_at, prior_bytes, file_of, bundle_job_number, last_job_number}
use Rattle.backup_record.specs.Making.{backup_with}
use Rattle.backup_record.specs.Record.{IsListOf}
use Rattle.backup_record.proofs.Coming.{bundle_at, last_at}
use Rattle.backup_record.proofs.Extended.{rows_sorted}
use Rattle.backup_record.proofs.Left.{OneManifest}
use Rattle.backup_record.proofs.Made.{in_map, of_map}
use Rattle.backup_record.proofs.Maps.{map_of, get_of}
use Rattle.backup_record.proofs.Putting.{in_put, put_there}
use Rattle.backup_record.proofs.Rows.{rows_entries, entry_in as entry_there, left_is}
use Rattle.backup_record.proofs.Rules.{path_listed}
use Rattle.backup_record.proofs.Sorted.{path_of}
use Rattle.backup_make.specs.declared.draft.Draft.{Draft}
use Rattle.backup_make.specs.Draft.{stanza_of, taken_in, old_in, list_in, jobs_in, went_with, further_in, IsDraft, IsFree}
use Rattle.backup_make.specs.Made.{Makes, MakesOf}
use Rattle.backup_make.specs.Online.{Online, label_path, label_entry}
use Rattle.backup_make.proofs.Drafted.{one, reads}
use Rattle.backup_make.proofs.Unreads.{in_at}
use Rattle.backup_lemmas.specs.Backups.{IsOfLink, IsReadBy, IsReadBeside, IsLeftOf, IsReadOrLeft, IsReadOrLeftBeside}
use Rattle.backup_lemmas.proofs.Based.{BasedOn, IsTimedAs, draft_timed, based_on, represents_there, its_label, old_file, old_held}
use Rattle.backup_lemmas.proofs.Prior.{files_before, IsTimed, AreTimed, rows_where}
use Rattle.backup_lemmas.proofs.Values.{value_in}

-- each file's entry with the bytes that were received of it, or that were left
abbrev pub rows_of : Draft → Option Content → List (List EndedItem) → List JobItems → List (FileEntry × Text)
rows_of draft now ends kept = rows (went_with draft ends) (files_before draft now) kept (taken_in draft) draft.plan.choices.items

-- the backup that is made of what was received, with its label file where a server ran
abbrev pub backup_made : (draft : Draft) (o : Option Online) (links : List LinkState) (whole : Bool) (a d : View) → MakesOf draft o links whole a d → Backup
backup_made draft o links whole a d makes = backup_with makes.manifest makes.listed.references (map_of (map file_of (with_row (further_in draft o makes.stop) (rows_of draft a.now makes.ends makes.kept))))

-- of a stopped server
abbrev pub full_backup : (draft : Draft) (links : List LinkState) (whole : Bool) (a d : View) → Makes draft links whole a d → Backup
full_backup draft links whole a d makes = backup_made draft None links whole a d makes

-- a backup without files
abbrev pub no_files : Backup
no_files = record {
  entry = record { label = record { full = 0; later = None }; kind = Full; prior = None; references = []; db = 0; span = None; start = 0; stop = 0; size = 0; stored = 0 };
  wal = None;
  choices = record { bundle = false; delta = false };
  folders = [];
  files = empty;
}

pub no_files_read : (links : List LinkState) → IsReadBy links no_files
no_files_read links = record { read = λ path x is some. absurd (let e : ◌≡◌ {A = Option File} None (Some x) = sym (get-empty {X = File} text_cmp path) ∙ is in cc) }

-- nor was any left
pub no_files_left : (links : List LinkState) (stanza : Text) (old : Option Content) → IsReadOrLeft links stanza old no_files
no_files_left links stanza old = record { read = λ path x is some. absurd (let e : ◌≡◌ {A = Option File} None (Some x) = sym (get-empty {X = File} text_cmp path) ∙ is in cc) }

pub no_files_left_beside : (links : List LinkState) (known : Option Text) (stanza : Text) (old : Option Content) → IsReadOrLeftBeside links known stanza old no_files
no_files_left_beside links known stanza old = record {
  read = λ path x is off some. absurd (let e : ◌≡◌ {A = Option File} None (Some x) = sym (get-empty {X = File} text_cmp path) ∙ is in cc);
  label = λ x is. absurd (let e : ◌≡◌ {A = Option File} None (Some x) = sym (get-empty {X = File} text_cmp label_path) ∙ is in cc);
}

pub no_files_beside : (links : List LinkState) (known : Option Text) → IsReadBeside links known no_files
no_files_beside links known = record {
  read = λ path x is off some. absurd (let e : ◌≡◌ {A = Option File} None (Some x) = sym (get-empty {X = File} text_cmp path) ∙ is in cc);
  label = λ x is. absurd (let e : ◌≡◌ {A = Option File} None (Some x) = sym (get-empty {X = File} text_cmp label_path) ∙ is in cc);
}

-- ---- an item that ended

held_is : (o : Option Text) (b : Text) → IfSome o (λ t. t ≡ b) → 0 < length (unwrap_or o []) → unwrap_or o [] ≡ b
held_is None b h some = absurd (omega (arith, some))
held_is (Some t) b h some = h

item_read : (from : Option Modelled) (i : Item) (held : Held) (how : ItemEnd) → EndsAs from Read i held how → 0 < length (unwrap_or held.known []) → ReadBy from i (unwrap_or held.known [])
item_read from i held (Whole n sum) h some = subst (λ (t : Text). ReadBy from i t) (sym (held_is held.known h.bytes h.holds.1 some)) h.read
item_read from i held Vanished h some = let none = ap (λ (t : Text). length t) (held_is held.known [] h.0.1 some) in absurd (omega (arith, some, none))

item_ended : (from : Option Modelled) (xs : List Item) (ds : List Done) (k : ℕ) (x : Item) → AllEnd from Read xs ds → slice_get xs k ≡ Some x → (d : Done) × (slice_get ds k ≡ Some d) × EndsAs from Read x d.held d.end
item_ended from [] [] k x all is = absurd (let e : ◌≡◌ {A = Option Item} None (Some x) = is in cc)
item_ended from [] (d ∷ ds) k x all is = absurd all
item_ended from (y ∷ xs) [] k x all is = absurd all
item_ended from (y ∷ xs) (d ∷ ds) zero x all is = let same : y ≡ x = (let e : ◌≡◌ {A = Option Item} (Some y) (Some x) = is in cc) in (d, refl, subst (λ (z : Item). EndsAs from Read z d.held d.end) same all.0)
item_ended from (y ∷ xs) (d ∷ ds) (suc k) x all is = item_ended from xs ds k x all.1 is

held_at : (kept : List JobItems) (job item : ℕ) (k : JobItems) (d : Done) → slice_get kept job ≡ Some k → slice_get k.done item ≡ Some d → known_at kept job item ≡ unwrap_or d.held.known []
held_at kept job item k d a b =
    ap (λ (o : Option JobItems). unwrap_or (option_and_then (λ (k : JobItems). option_and_then (λ (d : Done). d.held.known) (slice_get k.done item)) o) []) a
    ∙ ap (λ (o : Option Done). unwrap_or (option_and_then (λ (d : Done). d.held.known) o) []) b

-- ---- the files

-- the row's bytes are those of a file that the draft may leave
pub record IsRowLeft (draft : Draft) (files : Map File) (delta : Bool) (r : FileEntry × Text) : Type 0 where
  pub entry : FileEntry
  pub of_it : In entry (old_in draft)
  pub path : entry.path ≡ r.0.path
  pub some : 0 < entry.size
  pub bytes : r.1 ≡ prior_bytes files entry.path
  pub time : delta ≡ false → entry.time ≡ r.0.time

module _ (draft : Draft) (is_draft : IsDraft draft) (o : Option Online) (free : IfSome o (λ _. IsFree draft)) (links : List LinkState) (whole : Bool) (a d : View) (makes : MakesOf draft o links whole a d) where
  abbrev w : BackupRun
  w = went_with draft makes.ends

  abbrev l : Layout
  l = layout is_draft.plan.settings (old_in draft) (taken_in draft) is_draft.plan.equal

  abbrev before : Map File
  before = files_before draft a.now

  come : JobsCome (jobs_of l) makes.ends
  come = subst (λ (js : List Job). JobsCome js makes.ends) is_draft.plan.jobs makes.come

  -- the result of a file's item was read by a link
  came : (f : Taken) (job item : ℕ) (asked : Job) → slice_get (jobs_of l) job ≡ Some asked → slice_get asked.items item ≡ Some (item_for f) → 0 < length (known_at makes.kept job item) → IsOfLink links f.path (known_at makes.kept job item)
  came f job item asked asked_is item_is some =
      let in_jobs : slice_get (jobs_in draft) job ≡ Some asked = ap (λ (js : List Job). slice_get js job) is_draft.plan.jobs ∙ asked_is in
      let k = some_and (slice_get makes.kept job) (λ k. EndedBy links asked k) (makes.received job asked in_jobs) in
      let e : EndedBy links asked k.0 = k.2 in
      let reading = reads draft is_draft asked (in_at (jobs_in draft) job asked in_jobs) in
      let all : AllEnd e.from.known Read asked.items k.0.done = subst (λ (kind : JobKind). AllEnd e.from.known kind asked.items k.0.done) reading e.items in
      let x = item_ended e.from.known asked.items k.0.done item (item_for f) all item_is in
      let known = held_at makes.kept job item k.0 x.0 k.1 x.1 in
      let read = item_read e.from.known (item_for f) x.0.held x.0.end x.2 (subst (λ (t : Text). 0 < length t) known some) in
      (e.link, e.from, item_for f, e.is, refl, refl, subst (λ (t : Text). ReadBy e.from.known (item_for f) t) (sym known) read)

  -- of any file but one that is left
  came_of : (f : Taken) (c : Choice) → c ≢ Skip → HasItem (old_in draft) l f c → 0 < length (bytes_for w before makes.kept f c) → IsOfLink links f.path (bytes_for w before makes.kept f c)
  came_of f Skip not was some = absurd (not refl)
  came_of f Empty not was some = absurd (omega (arith, some))
  came_of f (Alone job) not was some =
      let here = at_prefix (l.singles ++ bundles l) l.last job (read_job (item_for f ∷ [])) (at_prefix l.singles (bundles l) job (read_job (item_for f ∷ [])) was) in
      came f job 0 (read_job (item_for f ∷ [])) here refl some
  came_of f (Bundle number item) not was some =
      let here = bundle_at w l is_draft.plan.singles (one draft is_draft) come number (read_job was.1.items) was.1.is in
      came f (bundle_job_number w number) item (read_job was.1.items) here was.1.item_is some
  came_of f Last not was some =
      let here = last_at w l is_draft.plan.singles (one draft is_draft) come (read_job (item_for f ∷ [])) was in
      came f (last_job_number w) 0 (read_job (item_for f ∷ [])) here refl some

  own_row : (f : Taken) (c : Choice) (e : FileEntry) → c ≢ Skip → HasItem (old_in draft) l f c → entry_for w f c ≡ Some e → 0 < length (bytes_for w before makes.kept f c) → IsOfLink links e.path (bytes_for w before makes.kept f c)
  own_row f c e not was is some = subst (λ (p : Text). IsOfLink links p (bytes_for w before makes.kept f c)) (sym (path_of w f c e is)) (came_of f c not was some)

  pub have : HaveItems (old_in draft) (layout is_draft.plan.settings (old_in draft) (taken_in draft) is_draft.plan.equal) (taken_in draft) draft.plan.choices.items
  have = subst (λ (cs : List Choice). HaveItems (old_in draft) l (taken_in draft) cs) (sym is_draft.plan.choices) (have_items is_draft.plan.settings (old_in draft) (taken_in draft) is_draft.plan.equal is_draft.plan.same)

  -- the label file, where a server ran
  abbrev further : Option Further
  further = further_in draft o makes.stop

  new_path : IfSome (entry_in further) (λ e. ¬ In e.path (map (λ (f : Taken). f.path) (taken_in draft)))
  new_path = by o free
    where
      by : (o : Option Online) → IfSome o (λ _. IsFree draft) → IfSome (entry_in (further_in draft o makes.stop)) (λ e. ¬ In e.path (map (λ (f : Taken). f.path) (taken_in draft)))
      by None x = tt
      by (Some y) x = x.file

  pub files_sorted : is_sorted text_cmp (map file_of (with_row (further_in draft o makes.stop) (rows_of draft a.now makes.ends makes.kept))) ≡ true
  files_sorted = rows_sorted further w before makes.kept (taken_in draft) draft.plan.choices.items is_draft.listing.file_order new_path

  -- each file is that of a row
  file_row : (path : Text) (x : File) → get (backup_made draft o links whole a d makes).files path ≡ Some x → (r : FileEntry × Text) × In r (with_row further (rows_of draft a.now makes.ends makes.kept)) × ((let z : Text × File = (path, x) in z) ≡ file_of r)
  file_row path x is = of_map file_of (let z : Text × File = (path, x) in z) (with_row further (rows_of draft a.now makes.ends makes.kept)) (value_in (map file_of (with_row further (rows_of draft a.now makes.ends makes.kept))) path x files_sorted is)

  -- that of a listed file has a listed path
  row_listed : (path : Text) (x : File) (r : FileEntry × Text) → In r (rows_of draft a.now makes.ends makes.kept) → (let z : Text × File = (path, x) in z) ≡ file_of r → In path (map (λ (f : Taken). f.path) (taken_in draft))
  row_listed path x r at is = path_listed w (taken_in draft) draft.plan.choices.items path
      (subst (λ (p : Text). In p (map (λ (e : FileEntry). e.path) (entries w (taken_in draft) draft.plan.choices.items))) (sym (ap (λ (z : Text × File). z.0) is))
      (in_map (λ (e : FileEntry). e.path) r.0 (entries w (taken_in draft) draft.plan.choices.items)
      (subst (λ (es : List FileEntry). In r.0 es) (rows_entries w before makes.kept (taken_in draft) draft.plan.choices.items) (in_map (λ (q : FileEntry × Text). q.0) r (rows_of draft a.now makes.ends makes.kept) at))))

  module _ (delta : Bool) (all : AreTimed delta (old_in draft) (taken_in draft) draft.plan.choices.items) where
    abbrev IsRowRead : FileEntry × Text → Type 0
    IsRowRead r = 0 < length r.1 → IsOfLink links r.0.path r.1 ⊎ IsRowLeft draft (files_before draft a.now) delta r

    left : (f : Taken) (e : FileEntry) (was : WasLeft (old_in draft) f) → IsTimed delta (old_in draft) f Skip → entry_for w f Skip ≡ Some e → IsRowLeft draft (files_before draft a.now) delta (e, prior_bytes before f.path)
    left f e was at is =
        let x = entry_there f.path (old_in draft) was.entry was.is in
        let made = left_is w f (entry_at f.path (old_in draft)) e was.entry was.is is in
        record {
          entry = was.entry;
          of_it = x.0;
          path = x.1 ∙ sym (path_of w f Skip e is);
          some = subst (λ (n : ℕ). 0 < n) (sym was.size) was.some;
          bytes = ap (λ (p : Text). prior_bytes before p) (sym x.1);
          time = λ plain. at refl plain was.entry was.is ∙ sym (ap (λ (y : FileEntry). y.time) made);
        }

    row : (f : Taken) (c : Choice) (e : FileEntry) → HasItem (old_in draft) l f c → IsTimed delta (old_in draft) f c → entry_for w f c ≡ Some e → IsRowRead (e, bytes_for w before makes.kept f c)
    row f Skip e was at is some = inr (left f e was at is)
    row f Empty e was at is some = inl (own_row f Empty e (λ k. let y : ◌≡◌ {A = Choice} Empty Skip = k in cc) was is some)
    row f (Alone job) e was at is some = inl (own_row f (Alone job) e (λ k. let y : ◌≡◌ {A = Choice} (Alone job) Skip = k in cc) was is some)
    row f (Bundle number item) e was at is some = inl (own_row f (Bundle number item) e (λ k. let y : ◌≡◌ {A = Choice} (Bundle number item) Skip = k in cc) was is some)
    row f Last e was at is some = inl (own_row f Last e (λ k. let y : ◌≡◌ {A = Choice} Last Skip = k in cc) was is some)

    -- the result of a listed file was read by a link, or it was left
    pub row_read : (path : Text) (x : File) (r : FileEntry × Text) → In r (rows_of draft a.now makes.ends makes.kept) → (let z : Text × File = (path, x) in z) ≡ file_of r → 0 < length x.bytes → IsOfLink links path x.bytes ⊎ IsRowLeft draft (files_before draft a.now) delta r
    row_read path x r at is some =
        let same_path : path ≡ r.0.path = ap (λ (z : Text × File). z.0) is in
        let same_bytes : x.bytes ≡ r.1 = ap (λ (z : Text × File). z.1.bytes) is in
        ⊎_elim
        (λ (read : IsOfLink links r.0.path r.1). inl (subst (λ (p : Text). IsOfLink links p x.bytes) (sym same_path) (subst (λ (t : Text). IsOfLink links r.0.path t) (sym same_bytes) read)))
        (λ (was : IsRowLeft draft (files_before draft a.now) delta r). inr was)
        (rows_where IsRowRead w before makes.kept l delta row (taken_in draft) draft.plan.choices.items have all r at (subst (λ (t : Text). 0 < length t) same_bytes some))

-- ---- what was left is the prior backup's

-- the content that the backup was made besides has a stanza with the backups of this one, whose list is the draft's
pub record RepresentsBeside (draft : Draft) (a : View) (s : Stanza) : Type 0 where
  pub content : Content
  pub is_content : a.now ≡ Some content
  pub stanza : Stanza
  pub same : stanza.backups ≡ s.backups
  pub has : HasStanza (stanza_of draft) content stanza
  pub list : IsListOf stanza (list_in draft)

module _ (one_manifest : OneManifest) (draft : Draft) (is_draft : IsDraft draft) (o : Option Online) (links : List LinkState) (whole : Bool) (a d : View) (makes : MakesOf draft o links whole a d) (based : BasedOn draft a draft.prior) (old : Option Content)
    (beside : (s : Stanza) → IsSome old → NowRepresents (stanza_of draft) (Some s) old → RepresentsBeside draft a s) where
  abbrev b : Backup
  b = backup_made draft o links whole a d makes

  pub planned : (delta : Bool) × IsTimedAs draft delta
  planned = draft_timed draft is_draft a based

  pub left_of : (path : Text) (x : File) (r : FileEntry × Text) → (let z : Text × File = (path, x) in z) ≡ file_of r → IsRowLeft draft (files_before draft a.now) planned.0 r → IsLeftOf (stanza_of draft) old (backup_made draft o links whole a d makes) path x
  left_of path x r is was = by draft.prior refl based
    where
      by : (p : Option Label) → draft.prior ≡ p → BasedOn draft a p → IsLeftOf (stanza_of draft) old (backup_made draft o links whole a d makes) path x
      by None none full = absurd (subst (λ (es : List FileEntry). In was.entry es) full was.of_it)
      by (Some l) prior_is base = record {
        prior = l;
        is = ap (λ (m : Manifest). m.prior) makes.manifest_is ∙ prior_is;
        held = λ s some represents. (
            let k = beside s some represents in
            let p = based_on one_manifest draft is_draft a l prior_is base k.content k.is_content k.stanza k.list k.has in
            let at = represents_there one_manifest draft is_draft a l prior_is base k.content k.is_content k.stanza k.list k.has in
            let y = old_file one_manifest draft is_draft a l prior_is base k.content k.is_content k.stanza k.list k.has was.entry was.of_it in
            let same_path : was.entry.path ≡ path = was.path ∙ sym (ap (λ (z : Text × File). z.0) is) in (
              y.0,
              (p, subst (λ (bs : List Backup). In p bs) k.same at, its_label one_manifest draft is_draft a l prior_is base k.content k.is_content k.stanza k.list k.has, ap (λ (q : Text). get p.files q) (sym same_path) ∙ y.1),
              sym (old_held one_manifest draft is_draft a l prior_is base k.content k.is_content k.stanza k.list k.has was.entry was.of_it was.some) ∙ sym was.bytes ∙ sym (ap (λ (z : Text × File). z.1.bytes) is),
              λ plain. (
                  let delta : planned.0 ≡ false = planned.1.1 l prior_is ∙ sym (ap (λ (m : Manifest). m.choices.delta) makes.manifest_is) ∙ plain in
                  sym y.2.time ∙ was.time delta ∙ sym (ap (λ (z : Text × File). z.1.time) is)
                  ),
            )
            );
      }

-- ---- of a stopped server

module _ (one_manifest : OneManifest) (draft : Draft) (is_draft : IsDraft draft) (links : List LinkState) (whole : Bool) (a d : View) (makes : Makes draft links whole a d) (based : BasedOn draft a draft.prior)
    (listing : (f : Content) → a.now ≡ Some f → (s : Stanza) → HasStanza (stanza_of draft) f s → IsListOf s (list_in draft)) where
  here : (s : Stanza) → IsSome a.now → NowRepresents (stanza_of draft) (Some s) a.now → RepresentsBeside draft a s
  here s some represents =
      let f = known_as a.now some in
      let h : HasStanza (stanza_of draft) f.0 s = represents.represents f.0 f.1 in
      record { content = f.0; is_content = f.1; stanza = s; same = refl; has = h; list = listing f.0 f.1 s h }

  pub read_or_left : IsReadOrLeft links (stanza_of draft) a.now (full_backup draft links whole a d makes)
  read_or_left = record {
    read = λ path x is some. (
        let r = file_row draft is_draft None tt links whole a d makes path x is in
        let p = planned one_manifest draft is_draft None links whole a d makes based a.now here in
        ⊎_elim
        (λ (read : IsOfLink links path x.bytes). inl read)
        (λ (was : IsRowLeft draft (files_before draft a.now) p.0 r.0). inr (left_of one_manifest draft is_draft None links whole a d makes based a.now here path x r.0 r.2 was))
        (row_read draft is_draft None tt links whole a d makes p.0 p.1.0 path x r.0 r.1 r.2 some)
        );
  }

-- without a prior backup none was left
pub read_by : (links : List LinkState) (stanza : Text) (old : Option Content) (b : Backup) → IsReadOrLeft links stanza old b → b.entry.prior ≡ None → IsReadBy links b
read_by links stanza old b x none = record {
  read = λ path y is some. ⊎_elim
      (λ (read : IsOfLink links path y.bytes). read)
      (λ (was : IsLeftOf stanza old b path y). absurd (let e : ◌≡◌ {A = Option Label} None (Some was.prior) = sym none ∙ was.is in cc))
      (x.read path y is some);
}

pub read_beside : (links : List LinkState) (known : Option Text) (stanza : Text) (old : Option Content) (b : Backup) → IsReadOrLeftBeside links known stanza old b → b.entry.prior ≡ None → IsReadBeside links known b
read_beside links known stanza old b x none = record {
  read = λ path y is off some. ⊎_elim
      (λ (read : IsOfLink links path y.bytes). read)
      (λ (was : IsLeftOf stanza old b path y). absurd (let e : ◌≡◌ {A = Option Label} None (Some was.prior) = sym none ∙ was.is in cc))
      (x.read path y is off some);
  label = x.label;
}

-- of a running one: the label file is the server's
module _ (draft : Draft) (is_draft : IsDraft draft) (o : Online) (free : IsFree draft) (links : List LinkState) (whole : Bool) (a d : View) (makes : MakesOf draft (Some o) links whole a d) where
  abbrev label_row : FileEntry × Text
  label_row = (label_entry o.label_file makes.stop, o.label_file)

  abbrev rest : List (FileEntry × Text)
  rest = rows_of draft a.now makes.ends makes.kept

  row_kind : (r : FileEntry × Text) → In r (with_row (further_in draft (Some o) makes.stop) rest) → (r ≡ label_row) ⊎ In r rest
  row_kind r at = in_put (λ (q : FileEntry × Text). q.0.path) label_row r rest at

  label_at : In label_row (with_row (further_in draft (Some o) makes.stop) rest)
  label_at = put_there (λ (q : FileEntry × Text). q.0.path) label_row rest

  -- it is there, of the second in which the backup stopped
  pub label_there : get (backup_made draft (Some o) links whole a d makes).files label_path ≡ Some (record { bytes = o.label_file; time = makes.stop })
  label_there = get_of (map file_of (with_row (further_in draft (Some o) makes.stop) rest)) label_path (record { bytes = o.label_file; time = makes.stop })
      (files_sorted draft is_draft (Some o) free links whole a d makes) (in_map file_of label_row (with_row (further_in draft (Some o) makes.stop) rest) label_at)

  module _ (one_manifest : OneManifest) (based : BasedOn draft a draft.prior) (old : Option Content) (beside : (s : Stanza) → IsSome old → NowRepresents (stanza_of draft) (Some s) old → RepresentsBeside draft a s) where
    pub online_read : IsReadOrLeftBeside links (Some o.label_file) (stanza_of draft) old (backup_made draft (Some o) links whole a d makes)
    online_read = record {
      read = λ path x is off some. (
          let r = file_row draft is_draft (Some o) free links whole a d makes path x is in
          let p = planned one_manifest draft is_draft (Some o) links whole a d makes based old beside in
          ⊎_elim
          (λ (own : r.0 ≡ label_row). absurd (off (ap (λ (z : Text × File). z.0) r.2 ∙ ap (λ (q : FileEntry × Text). q.0.path) own)))
          (λ (at : In r.0 rest). ⊎_elim
          (λ (read : IsOfLink links path x.bytes). inl read)
          (λ (was : IsRowLeft draft (files_before draft a.now) p.0 r.0). inr (left_of one_manifest draft is_draft (Some o) links whole a d makes based old beside path x r.0 r.2 was))
          (row_read draft is_draft (Some o) free links whole a d makes p.0 p.1.0 path x r.0 at r.2 some))
          (row_kind r.0 r.1)
          );
      label = λ x is. (
          let r = file_row draft is_draft (Some o) free links whole a d makes label_path x is in
          ⊎_elim
          (λ (own : r.0 ≡ label_row). ap (λ (t : Text). Some t) (sym (ap (λ (z : Text × File). z.1.bytes) r.2 ∙ ap (λ (q : FileEntry × Text). q.1) own)))
          (λ (at : In r.0 rest). absurd (free.file (row_listed draft is_draft (Some o) free links whole a d makes label_path x r.0 at r.2)))
          (row_kind r.0 r.1)
          );
    }
