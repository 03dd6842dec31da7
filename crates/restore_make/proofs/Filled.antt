-- From the files that were written to the entries of a manifest.
use Rattle.std.proofs.Common.{ℕ, Bool, false, ◌≡◌, ◌≢◌, ◌<◌, arith, sym, ap, ◌∙◌, subst, List, [], ◌∷◌, length, map, Option, Some, None, slice_get, string_bytes}
use Rattle.std.specs.Prelude.{IfSome}
use Rattle.base_devices.specs.Content.{at}
use Rattle.base_devices.specs.Links.{LinkState, Modelled}
use Rattle.base_devices.specs.DataFolder.{Nodes}
use Rattle.base_text.specs.declared.sum.Sum.{Sum}
use Rattle.base_model.specs.declared.labels.Label.{Label}
use Rattle.restore_make.specs.Recovered.{Recovery}
use Rattle.base_model.specs.Text.{Text, In}
use Rattle.base_model.specs.Values.{FileEntry}
use Rattle.worker_protocol.specs.Frames.{Item, Job}
use Rattle.worker_pool.specs.Reads.{UnreadBy}
use Rattle.worker_pool.specs.Run.{AllLost, begun}
use Rattle.worker_pool.specs.declared.dispatch.fault.Lost.{Lost}
use Rattle.restore_steps.specs.Clearing.{control_path, HasTimed}
use Rattle.restore_steps.specs.declared.contents.files.Wanted.{Wanted}
use Rattle.restore_steps.specs.Files.{temporary_path}
use Rattle.restore_steps.specs.Keeping.{IsNoneOf, HaveFolders}
use Rattle.restore_steps.specs.Sources.{source, reading}
use Rattle.restore_make.specs.declared.fault.FillFault.{FillFault}
use Rattle.restore_make.specs.declared.fault.FillFault.TheVariants as faults
use Rattle.restore_make.specs.Written.{IsReadOf, IsFetched, AllFetched}
use Rattle.restore_make.specs.Kept.{marked}
use Rattle.restore_make.specs.Entries.{reads_of, Want, want_of, want_in, IsFilled, Fills}
use Rattle.restore_make.specs.Listed.{AreHoused}
use Rattle.restore_make.specs.Faults.{IsWrongFile, IsUnreadFile, WriteFails, IsDamaged, IsUnread, AreLost, FillFails}
use Rattle.restore_make.proofs.ReadJobs.{at_in, in_at, entry_at, wanted_of_entry, job_at}
use Rattle.restore_make.proofs.ReadEntries.{in_read, marked_in, ordinary_off}
use Rattle.restore_make.proofs.Names.{control_lasts}
use Rattle.worker_pool.proofs.Links.{unsteady_loss}
use Rattle.restore_steps.proofs.Listing.{some_within}

pub one_left : (left : List LinkState) (now : LinkState) → map (λ (s : LinkState). Some s) left ≡ Some now ∷ [] → left ≡ now ∷ []
one_left [] now e = cc
one_left (s ∷ []) now e = let h : ◌≡◌ {A = List (Option LinkState)} (Some s ∷ []) (Some now ∷ []) = e in cc
one_left (s ∷ t ∷ rest) now e = let h : ◌≡◌ {A = List (Option LinkState)} (Some s ∷ Some t ∷ map (λ (s : LinkState). Some s) rest) (Some now ∷ []) = e in cc

-- a job's only item is the one that couldn't be read
pub the_one : (its : Item) (known : Option Modelled) (items : List Item) (item : ℕ) → items ≡ its ∷ [] → item < length items → ((i : Item) → slice_get items item ≡ Some i → UnreadBy known i) → UnreadBy known its
the_one its known items item is lt unread =
    let none : item ≡ 0 = omega (arith, lt, ap (λ (l : List Item). length l) is) in
    unread its (ap (λ (n : ℕ). slice_get items n) none ∙ ap (λ (l : List Item). slice_get l 0) is)

-- all links that jobs lost
pub all_gone : (jobs : List Job) (links : List LinkState) (before after : List Lost) → AllLost jobs (begun links before) after → AreLost links before after
all_gone jobs links before after all = record {
  entries = all.entries;
  is = all.is;
  count = all.count;
  unsteady = λ i s is. unsteady_loss jobs links all.entries all.each i s is (all.has i (some_within links i s is));
}

module _ (stanza : Text) (own : Label) (links : List LinkState) (r : Recovery) (files : List FileEntry) (marks : List Bool) (jobs : List Job) (ws : List Wanted) (jobs_are : jobs ≡ map (reading stanza own) (reads_of r (marked files marks))) (wanted_are : map want_in ws ≡ map want_of (reads_of r (marked files marks))) where
  filled_by : (e : FileEntry) (w : Wanted) (nodes : Option Nodes) → want_in w ≡ want_of e → IfSome nodes (IsFetched links (reading stanza own e) w) → IfSome nodes (IsFilled stanza own links e)
  filled_by e w None is x = tt
  filled_by e w (Some g) is x =
      let item : x.item ≡ source stanza own e = (let h : ◌≡◌ {A = List Item} (source stanza own e ∷ []) (x.item ∷ []) = x.items in cc) in
      let path : w.path.now ≡ e.path = ap (λ (y : Want). y.path) is in
      record {
        bytes = x.bytes;
        file = subst (λ (p : Text). HasTimed p x.bytes e.time g) path (subst (λ (n : ℕ). HasTimed w.path.now x.bytes n g) (ap (λ (y : Want). y.time) is) x.file);
        are = (x.size ∙ ap (λ (y : Want). y.size) is, x.sum ∙ ap (λ (y : Want). y.sum) is);
        read = subst (λ (i : Item). IsReadOf links i x.bytes) item x.read;
        alone = ap (λ (p : Text). g (temporary_path p)) (sym path) ∙ x.alone;
      }

  none_written : (q : Text) → ((e : FileEntry) → In e (reads_of r (marked files marks)) → (q ≢ e.path) × (q ≢ temporary_path e.path)) → IsNoneOf ws q
  none_written q off w i =
      let k = at_in ws w i in
      let e = entry_at stanza own r (marked files marks) jobs ws jobs_are wanted_are k.0 w k.1 in
      let path : e.0.path ≡ w.path.now = ap (λ (y : Want). y.path) e.2 in
      let both = off e.0 (in_at (reads_of r (marked files marks)) k.0 e.0 e.1) in
      (λ is. both.0 (is ∙ sym path), λ is. both.1 (is ∙ ap temporary_path (sym path)))

  pub fills : (old new : Option Nodes) → AllFetched links new jobs ws → ((q : Text) → IsNoneOf ws q → at q new ≡ at q old) → Fills stanza own links (reads_of r (marked files marks)) old new
  fills old new fetched others = record {
    each = λ e i.
        let k = at_in (reads_of r (marked files marks)) e i in
        let w = wanted_of_entry stanza own r (marked files marks) jobs ws jobs_are wanted_are k.0 e k.1 in
        filled_by e w.0 new w.2 (fetched k.0 (reading stanza own e) w.0 (job_at stanza own r (marked files marks) jobs ws jobs_are wanted_are k.0 e k.1) w.1);
    others = λ q off. others q (none_written q off);
  }

  -- each of those that are written has its folder, which is none of them
  pub have_folders : (nodes : Option Nodes) → AreHoused files nodes → HaveFolders ws nodes
  have_folders nodes housed w i prefix last is plain =
      let k = at_in ws w i in
      let e = entry_at stanza own r (marked files marks) jobs ws jobs_are wanted_are k.0 w k.1 in
      let path : e.0.path ≡ w.path.now = ap (λ (y : Want). y.path) e.2 in
      let its = λ (d : FileEntry) (j : In d (reads_of r (marked files marks))). marked_in files marks (d, false) (in_read r (marked files marks) d j).0 in
      let x = housed e.0 (its e.0 (in_at (reads_of r (marked files marks)) k.0 e.0 e.1)) prefix last (path ∙ is) plain in
      (none_written prefix (λ d j. x.0 d (its d j)), x.1)

  -- the control file is none of those that are written
  pub none_of_control : IsNoneOf ws control_path
  none_of_control = none_written control_path (λ e i. (λ is. ordinary_off r e (in_read r (marked files marks) e i).1 (sym is), control_lasts e.path))

  -- ---- faults

  damaged : (path : Text) (known found : Sum) → IsWrongFile links jobs ws path known found → IsDamaged stanza own links files path known found
  damaged path known found x =
      let e = entry_at stanza own r (marked files marks) jobs ws jobs_are wanted_are x.place x.wanted x.wanted_is in
      let h : ◌≡◌ {A = Option Job} (Some x.job) (Some (reading stanza own e.0)) = sym x.job_is ∙ job_at stanza own r (marked files marks) jobs ws jobs_are wanted_are x.place e.0 e.1 in
      let job : x.job ≡ reading stanza own e.0 = cc in
      let item : x.item ≡ source stanza own e.0 = (let k : ◌≡◌ {A = List Item} (x.item ∷ []) (source stanza own e.0 ∷ []) = sym x.items ∙ ap (λ (j : Job). j.items) job in cc) in
      let size : e.0.size ≡ x.wanted.size = ap (λ (y : Want). y.size) e.2 in
      let sum : e.0.sum ≡ x.wanted.sum.0 = ap (λ (y : Want). y.sum) e.2 in
      record {
        entry = e.0;
        listed = marked_in files marks (e.0, false) (in_read r (marked files marks) e.0 (in_at (reads_of r (marked files marks)) x.place e.0 e.1)).0;
        path_is = x.path_is ∙ sym (ap (λ (y : Want). y.path) e.2);
        known_fact_is = ap (λ (s : Sum). s.0) x.known_fact_is ∙ sym sum;
        bytes = x.bytes;
        read = subst (λ (i : Item). IsReadOf links i x.bytes) item x.read;
        found_is = x.found_is;
        wrong = λ are. x.wrong (are.0 ∙ size, are.1 ∙ sum);
      }

  unread : (left : List LinkState) (before : List Lost) (path : Text) → IsUnreadFile jobs ws links left before path → IsUnread stanza own links left files path
  unread left before path x =
      let e = entry_at stanza own r (marked files marks) jobs ws jobs_are wanted_are x.place x.wanted x.wanted_is in
      let leaves = x.leaves in
      let h : ◌≡◌ {A = Option Job} (Some leaves.job) (Some (reading stanza own e.0)) = sym leaves.job_is ∙ job_at stanza own r (marked files marks) jobs ws jobs_are wanted_are x.place e.0 e.1 in
      let job : leaves.job ≡ reading stanza own e.0 = cc in
      record {
        entry = e.0;
        listed = marked_in files marks (e.0, false) (in_read r (marked files marks) e.0 (in_at (reads_of r (marked files marks)) x.place e.0 e.1)).0;
        path_is = x.path_is ∙ sym (ap (λ (y : Want). y.path) e.2);
        now = leaves.now;
        is = one_left left leaves.now leaves.is;
        given = leaves.given;
        link = leaves.link;
        from = leaves.from;
        from_is = leaves.from_is;
        unread = the_one (source stanza own e.0) leaves.from.known leaves.job.items x.item (ap (λ (j : Job). j.items) job) leaves.within leaves.unread;
      }

  pub fill_fails : (left : List LinkState) (before after : List Lost) (old new : ℕ) (e : FillFault) → WriteFails e jobs ws links left before after old new → FillFails e stanza own files links left before after old new
  fill_fails left before after old new (faults.FileDamaged path known found) h = damaged (string_bytes path) known found h
  fill_fails left before after old new faults.WorkersLost h = all_gone jobs links before after h
  fill_fails left before after old new (faults.Unread path) h = unread left before (string_bytes path) h
  fill_fails left before after old new faults.DataFolder h = h
  fill_fails left before after old new faults.NoMemory h = tt
