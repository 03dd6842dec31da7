-- From how files ended to those that are there, and to what is known of those that aren't.
use Rattle.std.proofs.Common.{ℕ, zero, suc, Bool, true, false, ◌≡◌, ◌≢◌, ⊎_elim, ◌<◌, ◌+◌, refl, sym, ap, ◌∙◌, subst, arith, List, [], ◌∷◌, length, map, Option, Some, None, bytes_eq, slice_get, get_or, string_bytes}
use Rattle.std.specs.Prelude.{IfSome, ◌==◌}
use Rattle.std.proofs.lemmas.Bool.{and_parts}
use Rattle.std.proofs.lemmas.Bool.Decides.{nat_tests}
use Rattle.std.proofs.lemmas.List.{length-map}
use Rattle.std.proofs.lemmas.Slice.Eq.{bytes_eq-Decides}
use Rattle.base_devices.specs.Links.{LinkState}
use Rattle.base_devices.specs.DataFolder.{Nodes}
use Rattle.base_text.specs.declared.sum.Sum.{Sum}
use Rattle.base_model.specs.Text.{Text}
use Rattle.worker_protocol.specs.Frames.{Job}
use Rattle.worker_protocol.specs.declared.sinks.ItemEnd.{ItemEnd}
use Rattle.worker_protocol.specs.declared.sinks.ItemEnd.TheVariants.{Whole, Vanished}
use Rattle.worker_pool.specs.Run.{JobsFault}
use Rattle.worker_pool.specs.declared.dispatch.fault.Lost.{Lost}
use Rattle.worker_pool.specs.declared.dispatch.fault.DispatchFault.{DispatchFault}
use Rattle.worker_pool.specs.declared.dispatch.fault.DispatchFault.TheVariants as dispatch
use Rattle.restore_steps.specs.Clearing.{HasTimed}
use Rattle.restore_steps.specs.declared.contents.files.Wanted.{Wanted}
use Rattle.restore_steps.specs.declared.contents.files.Filed.{Filed}
use Rattle.restore_steps.specs.Files.{temporary_path, is_wanted, wanted_of}
use Rattle.restore_steps.proofs.Listing.{got, either_is, some_within}
use Rattle.restore_make.specs.declared.fault.FillFault.{FillFault}
use Rattle.restore_make.specs.declared.fault.FillFault.TheVariants as faults
use Rattle.worker_pool.specs.Digests.{IsWhole}
use Rattle.restore_make.specs.Written.{AreJobsOf, IsWritten, AllWritten, AllRight, IsFetched, AllFetched}
use Rattle.restore_make.specs.Faults.{found_by, ShowsWrong, HasItsFile, Names, IsWrongFile, WriteFails}
use Rattle.restore_make.proofs.Writes.{get_some, both_by}

-- ---- ends

-- an end that is requested has the number and the digest that are requested
wanted_end : (w : Wanted) (end : Option ItemEnd) (n : ℕ) (sum : Text) → is_wanted w end ≡ true → IsWhole end n sum → (n ≡ w.size) × (sum ≡ w.sum.0)
wanted_end w None n sum is whole = cc
wanted_end w (Some Vanished) n sum is whole = cc
wanted_end w (Some (Whole m s)) n sum is whole =
    let both = and_parts (m == w.size) (bytes_eq s.0 w.sum.0) is in
    let size : (m == w.size) ≡ true = both.0 in
    let num : m ≡ w.size = grind (arith, nat_tests) in
    (sym whole.0 ∙ num, sym whole.1 ∙ (bytes_eq-Decides s.0 w.sum.0).0 both.1)

-- another doesn't have them
other_end : (w : Wanted) (end : Option ItemEnd) (n : ℕ) (sum : Text) → is_wanted w end ≡ false → IsWhole end n sum → n ≡ w.size → sum ≡ w.sum.0 → ⊥
other_end w None n sum is whole size same = absurd whole
other_end w (Some Vanished) n sum is whole size same = absurd whole
other_end w (Some (Whole m s)) n sum is whole size same =
    let num : m ≡ w.size = whole.0 ∙ size in
    let right = both_by (m == w.size) (bytes_eq s.0 w.sum.0) (grind (arith, nat_tests, num)) ((bytes_eq-Decides s.0 w.sum.0).1 (whole.1 ∙ same)) in
    let h : ◌≡◌ {A = Bool} true false = sym right ∙ is in cc

found_is : (end : Option ItemEnd) (known : Sum) (n : ℕ) (sum : Text) → IsWhole end n sum → (found_by end known).0 ≡ sum
found_is None known n sum whole = absurd whole
found_is (Some Vanished) known n sum whole = absurd whole
found_is (Some (Whole m s)) known n sum whole = whole.1

wanted_at : (fs : List Filed) (i : ℕ) (w : Wanted) → slice_get (map wanted_of fs) i ≡ Some w → (f : Filed) × (slice_get fs i ≡ Some f) × (f.wanted ≡ w)
wanted_at [] i w e = cc
wanted_at (f ∷ fs) zero w e = let h : ◌≡◌ {A = Option Wanted} (Some f.wanted) (Some w) = e in (f, refl, cc)
wanted_at (f ∷ fs) (suc i) w e = wanted_at fs i w e

at_wanted : (fs : List Filed) (i : ℕ) (f : Filed) → slice_get fs i ≡ Some f → slice_get (map wanted_of fs) i ≡ Some f.wanted
at_wanted [] i f e = cc
at_wanted (g ∷ fs) zero f e = let h : ◌≡◌ {A = Option Filed} (Some g) (Some f) = e in let same : g ≡ f = cc in ap (λ (x : Filed). Some x.wanted) same
at_wanted (g ∷ fs) (suc i) f e = at_wanted fs i f e

-- ---- files that are there

module _ (links : List LinkState) (nodes : Option Nodes) (jobs : List Job) (ws : List Wanted) (fs : List Filed) (written : AllWritten links nodes jobs ws fs) where
  fetched_by : (o : Option Nodes) (j : Job) (w : Wanted) (f : Filed) → IsWritten links o j f → is_wanted f.wanted f.end ≡ true → f.wanted ≡ w → IfSome o (IsFetched links j w)
  fetched_by None j w f x right is = tt
  fetched_by (Some g) j w f x right is =
      let num = wanted_end f.wanted f.end x.n x.sum right x.ended in
      let put = x.put num.0 num.1 in
      let path : f.wanted.path.now ≡ w.path.now = ap (λ (y : Wanted). y.path.now) is in
      record {
        bytes = x.bytes;
        file = subst (λ (y : Wanted). HasTimed y.path.now x.bytes y.time g) is put.0;
        size = sym x.number ∙ num.0 ∙ ap (λ (y : Wanted). y.size) is;
        sum = sym x.digest ∙ num.1 ∙ ap (λ (y : Wanted). y.sum.0) is;
        item = x.item;
        items = x.items;
        read = x.read;
        alone = subst (λ (p : Text). g (temporary_path p) ≡ None) path put.1;
      }

  pub all_fetched : AllRight fs → AllFetched links nodes jobs ws
  all_fetched right i j w is_j is_w =
      let f = wanted_at fs i w (subst (λ (l : List Wanted). slice_get l i ≡ Some w) (sym written.wanted) is_w) in
      fetched_by nodes j w f.0 (written.each i j f.0 is_j f.1) (right i f.0 f.1) f.2

  -- ---- a file that isn't as requested

  wrong_file : AreJobsOf ws jobs → (path : Text) (known found : Sum) (i : ℕ) (f : Filed) → slice_get fs i ≡ Some f → is_wanted f.wanted f.end ≡ false → path ≡ f.wanted.path.now → known ≡ f.wanted.sum → found ≡ found_by f.end f.wanted.sum
      → IsWrongFile links jobs ws path known found
  wrong_file are path known found i f is_f wrong path_is known_fact_is found_as =
      let count : length fs ≡ length ws = sym (length-map fs wanted_of) ∙ ap (λ (l : List Wanted). length l) written.wanted in
      let j = get_some jobs i (omega (arith, some_within fs i f is_f, count, are.count)) in
      let x = written.each i j.0 f j.1 is_f in
      record {
        place = i;
        wanted = f.wanted;
        wanted_is = subst (λ (l : List Wanted). slice_get l i ≡ Some f.wanted) written.wanted (at_wanted fs i f is_f);
        job = j.0;
        job_is = j.1;
        path_is = path_is;
        known_fact_is = known_fact_is;
        item = x.item;
        items = x.items;
        bytes = x.bytes;
        read = x.read;
        found_is = ap (λ (s : Sum). s.0) found_as ∙ found_is f.end f.wanted.sum x.n x.sum x.ended ∙ x.digest;
        wrong = λ same. other_end f.wanted f.end x.n x.sum wrong x.ended (x.number ∙ same.0) (x.digest ∙ same.1);
      }

  pub checked_fails : AreJobsOf ws jobs → (left : List LinkState) (before after : List Lost) (old new : ℕ) (e : FillFault) → ShowsWrong fs e → WriteFails e jobs ws links left before after old new
  checked_fails are left before after old new (faults.FileDamaged path known found) h = let t = h.4 in wrong_file are (string_bytes path) known found h.0 h.1 h.2 h.3 t.0 t.1 t.2
  checked_fails are left before after old new faults.WorkersLost h = absurd h
  checked_fails are left before after old new (faults.Unread path) h = absurd h
  checked_fails are left before after old new faults.DataFolder h = absurd h
  checked_fails are left before after old new faults.NoMemory h = tt

-- ---- faults of the run, by names

pub has_its : (jobs : List Job) (n : ℕ) (fault : DispatchFault) (links : List LinkState) (before after : List Lost) (old new : ℕ) (left : List LinkState) → n ≡ length jobs → JobsFault jobs fault links before after old new left → HasItsFile fault n
has_its jobs n dispatch.WorkersLost links before after old new left count h = tt
has_its jobs n (dispatch.Unread j item) links before after old new left count h = omega (arith, count, some_within jobs j h.job h.job_is)
has_its jobs n dispatch.PartSink links before after old new left count h = tt
has_its jobs n dispatch.NoMemory links before after old new left count h = tt

pub its_file : (jobs : List Job) (ws : List Wanted) (fault : DispatchFault) (links : List LinkState) (before after : List Lost) (old new : ℕ) (left : List LinkState) → AreJobsOf ws jobs → JobsFault jobs fault links before after old new left → HasItsFile fault (length ws)
its_file jobs ws fault links before after old new left are h = has_its jobs (length ws) fault links before after old new left are.count h

pub named_fails : (jobs : List Job) (ws : List Wanted) (fault : DispatchFault) (links : List LinkState) (before after : List Lost) (old new : ℕ) (left : List LinkState) (e : FillFault) → JobsFault jobs fault links before after old new left → Names ws fault e
    → WriteFails e jobs ws links left before after old new
named_fails jobs ws fault links before after old new left (faults.FileDamaged path known found) h names = absurd names
named_fails jobs ws fault links before after old new left faults.WorkersLost h names = subst (λ (f : DispatchFault). JobsFault jobs f links before after old new left) names h
named_fails jobs ws fault links before after old new left (faults.Unread path) h names = record {
  place = names.0;
  item = names.1;
  wanted = names.2;
  wanted_is = names.4;
  path_is = names.5;
  leaves = subst (λ (f : DispatchFault). JobsFault jobs f links before after old new left) names.3 h;
}
named_fails jobs ws fault links before after old new left faults.DataFolder h names = subst (λ (f : DispatchFault). JobsFault jobs f links before after old new left) names h
named_fails jobs ws fault links before after old new left faults.NoMemory h names = tt

-- ---- going through files

-- one more file ended as requested
pub one_more_right : (fs : List Filed) (n : ℕ) (x : Filed) → n < length fs → x ≡ get_or fs n x → is_wanted x.wanted x.end ≡ true → ((k : ℕ) (f : Filed) → k < n → slice_get fs k ≡ Some f → is_wanted f.wanted f.end ≡ true)
    → (k : ℕ) (f : Filed) → k < n + 1 → slice_get fs k ≡ Some f → is_wanted f.wanted f.end ≡ true
one_more_right fs n x lt is here before k f less is_f = ⊎_elim
    (λ (e : k ≡ n).
    let at_n : slice_get fs n ≡ Some x = got fs n x lt is in
    let both : ◌≡◌ {A = Option Filed} (Some x) (Some f) = sym at_n ∙ ap (slice_get fs) (sym e) ∙ is_f in
    let same : x ≡ f = cc in
    subst (λ (y : Filed). is_wanted y.wanted y.end ≡ true) same here)
    (λ (off : k ≢ n). before k f (omega (arith, less, off)) is_f)
    (either_is k n)
