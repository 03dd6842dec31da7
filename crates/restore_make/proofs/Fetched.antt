-- One file that is read and written; and one that gets its own name last.
use Rattle.std.proofs.Common.{ℕ, zero, suc, ◌≡◌, ◌≢◌, inl, inr, ◌<◌, refl, sym, ap, ◌∙◌, subst, arith, List, [], ◌∷◌, Option, Some, None, option_map, slice_get}
use Rattle.std.specs.Prelude.{IfSome, OnErr, Result, Ok, Err}
use Rattle.base_devices.specs.Content.{at}
use Rattle.base_devices.specs.Links.{LinkState}
use Rattle.base_devices.specs.DataFolder.{Nodes, Held, with_node, moved_node}
use Rattle.base_text.specs.declared.sum.Sum.{Sum}
use Rattle.base_model.specs.declared.labels.Label.{Label}
use Rattle.base_model.specs.Text.{Text}
use Rattle.base_model.specs.Values.{FileEntry}
use Rattle.worker_protocol.specs.Frames.{Item, Job}
use Rattle.worker_pool.specs.declared.dispatch.fault.Lost.{Lost}
use Rattle.restore_steps.specs.declared.contents.files.Wanted.{Wanted}
use Rattle.restore_steps.specs.Files.{temporary_path}
use Rattle.restore_steps.specs.Apart.{AreApart}
use Rattle.restore_steps.specs.Keeping.{IsNoneOf}
use Rattle.restore_steps.specs.Clearing.{HasTimed}
use Rattle.restore_steps.proofs.Nodes.{set_other, set_same}
use Rattle.restore_steps.specs.Sources.{source, reading, IsEntry}
use Rattle.restore_make.specs.declared.fault.FillFault.{FillFault}
use Rattle.restore_make.specs.declared.fault.FillFault.TheVariants as faults
use Rattle.restore_make.specs.Written.{IsJobOf, AreJobsOf, IsReadOf, IsFetched}
use Rattle.restore_make.specs.Finished.{HasEntry, IsAway}
use Rattle.restore_make.specs.Faults.{WriteFails, FillFails, Renames}
use Rattle.restore_make.proofs.Names.{not_temporary}
use Rattle.restore_make.proofs.Filled.{one_left, the_one, all_gone}

pub one_apart : (p : Text) → AreApart (p ∷ [])
one_apart p = record { once = first; lasting = last }
  where
    first : (i j : ℕ) (q : Text) → slice_get (p ∷ []) i ≡ Some q → slice_get (p ∷ []) j ≡ Some q → i ≡ j
    first zero zero q a b = refl
    first zero (suc j) q a b = cc
    first (suc i) zero q a b = cc
    first (suc i) (suc j) q a b = cc

    last : (i j : ℕ) (q r : Text) → slice_get (p ∷ []) i ≡ Some q → slice_get (p ∷ []) j ≡ Some r → q ≢ temporary_path r
    last zero zero q r a b e =
        let h : ◌≡◌ {A = Option Text} (Some p) (Some q) = a in
        let k : ◌≡◌ {A = Option Text} (Some p) (Some r) = b in
        let x : p ≡ q = cc in
        let y : p ≡ r = cc in
        not_temporary p (x ∙ e ∙ ap temporary_path (sym y))
    last zero (suc j) q r a b e = cc
    last (suc i) zero q r a b e = cc
    last (suc i) (suc j) q r a b e = cc

pub one_job : (w : Wanted) (j : Job) → IsJobOf w j → AreJobsOf (w ∷ []) (j ∷ [])
one_job w j is = record { count = refl; each = go }
  where
    go : (i : ℕ) (x : Wanted) (k : Job) → slice_get (w ∷ []) i ≡ Some x → slice_get (j ∷ []) i ≡ Some k → IsJobOf x k
    go zero x k a b =
        let h : ◌≡◌ {A = Option Wanted} (Some w) (Some x) = a in
        let m : ◌≡◌ {A = Option Job} (Some j) (Some k) = b in
        let same : w ≡ x = cc in
        let same_job : j ≡ k = cc in
        subst (λ (y : Wanted). IsJobOf y k) same (subst (λ (l : Job). IsJobOf w l) same_job is)
    go (suc i) x k a b = cc

pub one_none : (w : Wanted) (q : Text) → q ≢ w.path.now → q ≢ temporary_path w.path.now → IsNoneOf (w ∷ []) q
one_none w q off off_temp x (inl e) = (λ is. off (is ∙ ap (λ (y : Wanted). y.path.now) e), λ is. off_temp (is ∙ ap (λ (y : Wanted). temporary_path y.path.now) e))
one_none w q off off_temp x (inr i) = absurd i

-- a fetched file is an entry's
pub entry_fetched : (stanza : Text) (own : Label) (links : List LinkState) (e : FileEntry) (j : Job) (w : Wanted) (path : Text) (o : Option Nodes) → j.items ≡ source stanza own e ∷ [] → w.path.now ≡ path → w.size ≡ e.size → w.sum.0 ≡ e.sum → w.time ≡ e.time → IfSome o (IsFetched links j w) → IfSome o (HasEntry stanza own links e path)
entry_fetched stanza own links e j w path None items is size sum time x = tt
entry_fetched stanza own links e j w path (Some g) items is size sum time x =
    let item : x.item ≡ source stanza own e = (let h : ◌≡◌ {A = List Item} (x.item ∷ []) (source stanza own e ∷ []) = sym x.items ∙ items in cc) in
    record {
      bytes = x.bytes;
      file = subst (λ (p : Text). HasTimed p x.bytes e.time g) is (subst (λ (n : ℕ). HasTimed w.path.now x.bytes n g) time x.file);
      are = (x.size ∙ size, x.sum ∙ sum);
      read = λ some. subst (λ (i : Item). IsReadOf links i x.bytes) item x.read;
    }

-- one of no bytes that was begun
pub entry_begun : (stanza : Text) (own : Label) (links : List LinkState) (e : FileEntry) (path : Text) (o : Option Nodes) → IsEntry e → e.size ≡ 0 → IfSome o (HasTimed path [] e.time) → IfSome o (HasEntry stanza own links e path)
entry_begun stanza own links e path None entry none has = tt
entry_begun stanza own links e path (Some g) entry none has = record { bytes = []; file = has; are = (sym none, sym (entry.1.empty none).0); read = λ some. absurd (omega (arith, some, none)) }

-- it gets another name
pub entry_moved : (stanza : Text) (own : Label) (links : List LinkState) (e : FileEntry) (from to : Text) (o new : Option Nodes) → IfSome o (HasEntry stanza own links e from) → new ≡ option_map (moved_node from to) o → IfSome new (HasEntry stanza own links e to)
entry_moved stanza own links e from to o new has is = subst (λ (x : Option Nodes). IfSome x (HasEntry stanza own links e to)) (sym is) (go o has)
  where
    go : (x : Option Nodes) → IfSome x (HasEntry stanza own links e from) → IfSome (option_map (moved_node from to) x) (HasEntry stanza own links e to)
    go None h = tt
    go (Some g) h = record { bytes = h.bytes; file = set_same to (g from) (with_node from None g) ∙ h.file; are = h.are; read = h.read }

pub moved_at : (from to q : Text) (o new : Option Nodes) → q ≢ from → q ≢ to → new ≡ option_map (moved_node from to) o → at q new ≡ at q o
moved_at from to q o new off off_to is = ap (at q) is ∙ go o
  where
    go : (x : Option Nodes) → at q (option_map (moved_node from to) x) ≡ at q x
    go None = refl
    go (Some g) = ap (λ (v : Option Held). Some v) (set_other to (g from) (with_node from None g) q off_to ∙ set_other from None g q off)

pub away_fetched : (links : List LinkState) (j : Job) (w : Wanted) (path : Text) (o : Option Nodes) → w.path.now ≡ path → IfSome o (IsFetched links j w) → IfSome o (λ f. f (temporary_path path) ≡ None)
away_fetched links j w path None is x = tt
away_fetched links j w path (Some g) is x = subst (λ (p : Text). g (temporary_path p) ≡ None) is x.alone

-- a path where nothing is
pub away_still : (q : Text) (old new : Option Nodes) → at q new ≡ at q old → IsAway q old → IsAway q new
away_still q old None same away = tt
away_still q None (Some g) same away = let h : ◌≡◌ {A = Option (Option Held)} (Some (g q)) None = same in cc
away_still q (Some f) (Some g) same away = let h : ◌≡◌ {A = Option (Option Held)} (Some (g q)) (Some (f q)) = same in let one : g q ≡ f q = cc in one ∙ away

pub on_err : {A E : Type 0} (r : Result A E) (P : Type 0) → P → OnErr r P
on_err (Ok x) P p = tt
on_err (Err e) P p = p

pub on_err_more : {A E : Type 0} (r : Result A E) (P Q : Type 0) → (P → Q) → OnErr r P → OnErr r Q
on_err_more (Ok x) P Q to p = tt
on_err_more (Err e) P Q to p = to p

-- ---- one job

pub one_want : (e : FileEntry) (j : Job) (w : Wanted) (stanza : Text) (own : Label) → j ≡ reading stanza own e → w.size ≡ e.size → 0 < e.size → IsJobOf w j
one_want e j w stanza own is size some = record {
  item = source stanza own e;
  items = ap (λ (x : Job). x.items) is;
  kind = ap (λ (x : Job). x.kind) is;
  root = refl;
  size = sym size;
  some = subst (λ (n : ℕ). 0 < n) (sym size) some;
}

at_first : {A : Type 0} (x : A) (i : ℕ) (y : A) → slice_get (x ∷ []) i ≡ Some y → x ≡ y
at_first {A} x zero y e = let h : ◌≡◌ {A = Option A} (Some x) (Some y) = e in cc
at_first x (suc i) y e = cc

module _ (stanza : Text) (own : Label) (e : FileEntry) (j : Job) (w : Wanted) (job : j ≡ reading stanza own e) (size : w.size ≡ e.size) (sum : w.sum.0 ≡ e.sum) where
  -- why it wasn't fetched, by the entry's own name
  pub fetch_fails : (links left : List LinkState) (before after : List Lost) (old new : ℕ) (fault named : FillFault) → WriteFails fault (j ∷ []) (w ∷ []) links left before after old new → Renames e.path fault named
      → FillFails named stanza own (e ∷ []) links left before after old new
  fetch_fails links left before after old new (faults.FileDamaged waiting known found) (faults.FileDamaged path known' found') x r =
      let same : w ≡ x.wanted = at_first w x.place x.wanted x.wanted_is in
      let its : j ≡ x.job = at_first j x.place x.job x.job_is in
      let item : x.item ≡ source stanza own e = (let h : ◌≡◌ {A = List Item} (x.item ∷ []) (source stanza own e ∷ []) = sym x.items ∙ ap (λ (k : Job). k.items) (sym its ∙ job) in cc) in
      record {
        entry = e;
        listed = inl refl;
        path_is = r.0;
        known_fact_is = ap (λ (s : Sum). s.0) (r.1 ∙ x.known_fact_is) ∙ ap (λ (y : Wanted). y.sum.0) (sym same) ∙ sum;
        bytes = x.bytes;
        read = subst (λ (i : Item). IsReadOf links i x.bytes) item x.read;
        found_is = ap (λ (s : Sum). s.0) r.2 ∙ x.found_is;
        wrong = λ are. x.wrong (are.0 ∙ sym size ∙ ap (λ (y : Wanted). y.size) same, are.1 ∙ sym sum ∙ ap (λ (y : Wanted). y.sum.0) same);
      }
  fetch_fails links left before after old new (faults.Unread waiting) (faults.Unread path) x r =
      let leaves = x.leaves in
      let its : j ≡ leaves.job = at_first j x.place leaves.job leaves.job_is in
      record {
        entry = e;
        listed = inl refl;
        path_is = r;
        now = leaves.now;
        is = one_left left leaves.now leaves.is;
        given = leaves.given;
        link = leaves.link;
        from = leaves.from;
        from_is = leaves.from_is;
        unread = the_one (source stanza own e) leaves.from.known leaves.job.items x.item (ap (λ (k : Job). k.items) (sym its ∙ job)) leaves.within leaves.unread;
      }
  fetch_fails links left before after old new faults.WorkersLost faults.WorkersLost x r = all_gone (j ∷ []) links before after x
  fetch_fails links left before after old new faults.DataFolder faults.DataFolder x r = x
  fetch_fails links left before after old new faults.NoMemory faults.NoMemory x r = tt
  fetch_fails links left before after old new (faults.FileDamaged waiting known found) faults.WorkersLost x r = absurd r
  fetch_fails links left before after old new (faults.FileDamaged waiting known found) (faults.Unread path) x r = absurd r
  fetch_fails links left before after old new (faults.FileDamaged waiting known found) faults.DataFolder x r = absurd r
  fetch_fails links left before after old new (faults.FileDamaged waiting known found) faults.NoMemory x r = absurd r
  fetch_fails links left before after old new faults.WorkersLost (faults.FileDamaged path known' found') x r = absurd r
  fetch_fails links left before after old new faults.WorkersLost (faults.Unread path) x r = absurd r
  fetch_fails links left before after old new faults.WorkersLost faults.DataFolder x r = absurd r
  fetch_fails links left before after old new faults.WorkersLost faults.NoMemory x r = absurd r
  fetch_fails links left before after old new (faults.Unread waiting) (faults.FileDamaged path known' found') x r = absurd r
  fetch_fails links left before after old new (faults.Unread waiting) faults.WorkersLost x r = absurd r
  fetch_fails links left before after old new (faults.Unread waiting) faults.DataFolder x r = absurd r
  fetch_fails links left before after old new (faults.Unread waiting) faults.NoMemory x r = absurd r
  fetch_fails links left before after old new faults.DataFolder (faults.FileDamaged path known' found') x r = absurd r
  fetch_fails links left before after old new faults.DataFolder faults.WorkersLost x r = absurd r
  fetch_fails links left before after old new faults.DataFolder (faults.Unread path) x r = absurd r
  fetch_fails links left before after old new faults.DataFolder faults.NoMemory x r = absurd r
  fetch_fails links left before after old new faults.NoMemory (faults.FileDamaged path known' found') x r = absurd r
  fetch_fails links left before after old new faults.NoMemory faults.WorkersLost x r = absurd r
  fetch_fails links left before after old new faults.NoMemory (faults.Unread path) x r = absurd r
  fetch_fails links left before after old new faults.NoMemory faults.DataFolder x r = absurd r
