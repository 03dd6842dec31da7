-- An item that ended, and its bytes.
use Rattle.std.proofs.Common.{◌≡◌, ◌==◌, ◌<◌, ℕ, zero, suc, Bool, List, [], ◌∷◌, length, take, Option, Some, None, refl, sym, ◌∙◌, ap, subst, arith, slice_get}
use Rattle.std.proofs.Math.Dec.{eqb-suc-zero}
use Rattle.std.specs.Prelude.{option_and_then, unwrap_or, if◌then◌else◌}
use Rattle.sha1.specs.Sha1.{sha1}
use Rattle.base_text.specs.declared.sum.Sum.{Sum}
use Rattle.base_devices.specs.Content.{Name}
use Rattle.base_model.specs.declared.labels.Label.{Label}
use Rattle.base_model.specs.declared.files.Bundled.{Bundled}
use Rattle.base_model.specs.Text.{Text}
use Rattle.base_model.specs.Values.{FileEntry}
use Rattle.base_model.specs.Place.{place}
use Rattle.worker_protocol.specs.declared.sinks.ItemEnd.{ItemEnd}
use Rattle.worker_protocol.specs.declared.sinks.ItemEnd.TheVariants.{Whole, Vanished}
use Rattle.worker_protocol.specs.PartSinkState.{Done, JobItems}
use Rattle.backup_sink.specs.declared.keeper.EndedItem.{EndedItem}
use Rattle.backup_sink.specs.Keeping.{total}
use Rattle.backup_sink.specs.Placed.{held_sum}
use Rattle.backup_plan.specs.Listed.{Taken}
use Rattle.backup_record.specs.Ends.{end_at, bytes_before, AreEnds, AreAllEnds, AreReceived}
use Rattle.backup_record.specs.Entries.{read_entry, copied, known_at}
use Rattle.backup_record.specs.Item.{IsItem}

-- the item of a job, in what is held
record IsAt (es : List EndedItem) (ds : List Done) (item : ℕ) (end : EndedItem) : Type 0 where
  done : Done
  is : slice_get ds item ≡ Some done
  how : done.end ≡ end.how
  before : held_sum (take item ds) ≡ total (take item es)

at_item : (es : List EndedItem) (ds : List Done) (item : ℕ) (end : EndedItem) → AreEnds es ds → slice_get es item ≡ Some end → IsAt es ds item end
at_item [] ds item end are is = absurd (let x : ◌≡◌ {A = Option EndedItem} None (Some end) = is in cc)
at_item (e ∷ es) [] item end are is = absurd are
at_item (e ∷ es) (d ∷ ds) zero end are is =
    let same : e ≡ end = (let x : ◌≡◌ {A = Option EndedItem} (Some e) (Some end) = is in cc) in
    record { done = d; is = refl; how = are.1 ∙ ap (λ (x : EndedItem). x.how) same; before = refl }
at_item (e ∷ es) (d ∷ ds) (suc item) end are is =
    let r = at_item es ds item end are.2 is in
    let count = are.0 in
    let rest = r.before in
    record { done = r.done; is = r.is; how = r.how; before = omega (arith, count, rest) }

pub record IsHeld (ends : List (List EndedItem)) (kept : List JobItems) (job item : ℕ) (end : EndedItem) : Type 0 where
  pub of : JobItems
  of_is : slice_get kept job ≡ Some of
  done : Done
  is : slice_get of.done item ≡ Some done
  how : done.end ≡ end.how
  before : held_sum (take item of.done) ≡ bytes_before ends job item

at_job : (ends : List (List EndedItem)) (kept : List JobItems) (job item : ℕ) (end : EndedItem) → AreAllEnds ends kept → end_at ends job item ≡ Some end → IsHeld ends kept job item end
at_job [] kept job item end are is = absurd (let x : ◌≡◌ {A = Option EndedItem} None (Some end) = is in cc)
at_job (es ∷ ess) [] job item end are is = absurd are
at_job (es ∷ ess) (k ∷ ks) zero item end are is =
    let r = at_item es k.done item end are.0 is in
    record { of = k; of_is = refl; done = r.done; is = r.is; how = r.how; before = r.before }
at_job (es ∷ ess) (k ∷ ks) (suc job) item end are is =
    let r = at_job ess ks job item end are.1 is in
    record { of = r.of; of_is = r.of_is; done = r.done; is = r.is; how = r.how; before = r.before }

pub known_fact_is : (kept : List JobItems) (job item : ℕ) (k : JobItems) (d : Done) (bytes : Text) → slice_get kept job ≡ Some k → slice_get k.done item ≡ Some d → d.held.known ≡ Some bytes → known_at kept job item ≡ bytes
known_fact_is kept job item k d bytes a b c =
    ap (λ (o : Option JobItems). unwrap_or (option_and_then (λ (k : JobItems). option_and_then (λ (d : Done). d.held.known) (slice_get k.done item)) o) []) a
    ∙ ap (λ (o : Option Done). unwrap_or (option_and_then (λ (d : Done). d.held.known) o) []) b
    ∙ ap (λ (o : Option Text). unwrap_or o []) c

-- a file that was read has its end, its time, and its place where something was received
pub record IsRead (f : Taken) (at : Option Bundled) (how : ItemEnd) (e : FileEntry) : Type 0 where
  pub number : ℕ
  pub sum : Sum
  pub how_is : how ≡ Whole number sum
  pub path : e.path ≡ f.path
  pub size : e.size ≡ number
  pub time : e.time ≡ f.time
  pub sum_is : e.sum ≡ sum.0
  pub own : e.reference ≡ None
  pub bundle : 0 < number → e.bundle ≡ at
  pub none : number ≡ 0 → e.bundle ≡ None

no_zero : {X : Type 0} (n : ℕ) (x y : X) → 0 < n → (if n == 0 then x else y) ≡ y
no_zero zero x y h = absurd (omega (arith, h))
no_zero (suc n) x y h = ap (λ (b : Bool). if b then x else y) (eqb-suc-zero n)

is_zero : {X : Type 0} (n : ℕ) (x y : X) → n ≡ 0 → (if n == 0 then x else y) ≡ x
is_zero zero x y h = refl
is_zero (suc n) x y h = absurd (omega (arith, h))

pub read_is : (f : Taken) (at : Option Bundled) (how : ItemEnd) (e : FileEntry) → read_entry f at how ≡ Some e → IsRead f at how e
read_is f at Vanished e is = absurd (let x : ◌≡◌ {A = Option FileEntry} None (Some e) = is in cc)
read_is f at (Whole n sum) e is =
    let made : FileEntry = record { path = f.path; size = n; time = f.time; sum = sum.0; reference = None; bundle = if n == 0 then None else at } in
    let same : made ≡ e = (let x : ◌≡◌ {A = Option FileEntry} (Some made) (Some e) = is in cc) in
    record {
      number = n;
      sum = sum;
      how_is = refl;
      path = ap (λ (x : FileEntry). x.path) (sym same);
      size = ap (λ (x : FileEntry). x.size) (sym same);
      time = ap (λ (x : FileEntry). x.time) (sym same);
      sum_is = ap (λ (x : FileEntry). x.sum) (sym same);
      own = ap (λ (x : FileEntry). x.reference) (sym same);
      bundle = λ some. ap (λ (x : FileEntry). x.bundle) (sym same) ∙ no_zero n None at some;
      none = λ zero_is. ap (λ (x : FileEntry). x.bundle) (sym same) ∙ is_zero n None at zero_is;
    }

pub copied_is : (f : Taken) (at : Option Bundled) (end : Option EndedItem) (e : FileEntry) → copied f at end ≡ Some e → (x : EndedItem) × (end ≡ Some x) × IsRead f at x.how e
copied_is f at None e is = absurd (let x : ◌≡◌ {A = Option FileEntry} None (Some e) = is in cc)
copied_is f at (Some x) e is = (x, refl, read_is f at x.how e is)

-- what is known of the entry of an item
pub record IsOwn (stanza : Text) (label : Label) (names : List Name) (kept : List JobItems) (e : FileEntry) (bytes : Text) : Type 0 where
  pub own : e.reference ≡ None
  pub size : e.size ≡ length bytes
  pub sum : e.sum ≡ sha1 bytes
  pub item : IsItem stanza label names kept e bytes

pub own_item : (stanza : Text) (label : Label) (names : List Name) (ends : List (List EndedItem)) (kept : List JobItems) (f : Taken) (at : Option Bundled) (job item : ℕ) (name : Name) (e : FileEntry)
    → AreAllEnds ends kept → AreReceived kept → slice_get names job ≡ Some name → copied f at (end_at ends job item) ≡ Some e
    → (e.reference ≡ None → e.path ≡ f.path → (0 < e.size → e.bundle ≡ at) → 0 < e.size → place stanza label e ≡ (name, bytes_before ends job item))
    → IsOwn stanza label names kept e (known_at kept job item)
own_item stanza label names ends kept f at job item name e are got named is lies =
    let c = copied_is f at (end_at ends job item) e is in
    let r = c.2 in
    let h = at_job ends kept job item c.0 are c.1 in
    let how : h.done.end ≡ Whole r.number r.sum = h.how ∙ r.how_is in
    let g = got job item h.of h.done r.number r.sum h.of_is h.is how in
    let known : known_at kept job item ≡ g.0 = known_fact_is kept job item h.of h.done g.0 h.of_is h.is g.1.known in
    let bundle : 0 < e.size → e.bundle ≡ at = λ some. r.bundle (subst (λ (n : ℕ). 0 < n) r.size some) in
    subst (λ (bytes : Text). IsOwn stanza label names kept e bytes) (sym known) (record {
      own = r.own;
      size = r.size ∙ g.1.number;
      sum = r.sum_is ∙ g.1.digest;
      item = record {
        job = job;
        item = item;
        name = name;
        of = h.of;
        done = h.done;
        name_is = named;
        of_is = h.of_is;
        done_is = h.is;
        known = g.1.known;
        sum = r.sum;
        end = how ∙ ap (λ (n : ℕ). Whole n r.sum) (sym r.size);
        sum_is = r.sum_is;
        at = λ some. lies r.own r.path bundle some ∙ ap (λ (n : ℕ). (name, n)) (sym h.before);
      };
    })
