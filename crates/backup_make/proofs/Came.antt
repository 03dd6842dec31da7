-- What the links gave of the jobs is the result of them.
use Rattle.std.proofs.Common.{◌≡◌, inl, inr, ℕ, zero, suc, List, [], ◌∷◌, length, take, drop, Option, Some, None, refl, sym, ◌∙◌, ap, subst, arith, slice_get}
use Rattle.std.specs.Prelude.{IfSome, IsSome}
use Rattle.sha1.specs.Sha1.{sha1}
use Rattle.base_text.specs.declared.sum.Sum.{Sum}
use Rattle.base_devices.specs.Content.{Name, Content}
use Rattle.base_devices.specs.Links.{LinkState, Modelled}
use Rattle.base_model.specs.Text.{Text}
use Rattle.worker_protocol.specs.declared.frames.frames.JobKind.{JobKind}
use Rattle.worker_protocol.specs.declared.frames.frames.JobKind.TheVariants.{Read}
use Rattle.worker_protocol.specs.Frames.{Item, Job}
use Rattle.worker_protocol.specs.declared.sinks.ItemEnd.{ItemEnd}
use Rattle.worker_protocol.specs.declared.sinks.ItemEnd.TheVariants.{Whole, Vanished}
use Rattle.worker_protocol.specs.PartSinkState.{Held, Done, JobItems, Holds}
use Rattle.worker_pool.specs.Reads.{AllEnd, EndsAs, EndsWhole}
use Rattle.worker_pool.specs.Run.{AllDone, EndedBy}
use Rattle.backup_sink.specs.declared.keeper.EndedItem.{EndedItem}
use Rattle.backup_sink.specs.Keeping.{Progress, dones, job_bytes, kept_of, keeps}
use Rattle.backup_record.proofs.Coming.{AreReads}
use Rattle.backup_record.specs.Ends.{AreEnds, AreAllEnds, AreReceived, IsReceived, ComesAs, AllCome, JobsCome}

-- ---- a job

came_as : (from : Option Modelled) (x : Item) (held : Held) (how : ItemEnd) (count : ℕ) → held.count ≡ count → EndsAs from Read x held how → ComesAs x count how
came_as from x held (Whole n sum) count same h =
    let number = h.sums.number in
    let holds = h.holds.0 in
    let size = h.size in
    record { bytes = h.bytes; number = h.sums.number; digest = h.sums.digest; counted = omega (arith, same, number, holds); within = omega (arith, number, size) }
came_as from x held Vanished count same h = let none = h.0.0 in omega (arith, same, none)

all_came : (from : Option Modelled) (xs : List Item) (ds : List Done) (es : List EndedItem) → AllEnd from Read xs ds → AreEnds es ds → AllCome xs es
all_came from [] [] [] all are = tt
all_came from [] [] (e ∷ es) all are = absurd are
all_came from [] (d ∷ ds) es all are = absurd all
all_came from (x ∷ xs) [] es all are = absurd all
all_came from (x ∷ xs) (d ∷ ds) [] all are = absurd are
all_came from (x ∷ xs) (d ∷ ds) (e ∷ es) all are = (
  subst (λ (how : ItemEnd). ComesAs x e.count how) are.1 (came_as from x d.held d.end e.count are.0 all.0),
  all_came from xs ds es all.1 are.2,
)

-- the result of each job
pub jobs_came : (jobs : List Job) (links : List LinkState) (kept : List JobItems) (ends : List (List EndedItem)) → AreReads jobs → length kept ≡ length jobs → AllDone jobs links kept → AreAllEnds ends kept → JobsCome jobs ends
jobs_came [] links [] [] reads same done are = tt
jobs_came [] links [] (es ∷ ess) reads same done are = absurd are
jobs_came [] links (k ∷ ks) ends reads same done are = absurd (omega (arith, same))
jobs_came (j ∷ js) links [] ends reads same done are = absurd (omega (arith, same))
jobs_came (j ∷ js) links (k ∷ ks) [] reads same done are = absurd are
jobs_came (j ∷ js) links (k ∷ ks) (es ∷ ess) reads same done are =
    let e : EndedBy links j k = done 0 j refl in (
      all_came e.from.known j.items k.done es (subst (λ (kind : JobKind). AllEnd e.from.known kind j.items k.done) (reads j (inl refl)) e.items) are.0,
      jobs_came js links ks ess (λ x i. reads x (inr i)) (omega (arith, same)) (λ i x is. done (suc i) x is) are.1,
    )

-- ---- the bytes

-- the bytes of each item that ended are known
abbrev pub AreKnown : List JobItems → Type 0
AreKnown kept = (j i : ℕ) (k : JobItems) (d : Done) → slice_get kept j ≡ Some k → slice_get k.done i ≡ Some d → IsSome d.held.known

dones_known : (es : List EndedItem) (b : Text) (i : ℕ) (d : Done) → slice_get (dones es (Some b)) i ≡ Some d → IsSome d.held.known
dones_known [] b i d is = absurd (let e : ◌≡◌ {A = Option Done} None (Some d) = is in cc)
dones_known (e ∷ es) b zero d is =
    let made : Done = record { held = record { count = e.count; known = Some (take e.count b) }; end = e.how } in
    let same : made ≡ d = (let x : ◌≡◌ {A = Option Done} (Some made) (Some d) = is in cc) in
    subst (λ (x : Done). IsSome x.held.known) same refl
dones_known (e ∷ es) b (suc i) d is = dones_known es (drop e.count b) i d is

keeps_known : (names : List Name) (ps : List Progress) (f : Content) → AreKnown (keeps names ps (Some f))
keeps_known [] ps f j i k d is in_k = absurd (let e : ◌≡◌ {A = Option JobItems} None (Some k) = is in cc)
keeps_known (n ∷ ns) [] f j i k d is in_k = absurd (let e : ◌≡◌ {A = Option JobItems} None (Some k) = is in cc)
keeps_known (n ∷ ns) (p ∷ ps) f zero i k d is in_k = by (job_bytes p (Some (f n))) refl
  where
    by : (o : Option Text) → job_bytes p (Some (f n)) ≡ o → IsSome d.held.known
    by None e = absurd (let x : ◌≡◌ {A = Option Text} (job_bytes p (Some (f n))) None = e in cc)
    by (Some b) e =
        let here : kept_of p (Some (f n)) ≡ k = (let x : ◌≡◌ {A = Option JobItems} (Some (kept_of p (Some (f n)))) (Some k) = is in cc) in
        let same : dones p.ended (Some b) ≡ k.done = ap (dones p.ended) (sym e) ∙ ap (λ (y : JobItems). y.done) here in
        dones_known p.ended b i d (ap (λ (ds : List Done). slice_get ds i) same ∙ in_k)
keeps_known (n ∷ ns) (p ∷ ps) f (suc j) i k d is in_k = keeps_known ns ps f j i k d is in_k

pub known_of : (names : List Name) (ps : List Progress) (now : Option Content) → IsSome now → AreKnown (keeps names ps now)
known_of names ps None known = cc
known_of names ps (Some f) known = keeps_known names ps f

-- these are the bytes that were received
received_as : (from : Option Modelled) (x : Item) (held : Held) (how : ItemEnd) (n : ℕ) (sum : Sum) → IsSome held.known → how ≡ Whole n sum → EndsAs from Read x held how → (bytes : Text) × (held.known ≡ Some bytes) × (n ≡ length bytes) × (sum.0 ≡ sha1 bytes)
received_as from x held how n sum known is ends = by held.known refl known
  where
    w : EndsWhole from x held n sum.0
    w = subst (λ (h : ItemEnd). EndsAs from Read x held h) is ends

    by : (o : Option Text) → held.known ≡ o → IsSome o → (bytes : Text) × (held.known ≡ Some bytes) × (n ≡ length bytes) × (sum.0 ≡ sha1 bytes)
    by None e s = cc
    by (Some t) e s =
        let same : t ≡ w.bytes = (let h : IfSome (Some t) (λ u. u ≡ w.bytes) = subst (λ (v : Option Text). IfSome v (λ u. u ≡ w.bytes)) e w.holds.1 in h) in
        (t, e, w.sums.number ∙ ap (λ (u : Text). length u) (sym same), w.sums.digest ∙ ap sha1 (sym same))

item_received : (from : Option Modelled) (xs : List Item) (ds : List Done) (i : ℕ) (d : Done) (n : ℕ) (sum : Sum) → AllEnd from Read xs ds → slice_get ds i ≡ Some d → IsSome d.held.known → d.end ≡ Whole n sum → (bytes : Text) × IsReceived d n sum.0 bytes
item_received from [] [] i d n sum all is known end = absurd (let e : ◌≡◌ {A = Option Done} None (Some d) = is in cc)
item_received from [] (y ∷ ds) i d n sum all is known end = absurd all
item_received from (x ∷ xs) [] i d n sum all is known end = absurd all
item_received from (x ∷ xs) (y ∷ ds) zero d n sum all is known end =
    let same : y ≡ d = (let e : ◌≡◌ {A = Option Done} (Some y) (Some d) = is in cc) in
    let r = received_as from x d.held d.end n sum known end (subst (λ (z : Done). EndsAs from Read x z.held z.end) same all.0) in
    (r.0, record { known = r.1; number = r.2; digest = r.3 })
item_received from (x ∷ xs) (y ∷ ds) (suc i) d n sum all is known end = item_received from xs ds i d n sum all.1 is known end

pub received : (jobs : List Job) (links : List LinkState) (kept : List JobItems) → AreReads jobs → length kept ≡ length jobs → AllDone jobs links kept → AreKnown kept → AreReceived kept
received [] links [] reads same done known j i k d n sum is in_k end = absurd (let e : ◌≡◌ {A = Option JobItems} None (Some k) = is in cc)
received [] links (x ∷ ks) reads same done known j i k d n sum is in_k end = absurd (omega (arith, same))
received (w ∷ js) links [] reads same done known j i k d n sum is in_k end = absurd (omega (arith, same))
received (w ∷ js) links (x ∷ ks) reads same done known zero i k d n sum is in_k end =
    let e : EndedBy links w x = done 0 w refl in
    let here : x ≡ k = (let z : ◌≡◌ {A = Option JobItems} (Some x) (Some k) = is in cc) in
    item_received e.from.known w.items x.done i d n sum (subst (λ (kind : JobKind). AllEnd e.from.known kind w.items x.done) (reads w (inl refl)) e.items) (ap (λ (z : JobItems). slice_get z.done i) here ∙ in_k) (known 0 i k d is in_k) end
received (w ∷ js) links (x ∷ ks) reads same done known (suc j) i k d n sum is in_k end =
    received js links ks (λ y m. reads y (inr m)) (omega (arith, same)) (λ m y e. done (suc m) y e) (λ a b c e f g. known (suc a) b c e f g) j i k d n sum is in_k end

-- ---- as many bytes as are held

held_of : (from : Option Modelled) (x : Item) (held : Held) (how : ItemEnd) → EndsAs from Read x held how → (t : Text) × Holds held t
held_of from x held (Whole n sum) h = (h.bytes, h.holds)
held_of from x held Vanished h = ([], h.0)

item_count : (from : Option Modelled) (xs : List Item) (ds : List Done) (i : ℕ) (d : Done) (bytes : Text) → AllEnd from Read xs ds → slice_get ds i ≡ Some d → d.held.known ≡ Some bytes → d.held.count ≡ length bytes
item_count from [] [] i d bytes all is known = absurd (let e : ◌≡◌ {A = Option Done} None (Some d) = is in cc)
item_count from [] (y ∷ ds) i d bytes all is known = absurd all
item_count from (x ∷ xs) [] i d bytes all is known = absurd all
item_count from (x ∷ xs) (y ∷ ds) zero d bytes all is known =
    let same : y ≡ d = (let e : ◌≡◌ {A = Option Done} (Some y) (Some d) = is in cc) in
    let h = held_of from x d.held d.end (subst (λ (z : Done). EndsAs from Read x z.held z.end) same all.0) in
    let t : bytes ≡ h.0 = (let k : IfSome (Some bytes) (λ u. u ≡ h.0) = subst (λ (v : Option Text). IfSome v (λ u. u ≡ h.0)) known h.1.1 in k) in
    h.1.0 ∙ ap (λ (u : Text). length u) (sym t)
item_count from (x ∷ xs) (y ∷ ds) (suc i) d bytes all is known = item_count from xs ds i d bytes all.1 is known

pub counts : (jobs : List Job) (links : List LinkState) (kept : List JobItems) → AreReads jobs → length kept ≡ length jobs → AllDone jobs links kept → (j i : ℕ) (k : JobItems) (d : Done) (bytes : Text) → slice_get kept j ≡ Some k → slice_get k.done i ≡ Some d → d.held.known ≡ Some bytes → d.held.count ≡ length bytes
counts [] links [] reads same done j i k d bytes is in_k known = absurd (let e : ◌≡◌ {A = Option JobItems} None (Some k) = is in cc)
counts [] links (x ∷ ks) reads same done j i k d bytes is in_k known = absurd (omega (arith, same))
counts (w ∷ js) links [] reads same done j i k d bytes is in_k known = absurd (omega (arith, same))
counts (w ∷ js) links (x ∷ ks) reads same done zero i k d bytes is in_k known =
    let e : EndedBy links w x = done 0 w refl in
    let here : x ≡ k = (let z : ◌≡◌ {A = Option JobItems} (Some x) (Some k) = is in cc) in
    item_count e.from.known w.items x.done i d bytes (subst (λ (kind : JobKind). AllEnd e.from.known kind w.items x.done) (reads w (inl refl)) e.items) (ap (λ (z : JobItems). slice_get z.done i) here ∙ in_k) known
counts (w ∷ js) links (x ∷ ks) reads same done (suc j) i k d bytes is in_k known =
    counts js links ks (λ y m. reads y (inr m)) (omega (arith, same)) (λ m y e. done (suc m) y e) j i k d bytes is in_k known

-- as many jobs are held as were received
pub kept_count : (jobs : List Job) (kept : List JobItems) (ends : List (List EndedItem)) → AreAllEnds ends kept → JobsCome jobs ends → length kept ≡ length jobs
kept_count [] [] [] are come = refl
kept_count [] [] (es ∷ ess) are come = absurd are
kept_count [] (k ∷ ks) [] are come = absurd are
kept_count [] (k ∷ ks) (es ∷ ess) are come = absurd come
kept_count (j ∷ js) [] [] are come = absurd come
kept_count (j ∷ js) [] (es ∷ ess) are come = absurd are
kept_count (j ∷ js) (k ∷ ks) [] are come = absurd come
kept_count (j ∷ js) (k ∷ ks) (es ∷ ess) are come = ap suc (kept_count js ks ess are.1 come.1)
