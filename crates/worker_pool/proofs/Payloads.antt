-- Jobs whose links all read the same files.
use Rattle.std.proofs.Common.{ℕ, ◌≡◌, List, [], ◌∷◌, Option, Some, None, sym, subst, slice_get}
use Rattle.std.specs.Prelude.{IsSomeAnd}
use Rattle.base_devices.specs.Content.{Content, Value}
use Rattle.base_devices.specs.Links.{LinkState, Modelled}
use Rattle.base_model.specs.Text.{Text}
use Rattle.base_text.specs.declared.sum.Sum.{Sum}
use Rattle.worker_protocol.specs.declared.frames.frames.Root.TheVariants.{DataFolder}
use Rattle.worker_protocol.specs.declared.frames.frames.JobKind.{JobKind}
use Rattle.worker_protocol.specs.declared.frames.frames.JobKind.TheVariants.{Read, Digest}
use Rattle.worker_protocol.specs.Frames.{Item, Job}
use Rattle.worker_protocol.specs.declared.sinks.ItemEnd.{ItemEnd}
use Rattle.worker_protocol.specs.declared.sinks.ItemEnd.TheVariants.{Whole, Vanished}
use Rattle.worker_protocol.specs.PartSinkState.{Held, Done, JobItems, Holds}
use Rattle.worker_pool.specs.Reads.{Reads, WhereRead, IsPayload, IsSumOf, EndsAs, AllEnd, file_of}
use Rattle.worker_pool.specs.Run.{EndedBy, AllDone}
use Rattle.worker_pool.specs.Payloads.{EndsByFile, AllEndByFile, AllByFile}
use Rattle.worker_pool.proofs.Going.{some_of, is_some_at}
use Rattle.worker_pool.proofs.Reading.{all_at}

-- what holds of the files that a link reads, of one that does
where_read : (known : Option Modelled) (P : Content → Content → Type 0) (tree repo : Content) → IsSomeAnd known (Reads tree repo) → WhereRead known P → P tree repo
where_read None P tree repo r h = absurd r
where_read (Some t) P tree repo r h = h tree repo r

read_ends : (i : Item) (v : Value) (held : Held) (n : ℕ) (sum : Sum) (bytes : Text) → IsPayload i v bytes → Holds held bytes → IsSumOf n sum.0 bytes → EndsByFile Read i v held (Whole n sum)
read_ends i None held n sum bytes p h s = p
read_ends i (Some file) held n sum bytes p h s = (subst (Holds held) p h, subst (IsSumOf n sum.0) p s)

digest_ends : (i : Item) (v : Value) (held : Held) (n : ℕ) (sum : Sum) (bytes : Text) → IsPayload i v bytes → Holds held [] → IsSumOf n sum.0 bytes → EndsByFile Digest i v held (Whole n sum)
digest_ends i None held n sum bytes p h s = p
digest_ends i (Some file) held n sum bytes p h s = (h, subst (IsSumOf n sum.0) p s)

absent_ends : (kind : JobKind) (i : Item) (v : Value) (held : Held) → v ≡ None → Holds held [] → i.root ≡ DataFolder → EndsByFile kind i v held Vanished
absent_ends Read i v held e h t = subst (λ x. EndsByFile Read i x held Vanished) (sym e) (h, t)
absent_ends Digest i v held e h t = subst (λ x. EndsByFile Digest i x held Vanished) (sym e) (h, t)

item_ends : (known : Option Modelled) (kind : JobKind) (tree repo : Content) (i : Item) (held : Held) (end : ItemEnd) → IsSomeAnd known (Reads tree repo) → EndsAs known kind i held end → EndsByFile kind i (file_of i tree repo) held end
item_ends known Read tree repo i held (Whole n sum) r e = read_ends i (file_of i tree repo) held n sum e.bytes (where_read known _ tree repo r e.read) e.holds e.sums
item_ends known Digest tree repo i held (Whole n sum) r e = (let s = where_read known _ tree repo r e.2 in digest_ends i (file_of i tree repo) held n sum s.0 s.1 e.0 s.2)
item_ends known Read tree repo i held Vanished r e = absent_ends Read i (file_of i tree repo) held (where_read known _ tree repo r e.2) e.0 e.1
item_ends known Digest tree repo i held Vanished r e = absent_ends Digest i (file_of i tree repo) held (where_read known _ tree repo r e.2) e.0 e.1

items_end : (known : Option Modelled) (kind : JobKind) (tree repo : Content) (is : List Item) (ds : List Done) → IsSomeAnd known (Reads tree repo) → AllEnd known kind is ds → AllEndByFile kind tree repo is ds
items_end known kind tree repo [] [] r h = tt
items_end known kind tree repo [] (d ∷ ds) r h = h
items_end known kind tree repo (i ∷ is) [] r h = h
items_end known kind tree repo (i ∷ is) (d ∷ ds) r h = (item_ends known kind tree repo i d.held d.end r h.0, items_end known kind tree repo is ds r h.1)

pub by_file : (jobs : List Job) (links : List LinkState) (kept : List JobItems) → AllDone jobs links kept → AllByFile jobs links kept
by_file jobs links kept done = λ tree repo all j job is.
    let k = some_of (EndedBy links job) (slice_get kept j) (done j job is) in
    let from = k.2.from in
    is_some_at (λ (x : JobItems). AllEndByFile job.kind tree repo job.items x.done) (slice_get kept j) k.0 k.1 (items_end from.known job.kind tree repo job.items k.0.done (all_at _ links k.2.link from all k.2.is) k.2.items)
