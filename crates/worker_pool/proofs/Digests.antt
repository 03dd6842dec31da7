-- Digest jobs of one item each over a keeper in memory: how they end.
use Rattle.std.proofs.Common.{ℕ, zero, suc, Bool, true, ◌≡◌, ◌&&◌, ◌≤◌, ◌<◌, ◌+◌, refl, sym, ap, ◌∙◌, subst, arith, List, [], ◌∷◌, ◌++◌, length, take, map, Option, Some, None, slice_get, bytes_eq}
use Rattle.std.specs.Prelude.{◌==◌, IsSomeAnd, option_map}
use Rattle.std.proofs.lemmas.Bool.{and_parts}
use Rattle.std.proofs.lemmas.Bool.Decides.{nat_tests}
use Rattle.std.proofs.lemmas.List.{length-map, length-take-le, map-append, take_more}
use Rattle.std.proofs.lemmas.Option.{slice_get-map, slice_get_within, get_or_from_slice_get}
use Rattle.std.proofs.lemmas.Slice.Eq.{bytes_eq-Decides}
use Rattle.sha1.specs.Sha1.{sha1}
use Rattle.base_devices.specs.Content.{Content, Value}
use Rattle.base_devices.specs.Links.{LinkState, Modelled}
use Rattle.base_model.specs.Text.{Text}
use Rattle.base_model.specs.Values.{FileEntry}
use Rattle.worker_protocol.specs.declared.frames.frames.JobKind.TheVariants.{Digest}
use Rattle.worker_protocol.specs.Frames.{Item, Job}
use Rattle.worker_protocol.specs.Replies.{payload}
use Rattle.worker_protocol.specs.declared.sinks.ItemEnd.{ItemEnd}
use Rattle.worker_protocol.specs.declared.sinks.ItemEnd.TheVariants.{Whole, Vanished}
use Rattle.worker_protocol.specs.PartSinkState.{Done, JobItems}
use Rattle.worker_pool.specs.Reads.{Reads, AllEnd, EndsAs, SumsBy, AbsentBy, IsPayload, IsSumOf, file_of}
use Rattle.worker_pool.specs.Run.{EndedBy, AllDone}
use Rattle.worker_pool.specs.Payloads.{AllRead}
use Rattle.worker_pool.proofs.Going.{some_of, is_some_at, get_some}
use Rattle.worker_pool.proofs.Reading.{all_at}
use Rattle.worker_pool.specs.Digests.{digest_of, IsDigestedBy, IsAbsentBy, IsEndBy, AreEnds, IsWhole, is_equal, first_end, end_of}

-- ---- lists

take_get : {A : Type 0} (xs : List A) (n k : ℕ) (x : A) → k < n → slice_get xs k ≡ Some x → slice_get (take n xs) k ≡ Some x
take_get [] n k x lt e = cc
take_get (y ∷ ys) zero k x lt e = absurd (omega (arith, lt))
take_get (y ∷ ys) (suc n) zero x lt e = e
take_get (y ∷ ys) (suc n) (suc k) x lt e = take_get ys n k x (omega (arith, lt)) e

-- ---- as many ends as jobs

some_length : {A : Type 0} (xs : List A) (n : ℕ) (P : A → Type 0) → IsSomeAnd (slice_get xs n) P → n < length xs
some_length xs n P h = let x = some_of P (slice_get xs n) h in slice_get_within xs n x.0 x.1

-- all that there are were kept
pub kept_long : (links : List LinkState) (jobs : List Job) (kept : List JobItems) → AllDone jobs links kept → length jobs ≤ length kept
kept_long links jobs kept done = go (length jobs) refl
  where
    go : (n : ℕ) → length jobs ≡ n → length jobs ≤ length kept
    go zero e = omega (arith, e)
    go (suc n) e = let x = get_some jobs n (omega (arith, e)) in omega (arith, e, some_length kept n (EndedBy links x.0) (done n x.0 x.1))

-- one more
pub end_more : (kept : List JobItems) (n : ℕ) (ends : List (Option ItemEnd)) (x : Option ItemEnd) → n < length kept → ends ≡ map end_of (take n kept) → ((k : JobItems) → slice_get kept n ≡ Some k → x ≡ end_of k) → ends ++ x ∷ [] ≡ map end_of (take (n + 1) kept)
end_more kept n ends x lt is next =
    let k = get_some kept n lt in
    ap (λ l. l ++ x ∷ []) is ∙ ap (λ (y : Option ItemEnd). map end_of (take n kept) ++ y ∷ []) (next k.0 k.1)
    ∙ sym (map-append end_of (take n kept) (k.0 ∷ [])) ∙ ap (map end_of) (sym (take_more kept n k.0 lt ∙ ap (λ (y : JobItems). take n kept ++ y ∷ []) (get_or_from_slice_get kept n k.0 k.0 k.1)))

-- ---- one item

-- an item ended as the link reported
ended : (links : List LinkState) (link : ℕ) (from : LinkState) (item : Item) (ds : List Done) → slice_get links link ≡ Some from → AllEnd from.known Digest (item ∷ []) ds → IsSomeAnd (first_end ds) (IsEndBy links item)
ended links link from item [] is all = absurd all
ended links link from item (d ∷ ds) is all = by d.end all.0
  where
    by : (end : ItemEnd) → EndsAs from.known Digest item d.held end → IsEndBy links item end
    by (Whole n sum) ends = record { link = link; from = from; is = is; sums = ends.2 }
    by Vanished ends = record { link = link; from = from; is = is; absent = ends.2 }

-- ---- all of them

pub are_ends : (links : List LinkState) (jobs : List Job) (kept : List JobItems) (n : ℕ) → n ≡ length jobs → AllDone jobs links kept → AreEnds links jobs (map end_of (take n kept))
are_ends links jobs kept n count done = record {
  count = length-map (take n kept) end_of ∙ length-take-le n kept (omega (arith, count, kept_long links jobs kept done)) ∙ count;
  each = λ k item is.
      let x = some_of (EndedBy links (digest_of item)) (slice_get kept k) (done k (digest_of item) is) in
      let lt : k < n = omega (arith, count, slice_get_within jobs k (digest_of item) is) in
      let at : slice_get (map end_of (take n kept)) k ≡ Some (end_of x.0) = slice_get-map end_of (take n kept) k ∙ ap (λ (o : Option JobItems). option_map end_of o) (take_get kept n k x.0 lt x.1) in
      is_some_at (λ end. IsSomeAnd end (IsEndBy links item)) (slice_get (map end_of (take n kept)) k) (end_of x.0) at
      (ended links x.2.link x.2.from item x.0.done x.2.is x.2.items);
}

-- the number and the digest with which an item ended whole were reported
pub digested_as : (links : List LinkState) (item : Item) (n : ℕ) (sum : Text) (end : Option ItemEnd) → IsSomeAnd end (IsEndBy links item) → IsWhole end n sum → IsDigestedBy links item n sum
digested_as links item n sum None is whole = absurd is
digested_as links item n sum (Some (Whole m s)) is whole = subst (λ (t : Text). IsDigestedBy links item n t) whole.1 (subst (λ (k : ℕ). IsDigestedBy links item k s.0) whole.0 is)
digested_as links item n sum (Some Vanished) is whole = absurd whole

-- ---- where all links read the same files

-- the links reported a number and a digest of the file's bytes
pub sums_read : (tree repo : Content) (links : List LinkState) → AllRead tree repo links → (item : Item) (n : ℕ) (sum : Text) → IsDigestedBy links item n sum → (bytes : Text) × IsPayload item (file_of item tree repo) bytes × IsSumOf n sum bytes
sums_read tree repo links all item n sum d = by d.from.known (all_at (λ (s : LinkState). IsSomeAnd s.known (Reads tree repo)) links d.link d.from all d.is) d.sums
  where
    by : (t : Option Modelled) → IsSomeAnd t (Reads tree repo) → SumsBy t item n sum → (bytes : Text) × IsPayload item (file_of item tree repo) bytes × IsSumOf n sum bytes
    by None read sums = absurd read
    by (Some t) read sums = sums tree repo read

-- or that it isn't there
pub absent_read : (tree repo : Content) (links : List LinkState) → AllRead tree repo links → (item : Item) → IsAbsentBy links item → file_of item tree repo ≡ None
absent_read tree repo links all item d = by d.from.known (all_at (λ (s : LinkState). IsSomeAnd s.known (Reads tree repo)) links d.link d.from all d.is) d.absent
  where
    by : (t : Option Modelled) → IsSomeAnd t (Reads tree repo) → AbsentBy t item → file_of item tree repo ≡ None
    by None read absent = absurd read
    by (Some t) read absent = absent tree repo read

-- an item whose file is there, and has as many bytes as were asked for, ended with their number and digest
pub whole_end : (tree repo : Content) (links : List LinkState) → AllRead tree repo links → (item : Item) (bytes : Text) (end : Option ItemEnd) → IsSomeAnd end (IsEndBy links item) → file_of item tree repo ≡ Some bytes → payload item bytes ≡ bytes
    → IsWhole end (length bytes) (sha1 bytes)
whole_end tree repo links all item bytes None is there all_of = absurd is
whole_end tree repo links all item bytes (Some (Whole n sum)) is there all_of =
    let x = sums_read tree repo links all item n sum.0 is in
    let y : x.0 ≡ payload item bytes = subst (λ (v : Value). IsPayload item v x.0) there x.1 in
    (x.2.number ∙ ap (λ (t : Text). length t) (y ∙ all_of), x.2.digest ∙ ap sha1 (y ∙ all_of))
whole_end tree repo links all item bytes (Some Vanished) is there all_of =
    let e : ◌≡◌ {A = Value} None (Some bytes) = sym (absent_read tree repo links all item is) ∙ there in cc

-- ---- ends that are equal

pub whole_of : (e : FileEntry) (end : Option ItemEnd) → is_equal e end ≡ true → IsWhole end e.size e.sum
whole_of e None is = cc
whole_of e (Some (Whole n sum)) is =
    let h = and_parts (n == e.size) (bytes_eq sum.0 e.sum) is in
    ((let t : (n == e.size) ≡ true = h.0 in grind (arith, nat_tests)), (bytes_eq-Decides sum.0 e.sum).0 h.1)
whole_of e (Some Vanished) is = cc

pub equal_of : (e : FileEntry) (end : Option ItemEnd) → IsWhole end e.size e.sum → is_equal e end ≡ true
equal_of e None w = absurd w
equal_of e (Some (Whole n sum)) w = two (n == e.size) (bytes_eq sum.0 e.sum) (let t : n ≡ e.size = w.0 in grind (arith, nat_tests)) ((bytes_eq-Decides sum.0 e.sum).1 w.1)
  where
    two : (a b : Bool) → a ≡ true → b ≡ true → a && b ≡ true
    two a b x y = cc
equal_of e (Some Vanished) w = absurd w
