-- From what a keeper holds at the end to the files of the tree.
use Rattle.std.proofs.Common.{ℕ, zero, suc, Bool, true, ◌≡◌, ◌⊎◌, ⊎_elim, ◌<◌, ◌&&◌, refl, sym, ap, ◌∙◌, subst, arith, List, [], ◌∷◌, length, Option, Some, None, map, slice_get, bytes_eq}
use Rattle.std.specs.Prelude.{IfSome, IsSome, IsSomeAnd, nat_lt, ◌==◌}
use Rattle.std.proofs.lemmas.Bool.Decides.{nat_tests}
use Rattle.std.proofs.lemmas.Slice.Eq.{bytes_eq-Decides}
use Rattle.sha1.specs.Sha1.{sha1}
use Rattle.base_devices.specs.Cause.{Rises}
use Rattle.base_devices.specs.Links.{LinkState}
use Rattle.base_devices.specs.DataFolder.{Nodes, Held as Node, file, file_bytes}
use Rattle.base_text.specs.declared.sum.Sum.{Sum}
use Rattle.base_model.specs.Text.{Text}
use Rattle.worker_protocol.specs.declared.frames.frames.Root.TheVariants.{DataFolder, Repo}
use Rattle.worker_protocol.specs.declared.frames.frames.JobKind.{JobKind}
use Rattle.worker_protocol.specs.declared.frames.frames.JobKind.TheVariants.{Read}
use Rattle.worker_protocol.specs.Frames.{Item, Job}
use Rattle.worker_protocol.specs.declared.sinks.ItemEnd.{ItemEnd}
use Rattle.worker_protocol.specs.declared.sinks.ItemEnd.TheVariants.{Whole, Vanished}
use Rattle.worker_pool.specs.Reads.{AllEnd}
use Rattle.worker_pool.specs.Run.{EndedBy, AllDone}
use Rattle.restore_steps.specs.Clearing.{HasTimed}
use Rattle.restore_steps.specs.declared.contents.files.Wanted.{Wanted}
use Rattle.restore_steps.specs.declared.contents.files.Filed.{Filed}
use Rattle.restore_steps.specs.Files.{temporary_path, bytes_at, is_right, known_by, held_by, done_by, kept_of, wanted_of, IsInPlace, AllTidy}
use Rattle.worker_pool.specs.Digests.{IsWhole}
use Rattle.restore_make.specs.Written.{IsJobOf, AreJobsOf, IsReadOf, IsWritten, AllWritten}
use Rattle.restore_steps.proofs.Listing.{map_get, some_within}
use Rattle.restore_steps.specs.Apart.{HasOneItem}

-- a file that is in its place has the bytes that are known of it, and its time
held_file : (path bytes : Text) (time : ℕ) (nodes : Option Nodes) → IsInPlace path time nodes → IfSome (bytes_at path nodes) (λ t. t ≡ bytes) → IfSome nodes (λ g. HasTimed path bytes time g × (g (temporary_path path) ≡ None))
held_file path bytes time None here known = tt
held_file path bytes time (Some g) here known =
    let is : here.0.0 ≡ bytes = subst (λ (o : Option Node). IfSome (file_bytes o) (λ t. t ≡ bytes)) here.0.1 known in
    (here.0.1 ∙ ap (λ (t : Text). Some (file t time)) is, here.1)

pub both_by : (a b : Bool) → a ≡ true → b ≡ true → a && b ≡ true
both_by a b x y = cc

is_right_by : (w : Wanted) (count : ℕ) (n : ℕ) (sum : Sum) → n ≡ w.size → sum.0 ≡ w.sum.0 → 0 < count → is_right w count (Some (Whole n sum)) ≡ true
is_right_by w count n sum size same some =
    both_by ((n == w.size) && bytes_eq sum.0 w.sum.0) (nat_lt 0 count)
    (both_by (n == w.size) (bytes_eq sum.0 w.sum.0) (grind (arith, nat_tests, size)) ((bytes_eq-Decides sum.0 w.sum.0).1 same))
    (grind (arith, nat_tests))

known_right : (right : Bool) (count : ℕ) (path bytes : Text) (nodes : Option Nodes) → right ≡ true → IfSome (known_by right count path nodes) (λ t. t ≡ bytes) → IfSome (bytes_at path nodes) (λ t. t ≡ bytes)
known_right right count path bytes nodes is h = subst (λ (r : Bool). IfSome (known_by r count path nodes) (λ t. t ≡ bytes)) is h

no_repo : Repo ≡ DataFolder → ⊥
no_repo e = cc

module _ (links : List LinkState) (nodes : Option Nodes) (job : Job) where
  -- an end, by the link that gave it
  ended_as : (w : Wanted) (count : ℕ) (end : Option ItemEnd) (j : IsJobOf w job) (link : ℕ) (from : LinkState) → slice_get links link ≡ Some from
      → AllEnd from.known Read (j.item ∷ []) (done_by end (held_by (is_right w count end) count w.path.now nodes)) → (is_right w count end ≡ true → IsInPlace w.path.now w.time nodes)
      → (n : ℕ) × (sum : Text) × (bytes : Text) × IsWhole end n sum × (n ≡ length bytes) × (sum ≡ sha1 bytes) × IsReadOf links j.item bytes
      × (n ≡ w.size → sum ≡ w.sum.0 → IfSome nodes (λ g. HasTimed w.path.now bytes w.time g × (g (temporary_path w.path.now) ≡ None)))
  ended_as w count None j link from is all here = absurd all
  ended_as w count (Some Vanished) j link from is all here = absurd (no_repo (sym j.root ∙ all.0.1))
  ended_as w count (Some (Whole n sum)) j link from is all here =
      let e = all.0 in (
        n,
        sum.0,
        e.bytes,
        (refl, refl),
        e.sums.number,
        e.sums.digest,
        record { link = link; from = from; is = is; read = e.read },
        λ size same.
            let some : 0 < count = omega (arith, e.holds.0, e.sums.number, size, j.some) in
            let right : is_right w count (Some (Whole n sum)) ≡ true = is_right_by w count n sum size same some in
            held_file w.path.now e.bytes w.time nodes (here right) (known_right (is_right w count (Some (Whole n sum))) count w.path.now e.bytes nodes right e.holds.1),
      )

  written_by : (f : Filed) → IsJobOf f.wanted job → EndedBy links job (kept_of nodes f) → (is_right f.wanted f.count f.end ≡ true → IsInPlace f.wanted.path.now f.wanted.time nodes) → IsWritten links nodes job f
  written_by f j by here =
      let all : AllEnd by.from.known Read (j.item ∷ []) (done_by f.end (held_by (is_right f.wanted f.count f.end) f.count f.wanted.path.now nodes))
      = subst (λ (k : JobKind). AllEnd by.from.known k (j.item ∷ []) (kept_of nodes f).done) j.kind (subst (λ (is : List Item). AllEnd by.from.known job.kind is (kept_of nodes f).done) j.items by.items) in
      let x = ended_as f.wanted f.count f.end j by.link by.from by.is all here in
      record { item = j.item; items = j.items; n = x.0; sum = x.1; bytes = x.2; ended = x.3; number = x.4; digest = x.5; read = x.6; put = x.7 }

some_and : {A : Type 0} (P : A → Type 0) (o : Option A) (a : A) → o ≡ Some a → IsSomeAnd o P → P a
some_and P o a is h = subst (λ (x : Option _). IsSomeAnd x P) is h

pub all_written : (links : List LinkState) (new : Option Nodes) (jobs : List Job) (ws : List Wanted) (fs : List Filed) → map wanted_of fs ≡ ws → AreJobsOf ws jobs → AllDone jobs links (map (kept_of new) fs) → AllTidy new fs → AllWritten links new jobs ws fs
all_written links new jobs ws fs wanted are done tidy = record {
  wanted = wanted;
  each = λ i j f is_j is_f.
      let w : slice_get ws i ≡ Some f.wanted = subst (λ (l : List Wanted). slice_get l i ≡ Some f.wanted) wanted (map_get wanted_of fs i f is_f) in
      written_by links new j f (are.each i f.wanted j w is_j) (some_and (EndedBy links j) (slice_get (map (kept_of new) fs) i) (kept_of new f) (map_get (kept_of new) fs i f is_f) (done i j is_j)) (tidy i f is_f);
}

-- ---- the run

-- the keeper failed only where the tree did
pub failed_rose : (n f g : ℕ) → Rises 0 n → (0 < n → (0 < 0) ⊎ Rises f g) → Rises f g
failed_rose n f g rose failed = ⊎_elim (λ (lt : 0 < 0). absurd (omega (arith, lt))) (λ (r : Rises f g). r) (failed (grind (arith, rose)))

pub get_some : {A : Type 0} (xs : List A) (i : ℕ) → i < length xs → (x : A) × (slice_get xs i ≡ Some x)
get_some [] i lt = absurd (omega (arith, lt))
get_some (x ∷ xs) zero lt = (x, refl)
get_some (x ∷ xs) (suc i) lt = get_some xs i (omega (arith, lt))

pub one_item : (ws : List Wanted) (jobs : List Job) → AreJobsOf ws jobs → (j : ℕ) (job : Job) → slice_get jobs j ≡ Some job → HasOneItem job
one_item ws jobs are j job is =
    let w = get_some ws j (omega (arith, are.count, some_within jobs j job is)) in
    ap (λ (l : List Item). length l) (are.each j w.0 job w.1 is).items
