-- What is read of a job is spelled so, and what is spelled so is read.
use Rattle.std.proofs.Common.{◌≡◌, ℕ, zero, suc, ◌-◌, ◌^◌, ◌<◌, ◌≤◌, Bool, true, false, List, [], ◌∷◌, ◌++◌, length, Some, Result, Ok, Err, refl, sym, ap, subst, arith}
use Rattle.std.specs.Prelude.{◌==◌, if◌then◌else◌}
use Rattle.std.specs.List.{flat_map, AllByRecursion}
use Rattle.std.specs.Int.{w32, w64, to_be_bytes}
use Rattle.std.proofs.lemmas.Bool.Decides.{nat_tests}
use Rattle.std.proofs.lemmas.List.Concat.{flat_map-cons}
use Rattle.base_model.specs.Text.{Text}
use Rattle.worker_protocol.specs.declared.frames.frames.Root.{Root}
use Rattle.worker_protocol.specs.declared.frames.frames.Root.TheVariants.{DataFolder, Repo}
use Rattle.worker_protocol.specs.declared.frames.frames.JobKind.{JobKind}
use Rattle.worker_protocol.specs.declared.frames.frames.JobKind.TheVariants.{Read, Digest}
use Rattle.worker_protocol.specs.declared.frames.fault.FrameFault.{FrameFault}
use Rattle.worker_protocol.specs.declared.frames.fault.FrameFault.TheVariants.{Form}
use Rattle.worker_protocol.specs.Frames.{Item, Job, Frame, short_text, root_letter, kind_letter, item_bytes, job_bytes, FitsItem, FitsJob, job_limit}
use Rattle.worker_protocol.specs.Frames.Frame.{Task}
use Rattle.worker_protocol.specs.Reading.{◌>>=◌, Rest, number_at, letter_at, text_at, root_value, kind_value, is_item_path, item_at, items_at, job_at}
use Rattle.worker_protocol.proofs.ItemPaths.{is_path}
use Rattle.worker_protocol.proofs.Sizes.{path_short}
use Rattle.worker_protocol.proofs.Takes.{IsBytes, bind_ok, ok_is, Takes, takes_then, takes_none, takes_apart, past, bytes_after, wide32, wide64, number_takes, number_again, letter_takes, letter_again, text_takes, text_again}

-- ---- letters

root_back : (c : ℕ) (root : Root) → root_value c ≡ Some root → root_letter root ≡ c
root_back c DataFolder e = grind (arith, nat_tests)
root_back c Repo e = grind (arith, nat_tests)

root_same : (root : Root) → root_value (root_letter root) ≡ Some root
root_same DataFolder = refl
root_same Repo = refl

kind_back : (c : ℕ) (kind : JobKind) → kind_value c ≡ Some kind → kind_letter kind ≡ c
kind_back c Read e = grind (arith, nat_tests)
kind_back c Digest e = grind (arith, nat_tests)

kind_same : (kind : JobKind) → kind_value (kind_letter kind) ≡ Some kind
kind_same Read = refl
kind_same Digest = refl

-- ---- an item

item_takes : (end : ℕ) (rest : Rest) (x : Item × Rest) → IsBytes rest.bytes → item_at end rest ≡ Ok x → Takes rest (item_bytes x.0) x.1 × FitsItem x.0
unfolding item_at item_bytes
item_takes end rest x fits e =
    let a = bind_ok (letter_at root_value end rest) (λ root. text_at (is_item_path root.0) end root.1 >>= λ path. number_at w64 end path.1 >>= λ at. number_at w64 end at.1 >>= λ size. Ok (record { root = root.0; path = path.0; at = at.0; size = size.0 }, size.1)) x e in
    let root = a.0 in
    let b = bind_ok (text_at (is_item_path root.0) end root.1) (λ path. number_at w64 end path.1 >>= λ at. number_at w64 end at.1 >>= λ size. Ok (record { root = root.0; path = path.0; at = at.0; size = size.0 }, size.1)) x a.2 in
    let path = b.0 in
    let c = bind_ok (number_at w64 end path.1) (λ at. number_at w64 end at.1 >>= λ size. Ok (record { root = root.0; path = path.0; at = at.0; size = size.0 }, size.1)) x b.2 in
    let at = c.0 in
    let d = bind_ok (number_at w64 end at.1) (λ size. Ok (record { root = root.0; path = path.0; at = at.0; size = size.0 }, size.1)) x c.2 in
    let size = d.0 in
    let r = letter_takes root_value root_letter root_back end rest root a.1 in
    let r_fits = bytes_after rest root.1 (root_letter root.0 ∷ []) r fits in
    let p = text_takes (is_item_path root.0) end root.1 path r_fits b.1 in
    let p_fits = bytes_after root.1 path.1 (short_text path.0) p.0 r_fits in
    let n = number_takes w64 (2 ^ 64) wide64 end path.1 at p_fits c.1 in
    let n_fits = bytes_after path.1 at.1 (to_be_bytes w64 at.0) n.0 p_fits in
    let m = number_takes w64 (2 ^ 64) wide64 end at.1 size n_fits d.1 in
    let prefix = takes_then root.1 path.1 at.1 (short_text path.0) (to_be_bytes w64 at.0) p.0 n.0 in
    let tail = takes_then root.1 at.1 size.1 (short_text path.0 ++ to_be_bytes w64 at.0) (to_be_bytes w64 size.0) prefix m.0 in
    let all = takes_then rest root.1 size.1 (root_letter root.0 ∷ []) (short_text path.0 ++ to_be_bytes w64 at.0 ++ to_be_bytes w64 size.0) r tail in
    let item : Item = record { root = root.0; path = path.0; at = at.0; size = size.0 } in
    let made : Item × Rest = (item, size.1) in
    let keeps : FitsItem item = record { path = (is_path root.0 path.0).1 p.1; at = n.1; size = m.1 } in
    subst (λ (y : Item × Rest). Takes rest (item_bytes y.0) y.1 × FitsItem y.0) {x = made} {y = x} (ok_is made x d.2) (all, keeps)

item_again : (end : ℕ) (rest after : Rest) (i : Item) → Takes rest (item_bytes i) after → FitsItem i → item_at end rest ≡ Ok (i, after)
unfolding item_at item_bytes
item_again end rest after i t fits =
    let a = takes_apart rest after (root_letter i.root ∷ []) (short_text i.path ++ to_be_bytes w64 i.at ++ to_be_bytes w64 i.size) t in
    let one = past 1 rest in
    let b = takes_apart one after (short_text i.path ++ to_be_bytes w64 i.at) (to_be_bytes w64 i.size) a.1 in
    let three = past (length (short_text i.path ++ to_be_bytes w64 i.at)) one in
    let c = takes_apart one three (short_text i.path) (to_be_bytes w64 i.at) b.0 in
    let two = past (length (short_text i.path)) one in
    rw (
      letter_again root_value root_letter root_same end rest one i.root a.0,
      text_again (is_item_path i.root) end one two i.path c.0 ((is_path i.root i.path).0 fits.path) (path_short i.root i.path fits.path),
      number_again w64 (2 ^ 64) wide64 end two three i.at c.1 fits.at,
      number_again w64 (2 ^ 64) wide64 end three after i.size b.1 fits.size,
    ) refl

-- ---- items

items_take : (n end : ℕ) (rest : Rest) (x : List Item × Rest) → IsBytes rest.bytes → items_at n end rest ≡ Ok x → Takes rest (flat_map item_bytes x.0) x.1 × (length x.0 ≡ n) × AllByRecursion FitsItem x.0
unfolding items_at
items_take zero end rest x fits e =
    let none : List Item × Rest = ([], rest) in
    subst (λ (y : List Item × Rest). Takes rest (flat_map item_bytes y.0) y.1 × (length y.0 ≡ 0) × AllByRecursion FitsItem y.0) (ok_is none x e) (takes_none rest, refl, tt)
items_take (suc n) end rest x fits e =
    let a = bind_ok (item_at end rest) (λ first. items_at n end first.1 >>= λ others. Ok (first.0 ∷ others.0, others.1)) x e in
    let b = bind_ok (items_at n end a.0.1) (λ others. Ok (a.0.0 ∷ others.0, others.1)) x a.2 in
    let first = item_takes end rest a.0 fits a.1 in
    let second = items_take n end a.0.1 b.0 (bytes_after rest a.0.1 (item_bytes a.0.0) first.0 fits) b.1 in
    let both = takes_then rest a.0.1 b.0.1 (item_bytes a.0.0) (flat_map item_bytes b.0.0) first.0 second.0 in
    let made : List Item × Rest = (a.0.0 ∷ b.0.0, b.0.1) in
    subst (λ (y : List Item × Rest). Takes rest (flat_map item_bytes y.0) y.1 × (length y.0 ≡ suc n) × AllByRecursion FitsItem y.0) {x = made} {y = x} (ok_is made x b.2) (rw flat_map-cons both, ap suc second.1, (first.1, second.2))

items_again : (end : ℕ) (rest after : Rest) (is : List Item) → Takes rest (flat_map item_bytes is) after → AllByRecursion FitsItem is → items_at (length is) end rest ≡ Ok (is, after)
unfolding items_at
items_again end rest after [] t fits =
    let left : rest.left ≡ after.left = omega (arith, t.left) in
    rw (t.parts, left) refl
items_again end rest after (i ∷ is) t fits =
    let whole : Takes rest (item_bytes i ++ flat_map item_bytes is) after = subst (λ (text : Text). Takes rest text after) (flat_map-cons item_bytes i is) t in
    let a = takes_apart rest after (item_bytes i) (flat_map item_bytes is) whole in
    let mid = past (length (item_bytes i)) rest in
    rw (item_again end rest mid i a.0 fits.0, items_again end mid after is a.1 fits.1) refl

-- ---- a job

-- a test that did not fail, where its two arms are the other way round
pub some_ok : {A : Type 0} (b : Bool) (d : FrameFault) (r : Result A FrameFault) (y : A) → (if b then Err d else r) ≡ Ok y → (b ≡ false) × (r ≡ Ok y)
some_ok true d r y e = absurd cc
some_ok false d r y e = (refl, e)

-- what a job that was read is
pub record IsJob (rest : Rest) (x : Frame × Rest) : Type 0 where
  pub job : Job
  pub is : x.0 ≡ Task job
  pub takes : Takes rest (job_bytes job) x.1
  pub fits : rest.left ≤ job_limit → FitsJob job

pub job_takes : (end : ℕ) (rest : Rest) (x : Frame × Rest) → IsBytes rest.bytes → job_at end rest ≡ Ok x → IsJob rest x
unfolding job_at job_bytes
job_takes end rest x fits e =
    let a = bind_ok (letter_at kind_value end rest) (λ kind. number_at w32 end kind.1 >>= λ count. if count.0 == 0 then Err (Form (end - kind.1.left)) else (items_at count.0 end count.1 >>= λ items. Ok (Task (record { kind = kind.0; items = items.0 }), items.1))) x e in
    let kind = a.0 in
    let b = bind_ok (number_at w32 end kind.1) (λ count. if count.0 == 0 then Err (Form (end - kind.1.left)) else (items_at count.0 end count.1 >>= λ items. Ok (Task (record { kind = kind.0; items = items.0 }), items.1))) x a.2 in
    let count = b.0 in
    let g = some_ok (count.0 == 0) (Form (end - kind.1.left)) (items_at count.0 end count.1 >>= λ items. Ok (Task (record { kind = kind.0; items = items.0 }), items.1)) x b.2 in
    let c = bind_ok (items_at count.0 end count.1) (λ items. Ok (Task (record { kind = kind.0; items = items.0 }), items.1)) x g.1 in
    let items = c.0 in
    let k = letter_takes kind_value kind_letter kind_back end rest kind a.1 in
    let k_fits = bytes_after rest kind.1 (kind_letter kind.0 ∷ []) k fits in
    let n = number_takes w32 (2 ^ 32) wide32 end kind.1 count k_fits b.1 in
    let n_fits = bytes_after kind.1 count.1 (to_be_bytes w32 count.0) n.0 k_fits in
    let l = items_take count.0 end count.1 items n_fits c.1 in
    let tail = takes_then kind.1 count.1 items.1 (to_be_bytes w32 count.0) (flat_map item_bytes items.0) n.0 l.0 in
    let all = takes_then rest kind.1 items.1 (kind_letter kind.0 ∷ []) (to_be_bytes w32 count.0 ++ flat_map item_bytes items.0) k tail in
    let job : Job = record { kind = kind.0; items = items.0 } in
    let whole : Takes rest (job_bytes job) items.1 = subst (λ (m : ℕ). Takes rest (kind_letter kind.0 ∷ (to_be_bytes w32 m ++ flat_map item_bytes items.0)) items.1) (sym l.1) all in
    let made : Frame × Rest = (Task job, items.1) in
    let same : made ≡ x = ok_is made x c.2 in
    let positive : 0 < count.0 = grind (arith, nat_tests, g.0) in
    record {
      job = job;
      is = sym (ap (λ (y : Frame × Rest). y.0) {x = made} {y = x} same);
      takes = subst (λ (y : Frame × Rest). Takes rest (job_bytes job) y.1) {x = made} {y = x} same whole;
      fits = λ small. record { some = omega (arith, positive, l.1); few = omega (arith, n.1, l.1); items = l.2; small = omega (arith, small, whole.left) };
    }

pub job_again : (end : ℕ) (rest after : Rest) (j : Job) → Takes rest (job_bytes j) after → FitsJob j → job_at end rest ≡ Ok (Task j, after)
unfolding job_at job_bytes
job_again end rest after j t fits =
    let a = takes_apart rest after (kind_letter j.kind ∷ []) (to_be_bytes w32 (length j.items) ++ flat_map item_bytes j.items) t in
    let one = past 1 rest in
    let b = takes_apart one after (to_be_bytes w32 (length j.items)) (flat_map item_bytes j.items) a.1 in
    let two = past (length (to_be_bytes w32 (length j.items))) one in
    let some : (length j.items == 0) ≡ false = grind (arith, nat_tests, fits.some) in
    rw (
      letter_again kind_value kind_letter kind_same end rest one j.kind a.0,
      number_again w32 (2 ^ 32) wide32 end one two (length j.items) b.0 fits.few,
      some,
      items_again end two after j.items b.1 fits.items,
    ) refl
