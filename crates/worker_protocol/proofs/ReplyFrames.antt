-- The parts of an item, and that each frame of a reply keeps the rules.
use Rattle.std.proofs.Common.{◌≡◌, ℕ, zero, suc, ◌^◌, ◌<◌, ◌≤◌, List, [], ◌∷◌, ◌++◌, length, take, drop, map, Some, None, refl, sym, ap, ◌∙◌, arith}
use Rattle.std.specs.List.{concat, AllByRecursion}
use Rattle.std.proofs.lemmas.List.{take-append-drop, length-take, length-drop}
use Rattle.sha1.specs.Sha1.{sha1}
use Rattle.base_text.proofs.Digests.{IsSum-sha1}
use Rattle.base_devices.specs.Content.{Content, Value}
use Rattle.base_model.specs.Text.{Text}
use Rattle.worker_protocol.specs.declared.frames.frames.Root.{Root}
use Rattle.worker_protocol.specs.declared.frames.frames.Root.TheVariants.{DataFolder, Repo}
use Rattle.worker_protocol.specs.declared.frames.frames.JobKind.{JobKind}
use Rattle.worker_protocol.specs.declared.frames.frames.JobKind.TheVariants.{Read, Digest}
use Rattle.worker_protocol.specs.Frames.{Item, Frame, FitsItem, FitsFrame, part_size}
use Rattle.worker_protocol.specs.Frames.Frame.{Part, End}
use Rattle.worker_protocol.specs.Replies.{cut, parts, payload, files_of, item_rest, absent_reply, item_reply, replies}

some_bytes : 0 < part_size
unfolding part_size
some_bytes = omega arith

-- ---- parts

cut_none : (n : ℕ) → cut n [] ≡ []
unfolding cut
cut_none zero = refl
cut_none (suc n) = refl

cut_same : (n m : ℕ) (bytes : Text) → length bytes ≤ n → length bytes ≤ m → cut n bytes ≡ cut m bytes
unfolding cut
cut_same n m [] h k = cut_none n ∙ sym (cut_none m)
cut_same zero m (b ∷ bytes) h k = absurd (omega arith)
cut_same (suc n) zero (b ∷ bytes) h k = absurd (omega arith)
cut_same (suc n) (suc m) (b ∷ bytes) h k =
    let len = length-drop part_size (b ∷ bytes) in
    ap (λ (l : List Text). take part_size (b ∷ bytes) ∷ l) (cut_same n m (drop part_size (b ∷ bytes)) (omega (arith, len, some_bytes)) (omega (arith, len, some_bytes)))

pub parts_none : parts [] ≡ []
unfolding parts cut
parts_none = refl

pub parts_more : (b : ℕ) (bytes : Text) → parts (b ∷ bytes) ≡ take part_size (b ∷ bytes) ∷ parts (drop part_size (b ∷ bytes))
unfolding parts cut
parts_more b bytes =
    let len = length-drop part_size (b ∷ bytes) in
    ap (λ (l : List Text). take part_size (b ∷ bytes) ∷ l) (cut_same (length bytes) (length (drop part_size (b ∷ bytes))) (drop part_size (b ∷ bytes)) (omega (arith, len, some_bytes)) (omega arith))

cut_join : (n : ℕ) (bytes : Text) → length bytes ≤ n → concat (cut n bytes) ≡ bytes
unfolding cut
cut_join n [] h = ap concat (cut_none n)
cut_join zero (b ∷ bytes) h = absurd (omega arith)
cut_join (suc n) (b ∷ bytes) h =
    let len = length-drop part_size (b ∷ bytes) in
    ap (λ (t : Text). take part_size (b ∷ bytes) ++ t) (cut_join n (drop part_size (b ∷ bytes)) (omega (arith, len, some_bytes))) ∙ take-append-drop part_size (b ∷ bytes)

pub parts_join : (bytes : Text) → concat (parts bytes) ≡ bytes
unfolding parts
parts_join bytes = cut_join (length bytes) bytes (omega arith)

-- ---- frames

-- every frame of the list keeps the rules
abbrev pub AllFit : List Frame → Type 0
AllFit = AllByRecursion FitsFrame

cut_fit : (n : ℕ) (bytes : Text) (next : List Frame) → AllFit next → AllFit (map Part (cut n bytes) ++ next)
unfolding cut
cut_fit zero bytes next fits = fits
cut_fit (suc n) [] next fits = fits
cut_fit (suc n) (b ∷ bytes) next fits =
    let len = length-take part_size (b ∷ bytes) in
    ((omega (arith, len, some_bytes), omega (arith, len)), cut_fit n (drop part_size (b ∷ bytes)) next fits)

pub rest_fits : (kind : JobKind) (whole more : Text) (next : List Frame) → length whole < 2 ^ 64 → AllFit next → AllFit (item_rest kind whole more next)
unfolding item_rest parts
rest_fits Read whole more next lt fits = cut_fit (length more) more (End (length whole) (sha1 whole) ∷ next) ((lt, (IsSum-sha1 whole).0), fits)
rest_fits Digest whole more next lt fits = ((lt, (IsSum-sha1 whole).0), fits)

absent_fits : (root : Root) (next : List Frame) → AllFit next → AllFit (absent_reply root next)
absent_fits DataFolder next fits = (tt, fits)
absent_fits Repo next fits = (tt, tt)

payload_short : (i : Item) (file : Text) → FitsItem i → length (payload i file) < 2 ^ 64
payload_short i file fits = omega (arith, fits.size, length-take i.size (drop i.at file))

item_fits : (kind : JobKind) (i : Item) (value : Value) (next : List Frame) → FitsItem i → AllFit next → AllFit (item_reply kind i value next)
item_fits kind i None next item fits = absent_fits i.root next fits
item_fits kind i (Some file) next item fits = rest_fits kind (payload i file) (payload i file) next (payload_short i file item) fits

pub replies_fit : (kind : JobKind) (is : List Item) (tree repo : Content) → AllByRecursion FitsItem is → AllFit (replies kind is tree repo)
unfolding replies
replies_fit kind [] tree repo items = tt
replies_fit kind (i ∷ is) tree repo items = item_fits kind i (files_of i.root tree repo i.path) (replies kind is tree repo) items.0 (replies_fit kind is tree repo items.1)
