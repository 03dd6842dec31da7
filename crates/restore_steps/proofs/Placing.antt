-- No call is faulty where the files have their folders.
use Rattle.std.proofs.Common.{ℕ, zero, suc, Bool, true, false, ◌≡◌, inl, inr, ◌<◌, ◌||◌, refl, sym, ap, ◌∙◌, subst, arith, List, [], ◌∷◌, map, get_or, length, Option, Some, None, option_map}
use Rattle.std.specs.Prelude.{IsSome, codes, Contains, ◌==◌}
use Rattle.std.proofs.lemmas.List.Elements.{Contains-append_left}
use Rattle.base_devices.specs.Content.{at}
use Rattle.base_devices.specs.DataFolder.{Held as Node, file, folder, link, other, Nodes, file_bytes, longer, lengthened_file, with_node, IsFileAt, IsPlaced}
use Rattle.base_model.specs.Text.{Text, In, ◌⫽◌}
use Rattle.restore_steps.specs.declared.contents.files.Wanted.{Wanted}
use Rattle.restore_steps.specs.declared.contents.files.Filed.{Filed}
use Rattle.restore_steps.specs.Files.{temporary_path, wanted_of, IsBegun}
use Rattle.restore_steps.specs.Keeping.{HaveFolders}
use Rattle.restore_steps.proofs.Filing.{set_same}

-- ---- a temporary name lies in the folder of its path

abbrev pub has_slash : Text → Bool
has_slash [] = false
has_slash (b ∷ bs) = (b == 47) || has_slash bs

or_true : (b : Bool) → (b || true) ≡ true
or_true true = refl
or_true false = refl

slash_at : (prefix last : Text) → has_slash (prefix ⫽ last) ≡ true
slash_at [] last = refl
slash_at (b ∷ prefix) last = ap (λ (s : Bool). (b == 47) || s) (slash_at prefix last) ∙ or_true (b == 47)

-- a path without a slash lies in the root
pub in_root : (path : Text) (nodes : Option Nodes) → has_slash path ≡ false → IsPlaced nodes path
in_root path None none = tt
in_root path (Some f) none = λ prefix last is plain. let h : ◌≡◌ {A = Bool} true false = sym (slash_at prefix last) ∙ sym (ap has_slash is) ∙ none in cc

none_in_end : has_slash (codes ".pgbackrest.tmp") ≡ false
none_in_end = refl

split : (path prefix last : Text) → temporary_path path ≡ prefix ⫽ last → (rest : Text) × (path ≡ prefix ⫽ rest) × (last ≡ temporary_path rest)
split [] prefix last e = let h : ◌≡◌ {A = Bool} true false = sym (slash_at prefix last) ∙ sym (ap has_slash e) ∙ none_in_end in cc
split (b ∷ bs) [] last e = let first : b ≡ 47 = cc in let more : temporary_path bs ≡ last = cc in (bs, ap (λ (n : ℕ). n ∷ bs) first, sym more)
split (b ∷ bs) (c ∷ prefix) last e =
    let first : b ≡ c = cc in
    let more : temporary_path bs ≡ prefix ⫽ last = cc in
    let x = split bs prefix last more in
    (x.0, ap (λ (n : ℕ). n ∷ bs) first ∙ ap (λ (l : Text). c ∷ l) x.1, x.2)

pub temporary_placed : (path : Text) (nodes : Option Nodes) → IsPlaced nodes path → IsPlaced nodes (temporary_path path)
temporary_placed path None placed = tt
temporary_placed path (Some f) placed = λ prefix last is plain.
    let x = split path prefix last is in
    placed prefix x.0 x.1 (λ (c : Contains x.0 47). plain (subst (λ (l : Text). Contains l 47) (sym x.2) (Contains-append_left x.0 (codes ".pgbackrest.tmp") 47 c)))

-- ---- the file under the temporary name

pub begun_file : (name : Text) (old new : Option Nodes) → ((time : ℕ) × (new ≡ option_map (with_node name (Some (file [] time))) old)) → IsFileAt new name
begun_file name old new h = subst (λ (o : Option Nodes). IsFileAt o name) (sym h.1) (go old)
  where
    go : (o : Option Nodes) → IsFileAt (option_map (with_node name (Some (file [] h.0))) o) name
    go None = tt
    go (Some f) = subst (λ (x : Option Node). IsSome (file_bytes x)) (sym (set_same name (Some (file [] h.0)) f)) refl

pub begun_there : (count : ℕ) (name : Text) (old new : Option Nodes) → IsBegun count name old new → (0 < count → IsFileAt old name) → IsFileAt new name
begun_there zero name old new begun there = begun_file name old new (begun.first refl)
begun_there (suc k) name old new begun there = subst (λ (o : Option Nodes). IsFileAt o name) (sym (begun.later (omega arith))) (there (omega arith))

longer_file : (bytes : Text) (time : ℕ) (x : Option Node) → IsSome (file_bytes x) → IsSome (file_bytes (longer bytes time x))
longer_file bytes time None is = is
longer_file bytes time (Some (file held old)) is = refl
longer_file bytes time (Some folder) is = is
longer_file bytes time (Some link) is = is
longer_file bytes time (Some other) is = is

pub longer_there : (name bytes : Text) (old new : Option Nodes) → IsFileAt old name → ((time : ℕ) × (new ≡ option_map (lengthened_file name bytes time) old)) → IsFileAt new name
longer_there name bytes old new there h = subst (λ (o : Option Nodes). IsFileAt o name) (sym h.1) (go old there)
  where
    go : (o : Option Nodes) → IsFileAt o name → IsFileAt (option_map (lengthened_file name bytes h.0) o) name
    go None is = tt
    go (Some f) is = subst (λ (x : Option Node). IsSome (file_bytes x)) (sym (set_same name (longer bytes h.0 (f name)) f)) (longer_file bytes h.0 (f name) is)

pub file_stays : (path : Text) (u v : Option Nodes) → at path v ≡ at path u → IsFileAt u path → IsFileAt v path
file_stays path u None e there = tt
file_stays path None (Some g) e there = let h : ◌≡◌ {A = Option (Option Node)} (Some (g path)) None = e in cc
file_stays path (Some f) (Some g) e there =
    let h : ◌≡◌ {A = Option (Option Node)} (Some (g path)) (Some (f path)) = e in
    let same : g path ≡ f path = cc in
    subst (λ (x : Option Node). IsSome (file_bytes x)) (sym same) there

-- ---- one of the files

pub in_at : (x : Filed) (l : List Filed) (n : ℕ) → n < length l → x ≡ get_or l n x → In x.wanted (map wanted_of l)
in_at x [] n lt e = absurd (omega (arith, lt))
in_at x (y ∷ l) zero lt e = inl (ap wanted_of e)
in_at x (y ∷ l) (suc n) lt e = inr (in_at x l n (omega (arith, lt)) e)

pub placed_at : (ws : List Wanted) (w : Wanted) (nodes : Option Nodes) → In w ws → HaveFolders ws nodes → IsPlaced nodes w.path.now
placed_at ws w None i have = tt
placed_at ws w (Some f) i have = λ prefix last is plain. (have w i prefix last is plain).1
