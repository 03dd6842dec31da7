-- A file that gets a time.
use Rattle.std.proofs.Common.{ℕ, Bool, true, false, ◌≡◌, ◌≢◌, refl, sym, ap, ◌∙◌, subst, [], ◌∷◌, Option, Some, None, option_map, Result, Ok, Err, bytes_eq, cond}
use Rattle.std.specs.Prelude.{IfSome, IsSome, OnOk}
use Rattle.std.proofs.lemmas.Slice.Eq.{bytes_eq-Decides}
use Rattle.base_devices.specs.Content.{Name, at, SameBut}
use Rattle.base_devices.specs.DataFolder.{Held as Node, file, folder, link, other, Nodes, file_bytes, with_node, with_time, timed_file, moved_node, with_empty_file, ChangesTree, IsFileAt, IsPlaced}
use Rattle.base_model.specs.Text.{Text}
use Rattle.restore_steps.specs.Clearing.{HasTimed}
use Rattle.restore_steps.specs.Files.{temporary_path, put_in_tree, IsFileOf, IsPut}
use Rattle.restore_steps.proofs.Nodes.{set_other, set_same}

-- ---- nodes

-- the bytes stay
pub timed_bytes : (time : ℕ) (x : Option Node) → file_bytes (with_time time x) ≡ file_bytes x
timed_bytes time None = refl
timed_bytes time (Some (file bytes old)) = refl
timed_bytes time (Some folder) = refl
timed_bytes time (Some link) = refl
timed_bytes time (Some other) = refl

-- a file has the time
pub timed_is : (time : ℕ) (x : Option Node) → IsSome (file_bytes x) → IsFileOf time (with_time time x)
timed_is time None is = cc
timed_is time (Some (file bytes old)) is = (bytes, refl)
timed_is time (Some folder) is = cc
timed_is time (Some link) is = cc
timed_is time (Some other) is = cc

-- ---- the tree

-- nothing else changes
pub timed_but : {T E : Type 0} (result : Result T E) (name : Name) (time : ℕ) (old new : Option Nodes) → ChangesTree result (timed_file name time) old new → SameBut name old new
timed_but (Ok x) name time old new h q apart = ap (at q) h ∙ go old
  where
    go : (o : Option Nodes) → at q (option_map (timed_file name time) o) ≡ at q o
    go None = refl
    go (Some f) = ap (λ (v : Option Node). Some v) (set_other name (with_time time (f name)) f q apart)
timed_but (Err e) name time old new h q apart = ap (at q) h

-- the file is still there
pub timed_there : (name : Name) (time : ℕ) (old new : Option Nodes) → IsFileAt old name → new ≡ option_map (timed_file name time) old → IsFileAt new name
timed_there name time old new there is = subst (λ (o : Option Nodes). IsFileAt o name) (sym is) (go old there)
  where
    go : (o : Option Nodes) → IsFileAt o name → IsFileAt (option_map (timed_file name time) o) name
    go None h = tt
    go (Some f) h =
        subst (λ (x : Option Node). IsSome (file_bytes x)) (sym (set_same name (with_time time (f name)) f))
        (subst (λ (v : Option Text). IsSome v) (sym (timed_bytes time (f name))) h)

-- a folder stays one
timed_folder : (name : Name) (time : ℕ) (f : Nodes) (q : Name) → f q ≡ Some folder → timed_file name time f q ≡ Some folder
timed_folder name time f q is = by (bytes_eq name q) refl
  where
    by : (b : Bool) → bytes_eq name q ≡ b → cond b (with_time time (f name)) (f q) ≡ Some folder
    by true same = ap (with_time time) (ap f ((bytes_eq-Decides name q).0 same) ∙ is)
    by false apart = is

pub timed_placed : (path name : Name) (time : ℕ) (old new : Option Nodes) → IsPlaced old path → new ≡ option_map (timed_file name time) old → IsPlaced new path
timed_placed path name time old new placed is = subst (λ (o : Option Nodes). IsPlaced o path) (sym is) (go old placed)
  where
    go : (o : Option Nodes) → IsPlaced o path → IsPlaced (option_map (timed_file name time) o) path
    go None h = tt
    go (Some f) h = λ prefix last path_is plain. timed_folder name time f prefix (h prefix last path_is plain)

-- ---- a file that gets its own name

pub put_by : {T E : Type 0} (result : Result T E) (path name again : Text) (time : ℕ) (old mid new : Option Nodes) → name ≡ temporary_path path → again ≡ temporary_path path → IsFileAt old name → mid ≡ option_map (timed_file name time) old → ChangesTree result (moved_node again path) mid new → OnOk result (IsPut path time old new)
put_by (Ok x) path name again time old mid new is is_again there timed moved = record {
  there = subst (IsFileAt old) is there;
  moved =
      moved
      ∙ ap (λ (n : Text). option_map (moved_node n path) mid) is_again
      ∙ ap (option_map (moved_node (temporary_path path) path)) (timed ∙ ap (λ (n : Text). option_map (timed_file n time) old) is)
      ∙ twice old;
}
  where
    twice : (o : Option Nodes) → option_map (moved_node (temporary_path path) path) (option_map (timed_file (temporary_path path) time) o) ≡ option_map (put_in_tree path time) o
    twice None = refl
    twice (Some f) = refl
put_by (Err e) path name again time old mid new is is_again there timed moved = tt

-- ---- a file of no bytes

pub bare_by : {T E : Type 0} (result : Result T E) (path : Text) (time begun : ℕ) (old mid new : Option Nodes) → mid ≡ option_map (with_empty_file path begun) old → ChangesTree result (timed_file path time) mid new → OnOk result (IfSome new (HasTimed path [] time))
bare_by (Ok x) path time begun old mid new is timed =
    subst (λ (o : Option Nodes). IfSome o (HasTimed path [] time)) (sym (timed ∙ ap (option_map (timed_file path time)) is)) (go old)
  where
    go : (o : Option Nodes) → IfSome (option_map (timed_file path time) (option_map (with_empty_file path begun) o)) (HasTimed path [] time)
    go None = tt
    go (Some f) =
        set_same path (with_time time (with_empty_file path begun f path)) (with_empty_file path begun f)
        ∙ ap (with_time time) (set_same path (Some (file [] begun)) f)
bare_by (Err x) path time begun old mid new is timed = tt
