-- A file that is written as a worker reads it: what is held of it, and what calls on it leave. Own.
use Rattle.std.specs.Prelude.{ℕ, zero, suc, Bool, true, false, ◌≡◌, ◌≢◌, ◌<◌, ◌==◌, ◌&&◌, nat_lt, bytes_eq, List, [], ◌∷◌, ◌++◌, length, codes, Option, Some, None, option_map, IfSome, IsSome, slice_get}
use Rattle.base_devices.specs.Content.{at}
use Rattle.base_devices.specs.DataFolder.{Nodes, Held as Node, file, file_bytes, with_node, timed_file, moved_node, IsFileAt}
use Rattle.base_model.specs.Text.{Text}
use Rattle.worker_protocol.specs.declared.sinks.ItemEnd.{ItemEnd}
use Rattle.worker_protocol.specs.declared.sinks.ItemEnd.TheVariants.{Whole, Vanished}
use Rattle.worker_protocol.specs.PartSinkState.{Held, Done, JobItems}
use Rattle.restore_steps.specs.declared.contents.files.Wanted.{Wanted}
use Rattle.restore_steps.specs.declared.contents.files.Filed.{Filed}

-- the name under which a file is written before it has its own
abbrev pub temporary_path : Text → Text
temporary_path path = path ++ codes ".pgbackrest.tmp"

-- the bytes of the file at a path, where they are known and a file is there
abbrev pub bytes_at : Text → Option Nodes → Option Text
bytes_at path None = None
bytes_at path (Some f) = file_bytes (f path)

-- the item ended with the number and the digest that are requested
abbrev pub is_wanted : Wanted → Option ItemEnd → Bool
is_wanted w None = false
is_wanted w (Some (Whole n sum)) = (n == w.size) && bytes_eq sum.0 w.sum.0
is_wanted w (Some Vanished) = false

-- and bytes of it were received
abbrev pub is_right : Wanted → ℕ → Option ItemEnd → Bool
is_right w count end = is_wanted w end && nat_lt 0 count

-- The bytes that are held of its item: those of the file where it has its own name, else those under its temporary
-- name. There is no such file before the first bytes.
abbrev pub known_by : Bool → ℕ → Text → Option Nodes → Option Text
known_by true count path nodes = bytes_at path nodes
known_by false zero path nodes = Some []
known_by false (suc n) path nodes = bytes_at (temporary_path path) nodes

abbrev pub held_by : Bool → ℕ → Text → Option Nodes → Held
held_by right count path nodes = record { count = count; known = known_by right count path nodes }

-- an item that has ended is done, and nothing is held of the one after it
abbrev pub done_by : Option ItemEnd → Held → List Done
done_by None held = []
done_by (Some how) held = (record { held = held; end = how }) ∷ []

abbrev pub next_by : Option ItemEnd → Held → Held
next_by None held = held
next_by (Some how) held = record { count = 0; known = Some [] }

abbrev pub kept_by : Option Nodes → Wanted → ℕ → Option ItemEnd → JobItems
kept_by nodes w count end = record {
  done = done_by end (held_by (is_right w count end) count w.path.now nodes);
  held = next_by end (held_by (is_right w count end) count w.path.now nodes);
}

-- what is held of a file's job, where the data folder holds these nodes
abbrev pub kept_of : Option Nodes → Filed → JobItems
kept_of nodes f = kept_by nodes f.wanted f.count f.end

abbrev pub wanted_of : Filed → Wanted
wanted_of f = f.wanted

abbrev pub path_of : Filed → Text
path_of f = f.wanted.path.now

-- nothing was received of it yet
abbrev pub untouched_of : Wanted → Filed
untouched_of w = record { wanted = w; count = 0; end = None }

-- the node is a file of this time
abbrev pub IsFileOf : ℕ → Option Node → Type 0
IsFileOf time node = (bytes : Text) × (node ≡ Some (file bytes time))

-- where the tree is known, a file of this time is at the path, and nothing at its temporary name
abbrev pub IsInPlace : Text → ℕ → Option Nodes → Type 0
IsInPlace path time nodes = IfSome nodes (λ f. IsFileOf time (f path) × (f (temporary_path path) ≡ None))

-- a file that has its own name is in its place, with the time that is requested
abbrev pub IsTidy : Option Nodes → Filed → Type 0
IsTidy nodes f = is_right f.wanted f.count f.end ≡ true → IsInPlace f.wanted.path.now f.wanted.time nodes

abbrev pub AllTidy : Option Nodes → List Filed → Type 0
AllTidy nodes fs = (k : ℕ) (f : Filed) → slice_get fs k ≡ Some f → IsTidy nodes f

-- while its item is open, the bytes that were received lie in a file under its temporary name
abbrev pub IsUnderWay : Option Nodes → Filed → Type 0
IsUnderWay nodes f = f.end ≡ None → 0 < f.count → IsFileAt nodes (temporary_path f.wanted.path.now)

-- each file lies where a keeper counts on it
pub record AreInOrder (nodes : Option Nodes) (fs : List Filed) : Type 0 where
  pub tidy : AllTidy nodes fs
  pub begun : (k : ℕ) (f : Filed) → slice_get fs k ≡ Some f → IsUnderWay nodes f

-- ---- what calls leave

-- at each path but the file's two the tree holds the same
abbrev pub SameBeside : Text → Option Nodes → Option Nodes → Type 0
SameBeside path old new = (q : Text) → q ≢ path → q ≢ temporary_path path → at q new ≡ at q old

-- an empty file is at the name, where no bytes were there; else all is unchanged
pub record IsBegun (count : ℕ) (name : Text) (old new : Option Nodes) : Type 0 where
  pub first : count ≡ 0 → (time : ℕ) × (new ≡ option_map (with_node name (Some (file [] time))) old)
  pub later : 0 < count → new ≡ old

-- after the bytes that were held are these
abbrev pub Grows : ℕ → Text → Text → Option Nodes → Option Nodes → Type 0
Grows count path bytes old new = (before : Text) → count ≡ length before
    → IfSome (known_by false count path old) (λ t. t ≡ before)
    → IfSome (bytes_at (temporary_path path) new) (λ t. t ≡ before ++ bytes)

-- the tree with the file of the temporary name under its own, and with this time
abbrev pub put_in_tree : Text → ℕ → Nodes → Nodes
put_in_tree path time f = moved_node (temporary_path path) path (timed_file (temporary_path path) time f)

-- the file under the temporary name has its own, and this time
pub record IsPut (path : Text) (time : ℕ) (old new : Option Nodes) : Type 0 where
  pub there : IsFileAt old (temporary_path path)
  pub moved : new ≡ option_map (put_in_tree path time) old
