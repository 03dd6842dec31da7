-- A tree in memory: nodes by path, each in a folder that is there.
use Rattle.std.specs.declared.alloc.Global.{Global}
use Rattle.std.specs.BTreeMap.{BTreeMap, get_by_text}
use Rattle.std.specs.Prelude.{◌≡◌, ℕ, Bool, true, false, not, ◌&&◌, nat_eq, if◌then◌else◌, List, [], ◌∷◌, ◌++◌, String, string_bytes, Option, Some, None, option_map, IsSome, IsSomeAnd, fold}
use Rattle.std.specs.List.{list_any}
use Rattle.base_devices.specs.Content.{Name, is_below}
use Rattle.base_devices.specs.DataFolder.{Held, file, folder, link, other, Nodes, with_node, with_empty_file}
use Rattle.base_devices.specs.States.{DataFolderState}
use Rattle.memory_devices.specs.declared.failing.Failing.{Failing}
use Rattle.memory_devices.specs.declared.nodes.MemNode.{MemNode}
use Rattle.memory_devices.specs.declared.nodes.MemNode.TheVariants.{File, Folder, Link}
use Rattle.memory_devices.specs.Counts.{tried_on}

-- the nodes of a data folder in memory
abbrev pub node_of : MemNode → Held
node_of (File bytes time) = file bytes.items time
node_of Folder = folder
node_of Link = link

abbrev pub nodes_at : BTreeMap (String Global) MemNode → Nodes
nodes_at nodes q = option_map node_of (get_by_text nodes q)

abbrev pub is_folder : Option Held → Bool
is_folder None = false
is_folder (Some (file bytes time)) = false
is_folder (Some folder) = true
is_folder (Some link) = false
is_folder (Some other) = false

abbrev pub is_file : Option Held → Bool
is_file None = false
is_file (Some (file bytes time)) = true
is_file (Some folder) = false
is_file (Some link) = false
is_file (Some other) = false

-- a file may be put over nothing and over a file
abbrev pub takes_file : Option Held → Bool
takes_file None = true
takes_file (Some node) = is_file (Some node)

-- a folder may be made over nothing and where it is already
abbrev pub takes_folder : Option Held → Bool
takes_folder None = true
takes_folder (Some node) = is_folder (Some node)

-- a byte before the folder of the rest of a path
abbrev pub before_folder : ℕ → Option Name → Option Name
before_folder c None = if nat_eq c 47 then Some [] else None
before_folder c (Some prefix) = Some (c ∷ prefix)

-- what comes before the last slash of a path, where it has one
abbrev pub folder_of : Name → Option Name
folder_of [] = None
folder_of (c ∷ cs) = before_folder c (folder_of cs)

-- the folder that holds the path is there, as the root always is
abbrev pub is_in : Nodes → Option Name → Bool
is_in nodes None = true
is_in nodes (Some prefix) = is_folder (nodes prefix)

abbrev pub is_placed : Nodes → Name → Bool
is_placed nodes path = is_in nodes (folder_of path)

-- where a make, a begin and a rename succeed
abbrev pub may_make : Nodes → Name → Bool
may_make nodes path = is_placed nodes path && takes_folder (nodes path)

abbrev pub may_begin : Nodes → Name → Bool
may_begin nodes path = is_placed nodes path && takes_file (nodes path)

abbrev pub may_move : Nodes → Name → Name → Bool
may_move nodes from to = (is_file (nodes from) && is_placed nodes to) && not (is_folder (nodes to))

-- each node is in a folder that is there
abbrev pub Rooted : Nodes → Type 0
Rooted nodes = (path : Name) → IsSome (nodes path) → is_placed nodes path ≡ true

-- a node is there, and its folder isn't
abbrev pub IsLost : Nodes → Name → Type 0
IsLost nodes path = IsSome (nodes path) × (is_placed nodes path ≡ false)

-- these nodes, the last of each path counting
abbrev pub tree_at : List (String Global × MemNode) → Nodes
tree_at = fold (λ f x. with_node (string_bytes x.0) (Some (node_of x.1)) f) (λ _. None)

-- a data folder has these nodes
abbrev pub HasTree : List (String Global × MemNode) → DataFolderState → Type 0
HasTree nodes tree = tree.nodes ≡ Some (tree_at nodes)

-- it has this node at the path, or none
abbrev pub HasNode : Name → Option Held → DataFolderState → Type 0
HasNode path node tree = IsSomeAnd tree.nodes (λ f. node ≡ f path)

-- nothing lies below the path
abbrev pub holds_nothing : Name → BTreeMap (String Global) MemNode → Bool
holds_nothing path nodes = not (list_any (λ e. is_below path (string_bytes e.0)) nodes.entries)

-- a file with more bytes at its end, and its time
abbrev pub longer_node : List ℕ → Held → Held
longer_node more (file bytes time) = file (bytes ++ more) time
longer_node more folder = folder
longer_node more link = link
longer_node more other = other

-- with these bytes at the end of the file at the path
abbrev pub with_longer : Name → List ℕ → Nodes → Nodes
with_longer path bytes nodes = with_node path (option_map (longer_node bytes) (nodes path)) nodes

-- with a file of no bytes at the path, where it was begun
abbrev pub begun_if : Bool → Name → Nodes → Nodes
begun_if made path nodes = if made then with_empty_file path 0 nodes else nodes

-- ---- the counts after a call

-- after a make, a begin and a rename
abbrev pub tried_make : Nodes → Name → Failing → Failing
tried_make nodes path = tried_on (is_placed nodes path) (takes_folder (nodes path))

abbrev pub tried_begin : Nodes → Name → Failing → Failing
tried_begin nodes path = tried_on (is_placed nodes path) (takes_file (nodes path))

abbrev pub tried_move : Nodes → Name → Name → Failing → Failing
tried_move nodes from to = tried_on (is_file (nodes from) && is_placed nodes to) (not (is_folder (nodes to)))
