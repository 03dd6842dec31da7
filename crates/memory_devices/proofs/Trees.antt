-- A listing of the nodes of a tree in memory.
use Rattle.std.proofs.Common.{◌≡◌, Bool, true, List, [], ◌∷◌, ◌++◌, map, Option, Some, None, IsSome, String, string_bytes, refl, sym, ap, subst}
use Rattle.std.specs.Prelude.{option_map, Contains, filter}
use Rattle.std.specs.declared.alloc.Global.{Global}
use Rattle.std.specs.String.{string_cmp}
use Rattle.std.specs.BTreeMap.{BTreeMap, IsOrdered, get_by_text}
use Rattle.base_devices.specs.declared.data_folder.Node.{Node}
use Rattle.base_devices.specs.Content.{Name}
use Rattle.base_devices.specs.DataFolder.{Held, folder, shown, IsTreeListing, IsFolderListing}
use Rattle.memory_devices.specs.declared.nodes.MemNode.{MemNode}
use Rattle.memory_devices.specs.Nodes.{nodes_at, node_of, Rooted}
use Rattle.memory_devices.proofs.Listing.{listed, listed_each, listed_found, listed_in_order}
use Rattle.memory_devices.specs.State.{is_directly_in}
use Rattle.memory_devices.proofs.Rooted.{on_path}
use Rattle.memory_devices.proofs.Slashes.{directly_in, directly_from}

abbrev shown_node : MemNode → Node
shown_node n = shown (node_of n)

abbrev pub shown_entry : String Global × MemNode → Name × Node
shown_entry e = (string_bytes e.0, shown_node e.1)

-- every name
abbrev any : Name → Bool
any name = true

all_pass : (es : List (String Global × MemNode)) → filter (λ e. true) es ≡ es
all_pass [] = refl
all_pass (e ∷ es) = ap (λ l. e ∷ l) (all_pass es)

all_listed : (es : List (String Global × MemNode)) → listed any shown_node es ≡ map shown_entry es
all_listed es = ap (λ l. map shown_entry l) (all_pass es)

of_node : (o : Option MemNode) (held : Held) → option_map node_of o ≡ Some held → (n : MemNode) × (o ≡ Some n) × (node_of n ≡ held)
of_node None held is = cc
of_node (Some n) held is = (n, refl, cc is)

-- those right within a folder
abbrev pub within_listed : Name → List (String Global × MemNode) → List (Name × Node)
within_listed within = listed (is_directly_in within) shown_node

module _ (m : BTreeMap (String Global) MemNode) (ordered : IsOrdered string_cmp m) where
  abbrev seen : (Name → Bool) → List (Name × Node)
  seen passes = listed passes shown_node m.entries

  -- what is listed is a node
  node_there : (passes : Name → Bool) (path : Name) (node : Node) → Contains (seen passes) (path, node)
      → (passes path ≡ true) × ((held : Held) × (nodes_at m path ≡ Some held) × (node ≡ shown held))
  node_there passes path node has =
      let shows = listed_each passes shown_node m ordered (path, node) has in
      (shows.2, (node_of shows.0, ap (option_map node_of) shows.1, shows.3))

  -- a node is listed where its name passes
  there_listed : (passes : Name → Bool) (path : Name) (held : Held) → passes path ≡ true → nodes_at m path ≡ Some held → Contains (seen passes) (path, shown held)
  there_listed passes path held pass is =
      let n = of_node (get_by_text m path) held is in
      subst (λ (h : Held). Contains (seen passes) (path, shown h)) n.2 (listed_found passes shown_node m.entries path n.0 pass n.1)

  pub folder_listing : (within : Name) → IsFolderListing (nodes_at m) within (within_listed within m.entries)
  folder_listing within = record {
    each = λ path node has.
        let n = node_there (is_directly_in within) path node has in
        (directly_from within path n.0, n.1);
    all = λ path held lies is. there_listed (is_directly_in within) path held (directly_in within path lies) is;
    order = listed_in_order (is_directly_in within) shown_node m.entries ordered;
  }

  pub tree_listing : Rooted (nodes_at m) → IsTreeListing (nodes_at m) (map shown_entry m.entries)
  tree_listing rooted = subst (λ (l : List (Name × Node)). IsTreeListing (nodes_at m) l) (all_listed m.entries) (record {
    each = λ path node has. (node_there any path node has).1;
    all = λ path held is. there_listed any path held refl is;
    folders = λ prefix rest node has.
        let n = (node_there any (prefix ++ 47 ∷ rest) node has).1 in
        there_listed any prefix folder refl (on_path (nodes_at m) prefix rest rooted (subst IsSome (sym n.1) refl));
    order = listed_in_order any shown_node m.entries ordered;
  })
