-- What a map of nodes holds at a path and below it.
use Rattle.std.proofs.Common.{◌≡◌, Bool, true, false, not, ◌∷◌, ◌++◌, Option, Some, None, IsSome, String, string_bytes, bytes_eq, refl, ◌∙◌, ap}
use Rattle.std.specs.Prelude.{option_map}
use Rattle.std.specs.List.{list_any, list_all}
use Rattle.std.specs.declared.alloc.Global.{Global}
use Rattle.std.specs.BTreeMap.{BTreeMap, get_by_text}
use Rattle.base_devices.specs.Content.{Name, is_below}
use Rattle.memory_devices.specs.declared.nodes.MemNode.{MemNode}
use Rattle.memory_devices.specs.Nodes.{nodes_at, node_of, is_placed, holds_nothing, Rooted}
use Rattle.memory_devices.proofs.Found.{found_any, all_found, none_found, none_pass}
use Rattle.memory_devices.proofs.Slashes.{below_is, below_of}

node_some : (o : Option MemNode) → IsSome o → IsSome (option_map node_of o)
node_some None some = some
node_some (Some n) some = refl

some_node : (o : Option MemNode) → IsSome (option_map node_of o) → IsSome o
some_node None some = some
some_node (Some n) some = refl

no_node : (o : Option MemNode) → option_map node_of o ≡ None → o ≡ None
no_node None is = refl
no_node (Some n) is = cc

module _ (m : BTreeMap (String Global) MemNode) where
  pub key_there : (q : Name) → list_any (λ e. bytes_eq q (string_bytes e.0)) m.entries ≡ true → IsSome (nodes_at m q)
  key_there q any = node_some (get_by_text m q) (found_any m.entries q any)

  pub all_rooted : list_all (λ e. is_placed (nodes_at m) (string_bytes e.0)) m.entries ≡ true → Rooted (nodes_at m)
  all_rooted all path some = all_found (is_placed (nodes_at m)) m.entries path all (some_node (get_by_text m path) some)

  pub bare_from : (path : Name) → holds_nothing path m ≡ true → (rest : Name) → nodes_at m (path ++ 47 ∷ rest) ≡ None
  bare_from path nothing rest = ap (option_map node_of) (none_found (is_below path) m.entries (path ++ 47 ∷ rest) (was_not (list_any (λ e. is_below path (string_bytes e.0)) m.entries) nothing) (below_of path rest))
    where
      was_not : (b : Bool) → not b ≡ true → b ≡ false
      was_not true is = cc
      was_not false is = refl

  pub bare_holds : (path : Name) → ((rest : Name) → nodes_at m (path ++ 47 ∷ rest) ≡ None) → holds_nothing path m ≡ true
  bare_holds path bare = ap not (none_pass (is_below path) m.entries (λ q below.
      let s = below_is path q below in
      no_node (get_by_text m q) (ap (nodes_at m) s.1 ∙ bare s.0)))
