use Rattle.std.proofs.Common.{◌≡◌, List, map, string_bytes, sym, subst, rules}
use Rattle.std.specs.String.{string_cmp}
use Rattle.std.specs.BTreeMap.{IsOrdered}
use Rattle.base_devices.specs.declared.data_folder.Node.{Node}
use Rattle.base_devices.specs.Content.{Name}
use Rattle.base_devices.specs.DataFolder.{IsFolderListing}
use Rattle.memory_devices.specs.Nodes.{nodes_at}
use Rattle.memory_devices.proofs.Trees.{within_listed, folder_listing}
use Rattle.memory_devices.proofs.nodes.list_nodes_within.Goals as goal

pub returns : goal.returns
returns c =
    let nodes = c.args.nodes.now in
    let folder = c.args.folder.now in
    let ordered : IsOrdered string_cmp nodes = search rules in
    let whole : map (λ s. (string_bytes s.path, s.node)) c.loop-path.seen.items ≡ within_listed folder nodes.entries = search rules in
    subst (λ (l : List (Name × Node)). IsFolderListing (nodes_at nodes) folder l) (sym whole) (folder_listing nodes ordered folder)
