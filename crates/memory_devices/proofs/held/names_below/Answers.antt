use Rattle.std.proofs.Common.{◌≡◌, List, ℕ, map, string_bytes, sym, subst, rules}
use Rattle.std.specs.String.{string_cmp}
use Rattle.std.specs.BTreeMap.{IsOrdered}
use Rattle.base_devices.specs.Content.{Name, IsListing}
use Rattle.memory_devices.specs.Agrees.{bytes_at}
use Rattle.memory_devices.proofs.NamesBelow.{below_listed, below_listing}
use Rattle.memory_devices.proofs.held.names_below.Goals as goal

pub returns : goal.returns
returns c =
    let names = c.args.names.now in
    let folder = c.args.folder.now in
    let ordered : IsOrdered string_cmp names = search rules in
    let g = c.into_iter-name-iterator.ensures in
    let whole : map (λ x. (string_bytes x.name, x.size)) c.loop-name.found.items ≡ below_listed folder names = search rules in
    subst (λ (l : List (Name × ℕ)). IsListing folder (bytes_at names) l) (sym whole) (below_listing folder names ordered)
