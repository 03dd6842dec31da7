use Rattle.std.proofs.Common.{◌≡◌, map, string_bytes, rules}
use Rattle.std.specs.String.{string_cmp}
use Rattle.std.specs.BTreeMap.{IsOrdered}
use Rattle.memory_devices.specs.Image.{unsynced_names}
use Rattle.memory_devices.proofs.Left.{unsynced_iff}
use Rattle.memory_devices.proofs.image.unsynced_in.Goals as goal

pub returns : goal.returns
returns c =
    let traces = c.args.traces.now in
    let ordered : IsOrdered string_cmp traces = search rules in
    let g = c.into_iter-name-iterator.ensures in
    let whole : map string_bytes c.loop-name.names.items ≡ unsynced_names traces.entries = search rules in
    unsynced_iff traces ordered (map string_bytes c.loop-name.names.items) whole
