use Rattle.std.proofs.Common.{◌≡◌, string_bytes}
use Rattle.std.specs.List.{list_any}
use Rattle.base_devices.specs.Content.{is_below}
use Rattle.memory_devices.proofs.nodes.is_bare.Given as goal

abbrev pub invariant-loop-other : goal.invariant-loop-other
invariant-loop-other l = list_any (λ e. is_below l.path (string_bytes e.0)) l.other-iterator ≡ list_any (λ e. is_below l.path (string_bytes e.0)) l.nodes.entries
