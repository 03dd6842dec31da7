use Rattle.std.proofs.Common.{◌≡◌, ℕ, List, true, string_bytes, bytes_eq}
use Rattle.std.specs.List.{list_any, list_all}
use Rattle.memory_devices.specs.Nodes.{nodes_at, is_placed}
use Rattle.memory_devices.proofs.nodes.first_lost.Given as goal

abbrev pub invariant-loop-path : goal.invariant-loop-path
invariant-loop-path l = record {
  placed : list_all (λ e. is_placed (nodes_at l.nodes) (string_bytes e.0)) l.path-iterator ≡ list_all (λ e. is_placed (nodes_at l.nodes) (string_bytes e.0)) l.nodes.entries;
  there : (q : List ℕ) → list_any (λ e. bytes_eq q (string_bytes e.0)) l.path-iterator ≡ true → list_any (λ e. bytes_eq q (string_bytes e.0)) l.nodes.entries ≡ true;
}
