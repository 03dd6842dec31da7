use Rattle.std.proofs.Common.{◌≡◌, ◌≤◌, ◌-◌, ◌⊎◌, vec_len}
use Rattle.std.specs.Prelude.{IfSome}
use Rattle.base_devices.specs.DataFolder.{file_bytes, known_path}
use Rattle.base_disk.proofs.Read.{IsPrefixOf}
use Rattle.cmd_types.proofs.stages.prefix_read.read_prefix.Given as goal

abbrev pub invariant-loop-buf : goal.invariant-loop-buf
invariant-loop-buf g l = let T = g.T.DataFolder in record {
  nodes : (T.state l.tree).nodes ≡ (T.state l.fn.tree).nodes;
  place : (T.state l.tree).opened ≡ (T.state l.fn.tree).opened;
  proper : (T.state l.tree).faulty_calls ≡ (T.state l.fn.tree).faulty_calls;
  later : (T.state l.fn.tree).faults ≤ (T.state l.tree).faults;
  prefix : (vec_len l.bytes ≡ 0) ⊎ IfSome (T.state l.fn.tree).nodes (λ f. IsPrefixOf (file_bytes (f (known_path l.what))) l.bytes.items (vec_len l.bytes));
}

abbrev pub decreases-loop-buf : goal.decreases-loop-buf
decreases-loop-buf g l = l.limit - vec_len l.bytes
