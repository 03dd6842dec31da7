use Rattle.std.proofs.Common.{◌≡◌, ◌≤◌, ◌+◌, ◌-◌, ◌⊎◌, ◌^◌, List, ℕ, length}
use Rattle.std.specs.Prelude.{IfSome}
use Rattle.sha1.specs.Sha1.{Holds}
use Rattle.base_devices.specs.States.{OnlyReads}
use Rattle.base_disk.proofs.Read.{IsPrefixOf}
use Rattle.cmd_archive_get.specs.Serving.{IsBegun}
use Rattle.cmd_archive_get.proofs.served_file.copy_new.Given as goal

abbrev pub invariant-loop-known : goal.invariant-loop-known
invariant-loop-known g l = let D = g.D.Disk in let T = g.T.DataFolder in record {
  small : l.known ≤ 2 ^ 30 + 65536;
  copied : (bytes : List ℕ) × Holds l.digest bytes × (length bytes ≡ l.known) × ((l.known ≡ 0) ⊎ IfSome (D.state l.fn.repo).view.now (λ f. IsPrefixOf (f l.from) bytes l.known)) × IsBegun l.name bytes (T.state l.fn.tree).nodes (T.state l.tree).nodes;
  looks : OnlyReads (D.state l.fn.repo) (D.state l.repo);
  tree_place : (T.state l.tree).opened ≡ (T.state l.fn.tree).opened;
  tree_later : (T.state l.fn.tree).faults ≤ (T.state l.tree).faults;
}

abbrev pub decreases-loop-known : goal.decreases-loop-known
decreases-loop-known g l = 2 ^ 30 + 1 - l.known
