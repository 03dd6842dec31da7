use Rattle.std.proofs.Common.{◌≡◌, ◌<◌, ℕ, true, None, get_or, string_bytes}
use Rattle.std.specs.Prelude.{IsTrue, nat_eq}
use Rattle.std.specs.List.{starts_with}
use Rattle.base_devices.specs.States.{Works}
use Rattle.base_devices.specs.declared.disk.Found.{Found}
use Rattle.base_disk.specs.Dropped.{IsAbsent, Drops}
use Rattle.cmd_archive_get_async.proofs.ahead.prefix_removal.remove_each.Given as goal

abbrev pub invariant-loop-each : goal.invariant-loop-each
invariant-loop-each g l = let S = g.S.Disk in record {
  gone : (k : ℕ) (x : Found) → k < l.each-index → starts_with nat_eq (string_bytes (get_or l.found k x).name) l.prefix ≡ true → IsAbsent (S.state l.spool).view.now (string_bytes (get_or l.found k x).name);
  drops : Drops (λ n. starts_with nat_eq n l.prefix) (S.state l.fn.spool).view.now (S.state l.spool).view.now;
  works : Works (λ n v. IsTrue (starts_with nat_eq n l.prefix) × (v ≡ None)) (λ _. ⊥) (S.state l.fn.spool) (S.state l.spool);
}
