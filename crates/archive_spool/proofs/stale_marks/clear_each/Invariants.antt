use Rattle.std.proofs.Common.{◌≡◌, ◌<◌, ℕ, None, map, get_or, string_bytes}
use Rattle.base_devices.specs.States.{Works}
use Rattle.base_devices.specs.declared.disk.Found.{Found}
use Rattle.base_disk.specs.Dropped.{IsAbsent}
use Rattle.archive_spool.specs.Clearing.{IsStaleAt, Lessens}
use Rattle.archive_spool.proofs.stale_marks.clear_each.Given as goal

abbrev pub invariant-loop-each : goal.invariant-loop-each
invariant-loop-each g l = let S = g.S.Disk in record {
  gone : (k : ℕ) (x : Found) → k < l.each-index → IsStaleAt l.prefix (map string_bytes l.receipts) (string_bytes (get_or l.found k x).name) → IsAbsent (S.state l.spool).view.now (string_bytes (get_or l.found k x).name);
  drops : Lessens (IsStaleAt l.prefix (map string_bytes l.receipts)) (S.state l.fn.spool).view.now (S.state l.spool).view.now;
  works : Works (λ n v. IsStaleAt l.prefix (map string_bytes l.receipts) n × (v ≡ None)) (λ _. ⊥) (S.state l.fn.spool) (S.state l.spool);
}
