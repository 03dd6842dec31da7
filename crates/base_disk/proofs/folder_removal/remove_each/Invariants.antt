use Rattle.std.proofs.Common.{◌≡◌, ◌≤◌, ◌<◌, ℕ, true, None, get_or, string_bytes}
use Rattle.std.specs.Prelude.{IsTrue, nat_eq}
use Rattle.std.specs.List.{starts_with}
use Rattle.base_devices.specs.Moments.{GrowsBy}
use Rattle.base_devices.specs.declared.disk.Found.{Found}
use Rattle.base_disk.specs.Dropped.{IsAbsent, Drops}
use Rattle.base_disk.proofs.folder_removal.remove_each.Given as goal

abbrev pub invariant-loop-each : goal.invariant-loop-each
invariant-loop-each g l = let D = g.D.Disk in record {
  gone : (k : ℕ) (x : Found) → k < l.each-index → starts_with nat_eq (string_bytes (get_or l.found k x).name) l.prefix ≡ true → IsAbsent (D.state l.d).view.now (string_bytes (get_or l.found k x).name);
  drops : Drops (λ n. starts_with nat_eq n l.prefix) (D.state l.fn.d).view.now (D.state l.d).view.now;
  time : GrowsBy (λ n v. IsTrue (starts_with nat_eq n l.prefix) × (v ≡ None)) (λ _. ⊥) (D.state l.fn.d).view (D.state l.d).view;
  place : (D.state l.d).opened ≡ (D.state l.fn.d).opened;
  proper : (D.state l.d).faulty_calls ≡ (D.state l.fn.d).faulty_calls;
  later : (D.state l.fn.d).faults ≤ (D.state l.d).faults;
}
