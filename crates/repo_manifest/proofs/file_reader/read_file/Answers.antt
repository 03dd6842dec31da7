use Rattle.std.proofs.Common.{◌≢◌, codes, sym, subst, arith, inl, inr}
use Rattle.std.specs.Prelude.{IsTrue}
use Rattle.base_model.specs.Text.{Text}
use Rattle.base_model.specs.Paths.{IsPath}
use Rattle.base_devices.specs.Crash.{IsTemporary}
use Rattle.repo_manifest.specs.Alone.{IsSignal}
use Rattle.repo_manifest.proofs.Forms.{no_truth}
use Rattle.repo_manifest.proofs.file_reader.read_file.Goals as goal

pub returns-clause-rules : goal.returns-clause-rules
returns-clause-rules c =
    let t = c.in-Some-2.known in
    let path = sym c.in_ok-to_string.ensures.ok in
    let stored = c.in-Some.ensures.some.0 in
    let sum = rw c.in-Some-2.is at c.in_ok-known.ensures.sum in
    let reference = rw c.in-Some-2.is at c.in_ok-known.ensures.reference in
    let bundle = rw c.in-Some-2.is at c.in_ok-known.ensures.bundle in
    let empty = rw c.in-Some-2.is at c.in_ok-known.ensures.empty in
    let plain : ¬ IsSignal c.in-Some.path.now = λ s. no_truth (subst IsTrue c.if-is_signal.false (c.is_signal.ensures.1 s)) in
    record {
      path = subst IsPath path stored.0;
      lasting = subst (λ (p : Text). ¬ IsTemporary p) path stored.1;
      signal = subst (λ (p : Text). (p ≢ codes "recovery.signal") × (p ≢ codes "standby.signal")) path (λ e. plain (inl e), λ e. plain (inr e));
      size = omega arith;
      time = omega arith;
      sum = sum;
      empty = empty;
      reference = reference;
      bundle = bundle;
    }
