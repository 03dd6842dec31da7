use Rattle.std.proofs.Common.{◌+◌, ◌-◌, ◌/◌, refl, sym, ap, ◌∙◌, arith, string_bytes}
use Rattle.base_devices.specs.Order.{is_before}
use Rattle.repo_manifest.proofs.Searched.{not_above, above, found}
use Rattle.repo_keys.proofs.Seeking.{known_as_same, known_apart}
use Rattle.repo_manifest.proofs.path_folders.is_listed.Goals as goal

pub returns-then-eq : goal.returns-then-eq
returns-then-eq c =
    let xs = c.args.folders.now in
    let x = c.index-folders-middle.result in
    let low = c.loop-low.low in
    let high = c.loop-low.high in
    let inv = c.loop-low.invariant in
    let m = low + (high - low) / 2 in
    let name = c.as_bytes-name.ensures.value in
    let same = known_as_same c.as_bytes-name.result.now c.args.path.now (string_bytes x) c.eq.result c.eq.ensures c.if-eq.true name in
    let less = c.loop-low-test.true in
    let bound = inv.bound in
    (λ t. found xs c.requires m x (omega (arith, less, bound)) c.index-folders-middle.is c.args.path.now same, λ p. refl)

pub loop-low-preserved-then-is_before : goal.loop-low-preserved-then-is_before
loop-low-preserved-then-is_before c =
    let xs = c.args.folders.now in
    let x = c.index-folders-middle.result in
    let low = c.loop-low.low in
    let high = c.loop-low.high in
    let inv = c.loop-low.invariant in
    let m = low + (high - low) / 2 in
    let key = c.args.path.now in
    let before = ap (is_before key) (sym c.as_bytes-name.ensures.value) ∙ sym c.is_before.ensures ∙ c.if-is_before.true in
    let less = c.loop-low-test.true in
    let bound = inv.bound in
    record {
      order = omega arith;
      bound = omega (arith, less, bound);
      there = inv.there;
      above = not_above xs c.requires m x (omega (arith, less, bound)) c.index-folders-middle.is key before;
    }

pub loop-low-preserved : goal.loop-low-preserved
loop-low-preserved c =
    let xs = c.args.folders.now in
    let x = c.index-folders-middle.result in
    let low = c.loop-low.low in
    let high = c.loop-low.high in
    let inv = c.loop-low.invariant in
    let m = low + (high - low) / 2 in
    let key = c.args.path.now in
    let name = c.as_bytes-name.ensures.value in
    let other = known_apart c.as_bytes-name.result.now key (string_bytes x) c.eq.result c.eq.ensures c.if-eq.false name in
    let before = ap (is_before key) (sym c.as_bytes-name.ensures.value) ∙ sym c.is_before.ensures ∙ c.if-is_before.false in
    let less = c.loop-low-test.true in
    let bound = inv.bound in
    record {
      order = omega (arith, less);
      bound = bound;
      there = above xs c.requires m x (omega (arith, less, bound)) c.index-folders-middle.is key other before;
      above = inv.above;
    }
