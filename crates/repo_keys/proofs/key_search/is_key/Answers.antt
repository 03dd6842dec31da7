use Rattle.std.proofs.Common.{◌≡◌, ◌+◌, ◌-◌, ◌/◌, Bool, true, false, List, ℕ, String, Global, map, drop, refl, sym, ap, ◌∙◌, subst, arith, string_bytes}
use Rattle.std.specs.Prelude.{IsTrue}
use Rattle.serde_json.specs.declared.value.Value.{Value}
use Rattle.base_devices.specs.Order.{is_before}
use Rattle.base_model.specs.Text.{In}
use Rattle.repo_ini.specs.Parts.{key_of}
use Rattle.repo_keys.proofs.Halves.{not_above, above, here}
use Rattle.repo_keys.proofs.Seeking.{known_as_same, known_apart}
use Rattle.repo_keys.proofs.key_search.is_key.Goals as goal

no_truth : IsTrue false → ⊥
no_truth t = let e : ◌≡◌ {A = Bool} false true = t in cc

pub returns-then-eq : goal.returns-then-eq
returns-then-eq c =
    let keys = c.args.keys.now in
    let x = c.index-keys-middle.result in
    let low = c.loop-low.low in
    let high = c.loop-low.high in
    let inv = c.loop-low.invariant in
    let m = low + (high - low) / 2 in
    let name = c.as_str-name.ensures.value ∙ ap (λ (z : String Global × Value). string_bytes z.0) (sym c.index-keys-middle.is) in
    let same = known_as_same c.as_str-name.result.now c.args.key.now (string_bytes x.0) c.eq.result c.eq.ensures c.if-eq.true name in
    let less = c.loop-low-test.true in
    let bound = inv.bound in
    (λ t. here key_of keys c.requires m x (omega (arith, less, bound)) c.index-keys-middle.is c.args.key.now same, λ p. refl)

pub loop-low-preserved-then-is_before : goal.loop-low-preserved-then-is_before
loop-low-preserved-then-is_before c =
    let keys = c.args.keys.now in
    let x = c.index-keys-middle.result in
    let low = c.loop-low.low in
    let high = c.loop-low.high in
    let inv = c.loop-low.invariant in
    let m = low + (high - low) / 2 in
    let key = c.args.key.now in
    let name = c.as_bytes-in-loop-low.ensures.value ∙ c.as_str-name.ensures.value ∙ ap (λ (z : String Global × Value). string_bytes z.0) (sym c.index-keys-middle.is) in
    let before = ap (λ (t : List ℕ). is_before t (string_bytes x.0)) (sym c.as_bytes.ensures.value) ∙ ap (is_before c.as_bytes.result.now) (sym name) ∙ sym c.is_before.ensures ∙ c.if-is_before.true in
    let less = c.loop-low-test.true in
    let bound = inv.bound in
    record {
      order = omega arith;
      bound = omega (arith, less, bound);
      there = inv.there;
      above = not_above key_of keys c.requires m x (omega (arith, less, bound)) c.index-keys-middle.is key before;
    }

pub loop-low-preserved : goal.loop-low-preserved
loop-low-preserved c =
    let keys = c.args.keys.now in
    let x = c.index-keys-middle.result in
    let low = c.loop-low.low in
    let high = c.loop-low.high in
    let inv = c.loop-low.invariant in
    let m = low + (high - low) / 2 in
    let key = c.args.key.now in
    let name = c.as_str-name.ensures.value ∙ ap (λ (z : String Global × Value). string_bytes z.0) (sym c.index-keys-middle.is) in
    let other = known_apart c.as_str-name.result.now key (string_bytes x.0) c.eq.result c.eq.ensures c.if-eq.false name in
    let bytes = c.as_bytes-in-loop-low.ensures.value ∙ name in
    let before = ap (λ (t : List ℕ). is_before t (string_bytes x.0)) (sym c.as_bytes.ensures.value) ∙ ap (is_before c.as_bytes.result.now) (sym bytes) ∙ sym c.is_before.ensures ∙ c.if-is_before.false in
    let less = c.loop-low-test.true in
    let bound = inv.bound in
    record {
      order = omega (arith, less);
      bound = bound;
      there = above key_of keys c.requires m x (omega (arith, less, bound)) c.index-keys-middle.is key other before;
      above = inv.above;
    }

pub returns : goal.returns
returns c =
    let inv = c.loop-low.invariant in
    let keys = c.args.keys.now in
    let order = inv.order in
    let done = c.loop-low-test.false in
    let same : c.loop-low.low ≡ c.loop-low.high = omega (arith, order, done) in
    (λ t. absurd (no_truth t), λ p. absurd (inv.above p.0 (subst (λ (k : ℕ). In (c.args.key.now, p.0) (map key_of (drop k keys))) same (inv.there p.0 p.1))))
