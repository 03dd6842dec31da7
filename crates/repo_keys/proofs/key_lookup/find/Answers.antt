use Rattle.std.proofs.Common.{◌≡◌, List, ℕ, map, string_bytes, refl, subst}
use Rattle.serde_json.specs.View.{view}
use Rattle.base_model.specs.Text.{In}
use Rattle.repo_ini.specs.Parts.{key_of}
use Rattle.repo_keys.proofs.Seeking.{here, whole_next, ahead_next, ahead_end, known_as_same, known_apart}
use Rattle.repo_keys.proofs.key_lookup.find.Goals as goal

pub returns-then-eq-clause-found : goal.returns-then-eq-clause-found
returns-then-eq-clause-found c =
    let keys = c.args.keys.now in
    let k = c.k-item.result in
    let same = known_as_same c.as_str.result.now c.args.key.now (string_bytes k.0) c.eq.result c.eq.ensures c.if-eq.true c.as_str.ensures.value in
    subst (λ (n : List ℕ). In (n, view k.1) (map key_of keys)) same (here key_of keys c.loop-k.k-index k c.loop-k-test.true c.k-item.is c.loop-k.invariant.whole)

pub loop-k-preserved : goal.loop-k-preserved
loop-k-preserved c =
    let keys = c.args.keys.now in
    let k = c.k-item.result in
    let apart = known_apart c.as_str.result.now c.args.key.now (string_bytes k.0) c.eq.result c.eq.ensures c.if-eq.false c.as_str.ensures.value in
    record {
      ahead = ahead_next key_of (λ z. z.0 ≡ c.args.key.now) keys c.loop-k.k-index k c.loop-k-test.true c.k-item.is apart c.loop-k.invariant.ahead;
      whole = whole_next key_of keys c.loop-k.k-index k c.loop-k-test.true c.k-item.is c.loop-k.invariant.whole;
    }

pub returns-clause-none : goal.returns-clause-none
returns-clause-none c = λ d i. ahead_end key_of (λ z. z.0 ≡ c.args.key.now) c.args.keys.now c.loop-k.k-index c.loop-k-test.false c.loop-k.invariant.ahead (c.args.key.now, d) i refl
