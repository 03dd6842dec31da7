use Rattle.std.proofs.Common.{[], ◌≤◌, ℕ, List, String, Global, map, length, refl, sym, ap, ap₂, ◌∙◌, subst, arith, string_bytes}
use Rattle.std.specs.Prelude.{if◌then◌else◌}
use Rattle.serde_json.specs.declared.value.Value.{Value}
use Rattle.base_devices.specs.Order.{is_before}
use Rattle.base_model.specs.InfoText.{IsKey}
use Rattle.repo_ini.specs.Parts.{key_of}
use Rattle.repo_keys.specs.Agree.{IsFirstDifference}
use Rattle.repo_keys.proofs.Numbers.{all_in, unlike}
use Rattle.repo_keys.proofs.Walked.{walk_next, walk_apart, walk_first, walk_second, walk_in_first, walk_in_second, same_item}
use Rattle.repo_keys.proofs.differences.first_difference.Goals as goal
use Rattle.repo_keys.proofs.differences.first_difference.Goals.{then-loop-i-test+else-i-b, else-loop-i-test}

pub loop-i-init : goal.loop-i-init
loop-i-init c = ([], refl, refl)

pub is_same_key-requires-clause-first : goal.is_same_key-requires-clause-first
is_same_key-requires-clause-first c =
    let a = c.args.a.now in
    let x = c.index-a-i.result in
    all_in IsKey (map key_of a) (key_of x) c.requires.keys (walk_in_first key_of a c.args.b.now c.loop-i.i x c.loop-i-test.true c.index-a-i.is c.loop-i.invariant)

pub is_same_key-requires-clause-second : goal.is_same_key-requires-clause-second
is_same_key-requires-clause-second c =
    let b = c.args.b.now in
    let y = c.index-b-i.result in
    all_in IsKey (map key_of b) (key_of y) c.requires.others (walk_in_second key_of c.args.a.now b c.loop-i.i y c.if-i-b.true c.index-b-i.is c.loop-i.invariant)

pub returns-then-not-branch-clause-some : goal.returns-then-not-branch-clause-some
returns-then-not-branch-clause-some c =
    let a = c.args.a.now in
    let b = c.args.b.now in
    let i = c.loop-i.i in
    let x = c.index-a-i.result in
    let y = c.index-b-i.result in
    let x2 = c.index-a-i-then-not-branch.result in
    let y2 = c.index-b-i-then-not-branch.result in
    let apart = unlike c.in_ok-is_same_key.field-0 c.in_ok-is_same_key.ensures.1 c.if-not-branch.true in
    let found = walk_apart key_of a b i c.requires.ordered c.requires.order c.loop-i.invariant x y c.loop-i-test.true c.if-i-b.true c.index-a-i.is c.index-b-i.is apart in
    let name = λ (z : String Global × Value). string_bytes z.0 in
    let first = c.as_str.ensures.value ∙ ap name (sym c.index-a-i-then-not-branch.is ∙ same_item a i x2 x c.loop-i-test.true c.index-a-i-then-not-branch.is c.index-a-i.is) in
    let second = c.as_str-then-not-branch.ensures.value ∙ ap name (sym c.index-b-i-then-not-branch.is ∙ same_item b i y2 y c.if-i-b.true c.index-b-i-then-not-branch.is c.index-b-i.is) in
    let key = c.lower.ensures ∙ ap₂ (λ (m n : List ℕ). if is_before n m then n else m) first second in
    subst (IsFirstDifference (map key_of a) (map key_of b)) (sym key) found

pub loop-i-preserved : goal.loop-i-preserved
loop-i-preserved c = walk_next key_of c.args.a.now c.args.b.now c.loop-i.i c.index-a-i.result c.index-b-i.result c.loop-i-test.true c.if-i-b.true c.index-a-i.is c.index-b-i.is (c.in_ok-is_same_key.ensures.0 (c.if-not-branch.false)) c.loop-i.invariant

pub returns-then-i-a-clause-some : goal.returns-then-i-a-clause-some
returns-then-i-a-clause-some c =
    let a = c.args.a.now in
    let b = c.args.b.now in
    let i = c.loop-i.i in
    let x = c.index-a-i-then-i-a.result in
    let high : length b ≤ i = elim c.loop-i-test.branch [
      | then-loop-i-test+else-i-b w ↦ omega (arith, w.if-i-b.false)
      | else-loop-i-test w ↦ omega (arith, w.loop-i-test.false, c.if-i-a.true)
    ] in
    let found = walk_first key_of a b i c.requires.ordered c.requires.order c.loop-i.invariant x c.if-i-a.true high c.index-a-i-then-i-a.is in
    subst (IsFirstDifference (map key_of a) (map key_of b)) (sym (c.as_str-then-i-a.ensures.value ∙ ap (λ (z : String Global × Value). string_bytes z.0) (sym c.index-a-i-then-i-a.is))) found

pub returns-then-i-b-2-clause-some : goal.returns-then-i-b-2-clause-some
returns-then-i-b-2-clause-some c =
    let a = c.args.a.now in
    let b = c.args.b.now in
    let i = c.loop-i.i in
    let y = c.index-b-i-then-i-b-2.result in
    let found = walk_second key_of a b i c.requires.ordered c.requires.order c.loop-i.invariant y c.if-i-a.false c.if-i-b-2.true c.index-b-i-then-i-b-2.is in
    subst (IsFirstDifference (map key_of a) (map key_of b)) (sym (c.as_str-then-i-b-2.ensures.value ∙ ap (λ (z : String Global × Value). string_bytes z.0) (sym c.index-b-i-then-i-b-2.is))) found
