use Rattle.std.proofs.Common.{◌≤◌, ◌^◌, [], ◌∷◌, ◌++◌, get_or, refl, sym, ap, ◌∙◌, arith, lit<}
use Rattle.std.proofs.Math.Nat.{pow-le-pow_right}
use Rattle.std.proofs.lemmas.List.{take_more}
use Rattle.base_model.specs.Text.{hex_upper}
use Rattle.repo_names.proofs.Digits.{hex_upper-push, hex_upper-at, fits-push}
use Rattle.repo_names.proofs.wal.fields.read_field.Goals as goal

pub loop-digit-init : goal.loop-digit-init
unfolding hex_upper
loop-digit-init c = (refl, omega arith)

pub overflow_mul-value : goal.overflow_mul-value
overflow_mul-value c =
    let most : 16 ^ c.loop-digit.digit-index ≤ 16 ^ 7 = pow-le-pow_right {n = 16} (lit< tt) {i = c.loop-digit.digit-index} {j = 7} (omega arith) in
    omega arith

pub returns-in_err-digit_value-clause-none : goal.returns-in_err-digit_value-clause-none
returns-in_err-digit_value-clause-none c =
    rw c.from_residual.ensures (λ n e.
    let i = c.loop-digit.digit-index in
    let w = hex_upper-at 8 n i (omega arith) in
    c.in_err-digit_value.ensures.none w.0 w.1 (ap (λ t. get_or t i 0) e ∙ w.2))

pub loop-digit-preserved : goal.loop-digit-preserved
loop-digit-preserved c =
    let i = c.loop-digit.digit-index in
    let v = c.loop-digit.value in
    let digits = c.args.digits.now in
    let d = c.in_ok-digit_value.field-0 in
    let model = c.in_ok-digit_value.ensures.value in
    rw c.from.ensures (
      take_more digits i 0 (omega arith) ∙ ap (λ t. t ++ get_or digits i 0 ∷ []) c.loop-digit.invariant.0 ∙ ap (λ x. hex_upper i v ++ x ∷ []) model.1 ∙ sym (hex_upper-push i v d model.0),
      fits-push i v d c.loop-digit.invariant.1 model.0,
    )
