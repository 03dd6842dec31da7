use Rattle.std.proofs.Common.{◌++◌, ap, sym, ◌∙◌, drop}
use Rattle.std.proofs.lemmas.List.{take_rest}
use Rattle.restore_target.specs.Moments.{written}
use Rattle.restore_target.proofs.Writing.{label_in, label_in-written, is_written}
use Rattle.restore_target.proofs.moments.label_digits.Goals as goal

pub returns-clause-value : goal.returns-clause-value
returns-clause-value c t e =
    let text = c.args.text.now in
    let is = is_written text t c.in-len19-up.len_at_least c.if-dash-ne45.false c.if-dash2-ne45.false c.if-blank-ne32.false c.if-colon-ne58.false c.if-colon2-ne58.false e in
    is ∙ ap (λ l. written t ++ l) (sym (take_rest text 19))

pub returns-clause-digits : goal.returns-clause-digits
returns-clause-digits c t after e = ap label_in e ∙ label_in-written t after

pub returns-clause-rest : goal.returns-clause-rest
returns-clause-rest c t after e = take_rest c.args.text.now 19 ∙ ap (drop 19) e
