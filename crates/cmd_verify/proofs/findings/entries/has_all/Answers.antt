use Rattle.std.proofs.Common.{get_or, None, subst, sym, List}
use Rattle.std.proofs.lemmas.List.{get_or_default, take_all}
use Rattle.base_model.specs.declared.labels.Label.{Label}
use Rattle.base_model.specs.Text.{In}
use Rattle.cmd_verify.proofs.Adding.{at_place}
use Rattle.cmd_verify.proofs.Listed.{all_more}
use Rattle.cmd_verify.proofs.findings.entries.has_all.Goals as goal

abbrev none : Label
none = record { full = 0; later = None }

pub loop-label-init : goal.loop-label-init
loop-label-init c = λ k at. absurd at

pub loop-label-preserved : goal.loop-label-preserved
loop-label-preserved c =
    let l = c.loop-label in
    let x = get_or c.args.others.now l.label-index none in
    all_more c.args.labels.now c.args.others.now l.label-index x c.loop-label-test.true (get_or_default c.args.others.now l.label-index none x c.loop-label-test.true) l.invariant (c.is_among.ensures.yes c.if-not-is_among.false)

pub returns-then-not-is_among-clause-no : goal.returns-then-not-is_among-clause-no
returns-then-not-is_among-clause-no c = λ _ all.
    let l = c.loop-label in
    let x = get_or c.args.others.now l.label-index none in
    c.is_among.ensures.no c.if-not-is_among.true (all x (at_place c.args.others.now l.label-index x c.loop-label-test.true (get_or_default c.args.others.now l.label-index none x c.loop-label-test.true)))

pub returns-clause-yes : goal.returns-clause-yes
returns-clause-yes c = λ _ k at.
    c.loop-label.invariant k (subst (λ (ls : List Label). In k ls) (sym (take_all c.loop-label.label-index c.args.others.now c.loop-label-test.false)) at)
