use Rattle.std.proofs.Common.{◌≡◌, ◌∙◌, List, sym, subst, refl, Bool, true, false, None, take}
use Rattle.std.proofs.lemmas.List.{take_all}
use Rattle.base_model.specs.declared.labels.Label.{Label}
use Rattle.base_model.specs.Text.{In}
use Rattle.backup_record.proofs.Referring.{in_here, none_next}
use Rattle.backup_record.proofs.references.is_among.Goals as goal

pub returns-then-is_same : goal.returns-then-is_same
returns-then-is_same c = (
  λ t. subst (λ (l : Label). In l c.args.labels.now) (sym (c.is_same.ensures.0 c.if-is_same.true)) (in_here c.args.labels.now c.loop-other.other-index (record { full = 0; later = None }) c.loop-other-test.true),
  λ k. refl,
)

pub loop-other-preserved : goal.loop-other-preserved
loop-other-preserved c = none_next c.args.labels.now c.loop-other.other-index (record { full = 0; later = None }) c.loop-other-test.true c.args.label c.loop-other.invariant
    (λ e. let t = c.is_same.ensures.1 e in let both : ◌≡◌ {A = Bool} true false = sym t ∙ c.if-is_same.false in cc)

pub returns : goal.returns
returns c = (
  λ t. (let both : ◌≡◌ {A = Bool} false true = t in cc),
  λ k. absurd (c.loop-other.invariant (subst (λ (ls : List Label). In c.args.label ls) (sym (take_all c.loop-other.other-index c.args.labels.now c.loop-other-test.false)) k)),
)
