use Rattle.std.proofs.Common.{inr, List, ℕ, sym, ◌∙◌, subst}
use Rattle.base_model.specs.Text.{In}
use Rattle.repo_ini.specs.Parts.{section_of}
use Rattle.repo_keys.specs.Foreign.{names_of}
use Rattle.repo_keys.proofs.Foreign.{among, not_among}
use Rattle.repo_keys.proofs.Seeking.{here, whole_next, others_next, others_end}
use Rattle.repo_keys.proofs.foreign_sections.foreign_part.Goals as goal

pub returns-then-not-is_among-clause-some : goal.returns-then-not-is_among-clause-some
returns-then-not-is_among-clause-some c =
    let part = c.part-item.result in
    let names = names_of c.args.names.now in
    let off = not_among names c.as_str.result.now (sym c.is_among.ensures ∙ c.if-not-is_among.true) in (
      here section_of c.args.parts.now c.loop-part.part-index part c.loop-part-test.true c.part-item.is c.loop-part.invariant.whole,
      subst (λ (n : List ℕ). ¬ In n names) c.as_str.ensures.value off,
    )

pub loop-part-init : goal.loop-part-init
loop-part-init c = record { others = λ y j. inr j; whole = λ y j. j }

pub loop-part-preserved : goal.loop-part-preserved
loop-part-preserved c =
    let parts = c.args.parts.now in
    let part = c.part-item.result in
    let names = names_of c.args.names.now in
    let on = among names c.as_str.result.now (sym c.is_among.ensures ∙ c.if-not-is_among.false) in
    let model = subst (λ (n : List ℕ). In n names) c.as_str.ensures.value on in
    record {
      others = others_next section_of (λ z. In z.name names) parts c.loop-part.part-index part c.loop-part-test.true c.part-item.is model c.loop-part.invariant.others;
      whole = whole_next section_of parts c.loop-part.part-index part c.loop-part-test.true c.part-item.is c.loop-part.invariant.whole;
    }

pub returns-clause-none : goal.returns-clause-none
returns-clause-none c = others_end section_of (λ z. In z.name (names_of c.args.names.now)) c.args.parts.now c.loop-part.part-index c.loop-part-test.false c.loop-part.invariant.others
