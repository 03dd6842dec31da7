use Rattle.std.proofs.Common.{List, ℕ, sym, ap, ap₂, ◌∙◌}
use Rattle.serde_json.specs.Data.{Data}
use Rattle.base_model.specs.Fields.{Field}
use Rattle.base_model.specs.Names.{label_text}
use Rattle.repo_names.proofs.LabelTexts.{label_text-injective}
use Rattle.repo_info.proofs.listed.next_of.Goals as goal

pub returns-in_default-2-clause-none : goal.returns-in_default-2-clause-none
returns-in_default-2-clause-none c = λ e next.
    let value = c.in-Some.ensures.value in
    let none = rw c.in_default-2.is at c.in_ok-entry.ensures.none in
    let name = sym (ap (λ (k : Field). k.0) next.field) ∙ sym c.as_bytes.ensures.value ∙ value.1 in
    none e next.rules (label_text-injective e.label c.in-Some.label next.rules.labels.label value.0 name) (ap (λ (k : Field). k.1) next.field)

pub returns-then-branch-clause-some : goal.returns-then-branch-clause-some
returns-then-branch-clause-some c =
    let value = c.in-Some.ensures.value in
    let some = rw c.in-Some-2.is at c.in_ok-entry.ensures.some in
    let name = sym c.as_bytes.ensures.value ∙ value.1 ∙ ap label_text (sym some.1) in
    record {
      rules = some.0;
      field = ap₂ (λ (n : List ℕ) (d : Data). let f : Field = (n, d) in f) name some.2;
      prior = c.in_ok-has_prior.ensures.0 c.if-branch.true;
    }
