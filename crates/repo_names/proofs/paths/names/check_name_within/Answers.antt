use Rattle.std.proofs.Common.{◌≡◌, false, sym, ◌∙◌, rules, arith}
use Rattle.std.proofs.lemmas.Bool.Decides.{nat_tests}
use Rattle.repo_names.specs.declared.paths.names.NameFault.{NameFault}
use Rattle.repo_names.specs.declared.paths.names.NameFault.TheVariants.{Empty, TooLong, Equals, Control, Head, Dots}
use Rattle.repo_names.specs.Faults.{has_fault}
use Rattle.repo_names.proofs.Faultless.{is_path, is_refused}
use Rattle.repo_names.proofs.paths.names.check_name_within.Goals as goal

pub returns-then-has_empty-clause-good : goal.returns-then-has_empty-clause-good
returns-then-has_empty-clause-good c = is_refused c.args.limit c.args.path.now Empty (sym c.has_empty.ensures ∙ c.if-has_empty.true)

pub returns-then-has_equals-clause-good : goal.returns-then-has_equals-clause-good
returns-then-has_equals-clause-good c = is_refused c.args.limit c.args.path.now Equals (sym c.has_equals.ensures ∙ c.if-has_equals.true)

pub returns-then-has_control-clause-good : goal.returns-then-has_control-clause-good
returns-then-has_control-clause-good c = is_refused c.args.limit c.args.path.now Control (sym c.has_control.ensures ∙ c.if-has_control.true)

pub returns-then-has_marked-clause-good : goal.returns-then-has_marked-clause-good
returns-then-has_marked-clause-good c = is_refused c.args.limit c.args.path.now Head (sym c.has_marked.ensures ∙ c.if-has_marked.true)

pub returns-then-has_dots-clause-good : goal.returns-then-has_dots-clause-good
returns-then-has_dots-clause-good c = is_refused c.args.limit c.args.path.now Dots (sym c.has_dots.ensures ∙ c.if-has_dots.true)

pub returns-clause-good : goal.returns-clause-good
returns-clause-good c =
    let none : (fault : NameFault) → has_fault c.args.limit fault c.args.path.now ≡ false = λ fault. elim fault as (λ f. has_fault c.args.limit f c.args.path.now ≡ false) [
      | Empty ↦ sym c.has_empty.ensures ∙ c.if-has_empty.false
      | TooLong ↦ grind (arith, nat_tests, c.if-path-limit.false)
      | Equals ↦ sym c.has_equals.ensures ∙ c.if-has_equals.false
      | Control ↦ sym c.has_control.ensures ∙ c.if-has_control.false
      | Head ↦ sym c.has_marked.ensures ∙ c.if-has_marked.false
      | Dots ↦ sym c.has_dots.ensures ∙ c.if-has_dots.false
    ] in
    (λ _. is_path c.args.limit c.args.path.now c.utf8.path none, λ _. search rules)
