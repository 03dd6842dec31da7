use Rattle.std.proofs.Common.{◌≡◌, Bool, true, false, Option, Some, None, arith, ap, ◌∙◌, sym, subst}
use Rattle.std.specs.Prelude.{decimal, if◌then◌else◌}
use Rattle.std.specs.Str.{is_utf8}
use Rattle.base_model.specs.Text.{Text}
use Rattle.archive_lookup.specs.Paths.{Lacks}
use Rattle.archive_lookup.proofs.Cuts.{divided, undivided, decimal_lacks}
use Rattle.archive_spool.proofs.refusals.read_refusal.Goals as goal

none_some : (text : Text) (b : Bool) → b ≡ true → ◌≡◌ {A = Option Text} None (if b then Some text else None) → ⊥
none_some text true on e = cc
none_some text false on e = cc

pub returns-in_default-clause-none : goal.returns-in_default-clause-none
returns-in_default-clause-none c = λ code text small utf8 e. undivided 10 (decimal code) text (subst (λ (t : Text). Lacks 10 t) e c.in_default.ensures.none)

pub returns-in_default-read_code-clause-none : goal.returns-in_default-read_code-clause-none
returns-in_default-read_code-clause-none c = λ code text small utf8 e.
    c.in_default-read_code.ensures.none code small
    (divided 10 c.in-Some.prefix.now (decimal code) c.in-Some.rest.now text c.in-Some.ensures.value.1 (decimal_lacks 10 code (omega arith)) (sym c.in-Some.ensures.value.0 ∙ e)).0

pub returns-in_default-text_of-clause-none : goal.returns-in_default-text_of-clause-none
returns-in_default-text_of-clause-none c = λ code text small utf8 e.
    let rest = (divided 10 c.in-Some.prefix.now (decimal code) c.in-Some.rest.now text c.in-Some.ensures.value.1 (decimal_lacks 10 code (omega arith)) (sym c.in-Some.ensures.value.0 ∙ e)).1 in
    none_some c.in-Some.rest.now (is_utf8 c.in-Some.rest.now) (ap is_utf8 rest ∙ utf8) c.in_default-text_of.ensures
