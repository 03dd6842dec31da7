use Rattle.std.proofs.Common.{sym, subst, ◌∙◌}
use Rattle.std.specs.Prelude.{decimal}
use Rattle.base_model.specs.Text.{Text}
use Rattle.archive_lookup.specs.Paths.{Lacks}
use Rattle.archive_lookup.proofs.Cuts.{divided, undivided}
use Rattle.archive_lookup.proofs.OnePath.{version_lacks}
use Rattle.archive_lookup.proofs.stored.paths.read_id.Goals as goal

pub returns-in_err-version-clause-none : goal.returns-in_err-version-clause-none
returns-in_err-version-clause-none c =
    rw c.from_residual.ensures (λ id v n e. undivided 45 (decimal id.version) (decimal id.number) (subst (λ (t : Text). Lacks 45 t) e c.in_err-version.ensures.none))

pub returns-in_err-version-2-clause-none : goal.returns-in_err-version-2-clause-none
returns-in_err-version-2-clause-none c =
    rw c.from_residual-in_err-version-2.ensures (λ id v n e. c.in_err-version-2.ensures.none id.version v
    (divided 45 c.in_ok-version.version.now (decimal id.version) c.in_ok-version.number.now (decimal id.number) c.in_ok-version.ensures.value.1 (version_lacks id) (sym c.in_ok-version.ensures.value.0 ∙ e)).0)

pub returns-in_err-number-clause-none : goal.returns-in_err-number-clause-none
returns-in_err-number-clause-none c =
    rw c.from_residual-in_err-number.ensures (λ id v n e. c.in_err-number.ensures.none id.number n
    (divided 45 c.in_ok-version.version.now (decimal id.version) c.in_ok-version.number.now (decimal id.number) c.in_ok-version.ensures.value.1 (version_lacks id) (sym c.in_ok-version.ensures.value.0 ∙ e)).1)
