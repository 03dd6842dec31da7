use Rattle.std.proofs.Common.{◌++◌, ◌∙◌, sym, subst, ap, ap₂}
use Rattle.base_model.specs.Text.{Text, ◌⫽◌}
use Rattle.base_model.specs.Names.{id_text}
use Rattle.archive_lookup.specs.Paths.{Lacks, below_id}
use Rattle.archive_lookup.proofs.Cuts.{divided, undivided}
use Rattle.archive_lookup.proofs.OnePath.{stripped, unstripped, id_lacks, below_after}
use Rattle.archive_lookup.proofs.stored.paths.read_path.Goals as goal

pub returns-in_err-below-clause-none : goal.returns-in_err-below-clause-none
returns-in_err-below-clause-none c =
    rw c.from_residual.ensures (λ id name sum place e. unstripped c.args.path.now c.args.folder.now (id_text id ⫽ below_id name sum) c.in_err-below.ensures.cases e)

pub returns-in_err-id-clause-none : goal.returns-in_err-id-clause-none
returns-in_err-id-clause-none c =
    rw c.from_residual-in_err-id.ensures (λ id name sum place e. undivided 47 (id_text id) (below_id name sum)
    (subst (λ (t : Text). Lacks 47 t) (below_after c.args.path.now c.args.folder.now c.in_ok-below.below.now (id_text id ⫽ below_id name sum) c.in_ok-below.ensures.cases.0 c.in_ok-below.ensures.cases.1 e) c.in_err-id.ensures.none))

pub returns-in_err-id-2-clause-none : goal.returns-in_err-id-2-clause-none
returns-in_err-id-2-clause-none c =
    rw c.from_residual-in_err-id-2.ensures (λ id name sum place e. c.in_err-id-2.ensures.none id place.version place.number
    (divided 47 c.in_ok-id.id.now (id_text id) c.in_ok-id.rest.now (below_id name sum) c.in_ok-id.ensures.value.1 (id_lacks id)
    (sym c.in_ok-id.ensures.value.0 ∙ below_after c.args.path.now c.args.folder.now c.in_ok-below.below.now (id_text id ⫽ below_id name sum) c.in_ok-below.ensures.cases.0 c.in_ok-below.ensures.cases.1 e)).0)

pub returns-in_err-name-clause-none : goal.returns-in_err-name-clause-none
returns-in_err-name-clause-none c =
    rw c.from_residual-in_err-name.ensures (λ id name sum place e. c.in_err-name.ensures.none name sum place.fits place.digest
    (divided 47 c.in_ok-id.id.now (id_text id) c.in_ok-id.rest.now (below_id name sum) c.in_ok-id.ensures.value.1 (id_lacks id)
    (sym c.in_ok-id.ensures.value.0 ∙ below_after c.args.path.now c.args.folder.now c.in_ok-below.below.now (id_text id ⫽ below_id name sum) c.in_ok-below.ensures.cases.0 c.in_ok-below.ensures.cases.1 e)).1)

pub returns-clause-value : goal.returns-clause-value
returns-clause-value c =
    let x = c.in_ok-name.ensures.value in (
      x.0,
      x.1,
      stripped c.args.path.now c.args.folder.now c.in_ok-below.below.now c.in_ok-below.ensures.cases.0 c.in_ok-below.ensures.cases.1
          ∙ ap (λ (t : Text). c.args.folder.now ++ t) (c.in_ok-id.ensures.value.0 ∙ ap₂ (λ (a b : Text). a ⫽ b) c.in_ok-id-2.ensures.value x.2),
      x.3,
    )
