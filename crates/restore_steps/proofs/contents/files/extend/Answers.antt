use Rattle.std.proofs.Common.{◌≡◌, ◌∙◌, sym, subst}
use Rattle.base_devices.specs.DataFolder.{IsPlaced, IsFileAt}
use Rattle.base_model.specs.Text.{Text}
use Rattle.restore_steps.specs.Files.{temporary_path}
use Rattle.restore_steps.proofs.Placing.{temporary_placed, begun_there}
use Rattle.restore_steps.proofs.contents.files.extend.Goals as goal

pub returns-in_err-begin_first-clause-proper : goal.returns-in_err-begin_first-clause-proper
returns-in_err-begin_first-clause-proper g c = λ there placed.
    let old = (g.T.DataFolder.state c.args.tree.now).nodes in
    let name : c.deref.result.now ≡ temporary_path c.args.path.now = c.deref.ensures ∙ c.in_ok-name.ensures in
    c.begin_first.ensures.proper (subst (λ (n : Text). IsPlaced old n) (sym name) (temporary_placed c.args.path.now old placed))

pub returns-clause-proper : goal.returns-clause-proper
returns-clause-proper g c = λ there placed.
    let old = (g.T.DataFolder.state c.args.tree.now).nodes in
    let begun = (g.T.DataFolder.state c.begin_first.new.tree).nodes in
    let name : c.deref.result.now ≡ temporary_path c.args.path.now = c.deref.ensures ∙ c.in_ok-name.ensures in
    let again : c.deref-2.result.now ≡ temporary_path c.args.path.now = c.deref-2.ensures ∙ c.in_ok-name.ensures in
    c.append.ensures.proper
    (subst (λ (n : Text). IsFileAt begun n) (sym again)
    (subst (λ (n : Text). IsFileAt begun n) name
    (begun_there c.args.count c.deref.result.now old begun c.in_ok-begin_first.ensures.begun (λ some. subst (λ (n : Text). IsFileAt old n) (sym name) (there some)))))
    ∙ c.begin_first.ensures.proper (subst (λ (n : Text). IsPlaced old n) (sym name) (temporary_placed c.args.path.now old placed))
