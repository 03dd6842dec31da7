use Rattle.std.proofs.Common.{◌≡◌, ◌∙◌, sym, subst}
use Rattle.base_devices.specs.DataFolder.{IsFileAt}
use Rattle.base_model.specs.Text.{Text}
use Rattle.restore_steps.specs.Files.{temporary_path}
use Rattle.restore_steps.proofs.Filing.{beside, beside_on, beside_rename}
use Rattle.restore_steps.proofs.Timed.{timed_but, timed_there, timed_placed, put_by}
use Rattle.restore_steps.proofs.contents.files.put_in_place.Goals as goal

pub returns-clause-put : goal.returns-clause-put
returns-clause-put g c =
    let old = (g.T.DataFolder.state c.args.tree.now).nodes in
    let mid = (g.T.DataFolder.state c.set_time.new.self).nodes in
    let new = (g.T.DataFolder.state c.rename.new.self).nodes in
    let name : c.deref.result.now ≡ temporary_path c.args.path.now = c.deref.ensures ∙ c.in_ok-name.ensures in
    let again : c.deref-2.result.now ≡ temporary_path c.args.path.now = c.deref-2.ensures ∙ c.in_ok-name.ensures in
    put_by c.rename.result c.args.path.now c.deref.result.now c.deref-2.result.now c.args.time old mid new name again c.in_ok-set_time.ensures.there c.in_ok-set_time.ensures.nodes c.rename.ensures.nodes

pub returns-in_err-set_time-clause-others : goal.returns-in_err-set_time-clause-others
returns-in_err-set_time-clause-others g c =
    let old = (g.T.DataFolder.state c.args.tree.now).nodes in
    let mid = (g.T.DataFolder.state c.set_time.new.self).nodes in
    let name : c.deref.result.now ≡ temporary_path c.args.path.now = c.deref.ensures ∙ c.in_ok-name.ensures in
    beside c.args.path.now c.deref.result.now old mid name (timed_but c.set_time.result c.deref.result.now c.args.time old mid c.set_time.ensures.nodes)

pub returns-clause-others : goal.returns-clause-others
returns-clause-others g c =
    let old = (g.T.DataFolder.state c.args.tree.now).nodes in
    let mid = (g.T.DataFolder.state c.set_time.new.self).nodes in
    let new = (g.T.DataFolder.state c.rename.new.self).nodes in
    let name : c.deref.result.now ≡ temporary_path c.args.path.now = c.deref.ensures ∙ c.in_ok-name.ensures in
    let again : c.deref-2.result.now ≡ temporary_path c.args.path.now = c.deref-2.ensures ∙ c.in_ok-name.ensures in
    beside_on c.args.path.now old mid new
    (beside c.args.path.now c.deref.result.now old mid name (timed_but c.set_time.result c.deref.result.now c.args.time old mid c.set_time.ensures.nodes))
    (beside_rename c.rename.result c.args.path.now c.deref-2.result.now mid new again c.rename.ensures.nodes)

pub returns-in_err-set_time-clause-proper : goal.returns-in_err-set_time-clause-proper
returns-in_err-set_time-clause-proper g c = λ there placed.
    let old = (g.T.DataFolder.state c.args.tree.now).nodes in
    let name : c.deref.result.now ≡ temporary_path c.args.path.now = c.deref.ensures ∙ c.in_ok-name.ensures in
    c.set_time.ensures.proper (subst (λ (n : Text). IsFileAt old n) (sym name) there)

pub returns-clause-proper : goal.returns-clause-proper
returns-clause-proper g c = λ there placed.
    let old = (g.T.DataFolder.state c.args.tree.now).nodes in
    let mid = (g.T.DataFolder.state c.set_time.new.self).nodes in
    let name : c.deref.result.now ≡ temporary_path c.args.path.now = c.deref.ensures ∙ c.in_ok-name.ensures in
    let again : c.deref-2.result.now ≡ temporary_path c.args.path.now = c.deref-2.ensures ∙ c.in_ok-name.ensures in
    c.rename.ensures.proper
    (subst (λ (n : Text). IsFileAt mid n) (name ∙ sym again) (timed_there c.deref.result.now c.args.time old mid c.in_ok-set_time.ensures.there c.in_ok-set_time.ensures.nodes))
    (timed_placed c.args.path.now c.deref.result.now c.args.time old mid placed c.in_ok-set_time.ensures.nodes)
    ∙ c.set_time.ensures.proper (subst (λ (n : Text). IsFileAt old n) (sym name) there)
