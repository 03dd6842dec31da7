use Rattle.std.proofs.Common.{◌≡◌, ◌∙◌, ◌-◌, ℕ, sym, ap, length, Option, Some, slice_get}
use Rattle.base_model.specs.Text.{Text}
use Rattle.restore_make.proofs.Lines.{last_byte, line_ended, line_open, last_there}
use Rattle.restore_make.proofs.settings.end_line.Goals as goal

pub returns-in_ok-push : goal.returns-in_ok-push
returns-in_ok-push c =
    let text = c.args.text.now.items in
    let last : last_byte text ≡ Some c.in-Some.last.now = sym (last_there text) ∙ ap (λ (t : Text). slice_get t (length t - 1)) (sym c.deref.ensures.value) ∙ sym c.in-Some.ensures.value in
    c.in_ok-push.ensures.items ∙ sym (line_open text c.in-Some.last.now last c.if-last-ne10.true)

pub returns-else-last-ne10 : goal.returns-else-last-ne10
returns-else-last-ne10 c =
    let text = c.args.text.now.items in
    let last : last_byte text ≡ Some c.in-Some.last.now = sym (last_there text) ∙ ap (λ (t : Text). slice_get t (length t - 1)) (sym c.deref.ensures.value) ∙ sym c.in-Some.ensures.value in
    sym (line_ended text c.in-Some.last.now last c.if-last-ne10.false)
