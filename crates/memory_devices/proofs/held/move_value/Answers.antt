use Rattle.std.proofs.Common.{None, bytes_eq, cond, None, ap, sym, ◌∙◌}
use Rattle.base_devices.specs.Content.{Content, Value, put}
use Rattle.memory_devices.specs.Agrees.{bytes_at}
use Rattle.memory_devices.proofs.Maps.{moved_split}
use Rattle.memory_devices.proofs.held.move_value.Goals as goal

pub returns-clause-ok : goal.returns-clause-ok
returns-clause-ok c =
    let from = c.args.from.now in
    let to = c.args.to.now in
    let f = bytes_at c.args.names.now in
    c.drop_other.ensures
    ∙ ap (λ (g : Content). cond (bytes_eq from to) g (put from None g)) (c.in_ok-set.ensures.ok ∙ ap (λ (v : Value). put to v f) (sym c.in_ok-value.ensures))
    ∙ moved_split None from to f
