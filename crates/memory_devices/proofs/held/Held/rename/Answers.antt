use Rattle.std.proofs.Common.{rules, refl, ap, ◌∙◌, string_bytes}
use Rattle.base_devices.specs.Content.{Name, moved}
use Rattle.memory_devices.specs.declared.change.Change.TheVariants.{Renamed}
use Rattle.memory_devices.specs.State.{renamed}
use Rattle.memory_devices.proofs.Noted.{noted, agreed}
use Rattle.memory_devices.proofs.held.Held.rename.Goals as goal

pub invariant_of-self-else-is_err : goal.invariant_of-self-else-is_err
invariant_of-self-else-is_err c = record {
  agrees = agreed c.args.self.now.given.items c.args.self.now.names c.move_value.new.names c.args.self.now.changes.items c.push.new.self.items (Renamed c.in_ok-noted_from.noted_from c.in_ok-noted_to.noted_to) (renamed c.args.from.now c.args.to.now) (moved c.args.from.now c.args.to.now) c.in_ok-push.ensures.items (ap (λ (a : Name). renamed a (string_bytes c.in_ok-noted_to.noted_to)) c.in_ok-noted_from.ensures.ok ∙ ap (renamed c.args.from.now) c.in_ok-noted_to.ensures.ok)
      (λ s. refl) (search rules) c.args.self.now.agrees;
}

pub returns-clause-ok : goal.returns-clause-ok
returns-clause-ok c = noted c.args.self.now _ (Renamed c.in_ok-noted_from.noted_from c.in_ok-noted_to.noted_to) (renamed c.args.from.now c.args.to.now) refl c.in_ok-push.ensures.items (ap (λ (a : Name). renamed a (string_bytes c.in_ok-noted_to.noted_to)) c.in_ok-noted_from.ensures.ok ∙ ap (renamed c.args.from.now) c.in_ok-noted_to.ensures.ok)
