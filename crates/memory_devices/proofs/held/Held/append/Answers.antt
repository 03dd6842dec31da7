use Rattle.std.proofs.Common.{rules, refl, ap, ◌∙◌}
use Rattle.base_devices.specs.Content.{Name, lengthened}
use Rattle.memory_devices.specs.declared.change.Change.TheVariants.{Appended}
use Rattle.memory_devices.specs.State.{appended}
use Rattle.memory_devices.proofs.Noted.{noted, agreed}
use Rattle.memory_devices.proofs.held.Held.append.Goals as goal

pub invariant_of-self-else-is_err : goal.invariant_of-self-else-is_err
invariant_of-self-else-is_err c = record {
  agrees = agreed c.args.self.now.given.items c.args.self.now.names c.extend.new.names c.args.self.now.changes.items c.push.new.self.items (Appended c.in_ok-noted.noted c.in_ok-added.added) (appended c.args.name.now c.args.bytes.now) (lengthened c.args.name.now c.args.bytes.now) c.in_ok-push.ensures.items (ap (λ (m : Name). appended m c.in_ok-added.added.items) c.in_ok-noted.ensures.ok ∙ ap (appended c.args.name.now) c.in_ok-added.ensures.items)
      (λ s. refl) (search rules) c.args.self.now.agrees;
}

pub returns-clause-ok : goal.returns-clause-ok
returns-clause-ok c = noted c.args.self.now _ (Appended c.in_ok-noted.noted c.in_ok-added.added) (appended c.args.name.now c.args.bytes.now) refl c.in_ok-push.ensures.items (ap (λ (m : Name). appended m c.in_ok-added.added.items) c.in_ok-noted.ensures.ok ∙ ap (appended c.args.name.now) c.in_ok-added.ensures.items)
