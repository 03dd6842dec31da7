use Rattle.std.proofs.Common.{None, refl, ap}
use Rattle.base_devices.specs.Content.{put}
use Rattle.memory_devices.specs.declared.change.Change.TheVariants.{Removed}
use Rattle.memory_devices.specs.State.{removed}
use Rattle.memory_devices.proofs.Maps.{bytes_set}
use Rattle.memory_devices.proofs.Noted.{noted, agreed}
use Rattle.memory_devices.proofs.held.Held.remove.Goals as goal

pub invariant_of-self-2 : goal.invariant_of-self-2
invariant_of-self-2 c = record {
  agrees = agreed c.args.self.now.given.items c.args.self.now.names c.remove.new.self c.args.self.now.changes.items c.push.new.self.items (Removed c.in_ok-noted.noted) (removed c.args.name.now) (put c.args.name.now None) c.in_ok-push.ensures.items (ap removed c.in_ok-noted.ensures.ok)
      (λ s. refl) (bytes_set c.args.self.now.names c.remove.new.self c.args.name.now None c.remove.ensures.updates) c.args.self.now.agrees;
}

pub returns-clause-ok : goal.returns-clause-ok
returns-clause-ok c = noted c.args.self.now _ (Removed c.in_ok-noted.noted) (removed c.args.name.now) refl c.in_ok-push.ensures.items (ap removed c.in_ok-noted.ensures.ok)
