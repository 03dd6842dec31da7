use Rattle.std.proofs.Common.{rules, Some, [], refl, ap}
use Rattle.base_devices.specs.Content.{put}
use Rattle.memory_devices.specs.declared.change.Change.TheVariants.{Begun}
use Rattle.memory_devices.specs.State.{begun}
use Rattle.memory_devices.proofs.Noted.{noted, agreed}
use Rattle.memory_devices.proofs.held.Held.begin.Goals as goal

pub invariant_of-self-else-is_err : goal.invariant_of-self-else-is_err
invariant_of-self-else-is_err c = record {
  agrees = agreed c.args.self.now.given.items c.args.self.now.names c.set.new.names c.args.self.now.changes.items c.push.new.self.items (Begun c.in_ok-noted.noted) (begun c.args.name.now) (put c.args.name.now (Some [])) c.in_ok-push.ensures.items (ap begun c.in_ok-noted.ensures.ok)
      (λ s. refl) (search rules) c.args.self.now.agrees;
}

pub returns-clause-ok : goal.returns-clause-ok
returns-clause-ok c = noted c.args.self.now _ (Begun c.in_ok-noted.noted) (begun c.args.name.now) refl c.in_ok-push.ensures.items (ap begun c.in_ok-noted.ensures.ok)
