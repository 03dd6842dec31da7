use Rattle.std.proofs.Common.{refl, ap}
use Rattle.std.specs.Prelude.{is_ok}
use Rattle.memory_devices.specs.declared.change.Change.TheVariants.{Unsynced}
use Rattle.memory_devices.specs.State.{newly_unsynced}
use Rattle.memory_devices.proofs.Noted.{noted, agreed_still}
use Rattle.memory_devices.proofs.held.Held.unsync.Goals as goal

pub invariant_of-self : goal.invariant_of-self
invariant_of-self c = record { agrees = agreed_still c.args.self.now.given.items c.args.self.now.names c.args.self.now.changes.items c.push.new.self.items (Unsynced c.in_ok-noted.noted) (is_ok c.push.result) (λ s. refl) c.push.ensures.items c.args.self.now.agrees }

pub returns-clause-ok : goal.returns-clause-ok
returns-clause-ok c = noted c.args.self.now _ (Unsynced c.in_ok-noted.noted) (newly_unsynced c.args.name.now) refl c.in_ok-push.ensures.items (ap newly_unsynced c.in_ok-noted.ensures.ok)
