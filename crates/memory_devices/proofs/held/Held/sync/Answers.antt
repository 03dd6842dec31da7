use Rattle.std.proofs.Common.{refl, ap}
use Rattle.std.specs.Prelude.{is_ok}
use Rattle.memory_devices.specs.declared.change.Change.TheVariants.{Synced}
use Rattle.memory_devices.specs.State.{after_sync}
use Rattle.memory_devices.proofs.Noted.{noted, agreed_still}
use Rattle.memory_devices.proofs.held.Held.sync.Goals as goal

pub invariant_of-self : goal.invariant_of-self
invariant_of-self c = record { agrees = agreed_still c.args.self.now.given.items c.args.self.now.names c.args.self.now.changes.items c.push.new.self.items (Synced c.in_ok-noted.noted) (is_ok c.push.result) (λ s. refl) c.push.ensures.items c.args.self.now.agrees }

pub returns-clause-ok : goal.returns-clause-ok
returns-clause-ok c = noted c.args.self.now _ (Synced c.in_ok-noted.noted) (after_sync c.args.name.now) refl c.in_ok-push.ensures.items (ap after_sync c.in_ok-noted.ensures.ok)
