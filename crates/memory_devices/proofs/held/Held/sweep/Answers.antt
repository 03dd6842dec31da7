use Rattle.std.proofs.Common.{refl, ap}
use Rattle.std.specs.Prelude.{is_ok}
use Rattle.memory_devices.specs.declared.change.Change.TheVariants.{Swept}
use Rattle.memory_devices.specs.State.{swept}
use Rattle.memory_devices.proofs.Time.{still_swept}
use Rattle.memory_devices.proofs.Noted.{noted, agreed_still}
use Rattle.memory_devices.proofs.held.Held.sweep.Goals as goal

pub invariant_of-self : goal.invariant_of-self
invariant_of-self c = record { agrees = agreed_still c.args.self.now.given.items c.args.self.now.names c.args.self.now.changes.items c.push.new.self.items (Swept c.args.sweep c.in_ok-noted.noted) (is_ok c.push.result) (still_swept c.args.sweep c.in_ok-noted.noted) c.push.ensures.items c.args.self.now.agrees }

pub returns-clause-ok : goal.returns-clause-ok
returns-clause-ok c = noted c.args.self.now _ (Swept c.args.sweep c.in_ok-noted.noted) (swept c.args.sweep c.args.folder.now) refl c.in_ok-push.ensures.items (ap (swept c.args.sweep) c.in_ok-noted.ensures.ok)
