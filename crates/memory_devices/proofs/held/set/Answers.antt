use Rattle.std.proofs.Common.{Some, Vec, ℕ}
use Rattle.std.specs.declared.alloc.Global.{Global}
use Rattle.memory_devices.proofs.Maps.{shown_put}
use Rattle.memory_devices.proofs.held.set.Goals as goal

pub returns-in-Ok-clause-ok : goal.returns-in-Ok-clause-ok
returns-in-Ok-clause-ok c = shown_put (λ (v : Vec ℕ Global). v.items) c.args.names.now c.insert.new.self _ c.args.name.now (Some c.args.value) c.in-Ok.ensures.updates c.in_ok-key.ensures.ok
