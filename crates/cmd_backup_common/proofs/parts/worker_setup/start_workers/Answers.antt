use Rattle.std.proofs.Common.{◌≡◌, ◌<◌, ◌^◌, List, length, map, subst, arith}
use Rattle.worker_pool.specs.declared.dispatch.fault.Lost.{Lost}
use Rattle.worker_pool.specs.declared.dispatch.fault.DispatchFault.{DispatchFault}
use Rattle.worker_pool.specs.Setups.{SetupFault}
use Rattle.cmd_backup_common.proofs.Links.{left_comes, left_ready}
use Rattle.cmd_backup_common.proofs.Startings.{ready_taken, left_used, lost_used, few_lost}
use Rattle.cmd_backup_common.proofs.parts.worker_setup.start_workers.Goals as goal

pub setup-requires-clause-ready : goal.setup-requires-clause-ready
setup-requires-clause-ready g c = ready_taken g.L.Link.link_state c.args.order.now.workers c.args.pool.now.links.items c.truncate.new.self.items c.truncate.ensures.items c.requires.ready

pub returns-in-Ok-clause-left : goal.returns-in-Ok-clause-left
returns-in-Ok-clause-left g c = left_used g.L.Link.link_state c.args.order.now.workers c.args.pool.now.links.items c.truncate.new.self.items c.truncate.ensures.items
    c.clear.new.self.items c.setup.new.pool.lost.items c.clear.ensures.items (map g.L.Link.link_state c.setup.new.pool.links.items) c.in-Ok.ensures.left

pub returns-in-Ok-clause-ready : goal.returns-in-Ok-clause-ready
returns-in-Ok-clause-ready g c =
    let used = map g.L.Link.link_state c.truncate.new.self.items in
    let now = map g.L.Link.link_state c.setup.new.pool.links.items in
    left_ready used now (left_comes used now c.clear.new.self.items c.setup.new.pool.lost.items c.in-Ok.ensures.left)

pub returns-in-Err-WorkersLost-clause-cause : goal.returns-in-Err-WorkersLost-clause-cause
returns-in-Err-WorkersLost-clause-cause g c =
    let n = c.args.order.now.workers in
    let xs = c.args.pool.now.links.items in
    let ys = c.truncate.new.self.items in
    let all = subst (λ (e : DispatchFault). SetupFault e (map g.L.Link.link_state ys) c.clear.new.self.items c.setup.new.pool.lost.items) c.in-Err-WorkersLost.field-0-is c.in-Err-WorkersLost.ensures.fault in
    let few : length xs < 2 ^ 32 = omega (arith, c.requires.few, c.args.pool.now.links.ok) in
    let within = few_lost g.L.Link.link_state n xs ys c.truncate.ensures.items c.clear.new.self.items c.setup.new.pool.lost.items c.clear.ensures.items (2 ^ 32) few all in
    let count = subst (λ (es : List Lost). length es < 2 ^ 32 → c.count_of-lost.result ≡ length es) c.deref.ensures.value c.count_of-lost.ensures within in
    lost_used g.L.Link.link_state n xs ys c.truncate.ensures.items c.clear.new.self.items c.setup.new.pool.lost.items c.clear.ensures.items c.count_of-lost.result all count
