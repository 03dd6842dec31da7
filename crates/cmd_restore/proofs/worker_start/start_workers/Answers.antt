use Rattle.std.proofs.Common.{arith, ◌≡◌, ◌<◌, ◌^◌, [], List, map, take, length, subst}
use Rattle.base_devices.specs.Links.{LinkState}
use Rattle.worker_pool.specs.declared.dispatch.fault.Lost.{Lost}
use Rattle.worker_pool.specs.Run.{AllLost, IsReady, Left, begun}
use Rattle.cmd_restore.proofs.Links.{first_links, each_first, few_first, left_ready, start_lost}
use Rattle.cmd_restore.proofs.worker_start.start_workers.Goals as goal

pub setup-requires-clause-ready : goal.setup-requires-clause-ready
setup-requires-clause-ready g c = each_first g.L.Link.link_state c.args.order.now.workers c.args.pool.now.links.items c.truncate.new.self.items c.truncate.ensures.items IsReady c.requires.ready

pub returns-in-Ok-clause-left : goal.returns-in-Ok-clause-left
returns-in-Ok-clause-left g c =
    let of = g.L.Link.link_state in
    let n = c.args.order.now.workers in
    let now = map of c.setup.new.pool.links.items in
    subst (λ (l : List LinkState). Left [] l [] c.setup.new.pool.lost.items now) (first_links of n c.args.pool.now.links.items c.truncate.new.self.items c.truncate.ensures.items)
    (subst (λ (l : List Lost). Left [] (map of c.truncate.new.self.items) l c.setup.new.pool.lost.items now) c.requires.none c.in-Ok.ensures.left)

pub returns-in-Ok-clause-ready : goal.returns-in-Ok-clause-ready
returns-in-Ok-clause-ready g c =
    let of = g.L.Link.link_state in
    left_ready (map of c.truncate.new.self.items) (map of c.setup.new.pool.links.items) c.setup.new.pool.lost.items
    (subst (λ (l : List Lost). Left [] (map of c.truncate.new.self.items) l c.setup.new.pool.lost.items (map of c.setup.new.pool.links.items)) c.requires.none c.in-Ok.ensures.left)

pub returns-in-Err-WorkersLost-clause-cause : goal.returns-in-Err-WorkersLost-clause-cause
returns-in-Err-WorkersLost-clause-cause g c =
    let of = g.L.Link.link_state in
    let n = c.args.order.now.workers in
    let links = c.args.pool.now.links.items in
    let now = c.truncate.new.self.items in
    let after = c.setup.new.pool.lost.items in
    let all = rw (c.in-Err-WorkersLost.field-0-is) at c.in-Err-WorkersLost.ensures.fault in
    start_lost (take n (map of links)) after c.count_of-lost.result
    (subst (λ (l : List LinkState). AllLost [] (begun l []) after) (first_links of n links now c.truncate.ensures.items)
    (subst (λ (l : List Lost). AllLost [] (begun (map of now) l) after) c.requires.none all))
    (subst (λ (l : List Lost). length l < 2 ^ 32 → c.count_of-lost.result ≡ length l) c.deref.ensures.value c.count_of-lost.ensures)
    (few_first of n links now c.truncate.ensures.items (2 ^ 32) (omega (arith, c.requires.few, c.args.pool.now.links.ok.0)))
