use Rattle.std.proofs.Common.{◌≡◌, [], length, map, arith, rules}
use Rattle.std.proofs.lemmas.Grind.{common_steps}
use Rattle.worker_pool.specs.Run.{Left}
use Rattle.worker_pool.proofs.Setting.{all_lost_left}
use Rattle.worker_pool.proofs.Turns.{no_items}
use Rattle.worker_pool.proofs.dispatch.root_setup.setup.Goals as goal

pub returns-then-is_empty-clause-fault : goal.returns-then-is_empty-clause-fault
returns-then-is_empty-clause-fault g c =
    let now = map g.L.Link.link_state c.set_up_all.new.pool.links.items in
    let left : Left [] (map g.L.Link.link_state c.args.pool.now.links.items) c.args.pool.now.lost.items c.set_up_all.new.pool.lost.items now = search rules in
    let none : length now ≡ 0 = first_of (search rules, grind (arith, common_steps)) in
    all_lost_left (map g.L.Link.link_state c.args.pool.now.links.items) c.args.pool.now.lost.items c.set_up_all.new.pool.lost.items now left (no_items now none)
