use Rattle.std.proofs.Common.{map, refl, subst, length, List, ◌<◌, ◌≡◌, ◌^◌}
use Rattle.worker_pool.specs.declared.dispatch.fault.Lost.{Lost}
use Rattle.std.specs.Prelude.{Ok, Err}
use Rattle.cmd_backup_common.specs.Making.{Well, Ill}
use Rattle.cmd_backup_common.proofs.Makings.{made_cause}
use Rattle.cmd_backup_common.proofs.parts.making.finish.Goals as goal

pub returns-in-Ok-clause-made : goal.returns-in-Ok-clause-made
returns-in-Ok-clause-made g c = record { made = Ok tt; outcome = c.in-Ok.ensures.made.0; stopped = c.in-Ok.ensures.made.1; end = Well tt c.args.line refl }

pub returns-in-Err-clause-made : goal.returns-in-Err-clause-made
returns-in-Err-clause-made g c = record {
  made = Err c.in-Err.fault;
  outcome = c.in-Err.ensures.made.0;
  stopped = tt;
  end = Ill c.count_of.result c.in-Err.fault c.of_make.result c.of_make.ensures;
}

pub returns-in-Err-clause-cause : goal.returns-in-Err-clause-cause
returns-in-Err-clause-cause g c =
    let count = subst (λ (es : List Lost). length es < 2 ^ 32 → c.count_of.result ≡ length es) c.deref.ensures.value c.count_of.ensures in
    made_cause c.args.draft (map g.L.Link.link_state c.args.pool.now.links.items) (map g.L.Link.link_state c.make.new.pool.links.items) c.args.pool.now.lost.items c.make.new.pool.lost.items
    _ _ _ _ c.count_of.result count c.in-Err.fault c.of_make.result c.of_make.ensures c.in-Err.ensures.fault
