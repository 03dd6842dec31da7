use Rattle.std.proofs.Common.{◌<◌, length, arith, ◌∙◌}
use Rattle.std.specs.Prelude.{option_map}
use Rattle.std.proofs.lemmas.List.{length-map}
use Rattle.worker_pool.proofs.Places.{within}
use Rattle.worker_pool.specs.declared.jobs.LinkPlace.TheVariants.{Idle}
use Rattle.worker_pool.proofs.Given.{gave_joins, settles_more}
use Rattle.worker_pool.proofs.dispatch.job_handout.give_all.Goals as goal

pub give_idle-requires-clause-within : goal.give_idle-requires-clause-within
give_idle-requires-clause-within g c =
    let n = c.requires.runs.going.link_count in
    let m = length-map c.args.run.now.links.slots.items (option_map g.L.Link.link_state) in
    omega (arith, n, m, c.args.run.now.links.slots.ok, c.loop-i.invariant.gave.links, c.loop-i.invariant.same, c.loop-i.invariant.was, c.loop-i-test.true)

pub give_idle-requires-clause-runs : goal.give_idle-requires-clause-runs
give_idle-requires-clause-runs g c = record {
  began = c.requires.runs.began;
  going = c.loop-i.invariant.going c.requires.runs.began c.requires.runs.going;
}

pub loop-i-preserved : goal.loop-i-preserved
loop-i-preserved g c = record {
  same = c.in_ok-give_idle.ensures.length ∙ c.loop-i.invariant.same;
  was = c.in_ok-give_idle.ensures.length ∙ c.loop-i.invariant.was;
  later = g.met.K.PartSink.later_through _ _ _ _ _ _ c.loop-i.invariant.later c.in_ok-give_idle.ensures.later;
  agrees = c.in_ok-give_idle.ensures.agrees;
  going = λ b go. c.in_ok-give_idle.ensures.going b (c.loop-i.invariant.going b go);
  gave = gave_joins _ _ _ _ c.loop-i.invariant.gave c.in_ok-give_idle.ensures.gave;
  idle = settles_more _ _ _ c.in_ok-give_idle.ensures.settles c.loop-i.invariant.idle;
}

pub returns-clause-idle : goal.returns-clause-idle
returns-clause-idle g c = λ k idle.
    let w : k < length c.loop-i.run.job_table.links = within c.loop-i.run.job_table.links k Idle idle in
    let n = c.requires.runs.going.link_count in
    let m = length-map c.args.run.now.links.slots.items (option_map g.L.Link.link_state) in
    c.loop-i.invariant.idle k (omega (arith, w, n, m, c.args.run.now.links.slots.ok, c.loop-i.invariant.gave.links, c.loop-i.invariant.same, c.loop-i.invariant.was, c.loop-i-test.false)) idle
