use Rattle.std.proofs.Common.{◌∙◌}
use Rattle.worker_pool.proofs.dispatch.dispatch_run.run_rounds.Goals as goal

pub rounds-preserved : goal.rounds-preserved
rounds-preserved g c = record {
  same = c.in-Ok.ensures.length ∙ c.rounds.invariant.same;
  later = g.met.K.PartSink.later_through _ _ _ _ _ _ c.rounds.invariant.later c.in-Ok.ensures.later;
  agrees = c.in-Ok.ensures.agrees;
  runs = record { began = c.rounds.invariant.runs.began; all = c.rounds.invariant.runs.all; going = c.in-Ok.ensures.going c.rounds.invariant.runs.began c.rounds.invariant.runs.all c.rounds.invariant.runs.going };
  going = λ b all go. c.in-Ok.ensures.going b all (c.rounds.invariant.going b all go);
  faults = c.in-Ok.ensures.turned.faults ∙ c.rounds.invariant.faults;
  idle = c.in-Ok.ensures.turned.idle;
  over = c.in-Ok.ensures.turned.over;
}
