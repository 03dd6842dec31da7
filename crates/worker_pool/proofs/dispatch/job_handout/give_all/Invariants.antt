use Rattle.std.proofs.Common.{◌≡◌, ℕ, ◌<◌, map, vec_len}
use Rattle.worker_pool.specs.Dispatch.{IsIdle, NoneWaits}
use Rattle.worker_protocol.specs.Views.{job_of}
use Rattle.worker_pool.specs.Run.{GoesOn, Gave, state}
use Rattle.worker_pool.proofs.dispatch.job_handout.give_all.Given as goal

abbrev pub invariant-loop-i : goal.invariant-loop-i
invariant-loop-i g l = record {
  same : vec_len l.run.links.slots ≡ l.i-end;
  was : vec_len l.run.links.slots ≡ vec_len l.fn.run.links.slots;
  later : g.K.PartSink.later l.fn.keep l.fn.on l.keep l.on;
  agrees : g.K.PartSink.agrees l.keep l.on;
  going : GoesOn (map job_of l.jobs) (state g.L.Link.link_state l.fn.run.job_table l.fn.run.links.slots.items l.fn.run.links.receivings.items (g.K.PartSink.kept l.fn.keep l.fn.on) l.fn.run.lost.items) (state g.L.Link.link_state l.run.job_table l.run.links.slots.items l.run.links.receivings.items (g.K.PartSink.kept l.keep l.on) l.run.lost.items);
  gave : Gave (map job_of l.jobs) (state g.L.Link.link_state l.fn.run.job_table l.fn.run.links.slots.items l.fn.run.links.receivings.items (g.K.PartSink.kept l.fn.keep l.fn.on) l.fn.run.lost.items) (state g.L.Link.link_state l.run.job_table l.run.links.slots.items l.run.links.receivings.items (g.K.PartSink.kept l.keep l.on) l.run.lost.items);
  idle : (k : ℕ) → k < l.i → IsIdle l.run.job_table k → NoneWaits l.run.job_table;
}
