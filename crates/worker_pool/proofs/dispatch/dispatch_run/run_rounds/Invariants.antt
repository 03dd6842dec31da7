use Rattle.std.proofs.Common.{◌≡◌, ℕ, ◌+◌, map, vec_len, true}
use Rattle.std.specs.Prelude.{if◌then◌else◌}
use Rattle.worker_protocol.specs.Views.{job_of}
use Rattle.worker_pool.specs.Dispatch.{IsIdle, NoneWaits, AllEnded}
use Rattle.worker_pool.specs.Run.{ReceivesOn, RunsOn, NoneBusy, measure, state}
use Rattle.worker_pool.proofs.dispatch.dispatch_run.run_rounds.Given as goal

abbrev pub invariant-rounds : goal.invariant-rounds
invariant-rounds g l = record {
  same : vec_len l.run.links.slots ≡ vec_len l.fn.run.links.slots;
  later : g.K.PartSink.later l.fn.keep l.fn.on l.keep l.on;
  agrees : g.K.PartSink.agrees l.keep l.on;
  runs : RunsOn (map job_of l.jobs) (state g.L.Link.link_state l.run.job_table l.run.links.slots.items l.run.links.receivings.items (g.K.PartSink.kept l.keep l.on) l.run.lost.items);
  going : ReceivesOn (map job_of l.jobs) (state g.L.Link.link_state l.fn.run.job_table l.fn.run.links.slots.items l.fn.run.links.receivings.items (g.K.PartSink.kept l.fn.keep l.fn.on) l.fn.run.lost.items) (state g.L.Link.link_state l.run.job_table l.run.links.slots.items l.run.links.receivings.items (g.K.PartSink.kept l.keep l.on) l.run.lost.items);
  faults : (g.K.PartSink.kept l.keep l.on).faults ≡ (g.K.PartSink.kept l.fn.keep l.fn.on).faults;
  idle : (k : ℕ) → IsIdle l.run.job_table k → NoneWaits l.run.job_table;
  over : l.done ≡ true → AllEnded l.run.job_table.jobs × NoneBusy l.run.job_table;
}

abbrev pub decreases-rounds : goal.decreases-rounds
decreases-rounds g l = measure (map job_of l.jobs) (state g.L.Link.link_state l.run.job_table l.run.links.slots.items l.run.links.receivings.items (g.K.PartSink.kept l.keep l.on) l.run.lost.items) + (if l.done then 0 else 1)
