use Rattle.std.proofs.Common.{◌≡◌, ◌++◌, map, take}
use Rattle.base_model.specs.Values.{file_entry_of}
use Rattle.worker_protocol.specs.Views.{job_of}
use Rattle.restore_steps.specs.Sources.{reading}
use Rattle.restore_make.specs.Options.{recovery_of}
use Rattle.restore_make.specs.Kept.{marked}
use Rattle.restore_make.specs.Entries.{reads_of, want_of, want_in}
use Rattle.restore_make.proofs.restore_plan.add_files.Given as goal

abbrev pub invariant-loop-place : goal.invariant-loop-place
invariant-loop-place l =
    let s = l.chosen in
    let es = reads_of (recovery_of s.recovery) (take l.place (marked (map file_entry_of s.files.now) s.marks.now)) in
    record {
      jobs : map job_of l.planned.jobs.items ≡ map job_of l.fn.planned.jobs.items ++ map (reading s.stanza.now s.own.now) es;
      wanted : map want_in l.planned.wanted.items ≡ map want_in l.fn.planned.wanted.items ++ map want_of es;
    }
