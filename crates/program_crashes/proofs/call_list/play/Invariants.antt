use Rattle.std.proofs.Common.{List, ◌++◌}
use Rattle.base_model.specs.Repository.{Repository}
use Rattle.base_model.specs.Text.{Text}
use Rattle.base_crash_lists.specs.Trace.{Call}
use Rattle.program_crashes.specs.Kept.{KeepsCalls}
use Rattle.program_crashes.specs.Lists.{views, HaveOthers, ArePlayed}
use Rattle.program_crashes.proofs.call_list.play.Given as goal

abbrev pub invariant-loop-act : goal.invariant-loop-act
invariant-loop-act l = HaveOthers l.yielded → (q : Text → Repository) (earlier before : List Call) → KeepsCalls q earlier before (views l.fn.disks)
    → (after : List Call) × ArePlayed q l.yielded l.ended.items l.fn.disks l.last (before ++ earlier) (after ++ earlier) × KeepsCalls q earlier after (views l.last)
