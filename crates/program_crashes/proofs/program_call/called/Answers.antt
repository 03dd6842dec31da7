use Rattle.std.proofs.Common.{map, string_bytes}
use Rattle.program_crashes.proofs.Shown.{answers_as, shown, is_shown}
use Rattle.program_crashes.proofs.Going.{shown_went}
use Rattle.program_crashes.proofs.program_call.called.Goals as goal

pub returns-clause-call : goal.returns-clause-call
returns-clause-call g c = record {
  answers = answers_as (map string_bytes c.args.arguments.now) _ _ _ c.code.result c.code.ensures c.run.ensures.answers;
  files = c.run.ensures.files;
}

pub returns-clause-shown : goal.returns-clause-shown
returns-clause-shown g c = λ known turns. is_shown (map string_bytes c.args.arguments.now) _ _ c.code.result
    (shown (map string_bytes c.args.arguments.now) _ _ c.code.result known turns (returns-clause-call g c).answers)

pub returns-clause-went : goal.returns-clause-went
returns-clause-went g c = record {
  went = λ known turns q earlier before h.
      shown_went q earlier before (map string_bytes c.args.arguments.now) _ _ c.code.result h
      (record { repo = g.met.D.Disk.now_may_be_left c.args.outside.now.repo; spool = g.met.S.Disk.now_may_be_left c.args.outside.now.spool })
      (shown (map string_bytes c.args.arguments.now) _ _ c.code.result known turns (returns-clause-call g c).answers);
}
