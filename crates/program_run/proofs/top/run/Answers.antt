use Rattle.std.proofs.Common.{ap, ◌∙◌, map, string_bytes}
use Rattle.base_crash_lists.proofs.Beside.{keeps_others}
use Rattle.program_run.specs.Asked.{asked}
use Rattle.program_run.specs.Ranges.{AsksNoServer, UsesNoSpool, UsesNoWorkers, IsOnRepository}
use Rattle.program_run.proofs.Answered.{runs_on, runs_off}
use Rattle.program_run.proofs.Each.{found, finishes, part_done, turns_back, fulfils, leaves_rest, opens_places, only_locked, completes, closes_talk}
use Rattle.program_run.proofs.InForm.{command_in_form, asked_in_form}
use Rattle.program_run.proofs.Unused.{never_none, all_asked, each_asked}
use Rattle.program_run.proofs.top.run.Goals as goal

pub carry-requires-clause-form : goal.carry-requires-clause-form
carry-requires-clause-form g c = command_in_form (map string_bytes c.args.arguments.now) _ c.in-Ok.command c.in-Ok.ensures.command

pub returns-in-Err-clause-answers : goal.returns-in-Err-clause-answers
returns-in-Err-clause-answers g c = runs_off (map string_bytes c.args.arguments.now) (map string_bytes c.deref.result.now) _ _ _ c.refuse.result c.in-Err.fault (ap (map string_bytes) (c.deref.ensures.value ∙ c.new-unknown.ensures.items)) c.in-Err.ensures.cause c.refuse.ensures.known

pub returns-clause-answers : goal.returns-clause-answers
returns-clause-answers g c = runs_on (map string_bytes c.args.arguments.now) _ _ _ c.carry.result c.in-Ok.command c.in-Ok.ensures.files c.in-Ok.ensures.later c.in-Ok.ensures.command c.carry.ensures.obeys

pub returns-in-Err-clause-done : goal.returns-in-Err-clause-done
returns-in-Err-clause-done g c = λ zero s asks. finishes s _ _ c.refuse.result zero (found (map string_bytes c.args.arguments.now) _ _ c.refuse.result (returns-in-Err-clause-answers g c) s asks)

pub returns-in-Err-clause-part : goal.returns-in-Err-clause-part
returns-in-Err-clause-part g c = λ s asks. part_done s _ _ c.refuse.result (found (map string_bytes c.args.arguments.now) _ _ c.refuse.result (returns-in-Err-clause-answers g c) s asks)

pub returns-in-Err-clause-stays : goal.returns-in-Err-clause-stays
returns-in-Err-clause-stays g c = λ s asks early. turns_back s _ _ c.refuse.result early (found (map string_bytes c.args.arguments.now) _ _ c.refuse.result (returns-in-Err-clause-answers g c) s asks)

pub returns-in-Err-clause-fulfils : goal.returns-in-Err-clause-fulfils
returns-in-Err-clause-fulfils g c = λ s asks well. fulfils s _ _ c.refuse.result well (found (map string_bytes c.args.arguments.now) _ _ c.refuse.result (returns-in-Err-clause-answers g c) s asks)

pub returns-in-Err-clause-rests : goal.returns-in-Err-clause-rests
returns-in-Err-clause-rests g c = λ s asks. leaves_rest s _ _ c.refuse.result (found (map string_bytes c.args.arguments.now) _ _ c.refuse.result (returns-in-Err-clause-answers g c) s asks)

pub returns-in-Err-clause-places : goal.returns-in-Err-clause-places
returns-in-Err-clause-places g c = λ s asks. opens_places s _ _ c.refuse.result (found (map string_bytes c.args.arguments.now) _ _ c.refuse.result (returns-in-Err-clause-answers g c) s asks)

pub returns-in-Err-clause-locked : goal.returns-in-Err-clause-locked
returns-in-Err-clause-locked g c = λ s asks. only_locked s _ _ c.refuse.result (found (map string_bytes c.args.arguments.now) _ _ c.refuse.result (returns-in-Err-clause-answers g c) s asks)

pub returns-in-Err-clause-complete : goal.returns-in-Err-clause-complete
returns-in-Err-clause-complete g c = completes (map string_bytes c.args.arguments.now) _ _ c.refuse.result (returns-in-Err-clause-answers g c)

pub returns-clause-done : goal.returns-clause-done
returns-clause-done g c = λ zero s asks. finishes s _ _ c.carry.result zero (found (map string_bytes c.args.arguments.now) _ _ c.carry.result (returns-clause-answers g c) s asks)

pub returns-clause-part : goal.returns-clause-part
returns-clause-part g c = λ s asks. part_done s _ _ c.carry.result (found (map string_bytes c.args.arguments.now) _ _ c.carry.result (returns-clause-answers g c) s asks)

pub returns-clause-stays : goal.returns-clause-stays
returns-clause-stays g c = λ s asks early. turns_back s _ _ c.carry.result early (found (map string_bytes c.args.arguments.now) _ _ c.carry.result (returns-clause-answers g c) s asks)

pub returns-clause-fulfils : goal.returns-clause-fulfils
returns-clause-fulfils g c = λ s asks well. fulfils s _ _ c.carry.result well (found (map string_bytes c.args.arguments.now) _ _ c.carry.result (returns-clause-answers g c) s asks)

pub returns-clause-rests : goal.returns-clause-rests
returns-clause-rests g c = λ s asks. leaves_rest s _ _ c.carry.result (found (map string_bytes c.args.arguments.now) _ _ c.carry.result (returns-clause-answers g c) s asks)

pub returns-clause-places : goal.returns-clause-places
returns-clause-places g c = λ s asks. opens_places s _ _ c.carry.result (found (map string_bytes c.args.arguments.now) _ _ c.carry.result (returns-clause-answers g c) s asks)

pub returns-clause-locked : goal.returns-clause-locked
returns-clause-locked g c = λ s asks. only_locked s _ _ c.carry.result (found (map string_bytes c.args.arguments.now) _ _ c.carry.result (returns-clause-answers g c) s asks)

pub returns-clause-complete : goal.returns-clause-complete
returns-clause-complete g c = completes (map string_bytes c.args.arguments.now) _ _ c.carry.result (returns-clause-answers g c)

pub returns-in-Err-clause-closed : goal.returns-in-Err-clause-closed
returns-in-Err-clause-closed g c = closes_talk (map string_bytes c.args.arguments.now) _ _ c.refuse.result (returns-in-Err-clause-answers g c)

pub returns-clause-closed : goal.returns-clause-closed
returns-clause-closed g c = closes_talk (map string_bytes c.args.arguments.now) _ _ c.carry.result (returns-clause-answers g c)

pub returns-clause-quiet : goal.returns-clause-quiet
returns-clause-quiet g c = λ none. all_asked (map string_bytes c.args.arguments.now) (g.I.InputFiles.state c.args.outside.now.config).files c.in-Ok.command c.in-Ok.ensures.command AsksNoServer _ c.carry.ensures.quiet none

pub returns-clause-untouched : goal.returns-clause-untouched
returns-clause-untouched g c = λ none. all_asked (map string_bytes c.args.arguments.now) (g.I.InputFiles.state c.args.outside.now.config).files c.in-Ok.command c.in-Ok.ensures.command UsesNoSpool _ c.carry.ensures.waits none

pub returns-clause-unused : goal.returns-clause-unused
returns-clause-unused g c = λ s asks on. each_asked (map string_bytes c.args.arguments.now) (g.I.InputFiles.state c.args.outside.now.config).files c.in-Ok.command c.in-Ok.ensures.command IsOnRepository _ s c.carry.ensures.unused asks on

pub returns-clause-alone : goal.returns-clause-alone
returns-clause-alone g c = λ s asks off. each_asked (map string_bytes c.args.arguments.now) (g.I.InputFiles.state c.args.outside.now.config).files c.in-Ok.command c.in-Ok.ensures.command UsesNoWorkers _ s c.carry.ensures.alone asks off

pub returns-clause-unasked : goal.returns-clause-unasked
returns-clause-unasked g c = λ none. never_none (map string_bytes c.args.arguments.now) (g.I.InputFiles.state c.args.outside.now.config).files c.in-Ok.command c.in-Ok.ensures.command none

pub returns-in-Err-clause-others : goal.returns-in-Err-clause-others
returns-in-Err-clause-others g c = λ s asks.
    (λ known. keeps_others (asked s).at.stanza (asked_in_form (map string_bytes c.args.arguments.now) _ s asks.asks) _ _ (g.met.D.Disk.now_may_be_left c.args.outside.now.repo)
    ((returns-in-Err-clause-rests g c s asks).beside known))

pub returns-clause-others : goal.returns-clause-others
returns-clause-others g c = λ s asks.
    (λ known. keeps_others (asked s).at.stanza (asked_in_form (map string_bytes c.args.arguments.now) _ s asks.asks) _ _ (g.met.D.Disk.now_may_be_left c.args.outside.now.repo)
    ((returns-clause-rests g c s asks).beside known))
