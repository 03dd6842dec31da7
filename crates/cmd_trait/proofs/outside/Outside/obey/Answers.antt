use Rattle.std.proofs.Common.{ap, refl, map, string_bytes}
use Rattle.cmd_trait.specs.Code.{place_of}
use Rattle.cmd_trait.proofs.CallEffects.{worded}
use Rattle.cmd_trait.proofs.Carried.{carries, sink, unread, read_well, no_brackets}
use Rattle.cmd_trait.proofs.outside.Outside.obey.Goals as goal

pub returns-in-Err-clause-carries : goal.returns-in-Err-clause-carries
returns-in-Err-clause-carries g c =
    let p = place_of c.args.places.now in
    let m = g.X.Command.meaning c.args.command.now in
    let laws = g.X.Command.lawful c.args.command.now in
    carries p m laws _ _ _ c.answer.ensures.later (map string_bytes c.args.unknown.now) _ c.answer.result refl
    (unread p m laws _ c.in-Err.halt c.own_halt-fault.result c.own_halt-fault.ensures c.in-Err.ensures.cause)
    (worded p m laws _ c.in-Err.halt c.own_halt-fault.result c.own_halt-fault.ensures c.in-Err.ensures.cause)
    (no_brackets p m laws _ c.own_halt-fault.result)
    c.answer.ensures.known

pub returns-clause-carries : goal.returns-clause-carries
returns-clause-carries g c =
    let p = place_of c.args.places.now in
    let m = g.X.Command.meaning c.args.command.now in
    let laws = g.X.Command.lawful c.args.command.now in
    let e = c.staged-ended.ensures in
    carries p m laws _ _ _ c.answer-2.ensures.later (map string_bytes c.args.unknown.now) c.staged-ended.result c.answer-2.result
    (ap (λ o. sink (g.O.OutputStream.state o.out).written (g.O.OutputStream.state o.out).faults) e.rest)
    (read_well p m laws _ _ c.staged-ended.result c.in-Ok.ensures.fit) e.did e.brackets c.answer-2.ensures.known
