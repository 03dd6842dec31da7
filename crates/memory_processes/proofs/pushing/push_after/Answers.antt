use Rattle.std.proofs.Common.{rules}
use Rattle.sha1.specs.Sha1.{sha1}
use Rattle.base_text.specs.Sum.{IsSum}
use Rattle.base_text.proofs.Digests.{IsSum-sha1}
use Rattle.base_model.specs.declared.wal.ArchiveName.TheVariants.{Segment as Whole}
use Rattle.base_model.specs.Represents.{IsArchivePlace}
use Rattle.base_model.specs.Text.{Text}
use Rattle.memory_processes.proofs.Pushed.{turn_by, has_by, turn_none, went_turn, went_stored, only_after}
use Rattle.memory_processes.proofs.pushing.push_after.Goals as goal

pub returns-in-Ok-true-clause-turn : goal.returns-in-Ok-true-clause-turn
returns-in-Ok-true-clause-turn g c =
    let fits : (sum : Text) → IsSum sum → IsArchivePlace c.args.id (Whole c.args.segment) sum = search rules in
    went_turn c.args.stanza.now c.args.id c.args.segment c.args.bytes.now _ _ _ _ c.went_by.ensures
    (turn_by c.args.stanza.now c.args.id c.args.before c.args.segment c.args.bytes.now _ _ _ c.may_push.ensures.looks.time c.may_push.ensures.looks.now c.in-Ok-true.ensures.begun c.in-Ok-true.ensures.fits (c.in-Ok-true.ensures.stored c.in-Ok-true.field-0-test)
    c.push.ensures.leaves.part fits c.push.result c.push.ensures.file c.push.ensures.new c.push.ensures.same c.push.ensures.refused)

pub returns-in-Ok-true-clause-stored : goal.returns-in-Ok-true-clause-stored
returns-in-Ok-true-clause-stored g c =
    let fits : (sum : Text) → IsSum sum → IsArchivePlace c.args.id (Whole c.args.segment) sum = search rules in
    went_stored c.went_by.result _ _ c.went_by.ensures
    (has_by c.args.stanza.now c.args.id c.args.before c.args.segment c.args.bytes.now (g.D.Disk.state c.args.d.now).view _ _ c.may_push.ensures.looks.time c.may_push.ensures.looks.now c.in-Ok-true.ensures.begun c.in-Ok-true.ensures.fits (c.in-Ok-true.ensures.stored c.in-Ok-true.field-0-test)
    c.push.ensures.leaves.part (fits (sha1 c.args.bytes.now) (IsSum-sha1 c.args.bytes.now)) c.push.result c.push.ensures.file c.push.ensures.written c.push.ensures.same)

pub returns-in-Ok-true-clause-only : goal.returns-in-Ok-true-clause-only
returns-in-Ok-true-clause-only g c = only_after c.args.stanza.now _ _ _ c.may_push.ensures.looks.time c.may_push.ensures.looks.now c.push.ensures.leaves.only

pub returns-in-Ok-false-clause-turn : goal.returns-in-Ok-false-clause-turn
returns-in-Ok-false-clause-turn g c = λ ended may. turn_none c.args.stanza.now c.args.id c.args.segment c.args.bytes.now _ _ c.may_push.ensures.looks.time c.may_push.ensures.looks.now ended

pub returns-in-Err-clause-turn : goal.returns-in-Err-clause-turn
returns-in-Err-clause-turn g c = λ ended may. turn_none c.args.stanza.now c.args.id c.args.segment c.args.bytes.now _ _ c.may_push.ensures.looks.time c.may_push.ensures.looks.now ended
