use Rattle.std.proofs.Common.{[], ◌∷◌, refl}
use Rattle.std.proofs.lemmas.Result.{on_ok_weaker}
use Rattle.base_disk.proofs.Changes.{only_none}
use Rattle.base_devices.proofs.Nows.{now_none}
use Rattle.archive_lookup.specs.Turns.{refusal_name}
use Rattle.archive_spool.specs.Marks.{refusal_text}
use Rattle.archive_spool.proofs.Marked.{refusal_marks, marks_still, temporary_is, refusal_stays, part_as, whole_as, only_as}
use Rattle.archive_spool.proofs.new_marks.put_refusal.Goals as goal

pub returns-in_default-clause-marks : goal.returns-in_default-clause-marks
returns-in_default-clause-marks g c = marks_still c.args.stanza.now [] _

pub returns-clause-marks : goal.returns-clause-marks
returns-clause-marks g c = refusal_marks c.args.stanza.now _ c.in-Ok.ensures.temporary c.args.name.now _ _ c.in-Ok.ensures.name_is _ _ c.place.ensures.works.time

pub returns-in_default-clause-part : goal.returns-in_default-clause-part
returns-in_default-clause-part g c = now_none ((refusal_name c.args.stanza.now c.args.name.now, refusal_text c.args.code c.args.line.now) ∷ []) _ _ refl

pub returns-clause-part : goal.returns-clause-part
returns-clause-part g c = part_as _ _ _ _ _ _ c.in-Ok.ensures.temporary c.in-Ok.ensures.name_is c.in-Ok.ensures.text_is _ _ c.place.ensures.part

pub returns-clause-whole : goal.returns-clause-whole
returns-clause-whole g c = on_ok_weaker c.place.result (λ h. whole_as _ _ _ _ _ _ c.in-Ok.ensures.temporary c.in-Ok.ensures.name_is c.in-Ok.ensures.text_is _ _ h) c.place.ensures.whole

pub returns-in_default-clause-only : goal.returns-in_default-clause-only
returns-in_default-clause-only g c = only_none _ _

pub returns-clause-only : goal.returns-clause-only
returns-clause-only g c = only_as _ _ _ _ _ _ c.in-Ok.ensures.temporary c.in-Ok.ensures.name_is c.in-Ok.ensures.text_is _ _ c.place.ensures.only

pub place-requires-clause-temporary : goal.place-requires-clause-temporary
place-requires-clause-temporary g c = temporary_is c.args.stanza.now _ c.in-Ok.ensures.temporary

pub place-requires-clause-lasting : goal.place-requires-clause-lasting
place-requires-clause-lasting g c = refusal_stays c.args.stanza.now c.args.name.now _ c.in-Ok.ensures.name_is
