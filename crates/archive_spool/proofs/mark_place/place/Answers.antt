use Rattle.std.proofs.Common.{◌∙◌}
use Rattle.std.specs.Prelude.{string_bytes}
use Rattle.archive_spool.proofs.Renamed.{staged_part, placed_part}
use Rattle.archive_spool.proofs.mark_place.place.Goals as goal

pub returns-in_err-staged-clause-part : goal.returns-in_err-staged-clause-part
returns-in_err-staged-clause-part g c =
    staged_part (string_bytes c.args.mark.now.temporary) (string_bytes c.args.mark.now.name) (string_bytes c.args.mark.now.text) c.requires.temporary c.requires.lasting c.deref.result.now c.deref.ensures _ _ c.stage.ensures.others

pub returns-in_err-rename-clause-part : goal.returns-in_err-rename-clause-part
returns-in_err-rename-clause-part g c =
    placed_part (string_bytes c.args.mark.now.temporary) (string_bytes c.args.mark.now.name) (string_bytes c.args.mark.now.text) c.requires.temporary c.requires.lasting c.rename.result _ _ _ c.deref.result.now c.name.result.now c.deref-2.result.now c.as_bytes.result.now
    c.deref.ensures (c.name.ensures ∙ c.in_ok-staged.ensures.name) c.deref-2.ensures c.as_bytes.ensures.value c.in_ok-staged.ensures.now c.rename.ensures.now

pub returns-clause-part : goal.returns-clause-part
returns-clause-part g c =
    placed_part (string_bytes c.args.mark.now.temporary) (string_bytes c.args.mark.now.name) (string_bytes c.args.mark.now.text) c.requires.temporary c.requires.lasting c.rename.result _ _ _ c.deref.result.now c.name.result.now c.deref-2.result.now c.as_bytes.result.now
    c.deref.ensures (c.name.ensures ∙ c.in_ok-staged.ensures.name) c.deref-2.ensures c.as_bytes.ensures.value c.in_ok-staged.ensures.now c.rename.ensures.now
