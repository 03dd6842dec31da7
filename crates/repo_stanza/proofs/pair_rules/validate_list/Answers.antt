use Rattle.std.proofs.Common.{◌+◌, ◌∙◌, sym, refl, arith}
use Rattle.base_model.specs.Values.{archive_info_of, backup_info_of}
use Rattle.repo_stanza.proofs.Judged.{pending_place, settles_without, place_fits, differ_as}
use Rattle.repo_stanza.proofs.pair_rules.validate_list.Goals.{else-place-len-via-then-place-len+else-has_pending, else-place-len-via-else-place-len}
use Rattle.repo_stanza.proofs.pair_rules.validate_list.Goals as goal

pub without_last-requires-clause-unused : goal.without_last-requires-clause-unused
without_last-requires-clause-unused c = λ e at same. c.if-has_pending.ensures.unused refl e at (same ∙ sym (c.if-has_pending.ensures.current refl))

pub returns-then-has_pending-clause-settled : goal.returns-then-has_pending-clause-settled
returns-then-has_pending-clause-settled c =
    settles_without (archive_info_of c.args.archive.now) (backup_info_of c.args.backup) (backup_info_of c.without_last.result) c.without_last.ensures.history.0 c.in-Some.place c.requires.backup
    (differ_as _ _ _ _ _ c.deref.ensures.value c.deref-2.ensures.value c.in-Some.ensures.some) (omega (arith, c.if-place-len.true, c.len.ensures))
    (c.if-has_pending.ensures.one refl) (c.if-has_pending.ensures.current refl) (c.if-has_pending.ensures.unused refl)
    c.without_last.ensures.history.1 c.without_last.ensures.current c.without_last.ensures.backups

pub overflow_cast-result : goal.overflow_cast-result
overflow_cast-result c =
    let fits = place_fits (archive_info_of c.args.archive.now) (backup_info_of c.args.backup) c.requires.archive c.requires.backup c.in-Some.place _ _ c.deref.ensures.value c.deref-2.ensures.value c.in-Some.ensures.within in
    omega (arith, fits)

pub overflow_add-result : goal.overflow_add-result
overflow_add-result c =
    let fits = place_fits (archive_info_of c.args.archive.now) (backup_info_of c.args.backup) c.requires.archive c.requires.backup c.in-Some.place _ _ c.deref.ensures.value c.deref-2.ensures.value c.in-Some.ensures.within in
    omega (arith, fits)

pub returns-clause-differ : goal.returns-clause-differ
returns-clause-differ c =
    let d = differ_as _ _ _ _ _ c.deref.ensures.value c.deref-2.ensures.value c.in-Some.ensures.some in
    elim c.else-place-len.branch [
      | else-place-len-via-then-place-len+else-has_pending w ↦ record { at = c.in-Some.place + 1; differ = d; settled = w.if-has_pending.ensures.other refl; is = refl }
      | else-place-len-via-else-place-len w ↦ record { at = c.in-Some.place + 1; differ = d; settled = λ p. let place = pending_place (archive_info_of c.args.archive.now) (backup_info_of c.args.backup) p c.in-Some.place d in w.if-place-len.false (omega (arith, place, c.len.ensures)); is = refl }
    ]
