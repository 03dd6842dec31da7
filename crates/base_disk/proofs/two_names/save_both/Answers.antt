use Rattle.std.proofs.Common.{[], ◌∷◌}
use Rattle.base_devices.proofs.Crashes.{writes_on, writes_end, writes_part}
use Rattle.base_devices.proofs.Lasting.{still_synced}
use Rattle.base_devices.proofs.Nows.{now_writes_on, now_writes_end}
use Rattle.base_disk.proofs.Changes.{only_first, only_both}
use Rattle.base_disk.proofs.two_names.save_both.Goals as goal

pub returns-in_err-replace-clause-crash : goal.returns-in_err-replace-clause-crash
returns-in_err-replace-clause-crash g c = λ main copy. writes_part ((c.args.main.now, c.args.bytes.now) ∷ []) ((c.args.copy.now, c.args.bytes.now) ∷ []) _ _ (c.replace.ensures.crash main)

pub returns-in_err-replace-2-clause-crash : goal.returns-in_err-replace-2-clause-crash
returns-in_err-replace-2-clause-crash g c = λ main copy. let first = c.replace.ensures.crash main in
    writes_on ((c.args.main.now, c.args.bytes.now) ∷ []) ((c.args.copy.now, c.args.bytes.now) ∷ []) _ _ _ first (c.in_ok-replace.ensures.whole main) (c.replace-2.ensures.crash (still_synced _ _ _ _ first c.requires.copy_lasts copy))

pub returns-clause-crash : goal.returns-clause-crash
returns-clause-crash g c = λ main copy. let first = c.replace.ensures.crash main in
    writes_on ((c.args.main.now, c.args.bytes.now) ∷ []) ((c.args.copy.now, c.args.bytes.now) ∷ []) _ _ _ first (c.in_ok-replace.ensures.whole main) (c.replace-2.ensures.crash (still_synced _ _ _ _ first c.requires.copy_lasts copy))

pub returns-clause-whole : goal.returns-clause-whole
returns-clause-whole g c = λ main copy. let first = c.replace.ensures.crash main in
    writes_end ((c.args.main.now, c.args.bytes.now) ∷ []) ((c.args.copy.now, c.args.bytes.now) ∷ []) _ _ _ first (c.in_ok-replace.ensures.whole main) (c.in_ok-replace-2.ensures.whole (still_synced _ _ _ _ first c.requires.copy_lasts copy))

pub returns-in_err-replace-2-clause-now_part : goal.returns-in_err-replace-2-clause-now_part
returns-in_err-replace-2-clause-now_part g c = now_writes_on ((c.args.main.now, c.args.bytes.now) ∷ []) ((c.args.copy.now, c.args.bytes.now) ∷ []) _ _ _ c.in_ok-replace.ensures.now_whole c.replace-2.ensures.now_part

pub returns-clause-now_part : goal.returns-clause-now_part
returns-clause-now_part g c = now_writes_on ((c.args.main.now, c.args.bytes.now) ∷ []) ((c.args.copy.now, c.args.bytes.now) ∷ []) _ _ _ c.in_ok-replace.ensures.now_whole c.replace-2.ensures.now_part

pub returns-clause-now_whole : goal.returns-clause-now_whole
returns-clause-now_whole g c = now_writes_end ((c.args.main.now, c.args.bytes.now) ∷ []) ((c.args.copy.now, c.args.bytes.now) ∷ []) _ _ _ c.in_ok-replace.ensures.now_whole c.in_ok-replace-2.ensures.now_whole

pub returns-in_err-replace-clause-only : goal.returns-in_err-replace-clause-only
returns-in_err-replace-clause-only g c = only_first c.args.temp.now c.args.main.now c.args.copy.now _ _ c.replace.ensures.only

pub returns-in_err-replace-2-clause-only : goal.returns-in_err-replace-2-clause-only
returns-in_err-replace-2-clause-only g c = only_both c.args.temp.now c.args.main.now c.args.copy.now _ _ _ c.replace.ensures.only c.replace-2.ensures.only

pub returns-clause-only : goal.returns-clause-only
returns-clause-only g c = only_both c.args.temp.now c.args.main.now c.args.copy.now _ _ _ c.replace.ensures.only c.replace-2.ensures.only
