use Rattle.std.proofs.Common.{inl, inr, refl}
use Rattle.base_devices.specs.Crash.{SomeOf}
use Rattle.base_devices.proofs.Crashes.{crash_as, some_part, somes_on}
use Rattle.base_devices.proofs.Lasting.{still_synced}
use Rattle.base_devices.proofs.Nows.{now_as, now_somes_on}
use Rattle.base_model.specs.Names.{archive_info, backup_info}
use Rattle.base_model.specs.Create.{member_writes}
use Rattle.base_model.specs.Values.{archive_info_of, backup_info_of}
use Rattle.base_model.proofs.Temporary.{pair_lasts}
use Rattle.repo_stanza.specs.HealingPair.{archive_text, backup_text, mending_writes}
use Rattle.repo_stanza.proofs.Owned.{archive_only, archive_then}
use Rattle.repo_stanza.proofs.PairValues.{both_hold}
use Rattle.repo_stanza.proofs.keeping.keep_stanza.Goals as goal

pub returns-in_err-keep_archive-clause-crash : goal.returns-in_err-keep_archive-clause-crash
returns-in_err-keep_archive-clause-crash g c = λ t.
    let ws = member_writes (archive_info c.args.stanza.now) (archive_text (archive_info_of c.args.kept.now.archive)) in
    let vs = member_writes (backup_info c.args.stanza.now) (backup_text (backup_info_of c.args.kept.now.backup)) in
    crash_as (SomeOf ws) (SomeOf (mending_writes c.args.stanza.now (archive_text (archive_info_of c.args.kept.now.archive)) (backup_text (backup_info_of c.args.kept.now.backup)))) _ _ (some_part ws vs) (c.keep_archive.ensures.crash t.archive t.archive_copy)

pub returns-in_err-keep_archive-clause-now_part : goal.returns-in_err-keep_archive-clause-now_part
returns-in_err-keep_archive-clause-now_part g c =
    let ws = member_writes (archive_info c.args.stanza.now) (archive_text (archive_info_of c.args.kept.now.archive)) in
    let vs = member_writes (backup_info c.args.stanza.now) (backup_text (backup_info_of c.args.kept.now.backup)) in
    now_as (SomeOf ws) (SomeOf (mending_writes c.args.stanza.now (archive_text (archive_info_of c.args.kept.now.archive)) (backup_text (backup_info_of c.args.kept.now.backup)))) _ _ (some_part ws vs) c.keep_archive.ensures.now_part

pub returns-in_err-keep_backup-clause-crash : goal.returns-in_err-keep_backup-clause-crash
returns-in_err-keep_backup-clause-crash g c = λ t.
    let ws = member_writes (archive_info c.args.stanza.now) (archive_text (archive_info_of c.args.kept.now.archive)) in
    let vs = member_writes (backup_info c.args.stanza.now) (backup_text (backup_info_of c.args.kept.now.backup)) in
    let first = c.keep_archive.ensures.crash t.archive t.archive_copy in
    somes_on ws vs _ _ _ first (c.keep_backup.ensures.crash (still_synced _ _ _ _ first (pair_lasts c.args.stanza.now _ (inr (inr (inl refl)))) t.backup) (still_synced _ _ _ _ first (pair_lasts c.args.stanza.now _ (inr (inr (inr refl)))) t.backup_copy))

pub returns-clause-crash : goal.returns-clause-crash
returns-clause-crash g c = λ t.
    let ws = member_writes (archive_info c.args.stanza.now) (archive_text (archive_info_of c.args.kept.now.archive)) in
    let vs = member_writes (backup_info c.args.stanza.now) (backup_text (backup_info_of c.args.kept.now.backup)) in
    let first = c.keep_archive.ensures.crash t.archive t.archive_copy in
    somes_on ws vs _ _ _ first (c.keep_backup.ensures.crash (still_synced _ _ _ _ first (pair_lasts c.args.stanza.now _ (inr (inr (inl refl)))) t.backup) (still_synced _ _ _ _ first (pair_lasts c.args.stanza.now _ (inr (inr (inr refl)))) t.backup_copy))

pub returns-in_err-keep_backup-clause-now_part : goal.returns-in_err-keep_backup-clause-now_part
returns-in_err-keep_backup-clause-now_part g c =
    now_somes_on (member_writes (archive_info c.args.stanza.now) (archive_text (archive_info_of c.args.kept.now.archive))) (member_writes (backup_info c.args.stanza.now) (backup_text (backup_info_of c.args.kept.now.backup))) _ _ _ c.keep_archive.ensures.now_part c.keep_backup.ensures.now_part

pub returns-clause-now_part : goal.returns-clause-now_part
returns-clause-now_part g c =
    now_somes_on (member_writes (archive_info c.args.stanza.now) (archive_text (archive_info_of c.args.kept.now.archive))) (member_writes (backup_info c.args.stanza.now) (backup_text (backup_info_of c.args.kept.now.backup))) _ _ _ c.keep_archive.ensures.now_part c.keep_backup.ensures.now_part

pub returns-clause-healed_pair : goal.returns-clause-healed_pair
returns-clause-healed_pair g c = λ some.
    both_hold c.args.stanza.now (archive_text (archive_info_of c.args.kept.now.archive)) (backup_text (backup_info_of c.args.kept.now.backup)) _ _ (c.keep_archive.ensures.now_part.known some) c.in_ok-keep_archive.ensures.healed_pair c.keep_backup.ensures.now_part c.in_ok-keep_backup.ensures.healed_pair

pub returns-in_err-keep_archive-clause-only : goal.returns-in_err-keep_archive-clause-only
returns-in_err-keep_archive-clause-only g c = archive_only c.args.stanza.now _ _ c.keep_archive.ensures.only

pub returns-in_err-keep_backup-clause-only : goal.returns-in_err-keep_backup-clause-only
returns-in_err-keep_backup-clause-only g c = archive_then c.args.stanza.now _ _ _ c.keep_archive.ensures.only c.keep_backup.ensures.only

pub returns-clause-only : goal.returns-clause-only
returns-clause-only g c = archive_then c.args.stanza.now _ _ _ c.keep_archive.ensures.only c.keep_backup.ensures.only
