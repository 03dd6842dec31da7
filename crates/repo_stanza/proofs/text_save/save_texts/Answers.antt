use Rattle.std.proofs.Common.{inl, inr, refl}
use Rattle.base_devices.proofs.Crashes.{writes_on, writes_end, writes_part}
use Rattle.base_devices.proofs.Lasting.{still_synced}
use Rattle.base_model.proofs.Temporary.{pair_lasts}
use Rattle.base_devices.proofs.Nows.{now_writes_on, now_writes_end, now_writes_part}
use Rattle.base_model.specs.Names.{archive_info, backup_info}
use Rattle.base_model.specs.Create.{member_writes}
use Rattle.repo_stanza.proofs.text_save.save_texts.Goals as goal

pub returns-in_err-save_backup_text-clause-crash : goal.returns-in_err-save_backup_text-clause-crash
returns-in_err-save_backup_text-clause-crash g c = λ t. writes_part (member_writes (backup_info c.args.stanza.now) c.args.backup.now) (member_writes (archive_info c.args.stanza.now) c.args.archive.now) _ _ (c.save_backup_text.ensures.crash t.backup t.backup_copy)

pub returns-in_err-save_archive_text-clause-crash : goal.returns-in_err-save_archive_text-clause-crash
returns-in_err-save_archive_text-clause-crash g c = λ t. let first = c.save_backup_text.ensures.crash t.backup t.backup_copy in
    writes_on (member_writes (backup_info c.args.stanza.now) c.args.backup.now) (member_writes (archive_info c.args.stanza.now) c.args.archive.now) _ _ _ first (c.in_ok-save_backup_text.ensures.whole t.backup t.backup_copy) (c.save_archive_text.ensures.crash (still_synced _ _ _ _ first (pair_lasts c.args.stanza.now _ (inl refl)) t.archive) (still_synced _ _ _ _ first (pair_lasts c.args.stanza.now _ (inr (inl refl))) t.archive_copy))

pub returns-in_err-save_archive_text-clause-now_part : goal.returns-in_err-save_archive_text-clause-now_part
returns-in_err-save_archive_text-clause-now_part g c = now_writes_on (member_writes (backup_info c.args.stanza.now) c.args.backup.now) (member_writes (archive_info c.args.stanza.now) c.args.archive.now) _ _ _ c.in_ok-save_backup_text.ensures.now_whole c.save_archive_text.ensures.now_part

pub returns-clause-crash : goal.returns-clause-crash
returns-clause-crash g c = λ t. let first = c.save_backup_text.ensures.crash t.backup t.backup_copy in
    writes_on (member_writes (backup_info c.args.stanza.now) c.args.backup.now) (member_writes (archive_info c.args.stanza.now) c.args.archive.now) _ _ _ first (c.in_ok-save_backup_text.ensures.whole t.backup t.backup_copy) (c.save_archive_text.ensures.crash (still_synced _ _ _ _ first (pair_lasts c.args.stanza.now _ (inl refl)) t.archive) (still_synced _ _ _ _ first (pair_lasts c.args.stanza.now _ (inr (inl refl))) t.archive_copy))

pub returns-clause-whole : goal.returns-clause-whole
returns-clause-whole g c = λ t. let first = c.save_backup_text.ensures.crash t.backup t.backup_copy in
    writes_end (member_writes (backup_info c.args.stanza.now) c.args.backup.now) (member_writes (archive_info c.args.stanza.now) c.args.archive.now) _ _ _ first (c.in_ok-save_backup_text.ensures.whole t.backup t.backup_copy) (c.in_ok-save_archive_text.ensures.whole (still_synced _ _ _ _ first (pair_lasts c.args.stanza.now _ (inl refl)) t.archive) (still_synced _ _ _ _ first (pair_lasts c.args.stanza.now _ (inr (inl refl))) t.archive_copy))

pub returns-clause-now_part : goal.returns-clause-now_part
returns-clause-now_part g c = now_writes_on (member_writes (backup_info c.args.stanza.now) c.args.backup.now) (member_writes (archive_info c.args.stanza.now) c.args.archive.now) _ _ _ c.in_ok-save_backup_text.ensures.now_whole c.save_archive_text.ensures.now_part

pub returns-clause-now_whole : goal.returns-clause-now_whole
returns-clause-now_whole g c = now_writes_end (member_writes (backup_info c.args.stanza.now) c.args.backup.now) (member_writes (archive_info c.args.stanza.now) c.args.archive.now) _ _ _ c.in_ok-save_backup_text.ensures.now_whole c.in_ok-save_archive_text.ensures.now_whole
