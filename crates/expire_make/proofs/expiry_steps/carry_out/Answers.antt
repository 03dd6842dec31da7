use Rattle.std.proofs.Common.{Some, map, refl}
use Rattle.std.proofs.lemmas.Result.{on_ok_weaker}
use Rattle.base_devices.proofs.Places.{ok_both as on_ok_both}
use Rattle.base_model.specs.Values.{archive_info_of, backup_info_of, entry_of}
use Rattle.expire_rules.specs.Labels.{labels_of}
use Rattle.expire_make.specs.Losing.{IsUnlisted, IsUnneeded}
use Rattle.expire_make.specs.Planning.{keeps_by, list_text}
use Rattle.expire_make.proofs.Losses.{takes_crash, takes_goes}
use Rattle.expire_make.proofs.Alike.{always, members_alike, members_last}
use Rattle.expire_make.proofs.Carried.{main_synced, copy_synced, unlisted_as, no_unlisted_as, unneeded_as, gone_as, counts_as}
use Rattle.expire_make.proofs.Ending.{leaves_of}
use Rattle.expire_make.proofs.Ways.{saved_moves, lost_moves, gone_moves, gone_steady}
use Rattle.expire_make.proofs.WaysNow.{saved_now, lost_now, gone_now, gone_all}
use Rattle.expire_rules.proofs.Joined.{if_ok_on}
use Rattle.expire_make.proofs.Counts.{counted_as}
use Rattle.expire_make.proofs.Gone.{counts_gone}
use Rattle.expire_make.proofs.Touched.{saved_beside, saved_only, dropped_beside, dropped_only, gone_beside, gone_only}
use Rattle.expire_make.proofs.expiry_steps.carry_out.Goals as goal

pub returns-in_err-save_left-clause-part : goal.returns-in_err-save_left-clause-part
returns-in_err-save_left-clause-part g c = λ moment s plan sound known. record {
  now = λ now. saved_now c.args.stanza.now c.args.rules.now moment c.args.plan.now.labels.items (backup_info_of c.args.plan.now.left) (archive_info_of c.args.plan.now.archive) s (g.D.Disk.state c.args.d.now).view.now known now sound plan (g.D.Disk.state c.save_left.new.d).view.now c.save_left.ensures.now_part;
  moves = λ steady. saved_moves c.args.stanza.now c.args.rules.now moment c.args.plan.now.labels.items (backup_info_of c.args.plan.now.left) (archive_info_of c.args.plan.now.archive) s (g.D.Disk.state c.args.d.now).view steady sound known plan (g.D.Disk.state c.save_left.new.d).view (c.save_left.ensures.crash (main_synced c.args.stanza.now (Some s) (g.D.Disk.state c.args.d.now).view steady) (copy_synced c.args.stanza.now (Some s) (g.D.Disk.state c.args.d.now).view steady));
}

pub returns-in_err-drop_unlisted-clause-part : goal.returns-in_err-drop_unlisted-clause-part
returns-in_err-drop_unlisted-clause-part g c = λ moment s plan sound known. record {
  now = λ now. lost_now c.args.stanza.now c.args.rules.now moment c.args.plan.now.labels.items (backup_info_of c.args.plan.now.left) (archive_info_of c.args.plan.now.archive) s (g.D.Disk.state c.args.d.now).view.now known now sound plan (g.D.Disk.state c.save_left.new.d).view.now c.in_ok-save_left.ensures.now_whole (g.D.Disk.state c.drop_unlisted.new.d).view.now (takes_goes (IsUnlisted c.args.stanza.now (labels_of (map entry_of c.args.plan.now.left.backups.items))) (g.D.Disk.state c.save_left.new.d) (g.D.Disk.state c.drop_unlisted.new.d) (unlisted_as c.args.stanza.now _ _ c.deref.ensures.value (g.D.Disk.state c.save_left.new.d) (g.D.Disk.state c.drop_unlisted.new.d) c.drop_unlisted.ensures.takes));
  moves = λ steady. lost_moves c.args.stanza.now c.args.rules.now moment c.args.plan.now.labels.items (backup_info_of c.args.plan.now.left) (archive_info_of c.args.plan.now.archive) s (g.D.Disk.state c.args.d.now).view steady sound known plan (g.D.Disk.state c.save_left.new.d).view (c.save_left.ensures.crash (main_synced c.args.stanza.now (Some s) (g.D.Disk.state c.args.d.now).view steady) (copy_synced c.args.stanza.now (Some s) (g.D.Disk.state c.args.d.now).view steady)) (c.in_ok-save_left.ensures.whole (main_synced c.args.stanza.now (Some s) (g.D.Disk.state c.args.d.now).view steady) (copy_synced c.args.stanza.now (Some s) (g.D.Disk.state c.args.d.now).view steady)) (g.D.Disk.state c.drop_unlisted.new.d).view (takes_crash (IsUnlisted c.args.stanza.now (labels_of (map entry_of c.args.plan.now.left.backups.items))) (g.D.Disk.state c.save_left.new.d) (g.D.Disk.state c.drop_unlisted.new.d) (g.met.D.Disk.now_may_be_left c.save_left.new.d) (unlisted_as c.args.stanza.now _ _ c.deref.ensures.value (g.D.Disk.state c.save_left.new.d) (g.D.Disk.state c.drop_unlisted.new.d) c.drop_unlisted.ensures.takes));
}

pub returns-clause-part : goal.returns-clause-part
returns-clause-part g c = λ moment s plan sound known. record {
  now = λ now. gone_now c.args.stanza.now c.args.rules.now moment c.args.plan.now.labels.items (backup_info_of c.args.plan.now.left) (archive_info_of c.args.plan.now.archive) s (g.D.Disk.state c.args.d.now).view.now known now sound plan (g.D.Disk.state c.save_left.new.d).view.now c.in_ok-save_left.ensures.now_whole (g.D.Disk.state c.drop_unlisted.new.d).view.now (takes_goes (IsUnlisted c.args.stanza.now (labels_of (map entry_of c.args.plan.now.left.backups.items))) (g.D.Disk.state c.save_left.new.d) (g.D.Disk.state c.drop_unlisted.new.d) (unlisted_as c.args.stanza.now _ _ c.deref.ensures.value (g.D.Disk.state c.save_left.new.d) (g.D.Disk.state c.drop_unlisted.new.d) c.drop_unlisted.ensures.takes)) (g.D.Disk.state c.forget.new.d).view.now (takes_goes (IsUnneeded c.args.stanza.now (keeps_by c.args.rules.now c.args.plan.now.archive.current (map entry_of c.args.plan.now.left.backups.items))) (g.D.Disk.state c.drop_unlisted.new.d) (g.D.Disk.state c.forget.new.d) (unneeded_as c.args.stanza.now _ _ c.deref-3.ensures.value c.args.rules.now c.args.plan.now.archive.current (g.D.Disk.state c.drop_unlisted.new.d) (g.D.Disk.state c.forget.new.d) c.forget.ensures.takes));
  moves = λ steady. gone_moves c.args.stanza.now c.args.rules.now moment c.args.plan.now.labels.items (backup_info_of c.args.plan.now.left) (archive_info_of c.args.plan.now.archive) s (g.D.Disk.state c.args.d.now).view steady sound known plan (g.D.Disk.state c.save_left.new.d).view (c.save_left.ensures.crash (main_synced c.args.stanza.now (Some s) (g.D.Disk.state c.args.d.now).view steady) (copy_synced c.args.stanza.now (Some s) (g.D.Disk.state c.args.d.now).view steady)) (c.in_ok-save_left.ensures.whole (main_synced c.args.stanza.now (Some s) (g.D.Disk.state c.args.d.now).view steady) (copy_synced c.args.stanza.now (Some s) (g.D.Disk.state c.args.d.now).view steady)) (g.D.Disk.state c.drop_unlisted.new.d).view (takes_crash (IsUnlisted c.args.stanza.now (labels_of (map entry_of c.args.plan.now.left.backups.items))) (g.D.Disk.state c.save_left.new.d) (g.D.Disk.state c.drop_unlisted.new.d) (g.met.D.Disk.now_may_be_left c.save_left.new.d) (unlisted_as c.args.stanza.now _ _ c.deref.ensures.value (g.D.Disk.state c.save_left.new.d) (g.D.Disk.state c.drop_unlisted.new.d) c.drop_unlisted.ensures.takes)) (g.D.Disk.state c.forget.new.d).view (takes_crash (IsUnneeded c.args.stanza.now (keeps_by c.args.rules.now c.args.plan.now.archive.current (map entry_of c.args.plan.now.left.backups.items))) (g.D.Disk.state c.drop_unlisted.new.d) (g.D.Disk.state c.forget.new.d) (g.met.D.Disk.now_may_be_left c.drop_unlisted.new.d) (unneeded_as c.args.stanza.now _ _ c.deref-3.ensures.value c.args.rules.now c.args.plan.now.archive.current (g.D.Disk.state c.drop_unlisted.new.d) (g.D.Disk.state c.forget.new.d) c.forget.ensures.takes));
}

pub returns-clause-whole : goal.returns-clause-whole
returns-clause-whole g c = on_ok_both c.forget.result (λ gone settled moment s plan sound known. record {
  now = λ now. gone_all c.args.stanza.now c.args.rules.now moment c.args.plan.now.labels.items (backup_info_of c.args.plan.now.left) (archive_info_of c.args.plan.now.archive) s (g.D.Disk.state c.args.d.now).view.now known now sound plan (g.D.Disk.state c.save_left.new.d).view.now c.in_ok-save_left.ensures.now_whole (g.D.Disk.state c.drop_unlisted.new.d).view.now (takes_goes (IsUnlisted c.args.stanza.now (labels_of (map entry_of c.args.plan.now.left.backups.items))) (g.D.Disk.state c.save_left.new.d) (g.D.Disk.state c.drop_unlisted.new.d) (unlisted_as c.args.stanza.now _ _ c.deref.ensures.value (g.D.Disk.state c.save_left.new.d) (g.D.Disk.state c.drop_unlisted.new.d) c.drop_unlisted.ensures.takes)) (g.D.Disk.state c.drop_unlisted.new.d).view (g.D.Disk.state c.forget.new.d).view refl (takes_goes (IsUnneeded c.args.stanza.now (keeps_by c.args.rules.now c.args.plan.now.archive.current (map entry_of c.args.plan.now.left.backups.items))) (g.D.Disk.state c.drop_unlisted.new.d) (g.D.Disk.state c.forget.new.d) (unneeded_as c.args.stanza.now _ _ c.deref-3.ensures.value c.args.rules.now c.args.plan.now.archive.current (g.D.Disk.state c.drop_unlisted.new.d) (g.D.Disk.state c.forget.new.d) c.forget.ensures.takes)) (gone_as c.args.stanza.now _ _ c.deref-3.ensures.value c.args.rules.now c.args.plan.now.archive.current _ c.args.plan.now.archive.history.items (g.D.Disk.state c.forget.new.d).view.now c.deref-2.ensures.value gone);
  steady = λ steady. gone_steady c.args.stanza.now c.args.rules.now moment c.args.plan.now.labels.items (backup_info_of c.args.plan.now.left) (archive_info_of c.args.plan.now.archive) s (g.D.Disk.state c.args.d.now).view steady sound known plan (g.D.Disk.state c.save_left.new.d).view (c.save_left.ensures.crash (main_synced c.args.stanza.now (Some s) (g.D.Disk.state c.args.d.now).view steady) (copy_synced c.args.stanza.now (Some s) (g.D.Disk.state c.args.d.now).view steady)) (c.in_ok-save_left.ensures.whole (main_synced c.args.stanza.now (Some s) (g.D.Disk.state c.args.d.now).view steady) (copy_synced c.args.stanza.now (Some s) (g.D.Disk.state c.args.d.now).view steady)) (g.D.Disk.state c.drop_unlisted.new.d).view (takes_crash (IsUnlisted c.args.stanza.now (labels_of (map entry_of c.args.plan.now.left.backups.items))) (g.D.Disk.state c.save_left.new.d) (g.D.Disk.state c.drop_unlisted.new.d) (g.met.D.Disk.now_may_be_left c.save_left.new.d) (unlisted_as c.args.stanza.now _ _ c.deref.ensures.value (g.D.Disk.state c.save_left.new.d) (g.D.Disk.state c.drop_unlisted.new.d) c.drop_unlisted.ensures.takes)) (g.D.Disk.state c.forget.new.d).view (takes_crash (IsUnneeded c.args.stanza.now (keeps_by c.args.rules.now c.args.plan.now.archive.current (map entry_of c.args.plan.now.left.backups.items))) (g.D.Disk.state c.drop_unlisted.new.d) (g.D.Disk.state c.forget.new.d) (g.met.D.Disk.now_may_be_left c.drop_unlisted.new.d) (unneeded_as c.args.stanza.now _ _ c.deref-3.ensures.value c.args.rules.now c.args.plan.now.archive.current (g.D.Disk.state c.drop_unlisted.new.d) (g.D.Disk.state c.forget.new.d) c.forget.ensures.takes)) (g.met.D.Disk.now_may_be_left c.drop_unlisted.new.d) (unneeded_as c.args.stanza.now _ _ c.deref-3.ensures.value c.args.rules.now c.args.plan.now.archive.current (g.D.Disk.state c.drop_unlisted.new.d) (g.D.Disk.state c.forget.new.d) c.forget.ensures.takes).works.time (takes_goes (IsUnneeded c.args.stanza.now (keeps_by c.args.rules.now c.args.plan.now.archive.current (map entry_of c.args.plan.now.left.backups.items))) (g.D.Disk.state c.drop_unlisted.new.d) (g.D.Disk.state c.forget.new.d) (unneeded_as c.args.stanza.now _ _ c.deref-3.ensures.value c.args.rules.now c.args.plan.now.archive.current (g.D.Disk.state c.drop_unlisted.new.d) (g.D.Disk.state c.forget.new.d) c.forget.ensures.takes)) (gone_as c.args.stanza.now _ _ c.deref-3.ensures.value c.args.rules.now c.args.plan.now.archive.current _ c.args.plan.now.archive.history.items (g.D.Disk.state c.forget.new.d).view.now c.deref-2.ensures.value gone) settled;
}) c.forget.ensures.gone c.forget.ensures.settled

pub returns-clause-removed : goal.returns-clause-removed
returns-clause-removed g c = if_ok_on c.forget.result _ _ (λ k counts. counts_gone c.args.stanza.now (labels_of (map entry_of c.args.plan.now.left.backups.items)) (g.D.Disk.state c.args.d.now) (g.D.Disk.state c.save_left.new.d) (g.D.Disk.state c.drop_unlisted.new.d) c.save_left.ensures.only (unlisted_as c.args.stanza.now _ _ c.deref.ensures.value (g.D.Disk.state c.save_left.new.d) (g.D.Disk.state c.drop_unlisted.new.d) c.drop_unlisted.ensures.takes) (keeps_by c.args.rules.now c.args.plan.now.archive.current (map entry_of c.args.plan.now.left.backups.items)) k (g.D.Disk.state c.forget.new.d) (λ known. ((takes_goes (IsUnlisted c.args.stanza.now (labels_of (map entry_of c.args.plan.now.left.backups.items))) (g.D.Disk.state c.save_left.new.d) (g.D.Disk.state c.drop_unlisted.new.d) (unlisted_as c.args.stanza.now _ _ c.deref.ensures.value (g.D.Disk.state c.save_left.new.d) (g.D.Disk.state c.drop_unlisted.new.d) c.drop_unlisted.ensures.takes)).known (c.in_ok-save_left.ensures.now_whole.known known))) (λ some. counted_as (IsUnneeded c.args.stanza.now (keeps_by c.args.rules.now c.args.plan.now.archive.current (map entry_of c.args.plan.now.left.backups.items))) k _ _ _ _ refl refl (counts_as c.args.stanza.now _ _ c.deref-3.ensures.value c.args.rules.now c.args.plan.now.archive.current k _ _ (counts some)))) c.forget.ensures.counts

pub returns-clause-known : goal.returns-clause-known
returns-clause-known g c = λ known. (takes_goes (IsUnneeded c.args.stanza.now (keeps_by c.args.rules.now c.args.plan.now.archive.current (map entry_of c.args.plan.now.left.backups.items))) (g.D.Disk.state c.drop_unlisted.new.d) (g.D.Disk.state c.forget.new.d) (unneeded_as c.args.stanza.now _ _ c.deref-3.ensures.value c.args.rules.now c.args.plan.now.archive.current (g.D.Disk.state c.drop_unlisted.new.d) (g.D.Disk.state c.forget.new.d) c.forget.ensures.takes)).known ((takes_goes (IsUnlisted c.args.stanza.now (labels_of (map entry_of c.args.plan.now.left.backups.items))) (g.D.Disk.state c.save_left.new.d) (g.D.Disk.state c.drop_unlisted.new.d) (unlisted_as c.args.stanza.now _ _ c.deref.ensures.value (g.D.Disk.state c.save_left.new.d) (g.D.Disk.state c.drop_unlisted.new.d) c.drop_unlisted.ensures.takes)).known (c.in_ok-save_left.ensures.now_whole.known known))

pub returns-in_err-drop_unlisted-clause-known : goal.returns-in_err-drop_unlisted-clause-known
returns-in_err-drop_unlisted-clause-known g c = λ known. ((takes_goes (IsUnlisted c.args.stanza.now (labels_of (map entry_of c.args.plan.now.left.backups.items))) (g.D.Disk.state c.save_left.new.d) (g.D.Disk.state c.drop_unlisted.new.d) (unlisted_as c.args.stanza.now _ _ c.deref.ensures.value (g.D.Disk.state c.save_left.new.d) (g.D.Disk.state c.drop_unlisted.new.d) c.drop_unlisted.ensures.takes)).known (c.in_ok-save_left.ensures.now_whole.known known))

pub returns-in_err-save_left-clause-beside : goal.returns-in_err-save_left-clause-beside
returns-in_err-save_left-clause-beside g c = saved_beside c.args.stanza.now (labels_of (map entry_of c.args.plan.now.left.backups.items)) (g.D.Disk.state c.args.d.now) (g.D.Disk.state c.save_left.new.d) (g.D.Disk.state c.save_left.new.d) (g.D.Disk.state c.save_left.new.d) c.save_left.ensures.only

pub returns-in_err-save_left-clause-touches : goal.returns-in_err-save_left-clause-touches
returns-in_err-save_left-clause-touches g c = saved_only c.args.stanza.now (labels_of (map entry_of c.args.plan.now.left.backups.items)) (g.D.Disk.state c.args.d.now) (g.D.Disk.state c.save_left.new.d) (g.D.Disk.state c.save_left.new.d) (g.D.Disk.state c.save_left.new.d) c.save_left.ensures.only (keeps_by c.args.rules.now c.args.plan.now.archive.current (map entry_of c.args.plan.now.left.backups.items))

pub returns-in_err-drop_unlisted-clause-beside : goal.returns-in_err-drop_unlisted-clause-beside
returns-in_err-drop_unlisted-clause-beside g c = dropped_beside c.args.stanza.now (labels_of (map entry_of c.args.plan.now.left.backups.items)) (g.D.Disk.state c.args.d.now) (g.D.Disk.state c.save_left.new.d) (g.D.Disk.state c.drop_unlisted.new.d) (g.D.Disk.state c.drop_unlisted.new.d) c.save_left.ensures.only (unlisted_as c.args.stanza.now _ _ c.deref.ensures.value (g.D.Disk.state c.save_left.new.d) (g.D.Disk.state c.drop_unlisted.new.d) c.drop_unlisted.ensures.takes)

pub returns-in_err-drop_unlisted-clause-touches : goal.returns-in_err-drop_unlisted-clause-touches
returns-in_err-drop_unlisted-clause-touches g c = dropped_only c.args.stanza.now (labels_of (map entry_of c.args.plan.now.left.backups.items)) (g.D.Disk.state c.args.d.now) (g.D.Disk.state c.save_left.new.d) (g.D.Disk.state c.drop_unlisted.new.d) (g.D.Disk.state c.drop_unlisted.new.d) c.save_left.ensures.only (unlisted_as c.args.stanza.now _ _ c.deref.ensures.value (g.D.Disk.state c.save_left.new.d) (g.D.Disk.state c.drop_unlisted.new.d) c.drop_unlisted.ensures.takes) (keeps_by c.args.rules.now c.args.plan.now.archive.current (map entry_of c.args.plan.now.left.backups.items))

pub returns-clause-beside : goal.returns-clause-beside
returns-clause-beside g c = gone_beside c.args.stanza.now (labels_of (map entry_of c.args.plan.now.left.backups.items)) (g.D.Disk.state c.args.d.now) (g.D.Disk.state c.save_left.new.d) (g.D.Disk.state c.drop_unlisted.new.d) (g.D.Disk.state c.forget.new.d) c.save_left.ensures.only (unlisted_as c.args.stanza.now _ _ c.deref.ensures.value (g.D.Disk.state c.save_left.new.d) (g.D.Disk.state c.drop_unlisted.new.d) c.drop_unlisted.ensures.takes) (keeps_by c.args.rules.now c.args.plan.now.archive.current (map entry_of c.args.plan.now.left.backups.items)) (unneeded_as c.args.stanza.now _ _ c.deref-3.ensures.value c.args.rules.now c.args.plan.now.archive.current (g.D.Disk.state c.drop_unlisted.new.d) (g.D.Disk.state c.forget.new.d) c.forget.ensures.takes)

pub returns-clause-touches : goal.returns-clause-touches
returns-clause-touches g c = gone_only c.args.stanza.now (labels_of (map entry_of c.args.plan.now.left.backups.items)) (g.D.Disk.state c.args.d.now) (g.D.Disk.state c.save_left.new.d) (g.D.Disk.state c.drop_unlisted.new.d) (g.D.Disk.state c.forget.new.d) c.save_left.ensures.only (unlisted_as c.args.stanza.now _ _ c.deref.ensures.value (g.D.Disk.state c.save_left.new.d) (g.D.Disk.state c.drop_unlisted.new.d) c.drop_unlisted.ensures.takes) (keeps_by c.args.rules.now c.args.plan.now.archive.current (map entry_of c.args.plan.now.left.backups.items)) (unneeded_as c.args.stanza.now _ _ c.deref-3.ensures.value c.args.rules.now c.args.plan.now.archive.current (g.D.Disk.state c.drop_unlisted.new.d) (g.D.Disk.state c.forget.new.d) c.forget.ensures.takes)

pub returns-clause-alike : goal.returns-clause-alike
returns-clause-alike g c = always c.forget.result (members_alike c.args.stanza.now (list_text (backup_info_of c.args.plan.now.left)) (labels_of (map entry_of c.args.plan.now.left.backups.items)) (keeps_by c.args.rules.now c.args.plan.now.archive.current (map entry_of c.args.plan.now.left.backups.items)) (g.D.Disk.state c.args.d.now) (g.D.Disk.state c.save_left.new.d) (g.D.Disk.state c.drop_unlisted.new.d) (g.D.Disk.state c.forget.new.d) c.in_ok-save_left.ensures.now_whole (unlisted_as c.args.stanza.now _ _ c.deref.ensures.value (g.D.Disk.state c.save_left.new.d) (g.D.Disk.state c.drop_unlisted.new.d) c.drop_unlisted.ensures.takes) (unneeded_as c.args.stanza.now _ _ c.deref-3.ensures.value c.args.rules.now c.args.plan.now.archive.current (g.D.Disk.state c.drop_unlisted.new.d) (g.D.Disk.state c.forget.new.d) c.forget.ensures.takes))

pub returns-clause-lasts : goal.returns-clause-lasts
returns-clause-lasts g c = always c.forget.result (members_last c.args.stanza.now (list_text (backup_info_of c.args.plan.now.left)) (labels_of (map entry_of c.args.plan.now.left.backups.items)) (keeps_by c.args.rules.now c.args.plan.now.archive.current (map entry_of c.args.plan.now.left.backups.items)) (g.D.Disk.state c.args.d.now) (g.D.Disk.state c.save_left.new.d) (g.D.Disk.state c.drop_unlisted.new.d) (g.D.Disk.state c.forget.new.d) c.in_ok-save_left.ensures.now_whole (unlisted_as c.args.stanza.now _ _ c.deref.ensures.value (g.D.Disk.state c.save_left.new.d) (g.D.Disk.state c.drop_unlisted.new.d) c.drop_unlisted.ensures.takes) (unneeded_as c.args.stanza.now _ _ c.deref-3.ensures.value c.args.rules.now c.args.plan.now.archive.current (g.D.Disk.state c.drop_unlisted.new.d) (g.D.Disk.state c.forget.new.d) c.forget.ensures.takes) (g.met.D.Disk.now_may_be_left c.save_left.new.d) (g.met.D.Disk.now_may_be_left c.drop_unlisted.new.d) c.in_ok-save_left.ensures.whole)

pub returns-clause-leaves : goal.returns-clause-leaves
returns-clause-leaves g c = on_ok_weaker c.forget.result (λ gone. leaves_of c.args.stanza.now c.args.rules.now (archive_info_of c.args.plan.now.archive) (backup_info_of c.args.plan.now.left) c.requires.valid c.requires.within (g.D.Disk.state c.args.d.now) (g.D.Disk.state c.save_left.new.d) (g.D.Disk.state c.drop_unlisted.new.d) (g.D.Disk.state c.forget.new.d)
    c.in_ok-save_left.ensures.now_whole (unlisted_as c.args.stanza.now _ _ c.deref.ensures.value (g.D.Disk.state c.save_left.new.d) (g.D.Disk.state c.drop_unlisted.new.d) c.drop_unlisted.ensures.takes) (unneeded_as c.args.stanza.now _ _ c.deref-3.ensures.value c.args.rules.now c.args.plan.now.archive.current (g.D.Disk.state c.drop_unlisted.new.d) (g.D.Disk.state c.forget.new.d) c.forget.ensures.takes)
    (no_unlisted_as c.args.stanza.now _ _ c.deref.ensures.value (g.D.Disk.state c.drop_unlisted.new.d) c.in_ok-drop_unlisted.ensures.gone)
    (gone_as c.args.stanza.now _ _ c.deref-3.ensures.value c.args.rules.now c.args.plan.now.archive.current _ c.args.plan.now.archive.history.items (g.D.Disk.state c.forget.new.d).view.now c.deref-2.ensures.value gone)
    (gone_only c.args.stanza.now (labels_of (map entry_of c.args.plan.now.left.backups.items)) (g.D.Disk.state c.args.d.now) (g.D.Disk.state c.save_left.new.d) (g.D.Disk.state c.drop_unlisted.new.d) (g.D.Disk.state c.forget.new.d) c.save_left.ensures.only (unlisted_as c.args.stanza.now _ _ c.deref.ensures.value (g.D.Disk.state c.save_left.new.d) (g.D.Disk.state c.drop_unlisted.new.d) c.drop_unlisted.ensures.takes) (keeps_by c.args.rules.now c.args.plan.now.archive.current (map entry_of c.args.plan.now.left.backups.items)) (unneeded_as c.args.stanza.now _ _ c.deref-3.ensures.value c.args.rules.now c.args.plan.now.archive.current (g.D.Disk.state c.drop_unlisted.new.d) (g.D.Disk.state c.forget.new.d) c.forget.ensures.takes))) c.forget.ensures.gone
