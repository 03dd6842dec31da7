-- What holds at each end of a running server's backup, by what was prepared before the server was asked.
use Rattle.std.proofs.Common.{◌≡◌, ℕ, Bool, true, List, Option, refl, sym, ap, ◌∙◌, subst}
use Rattle.std.specs.Prelude.{IfSome, option_map}
use Rattle.base_devices.specs.DataFolder.{Nodes}
use Rattle.base_devices.specs.Moments.{View}
use Rattle.base_devices.specs.States.{DiskState, OnlyReads}
use Rattle.base_model.specs.declared.labels.Label.{Label}
use Rattle.base_model.specs.InfoFiles.{IsBackupInfo, IsLabel}
use Rattle.base_model.specs.Text.{Text}
use Rattle.base_model.specs.Values.{BackupInfo, FileEntry, backup_info_of, manifest_of}
use Rattle.archive_lookup.specs.Turns.{Account}
use Rattle.archive_store.specs.Still.{IsStill}
use Rattle.archive_wait.specs.TurnsDone.{TurnsDone}
use Rattle.backup_sink.proofs.Ways.{Law}
use Rattle.backup_make.specs.declared.draft.Draft.{Draft}
use Rattle.backup_make.specs.Draft.{stanza_of}
use Rattle.backup_make.specs.Made.{LeavesList}
use Rattle.backup_make.specs.Touched.{TouchesOnly, IsOfBackup}
use Rattle.backup_make.proofs.After.{leaves_after}
use Rattle.backup_make.proofs.Labels.{apart}
use Rattle.cmd_types.specs.DisksEffect.{Reached, to_end}
use Rattle.cmd_setup.specs.Readies.{IsArchiveOf, IsBackupOf}
use Rattle.cmd_backup_common.specs.Halting.{ValidatesTo}
use Rattle.cmd_backup_common.specs.Priors.{made_label}
use Rattle.cmd_backup_common.specs.Seconds.{IsNext}
use Rattle.cmd_backup_offline.specs.Basing.{base_in, old_files}
use Rattle.cmd_backup_offline.specs.Making.{BeginsFrom}
use Rattle.cmd_backup_offline.specs.Touching.{IsNewLabel, TouchesOneOf}
use Rattle.cmd_backup_offline.proofs.Takings.{begins_from}
use Rattle.cmd_backup_offline.proofs.Touchings.{is_new}
use Rattle.cmd_backup_online.specs.declared.online_checks.Prepared.{Prepared}
use Rattle.cmd_backup_online.specs.declared.order.OnlineTask.{OnlineTask}
use Rattle.cmd_backup_online.specs.Doing.{MarksOnline}
use Rattle.cmd_backup_online.specs.Drafting.{IsDraftFrom}
use Rattle.cmd_backup_online.specs.Running.{PreparesBase}
use Rattle.cmd_backup_online.specs.Touching.{IsOfRunning}
use Rattle.cmd_backup_online.proofs.Bases.{begins_of}
use Rattle.cmd_backup_online.proofs.Doings.{by_account}
use Rattle.cmd_backup_online.proofs.Spools.{waited_marks}
use Rattle.cmd_backup_online.proofs.Touchings.{listed_only, next_label, read_only, staged_only, touched_as, waited_only}

module _ (task : OnlineTask) (p : Prepared) (a b : DiskState) (looks : OnlyReads a b) (is_archive : IsArchiveOf task.stanza.name.now a.view.now task.stanza.archive.now) (is_backup : IsBackupOf task.stanza.name.now a.view.now task.stanza.backup)
    (settled : ValidatesTo task.stanza.archive.now task.stanza.backup p.next.list) (base : PreparesBase task.order.later task.stanza a p) where
  abbrev stanza : Text
  stanza = task.stanza.name.now

  abbrev list : BackupInfo
  list = backup_info_of p.next.list

  module _ (files : List FileEntry) (files_are : files ≡ old_files (option_map manifest_of p.base)) where
    -- what the backup begins from, as it was and after what only was read
    begun : BeginsFrom stanza task.order.later a.view.now list files
    begun = begins_from stanza task.order.later task.stanza.archive.now task.stanza.backup a.view.now a.view.now refl is_archive is_backup list settled (option_map manifest_of p.base) base files files_are

    prepared : BeginsFrom stanza task.order.later b.view.now list files
    prepared = begins_from stanza task.order.later task.stanza.archive.now task.stanza.backup a.view.now b.view.now looks.now is_archive is_backup list settled (option_map manifest_of p.base) base files files_are

  -- ---- what is touched

  module _ (valid : IsBackupInfo (backup_info_of p.next.list)) (next : IsNext p.next.second (backup_info_of p.next.list)) where
    abbrev label : Label
    label = made_label task.order.later.kind (base_in task.order.later.kind list) p.next.second

    rules : IsLabel label
    rules = next_label task.order.later.kind list valid p.next.second next

    new : IfSome a.view.now (IsNewLabel stanza label)
    new = is_new stanza task.order.later a.view.now list (old_files (option_map manifest_of p.base)) (begun (old_files (option_map manifest_of p.base)) refl) p.next.second next.later label refl

    still : IsStill a.view b.view
    still = record { now = looks.now; time = looks.time }

    -- these are names of this label, where others report steps of this stanza alone
    abbrev Only : Option Account → View → Type 0
    Only account v = IfSome account (λ k. k.stanza ≡ task.stanza.name.now → TouchesOneOf task.stanza.name.now (IsOfRunning task.stanza.name.now) a.view v)

    module _ (t : View) (talked : TouchesOnly (IsOfBackup stanza label) b.view t) where
      pub talked_names : (account : Option Account) → Only account t
      talked_names account = by_account account _ (λ k at of. read_only stanza label rules a.view b.view t still new talked)

      module _ (nodes : Option Nodes) (files : List FileEntry) (d : Draft) (from : IsDraftFrom stanza task.order.later nodes list files d) (begins : d.start ≡ p.next.second) where
        of_label : (v w : View) → TouchesOnly (IsOfBackup (stanza_of d) d.label) v w → TouchesOnly (IsOfBackup stanza label) v w
        of_label v w h = touched_as stanza label d from.later.stanza_is (from.later.label ∙ ap (λ (n : ℕ). made_label task.order.later.kind (base_in task.order.later.kind list) n) (sym from.later.start ∙ begins)) v w h

        module _ (s : View) (closed : TouchesOnly (IsOfBackup (stanza_of d) d.label) t s) where
          pub closed_names : (account : Option Account) → Only account s
          closed_names account = by_account account _ (λ k at of. staged_only stanza label rules a.view b.view t still new talked s (of_label t s closed))

          module _ (whole : Bool) (old account : Option Account) (w spool spool2 : View) (went : IfSome account (λ k. TurnsDone whole old k s w spool spool2)) where
            pub waited_names : Only account w
            waited_names = waited_only stanza label rules a.view b.view t still new talked s (of_label t s closed) whole old account w spool spool2 went

            pub listed_names : (e : View) (of : Draft) → of ≡ d → TouchesOnly (IsOfBackup (stanza_of of) of.label) w e → Only account e
            listed_names e of is last = listed_only stanza label rules a.view b.view t still new talked s (of_label t s closed) whole old account w spool spool2 went e
                (of_label w e (subst (λ (q : Draft). TouchesOnly (IsOfBackup (stanza_of q) q.label) w e) is last))

  -- ---- the spool

  module _ (files : List FileEntry) (files_are : files ≡ old_files (option_map manifest_of p.base)) (nodes : Option Nodes) (d : Draft) (from : IsDraftFrom stanza task.order.later nodes list files d) (law : Law b.view) (t s w : View) (talked : LeavesList d b.view t) (closed : LeavesList d t s) where
    pub waited_receipts : (whole : Bool) (old account : Option Account) (spool spool2 : View) (reached : Reached) → (reached ≡ to_end → whole ≡ true) → IfSome account (λ k. TurnsDone whole old k s w spool spool2) → MarksOnline task.stanza.name.now reached old account a.view spool spool2
    waited_receipts whole old account spool spool2 reached well went = waited_marks a.view b.view s w looks.time looks.now d (begins_of stanza task.order.later nodes list files d from b.view law (prepared files files_are)) (leaves_after d (apart d from.is_draft) b.view t s talked closed) old account spool spool2
        stanza from.later.stanza_is whole reached well went
