-- What a running server's backup does, as a command of the log.
use Rattle.std.proofs.Common.{◌≡◌, ⊎_elim, inl, inr, List, [], Bool, true, false, Option, Some, None, refl, sym, ◌∙◌, ap, subst}
use Rattle.std.proofs.lemmas.List.{append-nil}
use Rattle.std.specs.Prelude.{IfSome, IsSome, IsErrAnd, Result, Ok, Err}
use Rattle.base_devices.specs.Content.{Content}
use Rattle.base_devices.specs.Links.{LinkState}
use Rattle.base_devices.specs.Moments.{View, LeavesNoMore}
use Rattle.base_devices.specs.DataFolder.{Nodes}
use Rattle.base_model.specs.declared.labels.BackupKind.{BackupKind}
use Rattle.base_model.specs.declared.labels.BackupKind.TheVariants.{Full, Diff, Incr}
use Rattle.base_model.specs.declared.wal.ArchiveId.{ArchiveId}
use Rattle.base_model.specs.declared.wal.WalPart.{WalPart}
use Rattle.base_model.specs.Repository.{Backup, id_of}
use Rattle.base_model.specs.Steps.{Command, MakeBackup, Turn}
use Rattle.base_model.specs.Text.{Text}
use Rattle.base_model.specs.Values.{BackupInfo, FileEntry}
use Rattle.repo_text_lemmas.proofs.Lists.{one_list}
use Rattle.repo_text_lemmas.proofs.Manifests.{one_manifest}
use Rattle.backup_make.specs.declared.draft.Draft.{Draft}
use Rattle.backup_make.specs.declared.fault.MakeFault.{MakeFault}
use Rattle.backup_make.specs.Draft.{stanza_of, IsFree}
use Rattle.backup_make.specs.Made.{LeavesList, OutcomeOf}
use Rattle.backup_make.specs.Online.{Online}
use Rattle.backup_make.specs.Staged.{IsStaged}
use Rattle.backup_make.proofs.Stages.{staged_still}
use Rattle.backup_sink.specs.declared.keeper.EndedItem.{EndedItem}
use Rattle.backup_sink.proofs.Ways.{Law}
use Rattle.archive_lookup.specs.Stored.{ChangesArchive}
use Rattle.archive_lookup.specs.Turns.{Account}
use Rattle.archive_wait.specs.Stored.{HoldsPart}
use Rattle.archive_wait.specs.TurnsDone.{TurnsDone, turns_of, all_ended}
use Rattle.cmd_types.specs.declared.stages.halt.Halt.{Halt}
use Rattle.cmd_types.specs.declared.stages.halt.Halt.TheVariants.{Refused, Failed, NoMemory}
use Rattle.cmd_types.specs.declared.stages.outcome.Outcome.{Outcome}
use Rattle.cmd_types.specs.declared.stages.outcome.Outcome.TheVariants.{Finished, Absent, FindingsFound}
use Rattle.cmd_types.specs.declared.stages.plan.SyncScope.TheVariants.{Whole}
use Rattle.cmd_types.specs.Reached.{reached_by, back_if, fails_early}
use Rattle.cmd_types.specs.DisksEffect.{Reached, to_end, turned_back, stopped, RepoEffect}
use Rattle.cmd_types.proofs.Doing.{rests_does}
use Rattle.backup_lemmas.specs.Backups.{IsOfLink, IsLeftOf, IsReadOrLeftBeside, IsOnlineBackup, IsAnyOnlineBackup, Waits, HasPart}
use Rattle.backup_lemmas.proofs.Based.{BasedOn}
use Rattle.backup_lemmas.proofs.Begun.{BeginsBackup}
use Rattle.backup_lemmas.proofs.Reading.{no_files, no_files_beside, no_files_left_beside, read_beside}
use Rattle.backup_lemmas.proofs.Running.{left_does, waited_does, done_by}
use Rattle.cmd_backup_common.specs.declared.parts.fault.BackupFault.{BackupFault}
use Rattle.cmd_backup_common.specs.PartsFaults.{backup_early}
use Rattle.cmd_backup_common.specs.Making.{IsEndWith}
use Rattle.cmd_backup_common.proofs.Links.{Comes, link_by_used}
use Rattle.cmd_backup_common.proofs.Makings.{end_ok, end_early}
use Rattle.cmd_types.proofs.After.{does_after}
use Rattle.cmd_backup_offline.specs.declared.order.OfflineOrder.{OfflineOrder}
use Rattle.cmd_backup_offline.specs.Making.{BeginsFrom}
use Rattle.cmd_backup_online.specs.declared.fault.OnlineBackupFault.{OnlineBackupFault}
use Rattle.cmd_backup_online.specs.Doing.{Received, TakesTurns, IsOnlineBy, DoesOnline}
use Rattle.cmd_backup_online.specs.Faults.{online_early}
use Rattle.cmd_backup_online.specs.Finishing.{of_end}
use Rattle.cmd_backup_online.specs.Gathering.{GivesUp, Untouched, Begun}
use Rattle.cmd_backup_online.specs.Modelled.{ShowsOnline}
use Rattle.cmd_backup_online.proofs.Bases.{begins_of, based_after}

-- ---- how far it came

back_not : (early : Bool) → ¬ (back_if early ≡ to_end)
back_not true at = let e : turned_back ≡ to_end = at in cc
back_not false at = let e : stopped ≡ to_end = at in cc

pub not_end : (result : Result Outcome (Halt OnlineBackupFault)) (h : Halt OnlineBackupFault) → IsErrAnd result (λ x. x ≡ h) → ¬ (reached_by online_early result ≡ to_end)
not_end (Ok x) h is at = absurd is
not_end (Err (Refused e)) h is at = let e : turned_back ≡ to_end = at in cc
not_end (Err (Failed object)) h is at = back_not (fails_early object) at
not_end (Err NoMemory) h is at = let e : stopped ≡ to_end = at in cc

pub reached_same : (e : Result Outcome (Halt BackupFault)) → reached_by online_early (of_end e) ≡ reached_by backup_early e
reached_same (Ok (Finished lines)) = refl
reached_same (Ok (Absent name)) = refl
reached_same (Ok (FindingsFound lines count)) = refl
reached_same (Err (Refused f)) = refl
reached_same (Err (Failed object)) = refl
reached_same (Err NoMemory) = refl

-- ---- an account

pub by_account : (o : Option Account) (P : Account → Type 0) → ((k : Account) → o ≡ Some k → P k) → IfSome o P
by_account None P to = tt
by_account (Some k) P to = to k refl

pub with_account : (o : Option Account) (P Q : Account → Type 0) → IfSome o P → ((k : Account) → P k → Q k) → IfSome o Q
with_account None P Q p to = tt
with_account (Some k) P Q p to = to k p

-- ---- what links read that were given their folders

module _ (used now : List LinkState) (comes : Comes used now) (stanza : Text) (old : Option Content) where
  pub beside_by_used : (label : Option Text) (b : Backup) → IsReadOrLeftBeside now label stanza old b → IsReadOrLeftBeside used label stanza old b
  beside_by_used label b h = record {
    read = λ path x has off some. ⊎_elim
        (λ (read : IsOfLink now path x.bytes). inl (link_by_used used now comes path x.bytes read))
        (λ (was : IsLeftOf stanza old b path x). inr was)
        (h.read path x has off some);
    label = h.label;
  }

  any_by_used : (turns : List Turn) (label : Option Text) (command : Command) → IsAnyOnlineBackup now turns label stanza old command → IsAnyOnlineBackup used turns label stanza old command
  any_by_used turns label command h = (h.0, h.1, beside_by_used label h.0 h.2)

  full_by_used : (turns : List Turn) (label : Option Text) (command : Command) → IsOnlineBackup now turns label command → IsOnlineBackup used turns label command
  full_by_used turns label command h = (h.0, h.1, record { read = λ path x has off some. link_by_used used now comes path x.bytes (h.2.read path x has off some); label = h.2.label })

  pub online_by_used : (kind : BackupKind) (turns : List Turn) (label : Option Text) (command : Command) → IsOnlineBy kind now turns label stanza old command → IsOnlineBy kind used turns label stanza old command
  online_by_used Full turns label command h = full_by_used turns label command h
  online_by_used Diff turns label command h = any_by_used turns label command h
  online_by_used Incr turns label command h = any_by_used turns label command h

-- ---- one that was never listed

pub none_by : (kind : BackupKind) (links : List LinkState) (turns : List Turn) (label : Option Text) (stanza : Text) (old : Option Content) → IsOnlineBy kind links turns label stanza old (MakeBackup turns no_files None)
none_by Full links turns label stanza old = (no_files, refl, no_files_beside links label)
none_by Diff links turns label stanza old = (no_files, refl, no_files_left_beside links label stanza old)
none_by Incr links turns label stanza old = (no_files, refl, no_files_left_beside links label stanza old)

-- ---- without steps of others

module _ (stanza : Text) (kind : BackupKind) (used : List LinkState) (received_reply : Received) (reached : Reached) (old_account account : Option Account) (same : account ≡ old_account) (a d : View) where
  -- it did no more than a backup without files does
  pub without_turns : RepoEffect Whole stanza (MakeBackup [] no_files None) reached a d → DoesOnline stanza kind used received_reply reached old_account account a d
  without_turns does = by_account account _ (λ k at of. (
    [],
    record { before = k.turns; was = sym same ∙ at; is = sym (append-nil k.turns) },
    (MakeBackup [] no_files None, (None, tt, none_by kind used [] None stanza a.now), does),
  ))

  -- nothing was written
  pub rests_online : ¬ (reached ≡ to_end) → LeavesNoMore a d → d.now ≡ a.now → DoesOnline stanza kind used received_reply reached old_account account a d
  rests_online not rests now = without_turns (rests_does Whole stanza (MakeBackup [] no_files None) reached a d not rests now)

-- ---- a draft reached the repository

module _ (stanza : Text) (kind : BackupKind) (used : List LinkState) (received_reply : Received) (a b : View) (rests : LeavesNoMore a b) (now_same : b.now ≡ a.now) (reached : Reached) (not : ¬ (reached ≡ to_end)) (old_account account : Option Account) (same : account ≡ old_account) (c : View) where
  -- it isn't listed
  pub left_online : (d : Draft) → stanza_of d ≡ stanza → BeginsBackup d b → LeavesList d b c → DoesOnline stanza kind used received_reply reached old_account account a c
  left_online d stanza_is begins leaves = without_turns stanza kind used received_reply reached old_account account same a c
      (does_after stanza (MakeBackup [] no_files None) reached a b c rests now_same
      (subst (λ (s : Text). RepoEffect Whole s (MakeBackup [] no_files None) reached b c) stanza_is (left_does one_list one_manifest d b c begins leaves used reached not)))

  pub gave_up_online : (o : OfflineOrder) (nodes : Option Nodes) (list : BackupInfo) (files : List FileEntry) → Law b → BeginsFrom stanza o b.now list files → GivesUp stanza o nodes list files b c → DoesOnline stanza kind used received_reply reached old_account account a c
  gave_up_online o nodes list files law begins (Untouched r now) = without_turns stanza kind used received_reply reached old_account account same a c
      (does_after stanza (MakeBackup [] no_files None) reached a b c rests now_same (rests_does Whole stanza (MakeBackup [] no_files None) reached b c not r now))
  gave_up_online o nodes list files law begins (Begun d from leaves) = left_online d from.later.stanza_is (begins_of stanza o nodes list files d from b law begins) leaves

-- ---- with steps of others

pub waits_of : (whole : Bool) (old : Option Account) (k : Account) (stanza : Text) → k.stanza ≡ stanza → (c w spool spool2 : View) (went : TurnsDone whole old k c w spool spool2) → Waits stanza (turns_of went.turned) (all_ended (turns_of went.turned)) c w
waits_of whole old k stanza is c w spool spool2 went = subst (λ (s : Text). Waits s (turns_of went.turned) (all_ended (turns_of went.turned)) c w) is (record {
  does = went.repository.does;
  carries = went.repository.carries;
  between = went.repository.between;
  only = went.repo_only;
  sound = went.repository.sound;
})

pub turns_taken : (whole : Bool) (old : Option Account) (k : Account) (c w spool spool2 : View) (went : TurnsDone whole old k c w spool spool2) → TakesTurns went.turned old k
turns_taken whole old k c w spool spool2 went = record { before = went.before; was = went.was; is = went.is }

-- what was staged before the wait is published after it
pub outcome_following : (stanza : Text) (d : Draft) → stanza_of d ≡ stanza → (o : Option Online) (now : List LinkState) (ends : List (List EndedItem)) (old : Option Account) (c w e spool spool2 : View) (made : Result (Unit {0}) MakeFault)
    → ((links : List LinkState) → IsStaged d o links ends w → OutcomeOf made d o links w e) → IsStaged d o now ends c → (k : Account) → k.stanza ≡ stanza → TurnsDone true old k c w spool spool2 → OutcomeOf made d o now w e
outcome_following stanza d stanza_is o now ends old c w e spool spool2 made publishes staged k of went =
    publishes now (staged_still d o c w (subst (λ (s : Text). ChangesArchive s c w) (of ∙ sym stanza_is) went.repo_only) now ends staged)

-- what is held for the wait is what holds of the log
pub part_of : (stanza : Text) (d : Draft) → stanza_of d ≡ stanza → (id : ArchiveId) → id ≡ id_of d.cluster → (w p : WalPart) → w ≡ p → (now : Option Content) → IfSome now (HoldsPart stanza id w) → IfSome now (HasPart (stanza_of d) (id_of d.cluster) p)
part_of stanza d stanza_is id id_is w p part_is now holds =
    subst (λ (s : Text). IfSome now (HasPart s (id_of d.cluster) p)) (sym stanza_is)
    (subst (λ (i : ArchiveId). IfSome now (HasPart stanza i p)) id_is
    (subst (λ (x : WalPart). IfSome now (HasPart stanza id x)) part_is (by now holds)))
  where
    by : (o : Option Content) → IfSome o (HoldsPart stanza id w) → IfSome o (HasPart stanza id w)
    by None h = tt
    by (Some f) h = λ s has segment within. (h segment within).archived s has

-- what it is based on is still there after the wait
pub based_there : (stanza : Text) (d : Draft) → stanza_of d ≡ stanza → (b c w spool spool2 : View) → BeginsBackup d b → LeavesList d b c → (IsSome c.now → IsSome b.now) → Law w → (whole : Bool) (old : Option Account) (k : Account) → k.stanza ≡ stanza
    → TurnsDone whole old k c w spool spool2 → BasedOn d w d.prior
based_there stanza d stanza_is b c w spool spool2 begins leaves before law whole old k of went =
    based_after d begins.is_draft b c w begins.based leaves (subst (λ (s : Text). ChangesArchive s c w) (of ∙ sym stanza_is) went.repo_only) before law

module _ (stanza : Text) (kind : BackupKind) (used now : List LinkState) (comes : Comes used now) (received_reply : Received) (a b c w : View) (rests : LeavesNoMore a b) (now_same : b.now ≡ a.now) (d : Draft) (stanza_is : stanza_of d ≡ stanza) (begins : BeginsBackup d b) (leaves : LeavesList d b c)
    (old_account account : Option Account) (spool spool2 : View) where
  -- it waited without success
  pub waited_online : (whole : Bool) (reached : Reached) → ¬ (reached ≡ to_end) → IfSome account (λ k. TurnsDone whole old_account k c w spool spool2) → DoesOnline stanza kind used received_reply reached old_account account a w
  waited_online whole reached not went = with_account account (λ k. TurnsDone whole old_account k c w spool spool2) _ went (λ k x of.
      let waits = waits_of whole old_account k (stanza_of d) (of ∙ sym stanza_is) c w spool spool2 x in
      let does = waited_does one_list one_manifest d b c begins leaves used (turns_of x.turned) (all_ended (turns_of x.turned)) w waits reached not in (
        x.turned,
        turns_taken whole old_account k c w spool spool2 x,
        (
          MakeBackup (turns_of x.turned) no_files None,
          (None, tt, none_by kind used (turns_of x.turned) None stanza a.now),
          does_after stanza (MakeBackup (turns_of x.turned) no_files None) reached a b w rests now_same (subst (λ (s : Text). RepoEffect Whole s (MakeBackup (turns_of x.turned) no_files None) reached b w) stanza_is does),
        ),
      ))

  read_there : (links : List LinkState) (label : Option Text) (x : Backup) → IsReadOrLeftBeside links label (stanza_of d) b.now x → IsReadOrLeftBeside links label stanza a.now x
  read_there links label x read = subst (λ (n : Option Content). IsReadOrLeftBeside links label stanza n x) now_same (subst (λ (s : Text). IsReadOrLeftBeside links label s b.now x) stanza_is read)

  -- as one of its kind: a full one has no file of another
  as_kind : (links : List LinkState) (turns : List Turn) (label : Option Text) (x : Backup) → IsReadOrLeftBeside links label (stanza_of d) b.now x → (k : BackupKind) → (k ≡ Full → x.entry.prior ≡ None) → IsOnlineBy k links turns label stanza a.now (MakeBackup turns x None)
  as_kind links turns label x read Full none = (x, refl, read_beside links label (stanza_of d) b.now x read (none refl))
  as_kind links turns label x read Diff none = (x, refl, read_there links label x read)
  as_kind links turns label x read Incr none = (x, refl, read_there links label x read)

  -- it was published, or wasn't
  module _ (based : kind ≡ Full → d.prior ≡ None) (before : IsSome c.now → IsSome b.now) (law : Law w) (went : IfSome account (λ k. TurnsDone true old_account k c w spool spool2)) (o : Online) (known : ShowsOnline received_reply.system received_reply.pending received_reply.left o) (free : IsFree d) (arrived : IfSome w.now (HasPart (stanza_of d) (id_of d.cluster) o.part)) (e : View)
      (lines : Text) (made : Result (Unit {0}) MakeFault) (ended : Result Outcome (Halt BackupFault)) (end : IsEndWith d lines made ended) (result : Result Outcome (Halt OnlineBackupFault)) (is : result ≡ of_end ended)
      (outcome : (k : Account) → k.stanza ≡ stanza → TurnsDone true old_account k c w spool spool2 → OutcomeOf made d (Some o) now w e) where
    reached_is : reached_by online_early result ≡ reached_by backup_early ended
    reached_is = ap (reached_by online_early) is ∙ reached_same ended

    pub published_online : DoesOnline stanza kind used received_reply (reached_by online_early result) old_account account a e
    published_online = with_account account (λ k. TurnsDone true old_account k c w spool spool2) _ went (λ k x of.
        let waits = waits_of true old_account k (stanza_of d) (of ∙ sym stanza_is) c w spool spool2 x in
        let r = reached_by online_early result in
        let y = done_by one_list one_manifest d b c begins leaves now (turns_of x.turned) (all_ended (turns_of x.turned)) w waits (x.ended refl) o free e arrived (based_there stanza d stanza_is b c w spool spool2 begins leaves before law true old_account k of x) made r (outcome k of x)
        (λ at. end_ok d lines made ended end (sym reached_is ∙ at)) (λ at. end_early d lines made ended end (sym reached_is ∙ at)) in
        let none = λ (full : kind ≡ Full). ⊎_elim (λ (at : y.0.entry.prior ≡ None). at) (λ (at : y.0.entry.prior ≡ d.prior). at ∙ based full) y.1.prior in
        let it = as_kind now (turns_of x.turned) (Some o.label_file) y.0 y.1.read kind none in (
          x.turned,
          turns_taken true old_account k c w spool spool2 x,
          (
            MakeBackup (turns_of x.turned) y.0 None,
            (Some o.label_file, (o, known, refl), online_by_used used now comes stanza a.now kind (turns_of x.turned) (Some o.label_file) (MakeBackup (turns_of x.turned) y.0 None) it),
            does_after stanza (MakeBackup (turns_of x.turned) y.0 None) r a b e rests now_same (subst (λ (s : Text). RepoEffect Whole s (MakeBackup (turns_of x.turned) y.0 None) r b e) stanza_is y.1.does),
          ),
        ))
