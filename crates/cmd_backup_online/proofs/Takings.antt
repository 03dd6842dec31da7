-- What is reported about a running server's backup that was made.
use Rattle.std.proofs.Common.{◌≡◌, ⊎_elim, inl, inr, Bool, true, false, ℕ, List, map, Option, Some, None, Result, refl, sym, ◌∙◌, ap, subst}
use Rattle.std.specs.Prelude.{IfOk, IfSome, IsSome, OnOk}
use Rattle.base_devices.specs.Content.{Name, Content}
use Rattle.base_devices.specs.Links.{LinkState}
use Rattle.base_devices.specs.Moments.{View}
use Rattle.base_devices.specs.DataFolder.{Nodes}
use Rattle.base_devices.specs.States.{ClockState, ShowsSecond}
use Rattle.base_model.specs.declared.labels.Label.{Label}
use Rattle.base_model.specs.ManifestText.{IsManifestText}
use Rattle.base_model.specs.Names.{backup_info, manifest_name}
use Rattle.base_model.specs.Now.{NowRepresents}
use Rattle.base_model.specs.Pair.{PairIs}
use Rattle.base_model.specs.Repository.{Backup, Stanza, id_of}
use Rattle.base_model.specs.Steps.{MakeBackup, after, all_of, steps_of}
use Rattle.base_model.specs.Text.{Text, In}
use Rattle.base_model.specs.Values.{BackupInfo, FileEntry, Manifest}
use Rattle.repo_manifest.specs.Keeping.{manifest_text}
use Rattle.backup_plan.specs.declared.values.Choice.{Choice}
use Rattle.backup_plan.specs.Filter.{kept, files_of}
use Rattle.backup_plan.specs.Layout.{layout}
use Rattle.backup_plan.specs.Listed.{Taken}
use Rattle.backup_record.specs.Further.{with_further}
use Rattle.backup_record.proofs.Putting.{in_put}
use Rattle.repo_text_lemmas.proofs.Lists.{one_list}
use Rattle.repo_text_lemmas.proofs.Manifests.{one_manifest}
use Rattle.backup_sink.proofs.Ways.{Law}
use Rattle.repo_stanza.specs.declared.control.Control.{Control}
use Rattle.repo_stanza.specs.Pairs.{AgreeAt}
use Rattle.backup_make.specs.Kept.{IsKeptUnlessAbsent}
use Rattle.backup_make.proofs.Completes.{all_kept}
use Rattle.backup_make.specs.declared.draft.Draft.{Draft}
use Rattle.backup_make.specs.declared.fault.MakeFault.{MakeFault}
use Rattle.backup_make.specs.Draft.{stanza_of, main_of, pair_of, taken_in, old_in, went_with, files_with, IsFree}
use Rattle.backup_make.specs.Made.{LeavesList, MakesOf}
use Rattle.backup_make.specs.Online.{Online, label_entry}
use Rattle.archive_lookup.specs.Turns.{Account}
use Rattle.archive_wait.specs.TurnsDone.{TurnsDone, turns_of, all_ended}
use Rattle.cmd_types.specs.declared.stages.halt.Halt.{Halt}
use Rattle.cmd_types.specs.declared.stages.outcome.Outcome.{Outcome}
use Rattle.cmd_types.specs.Reached.{OnFinished}
use Rattle.backup_lemmas.specs.Backups.{IsReadOrLeftBeside, HasPart}
use Rattle.backup_lemmas.proofs.Begun.{BeginsBackup}
use Rattle.backup_lemmas.proofs.Reading.{backup_made}
use Rattle.backup_lemmas.proofs.Running.{is_added}
use Rattle.cmd_backup_common.specs.declared.parts.fault.BackupFault.{BackupFault}
use Rattle.cmd_backup_common.specs.Making.{IsEndWith, Well, Ill}
use Rattle.cmd_backup_common.specs.Seconds.{ShowsTimes}
use Rattle.cmd_backup_common.proofs.Links.{Comes}
use Rattle.cmd_backup_common.proofs.Times.{times_shown}
use Rattle.cmd_backup_offline.specs.declared.order.OfflineOrder.{OfflineOrder}
use Rattle.cmd_backup_offline.specs.Basing.{base_in, base_label, old_files, ReadsBase}
use Rattle.cmd_backup_offline.specs.Drafting.{IsPlannedBy}
use Rattle.cmd_backup_offline.specs.Bundling.{IsLaidBy}
use Rattle.cmd_backup_offline.specs.Equal.{AreMarked, IsEntryBy}
use Rattle.cmd_backup_offline.specs.Making.{BeginsFrom}
use Rattle.cmd_backup_offline.specs.Taken.{HasRoom}
use Rattle.cmd_backup_offline.specs.Texts.{offline_lines}
use Rattle.cmd_backup_offline.proofs.Chosen.{chosen, entries_of}
use Rattle.cmd_backup_offline.proofs.Laid.{laid_of}
use Rattle.cmd_backup_offline.proofs.Left.{entry_used, all_marked_used}
use Rattle.cmd_backup_online.specs.declared.fault.OnlineBackupFault.{OnlineBackupFault}
use Rattle.cmd_backup_online.specs.Doing.{Received}
use Rattle.cmd_backup_online.specs.Drafting.{IsDraftFrom}
use Rattle.cmd_backup_online.specs.Finishing.{of_end}
use Rattle.cmd_backup_online.specs.Taken.{HasOnlineEntries, BacksUpOnline}
use Rattle.cmd_backup_online.specs.Modelled.{ShowsOnline}
use Rattle.cmd_backup_online.proofs.Bases.{begins_of}
use Rattle.cmd_backup_online.proofs.Completes.{kept_by_used, same_paths}
use Rattle.cmd_backup_online.proofs.Doings.{beside_by_used, based_there, with_account, waits_of, turns_taken}
use Rattle.cmd_backup_online.proofs.Stops.{StoppedIn}

-- a pair has the manifest's text, where its main member does
held_in : (pair : Name) (m : Manifest) → IsManifestText m (manifest_text m) → (old new : Option Content) → ((f g : Content) → old ≡ Some f → new ≡ Some g → g pair ≡ Some (manifest_text m)) → IsSome old → IfSome new (λ g. PairIs IsManifestText g pair m)
held_in pair m valid old None goes some = tt
held_in pair m valid None (Some g) goes some = absurd (let e : ◌≡◌ {A = Bool} false true = some in cc)
held_in pair m valid (Some f) (Some g) goes some = inl (manifest_text m, goes f g refl refl, valid)

module _ (stanza : Text) (known : Control) (o : OfflineOrder) (a b : View) (now_same : b.now ≡ a.now) (list : BackupInfo) (room : IfSome a.now (HasRoom stanza known list)) (law_b : Law b) (files : List FileEntry) (from : BeginsFrom stanza o b.now list files)
    (nodes : Option Nodes) (d : Draft) (drafted : IsDraftFrom stanza o nodes list files d) (used first : List LinkState) (comes_first : Comes used first) (planned : IsPlannedBy first o d) (now : List LinkState) (comes : Comes used now) (received_reply : Received) (c w e : View) (leaves : LeavesList d b c) (before : IsSome c.now → IsSome b.now) (law : Law w)
    (old_account account : Option Account) (spool spool2 : View) (went : IfSome account (λ k. TurnsDone true old_account k c w spool spool2)) (online : Online) (shows : ShowsOnline received_reply.system received_reply.pending received_reply.left online) (free : IsFree d)
    (arrived : IfSome w.now (HasPart (stanza_of d) (id_of d.cluster) online.part)) (lines : Text) (lines_are : lines ≡ offline_lines o.kind (base_in o.kind list) d.label) (clock late last : ClockState) (shown : ShowsSecond drafted.second clock late) where
  begins : BeginsBackup d b
  begins = begins_of stanza o nodes list files d drafted b law_b from

  at_b : IsSome a.now → IsSome b.now
  at_b some = subst (λ (n : Option Content). IsSome n) (sym now_same) some

  represents_b : (s : Stanza) → NowRepresents stanza (Some s) a.now → NowRepresents (stanza_of d) (Some s) b.now
  represents_b s represents = subst (λ (t : Text). NowRepresents t (Some s) b.now) (sym drafted.later.stanza_is) (subst (λ (n : Option Content). NowRepresents stanza (Some s) n) (sym now_same) represents)

  -- the manifest of what was made: an entry is the label file's, or of a file that was planned
  entries : (IsSome a.now → IsSome w.now) → (makes : MakesOf d (Some online) now true w e) → HasOnlineEntries stanza o drafted.seen list used online a.now e.now (backup_made d (Some online) now true w e makes)
  entries there makes =
      let p = planned in
      let files = chosen first o.settings (old_in d) (taken_in d) p.equal p.same p.marked d.plan.choices.items p.planned in
      let files_are : makes.manifest.files ≡ with_further (Some (label_entry online.label_file makes.stop)) (files_with d makes.ends) = ap (λ (m : Manifest). m.files) makes.manifest_is in
      let stop_is : makes.manifest.stop ≡ makes.stop = ap (λ (m : Manifest). m.stop) makes.manifest_is in
      let label_is : makes.manifest.label ≡ d.label = ap (λ (m : Manifest). m.label) makes.manifest_is in
      record {
        base = from.base;
        reads = subst (λ (n : Option Content). ReadsBase stanza n (base_label o.kind list) from.base) now_same from.reads;
        manifest = makes.manifest;
        held = λ some. subst (λ (l : Label). IfSome e.now (λ g. PairIs IsManifestText g (manifest_name stanza l) makes.manifest)) (sym label_is)
            (subst (λ (k : Text). IfSome e.now (λ g. PairIs IsManifestText g (manifest_name k d.label) makes.manifest)) drafted.later.stanza_is
            (held_in (pair_of d) makes.manifest makes.manifest_valid w.now e.now (λ f g is_f is_g. ((makes.whole_now refl).goes f g is_f is_g).manifest_is) (there some)));
        each = λ x at. ⊎_elim
            (λ (own : x ≡ label_entry online.label_file makes.stop). inl (own ∙ ap (λ (n : ℕ). label_entry online.label_file n) (sym stop_is)))
            (λ (of : In x (files_with d makes.ends)). inr (entry_used used first comes_first o.settings.delta (old_files from.base) (files_of (kept true drafted.seen)) x
            (subst (λ (es : List FileEntry). IsEntryBy first o.settings.delta es (files_of (kept true drafted.seen)) x) (drafted.later.old_is ∙ from.old_is)
            (subst (λ (ts : List Taken). IsEntryBy first o.settings.delta (old_in d) ts x) drafted.later.takes.files
            (entries_of first o.settings.delta (went_with d makes.ends) (taken_in d) (taken_in d) d.plan.choices.items (λ f i. i) files x of)))))
            (in_put (λ (y : FileEntry). y.path) (label_entry online.label_file makes.stop) x (files_with d makes.ends) (subst (λ (es : List FileEntry). In x es) files_are at));
        equal = p.equal;
        marked = λ delta. all_marked_used used first comes_first (old_files from.base) (files_of (kept true drafted.seen)) p.equal
            (subst (λ (es : List FileEntry). AreMarked first es (files_of (kept true drafted.seen)) p.equal) (drafted.later.old_is ∙ from.old_is)
            (subst (λ (ts : List Taken). AreMarked first (old_in d) ts p.equal) drafted.later.takes.files (p.marked delta)));
        laid = λ x at. ⊎_elim
            (λ (own : x ≡ label_entry online.label_file makes.stop). inl (own ∙ ap (λ (n : ℕ). label_entry online.label_file n) (sym stop_is)))
            (λ (of : In x (files_with d makes.ends)). inr (subst (λ (es : List FileEntry). IsLaidBy (layout o.settings es (files_of (kept true drafted.seen)) p.equal).choices (files_of (kept true drafted.seen)) x) (drafted.later.old_is ∙ from.old_is)
            (subst (λ (ts : List Taken). IsLaidBy (layout o.settings (old_in d) ts p.equal).choices ts x) drafted.later.takes.files
            (subst (λ (cs : List Choice). IsLaidBy cs (taken_in d) x) p.planned (laid_of (went_with d makes.ends) (taken_in d) d.plan.choices.items x of)))))
            (in_put (λ (y : FileEntry). y.path) (label_entry online.label_file makes.stop) x (files_with d makes.ends) (subst (λ (es : List FileEntry). In x es) files_are at));
        all = λ f at. subst (λ (es : List FileEntry). IsKeptUnlessAbsent used es f) (sym files_are)
            (kept_by_used used now comes (label_entry online.label_file makes.stop) (files_with d makes.ends) f
            (all_kept d drafted.is_draft (Some online) now true w e makes f (subst (λ (ts : List Taken). In f ts) (sym drafted.later.takes.files) at)));
        folders = ap (λ (m : Manifest). m.folders) makes.manifest_is ∙ drafted.later.takes.folders_are;
        paths = ap (map (λ (y : FileEntry). y.path)) files_are ∙ same_paths d drafted.is_draft (Some online) free now true w e makes;
        states = refl;
      }

  -- what it is at Ok
  well : ((k : Account) → k.stanza ≡ stanza → TurnsDone true old_account k c w spool spool2 → StoppedIn d (Some online) now w e late last)
      → (IsSome w.now → IfSome e.now (AgreeAt (main_of d))) → BacksUpOnline stanza known o nodes received_reply used old_account account a.now e.now clock last lines
  well made alike = with_account account (λ k. TurnsDone true old_account k c w spool spool2) _ went (λ k x of.
      let waits = waits_of true old_account k (stanza_of d) (of ∙ sym drafted.later.stanza_is) c w spool spool2 x in
      let based = based_there stanza d drafted.later.stanza_is b c w spool spool2 begins leaves before law true old_account k of x in
      let stopped = made k of x in
      let makes : MakesOf d (Some online) now true w e = stopped.0 in
      let m : Backup = backup_made d (Some online) now true w e makes in
      let start_is : m.entry.start ≡ drafted.second = ap (λ (n : Manifest). n.start) makes.manifest_is ∙ drafted.later.start in
      let y = is_added one_list one_manifest d b c begins leaves now (turns_of x.turned) (all_ended (turns_of x.turned)) w waits (x.ended refl) online free e arrived based makes in
      let read = subst (λ (n : Option Content). IsReadOrLeftBeside now (Some online.label_file) stanza n m) now_same (subst (λ (s : Text). IsReadOrLeftBeside now (Some online.label_file) s b.now m) drafted.later.stanza_is y.read) in
      let there : IsSome a.now → IsSome w.now = λ some. waits.does.known (leaves.now.known (at_b some)) in (
        x.turned,
        turns_taken true old_account k c w spool spool2 x,
        record {
          list = list;
          seen = drafted.seen;
          listing = drafted.listing;
          room = room;
          backup = m;
          second = drafted.second;
          later = drafted.later.next.later;
          label = y.label ∙ drafted.later.label;
          start = start_is;
          times = subst (λ (n : ℕ). ShowsTimes n m.entry.stop clock last) (sym start_is)
              (subst (λ (n : ℕ). ShowsTimes drafted.second n clock last) (sym (ap (λ (n : Manifest). n.stop) makes.manifest_is)) (times_shown drafted.second makes.stop clock late last shown stopped.1));
          prior = y.prior ∙ drafted.later.prior;
          line = lines_are ∙ ap (λ (l : Label). offline_lines o.kind (base_in o.kind list) l) (sym y.label);
          choices = y.choices ∙ drafted.later.choices;
          online = online;
          received_is = shows;
          wal = y.wal;
          label_file = y.label_file;
          read = beside_by_used used now comes stanza a.now (Some online.label_file) m read;
          entries = entries there makes;
          refers = λ s some represents. y.refers s (at_b some) (represents_b s represents);
          cluster = d.cluster;
          db = y.db;
          adds = record {
            adds = λ s some represents. subst (λ (t : Text). NowRepresents t (after (Some s) (all_of (steps_of (MakeBackup (turns_of x.turned) m None) (Some s)))) e.now) drafted.later.stanza_is
                (y.adds s (at_b some) (represents_b s represents));
            sound = λ s some represents. y.sound s (at_b some) (represents_b s represents);
            archived = λ s some represents. y.archived s (at_b some) (represents_b s represents);
          };
          alike = λ some. subst (λ (t : Text). IfSome e.now (AgreeAt (backup_info t))) drafted.later.stanza_is (alike (there some));
        },
      ))

  pub taken_online : (made : Result (Unit {0}) MakeFault) (ended : Result Outcome (Halt BackupFault)) → IsEndWith d lines made ended → (result : Result Outcome (Halt OnlineBackupFault)) → result ≡ of_end ended
      → OnOk result ((k : Account) → k.stanza ≡ stanza → TurnsDone true old_account k c w spool spool2 → StoppedIn d (Some online) now w e late last)
      → OnOk result (IsSome w.now → IfSome e.now (AgreeAt (main_of d))) → IfOk result (λ x. OnFinished x (BacksUpOnline stanza known o nodes received_reply used old_account account a.now e.now clock last))
  taken_online made ended (Well u text line) result is stops alike =
      subst (λ (r : Result Outcome (Halt OnlineBackupFault)). IfOk r (λ x. OnFinished x (BacksUpOnline stanza known o nodes received_reply used old_account account a.now e.now clock last))) (sym is)
      (subst (λ (t : Text). BacksUpOnline stanza known o nodes received_reply used old_account account a.now e.now clock last t) (sym line)
      (well (subst (λ (r : Result Outcome (Halt OnlineBackupFault)). OnOk r ((k : Account) → k.stanza ≡ stanza → TurnsDone true old_account k c w spool spool2 → StoppedIn d (Some online) now w e late last)) is stops)
      (subst (λ (r : Result Outcome (Halt OnlineBackupFault)). OnOk r (IsSome w.now → IfSome e.now (AgreeAt (main_of d)))) is alike)))
  taken_online made ended (Ill lost fault halt ill) result is stops alike =
      subst (λ (r : Result Outcome (Halt OnlineBackupFault)). IfOk r (λ x. OnFinished x (BacksUpOnline stanza known o nodes received_reply used old_account account a.now e.now clock last))) (sym is) tt
