-- What a backup of any kind does, and what is reported about it.
use Rattle.std.proofs.Common.{◌≡◌, ◌≤◌, ⊎_elim, inl, inr, ◌<◌, ℕ, arith, List, length, Bool, true, false, Option, Some, None, refl, sym, ◌∙◌, ap, subst, string_bytes}
use Rattle.std.specs.Prelude.{IfSome, IsSome, IsErrAnd, OnOk, IfOk, Result, Ok, Err}
use Rattle.base_devices.specs.Content.{Content, Value}
use Rattle.base_devices.specs.Links.{LinkState}
use Rattle.base_devices.specs.Moments.{View, LeavesNoMore}
use Rattle.base_devices.specs.States.{ClockState, ShowsSecond}
use Rattle.base_model.specs.declared.clusters.ArchiveInfo as rust_archive_info
use Rattle.base_model.specs.declared.clusters.BackupInfo as rust_backup_info
use Rattle.base_model.specs.declared.labels.BackupKind.{BackupKind}
use Rattle.base_model.specs.declared.labels.BackupKind.TheVariants.{Full, Diff, Incr}
use Rattle.base_model.specs.declared.labels.Label.{Label}
use Rattle.base_model.specs.InfoFiles.{IsBackupText, backup_sections}
use Rattle.base_model.specs.InfoText.{info_text}
use Rattle.base_model.specs.Names.{backup_info, manifest_name}
use Rattle.base_model.specs.Now.{NowRepresents}
use Rattle.base_model.specs.Pair.{PairIs}
use Rattle.base_model.specs.Repository.{Backup}
use Rattle.base_model.specs.Steps.{Command}
use Rattle.base_model.specs.Text.{Text, In}
use Rattle.base_model.specs.Values.{BackupInfo, FileEntry, Manifest, archive_info_of, backup_info_of}
use Rattle.repo_text_lemmas.proofs.Lists.{one_list}
use Rattle.repo_text_lemmas.proofs.Manifests.{one_manifest}
use Rattle.backup_sink.proofs.Ways.{Law}
use Rattle.backup_plan.specs.declared.values.Choice.{Choice}
use Rattle.backup_plan.specs.Filter.{ListedNode, kept, files_of}
use Rattle.backup_plan.specs.Layout.{layout}
use Rattle.backup_record.specs.Making.{list_with}
use Rattle.repo_stanza.specs.declared.control.Control.{Control}
use Rattle.repo_stanza.specs.Judging.{Validates, IsOf}
use Rattle.repo_stanza.specs.Pairs.{AgreeAt}
use Rattle.backup_make.specs.declared.draft.Draft.{Draft}
use Rattle.backup_make.specs.declared.fault.MakeFault.{MakeFault}
use Rattle.backup_make.specs.Draft.{stanza_of, main_of, IsDraft, pair_of, taken_in, old_in, files_with, went_with}
use Rattle.backup_make.specs.Kept.{IsKeptUnlessAbsent}
use Rattle.backup_make.specs.Made.{Outcome as Makes, MakesOf, StopsBy}
use Rattle.backup_make.proofs.Completes.{all_kept}
use Rattle.archive_store.specs.Still.{IsStill}
use Rattle.cmd_types.specs.declared.stages.halt.Halt.{Halt}
use Rattle.cmd_types.specs.declared.stages.halt.Halt.TheVariants.{Refused, Failed, NoMemory}
use Rattle.cmd_types.specs.declared.stages.outcome.Outcome.{Outcome}
use Rattle.cmd_types.specs.declared.stages.outcome.Outcome.TheVariants.{Finished, Absent, FindingsFound}
use Rattle.cmd_types.specs.declared.stages.plan.SyncScope.TheVariants.{Whole}
use Rattle.cmd_types.specs.Current.{HasValue}
use Rattle.cmd_types.specs.Reached.{OnFinished, reached_by, back_if, fails_early}
use Rattle.cmd_types.specs.DisksEffect.{Reached, to_end, turned_back, stopped, RepoEffect, On, one}
use Rattle.cmd_types.proofs.After.{does_after}
use Rattle.cmd_setup.specs.Readies.{IsArchiveOf, IsBackupOf}
use Rattle.backup_lemmas.specs.Backups.{IsOfLink, IsLeftOf, IsReadOrLeft, IsFullBackup, IsAnyBackup, AddsBackup, bytes_in, IsOfFolder}
use Rattle.backup_lemmas.proofs.Added.{IsMade as IsAdded, is_made}
use Rattle.backup_lemmas.proofs.Begun.{BeginsFull, BeginsBackup}
use Rattle.backup_lemmas.proofs.Folders.{of_folder}
use Rattle.backup_lemmas.proofs.Reading.{full_backup}
use Rattle.backup_lemmas.proofs.Full.{no_later, no_backup, does_backup, does_full}
use Rattle.cmd_backup_common.specs.declared.parts.fault.BackupFault.{BackupFault}
use Rattle.cmd_backup_common.specs.Beginning.{most_backups}
use Rattle.cmd_backup_common.specs.PartsFaults.{backup_early}
use Rattle.cmd_backup_common.specs.Making.{IsEndWith, Well, Ill, Finishes}
use Rattle.cmd_backup_common.proofs.Causes.{if_both}
use Rattle.cmd_backup_common.proofs.Links.{Comes, link_by_used, full_by_used, all_read_on}
use Rattle.cmd_backup_common.proofs.Makings.{end_ok, end_early}
use Rattle.cmd_backup_common.specs.Seconds.{ShowsTimes}
use Rattle.cmd_backup_common.proofs.Times.{times_shown, times_within}
use Rattle.cmd_backup_offline.specs.declared.fault.OfflineFault.{OfflineFault}
use Rattle.cmd_backup_offline.specs.declared.order.OfflineOrder.{OfflineOrder}
use Rattle.cmd_backup_offline.specs.Basing.{base_in, base_label, old_files, ReadsBase}
use Rattle.cmd_backup_offline.specs.Drafting.{IsPlannedBy, IsOfflineOf}
use Rattle.cmd_backup_offline.specs.Faults.{of_backup, offline_early}
use Rattle.cmd_backup_offline.specs.Kinds.{IsBackupBy}
use Rattle.cmd_backup_offline.specs.Making.{BeginsFrom, IsMade, HasAdded, HasEntries}
use Rattle.cmd_backup_offline.specs.Taken.{HasRoom}
use Rattle.cmd_backup_offline.specs.Texts.{offline_lines}
use Rattle.cmd_backup_offline.proofs.Bases.{begins_later, begins_full, no_base}
use Rattle.base_devices.specs.DataFolder.{Nodes, IsTreeListing}
use Rattle.base_model.specs.ManifestText.{IsManifestText}
use Rattle.repo_manifest.specs.Keeping.{manifest_text}
use Rattle.worker_pool.specs.Payloads.{AllRead}
use Rattle.backup_plan.specs.Listed.{Taken}
use Rattle.cmd_backup_offline.specs.Bundling.{IsLaidBy}
use Rattle.cmd_backup_offline.specs.Equal.{AreMarked, IsEntryBy}
use Rattle.cmd_backup_offline.specs.Folder.{ShowsFrom}
use Rattle.cmd_backup_offline.proofs.Chosen.{chosen, entries_of}
use Rattle.cmd_backup_offline.proofs.Laid.{laid_of}
use Rattle.cmd_backup_offline.proofs.Folder.{all_held}
use Rattle.cmd_backup_offline.proofs.Left.{entry_used, kept_used, all_marked_used}
use Rattle.cmd_backup_offline.proofs.Lying.{lies_there}

-- ---- where it is refused before

back_not : (early : Bool) → ¬ (back_if early ≡ to_end)
back_not true at = let e : turned_back ≡ to_end = at in cc
back_not false at = let e : stopped ≡ to_end = at in cc

not_end : (result : Result Outcome (Halt OfflineFault)) (h : Halt OfflineFault) → IsErrAnd result (λ x. x ≡ h) → ¬ (reached_by offline_early result ≡ to_end)
not_end (Ok x) h is at = absurd is
not_end (Err (Refused e)) h is at = let e : turned_back ≡ to_end = at in cc
not_end (Err (Failed object)) h is at = back_not (fails_early object) at
not_end (Err NoMemory) h is at = let e : stopped ≡ to_end = at in cc

-- a backup that was never listed
none_by : (kind : BackupKind) (links : List LinkState) (stanza : Text) (reached : Reached) (a b : View) → ¬ (reached ≡ to_end) → IsStill a b → On (one (IsBackupBy kind links stanza a.now)) (λ command. RepoEffect Whole stanza command reached a b)
none_by Full links stanza reached a b not still = no_backup links stanza reached a b not still
none_by Diff links stanza reached a b not still = no_later links stanza reached a b not still
none_by Incr links stanza reached a b not still = no_later links stanza reached a b not still

pub refused_offline : (kind : BackupKind) (used : List LinkState) (stanza : Text) (result : Result Outcome (Halt OfflineFault)) (h : Halt OfflineFault) → IsErrAnd result (λ x. x ≡ h) → (a b : View) → LeavesNoMore a b → b.now ≡ a.now
    → On (one (IsBackupBy kind used stanza a.now)) (λ command. RepoEffect Whole stanza command (reached_by offline_early result) a b)
refused_offline kind used stanza result h is a b rests same = none_by kind used stanza (reached_by offline_early result) a b (not_end result h is) (record { now = same; time = rests })

-- a halt that a full backup may have too comes as far
pub same_reach : (h : Halt BackupFault) → reached_by backup_early (let r : Result Outcome (Halt BackupFault) = Err h in r) ≡ reached_by offline_early (Err (of_backup h))
same_reach (Refused e) = refl
same_reach (Failed object) = refl
same_reach NoMemory = refl

pub ok_reach : (o : Outcome) → reached_by backup_early (let r : Result Outcome (Halt BackupFault) = Ok o in r) ≡ reached_by offline_early (let r : Result Outcome (Halt OfflineFault) = Ok o in r)
ok_reach (Finished lines) = refl
ok_reach (Absent name) = refl
ok_reach (FindingsFound lines count) = refl

-- what is reported about a command's end
pub on_finished : (P Q : Text → Type 0) (o : Outcome) → ((t : Text) → P t → Q t) → OnFinished o P → OnFinished o Q
on_finished P Q (Finished lines) to h = to (string_bytes lines) h
on_finished P Q (Absent name) to h = absurd h
on_finished P Q (FindingsFound lines count) to h = absurd h

-- ---- by the used links

module _ (used now : List LinkState) (comes : Comes used now) (stanza : Text) (old : Option Content) where
  pub left_by_used : (b : Backup) → IsReadOrLeft now stanza old b → IsReadOrLeft used stanza old b
  left_by_used b h = record {
    read = λ path x has some. ⊎_elim
        (λ (read : IsOfLink now path x.bytes). inl (link_by_used used now comes path x.bytes read))
        (λ (was : IsLeftOf stanza old b path x). inr was)
        (h.read path x has some);
  }

  any_by_used : (command : Command) → IsAnyBackup now stanza old command → IsAnyBackup used stanza old command
  any_by_used command h = (h.0, h.1, left_by_used h.0 h.2)

  pub backup_by_used : (kind : BackupKind) (command : Command) → IsBackupBy kind now stanza old command → IsBackupBy kind used stanza old command
  backup_by_used Full command h = full_by_used used now comes command h
  backup_by_used Diff command h = any_by_used command h
  backup_by_used Incr command h = any_by_used command h

-- ---- where it was made, or might have been

pub not_ended : (result : Result Outcome (Halt BackupFault)) (h : Halt BackupFault) → IsErrAnd result (λ x. x ≡ h) → ¬ (reached_by backup_early result ≡ to_end)
not_ended (Ok x) h is at = absurd is
not_ended (Err (Refused e)) h is at = let e : turned_back ≡ to_end = at in cc
not_ended (Err (Failed object)) h is at = back_not (fails_early object) at
not_ended (Err NoMemory) h is at = let e : stopped ≡ to_end = at in cc

pub undrafted_does : (kind : BackupKind) (links : List LinkState) (stanza : Text) (result : Result Outcome (Halt BackupFault)) (h : Halt BackupFault) → IsErrAnd result (λ x. x ≡ h) → (a b : View) → LeavesNoMore a b → b.now ≡ a.now
    → On (one (IsBackupBy kind links stanza a.now)) (λ command. RepoEffect Whole stanza command (reached_by backup_early result) a b)
undrafted_does kind links stanza result h is a b rests same = none_by kind links stanza (reached_by backup_early result) a b (not_ended result h is) (record { now = same; time = rests })

module _ (stanza : Text) (o : OfflineOrder) (seen : List ListedNode) (list : BackupInfo) (old : List FileEntry) (second : ℕ) (draft : Draft) (later : IsOfflineOf false stanza o seen list old second draft) (first : List LinkState) (planned : IsPlannedBy first o draft) (lines : Text)
    (line_is : lines ≡ offline_lines o.kind (base_in o.kind list) draft.label) (links : List LinkState) (comes : Comes first links) (a b d : View) (rests : LeavesNoMore a b) (same : b.now ≡ a.now) (law : Law b) (is_draft : IsDraft draft)
    (from : BeginsFrom stanza o a.now list old) (clock mid last : ClockState) where
  begins : BeginsBackup draft b
  begins = begins_later false stanza o seen list old second draft later b law (subst (λ (n : Option Content). BeginsFrom stanza o n list old) (sym same) from) is_draft

  any_does : (result : Result Outcome (Halt BackupFault)) → Finishes draft lines links b d mid last result → On (one (IsAnyBackup first stanza a.now)) (λ command. RepoEffect Whole stanza command (reached_by backup_early result) a d)
  any_does result f =
      let x = does_backup one_list one_manifest draft links b d begins f.made (reached_by backup_early result) f.outcome (end_ok draft lines f.made result f.end) (end_early draft lines f.made result f.end) in (
        x.0,
        any_by_used first links comes stanza a.now x.0 (subst (λ (n : Option Content). IsAnyBackup links stanza n x.0) same (subst (λ (s : Text). IsAnyBackup links s b.now x.0) later.stanza_is x.1)),
        does_after stanza x.0 (reached_by backup_early result) a b d rests same (subst (λ (s : Text). RepoEffect Whole s x.0 (reached_by backup_early result) b d) later.stanza_is x.2),
      )

  full : draft.prior ≡ None → BeginsFull draft b.now
  full none = begins_full false stanza o seen list old second draft later b law (subst (λ (n : Option Content). BeginsFrom stanza o n list old) (sym same) from) is_draft none

  full_does : draft.prior ≡ None → (result : Result Outcome (Halt BackupFault)) → Finishes draft lines links b d mid last result → On (one (IsFullBackup first)) (λ command. RepoEffect Whole stanza command (reached_by backup_early result) a d)
  full_does none result f =
      let x = does_full one_list one_manifest draft links b d (full none) f.made (reached_by backup_early result) f.outcome (end_ok draft lines f.made result f.end) (end_early draft lines f.made result f.end) in (
        x.0,
        full_by_used first links comes x.0 x.1,
        does_after stanza x.0 (reached_by backup_early result) a b d rests same (subst (λ (s : Text). RepoEffect Whole s x.0 (reached_by backup_early result) b d) later.stanza_is x.2),
      )

  pub finished_does : (result : Result Outcome (Halt BackupFault)) → Finishes draft lines links b d mid last result → On (one (IsBackupBy o.kind first stanza a.now)) (λ command. RepoEffect Whole stanza command (reached_by backup_early result) a d)
  finished_does result f = by o.kind refl
    where
      by : (kind : BackupKind) → o.kind ≡ kind → On (one (IsBackupBy kind first stanza a.now)) (λ command. RepoEffect Whole stanza command (reached_by backup_early result) a d)
      by Full is = full_does (later.prior ∙ ap (λ (k : BackupKind). base_label k list) is ∙ no_base list) result f
      by Diff is = any_does result f
      by Incr is = any_does result f

  held_in : (now new : Option Content) (m : Manifest) → IsManifestText m (manifest_text m) → ((f g : Content) → now ≡ Some f → new ≡ Some g → g (pair_of draft) ≡ Some (manifest_text m)) → IsSome now → IfSome new (λ g. PairIs IsManifestText g (pair_of draft) m)
  held_in now None m valid goes some = tt
  held_in None (Some g) m valid goes some = absurd (let e : ◌≡◌ {A = Bool} false true = some in cc)
  held_in (Some f) (Some g) m valid goes some = inl (manifest_text m, goes f g refl refl, valid)

  -- where all links read the folder, it is the folder's
  holds_folder : (makes : MakesOf draft None links true b d) → (full_backup draft links true b d makes).entry.prior ≡ draft.prior → (f : Nodes) (repo : Content) → IsTreeListing f seen → IsSome a.now → AllRead (bytes_in f) repo first
      → ((l : Label) → (full_backup draft links true b d makes).entry.prior ≡ Some l → ShowsFrom stanza a.now o.settings.delta f l) → IsOfFolder f (full_backup draft links true b d makes)
  holds_folder makes prior f repo listing some read shows =
      let known = subst (λ (n : Option Content). IsSome n) (sym same) some in
      let p = planned in
      let files = chosen first o.settings (old_in draft) (taken_in draft) p.equal p.same p.marked draft.plan.choices.items p.planned in
      let from_it = λ (l : Label) (is : draft.prior ≡ Some l). subst (λ (n : Option Content). ShowsFrom (stanza_of draft) n o.settings.delta f l) (sym same)
      (subst (λ (k : Text). ShowsFrom k a.now o.settings.delta f l) (sym later.stanza_is) (shows l (prior ∙ is))) in
      of_folder draft is_draft links true b d known makes f repo (all_read_on first links comes (bytes_in f) repo read)
      (all_held one_list one_manifest draft b begins f seen listing later.takes first repo read o.settings.delta known from_it (taken_in draft) draft.plan.choices.items (λ t i. i) files) seen listing later.takes

  -- the manifest of what was made
  has_entries : (makes : MakesOf draft None links true b d) → (full_backup draft links true b d makes).entry.label ≡ draft.label → HasEntries stanza o seen list first a.now d.now (full_backup draft links true b d makes)
  has_entries makes label =
      let p = planned in
      let w = went_with draft makes.ends in
      let files = chosen first o.settings (old_in draft) (taken_in draft) p.equal p.same p.marked draft.plan.choices.items p.planned in
      let files_are : makes.manifest.files ≡ files_with draft makes.ends = ap (λ (m : Manifest). m.files) makes.manifest_is in
      record {
        base = from.base;
        reads = from.reads;
        manifest = makes.manifest;
        held = λ some. subst (λ (l : Label). IfSome d.now (λ g. PairIs IsManifestText g (manifest_name stanza l) makes.manifest)) (sym label)
            (subst (λ (k : Text). IfSome d.now (λ g. PairIs IsManifestText g (manifest_name k draft.label) makes.manifest)) later.stanza_is
            (held_in b.now d.now makes.manifest makes.manifest_valid (λ f g is_f is_g. ((makes.whole_now refl).goes f g is_f is_g).manifest_is) (subst (λ (n : Option Content). IsSome n) (sym same) some)));
        all = λ t at. subst (λ (es : List FileEntry). IsKeptUnlessAbsent first es t) (sym files_are)
            (kept_used first links comes (files_with draft makes.ends) t
            (all_kept draft is_draft None links true b d makes t (subst (λ (ts : List Taken). In t ts) (sym later.takes.files) at)));
        folders = ap (λ (m : Manifest). m.folders) makes.manifest_is ∙ later.takes.folders_are;
        wal = ap (λ (m : Manifest). m.wal) makes.manifest_is;
        states = refl;
        each = λ e at.
            let entry = entries_of first o.settings.delta w (taken_in draft) (taken_in draft) draft.plan.choices.items (λ f i. i) files e (subst (λ (es : List FileEntry). In e es) files_are at) in
            subst (λ (es : List FileEntry). IsEntryBy first o.settings.delta es (files_of (kept false seen)) e) (later.old_is ∙ from.old_is)
            (subst (λ (ts : List Taken). IsEntryBy first o.settings.delta (old_in draft) ts e) later.takes.files entry);
        equal = p.equal;
        marked = λ delta. subst (λ (es : List FileEntry). AreMarked first es (files_of (kept false seen)) p.equal) (later.old_is ∙ from.old_is)
            (subst (λ (ts : List Taken). AreMarked first (old_in draft) ts p.equal) later.takes.files (p.marked delta));
        laid = λ e at.
            let entry = laid_of w (taken_in draft) draft.plan.choices.items e (subst (λ (es : List FileEntry). In e es) files_are at) in
            subst (λ (es : List FileEntry). IsLaidBy (layout o.settings es (files_of (kept false seen)) p.equal).choices (files_of (kept false seen)) e) (later.old_is ∙ from.old_is)
            (subst (λ (ts : List Taken). IsLaidBy (layout o.settings (old_in draft) ts p.equal).choices ts e) later.takes.files
            (subst (λ (cs : List Choice). IsLaidBy cs (taken_in draft) e) p.planned entry));
      }

  -- whatever else the disk held, it has the backup
  has_added : (makes : MakesOf draft None links true b d) → (full_backup draft links true b d makes).entry.label ≡ draft.label → IsSome a.now → IfSome d.now (HasAdded stanza list (full_backup draft links true b d makes) makes.manifest)
  has_added makes label some = by b.now d.now refl refl (subst (λ (n : Option Content). IsSome n) (sym same) some)
    where
      by : (now new : Option Content) → b.now ≡ now → d.now ≡ new → IsSome now → IfSome new (HasAdded stanza list (full_backup draft links true b d makes) makes.manifest)
      by now None is_b is_d known = tt
      by None (Some g) is_b is_d known = absurd (let e : ◌≡◌ {A = Bool} false true = known in cc)
      by (Some f) (Some g) is_b is_d known =
          let x = (makes.whole_now refl).goes f g is_b is_d in
          let y = (makes.copies_now refl).goes f g is_b is_d in
          let list_is : makes.list ≡ list_with (full_backup draft links true b d makes).entry list = makes.listed.is ∙ ap (λ (v : BackupInfo). list_with (full_backup draft links true b d makes).entry v) later.list_is in
          let at_label : manifest_name stanza (full_backup draft links true b d makes).entry.label ≡ pair_of draft = ap (λ (l : Label). manifest_name stanza l) label ∙ ap (λ (k : Text). manifest_name k draft.label) (sym later.stanza_is) in
          record {
            listed = subst (λ (v : BackupInfo). PairIs IsBackupText g (backup_info stanza) v) list_is
                (subst (λ (k : Text). PairIs IsBackupText g (backup_info k) makes.list) later.stanza_is (inl (info_text (backup_sections makes.list), x.info_is, makes.list_valid)));
            manifest = subst (λ (n : Text). PairIs IsManifestText g n makes.manifest) (sym at_label) (inl (manifest_text makes.manifest, x.manifest_is, makes.manifest_valid));
            copies = subst (λ (n : Text). AgreeAt n g) (sym at_label) (y.manifest_is ∙ sym x.manifest_is, subst (λ (v : Value). IsSome v) (sym x.manifest_is) refl);
            files = λ e at own. lies_there draft is_draft links b d makes (subst (λ (n : Option Content). IsSome n) (sym is_b) refl) g x.placed stanza later.stanza_is (full_backup draft links true b d makes).entry.label label e at own;
          }

  made_by : ShowsSecond second clock mid → (made : Result (Unit {0}) MakeFault) (result : Result Outcome (Halt BackupFault)) → IsEndWith draft lines made result → (makes : Makes made draft links b d) → StopsBy (λ stop. ShowsSecond stop mid last) made draft None links b d makes
      → OnOk result (IsSome b.now → IfSome d.now (AgreeAt (main_of draft))) → IfOk result (λ outcome. OnFinished outcome (IsMade stanza o list seen first a.now d.now clock last))
  unfolding has_entries
  made_by shown made result (Well u text shows) makes stops alike =
      let x : (y : Backup) × IsAdded draft links b.now d.now y = (full_backup draft links true b d makes, is_made one_list one_manifest draft links b d begins makes) in
      let start_is : (full_backup draft links true b d makes).entry.start ≡ second = ap (λ (m : Manifest). m.start) makes.manifest_is ∙ later.start in
      let back = λ (some : IsSome a.now). subst (λ (n : Option Content). IsSome n) (sym same) some in
      let whole : IsMade stanza o list seen first a.now d.now clock last lines = record {
        backup = x.0;
        second = second;
        later = later.next.later;
        label = x.1.label ∙ later.label;
        start = start_is;
        times = subst (λ (n : ℕ). ShowsTimes n (full_backup draft links true b d makes).entry.stop clock last) (sym start_is)
            (subst (λ (n : ℕ). ShowsTimes second n clock last) (sym (ap (λ (m : Manifest). m.stop) makes.manifest_is)) (times_shown second makes.stop clock mid last shown stops));
        prior = x.1.prior ∙ later.prior;
        line = line_is ∙ ap (λ (l : Label). offline_lines o.kind (base_in o.kind list) l) (sym x.1.label);
        choices = x.1.choices ∙ later.choices;
        read = left_by_used first links comes stanza a.now x.0 (subst (λ (n : Option Content). IsReadOrLeft links stanza n x.0) same (subst (λ (s : Text). IsReadOrLeft links s b.now x.0) later.stanza_is x.1.read));
        entries = has_entries makes x.1.label;
        refers = λ s some represents. x.1.refers s (back some) (subst (λ (k : Text). NowRepresents k (Some s) b.now) (sym later.stanza_is) (subst (λ (n : Option Content). NowRepresents stanza (Some s) n) (sym same) represents));
        adds = subst (λ (s : Text). AddsBackup s x.0 a.now d.now) later.stanza_is (subst (λ (n : Option Content). AddsBackup (stanza_of draft) x.0 n d.now) same x.1.adds);
        added = has_added makes x.1.label;
        folder = holds_folder makes x.1.prior;
        alike = λ some. subst (λ (s : Text). IfSome d.now (AgreeAt (backup_info s))) later.stanza_is (alike (back some));
      } in
      subst (λ (t : Text). IsMade stanza o list seen first a.now d.now clock last t) (sym shows) whole
  made_by shown made result (Ill lost fault halt why) makes stops alike = tt

  pub finished_made : ShowsSecond second clock mid → (result : Result Outcome (Halt BackupFault)) → Finishes draft lines links b d mid last result → OnOk result (IsSome b.now → IfSome d.now (AgreeAt (main_of draft))) → IfOk result (λ outcome. OnFinished outcome (IsMade stanza o list seen first a.now d.now clock last))
  finished_made shown result f alike = made_by shown f.made result f.end f.outcome f.stopped alike

-- ---- the whole command

module _ (used now : List LinkState) (comes : Comes used now) (stanza : Text) (a c d : View) (rests : LeavesNoMore a c) (same : c.now ≡ a.now) where
  -- its own part after calls that only read
  pub command_does : (kind : BackupKind) (r : Result Outcome (Halt BackupFault)) (reached : Reached) → reached_by backup_early r ≡ reached → On (one (IsBackupBy kind now stanza c.now)) (λ command. RepoEffect Whole stanza command (reached_by backup_early r) c d)
      → On (one (IsBackupBy kind used stanza a.now)) (λ command. RepoEffect Whole stanza command reached a d)
  command_does kind r reached is x = (
    x.0,
    backup_by_used used now comes stanza a.now kind x.0 (subst (λ (n : Option Content). IsBackupBy kind now stanza n x.0) same x.1),
    subst (λ (q : Reached). RepoEffect Whole stanza x.0 q a d) is (does_after stanza x.0 (reached_by backup_early r) a c d rests same x.2),
  )

  entries_by_used : (o : OfflineOrder) (seen : List ListedNode) (list : BackupInfo) (b : Backup) → HasEntries stanza o seen list now c.now d.now b → HasEntries stanza o seen list used a.now d.now b
  entries_by_used o seen list b h = record {
    base = h.base;
    reads = subst (λ (n : Option Content). ReadsBase stanza n (base_label o.kind list) h.base) same h.reads;
    manifest = h.manifest;
    held = λ some. h.held (subst (λ (n : Option Content). IsSome n) (sym same) some);
    each = λ e at. entry_used used now comes o.settings.delta (old_files h.base) (files_of (kept false seen)) e (h.each e at);
    equal = h.equal;
    marked = λ delta. all_marked_used used now comes (old_files h.base) (files_of (kept false seen)) h.equal (h.marked delta);
    laid = h.laid;
    all = λ t at. kept_used used now comes h.manifest.files t (h.all t at);
    folders = h.folders;
    wal = h.wal;
    states = h.states;
  }

  pub made_by_used : (o : OfflineOrder) (list : BackupInfo) (seen : List ListedNode) (clock last : ClockState) (lines : Text) → IsMade stanza o list seen now c.now d.now clock last lines → IsMade stanza o list seen used a.now d.now clock last lines
  unfolding entries_by_used
  made_by_used o list seen clock last lines m = record {
    backup = m.backup;
    second = m.second;
    later = m.later;
    label = m.label;
    start = m.start;
    times = m.times;
    prior = m.prior;
    line = m.line;
    choices = m.choices;
    read = left_by_used used now comes stanza a.now m.backup (subst (λ (n : Option Content). IsReadOrLeft now stanza n m.backup) same m.read);
    entries = entries_by_used o seen list m.backup m.entries;
    refers = λ s some represents. m.refers s (subst (λ (n : Option Content). IsSome n) (sym same) some) (subst (λ (n : Option Content). NowRepresents stanza (Some s) n) (sym same) represents);
    adds = subst (λ (n : Option Content). AddsBackup stanza m.backup n d.now) same m.adds;
    added = λ some. m.added (subst (λ (n : Option Content). IsSome n) (sym same) some);
    folder = λ f repo listing some read shows. m.folder f repo listing (subst (λ (n : Option Content). IsSome n) (sym same) some) (all_read_on used now comes (bytes_in f) repo read)
        (λ l is. subst (λ (n : Option Content). ShowsFrom stanza n o.settings.delta f l) (sym same) (shows l is));
    alike = λ some. m.alike (subst (λ (n : Option Content). IsSome n) (sym same) some);
  }

-- a later state of the clock is as good
pub made_later : (stanza : Text) (o : OfflineOrder) (list : BackupInfo) (seen : List ListedNode) (used : List LinkState) (old new : Option Content) (clock mid last : ClockState) → mid.least ≤ last.least → (lines : Text)
    → IsMade stanza o list seen used old new clock mid lines → IsMade stanza o list seen used old new clock last lines
made_later stanza o list seen used old new clock mid last on lines m = record {
  backup = m.backup;
  second = m.second;
  later = m.later;
  label = m.label;
  start = m.start;
  times = times_within m.backup.entry.start m.backup.entry.stop clock clock mid last (omega arith) on m.times;
  prior = m.prior;
  line = m.line;
  choices = m.choices;
  read = m.read;
  entries = m.entries;
  refers = m.refers;
  adds = m.adds;
  added = m.added;
  folder = m.folder;
  alike = m.alike;
}

-- the pairs that were read have room for it
pub has_room : (stanza : Text) (known : Control) (archive : rust_archive_info.ArchiveInfo) (backup : rust_backup_info.BackupInfo) (old : Option Content) → IsArchiveOf stanza old archive → IsBackupOf stanza old backup
    → (list : BackupInfo) → Validates (archive_info_of archive) (backup_info_of backup) list → IsOf known (archive_info_of archive) → length list.backups < most_backups → IfSome old (HasRoom stanza known list)
has_room stanza known archive backup old is_archive is_backup list settles of room = if_both (λ f. HasValue stanza f (archive_info_of archive)) (λ f. PairIs IsBackupText f (backup_info stanza) (backup_info_of backup)) (HasRoom stanza known list) old is_archive.0 is_backup.0 (λ f p q. record {
  archive = archive_info_of archive;
  backup = backup_info_of backup;
  pairs = record { archive = p; backup = q };
  of = of;
  settles = settles;
  few = room;
})

-- and the backup begins from them
pub begins_from : (stanza : Text) (o : OfflineOrder) (archive : rust_archive_info.ArchiveInfo) (backup : rust_backup_info.BackupInfo) (old now : Option Content) → now ≡ old → IsArchiveOf stanza old archive → IsBackupOf stanza old backup
    → (list : BackupInfo) → Validates (archive_info_of archive) (backup_info_of backup) list → (base : Option Manifest) → ReadsBase stanza old (base_label o.kind list) base → (files : List FileEntry) → files ≡ old_files base → BeginsFrom stanza o now list files
begins_from stanza o archive backup old now same is_archive is_backup list settles base reads files is = record {
  archive = archive_info_of archive;
  backup = backup_info_of backup;
  archive_read = subst (λ (n : Option Content). IfSome n (λ f. HasValue stanza f (archive_info_of archive))) (sym same) is_archive.0;
  backup_read = subst (λ (n : Option Content). IfSome n (λ f. PairIs IsBackupText f (backup_info stanza) (backup_info_of backup))) (sym same) is_backup.0;
  settles = settles;
  base = base;
  reads = subst (λ (n : Option Content). ReadsBase stanza n (base_label o.kind list) base) (sym same) reads;
  old_is = is;
}
