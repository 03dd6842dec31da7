-- Each part's cause is one of the choice's.
use Rattle.std.proofs.Common.{◌≡◌, ◌≢◌, ◌<◌, ◌^◌, ℕ, List, [], length, map, true, Option, Some, None, Result, Ok, Err, IfOk, IfErr, refl, sym, subst}
use Rattle.std.specs.Prelude.{IfSome, string_bytes}
use Rattle.base_devices.specs.Cause.{Rises}
use Rattle.base_devices.specs.Content.{Content}
use Rattle.base_model.specs.declared.clusters.ClusterId.{ClusterId}
use Rattle.base_model.specs.declared.labels.Label.{Label}
use Rattle.base_model.specs.declared.wal.ArchiveName.TheVariants.{History}
use Rattle.base_model.specs.Fields.{at_number}
use Rattle.base_model.specs.Text.{Text, In}
use Rattle.base_model.specs.declared.clusters.BackupInfo as rust_info
use Rattle.base_model.specs.declared.labels.Entry as rust_entry
use Rattle.base_model.specs.Values.{ArchiveInfo, BackupInfo, Entry, backup_info_of, entry_of}
use Rattle.repo_ini.specs.Form.{pieces}
use Rattle.archive_lookup.specs.declared.stored.fault.ArchiveFault.{ArchiveFault}
use Rattle.archive_lookup.specs.declared.stored.fault.ArchiveFault.TheVariants as archives
use Rattle.archive_lookup.specs.Causes.{GetCause}
use Rattle.restore_target.specs.declared.history.Ancestor.{Ancestor}
use Rattle.restore_target.specs.declared.history.HistoryFault.{HistoryFault}
use Rattle.restore_target.specs.declared.history.HistoryFault.TheVariants as histories
use Rattle.restore_target.specs.History as history
use Rattle.cmd_types.specs.declared.stages.object.Object.{Object}
use Rattle.cmd_types.specs.declared.stages.object.Object.TheVariants.{Repo}
use Rattle.cmd_types.specs.declared.stages.halt.Halt.{Halt}
use Rattle.cmd_types.specs.declared.stages.halt.Halt.TheVariants.{Refused, Failed, NoMemory}
use Rattle.cmd_types.specs.Current.{HasCurrent, HasValue, id_kept}
use Rattle.cmd_types.specs.Halts.{HaltCause, Only}
use Rattle.restore_choice.specs.declared.choice.Bounds.{Bounds}
use Rattle.restore_choice.specs.declared.choice.Choice.{Choice}
use Rattle.restore_choice.specs.declared.choice.Choice.TheVariants.{Labelled, Last}
use Rattle.restore_choice.specs.declared.choice.Deadline.{Deadline}
use Rattle.restore_choice.specs.declared.fault.ChoiceFault.{ChoiceFault}
use Rattle.restore_choice.specs.declared.fault.ChoiceFault.TheVariants as faults
use Rattle.restore_choice.specs.declared.fault.DamagedManifest.{DamagedManifest}
use Rattle.restore_choice.specs.Ancestries.{HasHistory, HasAncestry, HistoryCause, AncestryCause, FileCause, of_archive, of_history}
use Rattle.restore_choice.specs.declared.backup_choice.Chosen.{Chosen}
use Rattle.restore_choice.specs.Choosing.{IsExcludedOn, EndedBefore, needs_log, Lists, IsChosen, ShowsMissing, ChooseCause}
use Rattle.restore_choice.specs.Judging.{of_load, LogCause, UnreadCause, SearchCause, FindsLast, FindCause, ChoosesOn}
use Rattle.restore_choice.specs.Loading.{LoadCause}
use Rattle.restore_choice.specs.Views.{Ancestry}
use Rattle.restore_choice.proofs.Halts.{halt_as}
use Rattle.restore_choice.proofs.Labels.{some_listed}

-- ---- the history of a timeline

-- where the archive pair has this value, the current cluster is the one that it numbers so
pub current_of : (stanza : Text) (repo : Option Content) (v : ArchiveInfo) (c : ClusterId) → IfSome repo (λ f. HasValue stanza f v) → at_number v.current v.history ≡ Some c → (P : Content → Type 0) → IfSome repo P → IfSome repo (λ f. HasCurrent stanza f c × P f)
current_of stanza None v c pair is P p = tt
current_of stanza (Some f) v c pair is P p = ((v, pair, is), p)

pub file_cause : (stanza : Text) (repo : Option Content) (v : ArchiveInfo) (c : ClusterId) → IfSome repo (λ f. HasValue stanza f v) → at_number v.current v.history ≡ Some c → (n : ℕ) → n < 2 ^ 32 → (rose : Type 0) → (e : ArchiveFault)
    → GetCause stanza (id_kept c) (History n) repo rose e → HaltCause (λ fault. IfSome repo (λ f. FileCause stanza f n fault)) (Only Repo rose) (of_archive n e)
file_cause stanza None v c pair is n fits rose (archives.HeaderForm info) h = tt
file_cause stanza None v c pair is n fits rose (archives.SegmentSize known found) h = tt
file_cause stanza None v c pair is n fits rose (archives.HeaderMismatch kept found) h = tt
file_cause stanza None v c pair is n fits rose (archives.Ambiguous first second) h = tt
file_cause stanza None v c pair is n fits rose (archives.Duplicate kept found) h = tt
file_cause stanza None v c pair is n fits rose archives.NotFound h = tt
file_cause stanza None v c pair is n fits rose (archives.SegmentDamaged known found) h = tt
file_cause stanza None v c pair is n fits rose (archives.TooLong name limit) h = tt
file_cause stanza None v c pair is n fits rose (archives.TooMany limit) h = tt
file_cause stanza None v c pair is n fits rose archives.Disk h = (refl, h)
file_cause stanza None v c pair is n fits rose archives.NoMemory h = tt
file_cause stanza (Some f) v c pair is n fits rose (archives.HeaderForm info) h = tt
file_cause stanza (Some f) v c pair is n fits rose (archives.SegmentSize known found) h = tt
file_cause stanza (Some f) v c pair is n fits rose (archives.HeaderMismatch kept found) h = tt
file_cause stanza (Some f) v c pair is n fits rose (archives.Ambiguous first second) h = tt
file_cause stanza (Some f) v c pair is n fits rose (archives.Duplicate kept found) h = tt
file_cause stanza (Some f) v c pair is n fits rose archives.NotFound h = (refl, (fits, (c, (v, pair, is), h)))
file_cause stanza (Some f) v c pair is n fits rose (archives.SegmentDamaged known found) h = tt
file_cause stanza (Some f) v c pair is n fits rose (archives.TooLong name limit) h = (c, (v, pair, is), h.0, h.1)
file_cause stanza (Some f) v c pair is n fits rose (archives.TooMany limit) h = tt
file_cause stanza (Some f) v c pair is n fits rose archives.Disk h = (refl, h)
file_cause stanza (Some f) v c pair is n fits rose archives.NoMemory h = tt

file_here : (stanza : Text) (f : Content) (n : ℕ) → n ≢ 1 → (e : ChoiceFault) → FileCause stanza f n e → HistoryCause stanza f n e
file_here stanza f n other faults.NoBackup h = absurd h
file_here stanza f n other (faults.SetMissing label) h = absurd h
file_here stanza f n other (faults.HistoryMissing timeline) h = (h.0, other, h.1)
file_here stanza f n other (faults.HistoryForm timeline line) h = absurd h
file_here stanza f n other (faults.HistoryLong name limit) h = (other, h)
file_here stanza f n other (faults.ManifestDamaged fault) h = absurd h
file_here stanza f n other faults.TargetEarly h = absurd h

pub file_back : (stanza : Text) (repo : Option Content) (n : ℕ) → n ≢ 1 → (e : ChoiceFault) → IfSome repo (λ f. FileCause stanza f n e) → IfSome repo (λ f. HistoryCause stanza f n e)
file_back stanza None n other e h = tt
file_back stanza (Some f) n other e h = file_here stanza f n other e h

pub history_cause : (stanza : Text) (repo : Option Content) (n : ℕ) → n ≢ 1 → (bytes : Text) → IfSome repo (λ f. HasHistory stanza f n bytes) → (failed : Object → Type 0) → (e : HistoryFault)
    → history.HistoryCause n (pieces bytes) e → HaltCause (λ fault. IfSome repo (λ f. HistoryCause stanza f n fault)) failed (of_history n e)
history_cause stanza None n other bytes has failed (histories.Form line) h = tt
history_cause stanza None n other bytes has failed histories.NoMemory h = tt
history_cause stanza (Some f) n other bytes has failed (histories.Form line) h = (refl, other, (bytes, has, h))
history_cause stanza (Some f) n other bytes has failed histories.NoMemory h = tt

-- ---- one backup

pub log_halts : (stanza : Text) (label : Label) (repo : Option Content) (failed : Object → Type 0) → (h : Halt DamagedManifest) → HaltCause (LoadCause stanza label repo) failed h → HaltCause (LogCause stanza label repo) failed (of_load h)
log_halts stanza label repo failed (Refused fault) h = h
log_halts stanza label repo failed (Failed object) h = h
log_halts stanza label repo failed NoMemory h = tt

pub log_unread : (stanza : Text) (repo : Option Content) (deadline : Option Deadline) (line : Option Ancestry) (e : Entry) → EndedBefore deadline e.stop → needs_log deadline line ≡ true → (fault : ChoiceFault)
    → LogCause stanza e.label repo fault → UnreadCause stanza repo deadline line e fault
log_unread stanza repo deadline line e ended needs faults.NoBackup h = absurd h
log_unread stanza repo deadline line e ended needs (faults.SetMissing label) h = absurd h
log_unread stanza repo deadline line e ended needs (faults.HistoryMissing timeline) h = absurd h
log_unread stanza repo deadline line e ended needs (faults.HistoryForm timeline number) h = absurd h
log_unread stanza repo deadline line e ended needs (faults.HistoryLong name limit) h = absurd h
log_unread stanza repo deadline line e ended needs (faults.ManifestDamaged fault) h = (ended, needs, h)
log_unread stanza repo deadline line e ended needs faults.TargetEarly h = absurd h

-- ---- the last one that qualifies

history_finds : (stanza : Text) (f : Content) (bounds : Bounds) (entries : List Entry) (o : Option ℕ) → bounds.timeline ≡ o → (e : ChoiceFault) → AncestryCause stanza f o e → FindCause stanza f bounds entries e
history_finds stanza f bounds entries None is e h = absurd h
history_finds stanza f bounds entries (Some n) is faults.NoBackup h = absurd h
history_finds stanza f bounds entries (Some n) is (faults.SetMissing label) h = absurd h
history_finds stanza f bounds entries (Some n) is (faults.HistoryMissing timeline) h = subst (λ (x : Option ℕ). AncestryCause stanza f x (faults.HistoryMissing timeline)) (sym is) h
history_finds stanza f bounds entries (Some n) is (faults.HistoryForm timeline line) h = subst (λ (x : Option ℕ). AncestryCause stanza f x (faults.HistoryForm timeline line)) (sym is) h
history_finds stanza f bounds entries (Some n) is (faults.HistoryLong name limit) h = subst (λ (x : Option ℕ). AncestryCause stanza f x (faults.HistoryLong name limit)) (sym is) h
history_finds stanza f bounds entries (Some n) is (faults.ManifestDamaged fault) h = absurd h
history_finds stanza f bounds entries (Some n) is faults.TargetEarly h = absurd h

pub ancestry_finds : (stanza : Text) (repo : Option Content) (bounds : Bounds) (entries : List Entry) (e : ChoiceFault) → IfSome repo (λ f. AncestryCause stanza f bounds.timeline e) → IfSome repo (λ f. FindCause stanza f bounds entries e)
ancestry_finds stanza None bounds entries e h = tt
ancestry_finds stanza (Some f) bounds entries e h = history_finds stanza f bounds entries bounds.timeline refl e h

search_finds_here : (stanza : Text) (f : Content) (bounds : Bounds) (entries : List Entry) (line : Option Ancestry) → HasAncestry stanza f bounds.timeline line → (e : ChoiceFault) → SearchCause stanza f bounds.deadline line entries e → FindCause stanza f bounds entries e
search_finds_here stanza f bounds entries line has faults.NoBackup h = absurd h.2
search_finds_here stanza f bounds entries line has (faults.SetMissing label) h = absurd h.2
search_finds_here stanza f bounds entries line has (faults.HistoryMissing timeline) h = absurd h.2
search_finds_here stanza f bounds entries line has (faults.HistoryForm timeline number) h = absurd h.2
search_finds_here stanza f bounds entries line has (faults.HistoryLong name limit) h = absurd h.2
search_finds_here stanza f bounds entries line has (faults.ManifestDamaged fault) h = (line, has, h)
search_finds_here stanza f bounds entries line has faults.TargetEarly h = absurd h.2

pub search_finds : (stanza : Text) (repo : Option Content) (bounds : Bounds) (entries : List Entry) (line : Option Ancestry) → IfSome repo (λ f. HasAncestry stanza f bounds.timeline line) → (e : ChoiceFault) → IfSome repo (λ f. SearchCause stanza f bounds.deadline line entries e) → IfSome repo (λ f. FindCause stanza f bounds entries e)
search_finds stanza None bounds entries line has e h = tt
search_finds stanza (Some f) bounds entries line has e h = search_finds_here stanza f bounds entries line has e h

pub none_finds : (stanza : Text) (repo : Option Content) (bounds : Bounds) (entries : List Entry) (line : Option Ancestry) → IfSome repo (λ f. HasAncestry stanza f bounds.timeline line) → IfSome repo (λ f. (e : Entry) → In e entries → IsExcludedOn stanza f bounds.deadline line e) → IfSome repo (λ f. FindCause stanza f bounds entries faults.TargetEarly)
none_finds stanza None bounds entries line has none = tt
none_finds stanza (Some f) bounds entries line has none = (line, has, none)

-- ---- the choice

find_chooses_here : (stanza : Text) (f : Content) (choice : Choice) (bounds : Bounds) → choice ≡ Last bounds → (v : BackupInfo) → v.backups ≢ [] → (e : ChoiceFault) → FindCause stanza f bounds v.backups e → ChooseCause stanza choice f v e
find_chooses_here stanza f choice bounds is v some faults.NoBackup h = absurd (never bounds.timeline h)
  where
    never : (o : Option ℕ) → AncestryCause stanza f o faults.NoBackup → ⊥
    never None h = h
    never (Some n) h = h
find_chooses_here stanza f choice bounds is v some (faults.SetMissing label) h = absurd (never bounds.timeline h)
  where
    never : (o : Option ℕ) → AncestryCause stanza f o (faults.SetMissing label) → ⊥
    never None h = h
    never (Some n) h = h
find_chooses_here stanza f choice bounds is v some (faults.HistoryMissing timeline) h = (some, (bounds, is, h))
find_chooses_here stanza f choice bounds is v some (faults.HistoryForm timeline line) h = (some, (bounds, is, h))
find_chooses_here stanza f choice bounds is v some (faults.HistoryLong name limit) h = (some, (bounds, is, h))
find_chooses_here stanza f choice bounds is v some (faults.ManifestDamaged fault) (line, has, (e, reached, (ended, needs, unread))) = (bounds, is, (line, has, (e, reached, ended, needs, unread)))
find_chooses_here stanza f choice bounds is v some faults.TargetEarly (line, has, none) = (some, (bounds, is, (line, has, none)))

pub find_chooses : (stanza : Text) (repo : Option Content) (choice : Choice) (bounds : Bounds) → choice ≡ Last bounds → (v : BackupInfo) → v.backups ≢ [] → (e : ChoiceFault) → IfSome repo (λ f. FindCause stanza f bounds v.backups e) → IfSome repo (λ f. ChooseCause stanza choice f v e)
find_chooses stanza None choice bounds is v some e h = tt
find_chooses stanza (Some f) choice bounds is v some e h = find_chooses_here stanza f choice bounds is v some e h

-- a label that isn't listed is missing
missing_here : (stanza : Text) (f : Content) (choice : Choice) (v : BackupInfo) (asked : Label) → choice ≡ Labelled asked → v.backups ≢ [] → ¬ Lists v asked → (e : ChoiceFault) → ShowsMissing asked e → ChooseCause stanza choice f v e
missing_here stanza f choice v asked is some off faults.NoBackup h = absurd h
missing_here stanza f choice v asked is some off (faults.SetMissing text) h = (some, (asked, is, h, off))
missing_here stanza f choice v asked is some off (faults.HistoryMissing timeline) h = absurd h
missing_here stanza f choice v asked is some off (faults.HistoryForm timeline line) h = absurd h
missing_here stanza f choice v asked is some off (faults.HistoryLong name limit) h = absurd h
missing_here stanza f choice v asked is some off (faults.ManifestDamaged fault) h = absurd h
missing_here stanza f choice v asked is some off faults.TargetEarly h = absurd h

pub missing_chooses : (stanza : Text) (repo : Option Content) (choice : Choice) (v : BackupInfo) (asked : Label) → choice ≡ Labelled asked → v.backups ≢ [] → ¬ Lists v asked → (e : ChoiceFault) → ShowsMissing asked e → IfSome repo (λ f. ChooseCause stanza choice f v e)
missing_chooses stanza None choice v asked is some off e h = tt
missing_chooses stanza (Some f) choice v asked is some off e h = missing_here stanza f choice v asked is some off e h

-- what was found of the list's backups is the choice
chosen_label : (stanza : Text) (repo : Option Content) (choice : Choice) (bounds : Bounds) → choice ≡ Last bounds → (v : BackupInfo) (c : Chosen) → FindsLast stanza repo bounds v.backups c → ChoosesOn stanza choice repo v c
chosen_label stanza None choice bounds is v c h = tt
chosen_label stanza (Some f) choice bounds is v c h = subst (λ (x : Choice). IsChosen stanza x f v c.label) (sym is) h.2

module _ (stanza : Text) (repo : Option Content) (choice : Choice) (bounds : Bounds) (is : choice ≡ Last bounds) (v : rust_info.BackupInfo) (backups : List rust_entry.Entry) (same : backups ≡ v.backups.items) where
  pub finds_chooses : (r : Result Chosen (Halt ChoiceFault)) → IfOk r (FindsLast stanza repo bounds (map entry_of backups)) → IfOk r (ChoosesOn stanza choice repo (backup_info_of v))
  finds_chooses (Ok c) h = chosen_label stanza repo choice bounds is (backup_info_of v) c (subst (λ (l : List rust_entry.Entry). FindsLast stanza repo bounds (map entry_of l) c) same h)
  finds_chooses (Err e) h = tt

  pub halts_choose : length backups ≢ 0 → (failed : Object → Type 0) (r : Result Chosen (Halt ChoiceFault)) → IfErr r (HaltCause (λ fault. IfSome repo (λ f. FindCause stanza f bounds (map entry_of backups) fault)) failed)
      → IfErr r (HaltCause (λ fault. IfSome repo (λ f. ChooseCause stanza choice f (backup_info_of v) fault)) failed)
  halts_choose some failed (Ok c) h = tt
  halts_choose some failed (Err halt) h =
      halt_as (λ fault. IfSome repo (λ f. FindCause stanza f bounds (map entry_of backups) fault)) (λ fault. IfSome repo (λ f. ChooseCause stanza choice f (backup_info_of v) fault)) failed failed
      (λ e x. find_chooses stanza repo choice bounds is (backup_info_of v) (subst (λ (l : List rust_entry.Entry). map entry_of l ≢ []) same (some_listed entry_of backups some)) e
      (subst (λ (l : List rust_entry.Entry). IfSome repo (λ f. FindCause stanza f bounds (map entry_of l) e)) same x))
      (λ o x. x) halt h
