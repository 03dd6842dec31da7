-- Why a backup is refused, from what was there before.
use Rattle.std.proofs.Common.{◌≡◌, inl, inr, ℕ, ◌<◌, ◌^◌, List, [], Option, Some, None, string_bytes, refl, length, ap, subst}
use Rattle.std.specs.Prelude.{IfSome}
use Rattle.base_devices.specs.Content.{Content}
use Rattle.base_devices.specs.Links.{LinkState}
use Rattle.base_devices.specs.DataFolder.{Nodes, IsTreeListing}
use Rattle.base_model.specs.declared.clusters.ArchiveInfo as rust_archive_info
use Rattle.base_model.specs.declared.clusters.BackupInfo as rust_backup_info
use Rattle.base_model.specs.InfoFiles.{IsBackupText}
use Rattle.base_model.specs.Names.{backup_info}
use Rattle.base_model.specs.Pair.{PairIs}
use Rattle.base_model.specs.Text.{Text}
use Rattle.base_model.specs.Values.{ArchiveInfo, BackupInfo, archive_info_of, backup_info_of}
use Rattle.worker_pool.specs.declared.dispatch.fault.Lost.{Lost}
use Rattle.worker_pool.specs.Run.{Left}
use Rattle.backup_plan.specs.Filter.{ListedNode}
use Rattle.backup_record.specs.Faults.{IsMissing}
use Rattle.backup_record.specs.Making.{labels_of}
use Rattle.repo_stanza.specs.Judging.{Validates, As, Without}
use Rattle.cmd_types.specs.Current.{HasValue}
use Rattle.backup_make.specs.declared.draft.Draft.{Draft}
use Rattle.backup_make.specs.Draft.{jobs_in, files_with}
use Rattle.backup_make.specs.Faults.{IsManifestTooLong, IsListTooLong}
use Rattle.cmd_types.specs.declared.stages.object.Object.{Object}
use Rattle.cmd_types.specs.declared.stages.object.Object.TheVariants as objects
use Rattle.cmd_types.specs.Risen.{none, rose_in}
use Rattle.cmd_setup.specs.Readies.{IsArchiveOf, IsBackupOf}
use Rattle.cmd_backup_common.specs.declared.parts.fault.BackupFault.{BackupFault}
use Rattle.cmd_backup_common.specs.declared.parts.fault.BackupFault.TheVariants as faults
use Rattle.cmd_backup_common.specs.Causes.{Before, HasSecond, CauseBy}
use Rattle.cmd_backup_common.specs.Drafting.{ListingCause, DraftCause}
use Rattle.cmd_backup_common.specs.Making.{MakeCause}
use Rattle.cmd_backup_common.specs.Seconds.{ListsSecond, NamesSecond, StatesSecond}
use Rattle.cmd_backup_common.proofs.Links.{Comes, left_comes, where_done, unread_used, all_used_lost, within_count}
use Rattle.cmd_backup_common.proofs.Makings.{Either}

-- ---- what holds of a content

pub if_as : {X : Type 0} (P Q : X → Type 0) (o : Option X) → IfSome o P → ((x : X) → P x → Q x) → IfSome o Q
if_as P Q None p to = tt
if_as P Q (Some x) p to = to x p

pub if_both : {X : Type 0} (P Q R : X → Type 0) (o : Option X) → IfSome o P → IfSome o Q → ((x : X) → P x → Q x → R x) → IfSome o R
if_both P Q R None p q to = tt
if_both P Q R (Some x) p q to = to x p q

-- ---- which object failed

abbrev pub Any : Type 0 → Type 0 → Type 0 → Object → Type 0
Any repo tree clock = rose_in (record none { repo = repo; tree = tree; clock = clock })

pub either_any : (repo later tree clock past : Type 0) → (repo → later) → (clock → past) → (o : Object) → Either repo clock o → Any later tree past o
either_any repo later tree clock past to_repo to_clock objects.Repo h = to_repo h
either_any repo later tree clock past to_repo to_clock objects.Spool h = absurd h
either_any repo later tree clock past to_repo to_clock objects.TheDataFolder h = absurd h
either_any repo later tree clock past to_repo to_clock objects.Server h = absurd h
either_any repo later tree clock past to_repo to_clock objects.Others h = absurd h
either_any repo later tree clock past to_repo to_clock objects.Clock h = to_clock h
either_any repo later tree clock past to_repo to_clock objects.Locks h = absurd h
either_any repo later tree clock past to_repo to_clock objects.Config h = absurd h
either_any repo later tree clock past to_repo to_clock objects.Output h = absurd h

-- ---- what a listing is refused for

none_shows : (seen : List ListedNode) (nodes : Option Nodes) → IfSome nodes (λ f. IsTreeListing f seen) → ((f : Nodes) → ¬ IsTreeListing f seen) → nodes ≡ None
none_shows seen None listing not = refl
none_shows seen (Some f) listing not = absurd (not f listing)

module _ (b : Before) (IsIt : Draft → Type 0) (seen : List ListedNode) (listing : IfSome b.nodes (λ f. IsTreeListing f seen)) where
  shows : (P : List ListedNode → Type 0) → P seen → IfSome b.nodes (λ f. (ns : List ListedNode) × IsTreeListing f ns × P ns)
  shows P p = if_as (λ f. IsTreeListing f seen) (λ f. (ns : List ListedNode) × IsTreeListing f ns × P ns) b.nodes listing (λ f l. (seen, l, p))

  module _ (Stated : ℕ → Type 0) (has : (second : ℕ) → Stated second → IfSome b.repo (HasSecond b.stanza second)) where
    pub draft_takes : (e : BackupFault) → DraftCause seen b.least Stated e → CauseBy b IsIt e
    draft_takes (faults.HistoryDiffers at) h = absurd h
    draft_takes (faults.StanzaMismatch kept found) h = absurd h
    draft_takes faults.Running h = absurd h
    draft_takes (faults.TooMany limit) h = inr (shows (λ ns. ListingCause ns (faults.TooMany limit)) h)
    draft_takes (faults.WorkersLost lost) h = absurd h
    draft_takes (faults.ClockBehind latest now) h = (h.0, h.1, has latest h.2)
    draft_takes (faults.LinkFound path) h = shows (λ ns. ListingCause ns (faults.LinkFound path)) h
    draft_takes (faults.NameRefused path) h = shows (λ ns. ListingCause ns (faults.NameRefused path)) h
    draft_takes faults.ListingUnordered h = none_shows seen b.nodes listing h
    draft_takes (faults.ControlMissing path) h = inl (shows (λ ns. ListingCause ns (faults.ControlMissing path)) h)
    draft_takes (faults.Unread path) h = absurd h
    draft_takes (faults.TooLong name limit) h = absurd h

-- a validated list has the backups that the pair's value has
pub same_backups : (a : ArchiveInfo) (list w : BackupInfo) → Validates a list w → w.backups ≡ list.backups
same_backups a list w (As same is) = ap (λ v. v.backups) is
same_backups a list w (Without p is) = ap (λ v. v.backups) is

pub states_as : (stanza : Text) (now : Option Content) (second : ℕ) (list w : BackupInfo) → w.backups ≡ list.backups → StatesSecond stanza w now second → StatesSecond stanza list now second
states_as stanza now second list w same (inl lists) = inl (subst (λ bs. ListsSecond (labels_of bs) second) same lists)
states_as stanza now second list w same (inr names) = inr names

module _ (b : Before) (archive : rust_archive_info.ArchiveInfo) (backup : rust_backup_info.BackupInfo) (is_archive : IsArchiveOf b.stanza b.repo archive) (is_backup : IsBackupOf b.stanza b.repo backup) where
  -- what both pairs have
  pub of_pairs : (P : Content → Type 0) → ((f : Content) → HasValue b.stanza f (archive_info_of archive) → PairIs IsBackupText f (backup_info b.stanza) (backup_info_of backup) → P f) → IfSome b.repo P
  of_pairs P to = if_both (λ f. HasValue b.stanza f (archive_info_of archive)) (λ f. PairIs IsBackupText f (backup_info b.stanza) (backup_info_of backup)) P b.repo is_archive.0 is_backup.0 to

  -- the second of a label that is listed, or that names a folder with files
  pub has_second : (second : ℕ) → StatesSecond b.stanza (backup_info_of backup) b.repo second → IfSome b.repo (HasSecond b.stanza second)
  has_second second (inl lists) = of_pairs (HasSecond b.stanza second) (λ f p q. inl (backup_info_of backup, q, lists))
  has_second second (inr names) = if_as (NamesSecond b.stanza second) (HasSecond b.stanza second) b.repo names (λ f n. inr n)

-- ---- why the draft's backup isn't made

module _ (b : Before) (IsIt : Draft → Type 0) (d : Draft) (of : IsIt d) (now : List LinkState) (mid : List Lost) (l : Left [] b.used [] mid now) (few : length b.used < 2 ^ 32) where
  comes : Comes b.used now
  comes = left_comes b.used now [] mid l

  pub make_takes : (e : BackupFault) → MakeCause d now mid e → CauseBy b IsIt e
  make_takes (faults.HistoryDiffers at) h = absurd h
  make_takes (faults.StanzaMismatch kept found) h = absurd h
  make_takes faults.Running h = absurd h
  make_takes (faults.TooMany limit) h = absurd h
  make_takes (faults.WorkersLost lost) h = all_used_lost (jobs_in d) b.used now mid h.after l h.all lost
      (within_count (jobs_in d) b.used now mid h.after l h.all lost (2 ^ 32) h.count few)
  make_takes (faults.ClockBehind latest second) h = absurd h
  make_takes (faults.LinkFound path) h = absurd h
  make_takes (faults.NameRefused path) h = absurd h
  make_takes faults.ListingUnordered h = absurd h
  make_takes (faults.ControlMissing path) h = inr (d, of, where_done b.used now comes d (λ ends. IsMissing (string_bytes path) (files_with d ends)) h)
  make_takes (faults.Unread path) h = (d, of, unread_used b.used now comes d path h)
  make_takes (faults.TooLong name limit) (inl h) = (d, of, inl (h.0, h.1, where_done b.used now comes d (λ ends. (n : ℕ) × IsManifestTooLong d ends n) h.2))
  make_takes (faults.TooLong name limit) (inr h) = (d, of, inr (h.0, h.1, where_done b.used now comes d (λ ends. (n : ℕ) × IsListTooLong d ends n) h.2))
