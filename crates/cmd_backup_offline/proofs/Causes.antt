-- Why a backup of any kind is refused, from what was there before.
use Rattle.std.proofs.Common.{◌≡◌, ◌⊎◌, inl, inr, ◌<◌, ◌^◌, ℕ, false, [], length, List, Option, Some, None, sym, subst, string_bytes}
use Rattle.std.specs.Prelude.{IfSome, IsSomeAnd}
use Rattle.repo_info.specs.declared.fault.MemberFault.{MemberFault}
use Rattle.base_devices.specs.Content.{Content}
use Rattle.base_devices.specs.Links.{LinkState}
use Rattle.base_devices.specs.DataFolder.{IsTreeListing}
use Rattle.base_model.specs.declared.clusters.ArchiveInfo as rust_archive_info
use Rattle.base_model.specs.declared.clusters.BackupInfo as rust_backup_info
use Rattle.base_model.specs.declared.labels.Label.{Label}
use Rattle.base_model.specs.InfoFiles.{IsBackupText}
use Rattle.base_model.specs.Names.{label_text, backup_info}
use Rattle.base_model.specs.Pair.{PairIs}
use Rattle.base_model.specs.Text.{Text}
use Rattle.base_model.specs.Values.{BackupInfo, FileEntry, archive_info_of, backup_info_of}
use Rattle.worker_pool.specs.declared.dispatch.fault.Lost.{Lost}
use Rattle.worker_pool.specs.Run.{Left}
use Rattle.worker_pool.proofs.Links.{left_is}
use Rattle.backup_plan.specs.Filter.{ListedNode, kept, files_of, Takes}
use Rattle.cmd_types.specs.Current.{HasValue}
use Rattle.repo_stanza.specs.Causes.{HistoriesDiffer, HasOther}
use Rattle.repo_stanza.specs.Judging.{Validates}
use Rattle.backup_make.specs.declared.draft.Draft.{Draft}
use Rattle.backup_make.specs.Draft.{IsDraft, taken_in, folders_in}
use Rattle.cmd_types.specs.declared.stages.object.Object.{Object}
use Rattle.cmd_types.specs.declared.stages.object.Object.TheVariants as objects
use Rattle.cmd_types.specs.declared.stages.halt.Halt.{Halt}
use Rattle.cmd_types.specs.declared.stages.halt.Halt.TheVariants.{Refused, Failed, NoMemory}
use Rattle.cmd_types.specs.Halts.{HaltCause, Only}
use Rattle.cmd_setup.specs.Readies.{IsArchiveOf, IsBackupOf}
use Rattle.cmd_backup_common.specs.declared.parts.fault.BackupFault.{BackupFault}
use Rattle.cmd_backup_common.specs.declared.parts.fault.BackupFault.TheVariants as takes
use Rattle.cmd_backup_common.specs.Beginning.{BeginCause}
use Rattle.cmd_backup_common.specs.Drafting.{ListingCause, DraftCause}
use Rattle.cmd_backup_common.specs.Causes.{Before, SettlesTo, IsFull, CauseBy}
use Rattle.cmd_backup_common.specs.Seconds.{StatesSecond}
use Rattle.cmd_backup_common.proofs.Causes.{Any, if_as, of_pairs, draft_takes, has_second, same_backups, states_as}
use Rattle.cmd_backup_common.proofs.Links.{left_comes, all_used_lost, within_count}
use Rattle.cmd_backup_common.proofs.Makings.{Either}
use Rattle.cmd_backup_offline.specs.declared.fault.OfflineFault.{OfflineFault}
use Rattle.cmd_backup_offline.specs.declared.fault.OfflineFault.TheVariants as faults
use Rattle.cmd_backup_offline.specs.declared.order.OfflineOrder.{OfflineOrder}
use Rattle.cmd_backup_offline.specs.Basing.{base_label, LacksManifest, BaseCause}
use Rattle.cmd_backup_offline.specs.Causes.{IsDraftOf, DigestCause, OfflineCause}
use Rattle.cmd_backup_offline.specs.Drafting.{IsDraftedBy}
use Rattle.cmd_backup_offline.specs.Faults.{of_backup}
use Rattle.cmd_backup_offline.specs.Equal.{CannotDigest, EqualCause}
use Rattle.cmd_backup_offline.specs.Making.{MakingCause}
use Rattle.cmd_backup_offline.proofs.Left.{left_twice, undigested_used, offline_takes}

-- a halt that a full backup may have too
pub of_backup_as : (P : BackupFault → Type 0) (Q : OfflineFault → Type 0) (F G : Object → Type 0) → ((e : BackupFault) → P e → Q (faults.Take e)) → ((o : Object) → F o → G o) → (h : Halt BackupFault) → HaltCause P F h → HaltCause Q G (of_backup h)
of_backup_as P Q F G to failed (Refused e) h = to e h
of_backup_as P Q F G to failed (Failed o) h = failed o h
of_backup_as P Q F G to failed NoMemory h = tt

-- what refuses a listing refuses a draft
pub listing_draft : (seen : List ListedNode) (least : ℕ) (Stated : ℕ → Type 0) (e : BackupFault) → ListingCause seen e → DraftCause seen least Stated e
listing_draft seen least Stated (takes.HistoryDiffers at) h = h
listing_draft seen least Stated (takes.StanzaMismatch kept found) h = h
listing_draft seen least Stated takes.Running h = h
listing_draft seen least Stated (takes.TooMany limit) h = h
listing_draft seen least Stated (takes.WorkersLost lost) h = h
listing_draft seen least Stated (takes.ClockBehind latest now) h = absurd h
listing_draft seen least Stated (takes.LinkFound path) h = h
listing_draft seen least Stated (takes.NameRefused path) h = h
listing_draft seen least Stated takes.ListingUnordered h = h
listing_draft seen least Stated (takes.ControlMissing path) h = h
listing_draft seen least Stated (takes.Unread path) h = h
listing_draft seen least Stated (takes.TooLong name limit) h = h

module _ (b : Before) (o : OfflineOrder) (archive : rust_archive_info.ArchiveInfo) (backup : rust_backup_info.BackupInfo) (is_archive : IsArchiveOf b.stanza b.repo archive) (is_backup : IsBackupOf b.stanza b.repo backup) where
  pairs_of : (P : Content → Type 0) → ((f : Content) → HasValue b.stanza f (archive_info_of archive) → PairIs IsBackupText f (backup_info b.stanza) (backup_info_of backup) → P f) → IfSome b.repo P
  pairs_of P to = of_pairs b archive backup is_archive is_backup P to

  -- before the repository was looked at
  pub begin_takes : (IsIt : Draft → Type 0) (e : BackupFault) → BeginCause b.known (archive_info_of archive) (backup_info_of backup) b.nodes b.used e → CauseBy b IsIt e
  begin_takes IsIt (takes.HistoryDiffers at) h = pairs_of (λ f. HistoriesDiffer b.stanza f at) (λ f p q. record {
    archive = archive_info_of archive;
    backup = backup_info_of backup;
    pairs = record { archive = p; backup = q };
    differ = h.0;
    settled = h.1;
  })
  begin_takes IsIt (takes.StanzaMismatch kept found) h = pairs_of (λ f. HasOther b.stanza b.known f kept found) (λ f p q. record {
    archive = archive_info_of archive;
    backup = backup_info_of backup;
    pairs = record { archive = p; backup = q };
    together = h.0;
    current = h.3.0;
    is_current = h.3.1;
    is_kept = h.3.2;
    is_found = h.2;
    apart = h.1;
  })
  begin_takes IsIt takes.Running h = h
  begin_takes IsIt (takes.TooMany limit) h = inl (h.0, pairs_of (IsFull b.stanza) (λ f p q. (backup_info_of backup, q, h.1)))
  begin_takes IsIt (takes.WorkersLost lost) h = h
  begin_takes IsIt (takes.ClockBehind latest now) h = absurd h
  begin_takes IsIt (takes.LinkFound path) h = absurd h
  begin_takes IsIt (takes.NameRefused path) h = absurd h
  begin_takes IsIt takes.ListingUnordered h = absurd h
  begin_takes IsIt (takes.ControlMissing path) h = absurd h
  begin_takes IsIt (takes.Unread path) h = absurd h
  begin_takes IsIt (takes.TooLong name limit) h = absurd h

  module _ (list : BackupInfo) (settles : Validates (archive_info_of archive) (backup_info_of backup) list) where
    abbrev Settled : Content → Type 0
    Settled f = SettlesTo b.stanza list f

    settled : (P : Content → Type 0) → ((f : Content) → SettlesTo b.stanza list f → P f) → IfSome b.repo P
    settled P to = pairs_of P (λ f p q. to f (record { archive = archive_info_of archive; backup = backup_info_of backup; pairs = record { archive = p; backup = q }; settles = settles }))

    both_known : (now : Option Content) (P Q R : Content → Type 0) → IfSome now P → IfSome now Q → ((f : Content) → P f → Q f → R f) → IfSome now R
    both_known None P Q R p q to = tt
    both_known (Some f) P Q R p q to = to f p q

    lacking : (text : Text) (main copy : MemberFault) (base : Option Label) → IsSomeAnd base (λ l. (text ≡ label_text l) × IfSome b.repo (LacksManifest b.stanza l main copy))
        → IfSome b.repo (λ f. IsSomeAnd base (λ l. (text ≡ label_text l) × LacksManifest b.stanza l main copy f))
    lacking text main copy None k = absurd k
    lacking text main copy (Some l) k = if_as (LacksManifest b.stanza l main copy) (λ f. (text ≡ label_text l) × LacksManifest b.stanza l main copy f) b.repo k.1 (λ f x. (k.0, x))

    -- the manifest of the prior backup wasn't read
    pub base_takes : (e : OfflineFault) → BaseCause b.stanza b.repo (base_label o.kind list) e → OfflineCause b o e
    base_takes (faults.Take fault) h = absurd h
    base_takes (faults.PriorDamaged text main copy) h =
        both_known b.repo Settled (λ f. IsSomeAnd (base_label o.kind list) (λ l. (string_bytes text ≡ label_text l) × LacksManifest b.stanza l main copy f))
        (λ f. (v : BackupInfo) × SettlesTo b.stanza v f × IsSomeAnd (base_label o.kind v) (λ l. (string_bytes text ≡ label_text l) × LacksManifest b.stanza l main copy f))
        (settled Settled (λ f s. s)) (lacking (string_bytes text) main copy (base_label o.kind list) h) (λ f s l. (list, s, l))

    -- a draft of the folder that was listed
    pub offline_draft : (seen : List ListedNode) → IfSome b.nodes (λ f. IsTreeListing f seen) → (files : List FileEntry) (second : ℕ) (links : List LinkState) (d : Draft) → IsDraft d → IsDraftedBy b.stanza o seen list files second links d → IsDraftOf b o d
    offline_draft seen listing files second links d is by = let later = by.later in record {
      is = is;
      stanza_is = later.stanza_is;
      prior = subst (λ (v : BackupInfo). d.prior ≡ base_label o.kind v) (sym later.list_is) later.prior;
      takes = if_as (λ f. IsTreeListing f seen) (λ f. (ns : List ListedNode) × IsTreeListing f ns × Takes false ns (taken_in d) (folders_in d)) b.nodes listing (λ f t. (seen, t, later.takes));
      list = subst (λ (v : BackupInfo). IfSome b.repo (SettlesTo b.stanza v)) (sym later.list_is) (settled Settled (λ f s. s));
    }

    -- the digests weren't reported
    equal_takes : (seen : List ListedNode) → IfSome b.nodes (λ f. IsTreeListing f seen) → (old : List FileEntry) (now : List LinkState) (mid : List Lost) → Left [] b.used [] mid now → length b.used < 2 ^ 32
        → (e : BackupFault) → EqualCause now mid old (files_of (kept false seen)) e → CauseBy b (IsDraftOf b o) e ⊎ DigestCause b e
    equal_takes seen listing old now mid left few (takes.HistoryDiffers at) h = absurd h
    equal_takes seen listing old now mid left few (takes.StanzaMismatch kept found) h = absurd h
    equal_takes seen listing old now mid left few takes.Running h = absurd h
    equal_takes seen listing old now mid left few (takes.TooMany limit) h = absurd h
    equal_takes seen listing old now mid left few (takes.WorkersLost lost) h = inl (all_used_lost h.jobs b.used now mid h.after left h.all lost (within_count h.jobs b.used now mid h.after left h.all lost (2 ^ 32) h.count few))
    equal_takes seen listing old now mid left few (takes.ClockBehind latest second) h = absurd h
    equal_takes seen listing old now mid left few (takes.LinkFound path) h = absurd h
    equal_takes seen listing old now mid left few (takes.NameRefused path) h = absurd h
    equal_takes seen listing old now mid left few takes.ListingUnordered h = absurd h
    equal_takes seen listing old now mid left few (takes.ControlMissing path) h = absurd h
    equal_takes seen listing old now mid left few (takes.Unread path) h = inr (shows_it (old, undigested_used b.used now (left_comes b.used now [] mid left) old (files_of (kept false seen)) (string_bytes path) h))
      where
        shows_it : ((es : List FileEntry) × CannotDigest b.used es (files_of (kept false seen)) (string_bytes path)) → IfSome b.nodes (λ f. (ns : List ListedNode) × IsTreeListing f ns × ((es : List FileEntry) × CannotDigest b.used es (files_of (kept false ns)) (string_bytes path)))
        shows_it x = if_as (λ f. IsTreeListing f seen) (λ f. (ns : List ListedNode) × IsTreeListing f ns × ((es : List FileEntry) × CannotDigest b.used es (files_of (kept false ns)) (string_bytes path))) b.nodes listing (λ f l. (seen, l, x))
    equal_takes seen listing old now mid left few (takes.TooLong name limit) h = absurd h

    -- there is no draft of it, the digests weren't reported, or that of one isn't made
    -- (the disk is as it was)
    pub made_takes : (repo : Option Content) → repo ≡ b.repo → (seen : List ListedNode) → IfSome b.nodes (λ f. IsTreeListing f seen) → (files : List FileEntry) (now : List LinkState) (mid : List Lost) → Left [] b.used [] mid now → length b.used < 2 ^ 32
        → (e : BackupFault) → MakingCause b.stanza o seen list files b.least (StatesSecond b.stanza list repo) now mid e → CauseBy b (IsDraftOf b o) e ⊎ DigestCause b e
    made_takes repo same seen listing files now mid left few e (inl (inl h)) = inl (draft_takes b (IsDraftOf b o) seen listing (StatesSecond b.stanza list repo)
        (λ second s. has_second b archive backup is_archive is_backup second
        (states_as b.stanza b.repo second (backup_info_of backup) list (same_backups (archive_info_of archive) (backup_info_of backup) list settles)
        (subst (λ (r : Option Content). StatesSecond b.stanza list r second) same s))) e h)
    made_takes repo same seen listing files now mid left few e (inl (inr h)) = equal_takes seen listing files now mid left few e h
    made_takes repo same seen listing files now mid left few e (inr h) =
        let first = left_is [] b.used [] mid now left in
        inl (offline_takes b (IsDraftOf b o) h.draft (offline_draft seen listing files h.second now h.draft h.is h.later) h.now h.lost
        (left_twice b.used now h.now mid h.lost first h.left) few e h.cause)

-- ---- which object failed

pub either_on : (repo clock later past : Type 0) → (repo → later) → (clock → past) → (o : Object) → Either repo clock o → Either later past o
either_on repo clock later past to_repo to_clock objects.Repo h = to_repo h
either_on repo clock later past to_repo to_clock objects.Spool h = absurd h
either_on repo clock later past to_repo to_clock objects.TheDataFolder h = absurd h
either_on repo clock later past to_repo to_clock objects.Server h = absurd h
either_on repo clock later past to_repo to_clock objects.Others h = absurd h
either_on repo clock later past to_repo to_clock objects.Clock h = to_clock h
either_on repo clock later past to_repo to_clock objects.Locks h = absurd h
either_on repo clock later past to_repo to_clock objects.Config h = absurd h
either_on repo clock later past to_repo to_clock objects.Output h = absurd h

pub only_repo : (rose repo tree clock : Type 0) → (rose → repo) → (o : Object) → Only objects.Repo rose o → Any repo tree clock o
only_repo rose repo tree clock to o h = subst (Any repo tree clock) (sym h.0) (to h.1)
