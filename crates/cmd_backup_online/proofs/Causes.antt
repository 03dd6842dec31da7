-- Why a running server's backup is refused, from what was there before.
use Rattle.std.proofs.Common.{◌≡◌, inl, inr, ◌<◌, ◌^◌, List, [], Option, Some, None, true, refl, sym, ◌∙◌, ap, subst, length, string_bytes}
use Rattle.std.specs.Prelude.{IfSome}
use Rattle.base_devices.specs.Content.{Content}
use Rattle.base_devices.specs.Links.{LinkState}
use Rattle.base_devices.specs.Moments.{View}
use Rattle.base_devices.specs.DataFolder.{Nodes, IsTreeListing}
use Rattle.base_model.specs.declared.clusters.ArchiveInfo as rust_archive_info
use Rattle.base_model.specs.declared.clusters.BackupInfo as rust_backup_info
use Rattle.base_model.specs.declared.labels.BackupKind.{BackupKind}
use Rattle.base_model.specs.declared.wal.ArchiveId.{ArchiveId}
use Rattle.base_model.specs.declared.wal.WalPart.{WalPart}
use Rattle.base_model.specs.Fields.{at_number}
use Rattle.base_model.specs.InfoFiles.{IsBackupText}
use Rattle.base_model.specs.Names.{backup_info}
use Rattle.base_model.specs.Pair.{PairIs}
use Rattle.base_model.specs.Repository.{id_of}
use Rattle.base_model.specs.Values.{BackupInfo, FileEntry, archive_info_of, backup_info_of}
use Rattle.backup_sink.specs.declared.keeper.EndedItem.{EndedItem}
use Rattle.worker_pool.specs.declared.dispatch.fault.Lost.{Lost}
use Rattle.worker_pool.specs.Run.{Left}
use Rattle.worker_pool.specs.Left.{IsLeft}
use Rattle.backup_plan.specs.Filter.{ListedNode, kept, files_of, Takes}
use Rattle.cmd_types.specs.Current.{HasValue}
use Rattle.repo_stanza.specs.Causes.{HistoriesDiffer, HasOther}
use Rattle.repo_stanza.specs.Judging.{Validates}
use Rattle.backup_make.specs.declared.draft.Draft.{Draft}
use Rattle.backup_make.specs.Draft.{taken_in, folders_in, jobs_in, list_in}
use Rattle.backup_make.specs.Faults.{WhereDone}
use Rattle.backup_make.specs.Online.{Online}
use Rattle.backup_make.specs.Staged.{IsStaged}
use Rattle.cmd_types.specs.declared.stages.object.Object.{Object}
use Rattle.cmd_types.specs.declared.stages.object.Object.TheVariants as objects
use Rattle.cmd_types.specs.declared.stages.halt.Halt.{Halt}
use Rattle.cmd_types.specs.declared.stages.halt.Halt.TheVariants.{Refused, Failed, NoMemory}
use Rattle.cmd_types.specs.Halts.{HaltCause}
use Rattle.cmd_types.specs.Risen.{none, rose_in}
use Rattle.cmd_setup.specs.Readies.{IsArchiveOf, IsBackupOf}
use Rattle.cmd_backup_common.specs.declared.parts.fault.BackupFault.{BackupFault}
use Rattle.cmd_backup_common.specs.declared.parts.fault.BackupFault.TheVariants as takes
use Rattle.cmd_backup_common.specs.Causes.{SettlesTo, IsFull}
use Rattle.cmd_backup_common.specs.Seconds.{StatesSecond}
use Rattle.cmd_backup_common.proofs.Causes.{if_as, of_pairs, has_second}
use Rattle.cmd_backup_common.proofs.Links.{Comes, left_comes, where_done, unread_used, all_used_lost, within_count}
use Rattle.cmd_backup_offline.specs.declared.fault.OfflineFault.{OfflineFault}
use Rattle.cmd_backup_offline.specs.declared.fault.OfflineFault.TheVariants as laters
use Rattle.cmd_backup_offline.specs.declared.order.OfflineOrder.{OfflineOrder}
use Rattle.cmd_backup_offline.specs.Basing.{base_label}
use Rattle.cmd_backup_offline.specs.Equal.{CannotDigest, EqualCause}
use Rattle.cmd_backup_offline.proofs.Causes.{base_takes}
use Rattle.cmd_backup_offline.proofs.Left.{all_left_lost, undigested_used}
use Rattle.cmd_backup_online.specs.declared.fault.OnlineBackupFault.{OnlineBackupFault}
use Rattle.cmd_backup_online.specs.declared.fault.OnlineBackupFault.TheVariants as faults
use Rattle.cmd_backup_online.specs.Causes.{Asked, IsRunningDraft, RunningCause, OnlineCause}
use Rattle.cmd_backup_online.specs.Drafting.{IsDraftFrom, ListingCause, UndraftedCause}
use Rattle.cmd_backup_online.specs.Faults.{of_offline}
use Rattle.cmd_backup_online.specs.Finishing.{OfTake, PublishCause, VainCause}
use Rattle.cmd_backup_online.specs.Gathering.{GatherCause, FetchCause}
use Rattle.cmd_backup_online.specs.Preparing.{SecondCause, PrepareCause}
use Rattle.cmd_backup_online.specs.Talking.{SpokenCause}
use Rattle.cmd_backup_online.specs.Modelled.{ShowsOnline}
use Rattle.cmd_backup_online.proofs.Gatherings.{left_following, comes_after}

-- ---- which object failed

abbrev pub All : Type 0 → Type 0 → Type 0 → Type 0 → Type 0 → Object → Type 0
All repo spool tree server clock = rose_in (record none { repo = repo; spool = spool; tree = tree; server = server; clock = clock })

pub in_all : (r s t v c r2 s2 t2 v2 c2 : Type 0) → (r → r2) → (s → s2) → (t → t2) → (v → v2) → (c → c2) → (o : Object) → All r s t v c o → All r2 s2 t2 v2 c2 o
in_all r s t v c r2 s2 t2 v2 c2 fr fs ft fv fc objects.Repo h = fr h
in_all r s t v c r2 s2 t2 v2 c2 fr fs ft fv fc objects.Spool h = fs h
in_all r s t v c r2 s2 t2 v2 c2 fr fs ft fv fc objects.TheDataFolder h = ft h
in_all r s t v c r2 s2 t2 v2 c2 fr fs ft fv fc objects.Server h = fv h
in_all r s t v c r2 s2 t2 v2 c2 fr fs ft fv fc objects.Others h = absurd h
in_all r s t v c r2 s2 t2 v2 c2 fr fs ft fv fc objects.Clock h = fc h
in_all r s t v c r2 s2 t2 v2 c2 fr fs ft fv fc objects.Locks h = absurd h
in_all r s t v c r2 s2 t2 v2 c2 fr fs ft fv fc objects.Config h = absurd h
in_all r s t v c r2 s2 t2 v2 c2 fr fs ft fv fc objects.Output h = absurd h

-- a halt that a stopped server's backup may have
pub of_offline_as : (P : OfflineFault → Type 0) (Q : OnlineBackupFault → Type 0) (F G : Object → Type 0) → ((e : OfflineFault) → P e → Q (faults.Take e)) → ((o : Object) → F o → G o) → (h : Halt OfflineFault) → HaltCause P F h → HaltCause Q G (of_offline h)
of_offline_as P Q F G to failed (Refused e) h = to e h
of_offline_as P Q F G to failed (Failed o) h = failed o h
of_offline_as P Q F G to failed NoMemory h = tt

-- ---- refusals

module _ (x : Asked) (o : OfflineOrder) (kind_is : o.kind ≡ x.kind) (archive : rust_archive_info.ArchiveInfo) (backup : rust_backup_info.BackupInfo) (is_archive : IsArchiveOf x.before.stanza x.before.repo archive) (is_backup : IsBackupOf x.before.stanza x.before.repo backup) where
  pairs_of : (P : Content → Type 0) → ((f : Content) → HasValue x.before.stanza f (archive_info_of archive) → PairIs IsBackupText f (backup_info x.before.stanza) (backup_info_of backup) → P f) → IfSome x.before.repo P
  pairs_of P to = of_pairs x.before archive backup is_archive is_backup P to

  -- before the server was asked
  second_takes : (e : BackupFault) → SecondCause x.before.known (archive_info_of archive) (backup_info_of backup) x.before.least (StatesSecond x.before.stanza (backup_info_of backup) x.before.repo) x.before.used e → RunningCause x e
  second_takes (takes.HistoryDiffers at) h = pairs_of (λ f. HistoriesDiffer x.before.stanza f at) (λ f p q. record {
    archive = archive_info_of archive;
    backup = backup_info_of backup;
    pairs = record { archive = p; backup = q };
    differ = h.0;
    settled = h.1;
  })
  second_takes (takes.StanzaMismatch kept found) h = pairs_of (λ f. HasOther x.before.stanza x.before.known f kept found) (λ f p q. record {
    archive = archive_info_of archive;
    backup = backup_info_of backup;
    pairs = record { archive = p; backup = q };
    together = h.0;
    current = h.3.0;
    is_current = h.3.1;
    is_kept = h.3.2;
    is_found = h.2;
    apart = h.1;
  })
  second_takes takes.Running h = absurd h
  second_takes (takes.TooMany limit) h = inl (h.0, pairs_of (IsFull x.before.stanza) (λ f p q. (backup_info_of backup, q, h.1)))
  second_takes (takes.WorkersLost lost) h = h
  second_takes (takes.ClockBehind latest now) h = (h.0, h.1, has_second x.before archive backup is_archive is_backup latest h.2)
  second_takes (takes.LinkFound path) h = absurd h
  second_takes (takes.NameRefused path) h = absurd h
  second_takes takes.ListingUnordered h = absurd h
  second_takes (takes.ControlMissing path) h = absurd h
  second_takes (takes.Unread path) h = absurd h
  second_takes (takes.TooLong name limit) h = absurd h

  pub prepare_takes : (e : OfflineFault) → PrepareCause x.before.stanza o.kind x.before.known (archive_info_of archive) (backup_info_of backup) x.before.repo x.before.least x.before.used e → OnlineCause x (faults.Take e)
  prepare_takes (laters.Take e) h = second_takes e h
  prepare_takes (laters.PriorDamaged text main copy) h = (o, kind_is, base_takes x.before o archive backup is_archive is_backup h.0 h.1 (laters.PriorDamaged text main copy) h.2)

  module _ (list : BackupInfo) (settles : Validates (archive_info_of archive) (backup_info_of backup) list) (files : List FileEntry) where
    -- a draft of the folder that was listed
    pub running_draft : (d : Draft) → IsDraftFrom x.before.stanza o x.before.nodes list files d → IsRunningDraft x.before x.kind d
    running_draft d from = record {
      is = from.is_draft;
      stanza_is = from.later.stanza_is;
      prior = subst (λ (w : BackupInfo). d.prior ≡ base_label x.kind w) (sym from.later.list_is) (from.later.prior ∙ ap (λ (k : BackupKind). base_label k list) kind_is);
      takes = if_as (λ f. IsTreeListing f from.seen) (λ f. (ns : List ListedNode) × IsTreeListing f ns × Takes true ns (taken_in d) (folders_in d)) x.before.nodes from.listing (λ f l. (from.seen, l, from.later.takes));
      list = pairs_of (SettlesTo x.before.stanza (list_in d)) (λ f p q. record {
        archive = archive_info_of archive;
        backup = backup_info_of backup;
        pairs = record { archive = p; backup = q };
        settles = subst (λ (w : BackupInfo). Validates (archive_info_of archive) (backup_info_of backup) w) (sym from.later.list_is) settles;
      });
      current = subst (λ (w : BackupInfo). at_number w.current w.history ≡ Some d.cluster) (sym from.later.list_is) from.later.current;
    }

    module _ (now : List LinkState) (mid : List Lost) (l : Left [] x.before.used [] mid now) (few : length x.before.used < 2 ^ 32) where
      none_shows : (seen : List ListedNode) (nodes : Option Nodes) → IfSome nodes (λ f. IsTreeListing f seen) → ((f : Nodes) → ¬ IsTreeListing f seen) → nodes ≡ None
      none_shows seen None listing not = refl
      none_shows seen (Some f) listing not = absurd (not f listing)

      shows : (seen : List ListedNode) → IfSome x.before.nodes (λ f. IsTreeListing f seen) → (P : List ListedNode → Type 0) → P seen → IfSome x.before.nodes (λ f. (ns : List ListedNode) × IsTreeListing f ns × P ns)
      shows seen listing P p = if_as (λ f. IsTreeListing f seen) (λ f. (ns : List ListedNode) × IsTreeListing f ns × P ns) x.before.nodes listing (λ f t. (seen, t, p))

      listing_takes : (seen : List ListedNode) → IfSome x.before.nodes (λ f. IsTreeListing f seen) → (e : BackupFault) → ListingCause seen e → RunningCause x e
      listing_takes seen listing (takes.HistoryDiffers at) h = absurd h
      listing_takes seen listing (takes.StanzaMismatch kept found) h = absurd h
      listing_takes seen listing takes.Running h = absurd h
      listing_takes seen listing (takes.TooMany limit) h = inr (shows seen listing (λ ns. ListingCause ns (takes.TooMany limit)) h)
      listing_takes seen listing (takes.WorkersLost lost) h = absurd h
      listing_takes seen listing (takes.ClockBehind latest second) h = absurd h
      listing_takes seen listing (takes.LinkFound path) h = shows seen listing (λ ns. ListingCause ns (takes.LinkFound path)) h
      listing_takes seen listing (takes.NameRefused path) h = shows seen listing (λ ns. ListingCause ns (takes.NameRefused path)) h
      listing_takes seen listing takes.ListingUnordered h = none_shows seen x.before.nodes listing h
      listing_takes seen listing (takes.ControlMissing path) h = inl (shows seen listing (λ ns. ListingCause ns (takes.ControlMissing path)) h)
      listing_takes seen listing (takes.Unread path) h = absurd h
      listing_takes seen listing (takes.TooLong name limit) h = absurd h

      -- the digests weren't reported
      equal_takes : (seen : List ListedNode) → IfSome x.before.nodes (λ f. IsTreeListing f seen) → (e : BackupFault) → EqualCause now mid files (files_of (kept true seen)) e → RunningCause x e
      equal_takes seen listing (takes.HistoryDiffers at) h = absurd h
      equal_takes seen listing (takes.StanzaMismatch kept found) h = absurd h
      equal_takes seen listing takes.Running h = absurd h
      equal_takes seen listing (takes.TooMany limit) h = absurd h
      equal_takes seen listing (takes.WorkersLost lost) h = all_used_lost h.jobs x.before.used now mid h.after l h.all lost (within_count h.jobs x.before.used now mid h.after l h.all lost (2 ^ 32) h.count few)
      equal_takes seen listing (takes.ClockBehind latest second) h = absurd h
      equal_takes seen listing (takes.LinkFound path) h = absurd h
      equal_takes seen listing (takes.NameRefused path) h = absurd h
      equal_takes seen listing takes.ListingUnordered h = absurd h
      equal_takes seen listing (takes.ControlMissing path) h = absurd h
      equal_takes seen listing (takes.Unread path) h = inr (shows seen listing (λ ns. (es : List FileEntry) × CannotDigest x.before.used es (files_of (kept true ns)) (string_bytes path))
          (files, undigested_used x.before.used now (left_comes x.before.used now [] mid l) files (files_of (kept true seen)) (string_bytes path) h))
      equal_takes seen listing (takes.TooLong name limit) h = absurd h

      undrafted_takes : (seen : List ListedNode) → IfSome x.before.nodes (λ f. IsTreeListing f seen) → (e : BackupFault) → UndraftedCause seen now mid files e → RunningCause x e
      undrafted_takes seen listing e (inl h) = listing_takes seen listing e h
      undrafted_takes seen listing e (inr h) = equal_takes seen listing e h

      module _ (following : List LinkState) (lost : List Lost) (left : IsLeft now following mid lost) where
        comes : Comes x.before.used following
        comes = comes_after x.before.used now following mid lost l left

        fetch_takes : (d : Draft) → IsDraftFrom x.before.stanza o x.before.nodes list files d → (e : BackupFault) → FetchCause d following lost e → RunningCause x e
        fetch_takes d from (takes.HistoryDiffers at) h = absurd h
        fetch_takes d from (takes.StanzaMismatch kept found) h = absurd h
        fetch_takes d from takes.Running h = absurd h
        fetch_takes d from (takes.TooMany limit) h = absurd h
        fetch_takes d from (takes.WorkersLost n) h = all_left_lost (jobs_in d) x.before.used following lost h.after (left_following x.before.used now following mid lost l left) h.all n h.count few
        fetch_takes d from (takes.ClockBehind latest second) h = absurd h
        fetch_takes d from (takes.LinkFound path) h = absurd h
        fetch_takes d from (takes.NameRefused path) h = absurd h
        fetch_takes d from takes.ListingUnordered h = absurd h
        fetch_takes d from (takes.ControlMissing path) h = absurd h
        fetch_takes d from (takes.Unread path) h = inl (d, running_draft d from, unread_used x.before.used following comes d path h)
        fetch_takes d from (takes.TooLong name limit) h = absurd h

      gather_takes : (e : BackupFault) → GatherCause x.before.stanza o x.before.nodes list files now mid e → RunningCause x e
      gather_takes e (inl h) = undrafted_takes h.0 h.1 e h.2
      gather_takes e (inr h) = fetch_takes h.now h.lost h.left h.draft h.from e h.cause

      -- in the talk
      pub spoken_takes : (e : OnlineBackupFault) → SpokenCause x.before.stanza o x.before.nodes list files now mid x.received_reply.system x.received_reply.pending x.received_reply.left e → OnlineCause x e
      spoken_takes (faults.Take (laters.Take e)) h = gather_takes e h
      spoken_takes (faults.Take (laters.PriorDamaged text main copy)) h = absurd h
      spoken_takes (faults.Server f) h = h
      spoken_takes faults.TablespaceMap h = h
      spoken_takes (faults.SpanWrong start stop) h = h
      spoken_takes (faults.NotArrived s n) h = absurd h
      spoken_takes (faults.Ambiguous f s) h = absurd h

      -- after it
      module _ (d : Draft) (from : IsDraftFrom x.before.stanza o x.before.nodes list files d) (online : Online) (known : ShowsOnline x.received_reply.system x.received_reply.pending x.received_reply.left online) where
        in_part : (id : ArchiveId) → id ≡ id_of d.cluster → (w : WalPart) → w ≡ online.part → (e : OnlineBackupFault) → VainCause x.before.stanza id w x.most x.now x.turns x.turned e → VainCause x.before.stanza (id_of d.cluster) online.part x.most x.now x.turns x.turned e
        in_part id id_is w part_is e h =
            subst (λ (i : ArchiveId). VainCause x.before.stanza i online.part x.most x.now x.turns x.turned e) id_is
            (subst (λ (p : WalPart). VainCause x.before.stanza id p x.most x.now x.turns x.turned e) part_is h)

        pub vain_takes : (id : ArchiveId) → id ≡ id_of d.cluster → (w : WalPart) → w ≡ online.part → (e : OnlineBackupFault) → VainCause x.before.stanza id w x.most x.now x.turns x.turned e → OnlineCause x e
        vain_takes id id_is w part_is (faults.Take e) h = absurd h
        vain_takes id id_is w part_is (faults.Server f) h = absurd h
        vain_takes id id_is w part_is faults.TablespaceMap h = absurd h
        vain_takes id id_is w part_is (faults.SpanWrong start stop) h = absurd h
        vain_takes id id_is w part_is (faults.NotArrived s n) h = (d, running_draft d from, (online, known, in_part id id_is w part_is (faults.NotArrived s n) h))
        vain_takes id id_is w part_is (faults.Ambiguous f s) h = (d, running_draft d from, (online, known, in_part id id_is w part_is (faults.Ambiguous f s) h))

        module _ (following : List LinkState) (lost : List Lost) (left : IsLeft now following mid lost) (ends : List (List EndedItem)) (c : View) (staged : IsStaged d None following ends c) where
          done : (P : List (List EndedItem) → Type 0) → P ends → WhereDone d x.before.used P
          done P p = where_done x.before.used following (comes following lost left) d P (ends, record { kept = staged.stored.kept; received = staged.stored.received; are = staged.stored.are }, p)

          publish_runs : (e : BackupFault) → PublishCause d (Some online) ends e → RunningCause x e
          publish_runs (takes.HistoryDiffers at) h = absurd h
          publish_runs (takes.StanzaMismatch kept found) h = absurd h
          publish_runs takes.Running h = absurd h
          publish_runs (takes.TooMany limit) h = absurd h
          publish_runs (takes.WorkersLost lost) h = absurd h
          publish_runs (takes.ClockBehind latest second) h = absurd h
          publish_runs (takes.LinkFound path) h = absurd h
          publish_runs (takes.NameRefused path) h = absurd h
          publish_runs takes.ListingUnordered h = absurd h
          publish_runs (takes.ControlMissing path) h = inr (d, running_draft d from, (online, known, done (λ es. PublishCause d (Some online) es (takes.ControlMissing path)) h))
          publish_runs (takes.Unread path) h = absurd h
          publish_runs (takes.TooLong name limit) h = (d, running_draft d from, (online, known, done (λ es. PublishCause d (Some online) es (takes.TooLong name limit)) h))

          pub publish_takes : (e : OnlineBackupFault) → OfTake (PublishCause d (Some online) ends) e → OnlineCause x e
          publish_takes (faults.Take (laters.Take e)) h = publish_runs e h
          publish_takes (faults.Take (laters.PriorDamaged text main copy)) h = absurd h
          publish_takes (faults.Server f) h = absurd h
          publish_takes faults.TablespaceMap h = absurd h
          publish_takes (faults.SpanWrong start stop) h = absurd h
          publish_takes (faults.NotArrived s n) h = absurd h
          publish_takes (faults.Ambiguous f s) h = absurd h
