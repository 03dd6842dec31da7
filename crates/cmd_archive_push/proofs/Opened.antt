-- A file that was opened, and what storing it does and answers; and why it isn't opened.
use Rattle.std.proofs.Common.{◌≡◌, ◌∙◌, ⊎_elim, ℕ, [], ◌∷◌, ◌<◌, ◌^◌, Option, Some, Result, refl, subst}
use Rattle.std.specs.Prelude.{IfSome, IsSome, IsSomeAnd, IfErr, IsErrAnd, string_bytes}
use Rattle.sha1.specs.Sha1.{sha1}
use Rattle.base_text.proofs.Digests.{IsSum-sha1}
use Rattle.base_devices.specs.Content.{Content, put}
use Rattle.base_devices.specs.Crash.{Alike, FirstOf, IsAlikeAt}
use Rattle.base_devices.specs.Moments.{View}
use Rattle.base_devices.specs.DataFolder.{Nodes, known_path}
use Rattle.base_model.specs.declared.clusters.ClusterId.{ClusterId}
use Rattle.base_model.specs.declared.wal.ArchiveId.{ArchiveId}
use Rattle.base_model.specs.declared.wal.ArchiveName.{ArchiveName}
use Rattle.base_model.specs.Text.{Text}
use Rattle.base_model.specs.Fields.{at_number}
use Rattle.base_model.specs.Names.{archive_info, wal_text}
use Rattle.base_model.specs.Represents.{IsArchiveFile}
use Rattle.base_model.specs.Steps.{Command}
use Rattle.base_model.specs.Values.{ArchiveInfo}
use Rattle.base_model.specs.Walks.{IsSynced}
use Rattle.base_model.proofs.Frame.{AgreesPast, past_alike, past_past}
use Rattle.base_model.proofs.Healed.{put_past}
use Rattle.base_model.proofs.Walking.{crash_walks}
use Rattle.repo_pair.specs.Member.{IsMember}
use Rattle.repo_stanza.specs.declared.control.Control.{Control}
use Rattle.repo_stanza.specs.Pairs.{identity_kept, identity_known}
use Rattle.archive_lookup.specs.Causes.{limit_of}
use Rattle.archive_store.specs.declared.fault.PushFault.{PushFault as StoreFault}
use Rattle.archive_store.specs.declared.pushing.Pushed.{Pushed}
use Rattle.archive_lookup.specs.Stored.{archive_path}
use Rattle.archive_store.specs.Pushes.{IsPathOf, LeavesPart, LeavesAll, Writes, Leaves, LeavesFile}
use Rattle.base_text.specs.declared.sum.Sum.{Sum}
use Rattle.archive_store.specs.Pushing.{IsPushedAs, PushFromCause}
use Rattle.cmd_types.specs.declared.stages.plan.SyncScope.TheVariants.{Looked}
use Rattle.cmd_types.specs.declared.stages.object.Object.TheVariants.{TheDataFolder}
use Rattle.cmd_types.specs.declared.stages.halt.Halt.{Halt}
use Rattle.cmd_types.specs.Cluster.{FolderShows}
use Rattle.cmd_types.specs.Current.{HasValue, AgreesAtPair, id_kept}
use Rattle.cmd_types.specs.Halts.{HaltCause, Only}
use Rattle.cmd_types.specs.Risen.{none, rose_in}
use Rattle.cmd_types.specs.DisksEffect.{DoesPart, DoesWhole}
use Rattle.cmd_archive_push.specs.declared.fault.PushFault.{PushFault}
use Rattle.cmd_archive_push.specs.declared.log_file.LogFile.{LogFile}
use Rattle.cmd_archive_push.specs.declared.order.PushOrder.{PushOrder}
use Rattle.cmd_archive_push.specs.Causes.{IsCurrent, PushCause, IsStored, IsLasting}
use Rattle.cmd_archive_push.specs.Commands.{IsPushOf}
use Rattle.cmd_archive_push.specs.Faults.{of_store}
use Rattle.cmd_archive_push.specs.LogFile.{known_file, IsOpened}
use Rattle.cmd_archive_push.specs.Outcomes.{pushed_lines}
use Rattle.cmd_archive_push.specs.WalPath.{HasWal, wal_path}
use Rattle.cmd_archive_push.specs.WalCause.{FileCause}
use Rattle.cmd_archive_push.proofs.Doings.{as_err}
use Rattle.cmd_archive_push.proofs.Logged.{opened_there, known_bytes, read_bytes}
use Rattle.cmd_archive_push.proofs.Stores.{stores_part, stores_whole, agrees_on, members_on, current_on}
use Rattle.cmd_archive_push.proofs.StoreCauses.{file_of, is_current, file_ends, halt_ends, stored_as}

module _ (stanza : Text) (order : PushOrder) (nodes : Option Nodes) (log : LogFile)
    (opened : IsOpened nodes (wal_path (wal_text order.name)) log) (id : ArchiveId) where
  abbrev place : Text
  place = known_path log.what

  has : (bytes : Text) → IfSome (known_file nodes place) (λ b. b ≡ bytes)
      → IfSome nodes (λ f. HasWal f order.folder.now order.path.now order.name bytes)
  has bytes is = read_bytes order.folder.now order.path.now order.name order.named place opened.lies nodes
      (opened_there nodes log (wal_path (wal_text order.name)) opened) bytes is

  known : (command : Command) → IsSomeAnd nodes (λ f. IsPushOf f order.folder.now order.path.now command)
      → (bytes : Text) × (known_file nodes place ≡ Some bytes)
      × IfSome nodes (λ f. HasWal f order.folder.now order.path.now order.name bytes)
  known command asked = known_bytes order.folder.now order.path.now order.name order.named place opened.lies
      (λ f. IsPushOf f order.folder.now order.path.now command) nodes
      (opened_there nodes log (wal_path (wal_text order.name)) opened) asked

  module _ (system : Control) (old new : View)
      (at : (c : ClusterId) × (id ≡ id_kept c) × IsCurrent stanza old.now nodes system c)
      (leaves : Leaves stanza id order.name (known_file nodes (known_path log.what)) old new) where
    of_known : (P : Text → Type 0) (bytes : Text) → known_file nodes place ≡ Some bytes → IfSome (known_file nodes place) P
        → P bytes
    of_known P bytes is h = subst (λ (o : Option Text). IfSome o P) is h

    pub opened_part : (command : Command) → IsSomeAnd nodes (λ f. IsPushOf f order.folder.now order.path.now command)
        → DoesPart Looked stanza command old new
    opened_part command asked =
        let b = known command asked in
        stores_part stanza order.folder.now order.path.now nodes order.name b.0 b.2 id at.0 at.1 old new at.2.current
        command asked (of_known (λ t. LeavesPart stanza id order.name t old new) b.0 b.1 leaves.part)

    pub opened_whole : LeavesFile stanza id order.name (known_file nodes (known_path log.what)) old new
        → (command : Command) → IsSomeAnd nodes (λ f. IsPushOf f order.folder.now order.path.now command)
        → DoesWhole Looked stanza command old new
    opened_whole file command asked =
        let b = known command asked in
        stores_whole stanza order.folder.now order.path.now nodes order.name b.0 b.2 id at.0 at.1 old new at.2.current
        command asked (of_known (λ t. LeavesPart stanza id order.name t old new) b.0 b.1 leaves.part)
        (of_known (λ t. LeavesAll stanza id order.name t old new) b.0 b.1 file.all)

    -- all that a crash leaves has the same at the file's paths
    pub opened_lasts : (id.version < 2 ^ 32) × (id.number < 2 ^ 32)
        → LeavesFile stanza id order.name (known_file nodes (known_path log.what)) old new
        → IsSynced stanza old → IsSome old.now → IsLasting stanza order.folder.now order.path.now new
    opened_lasts fits file synced some = let w = leaves.writes in record {
      wal = order.name;
      named = order.named;
      current = at.0;
      has = current_on stanza (archive_path stanza id order.name (sha1 w.0)) w.0 at.0 old.now new.now
          (file_of stanza id order.name (sha1 w.0) fits order.named.fits (IsSum-sha1 w.0)) w.2.now at.2.current some;
      alike = subst (λ (i : ArchiveId). IsAlikeAt (IsPathOf stanza i order.name) new) at.1 (file.alike synced some);
    }

  module _ (system : Control) (repo now : Option Content)
      (at : (c : ClusterId) × (id ≡ id_kept c) × IsCurrent stanza repo nodes system c) (first : Text) (count : ℕ) where
    pub opened_ends : (d t : Type 0) (h : Halt PushFault) (e : StoreFault) → h ≡ of_store e
        → PushFromCause stanza id order.name system.system
        (known_file nodes (known_path log.what)) first count repo d t e
        → HaltCause (PushCause stanza order.folder.now order.path.now repo nodes)
        (rose_in (record none { repo = d; tree = t })) h
    opened_ends d t h e is cause = halt_ends stanza order.folder.now order.path.now repo nodes d t order.name
        order.named system at.0 at.2 id at.1 (known_file nodes place) first count has h e is cause

    pub opened_stored : (lines : Text) (pushed : Pushed) (sum : Sum) → lines ≡ pushed_lines pushed (wal_text order.name)
        → IsPushedAs stanza id order.name system.system
        (known_file nodes (known_path log.what)) first count repo now pushed sum
        → IsStored stanza order.folder.now order.path.now nodes repo now lines
    opened_stored lines pushed sum is answered =
        stored_as stanza order.folder.now order.path.now repo nodes ⊥ ⊥ order.name order.named system at.0 at.2 id at.1
        (known_file nodes place) first count has lines pushed sum now is answered

-- the pair's members stay unchanged
module _ (stanza : Text) (order : PushOrder) (id : ArchiveId) (fits : (id.version < 2 ^ 32) × (id.number < 2 ^ 32))
    (model : Option Text) (old new : View)
    (w : (bytes : Text) × IfSome model (λ b. b ≡ bytes) × Writes stanza id order.name bytes old new) where
  file : IsArchiveFile stanza (archive_path stanza id order.name (sha1 w.0))
  file = file_of stanza id order.name (sha1 w.0) fits order.named.fits (IsSum-sha1 w.0)

  pub opened_agrees : IfSome old.now (AgreesAtPair stanza) → IsSome old.now → IfSome new.now (AgreesAtPair stanza)
  opened_agrees agrees some =
      agrees_on stanza (archive_path stanza id order.name (sha1 w.0)) w.0 old.now new.now file w.2.now some agrees

  pub opened_alike : IsSynced stanza old → IsSome old.now → IsAlikeAt (IsMember (archive_info stanza)) old
      → IsAlikeAt (IsMember (archive_info stanza)) new
  opened_alike synced some alike =
      members_on stanza (archive_path stanza id order.name (sha1 w.0)) w.0 old new file (w.2.crash synced some) some alike

-- and so does what is synced
module _ (stanza : Text) (id : ArchiveId) (name : ArchiveName) (bytes : Text) (old new : View)
    (w : Writes stanza id name bytes old new) where
  abbrev path : Text
  path = archive_path stanza id name (sha1 bytes)

  past : (f g : Content) → FirstOf ((path, bytes) ∷ []) f g → AgreesPast stanza f g
  past f g k = ⊎_elim (λ (a : Alike f g). past_alike stanza f g a)
      (λ (a : Alike (put path (Some bytes) f) g). past_past stanza f (put path (Some bytes) f) g
      (put_past stanza path bytes f refl) (past_alike stanza (put path (Some bytes) f) g a)) k

  pub written_synced : IsSynced stanza old → IsSome old.now → IsSynced stanza new
  written_synced synced some = (crash_walks stanza (FirstOf ((path, bytes) ∷ [])) old new synced some
      (w.crash synced some) past (λ f g. Unit {0}) (λ f g leaves k. tt)).synced

-- the file isn't there, or it is too long
pub unopened_ends : (stanza : Text) (order : PushOrder) (repo : Option Content) (nodes : Option Nodes) (known : Control)
    (id : ArchiveId) (v : ArchiveInfo) → IfSome nodes (λ f. FolderShows f known) → IfSome repo (λ f. HasValue stanza f v)
    → (c : ClusterId) × (at_number v.current v.history ≡ Some c) × (id ≡ id_kept c)
    × (identity_kept c ≡ identity_known known) → (d t : Type 0) (name : Text) (limit : ℕ)
    → name ≡ string_bytes order.text → limit ≡ limit_of order.name
    → {T : Type 0} (result : Result T (Halt PushFault)) (h : Halt PushFault) → IsErrAnd result (λ k. k ≡ h)
    → HaltCause (FileCause order.path.now name limit nodes) (Only TheDataFolder t) h
    → IfErr result (HaltCause (PushCause stanza order.folder.now order.path.now repo nodes)
    (rose_in (record none { repo = d; tree = t })))
unopened_ends stanza order repo nodes known id v shows has at d t name limit is most result h ended cause =
    let x = is_current stanza v repo nodes known id shows has at in
    as_err result h _ ended (file_ends stanza order.folder.now order.path.now repo nodes d t order.name order.named known
    x.0 x.2 name limit (is ∙ order.spelled) most h cause)
