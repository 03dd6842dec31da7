-- Why a file isn't stored, and what is reported where it is.
use Rattle.std.proofs.Common.{◌≡◌, ◌⊎◌, inl, inr, ℕ, ◌<◌, ◌^◌, [], Option, Some, None, refl, sym, subst}
use Rattle.std.specs.Prelude.{IfSome}
use Rattle.base_text.specs.Sum.{IsSum}
use Rattle.base_devices.specs.Content.{Content}
use Rattle.base_devices.specs.DataFolder.{Nodes}
use Rattle.base_model.specs.declared.clusters.ClusterId.{ClusterId}
use Rattle.base_model.specs.declared.wal.ArchiveId.{ArchiveId}
use Rattle.base_model.specs.declared.wal.ArchiveName.{ArchiveName}
use Rattle.base_model.specs.Fields.{at_number}
use Rattle.base_model.specs.Text.{Text}
use Rattle.base_model.specs.Names.{wal_text}
use Rattle.base_model.specs.Represents.{IsArchiveFile, IsWalName}
use Rattle.base_model.specs.Values.{ArchiveInfo}
use Rattle.repo_stanza.specs.declared.control.Control.{Control}
use Rattle.repo_stanza.specs.Pairs.{identity_kept, identity_known}
use Rattle.archive_lookup.specs.declared.stored.fault.ArchiveFault.{ArchiveFault}
use Rattle.archive_lookup.specs.declared.stored.fault.ArchiveFault.TheVariants as archive
use Rattle.archive_store.specs.declared.fault.PushFault.{PushFault as StoreFault}
use Rattle.archive_store.specs.declared.fault.PushFault.TheVariants.{Archive, Source}
use Rattle.archive_store.specs.declared.pushing.Pushed.{Pushed}
use Rattle.archive_store.specs.declared.pushing.Pushed.TheVariants.{New, Same}
use Rattle.archive_lookup.specs.Stored.{archive_path}
use Rattle.base_text.specs.declared.sum.Sum.{Sum}
use Rattle.archive_store.specs.Pushing.{IsPushedAs, PushFromCause}
use Rattle.archive_lookup.specs.Causes.{IsFileOf, limit_of, PushCause as StoringCause}
use Rattle.cmd_types.specs.declared.stages.object.Object.TheVariants.{TheDataFolder}
use Rattle.cmd_types.specs.declared.stages.halt.Halt.{Halt}
use Rattle.cmd_types.specs.declared.stages.halt.Halt.TheVariants.{Refused, Failed, NoMemory}
use Rattle.cmd_types.specs.Cluster.{FolderShows}
use Rattle.cmd_types.specs.Current.{HasCurrent, HasValue, id_kept}
use Rattle.cmd_types.specs.Halts.{HaltCause, Only}
use Rattle.cmd_types.specs.Risen.{none, rose_in}
use Rattle.cmd_archive_push.specs.declared.fault.PushFault.{PushFault}
use Rattle.cmd_archive_push.specs.declared.fault.PushFault.TheVariants.{SegmentName, PathOutside, StanzaMismatch, SegmentMissing, TooLong, HeaderForm, SegmentSize, HeaderMismatch, Ambiguous, Duplicate}
use Rattle.cmd_archive_push.specs.Causes.{IsCurrent, IsReady, IsRefusedPush, IsRefusedFile, PushCause, IsPut, IsKept, IsStored}
use Rattle.cmd_archive_push.specs.Faults.{of_archive, of_store}
use Rattle.cmd_archive_push.specs.Outcomes.{same_line, pushed_lines}
use Rattle.cmd_archive_push.specs.WalPath.{IsWalPath, HasWal}
use Rattle.cmd_archive_push.specs.WalCause.{FileCause}

pub file_of : (stanza : Text) (id : ArchiveId) (wal : ArchiveName) (sum : Text) → (id.version < 2 ^ 32)
    × (id.number < 2 ^ 32) → IsWalName wal → IsSum sum → IsArchiveFile stanza (archive_path stanza id wal sum)
file_of stanza id wal sum fits named is_sum =
    record {
      id = id;
      file = wal;
      sum = sum;
      fits =
          record { version = fits.0; number = fits.1; fits = named; digest = is_sum };
      is = refl;
    }

-- ---- the current cluster

-- the value's current cluster is that of the disk
current_as : (stanza : Text) (v : ArchiveInfo) (c : ClusterId) → at_number v.current v.history ≡ Some c
    → (now : Option Content) → IfSome now (λ f. HasValue stanza f v) → IfSome now (λ f. HasCurrent stanza f c)
current_as stanza v c at None has = tt
current_as stanza v c at (Some f) has = (v, has, at)

pub is_current : (stanza : Text) (v : ArchiveInfo) (repo : Option Content) (nodes : Option Nodes) (known : Control)
    (id : ArchiveId) → IfSome nodes (λ f. FolderShows f known) → IfSome repo (λ f. HasValue stanza f v)
    → (c : ClusterId) × (at_number v.current v.history ≡ Some c) × (id ≡ id_kept c)
    × (identity_kept c ≡ identity_known known) → (c : ClusterId) × (id ≡ id_kept c)
    × IsCurrent stanza repo nodes known c
is_current stanza v repo nodes known id shows has x =
    (x.0, x.2, record { shows = shows; current = current_as stanza v x.0 x.1 repo has; same = x.3 })

-- ---- why it isn't stored

module _ (stanza folder path : Text) (repo : Option Content) (nodes : Option Nodes) (d t : Type 0) where
  -- why the push ends
  abbrev Ends : Halt PushFault → Type 0
  Ends = HaltCause (PushCause stanza folder path repo nodes) (rose_in (record none { repo = d; tree = t }))

  module _ (wal : ArchiveName) (named : IsWalPath folder path wal) (known : Control) (c : ClusterId)
      (of : IsCurrent stanza repo nodes known c) where
    missing : (e : PushFault) → FileCause path (wal_text wal) (limit_of wal) nodes e
        → IsRefusedFile stanza folder path repo nodes e
    missing e cause = record { wal = wal; named = named; known = known; current = c; of = of; cause = cause }

    file_refused : (e : PushFault) → FileCause path (wal_text wal) (limit_of wal) nodes e
        → PushCause stanza folder path repo nodes e
    file_refused (SegmentMissing word) cause = missing (SegmentMissing word) cause
    file_refused (TooLong word most) cause = inl (missing (TooLong word most) cause)
    file_refused (SegmentName word) cause = absurd cause
    file_refused (PathOutside word) cause = absurd cause
    file_refused (StanzaMismatch kept found) cause = absurd cause
    file_refused (HeaderForm info) cause = absurd cause
    file_refused (SegmentSize said found) cause = absurd cause
    file_refused (HeaderMismatch kept found) cause = absurd cause
    file_refused (Ambiguous first second) cause = absurd cause
    file_refused (Duplicate kept found) cause = absurd cause

    file_halts : (h : Halt PushFault)
        → HaltCause (FileCause path (wal_text wal) (limit_of wal) nodes) (Only TheDataFolder t) h → Ends h
    file_halts (Refused e) cause = file_refused e cause
    file_halts (Failed object) cause = subst (rose_in (record none { repo = d; tree = t })) (sym cause.0) cause.1
    file_halts NoMemory cause = tt

    -- of a file that isn't opened
    pub file_ends : (name : Text) (limit : ℕ) → name ≡ wal_text wal → limit ≡ limit_of wal → (h : Halt PushFault)
        → HaltCause (FileCause path name limit nodes) (Only TheDataFolder t) h
        → HaltCause (PushCause stanza folder path repo nodes) (rose_in (record none { repo = d; tree = t })) h
    file_ends name limit is most h cause =
        file_halts h (subst (λ (n : ℕ). HaltCause (FileCause path (wal_text wal) n nodes) (Only TheDataFolder t) h) most
        (subst (λ (w : Text). HaltCause (FileCause path w limit nodes) (Only TheDataFolder t) h) is cause))

    module _ (bytes : Text) (has : IfSome nodes (λ f. HasWal f folder path wal bytes)) where
      abbrev ready : IsReady stanza folder path repo nodes wal bytes known c
      ready = record { has = has; of = of }

      refused : (e : ArchiveFault) → StoringCause stanza (id_kept c) wal known.system bytes repo ⊥ e
          → IsRefusedPush stanza folder path repo nodes e
      refused e cause = record { wal = wal; bytes = bytes; known = known; current = c; ready = ready; cause = cause }

      archive_ends : (e : ArchiveFault) → StoringCause stanza (id_kept c) wal known.system bytes repo d e
          → Ends (of_archive e)
      archive_ends (archive.HeaderForm info) k = refused (archive.HeaderForm info) k
      archive_ends (archive.SegmentSize said found) k = refused (archive.SegmentSize said found) k
      archive_ends (archive.HeaderMismatch one found) k = refused (archive.HeaderMismatch one found) k
      archive_ends (archive.Ambiguous first second) k = refused (archive.Ambiguous first second) k
      archive_ends (archive.Duplicate one found) k = refused (archive.Duplicate one found) k
      archive_ends (archive.TooLong said most) k = inr (refused (archive.TooLong said most) k)
      archive_ends archive.NotFound k = tt
      archive_ends (archive.SegmentDamaged said found) k = tt
      archive_ends (archive.TooMany most) k = tt
      archive_ends archive.Disk k = k.1
      archive_ends archive.NoMemory k = tt

      -- what is reported at Ok
      lines_for : (now : Option Content) (pushed : Pushed)
          → (pushed ≡ New → IsPut stanza (id_kept c) wal bytes repo now)
          → (pushed ≡ Same → IsKept stanza (id_kept c) wal bytes repo now) →
          ((pushed_lines pushed (wal_text wal) ≡ []) × IsPut stanza (id_kept c) wal bytes repo now)
          ⊎ ((pushed_lines pushed (wal_text wal) ≡ same_line (wal_text wal))
          × IsKept stanza (id_kept c) wal bytes repo now)
      lines_for now New new one = inl (refl, new refl)
      lines_for now Same new one = inr (refl, one refl)

      stored_so : (now : Option Content) (lines : Text) (pushed : Pushed) → lines ≡ pushed_lines pushed (wal_text wal)
          → IsFileOf wal bytes known.system →
          (pushed ≡ New → IsPut stanza (id_kept c) wal bytes repo now)
          → (pushed ≡ Same → IsKept stanza (id_kept c) wal bytes repo now)
          → IsStored stanza folder path nodes repo now lines
      stored_so now lines pushed is valid new one = record {
        wal = wal;
        bytes = bytes;
        known = known;
        current = c;
        ready = ready;
        valid = valid;
        known_by = subst (λ (l : Text). ((l ≡ []) × IsPut stanza (id_kept c) wal bytes repo now)
            ⊎ ((l ≡ same_line (wal_text wal)) × IsKept stanza (id_kept c) wal bytes repo now))
            (sym is) (lines_for now pushed new one);
      }

    -- ---- of a file that was opened, by its id

    module _ (id : ArchiveId) (is : id ≡ id_kept c) (model : Option Text) (first : Text) (count : ℕ)
        (has : (bytes : Text) → IfSome model (λ b. b ≡ bytes)
        → IfSome nodes (λ f. HasWal f folder path wal bytes)) where
      store_ends : (e : StoreFault) → PushFromCause stanza (id_kept c) wal known.system model first count repo d t e
          → Ends (of_store e)
      store_ends (Archive e) k = archive_ends k.0 (has k.0 k.1.known) e k.2
      store_ends Source k = k

      pub halt_ends : (h : Halt PushFault) (e : StoreFault) → h ≡ of_store e
          → PushFromCause stanza id wal known.system model first count repo d t e
          → HaltCause (PushCause stanza folder path repo nodes) (rose_in (record none { repo = d; tree = t })) h
      halt_ends h e same k = subst Ends (sym same)
          (store_ends e (subst (λ (i : ArchiveId). PushFromCause stanza i wal known.system model first count repo d t e)
          is k))

      pub stored_as : (lines : Text) (pushed : Pushed) (sum : Sum) (now : Option Content)
          → lines ≡ pushed_lines pushed (wal_text wal)
          → IsPushedAs stanza id wal known.system model first count repo now pushed sum
          → IsStored stanza folder path nodes repo now lines
      stored_as lines pushed sum now same a =
          stored_so a.bytes (has a.bytes a.read.known) now lines pushed same a.of_system
          (λ new. subst (λ (i : ArchiveId). IsPut stanza i wal a.bytes repo now) is
          (record { none = (a.new new).0; puts = (a.new new).1 }))
          (λ one. subst (λ (i : ArchiveId). IsKept stanza i wal a.bytes repo now) is
          (record { only = (a.same one).0; same = (a.same one).1 }))
