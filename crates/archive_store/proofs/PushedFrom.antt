-- What a push of a file that is read in pieces answers and leaves, from what was done of it.
use Rattle.std.proofs.Common.{◌≡◌, ◌⊎◌, ◌≤◌, ℕ, length, Option, refl, sym, subst, arith}
use Rattle.std.specs.Prelude.{IfSome, String, string_bytes}
use Rattle.std.specs.declared.alloc.Global.{Global}
use Rattle.sha1.specs.Sha1.{sha1}
use Rattle.base_devices.specs.Cause.{Rises}
use Rattle.base_devices.specs.Content.{Content}
use Rattle.base_devices.specs.Moments.{View, LeavesNoMore, SyncsFolders}
use Rattle.base_devices.specs.Crash.{NowChanges, AllOf}
use Rattle.base_disk.specs.Store.{ChangesOnly}
use Rattle.base_model.specs.declared.wal.ArchiveId.{ArchiveId}
use Rattle.base_model.specs.declared.wal.ArchiveName.{ArchiveName}
use Rattle.base_model.specs.Text.{Text}
use Rattle.repo_names.specs.Header.{BeginsWith}
use Rattle.archive_lookup.specs.declared.stored.fault.ArchiveFault.{ArchiveFault}
use Rattle.archive_lookup.specs.declared.stored.fault.ArchiveFault.TheVariants.{HeaderForm, SegmentSize, HeaderMismatch, Ambiguous, Duplicate, NotFound, SegmentDamaged, TooLong, TooMany, Disk, NoMemory}
use Rattle.archive_store.specs.declared.fault.PushFault.{PushFault}
use Rattle.archive_store.specs.declared.fault.PushFault.TheVariants.{Archive, Source}
use Rattle.archive_lookup.specs.declared.stored.stored_lookup.Look.TheVariants.{Two}
use Rattle.archive_lookup.specs.declared.stored.names.FileNames.{FileNames}
use Rattle.archive_lookup.specs.Stored.{StoresNone, StoresOnly}
use Rattle.archive_lookup.specs.Causes.{PushCause}
use Rattle.archive_lookup.specs.OnlyReads.{AreNamesOf, Shows, path_with}
use Rattle.archive_store.specs.ByteSource.{IsReadFrom}
use Rattle.archive_store.specs.Pushes.{IsPathOf, writes_of, LeavesPart, LeavesAll, Leaves, LeavesFile}
use Rattle.archive_store.specs.Pushing.{PushFromCause, OnPushFinding, DeviceCause, AreOfSystem, HasPlaces, OtherCause, PutsPart, PutsWhole}
use Rattle.archive_store.proofs.FilePushed.{StoresSome}
use Rattle.archive_store.proofs.Piecewise.{known_as_known, known_all, some_read}
use Rattle.archive_store.proofs.Placed.{still_only, put_only, put_goes}
use Rattle.archive_store.proofs.PushedEach.{rests_leave, rests_write, looked_alike, stored_leaves as had_leaves, put_leaves as new_leaves, put_writes as new_writes, put_leaves_all as new_leaves_all, put_alike as new_alike_left}

-- ---- a refusal

pub finding : (e : PushFault) (P : Type 0) → P → OnPushFinding e P
finding (Archive (HeaderForm i)) P p = p
finding (Archive (SegmentSize t f)) P p = p
finding (Archive (HeaderMismatch k f)) P p = p
finding (Archive (Ambiguous x y)) P p = p
finding (Archive (Duplicate k f)) P p = p
finding (Archive NotFound) P p = p
finding (Archive (SegmentDamaged t f)) P p = p
finding (Archive (TooLong n l)) P p = p
finding (Archive (TooMany l)) P p = p
finding (Archive Disk) P p = tt
finding (Archive NoMemory) P p = tt
finding Source P p = tt

-- a crash finds nothing
pub stop_finding : (rose source_rose : Type 0) (e : PushFault) → DeviceCause rose source_rose e → (P : Type 0) → OnPushFinding e P
stop_finding rose source_rose (Archive (HeaderForm i)) h P = absurd h
stop_finding rose source_rose (Archive (SegmentSize t f)) h P = absurd h
stop_finding rose source_rose (Archive (HeaderMismatch k f)) h P = absurd h
stop_finding rose source_rose (Archive (Ambiguous x y)) h P = absurd h
stop_finding rose source_rose (Archive (Duplicate k f)) h P = absurd h
stop_finding rose source_rose (Archive NotFound) h P = absurd h
stop_finding rose source_rose (Archive (SegmentDamaged t f)) h P = absurd h
stop_finding rose source_rose (Archive (TooLong n l)) h P = absurd h
stop_finding rose source_rose (Archive (TooMany l)) h P = absurd h
stop_finding rose source_rose (Archive Disk) h P = tt
stop_finding rose source_rose (Archive NoMemory) h P = tt
stop_finding rose source_rose Source h P = tt

-- the count of faults rose from what it was before
rises_from : (a b c : ℕ) → a ≤ b → Rises b c → Rises a c
rises_from a b c le rose = omega arith

pub stop_risen : (a b c : ℕ) → a ≤ b → (source_rose : Type 0) (e : PushFault) → DeviceCause (Rises b c) source_rose e → DeviceCause (Rises a c) source_rose e
stop_risen a b c le source_rose (Archive (HeaderForm i)) h = absurd h
stop_risen a b c le source_rose (Archive (SegmentSize t f)) h = absurd h
stop_risen a b c le source_rose (Archive (HeaderMismatch k f)) h = absurd h
stop_risen a b c le source_rose (Archive (Ambiguous x y)) h = absurd h
stop_risen a b c le source_rose (Archive (Duplicate k f)) h = absurd h
stop_risen a b c le source_rose (Archive NotFound) h = absurd h
stop_risen a b c le source_rose (Archive (SegmentDamaged t f)) h = absurd h
stop_risen a b c le source_rose (Archive (TooLong n l)) h = absurd h
stop_risen a b c le source_rose (Archive (TooMany l)) h = absurd h
stop_risen a b c le source_rose (Archive Disk) h = rises_from a b c le h
stop_risen a b c le source_rose (Archive NoMemory) h = h
stop_risen a b c le source_rose Source h = h

module _ (stanza : Text) (id : ArchiveId) (name : ArchiveName) (system : ℕ) (model : Option Text) (first : Text) (count : ℕ)
    (known : IfSome model (BeginsWith first count)) (within : length first ≤ count) where
  module _ (o : Option Content) (rose source_rose : Type 0) where
    -- a refusal for all bytes is one for those that were read
    pub refused_for : (e : ArchiveFault) → ((bytes : Text) → BeginsWith first count bytes → PushCause stanza id name system bytes o rose e) → PushFromCause stanza id name system model first count o rose source_rose (Archive e)
    refused_for e each = let w = some_read model first count known within in (w.0, w.1, each w.0 w.1.begins)

    module _ (right : AreOfSystem name system first count) where
      pub two_refused : (a b : String Global) → IfSome o (λ f. Shows stanza id name f (Two a b)) → PushFromCause stanza id name system model first count o rose source_rose (Archive (Ambiguous a b))
      two_refused a b shows = refused_for (Ambiguous a b) (λ bytes begins. (right bytes begins, shows))

      pub stop_refused : (e : PushFault) → DeviceCause rose source_rose e → PushFromCause stanza id name system model first count o rose source_rose e
      stop_refused (Archive (HeaderForm i)) h = absurd h
      stop_refused (Archive (SegmentSize t f)) h = absurd h
      stop_refused (Archive (HeaderMismatch k f)) h = absurd h
      stop_refused (Archive (Ambiguous x y)) h = absurd h
      stop_refused (Archive (Duplicate k f)) h = absurd h
      stop_refused (Archive NotFound) h = absurd h
      stop_refused (Archive (SegmentDamaged t f)) h = absurd h
      stop_refused (Archive (TooLong n l)) h = absurd h
      stop_refused (Archive (TooMany l)) h = absurd h
      stop_refused (Archive Disk) h = refused_for Disk (λ bytes begins. (right bytes begins, h))
      stop_refused (Archive NoMemory) h = refused_for NoMemory right
      stop_refused Source h = h

      -- the file is stored with another sum, or the bytes weren't read
      pub other_refused : (sum : Text) → IfSome o (λ f. StoresOnly stanza id name f sum) → (e : PushFault) → OtherCause model first count sum source_rose e → PushFromCause stanza id name system model first count o rose source_rose e
      other_refused sum only (Archive (HeaderForm i)) h = absurd h
      other_refused sum only (Archive (SegmentSize t f)) h = absurd h
      other_refused sum only (Archive (HeaderMismatch k f)) h = absurd h
      other_refused sum only (Archive (Ambiguous x y)) h = absurd h
      other_refused sum only (Archive (Duplicate kept found)) h =
          let read = h.2 in
          (read.0, read.1, (right read.0 read.1.begins, read.2, h.1, subst (λ (t : Text). IfSome o (λ f. StoresOnly stanza id name f t)) (sym h.0) only))
      other_refused sum only (Archive NotFound) h = absurd h
      other_refused sum only (Archive (SegmentDamaged t f)) h = absurd h
      other_refused sum only (Archive (TooLong n l)) h = absurd h
      other_refused sum only (Archive (TooMany l)) h = absurd h
      other_refused sum only (Archive Disk) h = absurd h
      other_refused sum only (Archive NoMemory) h = refused_for NoMemory right
      other_refused sum only Source h = h

  -- ---- what is left

  -- nothing was changed
  pub still_leaves : (v b : View) → LeavesNoMore v b → b.now ≡ v.now → Leaves stanza id name model v b
  still_leaves v b rests same = record {
    part = known_all model (λ bytes. LeavesPart stanza id name bytes v b) (λ bytes. rests_leave stanza id name bytes v b rests same);
    writes = let w = some_read model first count known within in (w.0, w.1.known, rests_write stanza id name w.0 v b rests same);
    only = still_only stanza v b rests same;
  }

  module _ (place : HasPlaces id name) (v b : View) (rests : LeavesNoMore v b) (same : b.now ≡ v.now) (settles : SyncsFolders (IsPathOf stanza id name) v b) where
    -- the file was stored already
    pub stored_leaves : IfSome v.now (StoresSome stanza id name) → LeavesFile stanza id name model v b
    stored_leaves has = record {
      all = known_all model (λ bytes. LeavesAll stanza id name bytes v b) (λ bytes. had_leaves stanza id name place v b rests same settles bytes has);
      alike = looked_alike stanza id name place v b rests same settles;
    }

    -- the bytes that were read were put
    module _ (names : FileNames) (of : AreNamesOf stanza id name names) (d : View) (lacks : IfSome v.now (StoresNone stanza id name))
        (read : Text) (is_read : IsReadFrom model first count read) (part : PutsPart (path_with names (sha1 read)) read b d) where
      pub put_leaves : (sum : Text) → ChangesOnly (λ n. (n ≡ string_bytes names.temporary) ⊎ (n ≡ path_with names sum)) b d → Leaves stanza id name model v d
      put_leaves sum only = record {
        part = known_as_known model read is_read.known (λ bytes. LeavesPart stanza id name bytes v d) (new_leaves stanza id name place v b rests same settles names of d lacks read part);
        writes = (read, is_read.known, new_writes stanza id name place v b rests same settles names of d lacks read part);
        only = put_only stanza id name names of sum v b d rests same only;
      }

      module _ (whole : PutsWhole (path_with names (sha1 read)) read b d) where
        pub put_file : LeavesFile stanza id name model v d
        put_file = record {
          all = known_as_known model read is_read.known (λ bytes. LeavesAll stanza id name bytes v d) (new_leaves_all stanza id name place v b rests same settles names of d lacks read part whole);
          alike = new_alike_left stanza id name place v b rests same settles names of d lacks read part whole;
        }

        pub put_written : NowChanges (AllOf (writes_of stanza id name read)) v.now d.now
        put_written = put_goes stanza id name names of place read (sha1 read) refl AllOf v.now b.now d.now same whole.now
