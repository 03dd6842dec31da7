-- The store of one file, from what its push did.
use Rattle.std.proofs.Common.{◌≡◌, ⊎_elim, inl, inr, ℕ, arith, false, List, [], ◌∷◌, ◌++◌, Option, Some, None, Result, Ok, Err, refl, ap, ap₂, ◌∙◌, sym, subst}
use Rattle.std.specs.Prelude.{IsSome, IfSome, IfOk, IfErr, IsSomeAnd, codes, string_bytes}
use Rattle.std.proofs.lemmas.List.{append_cancel_left, append-nil}
use Rattle.sha1.specs.Sha1.{sha1}
use Rattle.base_text.specs.Sum.{IsSum, sum_text}
use Rattle.base_text.specs.declared.sum.Sum.{Sum}
use Rattle.base_text.proofs.Sums.{sum_text-injective}
use Rattle.base_text.proofs.Digests.{IsSum-sha1}
use Rattle.base_devices.specs.Content.{Content}
use Rattle.base_devices.specs.Moments.{View}
use Rattle.base_devices.specs.Crash.{AllOf}
use Rattle.base_devices.specs.DataFolder.{Nodes}
use Rattle.base_devices.proofs.Nows.{known_as}
use Rattle.base_model.specs.declared.wal.ArchiveId.{ArchiveId}
use Rattle.base_model.specs.declared.wal.ArchiveName.{ArchiveName}
use Rattle.base_model.specs.declared.wal.ArchiveName.TheVariants.{Segment as Whole, Partial, History, Backup}
use Rattle.base_model.specs.Text.{Text, ◌⫽◌, In}
use Rattle.base_model.specs.Names.{archive_folder, archive_text, id_text, segment_folder, segment_text}
use Rattle.base_model.specs.Repository.{Archived, Stanza}
use Rattle.base_model.specs.Represents.{Represents, HasStanza, IsArchivePlace, IsArchiveFile, stored_name}
use Rattle.base_model.specs.Steps.{Step, Named, after_all, push_of, store_of, has_other}
use Rattle.base_model.specs.Now.{NowRepresents}
use Rattle.base_model.specs.Steady.{IsSteady, EachImage}
use Rattle.base_model.proofs.Created.{put_same}
use Rattle.base_model.proofs.Pushed.{at_known, file_of}
use Rattle.base_model.proofs.Segments.{IsPartOfPush, NowPartOfPush}
use Rattle.base_model.proofs.Temporary.{file_lasts}
use Rattle.base_model.proofs.Turned.{note_represents}
use Rattle.archive_store.specs.declared.pushing.Pushed.{Pushed}
use Rattle.archive_store.specs.declared.pushing.Pushed.TheVariants.{New, Same}
use Rattle.archive_store.specs.declared.fault.PushFault.{PushFault as StoreFault}
use Rattle.archive_store.specs.declared.fault.PushFault.TheVariants.{Archive, Source}
use Rattle.archive_store.specs.Pushes.{LeavesPart, LeavesAll}
use Rattle.archive_store.specs.Pushing.{IsPushedAs, OnPushFinding, PushFromCause}
use Rattle.archive_store.specs.Still.{IsStill}
use Rattle.archive_store.proofs.FilePushed.{pushed_unlike}
use Rattle.archive_store.proofs.Got.{same_place}
use Rattle.archive_store.proofs.Piecewise.{read_is}
use Rattle.archive_store.proofs.PushedEach.{part_now, part_moves, all_now, all_steady}
use Rattle.archive_lookup.specs.Stored.{archived_file, archive_path, HasSum, Stores, StoresNone, StoresOnly, StoresTwo}
use Rattle.archive_lookup.specs.Causes.{OnFinding, PushCause, IsFileOf, StoresLong}
use Rattle.archive_lookup.specs.declared.stored.fault.ArchiveFault.{ArchiveFault}
use Rattle.archive_lookup.specs.declared.stored.fault.ArchiveFault.TheVariants.{HeaderForm, SegmentSize, HeaderMismatch, Ambiguous, Duplicate, NotFound, SegmentDamaged, TooLong, TooMany, Disk, NoMemory}
use Rattle.archive_lookup.proofs.Noted.{note_of, store_noted}
use Rattle.archive_lookup.proofs.Owns.{has_own, stored_has}
use Rattle.cmd_types.specs.declared.stages.halt.Halt.{Halt}
use Rattle.cmd_types.specs.declared.stages.halt.Halt.TheVariants.{Refused as IsRefused}
use Rattle.cmd_types.specs.Halts.{HaltCause}
use Rattle.cmd_types.specs.Risen.{rose_in}
use Rattle.cmd_archive_push.specs.declared.fault.PushFault.{PushFault}
use Rattle.cmd_archive_push.specs.declared.fault.PushFault.TheVariants.{HeaderForm as FormFault, SegmentSize as SizeFault, HeaderMismatch as MismatchFault, Ambiguous as AmbiguousFault, Duplicate as DuplicateFault, TooLong as LongFault}
use Rattle.cmd_archive_push.specs.Faults.{of_archive, of_store}
use Rattle.cmd_archive_push.specs.Texts.{content_text}
use Rattle.archive_spool.specs.Marks.{named}
use Rattle.cmd_archive_push_async.specs.declared.files.pushing.Tried.{Tried}
use Rattle.cmd_archive_push_async.specs.declared.files.pushing.Tried.TheVariants.{Stored, Refused}
use Rattle.cmd_archive_push_async.specs.Pushing.{stored_of, tried_of, fate_of, ShowsSum, EndsDrain, IsHaltedBy}
use Rattle.cmd_archive_push_async.specs.Ends.{EndCause, three}
use Rattle.cmd_archive_push_async.specs.Fates.{HasNoOther, HasOther, IsContentOf, IsFateOf}
use Rattle.cmd_archive_push_async.specs.Storing.{stored, IsPartOfStores, IsArchivedIn, GoesByStores}
use Rattle.cmd_archive_push_async.proofs.Stores.{one_stored, one_part}
use Rattle.cmd_archive_push_async.proofs.Goings.{moves_as, stores_none}

-- ---- a path states its sum

pub unslash : (prefix x y : Text) → prefix ⫽ x ≡ prefix ⫽ y → x ≡ y
unslash prefix x y e = let h : 47 ∷ x ≡ 47 ∷ y = append_cancel_left prefix (47 ∷ x) (47 ∷ y) e in cc

below_id_same : (stanza : Text) (id : ArchiveId) (x y : Text) → archive_folder stanza ⫽ id_text id ⫽ x ≡ archive_folder stanza ⫽ id_text id ⫽ y → x ≡ y
below_id_same stanza id x y e = unslash (id_text id) x y (unslash (archive_folder stanza) (id_text id ⫽ x) (id_text id ⫽ y) e)

same_bytes : (v : Option Text) (s t : Text) → IsSomeAnd v (λ b. sha1 b ≡ s) → IsSomeAnd v (λ b. sha1 b ≡ t) → s ≡ t
same_bytes None s t h k = absurd h
same_bytes (Some b) s t h k = sym h ∙ k

-- two sums that give a file one path, of which the bytes at the path have the second where the path doesn't state it
pub one_sum : (stanza : Text) (id : ArchiveId) (name : ArchiveName) (s t : Text) (v : Option Text) → IsSum s → archive_path stanza id name s ≡ archive_path stanza id name t → HasSum name v s → HasSum name v t → s ≡ t
one_sum stanza id (Whole g) s t v is e h k =
    let x : segment_text g ++ 45 ∷ sum_text s ≡ segment_text g ++ 45 ∷ sum_text t = unslash (segment_folder g) (segment_text g ++ 45 ∷ sum_text s) (segment_text g ++ 45 ∷ sum_text t) (below_id_same stanza id (archive_text (Whole g) (sum_text s)) (archive_text (Whole g) (sum_text t)) e) in
    let y : 45 ∷ sum_text s ≡ 45 ∷ sum_text t = append_cancel_left (segment_text g) (45 ∷ sum_text s) (45 ∷ sum_text t) x in
    sum_text-injective s t is k.0 (let z : sum_text s ≡ sum_text t = cc in z)
one_sum stanza id (Partial g) s t v is e h k =
    let x : (segment_text g ++ codes ".partial-") ++ sum_text s ≡ (segment_text g ++ codes ".partial-") ++ sum_text t = unslash (segment_folder g) ((segment_text g ++ codes ".partial-") ++ sum_text s) ((segment_text g ++ codes ".partial-") ++ sum_text t) (below_id_same stanza id (archive_text (Partial g) (sum_text s)) (archive_text (Partial g) (sum_text t)) e) in
    sum_text-injective s t is k.0 (append_cancel_left (segment_text g ++ codes ".partial-") (sum_text s) (sum_text t) x)
one_sum stanza id (History n) s t v is e h k = same_bytes v s t h k
one_sum stanza id (Backup g n) s t v is e h k = same_bytes v s t h k

-- ---- what the push answered

module _ (stanza : Text) (id : ArchiveId) (name : ArchiveName) (bytes : Text) (place : (sum : Text) → IsSum sum → IsArchivePlace id name sum) where
  abbrev path : Text
  path = archive_path stanza id name (sha1 bytes)

  is_file : IsArchiveFile stanza path
  is_file = record { id = id; file = name; sum = sha1 bytes; fits = place (sha1 bytes) (IsSum-sha1 bytes); is = refl }

  new_has : (f g : Content) → AllOf ((archive_path stanza id name (sha1 bytes), bytes) ∷ []) f g → HasSum name (g path) (sha1 bytes)
  new_has f g alike = subst (λ (o : Option Text). HasSum name o (sha1 bytes))
      (sym (alike.same path (file_lasts stanza path is_file) ∙ put_same path (Some bytes) f)) (has_own name bytes)

  -- the disk has the file with its sum
  pub pushed_has : (system count : ℕ) (first : Text) (old new : Option Content) (pushed : Pushed) (sum : Sum) → IsPushedAs stanza id name system (Some bytes) first count old new pushed sum
      → IsSome old → (g : Content) → new ≡ Some g → HasSum name (g (archive_path stanza id name (sha1 bytes))) (sha1 bytes)
  pushed_has system count first old new New sum x some g is =
      let f = known_as old some in
      let goes = (x.new refl).1 in
      new_has f.0 g (subst (λ (b : Text). AllOf ((archive_path stanza id name (sha1 b), b) ∷ []) f.0 g) (sym x.read.known) (goes.goes f.0 g f.1 is))
  pushed_has system count first old new Same sum x some g is =
      let h : new ≡ old = (x.same refl).1 in
      let only = at_known (λ f. StoresOnly stanza id name f (sha1 x.bytes)) old g (sym h ∙ is) (x.same refl).0 in
      subst (λ (b : Text). HasSum name (g (archive_path stanza id name (sha1 b))) (sha1 b)) (sym x.read.known) only.stored

  pub known_has : (system count : ℕ) (first : Text) (model : Option Text) (old new : Option Content) (pushed : Pushed) (sum : Sum) → model ≡ Some bytes → IsPushedAs stanza id name system model first count old new pushed sum
      → IsSome old → (g : Content) → new ≡ Some g → HasSum name (g (archive_path stanza id name (sha1 bytes))) (sha1 bytes)
  known_has system count first model old new pushed sum is x = pushed_has system count first old new pushed sum (subst (λ (o : Option Text). IsPushedAs stanza id name system o first count old new pushed sum) is x)

  -- what the disk has with a sum is archived with it
  sum_archived : (sum : Text) → IsSum sum → (f : Content) (s : Stanza) → HasStanza stanza f s → HasSum name (f (archive_path stanza id name sum)) sum → (x : Archived) × In x s.archived × (x.id ≡ id) × (x.name ≡ name) × (sha1 x.bytes ≡ sum)
  sum_archived sum is f s h has =
      let at = archive_path stanza id name sum in
      let v = stored_has name (f at) sum has in
      let x = (h.archived at v.1.0 (record { id = id; file = name; sum = sum; fits = place sum is; is = refl })).0 v.1.1 in
      let fits = h.named x.0 x.1 in
      let same = same_place stanza id name place x.0 sum is fits x.2 in
      let other : stored_name stanza x.0 ≡ archive_path stanza id name (sha1 x.0.bytes) = ap₂ (λ (k : ArchiveId) (m : ArchiveName). archive_path stanza k m (sha1 x.0.bytes)) same.0 same.1 in
      let held : f at ≡ Some x.0.bytes = v.1.1 ∙ ap (λ (b : Text). Some b) x.3 in
      (x.0, x.1, same.0, same.1, one_sum stanza id name (sha1 x.0.bytes) sum (f at) (IsSum-sha1 x.0.bytes) (sym other ∙ sym x.2) (subst (λ (o : Option Text). HasSum name o (sha1 x.0.bytes)) (sym held) (has_own name x.0.bytes)) has)

  -- the stanza has the file with another sum
  other_of : (kept : Text) (o : Option Content) → IfSome o (λ f. StoresOnly stanza id name f kept) → (s : Stanza) → IsSome o → NowRepresents stanza (Some s) o → HasOther s id name kept
  other_of kept o only s some now =
      let f = known_as o some in
      let stores = at_known (λ f. StoresOnly stanza id name f kept) o f.0 f.1 only in
      let digest = (stored_has name (f.0 (archive_path stanza id name kept)) kept stores.stored).0 in
      let x = sum_archived kept digest f.0 s (now.represents f.0 f.1) stores.stored in
      record { file = x.0; archived = x.1; of_id = x.2; of_name = x.3; of_sum = x.4 }

  -- where it was stored under no name, or with the sum of these bytes alone, the stanza has it with no other
  no_other : (f : Content) (s : Stanza) → HasStanza stanza f s → (sum : Text) → ((other : Text) → Stores stanza id name f other → other ≡ sum) → HasNoOther s id name sum
  no_other f s h sum only = record {
    each = λ file at i n.
        let there : f (archive_path stanza file.id file.name (sha1 file.bytes)) ≡ Some file.bytes =
        (h.archived (stored_name stanza file) file.bytes (file_of stanza file (h.named file at))).1 (file, at, refl, refl) in
        let here : f (archive_path stanza id name (sha1 file.bytes)) ≡ Some file.bytes =
        subst (λ (k : ArchiveId). f (archive_path stanza k name (sha1 file.bytes)) ≡ Some file.bytes) i (subst (λ (m : ArchiveName). f (archive_path stanza file.id m (sha1 file.bytes)) ≡ Some file.bytes) n there) in
        only (sha1 file.bytes) (subst (λ (o : Option Text). HasSum name o (sha1 file.bytes)) (sym here) (has_own name file.bytes));
  }

  pub own_alone : (system count : ℕ) (first : Text) (old new : Option Content) (pushed : Pushed) (sum : Sum) → IsPushedAs stanza id name system (Some bytes) first count old new pushed sum
      → (s : Stanza) → IsSome old → NowRepresents stanza (Some s) old → HasNoOther s id name (sha1 bytes)
  own_alone system count first old new New sum x s some now =
      let f = known_as old some in
      let none = at_known (StoresNone stanza id name) old f.0 f.1 (x.new refl).0 in
      no_other f.0 s (now.represents f.0 f.1) (sha1 bytes) (λ other stores. absurd (none other stores))
  own_alone system count first old new Same sum x s some now =
      let f = known_as old some in
      let only = at_known (λ f. StoresOnly stanza id name f (sha1 x.bytes)) old f.0 f.1 (x.same refl).0 in
      no_other f.0 s (now.represents f.0 f.1) (sha1 bytes) (λ other stores. only.only other stores ∙ ap sha1 (sym x.read.known))

  -- so none is archived with another sum
  pub pushed_off : (system count : ℕ) (first : Text) (old new : Option Content) (pushed : Pushed) (sum : Sum) → IsPushedAs stanza id name system (Some bytes) first count old new pushed sum
      → (s : Stanza) → IsSome old → NowRepresents stanza (Some s) old → has_other (archived_file id name bytes) s.archived ≡ false
  pushed_off system count first old new pushed sum x = pushed_unlike stanza id name place bytes old pushed (λ e. (x.new e).0)
      (λ e. subst (λ (b : Text). IfSome old (λ f. StoresOnly stanza id name f (sha1 b))) (sym x.read.known) (x.same e).0)

  -- a push that is refused for its content is reported so
  pub found_as : (system : ℕ) (o : Option Content) (rose : Type 0) (other : Text → Type 0) → ((kept : Text) → IfSome o (λ f. StoresOnly stanza id name f kept) → other kept)
      → (e : ArchiveFault) (fault : PushFault) (line : Text) → ◌≡◌ {A = Halt PushFault} (IsRefused fault) (of_archive e)
      → content_text fault ≡ Some line → PushCause stanza id name system bytes o rose e → IsContentOf other system name bytes fault
  found_as system o rose other given (HeaderForm i) fault line is text h =
      let e : fault ≡ FormFault i = cc in subst (λ (k : PushFault). IsContentOf other system name bytes k) (sym e) h
  found_as system o rose other given (SegmentSize t f) fault line is text h =
      let e : fault ≡ SizeFault t f = cc in subst (λ (k : PushFault). IsContentOf other system name bytes k) (sym e) h
  found_as system o rose other given (HeaderMismatch k f) fault line is text h =
      let e : fault ≡ MismatchFault k f = cc in subst (λ (x : PushFault). IsContentOf other system name bytes x) (sym e) h
  found_as system o rose other given (Ambiguous x y) fault line is text h =
      let e : fault ≡ AmbiguousFault x y = cc in let n : ◌≡◌ {A = Option Text} None (Some line) = subst (λ (k : PushFault). content_text k ≡ Some line) e text in cc
  found_as system o rose other given (Duplicate k f) fault line is text h =
      let e : fault ≡ DuplicateFault k f = cc in
      subst (λ (x : PushFault). IsContentOf other system name bytes x) (sym e) (h.0, h.1, h.2, given k.0 h.3)
  found_as system o rose other given NotFound fault line is text h = absurd h
  found_as system o rose other given (SegmentDamaged t f) fault line is text h = absurd h
  found_as system o rose other given (TooLong m l) fault line is text h =
      let e : fault ≡ LongFault m l = cc in let n : ◌≡◌ {A = Option Text} None (Some line) = subst (λ (k : PushFault). content_text k ≡ Some line) e text in cc
  found_as system o rose other given (TooMany l) fault line is text h = absurd h
  found_as system o rose other given Disk fault line is text h = cc
  found_as system o rose other given NoMemory fault line is text h = cc

  -- what the disk has so is archived
  has_archived : (f : Content) (s : Stanza) → HasStanza stanza f s → HasSum name (f path) (sha1 bytes) → IsArchivedIn stanza s id (named name bytes)
  has_archived f s h has =
      let v = stored_has name (f path) (sha1 bytes) has in
      let x = (h.archived path v.1.0 is_file).0 v.1.1 in
      let fits = h.named x.0 x.1 in
      let same = same_place stanza id name place x.0 (sha1 bytes) (IsSum-sha1 bytes) fits x.2 in
      let other : stored_name stanza x.0 ≡ archive_path stanza id name (sha1 x.0.bytes) = ap₂ (λ (k : ArchiveId) (m : ArchiveName). archive_path stanza k m (sha1 x.0.bytes)) same.0 same.1 in
      let held : f path ≡ Some x.0.bytes = v.1.1 ∙ ap (λ (b : Text). Some b) x.3 in
      record {
        file = x.0;
        archived = x.1;
        lies = sym x.2;
        sum = one_sum stanza id name (sha1 x.0.bytes) (sha1 bytes) (f path) (IsSum-sha1 x.0.bytes) (sym other ∙ sym x.2) (subst (λ (o : Option Text). HasSum name o (sha1 x.0.bytes)) (sym held) (has_own name x.0.bytes)) has;
      }

  module _ (v d : View) (known : IsSome v.now → IsSome d.now)
      (part : (s : Stanza) → IsSome v.now → NowRepresents stanza (Some s) v.now → NowPartOfPush stanza s (archived_file id name bytes) d.now)
      (moves : (s : Stanza) → IsSteady stanza (Some s) v → IsSome v.now → EachImage stanza (IsPartOfPush stanza s (archived_file id name bytes)) v d) where
    abbrev n : Named
    n = named name bytes

    as_part : (s : Stanza) (g : Content) → IsPartOfPush stanza s (archived_file id name bytes) g → IsPartOfStores stanza s id (n ∷ []) g
    as_part s g p = (p.0, one_part s id n p.0 p.1, p.2)

    moves_part : (s : Stanza) → IsSteady stanza (Some s) v → IsSome v.now → EachImage stanza (IsPartOfStores stanza s id (named name bytes ∷ [])) v d
    moves_part s steady some = moves_as stanza (IsPartOfPush stanza s (archived_file id name bytes)) (IsPartOfStores stanza s id (n ∷ [])) v d (as_part s) (moves s steady some)

    -- where the file may have been pushed
    pub store_tried : GoesByStores stanza id [] (named name bytes ∷ []) v d
    store_tried = record {
      known = known;
      now = λ s some now. let p = part s some now in (p.0, one_part s id n p.0 p.1, p.2);
      moves = moves_part;
      ends = λ s steady some g leaves. let m = moves_part s steady some in m.leaves d.moment g m.later (omega arith) leaves;
      held = λ s steady some m at. absurd at;
      noted = λ s some now m at. absurd at;
    }

    module _ (done : (s : Stanza) → IsSome v.now → NowRepresents stanza (Some s) v.now → NowRepresents stanza (Some (after_all s (push_of s (archived_file id name bytes)))) d.now)
        (steady_after : (s : Stanza) → IsSteady stanza (Some s) v → IsSome v.now → IsSteady stanza (Some (after_all s (push_of s (archived_file id name bytes)))) d)
        (has : IsSome v.now → (f : Content) → d.now ≡ Some f → HasSum name (f (archive_path stanza id name (sha1 bytes))) (sha1 bytes))
        (off : (s : Stanza) → IsSome v.now → NowRepresents stanza (Some s) v.now → has_other (archived_file id name bytes) s.archived ≡ false) where
      abbrev pushed : Stanza → Stanza
      pushed s = after_all s (push_of s (archived_file id name bytes))

      off_steady : (s : Stanza) → IsSteady stanza (Some s) v → IsSome v.now → has_other (archived_file id name bytes) s.archived ≡ false
      off_steady s steady some = off s some (record { represents = λ f is. steady.represents f (inl is) })

      noted : (s : Stanza) → has_other (archived_file id name bytes) s.archived ≡ false → (g : Content) → Represents stanza g (Some (pushed s)) → Represents stanza g (Some (stored s id (n ∷ [])))
      noted s alone g h = subst (λ (x : Stanza). Represents stanza g (Some x)) (sym (one_stored s id n alone)) (note_represents (record { name = name; sum = sha1 bytes }) (pushed s) stanza g h)

      is_noted : (s : Stanza) → has_other (archived_file id name bytes) s.archived ≡ false → In (note_of n) (stored s id (n ∷ [])).drained
      is_noted s alone = subst (λ (l : List Step). In (note_of n) (after_all s l).drained) (sym (append-nil (store_of s id n))) (store_noted s id n alone)

      -- where it was
      pub store_done : GoesByStores stanza id (named name bytes ∷ []) [] v d
      store_done = record {
        known = known;
        now = λ s some now. ([], refl, record { represents = λ f is. noted s (off s some now) f ((done s some now).represents f is) });
        moves = moves_part;
        ends = λ s steady some g leaves. ([], refl, noted s (off_steady s steady some) g ((steady_after s steady some).represents g leaves));
        held = λ s steady some m at. ⊎_elim
            (λ (e : m ≡ n).
            let f = known_as d.now (known some) in
            subst (λ (k : Named). IsArchivedIn stanza (stored s id (n ∷ [])) id k) (sym e)
            (has_archived f.0 (stored s id (n ∷ [])) (noted s (off_steady s steady some) f.0 ((steady_after s steady some).represents f.0 (inl f.1))) (has some f.0 f.1)))
            (λ (none : ⊥). absurd none) at;
        noted = λ s some now m at. ⊎_elim
            (λ (e : m ≡ n). subst (λ (k : Named). In (note_of k) (stored s id (n ∷ [])).drained) (sym e) (is_noted s (off s some now)))
            (λ (none : ⊥). absurd none) at;
      }

-- ---- by its answer

module _ (stanza : Text) (id : ArchiveId) (name : ArchiveName) (bytes : Text) (place : (sum : Text) → IsSum sum → IsArchivePlace id name sum) (model : Option Text) (is : model ≡ Some bytes)
    (v d : View) (leaves : IfSome model (λ b. LeavesPart stanza id name b v d)) where
  part : LeavesPart stanza id name bytes v d
  part = let P : Option Text → Type 0 = λ o. IfSome o (λ b. LeavesPart stanza id name b v d) in let h : P (Some bytes) = subst P is leaves in h

  -- where it may have been stored
  pub tried_goes : GoesByStores stanza id [] (named name bytes ∷ []) v d
  tried_goes = store_tried stanza id name bytes place v d part.now.known (part_now stanza id name bytes v d part) (part_moves stanza id name bytes v d part)

  -- where it was
  pub done_goes : (system count : ℕ) (first : Text) (pushed : Pushed) (sum : Sum) → IfSome model (λ b. LeavesAll stanza id name b v d)
      → IsPushedAs stanza id name system model first count v.now d.now pushed sum → GoesByStores stanza id (named name bytes ∷ []) [] v d
  done_goes system count first pushed sum all answered =
      let P : Option Text → Type 0 = λ o. IfSome o (λ b. LeavesAll stanza id name b v d) in
      let whole : P (Some bytes) = subst P is all in
      store_done stanza id name bytes place v d part.now.known (part_now stanza id name bytes v d part) (part_moves stanza id name bytes v d part)
      (all_now stanza id name bytes v d part whole) (all_steady stanza id name bytes v d part whole)
      (known_has stanza id name bytes place system count first model v.now d.now pushed sum is answered)
      (pushed_off stanza id name bytes place system count first v.now d.now pushed sum (subst (λ (o : Option Text). IsPushedAs stanza id name system o first count v.now d.now pushed sum) is answered))

-- what was found leaves the disk unchanged
found_still : (v d : View) (e : ArchiveFault) (fault : PushFault) → ◌≡◌ {A = Halt PushFault} (IsRefused fault) (of_archive e) → OnFinding e (IsStill v d) → IsStill v d
found_still v d (HeaderForm i) fault is h = h
found_still v d (SegmentSize t f) fault is h = h
found_still v d (HeaderMismatch k f) fault is h = h
found_still v d (Ambiguous x y) fault is h = h
found_still v d (Duplicate k f) fault is h = h
found_still v d NotFound fault is h = h
found_still v d (SegmentDamaged t f) fault is h = h
found_still v d (TooLong m l) fault is h = h
found_still v d (TooMany l) fault is h = h
found_still v d Disk fault is h = cc
found_still v d NoMemory fault is h = cc

pub still_found : (v d : View) (e : StoreFault) (fault : PushFault) → ◌≡◌ {A = Halt PushFault} (IsRefused fault) (of_store e) → OnPushFinding e (IsStill v d) → IsStill v d
still_found v d (Archive e) fault is h = found_still v d e fault is h
still_found v d Source fault is h = cc

-- a push that failed, as the drain takes it
pub halted_goes : (stanza : Text) (id : ArchiveId) (n : Named) (v d : View) → GoesByStores stanza id [] (n ∷ []) v d
    → (e : StoreFault) (halt : Halt PushFault) → halt ≡ of_store e → OnPushFinding e (IsStill v d)
    → (r : Result Tried (Halt PushFault)) → IsHaltedBy halt r → GoesByStores stanza id (stored_of r n) (tried_of r n) v d
halted_goes stanza id n v d tried e halt is still (Ok (Stored sum)) h = absurd h
halted_goes stanza id n v d tried e halt is still (Ok (Refused fault line)) h =
    let same = still_found v d e fault (sym h.0 ∙ is) still in stores_none stanza id v d same.time same.now
halted_goes stanza id n v d tried e halt is still (Err end) h = tried

pub halted_sum : (halt : Halt PushFault) (P : Text → Type 0) (r : Result Tried (Halt PushFault)) → IsHaltedBy halt r → IfOk r (λ tried. (bytes : Text) → P bytes → ShowsSum tried bytes)
halted_sum halt P (Ok (Stored sum)) h = absurd h
halted_sum halt P (Ok (Refused fault line)) h = λ bytes k. tt
halted_sum halt P (Err end) h = tt

-- ---- what became of it

-- the bytes that were read are those that are known
pub known_cause : (stanza : Text) (id : ArchiveId) (name : ArchiveName) (system count : ℕ) (first : Text) (model : Option Text) (o : Option Content) (rose source_rose : Type 0) (e : ArchiveFault) (bytes : Text) → model ≡ Some bytes
    → PushFromCause stanza id name system model first count o rose source_rose (Archive e) → PushCause stanza id name system bytes o rose e
known_cause stanza id name system count first model o rose source_rose e bytes is x =
    subst (λ (b : Text). PushCause stanza id name system b o rose e) (read_is model first count x.0 x.1 bytes is) x.2

module _ (stanza : Text) (id : ArchiveId) (name : ArchiveName) (system count : ℕ) (first : Text) (place : (sum : Text) → IsSum sum → IsArchivePlace id name sum) (model : Option Text) (o : Option Content) (rose source_rose : Type 0)
    (Known : Text → Type 0) (known : (bytes : Text) → Known bytes → model ≡ Some bytes) where
  pub halted_fate : (e : StoreFault) (halt : Halt PushFault) → halt ≡ of_store e → PushFromCause stanza id name system model first count o rose source_rose e
      → (r : Result Tried (Halt PushFault)) → IsHaltedBy halt r
      → IfOk r (λ tried. (bytes : Text) → Known bytes → (s : Stanza) → IsSome o → NowRepresents stanza (Some s) o → IsFateOf (HasNoOther s id name) (HasOther s id name) system name bytes (fate_of tried bytes))
  halted_fate e halt is cause (Ok (Stored sum)) h = absurd h
  halted_fate (Archive e) halt is cause (Ok (Refused fault line)) h = λ bytes t s some now. (
    fault,
    found_as stanza id name bytes place system o rose (HasOther s id name) (λ kept only. other_of stanza id name bytes place kept o only s some now) e fault (string_bytes line) (sym h.0 ∙ is) h.1
        (known_cause stanza id name system count first model o rose source_rose e bytes (known bytes t) cause),
    refl,
    h.1,
  )
  halted_fate Source halt is cause (Ok (Refused fault line)) h = let k : ◌≡◌ {A = Halt PushFault} (IsRefused fault) (of_store Source) = sym h.0 ∙ is in cc
  halted_fate e halt is cause (Err end) h = tt

  pub stored_fate : (new : Option Content) (pushed : Pushed) (sum : Sum) → IsPushedAs stanza id name system model first count o new pushed sum
      → (bytes : Text) → Known bytes → (s : Stanza) → IsSome o → NowRepresents stanza (Some s) o → IsFateOf (HasNoOther s id name) (HasOther s id name) system name bytes (fate_of (Stored sum) bytes)
  stored_fate new pushed sum x bytes t s some now = (
    refl,
    subst (λ (b : Text). IsFileOf name b system) (read_is model first count x.bytes x.read bytes (known bytes t)) x.of_system,
    own_alone stanza id name bytes place system count first o new pushed sum (subst (λ (m : Option Text). IsPushedAs stanza id name system m first count o new pushed sum) (known bytes t) x) s some now,
  )

  pub stored_sum : (old new : Option Content) (pushed : Pushed) (sum : Sum) → IsPushedAs stanza id name system model first count old new pushed sum
      → (bytes : Text) → Known bytes → sum.0 ≡ sha1 bytes
  stored_sum old new pushed sum x bytes t = x.summed ∙ ap sha1 (read_is model first count x.bytes x.read bytes (known bytes t))

-- ---- why it ends the drain

-- what was found by a push that ends the drain is so as it ends
module _ (stanza : Text) (id : ArchiveId) (name : ArchiveName) (system : ℕ) (bytes : Text) (nodes : Option Nodes) (v d : View) (rose source_rose : Type 0) where
  abbrev Ends : Halt PushFault → Type 0
  Ends halt = HaltCause (EndCause stanza id nodes d.now name) (rose_in (three rose ⊥ source_rose)) halt

  here : (P : Content → Type 0) → d.now ≡ v.now → IfSome v.now P → IfSome d.now P
  here P same h = subst (λ (o : Option Content). IfSome o P) (sym same) h

  archive_ends : (e : ArchiveFault) → EndsDrain (of_archive e) → OnFinding e (IsStill v d) → PushCause stanza id name system bytes v.now rose e → Ends (of_archive e)
  archive_ends (HeaderForm i) ends still h = cc
  archive_ends (SegmentSize t f) ends still h = cc
  archive_ends (HeaderMismatch k f) ends still h = cc
  archive_ends (Ambiguous x y) ends still h = here (λ f. StoresTwo stanza id name f (string_bytes x) (string_bytes y)) still.now h.1
  archive_ends (Duplicate k f) ends still h = cc
  archive_ends NotFound ends still h = tt
  archive_ends (SegmentDamaged t f) ends still h = tt
  archive_ends (TooLong m l) ends still h = (h.1, inr (here (λ f. StoresLong stanza id name f (string_bytes m) l) still.now h.2))
  archive_ends (TooMany l) ends still h = tt
  archive_ends Disk ends still h = h.1
  archive_ends NoMemory ends still h = tt

pub halted_cause : (stanza : Text) (id : ArchiveId) (name : ArchiveName) (system count : ℕ) (first : Text) (model : Option Text) (nodes : Option Nodes) (v d : View) (rose source_rose : Type 0)
    (e : StoreFault) (halt : Halt PushFault) → halt ≡ of_store e → OnPushFinding e (IsStill v d) → PushFromCause stanza id name system model first count v.now rose source_rose e
    → (r : Result Tried (Halt PushFault)) → IsHaltedBy halt r → IfErr r (HaltCause (EndCause stanza id nodes d.now name) (rose_in (three rose ⊥ source_rose)))
halted_cause stanza id name system count first model nodes v d rose source_rose e halt is still cause (Ok (Stored sum)) h = tt
halted_cause stanza id name system count first model nodes v d rose source_rose e halt is still cause (Ok (Refused fault line)) h = tt
halted_cause stanza id name system count first model nodes v d rose source_rose e halt is still cause (Err end) (inl none) = subst (λ (x : Halt PushFault). HaltCause (EndCause stanza id nodes d.now name) (rose_in (three rose ⊥ source_rose)) x) (sym none) tt
halted_cause stanza id name system count first model nodes v d rose source_rose e halt is still cause (Err end) (inr same) =
    subst (λ (x : Halt PushFault). HaltCause (EndCause stanza id nodes d.now name) (rose_in (three rose ⊥ source_rose)) x) (sym (same.0 ∙ is)) (by e (subst EndsDrain is same.1) still cause)
  where
    by : (e : StoreFault) → EndsDrain (of_store e) → OnPushFinding e (IsStill v d) → PushFromCause stanza id name system model first count v.now rose source_rose e → HaltCause (EndCause stanza id nodes d.now name) (rose_in (three rose ⊥ source_rose)) (of_store e)
    by (Archive e) ends still cause = archive_ends stanza id name system cause.0 nodes v d rose source_rose e ends still cause.2
    by Source ends still cause = cause
