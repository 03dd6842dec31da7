-- What is got is archived, and what isn't found isn't.
use Rattle.std.proofs.Common.{◌≡◌, ◌<◌, ◌^◌, inl, inr, ℕ, false, [], ◌∷◌, ◌++◌, append_assoc, length, Option, Some, None, Result, Ok, Err, refl, ap, ap₂, ◌∙◌, sym, subst}
use Rattle.std.specs.Prelude.{IfSome, IfOk, IfErr, IsErrOf, IsSome, IsSomeAnd, string_bytes}
use Rattle.std.specs.Result.{IsErrAnd}
use Rattle.sha1.specs.Sha1.{sha1}
use Rattle.base_text.specs.Sum.{IsSum}
use Rattle.base_text.proofs.Digests.{IsSum-sha1}
use Rattle.base_devices.specs.Content.{Content}
use Rattle.base_devices.proofs.Nows.{known_as}
use Rattle.base_disk.specs.declared.fault.StoreFault.{StoreFault}
use Rattle.base_disk.specs.declared.fault.StoreFault.TheVariants.{Disk as StoreDisk, TooLong as StoreTooLong, NoMemory as StoreNoMemory}
use Rattle.base_disk.specs.Fault.{IfTooLong}
use Rattle.base_model.specs.declared.wal.ArchiveId.{ArchiveId}
use Rattle.base_model.specs.declared.wal.ArchiveName.{ArchiveName}
use Rattle.base_model.specs.declared.wal.ArchiveName.TheVariants.{Segment as Whole, Partial, History, Backup}
use Rattle.base_model.specs.Text.{Text, In}
use Rattle.base_model.specs.Names.{archive_folder}
use Rattle.base_model.specs.Repository.{Archived, Stanza}
use Rattle.base_model.specs.Represents.{HasStanza, IsArchivePlace, stored_name}
use Rattle.base_model.specs.Now.{NowRepresents}
use Rattle.base_model.proofs.Pushed.{at_known, file_of}
use Rattle.archive_lookup.specs.declared.stored.fault.ArchiveFault.{ArchiveFault}
use Rattle.archive_lookup.specs.declared.stored.fault.ArchiveFault.TheVariants.{HeaderForm, SegmentSize, HeaderMismatch, Ambiguous, Duplicate, NotFound, SegmentDamaged, TooLong, TooMany, Disk, NoMemory}
use Rattle.archive_lookup.specs.declared.stored.files.Stored.{Stored}
use Rattle.archive_lookup.specs.declared.stored.stored_lookup.StoredFile.{StoredFile}
use Rattle.archive_lookup.specs.declared.stored.stored_lookup.Look.{Look}
use Rattle.archive_lookup.specs.declared.stored.stored_lookup.Look.TheVariants.{One}
use Rattle.archive_lookup.specs.declared.stored.names.FileNames.{FileNames}
use Rattle.archive_lookup.specs.Fault.{fault_of_store}
use Rattle.archive_lookup.specs.Stored.{archived_file, archive_path, known_sum, HasSum, StoresNone, Finds}
use Rattle.archive_lookup.specs.Paths.{has_sum}
use Rattle.archive_lookup.specs.OnlyReads.{AreNamesOf, Shows, ShowsOne, IsStoredAs, IsDeviceFault, LookCause}
use Rattle.archive_lookup.specs.Causes.{HasHeader, StoresBytes, StoresLong, GetCause, PresentCause, IsUnarchived, OnFinding, OnAnswer, limit_of}
use Rattle.archive_lookup.proofs.OnePath.{one_path}
use Rattle.archive_lookup.proofs.Owns.{has_own, stored_has}
use Rattle.archive_lookup.proofs.Looked.{path_long}

-- ---- a stored file, and the repository

module _ (stanza : Text) (id : ArchiveId) (name : ArchiveName) (place : (sum : Text) → IsSum sum → IsArchivePlace id name sum) where
  -- a file that lies at a path of this one is of its id and name
  pub same_place : (x : Archived) (sum : Text) → IsSum sum → IsArchivePlace x.id x.name (sha1 x.bytes) → archive_path stanza id name sum ≡ stored_name stanza x → (x.id ≡ id) × (x.name ≡ name)
  same_place x sum is fits e = one_path (archive_folder stanza ++ 47 ∷ []) x.id id x.name name (sha1 x.bytes) sum fits (place sum is)
      (append_assoc (archive_folder stanza) (47 ∷ []) _ ∙ sym e ∙ sym (append_assoc (archive_folder stanza) (47 ∷ []) _))

  -- what f has at a path of it is archived
  pub held_archived : (f : Content) (s : Stanza) → HasStanza stanza f s → (sum bytes : Text) → IsSum sum → f (archive_path stanza id name sum) ≡ Some bytes → (x : Archived) × In x s.archived × (x.id ≡ id) × (x.name ≡ name) × (bytes ≡ x.bytes)
  held_archived f s h sum bytes is some =
      let x = (h.archived (archive_path stanza id name sum) bytes (record { id = id; file = name; sum = sum; fits = place sum is; is = refl })).0 some in
      let same = same_place x.0 sum is (h.named x.0 x.1) x.2 in
      (x.0, x.1, same.0, same.1, x.3)

  as_file : (x : Archived) (bytes : Text) → x.id ≡ id → x.name ≡ name → bytes ≡ x.bytes → x ≡ archived_file id name bytes
  as_file x bytes i n e =
      ap (λ (k : ArchiveId). archived_file k x.name x.bytes) i ∙ ap₂ (λ (m : ArchiveName) (t : Text). archived_file id m t) n (sym e)

  bytes_archived : (f : Content) (s : Stanza) → HasStanza stanza f s → (bytes : Text) → StoresBytes stanza id name f (sha1 bytes) bytes → In (archived_file id name bytes) s.archived
  bytes_archived f s h bytes stores =
      let x = held_archived f s h (sha1 bytes) bytes (IsSum-sha1 bytes) stores.lies in
      subst (λ (a : Archived). In a s.archived) (as_file x.0 bytes x.2 x.3 x.4) x.1

  none_archived : (f : Content) (s : Stanza) → HasStanza stanza f s → StoresNone stanza id name f → IsUnarchived id name s.archived
  none_archived f s h none x at i n =
      let held = (h.archived (stored_name stanza x) x.bytes (file_of stanza x (h.named x at))).1 (x, at, refl, refl) in
      let path : stored_name stanza x ≡ archive_path stanza id name (sha1 x.bytes) = ap₂ (λ (k : ArchiveId) (m : ArchiveName). archive_path stanza k m (sha1 x.bytes)) i n in
      none (sha1 x.bytes) (subst (λ (o : Option Text). HasSum name o (sha1 x.bytes)) (sym (sym (ap f path) ∙ held)) (has_own name x.bytes))

  pub got_archived : (o : Option Content) (bytes : Text) → IfSome o (λ f. StoresBytes stanza id name f (sha1 bytes) bytes) → (s : Stanza) → IsSome o → NowRepresents stanza (Some s) o → In (archived_file id name bytes) s.archived
  got_archived o bytes stores s some now =
      let f = known_as o some in
      bytes_archived f.0 s (now.represents f.0 f.1) bytes (at_known (λ f. StoresBytes stanza id name f (sha1 bytes) bytes) o f.0 f.1 stores)

  got_none : (o : Option Content) → IfSome o (StoresNone stanza id name) → (s : Stanza) → IsSome o → NowRepresents stanza (Some s) o → IsUnarchived id name s.archived
  got_none o none s some now =
      let f = known_as o some in
      none_archived f.0 s (now.represents f.0 f.1) (at_known (StoresNone stanza id name) o f.0 f.1 none)

  -- ---- of an answer

  pub answer_archived : {T : Type 0} (text_of : T → Text) (o : Option Content) (r : Result T ArchiveFault) → IfOk r (λ v. IfSome o (λ f. StoresBytes stanza id name f (sha1 (text_of v)) (text_of v)))
      → IfOk r (λ v. (s : Stanza) → IsSome o → NowRepresents stanza (Some s) o → In (archived_file id name (text_of v)) s.archived)
  answer_archived text_of o (Ok v) stores = got_archived o (text_of v) stores
  answer_archived text_of o (Err e) stores = tt

  pub answer_none : {T : Type 0} (o : Option Content) (rose : Type 0) (r : Result T ArchiveFault) → IfErr r (GetCause stanza id name o rose) → IsErrOf r NotFound
      → (s : Stanza) → IsSome o → NowRepresents stanza (Some s) o → IsUnarchived id name s.archived
  answer_none o rose (Ok v) cause is = cc is
  answer_none o rose (Err e) cause is = got_none o (subst (GetCause stanza id name o rose) (let k : e ≡ NotFound = cc is in k) cause)

-- ---- a read that fails

pub unsummed_limit : (name : ArchiveName) → has_sum name ≡ false → limit_of name ≡ 2 ^ 20
unsummed_limit (Whole s) e = cc e
unsummed_limit (Partial s) e = cc e
unsummed_limit (History t) e = refl
unsummed_limit (Backup s n) e = refl

pub long_known : (stanza : Text) (id : ArchiveId) (name : ArchiveName) (names : FileNames) → AreNamesOf stanza id name names → has_sum name ≡ false → (o : Option Content) (path : Text) (limit : ℕ) → path ≡ string_bytes names.prefix → limit ≡ 2 ^ 20
    → IfSome o (λ f. IsSomeAnd (f (string_bytes names.prefix)) (λ bytes. limit < length bytes)) → (limit ≡ limit_of name) × IfSome o (λ f. StoresLong stanza id name f path limit)
long_known stanza id name names of unsummed None path limit path_is limit_is long = (limit_is ∙ sym (unsummed_limit name unsummed), tt)
long_known stanza id name names of unsummed (Some f) path limit path_is limit_is long =
    (limit_is ∙ sym (unsummed_limit name unsummed), subst (λ (t : Text). StoresLong stanza id name f t limit) (sym path_is) (path_long stanza id name unsummed f (string_bytes names.prefix) of.prefix limit long))

pub other_cause : (o : Option Content) (rose : Type 0) (names : FileNames) (path : Text) (limit : ℕ) (s : StoreFault) → path ≡ string_bytes names.prefix → limit ≡ 2 ^ 20 → IfTooLong s (λ n l. (n ≡ path) × (l ≡ limit))
    → IfTooLong s (λ _ _. IfSome o (λ f. IsSomeAnd (f path) (λ b. limit < length b))) → (s ≡ StoreDisk → rose)
    → (stanza : Text) (id : ArchiveId) (name : ArchiveName) → AreNamesOf stanza id name names → has_sum name ≡ false → GetCause stanza id name o rose (fault_of_store s)
other_cause o rose names path limit StoreDisk path_is limit_is named long rises stanza id name of unsummed = rises refl
other_cause o rose names path limit (StoreTooLong n l) path_is limit_is named long rises stanza id name of unsummed =
    long_known stanza id name names of unsummed o (string_bytes n) l (named.0 ∙ path_is) (named.1 ∙ limit_is)
    (subst (λ (k : ℕ). IfSome o (λ f. IsSomeAnd (f (string_bytes names.prefix)) (λ b. k < length b))) (sym named.1) (subst (λ (t : Text). IfSome o (λ f. IsSomeAnd (f t) (λ b. limit < length b))) path_is long))
other_cause o rose names path limit StoreNoMemory path_is limit_is named long rises stanza id name of unsummed = tt

pub err_by : {T E : Type 0} (P : E → Type 0) (r : Result T E) (fault : E) → IsErrAnd r (λ e. e ≡ fault) → P fault → IfErr r P
err_by P (Ok v) fault is h = tt
err_by P (Err e) fault is h = subst P (sym is) h

-- ---- a look

pub no_header : (name : ArchiveName) → has_sum name ≡ false → ¬ HasHeader name
no_header (Whole s) e h = cc e
no_header (Partial s) e h = cc e
no_header (History t) e h = h
no_header (Backup s n) e h = h

pub present_cause : (stanza : Text) (id : ArchiveId) (name : ArchiveName) (names : FileNames) → AreNamesOf stanza id name names → (o : Option Content) (rose : Type 0) (e : ArchiveFault) → LookCause names o rose e → PresentCause stanza id name o rose e
present_cause stanza id name names of o rose (HeaderForm i) h = h
present_cause stanza id name names of o rose (SegmentSize t f) h = h
present_cause stanza id name names of o rose (HeaderMismatch k f) h = h
present_cause stanza id name names of o rose (Ambiguous x y) h = absurd h
present_cause stanza id name names of o rose (Duplicate k f) h = h
present_cause stanza id name names of o rose NotFound h = h
present_cause stanza id name names of o rose (SegmentDamaged t f) h = h
present_cause stanza id name names of o rose (TooLong path limit) h =
    let unsummed = sym of.summed ∙ h.0 in
    let long = long_known stanza id name names of unsummed o (string_bytes path) limit h.1 h.2 h.3 in (no_header name unsummed, long.0, long.1)
present_cause stanza id name names of o rose (TooMany l) h = h
present_cause stanza id name names of o rose Disk h = h
present_cause stanza id name names of o rose NoMemory h = h

module _ (stanza : Text) (id : ArchiveId) (name : ArchiveName) (place : (sum : Text) → IsSum sum → IsArchivePlace id name sum) where
  found_as : (f : Content) (kept : StoredFile) (file : Stored) → ShowsOne stanza id name f kept → IsStoredAs id name kept file → Finds stanza id name f (Some file)
  found_as f kept file shows known =
      let sum = kept.sum.0 in
      let is = (stored_has name (f (archive_path stanza id name sum)) sum shows.only.stored).0 in (
        known.of_id,
        known.of_name,
        record {
          sum = sum;
          fits = subst (λ (k : ArchiveId). IsArchivePlace k file.name sum) (sym known.of_id) (subst (λ (n : ArchiveName). IsArchivePlace id n sum) (sym known.of_name) (place sum is));
          path = known.path ∙ shows.path ∙ sym (ap₂ (λ (k : ArchiveId) (n : ArchiveName). archive_path stanza k n sum) known.of_id known.of_name);
          known = known.sum ∙ ap (λ (n : ArchiveName). known_sum n sum) (sym known.of_name);
          size = subst (λ (t : Text). IsSomeAnd (f t) (λ bytes. length bytes ≡ file.size)) (sym known.path) (subst (λ (n : ℕ). IsSomeAnd (f (string_bytes kept.path)) (λ bytes. length bytes ≡ n)) (sym known.size) shows.size);
        },
        (sum, shows.only, known.path ∙ shows.path),
      )

  pub finds_one : (o : Option Content) (names : FileNames) (look : Look) (kept : StoredFile) (file : Stored) → AreNamesOf stanza id name names
      → IfSome o (λ f. (stanza : Text) (id : ArchiveId) (name : ArchiveName) → AreNamesOf stanza id name names → Shows stanza id name f look) → look ≡ One kept → IsStoredAs id name kept file → IfSome o (λ f. Finds stanza id name f (Some file))
  finds_one None names look kept file of known is alike = tt
  finds_one (Some f) names look kept file of known is alike = found_as f kept file (subst (λ (l : Look). Shows stanza id name f l) is (known stanza id name of)) alike

-- ---- what holds of each answer

found : (e : ArchiveFault) (P : Type 0) → P → OnFinding e P
found (HeaderForm i) P p = p
found (SegmentSize t f) P p = p
found (HeaderMismatch k f) P p = p
found (Ambiguous x y) P p = p
found (Duplicate k f) P p = p
found NotFound P p = p
found (SegmentDamaged t f) P p = p
found (TooLong n l) P p = p
found (TooMany l) P p = p
found Disk P p = tt
found NoMemory P p = tt

pub answered : {T : Type 0} (r : Result T ArchiveFault) (P : Type 0) → P → OnAnswer r P
answered (Ok x) P p = p
answered (Err e) P p = found e P p

pub stop_answers : {T : Type 0} (r : Result T ArchiveFault) (e : ArchiveFault) (P : Type 0) → IsErrAnd r (λ h. h ≡ e) → IsDeviceFault e → OnAnswer r P
stop_answers (Ok x) e P is stop = absurd is
stop_answers (Err h) e P is (inl disk) = subst (λ (k : ArchiveFault). OnFinding k P) (sym (is ∙ disk)) tt
stop_answers (Err h) e P is (inr memory) = subst (λ (k : ArchiveFault). OnFinding k P) (sym (is ∙ memory)) tt
