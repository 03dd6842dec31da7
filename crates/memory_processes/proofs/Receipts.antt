-- A receipt that is put in the spool, and what else is there.
use Rattle.std.proofs.Common.{◌≡◌, ◌⊎◌, ⊎_elim, inl, inr, ℕ, ◌<◌, ◌^◌, Bool, true, false, List, [], ◌∷◌, ◌++◌, Option, Some, None, Result, Ok, Err, refl, ap, ap₂, ◌∙◌, sym, subst, arith, append_assoc, Equal, nat_cmp}
use Rattle.std.specs.Prelude.{IsSome, IsTrue, IfErr, IsErrOf, OnOk, bytes_eq, codes, string_bytes}
use Rattle.std.proofs.lemmas.Cmp.{nat_list_cmp_total, tied_itself}
use Rattle.std.proofs.lemmas.List.{append_cancel_left, append_cancel_right}
use Rattle.std.proofs.lemmas.Bool.Decides.{nat_tests}
use Rattle.std.proofs.lemmas.Slice.Eq.{bytes_eq-Decides}
use Rattle.sha1.specs.Sha1.{sha1}
use Rattle.base_text.specs.Sum.{IsSum, sum_text}
use Rattle.base_text.proofs.Sums.{sum_text-injective}
use Rattle.base_text.proofs.Digests.{IsSum-sha1}
use Rattle.base_devices.specs.Content.{Name, Content, put, is_below}
use Rattle.base_devices.specs.Moments.{View, is_unsynced}
use Rattle.base_devices.specs.Crash.{IsTemporary, Alike, Leaves, Write, Crash, NowChanges, FirstOf, AllOf}
use Rattle.base_disk.specs.Store.{ChangesOnly}
use Rattle.base_disk.proofs.Below.{below_prefix}
use Rattle.base_disk.proofs.Changes.{only_wide}
use Rattle.base_model.specs.declared.wal.ArchiveId.{ArchiveId}
use Rattle.base_model.specs.declared.wal.ArchiveName.{ArchiveName}
use Rattle.base_model.specs.declared.wal.ArchiveName.TheVariants.{Segment as Whole}
use Rattle.base_model.specs.declared.wal.Segment.{Segment}
use Rattle.base_model.specs.Text.{Text, ◌⫽◌, hex_upper, text_cmp, In}
use Rattle.base_model.specs.Names.{archive_folder, receipt_name, segment_text, wal_text}
use Rattle.base_model.specs.InfoFiles.{IsSegment}
use Rattle.base_model.specs.Represents.{IsWalName}
use Rattle.base_model.specs.Repository.{Repository}
use Rattle.base_model.specs.Log.{Done, KeepsRepository}
use Rattle.base_model.proofs.ArchiveNames.{whole_of}
use Rattle.base_model.proofs.Created.{put_other, put_same}
use Rattle.base_model.proofs.Temporary.{receipt_lasts, refusal_lasts}
use Rattle.repo_names.proofs.Digits.{same_prefix}
use Rattle.repo_names.proofs.Compared.{text_cmp-hex_upper}
use Rattle.archive_lookup.specs.declared.pushes.processes.TurnError.{TurnError}
use Rattle.archive_lookup.specs.declared.pushes.processes.TurnError.TheVariants.{Repo, Spool, NoMemory}
use Rattle.memory_processes.specs.declared.pushing.PushResult.{PushResult}
use Rattle.memory_processes.specs.declared.pushing.PushResult.TheVariants.{Nothing, Stored, Tried, Refused}
use Rattle.memory_processes.specs.declared.pushing.MarkNames.{MarkNames}
use Rattle.memory_processes.specs.Others.{idle_turn}
use Rattle.archive_lookup.specs.Stored.{ChangesArchive}
use Rattle.archive_lookup.specs.Turns.{HadReceipt, IsMark, IsStoredBy, GivesReceipts, LeavesMarks, refusal_name}
use Rattle.memory_processes.specs.Pushing.{AreMarkNamesOf, GivesReceipt, HasFile, IfStored, IfDeviceError, IsRepoFault, StopsBy, receipt_text, turn_of, was_tried}

-- ---- the names of a mark

module _ (stanza : Text) (segment : Segment) (bytes : Text) (names : MarkNames) (of : AreMarkNamesOf stanza segment bytes names) (temporary name : Text)
    (temporary_is : temporary ≡ string_bytes names.temporary) (name_is : name ≡ string_bytes names.name) where
  in_out : (text : Text) → archive_folder stanza ⫽ codes "out" ⫽ text ≡ (archive_folder stanza ⫽ codes "out") ++ 47 ∷ text
  in_out text = sym (append_assoc (archive_folder stanza) (47 ∷ codes "out") (47 ∷ text))

  pub mark_folder : (folder : Name) × ((rest : Name) × (temporary ≡ folder ++ 47 ∷ rest)) × ((rest : Name) × (name ≡ folder ++ 47 ∷ rest))
  mark_folder = (
    archive_folder stanza ⫽ codes "out",
    (codes ".pgbackrest.tmp", temporary_is ∙ of.temporary ∙ in_out (codes ".pgbackrest.tmp")),
    (segment_text segment ++ codes ".ok", name_is ∙ of.name ∙ in_out (segment_text segment ++ codes ".ok")),
  )

  pub mark_temporary : IsTemporary temporary
  mark_temporary = record { prefix = archive_folder stanza ⫽ codes "out/"; is = temporary_is ∙ of.temporary ∙ sym (append_assoc (archive_folder stanza) (47 ∷ codes "out/") (codes ".pgbackrest.tmp")) }

  pub mark_lasting : ¬ IsTemporary name
  mark_lasting t = receipt_lasts stanza (Whole segment) (subst (λ (n : Text). IsTemporary n) (name_is ∙ of.name) t)

  pub mark_only : (v d : View) → ChangesOnly (λ n. (n ≡ temporary) ⊎ (n ≡ name)) v d → ChangesArchive stanza v d
  mark_only v d only = only_wide (λ n. (n ≡ temporary) ⊎ (n ≡ name)) (λ n. IsTrue (is_below (archive_folder stanza) n)) v d
      (λ n h. ⊎_elim
      (λ (e : n ≡ temporary). below_prefix (archive_folder stanza) (codes "out" ⫽ codes ".pgbackrest.tmp") n (e ∙ temporary_is ∙ of.temporary))
      (λ (e : n ≡ name). below_prefix (archive_folder stanza) (codes "out" ⫽ (segment_text segment ++ codes ".ok")) n (e ∙ name_is ∙ of.name)) h) only

  module _ (text : Text) (text_is : text ≡ string_bytes names.text) where
    written : ◌≡◌ {A = Write} (name, text) (receipt_name stanza (Whole segment), receipt_text bytes)
    written = ap₂ (λ (n t : Text). let w : Write = (n, t) in w) (name_is ∙ of.name) (text_is ∙ of.text)

    pub mark_crash : (v d : View) → (is_unsynced v name ≡ false → Crash (FirstOf ((name, text) ∷ [])) v d)
        → is_unsynced v (receipt_name stanza (Whole segment)) ≡ false → Crash (FirstOf ((receipt_name stanza (Whole segment), receipt_text bytes) ∷ [])) v d
    mark_crash v d crash synced = subst (λ (w : Write). Crash (FirstOf (w ∷ [])) v d) written (crash (ap (is_unsynced v) (name_is ∙ of.name) ∙ synced))

    pub mark_whole : (old new : Option Content) → NowChanges (AllOf ((name, text) ∷ [])) old new → NowChanges (AllOf ((receipt_name stanza (Whole segment), receipt_text bytes) ∷ [])) old new
    mark_whole old new goes = subst (λ (w : Write). NowChanges (AllOf (w ∷ [])) old new) written goes

-- ---- a receipt's name states its segment

same_number : (v w : ℕ) → v < 2 ^ 32 → w < 2 ^ 32 → hex_upper 8 v ≡ hex_upper 8 w → v ≡ w
same_number v w small fits e = by (sym (text_cmp-hex_upper 8 v w (omega arith) (omega arith)) ∙ ap (λ (t : Text). text_cmp t (hex_upper 8 w)) e ∙ tied_itself nat_list_cmp_total (hex_upper 8 w))
  where
    by : nat_cmp v w ≡ Equal → v ≡ w
    by tied = grind (arith, nat_tests)

same_segment : (s t : Segment) → IsSegment s → IsSegment t → segment_text s ≡ segment_text t → s ≡ t
same_segment s t p q e =
    let prefix = same_prefix s.timeline t.timeline (hex_upper 8 s.log ++ hex_upper 8 s.seg) (hex_upper 8 t.log ++ hex_upper 8 t.seg)
    (sym (append_assoc (hex_upper 8 s.timeline) (hex_upper 8 s.log) (hex_upper 8 s.seg)) ∙ e ∙ append_assoc (hex_upper 8 t.timeline) (hex_upper 8 t.log) (hex_upper 8 t.seg)) in
    let back = same_prefix s.log t.log (hex_upper 8 s.seg) (hex_upper 8 t.seg) prefix.1 in
    all (same_number s.timeline t.timeline p.timeline q.timeline prefix.0) (same_number s.log t.log p.log q.log back.0) (same_number s.seg t.seg p.seg q.seg back.1)
  where
    all : s.timeline ≡ t.timeline → s.log ≡ t.log → s.seg ≡ t.seg → s ≡ t
    all a b c =
        ap (λ (n : ℕ). let k : Segment = record { timeline = n; log = s.log; seg = s.seg } in k) a
        ∙ ap (λ (n : ℕ). let k : Segment = record { timeline = t.timeline; log = n; seg = s.seg } in k) b
        ∙ ap (λ (n : ℕ). let k : Segment = record { timeline = t.timeline; log = t.log; seg = n } in k) c

receipt_of : (stanza : Text) (name : ArchiveName) (segment : Segment) → IsWalName name → IsSegment segment → receipt_name stanza name ≡ receipt_name stanza (Whole segment) → name ≡ Whole segment
receipt_of stanza name segment fits is e =
    let below : 47 ∷ (codes "out" ⫽ (wal_text name ++ codes ".ok")) ≡ 47 ∷ (codes "out" ⫽ (segment_text segment ++ codes ".ok")) = append_cancel_left (archive_folder stanza) _ _ e in
    let text : wal_text name ++ codes ".ok" ≡ segment_text segment ++ codes ".ok" = cc in
    let x = whole_of name segment (append_cancel_right (wal_text name) (segment_text segment) (codes ".ok") text) in
    by x.0 x.1 x.2 (subst (λ (n : ArchiveName). IsWalName n) x.1 fits)
  where
    by : (s : Segment) → name ≡ Whole s → segment_text s ≡ segment_text segment → IsSegment s → name ≡ Whole segment
    by s n_is t_is s_is = n_is ∙ ap Whole (same_segment s segment s_is is t_is)

-- ---- what is besides it

module _ (stanza : Text) (segment : Segment) (bytes : Text) where
  abbrev name : Text
  name = receipt_name stanza (Whole segment)

  abbrev text : Text
  text = receipt_text bytes

  some_same : (x y : Text) → ◌≡◌ {A = Option Text} (Some x) (Some y) → x ≡ y
  some_same x y e = cc

  -- a name that is durable has the receipt, or what it had
  either_at : (f g : Content) (n : Text) → ¬ IsTemporary n → Alike (put (receipt_name stanza (Whole segment)) (Some (receipt_text bytes)) f) g → (g n ≡ f n) ⊎ ((n ≡ receipt_name stanza (Whole segment)) × (g n ≡ Some (receipt_text bytes)))
  either_at f g n lasts alike = by (bytes_eq name n) refl
    where
      by : (q : Bool) → bytes_eq name n ≡ q → (g n ≡ f n) ⊎ ((n ≡ name) × (g n ≡ Some text))
      by true e = let is : name ≡ n = (bytes_eq-Decides name n).0 e in inr (sym is, alike.same n lasts ∙ ap (put name (Some text) f) (sym is) ∙ put_same name (Some text) f)
      by false e = inl (alike.same n lasts ∙ put_other name (Some text) f n (λ (k : n ≡ name). let u : ◌≡◌ {A = Bool} false true = sym e ∙ (bytes_eq-Decides name n).1 (sym k) in cc))

  mark_lasts : (n : Text) → IsMark stanza n → ¬ IsTemporary n
  mark_lasts n m t = ⊎_elim
      (λ (e : n ≡ receipt_name stanza m.0). receipt_lasts stanza m.0 (subst (λ (k : Text). IsTemporary k) e t))
      (λ (e : n ≡ refusal_name stanza m.0). refusal_lasts stanza (wal_text m.0) (subst (λ (k : Text). IsTemporary k) e t)) m.1

  pub marks_stored : (old new : Option Content) → NowChanges (AllOf ((receipt_name stanza (Whole segment), receipt_text bytes) ∷ [])) old new → (old ≡ None → new ≡ None)
      → LeavesMarks stanza ((receipt_name stanza (Whole segment), receipt_text bytes) ∷ []) old new
  marks_stored old new goes unknown = record {
    stand = λ f is w at. represents (known_old old refl f is) f is w at;
    others = λ f g was is n b m has. ⊎_elim
        (λ (e : g n ≡ f n). inl (sym e ∙ has))
        (λ (x : (n ≡ name) × (g n ≡ Some text)). inr (inl (ap₂ (λ (k t : Text). let w : Write = (k, t) in w) x.0 (some_same b text (sym has ∙ x.1)))))
        (either_at f g n (mark_lasts n m) (goes.goes f g was is));
  }
    where
      known_old : (o : Option Content) → old ≡ o → (f : Content) → new ≡ Some f → (g : Content) × (old ≡ Some g)
      known_old None e f is = let u : ◌≡◌ {A = Option Content} None (Some f) = sym (unknown e) ∙ is in cc
      known_old (Some g) e f is = (g, e)

      represents : (x : (g : Content) × (old ≡ Some g)) (f : Content) → new ≡ Some f → (w : Write) → In w ((name, text) ∷ []) → f w.0 ≡ Some w.1
      represents x f is w (inl e) =
          let alike = goes.goes x.0 f x.1 is in
          let here : f name ≡ Some text = alike.same name (receipt_lasts stanza (Whole segment)) ∙ put_same name (Some text) x.0 in
          let P : Write → Type 0 = λ u. f u.0 ≡ Some u.1 in subst P (sym e) here
      represents x f is w (inr none) = absurd none

  pub marks_by : (r : Result (Unit {0}) TurnError) (old new : Option Content) → OnOk r (NowChanges (AllOf ((receipt_name stanza (Whole segment), receipt_text bytes) ∷ [])) old new) → (old ≡ None → new ≡ None)
      → OnOk r (LeavesMarks stanza ((receipt_name stanza (Whole segment), receipt_text bytes) ∷ []) old new)
  marks_by (Ok x) old new goes unknown = marks_stored old new goes unknown
  marks_by (Err e) old new goes unknown = tt

  pub marks_none : (old new : Option Content) → new ≡ old → LeavesMarks stanza [] old new
  marks_none old new same = record {
    stand = λ f is w at. absurd at;
    others = λ f g was is n b m has. let e : ◌≡◌ {A = Option Content} (Some g) (Some f) = sym is ∙ same ∙ was in let h : g ≡ f = cc in inl (ap (λ (k : Content). k n) (sym h) ∙ has);
  }

  -- ---- receipts

  module _ (is_segment : IsSegment segment) where
    pub receipts_put : (v d : View) → (is_unsynced v (receipt_name stanza (Whole segment)) ≡ false → Crash (FirstOf ((receipt_name stanza (Whole segment), receipt_text bytes) ∷ [])) v d)
        → GivesReceipt stanza segment bytes Stored v d
    receipts_put v d crash = record {
      each = λ some synced m f lo hi leaves n sum fits has.
          let x = (crash synced).comes some m f lo hi leaves in
          ⊎_elim (λ (alike : Alike x.0 f). old x.0 x.1 n sum has.0 (sym (alike.same (receipt_name stanza n) (receipt_lasts stanza n)) ∙ has.1))
          (λ (alike : Alike (put name (Some text) x.0) f). ⊎_elim
          (λ (e : f (receipt_name stanza n) ≡ x.0 (receipt_name stanza n)). old x.0 x.1 n sum has.0 (sym e ∙ has.1))
          (λ (y : (receipt_name stanza n ≡ name) × (f (receipt_name stanza n) ≡ Some text)). inr (
            refl,
            receipt_of stanza n segment fits is_segment y.0,
            sum_text-injective sum (sha1 bytes) has.0 (IsSum-sha1 bytes) (append_cancel_right (sum_text sum) (sum_text (sha1 bytes)) (10 ∷ []) (some_same (sum_text sum ++ 10 ∷ []) text (sym has.1 ∙ y.1))),
          ))
          (either_at x.0 f (receipt_name stanza n) (receipt_lasts stanza n) alike)) x.2;
    }
      where
        old : (g : Content) → Leaves v v.moment g → (n : ArchiveName) (sum : Text) → IsSum sum → g (receipt_name stanza n) ≡ Some (sum_text sum ++ 10 ∷ [])
            → HadReceipt stanza v n sum ⊎ ((Stored ≡ Stored) × (n ≡ Whole segment) × (sum ≡ sha1 bytes))
        old g leaves n sum is has = inl (g, leaves, (is, has))

  pub receipts_none : (went : PushResult) (v : View) → GivesReceipt stanza segment bytes went v v
  receipts_none went v = record {
    each = λ some synced m f lo hi leaves n sum fits has. inl (f, subst (λ (k : ℕ). Leaves v k f) (let e : m ≡ v.moment = omega (arith, lo, hi) in e) leaves, has);
  }

  -- ---- receipts of files that are stored

  pub receipts_given : (id : ArchiveId) (went : PushResult) (ended : Bool) (repo new_repo spool new_spool : View) → IsSegment segment
      → IfStored went ((q : Repository) (log : List Done) → IsSome repo.now → KeepsRepository stanza q log repo → HasFile stanza id segment (sha1 bytes) new_repo)
      → GivesReceipt stanza segment bytes went spool new_spool
      → GivesReceipts stanza (turn_of id segment bytes (was_tried went) ended) repo new_repo spool new_spool
  receipts_given id went ended repo new_repo spool new_spool is has gives = record {
    each = λ q log some known keeps m f lo hi leaves n sum fits receipt. ⊎_elim
        (λ (h : HadReceipt stanza spool n sum). inl h)
        (λ (x : (went ≡ Stored) × (n ≡ Whole segment) × (sum ≡ sha1 bytes)). inr (by q log some keeps.repository went x.0 has n sum x.1 x.2))
        (gives.each known (keeps.receipts.fixed (Whole segment) is) m f lo hi leaves n sum fits receipt);
  }
    where
      by : (q : Repository) (log : List Done) → IsSome repo.now → KeepsRepository stanza q log repo → (w : PushResult) → w ≡ Stored
          → IfStored w ((q : Repository) (log : List Done) → IsSome repo.now → KeepsRepository stanza q log repo → HasFile stanza id segment (sha1 bytes) new_repo)
          → (n : ArchiveName) (sum : Text) → n ≡ Whole segment → sum ≡ sha1 bytes → IsStoredBy stanza (turn_of id segment bytes (was_tried w) ended) n sum new_repo
      by q log some keeps w w_is has n sum n_is sum_is =
          let P : PushResult → Type 0 = λ k. IfStored k ((q : Repository) (log : List Done) → IsSome repo.now → KeepsRepository stanza q log repo → HasFile stanza id segment (sha1 bytes) new_repo) in
          let stored = subst P w_is has in
          let Q : PushResult → Type 0 = λ k. IsStoredBy stanza (turn_of id segment bytes (was_tried k) ended) n sum new_repo in
          let R : ArchiveName → Type 0 = λ k. IsStoredBy stanza (turn_of id segment bytes true ended) k sum new_repo in
          let S : Text → Type 0 = λ k. IsStoredBy stanza (turn_of id segment bytes true ended) (Whole segment) k new_repo in
          subst Q (sym w_is) (subst R (sym n_is) (subst S (sym sum_is) (record {
            file = record { name = Whole segment; bytes = bytes };
            pushed = inl refl;
            of_name = refl;
            of_sum = refl;
            stored = stored q log some keeps;
          })))

-- ---- why a step of others is refused

pub stop_of : (went : PushResult) (repo spool : Type 0) (result : Result (Unit {0}) TurnError) → IfDeviceError went (IsRepoFault repo) → IfErr result (StopsBy went spool) → (IsErrOf result Repo → repo) × (IsErrOf result Spool → spool)
stop_of went repo spool (Ok x) known stops = ((λ e. cc), (λ e. cc))
stop_of Nothing repo spool (Err stop) known stops = absurd stops
stop_of Stored repo spool (Err Repo) known stops = absurd stops
stop_of Stored repo spool (Err Spool) known stops = ((λ e. cc), (λ e. stops))
stop_of Stored repo spool (Err NoMemory) known stops = ((λ e. cc), (λ e. cc))
stop_of (Tried Repo) repo spool (Err stop) known stops = ((λ e. known), (λ e. cc))
stop_of (Tried Spool) repo spool (Err stop) known stops = absurd known
stop_of (Tried NoMemory) repo spool (Err stop) known stops = ((λ e. cc), (λ e. cc))
stop_of (Refused Repo) repo spool (Err stop) known stops = ((λ e. known), (λ e. cc))
stop_of (Refused Spool) repo spool (Err stop) known stops = absurd known
stop_of (Refused NoMemory) repo spool (Err stop) known stops = ((λ e. cc), (λ e. cc))

-- the receipts of the step of others, by bytes that are the same
pub receipts_at : (stanza : Text) (segment : Segment) (bytes first second : Text) (id : ArchiveId) (went : PushResult) (tried ended : Bool) (repo new_repo spool new_spool : View) → first ≡ bytes → second ≡ bytes → tried ≡ was_tried went → IsSegment segment
    → IfStored went ((q : Repository) (log : List Done) → IsSome repo.now → KeepsRepository stanza q log repo → HasFile stanza id segment (sha1 first) new_repo)
    → GivesReceipt stanza segment second went spool new_spool
    → GivesReceipts stanza (turn_of id segment bytes tried ended) repo new_repo spool new_spool
receipts_at stanza segment bytes first second id went tried ended repo new_repo spool new_spool first_is second_is tried_is is has gives =
    let Has : Text → Type 0 = λ y. IfStored went ((q : Repository) (log : List Done) → IsSome repo.now → KeepsRepository stanza q log repo → HasFile stanza id segment (sha1 y) new_repo) in
    let has2 : Has bytes = subst Has first_is has in
    let gives2 : GivesReceipt stanza segment bytes went spool new_spool = subst (λ (y : Text). GivesReceipt stanza segment y went spool new_spool) second_is gives in
    subst (λ (b : Bool). GivesReceipts stanza (turn_of id segment bytes b ended) repo new_repo spool new_spool) (sym tried_is) (receipts_given stanza segment bytes id went ended repo new_repo spool new_spool is has2 gives2)

-- a step of others in which nothing is pushed leaves no marks
pub marks_idle : (stanza : Text) (now : Option Content) → LeavesMarks stanza idle_turn.marks now now
marks_idle stanza now = marks_none stanza (record { timeline = 0; log = 0; seg = 0 }) [] now now refl
