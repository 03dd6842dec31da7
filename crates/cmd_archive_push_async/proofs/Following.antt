-- What was drained file by file.
use Rattle.std.proofs.Common.{◌≡◌, ◌⊎◌, ⊎_elim, inl, inr, Bool, true, false, ℕ, zero, suc, ◌<◌, ◌≤◌, ◌+◌, List, [], ◌∷◌, ◌++◌, length, take, drop, get_or, Option, Some, None, Result, Ok, Err, refl, ap, ap₂, ◌∙◌, sym, subst, arith, append_assoc}
use Rattle.std.specs.Prelude.{IsSome, IsSomeAnd, IfSome, IfOk, IfErr, OnOk, string_bytes}
use Rattle.std.proofs.lemmas.List.{append-nil, get_or_default, take_more, take-append-drop, take_all}
use Rattle.base_devices.specs.Cause.{Rises}
use Rattle.base_devices.specs.Content.{Name, Content}
use Rattle.base_devices.specs.Crash.{NowChanges, AllOf, FirstOf, Write}
use Rattle.base_devices.specs.Moments.{View}
use Rattle.base_devices.specs.DataFolder.{Nodes, file_bytes}
use Rattle.base_devices.proofs.Nows.{now_writes_on, now_writes_end, now_none}
use Rattle.base_model.specs.declared.wal.ArchiveId.{ArchiveId}
use Rattle.base_model.specs.declared.wal.ArchiveName.{ArchiveName}
use Rattle.base_model.specs.Names.{wal_text}
use Rattle.base_model.specs.Now.{NowRepresents}
use Rattle.base_model.specs.Repository.{Stanza}
use Rattle.base_model.specs.Steps.{Named}
use Rattle.base_model.specs.Text.{Text, In}
use Rattle.archive_lookup.specs.Causes.{limit_of}
use Rattle.cmd_types.specs.declared.stages.halt.Halt.{Halt}
use Rattle.cmd_types.specs.declared.stages.halt.Halt.TheVariants.{Refused as Refused_, Failed, NoMemory}
use Rattle.cmd_types.specs.declared.stages.object.Object.{Object}
use Rattle.cmd_types.specs.declared.stages.object.Object.TheVariants.{Repo, Spool, TheDataFolder, Server, Others, Clock, Locks, Config, Output}
use Rattle.cmd_types.specs.Halts.{HaltCause, Never, Only}
use Rattle.cmd_types.specs.Risen.{rose_in}
use Rattle.cmd_types.proofs.Counts.{rises_from}
use Rattle.cmd_archive_push.specs.declared.fault.PushFault.{PushFault}
use Rattle.cmd_archive_push.specs.declared.fault.PushFault.TheVariants.{SegmentName, PathOutside, StanzaMismatch, SegmentMissing, TooLong, HeaderForm, SegmentSize, HeaderMismatch, Ambiguous, Duplicate}
use Rattle.cmd_archive_push.specs.WalCause.{FileCause}
use Rattle.cmd_archive_push.specs.LogFile.{known_file}
use Rattle.cmd_archive_push.specs.WalPath.{wal_path}
use Rattle.archive_spool.specs.Marks.{named, GivesMarks}
use Rattle.archive_spool.proofs.Marked.{marks_on, marks_still}
use Rattle.cmd_archive_push_async.specs.declared.files.push_marks.Drained.{Drained}
use Rattle.cmd_archive_push_async.specs.declared.files.pushing.Tried.{Tried}
use Rattle.cmd_archive_push_async.specs.declared.files.pushing.Tried.TheVariants.{Stored, Refused}
use Rattle.cmd_archive_push_async.specs.Draining.{AreOf, Drains, end_of}
use Rattle.cmd_archive_push_async.specs.Ends.{EndCause, EndCauseOf, IsLongFile, SkipsMissing, is_missing, three}
use Rattle.cmd_archive_push_async.specs.Fates.{Entry, absent, kept_of, marks_of, names_of, kept_files, all_marks, kept_number, refused_number, AreFates, HasNoOther, HasOther, IsFateOf, IsCountOf, Counts}
use Rattle.cmd_archive_push_async.specs.Pushing.{stored_of, tried_of, fate_of}
use Rattle.cmd_archive_push_async.specs.Putting.{PutsFrom, PutsOne}
use Rattle.cmd_archive_push_async.specs.Storing.{GoesByStores, stored}
use Rattle.cmd_archive_push_async.proofs.Goings.{stores_still, stores_on, stores_now}
use Rattle.cmd_archive_push_async.proofs.Putting.{files_on, puts_from_none, puts_from_absent, puts_from_wide, puts_from_on, puts_from_one, puts_from_failed}
use Rattle.cmd_archive_push_async.proofs.Stores.{stored_after}

-- ---- files of names

pub are_none : (f : Nodes) (names : List ArchiveName) → AreOf f names []
are_none f [] = refl
are_none f (name ∷ names) = inl (are_none f names)

pub are_more : (f : Nodes) (xs ys : List ArchiveName) (fs gs : List Named) → AreOf f xs fs → AreOf f ys gs → AreOf f (xs ++ ys) (fs ++ gs)
are_more f [] ys fs gs p q = subst (λ (l : List Named). AreOf f ys (l ++ gs)) (sym p) q
are_more f (x ∷ xs) ys fs gs (inl p) q = inl (are_more f xs ys fs gs p q)
are_more f (x ∷ xs) ys fs gs (inr p) q = inr (p.0, p.1 ++ gs, ap (λ (l : List Named). l ++ gs) p.2, p.3, are_more f xs ys p.1 gs p.4 q)

are_one : (f : Nodes) (name : ArchiveName) (bytes : Text) → file_bytes (f (wal_path (wal_text name))) ≡ Some bytes → AreOf f (name ∷ []) (named name bytes ∷ [])
are_one f name bytes is = inr (bytes, [], refl, is, refl)

-- ---- entries after entries

names_on : (xs ys : List Entry) → names_of (xs ++ ys) ≡ names_of xs ++ names_of ys
names_on [] ys = refl
names_on (e ∷ xs) ys = ap (λ (l : List ArchiveName). e.name ∷ l) (names_on xs ys)

marks_all : (stanza : Text) (xs ys : List Entry) → all_marks stanza (xs ++ ys) ≡ all_marks stanza xs ++ all_marks stanza ys
marks_all stanza [] ys = refl
marks_all stanza (e ∷ xs) ys = ap (λ (l : List Write). marks_of stanza e.name e.fate ++ l) (marks_all stanza xs ys) ∙ sym (append_assoc (marks_of stanza e.name e.fate) (all_marks stanza xs) (all_marks stanza ys))

kept_on : (xs ys : List Entry) → kept_number (xs ++ ys) ≡ kept_number xs + kept_number ys
kept_on [] ys = omega arith
kept_on (e ∷ xs) ys = let h = kept_on xs ys in omega (arith, h)

refused_on : (xs ys : List Entry) → refused_number (xs ++ ys) ≡ refused_number xs + refused_number ys
refused_on [] ys = omega arith
refused_on (e ∷ xs) ys = let h = refused_on xs ys in omega (arith, h)

pub counts_on : (xs ys : List Entry) (a b both : Drained) → both.pushed ≡ a.pushed + b.pushed → both.refused ≡ a.refused + b.refused → Counts xs a → Counts ys b → Counts (xs ++ ys) both
counts_on xs ys a b both pushed refused p q = record {
  pushed = let h = kept_on xs ys in omega (arith, h, pushed, p.pushed, q.pushed);
  refused = let h = refused_on xs ys in omega (arith, h, refused, p.refused, q.refused);
}

fates_on : (f : Nodes) (s : Stanza) (id : ArchiveId) (system : ℕ) (xs ys : List Entry) → AreFates f s id system xs → AreFates f (stored s id (kept_files xs)) id system ys → AreFates f s id system (xs ++ ys)
fates_on f s id system [] ys p q = q
fates_on f s id system (e ∷ xs) ys p q = (
  p.0,
  fates_on f (stored s id (kept_of e.name e.fate)) id system xs ys p.1 (subst (λ (k : Stanza). AreFates f k id system ys) (stored_after s id (kept_of e.name e.fate) (kept_files xs)) q),
)

-- ---- drains one after the other

module _ (stanza : Text) (id : ArchiveId) (system : ℕ) (f : Nodes) where
  -- where nothing was done with any file
  pub drains_not : (names : List ArchiveName) (repo spool : View) → Drains stanza id system f names None repo repo spool spool
  drains_not names repo spool = record {
    entries = [];
    more = [];
    of_names = are_none f names;
    ended = λ some. cc;
    counted = tt;
    repository = stores_still stanza id repo;
    puts = puts_from_none stanza id system f names repo;
    fates = λ s some now. tt;
    marks = marks_still stanza [] spool;
    part = now_none [] spool.now spool.now refl;
    whole = λ some. cc;
  }

  pub drains_none : (drained : Drained) → drained.pushed ≡ 0 → drained.refused ≡ 0 → (repo spool : View) → Drains stanza id system f [] (Some drained) repo repo spool spool
  drains_none drained pushed refused repo spool = record {
    entries = [];
    more = [];
    of_names = refl;
    ended = λ some. (refl, refl);
    counted = record { pushed = pushed; refused = refused };
    repository = stores_still stanza id repo;
    puts = puts_from_none stanza id system f [] repo;
    fates = λ s some now. tt;
    marks = marks_still stanza [] spool;
    part = now_none [] spool.now spool.now refl;
    whole = λ some. record { known = λ h. h; goes = λ g h is now. now_alike spool.now g h is now };
  }
    where
      now_alike : (o : Option Content) (g h : Content) → o ≡ Some g → o ≡ Some h → AllOf [] g h
      now_alike o g h is now = record { same = λ n apart. (let e : h ≡ g = cc in ap (λ (k : Content). k n) e) }

  -- a file that isn't there
  pub drains_absent : (name : ArchiveName) (drained : Drained) → drained.pushed ≡ 0 → drained.refused ≡ 0 → file_bytes (f (wal_path (wal_text name))) ≡ None → (repo spool : View)
      → Drains stanza id system f (name ∷ []) (Some drained) repo repo spool spool
  unfolding drains_none
  drains_absent name drained pushed refused lacks repo spool =
      let none = drains_none drained pushed refused repo spool in record {
        entries = record { name = name; fate = absent } ∷ [];
        more = [];
        of_names = inl refl;
        ended = λ some. (refl, refl);
        counted = record { pushed = pushed; refused = refused };
        repository = none.repository;
        puts = puts_from_absent stanza id system f name lacks repo;
        fates = λ s some now. (inl (lacks, refl), tt);
        marks = none.marks;
        part = none.part;
        whole = λ some. none.whole refl;
      }

  module _ (xs ys : List ArchiveName) (first : Drained) (last end : Option Drained) (repo mid_repo new_repo spool mid_spool new_spool : View)
      (p : Drains stanza id system f xs (Some first) repo mid_repo spool mid_spool) (q : Drains stanza id system f ys last mid_repo new_repo mid_spool new_spool)
      (ends : IsSome end → IsSome last) (counts : (es gs : List Entry) → Counts es first → IfSome last (Counts gs) → IfSome end (Counts (es ++ gs))) where
    none : p.more ≡ []
    none = (p.ended refl).1

    first_goes : GoesByStores stanza id (kept_files p.entries) [] repo mid_repo
    first_goes = subst (λ (l : List Named). GoesByStores stanza id (kept_files p.entries) l repo mid_repo) none p.repository

    pub drains_on : Drains stanza id system f (xs ++ ys) end repo new_repo spool new_spool
    drains_on = record {
      entries = p.entries ++ q.entries;
      more = q.more;
      of_names = subst (λ (l : List Named). AreOf f (xs ++ ys) l)
          (sym (append_assoc (kept_files p.entries) (kept_files q.entries) q.more) ∙ ap (λ (l : List Named). l ++ q.more) (sym (files_on p.entries q.entries)))
          (are_more f xs ys (kept_files p.entries) (kept_files q.entries ++ q.more)
          (subst (λ (l : List Named). AreOf f xs l) (append-nil (kept_files p.entries)) (subst (λ (l : List Named). AreOf f xs (kept_files p.entries ++ l)) none p.of_names)) q.of_names);
      ended = λ some. let e = q.ended (ends some) in (names_on p.entries q.entries ∙ ap₂ (λ (l m : List ArchiveName). l ++ m) (p.ended refl).0 e.0, e.1);
      counted = counts p.entries q.entries p.counted q.counted;
      repository = subst (λ (l : List Named). GoesByStores stanza id l q.more repo new_repo) (sym (files_on p.entries q.entries))
          (stores_on stanza id (kept_files p.entries) (kept_files q.entries) q.more repo mid_repo new_repo first_goes q.repository);
      puts = puts_from_on stanza id system f xs ys p.entries q.entries q.more repo mid_repo new_repo (p.ended refl).0 q.of_names
          (subst (λ (l : List Named). PutsFrom stanza id system f xs p.entries l repo mid_repo) none p.puts) q.puts;
      fates = λ s some now. fates_on f s id system p.entries q.entries (p.fates s some now)
          (q.fates (stored s id (kept_files p.entries)) (p.repository.known some) (stores_now stanza id (kept_files p.entries) repo mid_repo first_goes s some now));
      marks = subst (λ (l : List Named). GivesMarks stanza l spool new_spool) (sym (files_on p.entries q.entries))
          (marks_on stanza (kept_files p.entries) (kept_files q.entries) spool mid_spool new_spool p.marks q.marks);
      part = subst (λ (w : List Write). NowChanges (FirstOf w) spool.now new_spool.now) (sym (marks_all stanza p.entries q.entries))
          (now_writes_on (all_marks stanza p.entries) (all_marks stanza q.entries) spool.now mid_spool.now new_spool.now (p.whole refl) q.part);
      whole = λ some. subst (λ (w : List Write). NowChanges (AllOf w) spool.now new_spool.now) (sym (marks_all stanza p.entries q.entries))
          (now_writes_end (all_marks stanza p.entries) (all_marks stanza q.entries) spool.now mid_spool.now new_spool.now (p.whole refl) (q.whole (ends some)));
    }

  -- of more names
  pub drains_wide : (xs ys : List ArchiveName) (repo new_repo spool new_spool : View) → Drains stanza id system f xs None repo new_repo spool new_spool → Drains stanza id system f (xs ++ ys) None repo new_repo spool new_spool
  drains_wide xs ys repo new_repo spool new_spool p = record {
    entries = p.entries;
    more = p.more;
    of_names = subst (λ (l : List Named). AreOf f (xs ++ ys) l) (append-nil (kept_files p.entries ++ p.more)) (are_more f xs ys (kept_files p.entries ++ p.more) [] p.of_names (are_none f ys));
    ended = λ some. cc;
    counted = tt;
    repository = p.repository;
    puts = puts_from_wide stanza id system f xs ys p.entries p.more repo new_repo p.puts;
    fates = p.fates;
    marks = p.marks;
    part = p.part;
    whole = λ some. cc;
  }

  -- ---- the loop

  module _ (names : List ArchiveName) (i : ℕ) (d : ArchiveName) (lt : i < length names) (first : Drained) (repo mid_repo new_repo spool mid_spool new_spool : View)
      (p : Drains stanza id system f (take i names) (Some first) repo mid_repo spool mid_spool) where
    abbrev name : ArchiveName
    name = get_or names i d

    one_more : take i names ++ get_or names i d ∷ [] ≡ take (i + 1) names
    one_more = ap (λ (z : ArchiveName). take i names ++ z ∷ []) (get_or_default names i d name lt) ∙ sym (take_more names i name lt)

    -- its step
    pub drains_next : (last both : Drained) → both.pushed ≡ first.pushed + last.pushed → both.refused ≡ first.refused + last.refused
        → Drains stanza id system f (get_or names i d ∷ []) (Some last) mid_repo new_repo mid_spool new_spool → Drains stanza id system f (take (i + 1) names) (Some both) repo new_repo spool new_spool
    drains_next last both pushed refused q = subst (λ (l : List ArchiveName). Drains stanza id system f l (Some both) repo new_repo spool new_spool) one_more
        (drains_on (take i names) (name ∷ []) first (Some last) (Some both) repo mid_repo new_repo spool mid_spool new_spool p q (λ some. refl) (λ es gs h k. counts_on es gs first last both pushed refused h k))

    -- where it breaks off
    pub drains_so_far : Drains stanza id system f (get_or names i d ∷ []) None mid_repo new_repo mid_spool new_spool → Drains stanza id system f names None repo new_repo spool new_spool
    drains_so_far q = subst (λ (l : List ArchiveName). Drains stanza id system f l None repo new_repo spool new_spool) (take-append-drop (i + 1) names)
        (drains_wide (take (i + 1) names) (drop (i + 1) names) repo new_repo spool new_spool
        (subst (λ (l : List ArchiveName). Drains stanza id system f l None repo new_repo spool new_spool) one_more
        (drains_on (take i names) (name ∷ []) first None None repo mid_repo new_repo spool mid_spool new_spool p q (λ some. some) (λ es gs h k. tt))))

  -- where it ends
  pub drains_end : (names : List ArchiveName) (i : ℕ) (end : Option Drained) (repo new_repo spool new_spool : View) → length names ≤ i → Drains stanza id system f (take i names) end repo new_repo spool new_spool → Drains stanza id system f names end repo new_repo spool new_spool
  drains_end names i end repo new_repo spool new_spool ge p = subst (λ (l : List ArchiveName). Drains stanza id system f l end repo new_repo spool new_spool) (take_all i names ge) p

-- ---- by an answer

pub drains_by : (stanza : Text) (id : ArchiveId) (system : ℕ) (f : Nodes) (names : List ArchiveName) (repo new_repo spool new_spool : View) (r k : Result Drained (Halt PushFault)) → r ≡ k
    → Drains stanza id system f names (end_of r) repo new_repo spool new_spool → Drains stanza id system f names (end_of k) repo new_repo spool new_spool
drains_by stanza id system f names repo new_repo spool new_spool r k is d = subst (λ (x : Result Drained (Halt PushFault)). Drains stanza id system f names (end_of x) repo new_repo spool new_spool) is d

-- ---- one file

-- the bytes of a file that was opened
pub opened_bytes : (path : Name) (nodes : Option Nodes) (f : Nodes) → nodes ≡ Some f → IfSome nodes (λ g. IsSome (file_bytes (g path))) → (bytes : Text) × (file_bytes (f path) ≡ Some bytes) × (known_file nodes path ≡ Some bytes)
opened_bytes path nodes f is there =
    let h : IsSome (file_bytes (f path)) = let P : Option Nodes → Type 0 = λ o. IfSome o (λ g. IsSome (file_bytes (g path))) in let at : P (Some f) = subst P is there in at in
    let x = some_of (file_bytes (f path)) h in
    (x.0, x.1, ap (λ (o : Option Nodes). known_file o path) is ∙ x.1)
  where
    some_of : (v : Option Text) → IsSome v → (bytes : Text) × (v ≡ Some bytes)
    some_of None h = cc
    some_of (Some bytes) h = (bytes, refl)

-- a file that isn't there
pub absent_in : (nodes : Option Nodes) (f : Nodes) (path other : Name) → nodes ≡ Some f → path ≡ other → IfSome nodes (λ g. file_bytes (g path) ≡ None) → file_bytes (f other) ≡ None
absent_in nodes f path other is same lacks =
    let P : Option Nodes → Type 0 = λ o. IfSome o (λ g. file_bytes (g path) ≡ None) in let at : P (Some f) = subst P is lacks in
    subst (λ (n : Name). file_bytes (f n) ≡ None) same at

module _ (stanza : Text) (id : ArchiveId) (system : ℕ) (f : Nodes) (name : ArchiveName) (bytes : Text) (known : file_bytes (f (wal_path (wal_text name))) ≡ Some bytes) (repo new_repo spool new_spool : View) where
  abbrev n : Named
  n = named name bytes

  -- a file whose push was answered, and what was marked of it
  pub drains_one : (tried : Tried) (r : Result Drained (Halt PushFault)) → GoesByStores stanza id (stored_of (Ok tried) (named name bytes)) [] repo new_repo
      → PutsOne stanza id system name bytes (Ok tried) repo new_repo
      → ((s : Stanza) → IsSome repo.now → NowRepresents stanza (Some s) repo.now → IsFateOf (HasNoOther s id name) (HasOther s id name) system name bytes (fate_of tried bytes))
      → GivesMarks stanza (kept_of name (fate_of tried bytes)) spool new_spool → NowChanges (FirstOf (marks_of stanza name (fate_of tried bytes))) spool.now new_spool.now
      → OnOk r (NowChanges (AllOf (marks_of stanza name (fate_of tried bytes))) spool.now new_spool.now) → IfOk r (IsCountOf (fate_of tried bytes))
      → Drains stanza id system f (name ∷ []) (end_of r) repo new_repo spool new_spool
  drains_one (Stored sum) (Ok d) goes puts fate marks part whole counted = record {
    entries = record { name = name; fate = fate_of (Stored sum) bytes } ∷ [];
    more = [];
    of_names = are_one f name bytes known;
    ended = λ some. (refl, refl);
    counted = record { pushed = counted.pushed; refused = counted.refused };
    repository = goes;
    puts = puts_from_one stanza id system f name bytes known repo new_repo (Stored sum) puts;
    fates = λ s some now. (inr (bytes, known, fate s some now), tt);
    marks = marks;
    part = part;
    whole = λ some. whole;
  }
  drains_one (Stored sum) (Err e) goes puts fate marks part whole counted = record {
    entries = record { name = name; fate = fate_of (Stored sum) bytes } ∷ [];
    more = [];
    of_names = are_one f name bytes known;
    ended = λ some. (refl, refl);
    counted = tt;
    repository = goes;
    puts = puts_from_one stanza id system f name bytes known repo new_repo (Stored sum) puts;
    fates = λ s some now. (inr (bytes, known, fate s some now), tt);
    marks = marks;
    part = part;
    whole = λ some. cc;
  }
  drains_one (Refused fault line) (Ok d) goes puts fate marks part whole counted = record {
    entries = record { name = name; fate = fate_of (Refused fault line) bytes } ∷ [];
    more = [];
    of_names = are_none f (name ∷ []);
    ended = λ some. (refl, refl);
    counted = record { pushed = counted.pushed; refused = counted.refused };
    repository = goes;
    puts = puts_from_one stanza id system f name bytes known repo new_repo (Refused fault line) puts;
    fates = λ s some now. (inr (bytes, known, fate s some now), tt);
    marks = marks;
    part = part;
    whole = λ some. whole;
  }
  drains_one (Refused fault line) (Err e) goes puts fate marks part whole counted = record {
    entries = record { name = name; fate = fate_of (Refused fault line) bytes } ∷ [];
    more = [];
    of_names = are_none f (name ∷ []);
    ended = λ some. (refl, refl);
    counted = tt;
    repository = goes;
    puts = puts_from_one stanza id system f name bytes known repo new_repo (Refused fault line) puts;
    fates = λ s some now. (inr (bytes, known, fate s some now), tt);
    marks = marks;
    part = part;
    whole = λ some. cc;
  }

  -- a file whose push failed
  pub drains_failed : (r : Result Tried (Halt PushFault)) (halt : Halt PushFault) → r ≡ Err halt → GoesByStores stanza id (stored_of r (named name bytes)) (tried_of r (named name bytes)) repo new_repo
      → PutsOne stanza id system name bytes r repo new_repo → Drains stanza id system f (name ∷ []) None repo new_repo spool spool
  unfolding drains_not
  drains_failed r halt is goes puts =
      let not = drains_not stanza id system f (name ∷ []) repo spool in record {
        entries = [];
        more = n ∷ [];
        of_names = are_one f name bytes known;
        ended = λ some. cc;
        counted = tt;
        repository = subst (λ (k : Result Tried (Halt PushFault)). GoesByStores stanza id (stored_of k n) (tried_of k n) repo new_repo) is goes;
        puts = puts_from_failed stanza id system f name bytes known repo new_repo halt (subst (λ (k : Result Tried (Halt PushFault)). PutsOne stanza id system name bytes k repo new_repo) is puts);
        fates = λ s some now. tt;
        marks = not.marks;
        part = not.part;
        whole = λ some. cc;
      }

-- a push that came to an answer
pub answered_goes : (stanza : Text) (id : ArchiveId) (n : Named) (repo new_repo : View) (r : Result Tried (Halt PushFault)) (tried : Tried) → r ≡ Ok tried
    → GoesByStores stanza id (stored_of r n) (tried_of r n) repo new_repo → GoesByStores stanza id (stored_of (Ok tried) n) [] repo new_repo
answered_goes stanza id n repo new_repo r tried is goes = subst (λ (k : Result Tried (Halt PushFault)). GoesByStores stanza id (stored_of k n) (tried_of k n) repo new_repo) is goes

pub answered_puts : (stanza : Text) (id : ArchiveId) (system : ℕ) (name : ArchiveName) (bytes : Text) (repo new_repo : View) (r : Result Tried (Halt PushFault)) (tried : Tried) → r ≡ Ok tried
    → PutsOne stanza id system name bytes r repo new_repo → PutsOne stanza id system name bytes (Ok tried) repo new_repo
answered_puts stanza id system name bytes repo new_repo r tried is puts = subst (λ (k : Result Tried (Halt PushFault)). PutsOne stanza id system name bytes k repo new_repo) is puts

-- ---- why a file ends the drain

module _ (P Q : PushFault → Type 0) (repo spool tree wide_repo wide_spool wide_tree : Type 0) where
  pub ends_wide : ((e : PushFault) → P e → Q e) → (repo → wide_repo) → (spool → wide_spool) → (tree → wide_tree) → (halt : Halt PushFault)
      → HaltCause P (rose_in (three repo spool tree)) halt → HaltCause Q (rose_in (three wide_repo wide_spool wide_tree)) halt
  ends_wide wider a b c (Refused_ e) h = wider e h
  ends_wide wider a b c (Failed Repo) h = a h
  ends_wide wider a b c (Failed Spool) h = b h
  ends_wide wider a b c (Failed TheDataFolder) h = c h
  ends_wide wider a b c (Failed Server) h = h
  ends_wide wider a b c (Failed Others) h = h
  ends_wide wider a b c (Failed Clock) h = h
  ends_wide wider a b c (Failed Locks) h = h
  ends_wide wider a b c (Failed Config) h = h
  ends_wide wider a b c (Failed Output) h = h
  ends_wide wider a b c NoMemory h = tt

-- a call of the spool alone
pub ends_by_spool : (Q : PushFault → Type 0) (repo spool tree : Type 0) (halt : Halt PushFault) → HaltCause Never (Only Spool spool) halt → HaltCause Q (rose_in (three repo spool tree)) halt
ends_by_spool Q repo spool tree (Refused_ e) h = absurd h
ends_by_spool Q repo spool tree (Failed object) h = subst (λ (o : Object). rose_in (three repo spool tree) o) (sym h.0) h.1
ends_by_spool Q repo spool tree NoMemory h = tt

-- a look at the file alone, which is there or is too long
module _ (stanza : Text) (id : ArchiveId) (nodes : Option Nodes) (now : Option Content) (name : ArchiveName) (path text : Text) (limit : ℕ) (repo spool tree : Type 0) (text_is : text ≡ wal_text name) (limit_is : limit ≡ limit_of name) where
  long_ends : (word : Text) (most : ℕ) → (word ≡ wal_path text) × (most ≡ limit) × IfSome nodes (λ f. IsSomeAnd (file_bytes (f (wal_path text))) (λ b. limit < length b)) → (most ≡ limit_of name) × IsLongFile nodes name word most
  long_ends word most h = (
    h.1 ∙ limit_is,
    (h.0 ∙ ap wal_path text_is, subst (λ (w : Text). IfSome nodes (λ f. IsSomeAnd (file_bytes (f w)) (λ b. most < length b))) (sym h.0) (subst (λ (m : ℕ). IfSome nodes (λ f. IsSomeAnd (file_bytes (f (wal_path text))) (λ b. m < length b))) (sym h.1) h.2)),
  )

  pub ends_by_look : (halt : Halt PushFault) → HaltCause (FileCause path text limit nodes) (Only TheDataFolder tree) halt
      → (is_missing halt ≡ true) ⊎ HaltCause (EndCause stanza id nodes now name) (rose_in (three repo spool tree)) halt
  ends_by_look (Refused_ (SegmentName w)) h = absurd h
  ends_by_look (Refused_ (PathOutside w)) h = absurd h
  ends_by_look (Refused_ (StanzaMismatch k f)) h = absurd h
  ends_by_look (Refused_ (SegmentMissing w)) h = inl refl
  ends_by_look (Refused_ (TooLong w l)) h = let x = long_ends (string_bytes w) l h in inr (x.0, inl x.1)
  ends_by_look (Refused_ (HeaderForm i)) h = absurd h
  ends_by_look (Refused_ (SegmentSize t f)) h = absurd h
  ends_by_look (Refused_ (HeaderMismatch k f)) h = absurd h
  ends_by_look (Refused_ (Ambiguous a b)) h = absurd h
  ends_by_look (Refused_ (Duplicate k f)) h = absurd h
  ends_by_look (Failed object) h = inr (subst (λ (o : Object). rose_in (three repo spool tree) o) (sym h.0) h.1)
  ends_by_look NoMemory h = inr tt

  -- the result of it where it isn't opened
  pub look_ends : (halt : Halt PushFault) → HaltCause (FileCause path text limit nodes) (Only TheDataFolder tree) halt → (r : Result Drained (Halt PushFault)) → SkipsMissing halt r
      → IfErr r (HaltCause (EndCause stanza id nodes now name) (rose_in (three repo spool tree)))
  look_ends halt cause (Ok d) h = tt
  look_ends halt cause (Err end) h = subst (λ (x : Halt PushFault). HaltCause (EndCause stanza id nodes now name) (rose_in (three repo spool tree)) x) (sym h.1)
      (⊎_elim (λ (is : is_missing halt ≡ true). let u : ◌≡◌ {A = Bool} false true = sym h.0 ∙ is in cc) (λ k. k) (ends_by_look halt cause))

  lacks : (halt : Halt PushFault) → is_missing halt ≡ true → HaltCause (FileCause path text limit nodes) (Only TheDataFolder tree) halt → IfSome nodes (λ f. file_bytes (f (wal_path text)) ≡ None)
  lacks (Refused_ (SegmentName w)) is h = absurd h
  lacks (Refused_ (PathOutside w)) is h = absurd h
  lacks (Refused_ (StanzaMismatch k f)) is h = absurd h
  lacks (Refused_ (SegmentMissing w)) is h = h.1
  lacks (Refused_ (TooLong w l)) is h = cc
  lacks (Refused_ (HeaderForm i)) is h = absurd h
  lacks (Refused_ (SegmentSize t f)) is h = absurd h
  lacks (Refused_ (HeaderMismatch k f)) is h = absurd h
  lacks (Refused_ (Ambiguous a b)) is h = absurd h
  lacks (Refused_ (Duplicate k f)) is h = absurd h
  lacks (Failed object) is h = cc
  lacks NoMemory is h = cc

  pub look_drains : (system : ℕ) (f : Nodes) → nodes ≡ Some f → (halt : Halt PushFault) → HaltCause (FileCause path text limit nodes) (Only TheDataFolder tree) halt → (r : Result Drained (Halt PushFault)) → SkipsMissing halt r
      → (a s : View) → Drains stanza id system f (name ∷ []) (end_of r) a a s s
  look_drains system f is halt cause (Ok d) h a s = drains_absent stanza id system f name d h.1 h.2 (absent_in nodes f (wal_path text) (wal_path (wal_text name)) is (ap wal_path text_is) (lacks halt h.0 cause)) a s
  look_drains system f is halt cause (Err end) h a s = drains_not stanza id system f (name ∷ []) a s

pub skips_few : (halt : Halt PushFault) (r : Result Drained (Halt PushFault)) → SkipsMissing halt r → IfOk r (λ d. d.pushed + d.refused ≤ 1)
skips_few halt (Ok d) h = omega (arith, h.1, h.2)
skips_few halt (Err end) h = tt

pub counted_of : (r : Result Drained (Halt PushFault)) (bytes : Text) (tried : Tried) → IfOk r (λ d. (b : Text) → IsCountOf (fate_of tried b) d) → IfOk r (IsCountOf (fate_of tried bytes))
counted_of (Ok d) bytes tried h = h bytes
counted_of (Err e) bytes tried h = tt

pub marked_ends : (r : Result Drained (Halt PushFault)) (Q : PushFault → Type 0) (repo spool tree : Type 0) → IfErr r (HaltCause Never (Only Spool spool)) → IfErr r (HaltCause Q (rose_in (three repo spool tree)))
marked_ends (Ok d) Q repo spool tree h = tt
marked_ends (Err e) Q repo spool tree h = ends_by_spool Q repo spool tree e h

-- ---- after earlier calls

module _ (stanza : Text) (id : ArchiveId) (nodes mid : Option Nodes) (now : Option Content) (name : ArchiveName) where
  pub later_ends : (repo spool : Type 0) (a b c : ℕ) → mid ≡ nodes → a ≤ b → (r : Result Drained (Halt PushFault)) → IfErr r (HaltCause (EndCause stanza id mid now name) (rose_in (three repo spool (Rises b c))))
      → IfErr r (HaltCause (EndCause stanza id nodes now name) (rose_in (three repo spool (Rises a c))))
  later_ends repo spool a b c same le (Ok d) h = tt
  later_ends repo spool a b c same le (Err halt) h =
      ends_wide (EndCause stanza id mid now name) (EndCause stanza id nodes now name) repo spool (Rises b c) repo spool (Rises a c)
      (λ e k. subst (λ (o : Option Nodes). EndCause stanza id o now name e) same k) (λ k. k) (λ k. k) (λ k. rises_from a b c le k) halt h

in_at : (xs : List ArchiveName) (i : ℕ) (d : ArchiveName) → i < length xs → In (get_or xs i d) xs
in_at [] i d lt = absurd (omega arith)
in_at (x ∷ xs) zero d lt = inl refl
in_at (x ∷ xs) (suc i) d lt = inr (in_at xs i d (omega arith))

-- one of the names, after the others before it
pub so_far_ends : (stanza : Text) (id : ArchiveId) (nodes mid : Option Nodes) (now : Option Content) (names : List ArchiveName) (i : ℕ) (d : ArchiveName) → i < length names → mid ≡ nodes
    → (a b c k l m x y z : ℕ) → a ≤ b → k ≤ l → x ≤ y → (halt : Halt PushFault)
    → HaltCause (EndCause stanza id mid now (get_or names i d)) (rose_in (three (Rises b c) (Rises l m) (Rises y z))) halt
    → HaltCause (EndCauseOf stanza id nodes now names) (rose_in (three (Rises a c) (Rises k m) (Rises x z))) halt
so_far_ends stanza id nodes mid now names i d lt same a b c k l m x y z p q r halt h =
    ends_wide (EndCause stanza id mid now (get_or names i d)) (EndCauseOf stanza id nodes now names) (Rises b c) (Rises l m) (Rises y z) (Rises a c) (Rises k m) (Rises x z)
    (λ e j. (get_or names i d, in_at names i d lt, subst (λ (o : Option Nodes). EndCause stanza id o now (get_or names i d) e) same j))
    (λ j. rises_from a b c p j) (λ j. rises_from k l m q j) (λ j. rises_from x y z r j) halt h
