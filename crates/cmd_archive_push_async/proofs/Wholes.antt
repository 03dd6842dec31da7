-- A drain of all files that are ready.
use Rattle.std.proofs.Common.{◌≡◌, ⊎_elim, Bool, true, false, List, [], Option, Some, None, Result, Ok, Err, refl, ap, ◌∙◌, sym, subst, arith}
use Rattle.std.specs.Prelude.{ℕ, ◌≤◌, IfSome, IfOk, IfErr, IsSome, IsTrue}
use Rattle.std.proofs.lemmas.List.{append-nil}
use Rattle.base_devices.specs.Cause.{Rises}
use Rattle.base_devices.specs.Content.{Content, LiesDirectlyIn, Holds, is_below}
use Rattle.base_devices.specs.Crash.{IsTemporary, NowChanges, AllOf, FirstOf}
use Rattle.base_devices.specs.Moments.{View, LeavesNoMore, SyncsFolders, is_unsynced}
use Rattle.base_devices.specs.DataFolder.{Nodes}
use Rattle.base_disk.proofs.Images.{Law}
use Rattle.base_model.specs.declared.wal.ArchiveId.{ArchiveId}
use Rattle.base_model.specs.declared.wal.ArchiveName.{ArchiveName}
use Rattle.base_model.specs.Names.{archive_folder}
use Rattle.base_model.specs.Steps.{Named}
use Rattle.base_model.specs.Text.{Text, In}
use Rattle.archive_lookup.specs.Stored.{ChangesArchive}
use Rattle.cmd_types.specs.declared.stages.halt.Halt.{Halt}
use Rattle.cmd_types.specs.declared.stages.halt.Halt.TheVariants.{Refused, Failed, NoMemory}
use Rattle.cmd_types.specs.declared.stages.object.Object.{Object}
use Rattle.cmd_types.specs.declared.stages.object.Object.TheVariants.{TheDataFolder, Spool}
use Rattle.cmd_types.specs.Halts.{HaltCause, Never, Only}
use Rattle.cmd_types.specs.Risen.{rose_in}
use Rattle.cmd_types.proofs.Counts.{rises_from}
use Rattle.cmd_archive_push.specs.declared.fault.PushFault.{PushFault}
use Rattle.archive_spool.specs.Clearing.{IsStale, Clears, IsCleared}
use Rattle.archive_spool.specs.Marks.{GivesMarks}
use Rattle.archive_spool.proofs.Marked.{marks_on, marks_none}
use Rattle.cmd_archive_push_async.specs.declared.files.push_marks.Drained.{Drained}
use Rattle.cmd_archive_push_async.specs.Draining.{Drains, DrainsFrom, end_of}
use Rattle.cmd_archive_push_async.specs.Ends.{EndCause, EndCauseOf, three}
use Rattle.cmd_archive_push_async.specs.Fates.{Counts, kept_files, all_marks}
use Rattle.cmd_archive_push_async.specs.Ready.{IsReady, AreReady}
use Rattle.cmd_archive_push_async.specs.Whole.{DrainsNamed, EndCauseReady, HasMarksOf, marks_folder}
use Rattle.cmd_archive_push_async.proofs.Following.{drains_not, ends_wide, ends_by_spool}
use Rattle.cmd_archive_push_async.proofs.Ran.{drains_log}

module _ (stanza : Text) (id : ArchiveId) (system : ℕ) (f : Nodes) (names : List ArchiveName) where
  -- after the marks that were removed
  after_clear : (end : Option Drained) (repo new_repo spool mid new_spool : View) → GivesMarks stanza [] spool mid → Drains stanza id system f names end repo new_repo mid new_spool
      → DrainsFrom stanza id system f names end mid.now repo new_repo spool new_spool
  after_clear end repo new_repo spool mid new_spool gone p = record {
    entries = p.entries;
    more = p.more;
    of_names = p.of_names;
    ended = p.ended;
    counted = p.counted;
    repository = p.repository;
    puts = p.puts;
    fates = p.fates;
    marks = marks_on stanza [] (kept_files p.entries) spool mid new_spool gone p.marks;
    part = p.part;
    whole = p.whole;
  }

  pub named_drains : (end : Option Drained) (repo new_repo spool mid new_spool : View) → Law spool → Law new_spool
      → GivesMarks stanza [] spool mid → Clears (IsStale stanza names) spool.now mid.now → (IsSome end → IsCleared (IsStale stanza names) spool.now mid.now)
      → Drains stanza id system f names end repo new_repo mid new_spool → DrainsNamed stanza id system f names end repo new_repo spool new_spool
  named_drains end repo new_repo spool mid new_spool law new_law gone clears cleared p = record {
    held = mid.now;
    cleared = cleared;
    log = drains_log stanza id system f names end mid.now repo new_repo spool new_spool law new_law clears.known (after_clear end repo new_repo spool mid new_spool gone p);
  }

  -- where the marks weren't all removed
  pub unclear_drains : (repo spool mid : View) → Law spool → Law mid → GivesMarks stanza [] spool mid → Clears (IsStale stanza names) spool.now mid.now
      → DrainsNamed stanza id system f names None repo repo spool mid
  unclear_drains repo spool mid law new_law gone clears =
      named_drains None repo repo spool mid mid law new_law gone clears (λ some. cc) (drains_not stanza id system f names repo mid)

  -- where nothing was done
  pub undone_drains : (repo spool : View) → Law spool → DrainsNamed stanza id system f names None repo repo spool spool
  undone_drains repo spool law = record {
    held = spool.now;
    cleared = λ some. cc;
    log = drains_log stanza id system f names None spool.now repo repo spool spool law law (λ some. some) (drains_not stanza id system f names repo spool);
  }

-- ---- why it ends

pub ready_at : (nodes : Option Nodes) (f : Nodes) (names : List ArchiveName) → nodes ≡ Some f → IfSome nodes (λ f. AreReady f names) → AreReady f names
ready_at nodes f names is h = let P : Option Nodes → Type 0 = λ o. IfSome o (λ f. AreReady f names) in let at : P (Some f) = subst P is h in at

ready_in : (nodes : Option Nodes) (names : List ArchiveName) (name : ArchiveName) → IfSome nodes (λ f. AreReady f names) → In name names → IfSome nodes (λ f. IsReady f name)
ready_in None names name h at = tt
ready_in (Some f) names name h at = h.each name at

-- the list of what is ready failed
pub ends_by_list : (Q : PushFault → Type 0) (repo spool tree : Type 0) (halt : Halt PushFault) → HaltCause Never (Only TheDataFolder tree) halt → HaltCause Q (rose_in (three repo spool tree)) halt
ends_by_list Q repo spool tree (Refused e) h = absurd h
ends_by_list Q repo spool tree (Failed object) h = subst (λ (o : Object). rose_in (three repo spool tree) o) (sym h.0) h.1
ends_by_list Q repo spool tree NoMemory h = tt

-- one of the files that are ready
pub ready_ends : (stanza : Text) (id : ArchiveId) (nodes mid : Option Nodes) (now : Option Content) (names : List ArchiveName) → mid ≡ nodes → IfSome nodes (λ f. AreReady f names)
    → (repo spool : Type 0) (a b c : ℕ) → a ≤ b → (r : Result Drained (Halt PushFault)) → IfErr r (HaltCause (EndCauseOf stanza id mid now names) (rose_in (three repo spool (Rises b c))))
    → IfErr r (HaltCause (EndCauseReady stanza id nodes now) (rose_in (three repo spool (Rises a c))))
ready_ends stanza id nodes mid now names same ready repo spool a b c le (Ok d) h = tt
ready_ends stanza id nodes mid now names same ready repo spool a b c le (Err halt) h =
    ends_wide (EndCauseOf stanza id mid now names) (EndCauseReady stanza id nodes now) repo spool (Rises b c) repo spool (Rises a c)
    (λ e k. (k.0, ready_in nodes names k.0 ready k.1, subst (λ (o : Option Nodes). EndCause stanza id o now k.0 e) same k.2)) (λ k. k) (λ k. k) (λ k. rises_from a b c le k) halt h

-- after the marks that were removed
pub cleared_ends : (Q : PushFault → Type 0) (repo tree : Type 0) (a b c : ℕ) → a ≤ b → (r : Result Drained (Halt PushFault)) → IfErr r (HaltCause Q (rose_in (three repo (Rises b c) tree))) → IfErr r (HaltCause Q (rose_in (three repo (Rises a c) tree)))
cleared_ends Q repo tree a b c le (Ok d) h = tt
cleared_ends Q repo tree a b c le (Err halt) h = ends_wide Q Q repo (Rises b c) tree repo (Rises a c) tree (λ e k. k) (λ k. k) (λ k. rises_from a b c le k) (λ k. k) halt h

pub names_as : (nodes : Option Nodes) (seen names : List ArchiveName) → seen ≡ names → IfSome nodes (λ f. AreReady f names) → IfSome nodes (λ f. AreReady f seen)
names_as nodes seen names same h = subst (λ (l : List ArchiveName). IfSome nodes (λ f. AreReady f l)) (sym same) h

-- ---- after the sync at its end

module _ (stanza : Text) (id : ArchiveId) (system : ℕ) (f : Nodes) (names : List ArchiveName) where
  read_from : (end last : Option Drained) (held : Option Content) (repo new_repo spool mid new_spool : View) → (IsSome last → last ≡ end) → LeavesNoMore mid new_spool → new_spool.now ≡ mid.now
      → DrainsFrom stanza id system f names end held repo new_repo spool mid → DrainsFrom stanza id system f names last held repo new_repo spool new_spool
  read_from end last held repo new_repo spool mid new_spool ends rests same p = record {
    entries = p.entries;
    more = p.more;
    of_names = p.of_names;
    ended = λ some. p.ended (subst (λ (o : Option Drained). IsSome o) (ends some) some);
    counted = counts last ends;
    repository = p.repository;
    puts = p.puts;
    fates = p.fates;
    marks = subst (λ (l : List Named). GivesMarks stanza l spool new_spool) (append-nil (kept_files p.entries))
        (marks_on stanza (kept_files p.entries) [] spool mid new_spool p.marks (marks_none stanza [] mid new_spool rests));
    part = subst (λ (o : Option Content). NowChanges (FirstOf (all_marks stanza p.entries)) held o) (sym same) p.part;
    whole = λ some. subst (λ (o : Option Content). NowChanges (AllOf (all_marks stanza p.entries)) held o) (sym same) (p.whole (subst (λ (o : Option Drained). IsSome o) (ends some) some));
  }
    where
      counts : (o : Option Drained) → (IsSome o → o ≡ end) → IfSome o (Counts p.entries)
      counts None e = tt
      counts (Some d) e = let P : Option Drained → Type 0 = λ o. IfSome o (Counts p.entries) in let h : P (Some d) = subst P (sym (e refl)) p.counted in h

  ended_by : (r : Result Drained (Halt PushFault)) (d : Drained) → IfOk r (λ x. x ≡ d) → IsSome (end_of r) → end_of r ≡ Some d
  ended_by (Ok x) d same some = ap (λ (k : Drained). Some k) same
  ended_by (Err e) d same some = cc

  pub settled_drains : (repo new_repo spool mid new_spool : View) → Law spool → Law new_spool → (r : Result Drained (Halt PushFault)) (d : Drained) → IfOk r (λ x. x ≡ d) → LeavesNoMore mid new_spool → new_spool.now ≡ mid.now
      → DrainsNamed stanza id system f names (Some d) repo new_repo spool mid → DrainsNamed stanza id system f names (end_of r) repo new_repo spool new_spool
  settled_drains repo new_repo spool mid new_spool law new_law r d same rests now p = record {
    held = p.held;
    cleared = λ some. p.cleared refl;
    log = drains_log stanza id system f names (end_of r) p.held repo new_repo spool new_spool law new_law (p.cleared refl).clears.known
        (read_from (Some d) (end_of r) p.held repo new_repo spool mid new_spool (ended_by r d same) rests now p.log.drains);
  }

-- what the sync leaves
pub settled_marks : (stanza : Text) (old mid new : View) → ChangesArchive stanza old mid → new.now ≡ mid.now → SyncsFolders (LiesDirectlyIn (marks_folder stanza)) mid new → HasMarksOf stanza old new
settled_marks stanza old mid new only same settles n v lies lasting synced may = subst (λ (o : Option Content). Holds o n v) (sym same) (settles n v lies (still (is_unsynced mid n) refl) may)
  where
    still : (b : Bool) → is_unsynced mid n ≡ b → is_unsynced mid n ≡ false
    still false e = e
    still true e = absurd (⊎_elim (λ (was : old.unsynced old.moment n ≡ true). (let u : ◌≡◌ {A = Bool} false true = sym synced ∙ was in cc))
        (λ (x : IsTrue (is_below (archive_folder stanza) n) × IsTemporary n). lasting x.1) (only.time.unsyncs mid.moment n only.time.later (omega arith) e))

-- the sync failed
pub ends_by_settle : (Q : PushFault → Type 0) (repo tree : Type 0) (a b c : ℕ) → a ≤ b → (r : Result Drained (Halt PushFault)) → IfErr r (HaltCause Never (Only Spool (Rises b c))) → IfErr r (HaltCause Q (rose_in (three repo (Rises a c) tree)))
ends_by_settle Q repo tree a b c le (Ok d) h = tt
ends_by_settle Q repo tree a b c le (Err halt) h = ends_wide Q Q repo (Rises b c) tree repo (Rises a c) tree (λ e k. k) (λ k. k) (λ k. rises_from a b c le k) (λ k. k) halt (ends_by_spool Q repo (Rises b c) tree halt h)

pub named_known : (stanza : Text) (id : ArchiveId) (system : ℕ) (f : Nodes) (names : List ArchiveName) (repo new_repo spool new_spool : View) (r : Result Drained (Halt PushFault)) (d : Drained) → r ≡ Ok d
    → DrainsNamed stanza id system f names (end_of r) repo new_repo spool new_spool → DrainsNamed stanza id system f names (Some d) repo new_repo spool new_spool
named_known stanza id system f names repo new_repo spool new_spool r d is p = subst (λ (k : Result Drained (Halt PushFault)). DrainsNamed stanza id system f names (end_of k) repo new_repo spool new_spool) is p

pub failed_named : (stanza : Text) (id : ArchiveId) (system : ℕ) (f : Nodes) (names : List ArchiveName) (repo new_repo spool new_spool : View) (r : Result Drained (Halt PushFault)) (halt : Halt PushFault) → r ≡ Err halt
    → DrainsNamed stanza id system f names (end_of r) repo new_repo spool new_spool → DrainsNamed stanza id system f names None repo new_repo spool new_spool
failed_named stanza id system f names repo new_repo spool new_spool r halt is p = subst (λ (k : Result Drained (Halt PushFault)). DrainsNamed stanza id system f names (end_of k) repo new_repo spool new_spool) is p

pub ready_failed : (stanza : Text) (id : ArchiveId) (nodes mid : Option Nodes) (now : Option Content) (names : List ArchiveName) → mid ≡ nodes → IfSome nodes (λ f. AreReady f names)
    → (repo spool : Type 0) (a b c : ℕ) → a ≤ b → (halt : Halt PushFault) → HaltCause (EndCauseOf stanza id mid now names) (rose_in (three repo spool (Rises b c))) halt
    → HaltCause (EndCauseReady stanza id nodes now) (rose_in (three repo spool (Rises a c))) halt
ready_failed stanza id nodes mid now names same ready repo spool a b c le halt h = ready_ends stanza id nodes mid now names same ready repo spool a b c le (Err halt) h
