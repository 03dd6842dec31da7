-- Puts of files one after another, and what then lies of each.
use Rattle.std.proofs.Common.{◌≡◌, ◌≢◌, ◌⊎◌, ⊎_elim, inl, inr, Bool, true, false, List, [], ◌∷◌, ◌++◌, Option, Some, None, Result, Ok, Err, refl, ap, ◌∙◌, sym, subst, append_assoc}
use Rattle.std.specs.Prelude.{ℕ, IfSome, IsSome}
use Rattle.std.proofs.lemmas.List.{append-nil}
use Rattle.sha1.specs.Sha1.{sha1}
use Rattle.base_text.specs.Sum.{IsSum}
use Rattle.base_devices.specs.Content.{Content, Name}
use Rattle.base_devices.specs.Crash.{Crash, IsAlikeAt, IsTemporary, NowChanges}
use Rattle.base_devices.specs.DataFolder.{Nodes, file_bytes}
use Rattle.base_devices.specs.Moments.{View, LeavesNoMore}
use Rattle.base_devices.proofs.Crashes.{crash_ends, crash_on}
use Rattle.base_devices.proofs.Nows.{known_as, now_on}
use Rattle.base_model.specs.declared.wal.ArchiveId.{ArchiveId}
use Rattle.base_model.specs.declared.wal.ArchiveName.{ArchiveName}
use Rattle.base_model.specs.Names.{archive_folder, wal_text}
use Rattle.base_model.specs.Represents.{IsArchiveFile, IsArchivePlace, IsWalName}
use Rattle.base_model.specs.Steps.{Named}
use Rattle.base_model.specs.Text.{Text, In}
use Rattle.base_model.specs.Walks.{IsSynced}
use Rattle.base_model.proofs.Temporary.{file_lasts}
use Rattle.repo_pair.proofs.Lasts.{ends_alike}
use Rattle.archive_lookup.specs.Stored.{archive_path, StoresOnly}
use Rattle.archive_lookup.proofs.OnePath.{one_path}
use Rattle.archive_store.specs.Pushes.{IsPathOf}
use Rattle.archive_store.specs.Still.{still_self}
use Rattle.archive_store.proofs.AlikeFiles.{alike_only}
use Rattle.archive_spool.specs.Marks.{named}
use Rattle.cmd_types.specs.declared.stages.halt.Halt.{Halt}
use Rattle.cmd_archive_push.specs.declared.fault.PushFault.{PushFault}
use Rattle.cmd_archive_push.specs.declared.fault.PushFault.TheVariants.{SegmentName, PathOutside, StanzaMismatch, SegmentMissing, TooLong, HeaderForm, SegmentSize, HeaderMismatch, Ambiguous, Duplicate}
use Rattle.cmd_archive_push.specs.Putting.{IsPutAt, Puts, PutsFiles}
use Rattle.cmd_archive_push.specs.WalPath.{wal_path}
use Rattle.cmd_archive_push.proofs.Putting.{puts_still}
use Rattle.cmd_archive_push_async.specs.declared.files.pushing.Tried.{Tried}
use Rattle.cmd_archive_push_async.specs.declared.files.pushing.Tried.TheVariants.{Stored, Refused}
use Rattle.cmd_archive_push_async.specs.Draining.{AreOf}
use Rattle.cmd_archive_push_async.specs.Fates.{Entry, Fate, absent, saved, refused, AreFound, IsContentOf, IsFate, IsFateOf, kept_files, kept_of, names_of}
use Rattle.cmd_archive_push_async.specs.Pushing.{fate_of}
use Rattle.cmd_archive_push_async.specs.Putting.{AreApart, PutsFrom, PutsOne}
use Rattle.cmd_archive_push_async.proofs.Goings.{in_either}
use Rattle.cmd_archive_push_async.proofs.Stores.{in_left, in_right}

-- ---- one after another

module _ (stanza : Text) (id : ArchiveId) where
  -- of more files
  pub put_more : (xs ys : List Named) (g : Content) (n : Name) → ((m : Named) → In m xs → In m ys) → IsPutAt stanza id xs g n → IsPutAt stanza id ys g n
  put_more xs ys g n more p = record { file = p.file; one = more p.file p.one; place = p.place; is = p.is; has = p.has }

  puts_more : (xs ys : List Named) → ((m : Named) → In m xs → In m ys) → (f g : Content) → PutsFiles stanza id xs f g → PutsFiles stanza id ys f g
  puts_more xs ys more f g p n lasting = ⊎_elim (λ (same : g n ≡ f n). inl same)
      (λ (put : IsPutAt stanza id xs g n). inr (put_more xs ys g n more put)) (p n lasting)

  puts_both : (xs ys : List Named) (f g h : Content) → PutsFiles stanza id xs f g → PutsFiles stanza id ys g h → PutsFiles stanza id (xs ++ ys) f h
  puts_both xs ys f g h p q n lasting = ⊎_elim
      (λ (same : h n ≡ g n). ⊎_elim
      (λ (was : g n ≡ f n). inl (same ∙ was))
      (λ (put : IsPutAt stanza id xs g n). inr (record { file = put.file; one = in_left put.file xs ys put.one; place = put.place; is = put.is; has = same ∙ put.has }))
      (p n lasting))
      (λ (put : IsPutAt stanza id ys h n). inr (put_more ys (xs ++ ys) h n (λ m at. in_right m xs ys at) put))
      (q n lasting)

  pub puts_on : (xs ys : List Named) (a b c : View) → Puts stanza id xs a b → Puts stanza id ys b c → Puts stanza id (xs ++ ys) a c
  puts_on xs ys a b c p q = record {
    now = now_on (PutsFiles stanza id xs) (PutsFiles stanza id ys) (PutsFiles stanza id (xs ++ ys)) a.now b.now c.now p.now q.now (puts_both xs ys);
    crash = λ synced some.
        crash_on (PutsFiles stanza id xs) (PutsFiles stanza id ys) (PutsFiles stanza id (xs ++ ys)) (PutsFiles stanza id xs) a b c
        (p.crash synced some) (crash_ends (PutsFiles stanza id xs) a b (p.crash synced some)) (q.crash (p.synced synced some) (p.now.known some))
        (puts_more xs (xs ++ ys) (λ m at. in_left m xs ys at)) (puts_both xs ys);
    synced = λ synced some. q.synced (p.synced synced some) (p.now.known some);
  }

  -- some files
  pub some_none : (v : View) → (files : List Named) × Puts stanza id files v v
  some_none v = ([], puts_still stanza id [] v v (still_self v))

  pub some_on : (a b c : View) → (files : List Named) × Puts stanza id files a b → (files : List Named) × Puts stanza id files b c → (files : List Named) × Puts stanza id files a c
  some_on a b c p q = (p.0 ++ q.0, puts_on p.0 q.0 a b c p.1 q.1)

  -- ---- a file of another name

  -- what lies at the paths of a file of another name is unchanged
  module _ (files : List Named) (name : ArchiveName) (place : (sum : Text) → IsSum sum → IsArchivePlace id name sum) (other : (m : Named) → In m files → m.name ≢ name) where
    not_put : (g : Content) (sum : Text) → IsSum sum → IsPutAt stanza id files g (archive_path stanza id name sum) → ⊥
    not_put g sum digest put =
        let same = one_path (archive_folder stanza ++ 47 ∷ []) id id put.file.name name (sha1 put.file.bytes) sum put.place (place sum digest)
        (append_assoc (archive_folder stanza) (47 ∷ []) _ ∙ sym put.is ∙ sym (append_assoc (archive_folder stanza) (47 ∷ []) _)) in
        other put.file put.one same.1

    pub beside_files : (f g : Content) → PutsFiles stanza id files f g → (n : Name) → IsPathOf stanza id name n → g n ≡ f n
    beside_files f g puts n is =
        let path = archive_path stanza id name is.0 in
        let file : IsArchiveFile stanza path = record { id = id; file = name; sum = is.0; fits = place is.0 is.1; is = refl } in
        let here : g path ≡ f path = ⊎_elim (λ (same : g path ≡ f path). same) (λ (put : IsPutAt stanza id files g path). absurd (not_put g is.0 is.1 put)) (puts path (file_lasts stanza path file)) in
        subst (λ (m : Name). g m ≡ f m) (sym is.2) here

    -- so is with which sums it is stored
    pub beside_only : (f g : Content) → PutsFiles stanza id files f g → (sum : Text) → StoresOnly stanza id name f sum → StoresOnly stanza id name g sum
    beside_only f g puts sum only = alike_only stanza id name f g (beside_files f g puts) sum only

    -- .. in all that a crash leaves
    pub beside_alike : (a b : View) → Crash (PutsFiles stanza id files) a b → IsSome a.now → IsAlikeAt (IsPathOf stanza id name) a → IsAlikeAt (IsPathOf stanza id name) b
    beside_alike a b crash some alike = ends_alike (IsPathOf stanza id name) a b (PutsFiles stanza id files) (λ f g puts n is. beside_files f g puts n is)
        (crash_ends (PutsFiles stanza id files) a b crash) some alike

    -- .. and the result for it
    content_on : (f g : Content) → PutsFiles stanza id files f g → (system : ℕ) (bytes : Text) (fault : PushFault) → IsContentOf (StoresOnly stanza id name f) system name bytes fault → IsContentOf (StoresOnly stanza id name g) system name bytes fault
    content_on f g puts system bytes (HeaderForm i) h = h
    content_on f g puts system bytes (SegmentSize k n) h = h
    content_on f g puts system bytes (HeaderMismatch k n) h = h
    content_on f g puts system bytes (Duplicate kept found) h = (h.0, h.1, h.2, beside_only f g puts kept.0 h.3)
    content_on f g puts system bytes (SegmentName w) h = absurd h
    content_on f g puts system bytes (PathOutside w) h = absurd h
    content_on f g puts system bytes (StanzaMismatch k n) h = absurd h
    content_on f g puts system bytes (SegmentMissing w) h = absurd h
    content_on f g puts system bytes (TooLong w l) h = absurd h
    content_on f g puts system bytes (Ambiguous x y) h = absurd h

    fate_on : (f g : Content) → PutsFiles stanza id files f g → (system : ℕ) (bytes : Text) (fate : Fate) → IsFateOf (StoresOnly stanza id name f) (StoresOnly stanza id name f) system name bytes fate
        → IsFateOf (StoresOnly stanza id name g) (StoresOnly stanza id name g) system name bytes fate
    fate_on f g puts system bytes absent h = absurd h
    fate_on f g puts system bytes (saved kept) h = (h.0, h.1, beside_only f g puts (sha1 bytes) h.2)
    fate_on f g puts system bytes (refused code line) h = (h.0, content_on f g puts system bytes h.0 h.1, h.2, h.3)

  -- the result for a file whose name is another
  found_beside : (files : List Named) (d : Nodes) (f g : Content) → PutsFiles stanza id files f g → (system : ℕ) (e : Entry) → (e.fate ≢ absent → (sum : Text) → IsSum sum → IsArchivePlace id e.name sum)
      → ((m : Named) → In m files → m.name ≢ e.name) → IsFate d (StoresOnly stanza id e.name f) (StoresOnly stanza id e.name f) system e.name e.fate
      → IsFate d (StoresOnly stanza id e.name g) (StoresOnly stanza id e.name g) system e.name e.fate
  found_beside files d f g puts system e place other (inl lacks) = inl lacks
  found_beside files d f g puts system e place other (inr has) = inr (
    has.0,
    has.1,
    fate_on files e.name
        (place (λ (same : e.fate ≡ absent). subst (λ (x : Fate). IsFateOf (StoresOnly stanza id e.name f) (StoresOnly stanza id e.name f) system e.name has.0 x) same has.2))
        other f g puts system has.0 e.fate has.2,
  )

  -- ---- results after results

  pub found_still : (d : Nodes) (system : ℕ) (files : List Named) (f g : Content) → PutsFiles stanza id files f g → (es : List Entry)
      → ((e : Entry) → In e es → e.fate ≢ absent → (sum : Text) → IsSum sum → IsArchivePlace id e.name sum) → ((m : Named) (e : Entry) → In m files → In e es → m.name ≢ e.name)
      → AreFound d stanza id system f es → AreFound d stanza id system g es
  found_still d system files f g puts [] place other h = tt
  found_still d system files f g puts (e ∷ es) place other h = (
    found_beside files d f g puts system e (place e (inl refl)) (λ m at. other m e at (inl refl)) h.0,
    found_still d system files f g puts es (λ x at. place x (inr at)) (λ m x at i. other m x at (inr i)) h.1,
  )

  pub found_both : (d : Nodes) (system : ℕ) (g : Content) (es gs : List Entry) → AreFound d stanza id system g es → AreFound d stanza id system g gs → AreFound d stanza id system g (es ++ gs)
  found_both d system g [] gs p q = q
  found_both d system g (e ∷ es) gs p q = (p.0, found_both d system g es gs p.1 q)

-- ---- names, each once

apart_first : (xs ys : List ArchiveName) → AreApart (xs ++ ys) → AreApart xs
apart_first [] ys h = tt
apart_first (x ∷ xs) ys h = (λ at. h.0 (in_left x xs ys at), apart_first xs ys h.1)

apart_last : (xs ys : List ArchiveName) → AreApart (xs ++ ys) → AreApart ys
apart_last [] ys h = h
apart_last (x ∷ xs) ys h = apart_last xs ys h.1

apart_between : (xs ys : List ArchiveName) → AreApart (xs ++ ys) → (x y : ArchiveName) → In x xs → In y ys → y ≢ x
apart_between [] ys h x y at i = absurd at
apart_between (z ∷ xs) ys h x y (inl e) i = λ same. h.0 (in_right z xs ys (subst (λ (k : ArchiveName). In k ys) (same ∙ e) i))
apart_between (z ∷ xs) ys h x y (inr at) i = apart_between xs ys h.1 x y at i

-- files of names have these names
pub of_name : (f : Nodes) (names : List ArchiveName) (files : List Named) → AreOf f names files → (m : Named) → In m files → In m.name names
of_name f [] files of m at = absurd (subst (λ (l : List Named). In m l) of at)
of_name f (name ∷ names) files (inl of) m at = inr (of_name f names files of m at)
of_name f (name ∷ names) files (inr of) m at = ⊎_elim
    (λ (e : m ≡ record { name = name; bytes = of.0 }). inl (ap (λ (k : Named). k.name) e))
    (λ (i : In m of.1). inr (of_name f names of.1 of.4 m i))
    (subst (λ (l : List Named). In m l) of.2 at)

-- the names of entries
name_in : (es : List Entry) (e : Entry) → In e es → In e.name (names_of es)
name_in [] e at = absurd at
name_in (x ∷ es) e (inl same) = inl (ap (λ (k : Entry). k.name) same)
name_in (x ∷ es) e (inr at) = inr (name_in es e at)

pub files_on : (xs ys : List Entry) → kept_files (xs ++ ys) ≡ kept_files xs ++ kept_files ys
files_on [] ys = refl
files_on (e ∷ xs) ys = ap (λ (l : List Named). kept_of e.name e.fate ++ l) (files_on xs ys) ∙ sym (append_assoc (kept_of e.name e.fate) (kept_files xs) (kept_files ys))

kept_name : (name : ArchiveName) (fate : Fate) (m : Named) → In m (kept_of name fate) → m.name ≡ name
kept_name name absent m at = absurd at
kept_name name (saved bytes) m (inl e) = ap (λ (k : Named). k.name) e
kept_name name (saved bytes) m (inr none) = absurd none
kept_name name (refused code line) m at = absurd at

kept_there : (name : ArchiveName) (fate : Fate) (m : Named) → In m (kept_of name fate) → fate ≢ absent
kept_there name absent m at = absurd at
kept_there name (saved bytes) m at = λ (e : saved bytes ≡ absent). cc
kept_there name (refused code line) m at = absurd at

-- an entry is of each file that was stored
kept_entry : (es : List Entry) (m : Named) → In m (kept_files es) → (e : Entry) × In e es × (m.name ≡ e.name) × (e.fate ≢ absent)
kept_entry [] m at = absurd at
kept_entry (e ∷ es) m at = ⊎_elim
    (λ (here : In m (kept_of e.name e.fate)). (e, inl refl, kept_name e.name e.fate m here, kept_there e.name e.fate m here))
    (λ (later : In m (kept_files es)). let x = kept_entry es m later in (x.0, inr x.1, x.2, x.3))
    (in_either m (kept_of e.name e.fate) (kept_files es) at)

-- ---- drains one after the other

module _ (stanza : Text) (id : ArchiveId) (system : ℕ) (d : Nodes) where
  found_none : (o : Option Content) → IfSome o (λ g. Unit {0})
  found_none None = tt
  found_none (Some g) = tt

  -- nothing was done
  pub puts_from_none : (names : List ArchiveName) (v : View) → PutsFrom stanza id system d names [] [] v v
  puts_from_none names v = record {
    place = λ e at. absurd at;
    puts = puts_still stanza id [] v v (still_self v);
    found = λ apart some. found_none v.now;
    alike = λ apart synced some n at. absurd at;
  }

  module _ (name : ArchiveName) where
    one_place : ((sum : Text) → IsSum sum → IsArchivePlace id name sum) → (fate : Fate) (e : Entry) → In e (record { name = name; fate = fate } ∷ []) → e.fate ≢ absent → (sum : Text) → IsSum sum → IsArchivePlace id e.name sum
    one_place place fate e (inl same) there = subst (λ (k : ArchiveName). (sum : Text) → IsSum sum → IsArchivePlace id k sum) (sym (ap (λ (x : Entry). x.name) same)) place
    one_place place fate e (inr none) there = absurd none

    none_there : (e : Entry) → In e (record { name = name; fate = absent } ∷ []) → e.fate ≡ absent
    none_there e (inl same) = ap (λ (x : Entry). x.fate) same
    none_there e (inr none) = absurd none

    -- a file that isn't there
    pub puts_from_absent : file_bytes (d (wal_path (wal_text name))) ≡ None → (v : View)
        → PutsFrom stanza id system d (name ∷ []) (record { name = name; fate = absent } ∷ []) [] v v
    puts_from_absent lacks v = record {
      place = λ e at there. absurd (there (none_there e at));
      puts = puts_still stanza id [] v v (still_self v);
      found = λ apart some. by v.now;
      alike = λ apart synced some n at. absurd at;
    }
      where
        by : (o : Option Content) → IfSome o (λ g. AreFound d stanza id system g (record { name = name; fate = absent } ∷ []))
        by None = tt
        by (Some g) = (inl (lacks, refl), tt)

    module _ (bytes : Text) (known : file_bytes (d (wal_path (wal_text name))) ≡ Some bytes) (a b : View) where
      one_found : (fate : Fate) (o : Option Content) → IfSome o (λ g. IsFateOf (StoresOnly stanza id name g) (StoresOnly stanza id name g) system name bytes fate)
          → IfSome o (λ g. AreFound d stanza id system g (record { name = name; fate = fate } ∷ []))
      one_found fate None h = tt
      one_found fate (Some g) h = (inr (bytes, known, h), tt)

      -- a file whose push was answered
      pub puts_from_one : (tried : Tried) → PutsOne stanza id system name bytes (Ok tried) a b → PutsFrom stanza id system d (name ∷ []) (record { name = name; fate = fate_of tried bytes } ∷ []) [] a b
      puts_from_one (Stored sum) p = record {
        place = one_place p.place (saved bytes);
        puts = p.puts;
        found = λ apart some. one_found (saved bytes) b.now (p.found some);
        alike = λ apart synced some n at. p.alike synced some n at;
      }
      puts_from_one (Refused fault line) p = record {
        place = one_place p.place (fate_of (Refused fault line) bytes);
        puts = p.puts;
        found = λ apart some. one_found (fate_of (Refused fault line) bytes) b.now (p.found some);
        alike = λ apart synced some n at. p.alike synced some n at;
      }

      -- a file whose push failed
      pub puts_from_failed : (halt : Halt PushFault) → PutsOne stanza id system name bytes (Err halt) a b → PutsFrom stanza id system d (name ∷ []) [] (named name bytes ∷ []) a b
      puts_from_failed halt p = record {
        place = λ e at. absurd at;
        puts = p.puts;
        found = λ apart some. found_none b.now;
        alike = λ apart synced some n at. absurd at;
      }

  -- of more names
  pub puts_from_wide : (xs ys : List ArchiveName) (entries : List Entry) (more : List Named) (a b : View) → PutsFrom stanza id system d xs entries more a b → PutsFrom stanza id system d (xs ++ ys) entries more a b
  puts_from_wide xs ys entries more a b p = record {
    place = p.place;
    puts = p.puts;
    found = λ apart some. p.found (apart_first xs ys apart) some;
    alike = λ apart synced some n at. p.alike (apart_first xs ys apart) synced some n at;
  }

  module _ (xs ys : List ArchiveName) (es gs : List Entry) (more : List Named) (a b c : View) (are : names_of es ≡ xs) (of : AreOf d ys (kept_files gs ++ more))
      (p : PutsFrom stanza id system d xs es [] a b) (q : PutsFrom stanza id system d ys gs more b c) where
    abbrev later : List Named
    later = kept_files gs ++ more

    either_place : (e : Entry) → In e es ⊎ In e gs → e.fate ≢ absent → (sum : Text) → IsSum sum → IsArchivePlace id e.name sum
    either_place e (inl at) = p.place e at
    either_place e (inr at) = q.place e at

    -- the later files have other names
    other : AreApart (xs ++ ys) → (m : Named) (e : Entry) → In m later → In e es → m.name ≢ e.name
    other apart m e at i = apart_between xs ys apart e.name m.name (subst (λ (l : List ArchiveName). In e.name l) are (name_in es e i)) (of_name d ys later of m at)

    first_puts : Puts stanza id (kept_files es) a b
    first_puts = subst (λ (l : List Named). Puts stanza id l a b) (append-nil (kept_files es)) p.puts

    files_are : kept_files es ++ later ≡ kept_files (es ++ gs) ++ more
    files_are = sym (append_assoc (kept_files es) (kept_files gs) more) ∙ ap (λ (l : List Named). l ++ more) (sym (files_on es gs))

    found_after : AreApart (xs ++ ys) → IsSome a.now → (o : Option Content) → o ≡ c.now → IfSome o (λ g. AreFound d stanza id system g gs) → IfSome o (λ g. AreFound d stanza id system g (es ++ gs))
    found_after apart some None is h = tt
    found_after apart some (Some g) is h =
        let f = known_as b.now (p.puts.now.known some) in
        let first : AreFound d stanza id system f.0 es = subst (λ (o : Option Content). IfSome o (λ g. AreFound d stanza id system g es)) f.1 (p.found (apart_first xs ys apart) some) in
        found_both stanza id d system g es gs
        (found_still stanza id d system later f.0 g (q.puts.now.goes f.0 g f.1 (sym is)) es p.place (other apart) first) h

    kept_alike : AreApart (xs ++ ys) → IsSynced stanza a → IsSome a.now → (n : Named) → In n (kept_files es) ⊎ In n (kept_files gs) → IsAlikeAt (IsPathOf stanza id n.name) c
    kept_alike apart synced some n (inl at) =
        let x = kept_entry es n at in
        let place : (sum : Text) → IsSum sum → IsArchivePlace id n.name sum = subst (λ (k : ArchiveName). (sum : Text) → IsSum sum → IsArchivePlace id k sum) (sym x.2) (p.place x.0 x.1 x.3) in
        beside_alike stanza id later n.name place (λ m i same. other apart m x.0 i x.1 (same ∙ x.2)) b c
        (q.puts.crash (p.puts.synced synced some) (p.puts.now.known some)) (p.puts.now.known some) (p.alike (apart_first xs ys apart) synced some n at)
    kept_alike apart synced some n (inr at) = q.alike (apart_last xs ys apart) (p.puts.synced synced some) (p.puts.now.known some) n at

    pub puts_from_on : PutsFrom stanza id system d (xs ++ ys) (es ++ gs) more a c
    puts_from_on = record {
      place = λ e at. either_place e (in_either e es gs at);
      puts = subst (λ (l : List Named). Puts stanza id l a c) files_are (puts_on stanza id (kept_files es) later a b c first_puts q.puts);
      found = λ apart some. found_after apart some c.now refl (q.found (apart_last xs ys apart) (p.puts.now.known some));
      alike = λ apart synced some n at. kept_alike apart synced some n (in_either n (kept_files es) (kept_files gs) (subst (λ (l : List Named). In n l) (files_on es gs) at));
    }
