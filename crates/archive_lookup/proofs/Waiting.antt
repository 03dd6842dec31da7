-- What a step of others means to a caller that waits for it: the spool keeps the log as the repository does, and a
-- steady disk is led to a steady one.
use Rattle.std.proofs.Common.{◌≡◌, ⊎_elim, inl, inr, ℕ, ◌≤◌, List, [], ◌∷◌, ◌++◌, map, Some, None, refl, ap, ◌∙◌, sym, subst, arith, append_assoc, Bool, true, false}
use Rattle.std.specs.Prelude.{IsSome, IsTrue}
use Rattle.std.specs.List.{AllByRecursion}
use Rattle.std.proofs.lemmas.List.{append-nil}
use Rattle.sha1.specs.Sha1.{sha1}
use Rattle.base_text.specs.Sum.{IsSum, sum_text}
use Rattle.base_devices.specs.Content.{Content, is_below}
use Rattle.base_devices.specs.Moments.{View, is_unsynced}
use Rattle.base_devices.specs.Crash.{IsTemporary, Leaves}
use Rattle.base_devices.proofs.Nows.{known_as}
use Rattle.base_model.specs.declared.clusters.Cluster.{Cluster}
use Rattle.base_model.specs.declared.wal.ArchiveId.{ArchiveId}
use Rattle.base_model.specs.declared.wal.ArchiveName.{ArchiveName}
use Rattle.base_model.specs.Text.{Text, In}
use Rattle.base_model.specs.InfoFiles.{IsArchiveText, IsClusterId}
use Rattle.base_model.specs.Names.{archive_folder, archive_info, archive_name, copy_of, receipt_name}
use Rattle.base_model.specs.Pair.{MemberIs}
use Rattle.base_model.specs.Repository.{Stanza, Repository, IsSound, id_of, identity_of}
use Rattle.base_model.specs.Represents.{Represents, HasStanza, IsArchivePlace, IsWalName, archive_value}
use Rattle.base_model.specs.Steps.{Step, Move, One, Any, Turn, Named, ArchivePushAsync, IsPartOf, after, after_all, all_of, steps_of, stores_of, archived_of, turn_moves}
use Rattle.base_model.specs.Values.{ArchiveInfo}
use Rattle.base_model.specs.Now.{NowRepresents}
use Rattle.base_model.specs.Log.{Done, Keeps, KeepsRepository, RepresentsAfter, Leads, Reaches, IsDone, IsDrained, HasReceipt}
use Rattle.base_model.specs.Steady.{IsSteady, EachImage}
use Rattle.base_model.proofs.Logged.{IsPart}
use Rattle.base_model.proofs.Made.{now_of}
use Rattle.base_model.proofs.PushDone.{after_some}
use Rattle.base_model.proofs.Temporary.{receipt_lasts}
use Rattle.base_model.proofs.Waited.{own, own_all}
use Rattle.archive_lookup.specs.Stored.{ChangesArchive}
use Rattle.archive_lookup.proofs.Noted.{HasIt, all_stores, all_keep_notes, all_noted, apart_sums, fewer_files, note_of, one_file, stores_stores, stores_sums, turn_within}
use Rattle.archive_lookup.proofs.OnePath.{one_path}
use Rattle.archive_lookup.specs.Turns.{GoesByTurn, GivesReceipts, HadReceipt, IsStoredBy, IsUnder}

-- ---- what is done of a step of others

all_part : (moves : List Move) → IsPartOf (all_of moves) moves
all_part [] = refl
all_part (One t ∷ moves) = inr (all_of moves, refl, all_part moves)
all_part (Any groups ∷ moves) = inr (all_of moves, refl, all_part moves)

all_done : (whole : Bool) (moves : List Move) → IsDone whole (all_of moves) moves
all_done true moves = refl
all_done false moves = all_part moves

turn_all : (s : Stanza) (t : Turn) → all_of (turn_moves s (t ∷ [])) ≡ all_stores s t.id t.pushed
turn_all s t = ap all_of (append-nil (own s t)) ∙ own_all s t

none_in : (n : Named) (ns : List Named) → ns ≡ [] → In n ns → ⊥
none_in n ns e at = subst (λ (l : List Named). In n l) e at

all_in : {X Y : Type 0} (P : Y → Type 0) (g : X → Y) (xs : List X) (x : X) → AllByRecursion P (map g xs) → In x xs → P (g x)
all_in P g [] x all at = absurd at
all_in P g (y ∷ xs) x all at = ⊎_elim (λ (e : x ≡ y). subst (λ z. P (g z)) (sym e) all.0) (λ k. all_in P g xs x all.1 k) at

-- a cluster of a stanza gives archive files' names
place_in : (stanza : Text) (f : Content) (s : Stanza) → HasStanza stanza f s → (c : Cluster) → In c s.history → (name : ArchiveName) (sum : Text) → IsWalName name → IsSum sum → IsArchivePlace (id_of c) name sum
place_in stanza f s h c at name sum fits digest = ⊎_elim
    (λ (m : MemberIs IsArchiveText f (archive_info stanza) (archive_value s)). by m.2.rules.clusters)
    (λ (q : ((w : ArchiveInfo) → ¬ MemberIs IsArchiveText f (archive_info stanza) w) × MemberIs IsArchiveText f (copy_of (archive_info stanza)) (archive_value s)). by q.1.2.rules.clusters)
    h.archive_pair
  where
    by : AllByRecursion IsClusterId (map identity_of s.history) → IsArchivePlace (id_of c) name sum
    by all = let k = all_in IsClusterId identity_of s.history c all at in record { version = k.version; number = k.id; fits = fits; digest = digest }

not_unsynced : (b : Bool) → (b ≡ true → ⊥) → b ≡ false
not_unsynced true off = absurd (off refl)
not_unsynced false off = refl

abbrev pub entry : Turn → Bool → Done
entry t whole = record { command = ArchivePushAsync (t ∷ []); acknowledged = whole }

-- ---- the two disks keep the log

module _ (stanza : Text) (t : Turn) (repo new_repo spool new_spool : View) (goes : GoesByTurn stanza t repo new_repo) (gives : GivesReceipts stanza t repo new_repo spool new_spool) (only : ChangesArchive stanza spool new_spool)
    (known : IsSome repo.now) (spool_known : IsSome spool.now) (q : Repository) (log : List Done) (keeps : Keeps stanza q log repo spool) where
  abbrev IsNoted : Bool → ArchiveName → Text → Type 0
  IsNoted whole name sum = (r : Repository) × Reaches q (entry t whole ∷ log) r × IsDrained r name sum

  reached_by : (whole : Bool) (s : Stanza) → Reaches q log (Some s) → Reaches q (entry t whole ∷ log) (Some (after_all s (all_of (turn_moves s (t ∷ [])))))
  reached_by whole s reached = (Some s, reached, (all_of (turn_moves s (t ∷ [])), sym (after_some s (all_of (turn_moves s (t ∷ [])))), all_done whole (turn_moves s (t ∷ []))))

  still_noted : (whole : Bool) (name : ArchiveName) (sum : Text) (r : Repository) → Reaches q log r → IsDrained r name sum → IsNoted whole name sum
  still_noted whole name sum None reached at = absurd at
  still_noted whole name sum (Some s) reached at = (
    Some (after_all s (all_of (turn_moves s (t ∷ [])))),
    reached_by whole s reached,
    all_keep_notes (record { name = name; sum = sum }) (all_of (turn_moves s (t ∷ []))) s at,
  )

  -- the id under which the step of others pushed this file gives archive files' names
  place_of : (s : Stanza) (f : Content) → HasStanza stanza f s → IsUnder (Some s) t → (n : Named) → In n t.pushed → (name : ArchiveName) (sum : Text) → IsWalName name → IsSum sum → IsArchivePlace t.id name sum
  place_of s f h under n at name sum fits digest = ⊎_elim
      (λ (none : t.pushed ≡ []). absurd (none_in n t.pushed none at))
      (λ (x : (c : Cluster) × In c s.history × (t.id ≡ id_of c)). subst (λ (i : ArchiveId). IsArchivePlace i name sum) (sym x.2) (place_in stanza f s h x.0 x.1 name sum fits digest))
      under

  -- of what the disk has after it the stanza has no more than after all of its stores
  has_it : (s : Stanza) (done : List Step) → IsDone t.ended done (turn_moves s (t ∷ [])) → (f : Content) → HasStanza stanza f (after_all s done) → (name : ArchiveName) (sum bytes : Text) → IsArchivePlace t.id name sum
      → f (archive_name stanza t.id name (sum_text sum)) ≡ Some bytes → sha1 bytes ≡ sum → (n : Named) → n.name ≡ name → sha1 n.bytes ≡ sum → HasIt t.id n (after_all s (all_stores s t.id t.pushed)).archived
  has_it s done is f h name sum bytes place lies of_sum n n_name n_sum =
      let x = (h.archived (archive_name stanza t.id name (sum_text sum)) bytes (record { id = t.id; file = name; sum = sum; fits = place; is = refl })).0 lies in
      let same = one_path (archive_folder stanza ++ 47 ∷ []) t.id x.0.id name x.0.name sum (sha1 x.0.bytes) place (h.named x.0 x.1)
      (append_assoc (archive_folder stanza) (47 ∷ []) _ ∙ x.2 ∙ sym (append_assoc (archive_folder stanza) (47 ∷ []) _)) in
      record {
        file = x.0;
        archived = fewer_files done (all_stores s t.id t.pushed) s (stores_stores s t.id t.pushed) (turn_within t.ended done (stores_of s t.id t.pushed) is) x.0 x.1;
        same = one_file (archived_of t.id n) x.0 same.0 (n_name ∙ same.1);
        of_sum = ap sha1 (sym x.3) ∙ of_sum ∙ sym n_sum;
      }

  newly_noted : (whole : Bool) (r : Repository) → Reaches q log r → IsSound r → NowRepresents stanza r repo.now → (f : Content) → Represents stanza f r → (name : ArchiveName) (sum : Text) → IsWalName name → IsSum sum → (x : IsStoredBy stanza t name sum new_repo) → IsNoted whole x.file.name (sha1 x.file.bytes)
  newly_noted whole None reached sound now f represents name sum fits digest x = absurd (none_in x.file t.pushed (goes.under None known sound now) x.pushed)
  newly_noted whole (Some s) reached sound now f represents name sum fits digest x =
      let d = goes.does.does (Some s) tt known now in
      let g = known_as new_repo.now (goes.does.known known) in
      let h : HasStanza stanza g.0 (after_all s d.0) = subst (λ (r : Repository). Represents stanza g.0 r) (after_some s d.0) (d.2.represents g.0 g.1) in
      let b = x.stored g.0 (inl g.1) in
      let place = place_of s f represents (goes.under (Some s) known sound now) x.file x.pushed name sum fits digest in
      let has = has_it s d.0 d.1 g.0 h name sum b.0 place b.1 b.2 x.file x.of_name x.of_sum in
      let one = stores_sums s t.id t.pushed (apart_sums s.archived sound.apart represents.named) in (
        Some (after_all s (all_of (turn_moves s (t ∷ [])))),
        reached_by whole s reached,
        subst (λ (l : List Step). In (note_of x.file) (after_all s l).drained) (sym (turn_all s t)) (all_noted t.id t.pushed x.file s x.pushed one has),
      )

  stored_noted : (whole : Bool) (name : ArchiveName) (sum : Text) → IsWalName name → IsSum sum → IsStoredBy stanza t name sum new_repo → IsNoted whole name sum
  stored_noted whole name sum fits digest x =
      let f = known_as repo.now known in
      let now = keeps.repository.represents f.0 (inl f.1) in
      let y = newly_noted whole now.repository now.reached now.sound (now_of stanza now.repository repo.now f.0 f.1 now.represents) f.0 now.represents name sum fits digest x in
      subst (λ (k : Text). IsNoted whole name k) x.of_sum (subst (λ (k : ArchiveName). IsNoted whole k (sha1 x.file.bytes)) x.of_name y)

  -- at each moment each receipt of the spool is of a file that such a repository has stored
  pub turn_receipts : (whole : Bool) (m : ℕ) (f : Content) → spool.moment ≤ m → m ≤ new_spool.moment → Leaves new_spool m f → (name : ArchiveName) (sum : Text) → IsWalName name → HasReceipt stanza f name sum
      → (r : Repository) × Reaches q (entry t whole ∷ log) r × IsDrained r name sum
  turn_receipts whole m f lo hi leaves name sum fits receipt = ⊎_elim
      (λ (h : HadReceipt stanza spool name sum). let x = keeps.receipts.receipts h.0 h.1 name sum fits h.2 in still_noted whole name sum x.0 x.1 x.2)
      (λ (h : IsStoredBy stanza t name sum new_repo). stored_noted whole name sum fits receipt.0 h)
      (gives.each q log known spool_known keeps m f lo hi leaves name sum fits receipt)

  pub turn_keeps : Keeps stanza q (entry t t.ended ∷ log) new_repo new_spool
  turn_keeps = record {
    repository = goes.carries.keeps q log known keeps.repository;
    receipts = record {
      fixed = λ name fits. not_unsynced (is_unsynced new_spool (receipt_name stanza name)) (λ unsynced. ⊎_elim
          (λ (was : spool.unsynced spool.moment (receipt_name stanza name) ≡ true). let u : ◌≡◌ {A = Bool} false true = sym (keeps.receipts.fixed name fits) ∙ was in cc)
          (λ (x : IsTrue (is_below (archive_folder stanza) (receipt_name stanza name)) × IsTemporary (receipt_name stanza name)). receipt_lasts stanza name x.1)
          (only.time.unsyncs new_spool.moment (receipt_name stanza name) only.time.later (omega arith) unsynced));
      receipts = λ f leaves name sum fits receipt. turn_receipts t.ended new_spool.moment f only.time.later (omega arith) leaves name sum fits receipt;
    };
  }

-- ---- a steady disk

module _ (stanza : Text) (t : Turn) (v d : View) (goes : GoesByTurn stanza t v d) (only : ChangesArchive stanza v d) (r : Repository) (sound : IsSound r) (steady : IsSteady stanza r v) (known : IsSome v.now) where
  begun : KeepsRepository stanza r [] v
  begun = record {
    fixed = steady.fixed;
    places = steady.places;
    represents = λ f leaves. record { repository = r; reached = refl; sound = sound; represents = steady.represents f leaves };
  }

  ended : KeepsRepository stanza r (entry t t.ended ∷ []) d
  ended = goes.carries.keeps r [] known begun

  part_of : (f : Content) → RepresentsAfter stanza r (entry t false ∷ []) f → IsPart stanza (ArchivePushAsync (t ∷ [])) r f
  part_of f x =
      let l = subst (λ (m : Repository). Leads (entry t false) m x.repository) x.reached.1 x.reached.2 in
      (l.0, l.2, subst (λ (m : Repository). Represents stanza f m) l.1 x.represents)

  -- it changes by a part of the step of others
  pub turn_on : EachImage stanza (λ g. IsPart stanza (ArchivePushAsync (t ∷ [])) r g) v d
  turn_on = record {
    later = only.time.later;
    past = only.time.same;
    past_unsynced = only.time.same_unsynced;
    known = goes.does.known known;
    fixed = ended.fixed;
    places = ended.places;
    leaves = λ m f lo hi leaves. part_of f (goes.between.between r [] known begun m f lo hi leaves);
  }

  -- and by all of a step of others that succeeded
  pub turn_ends : t.ended ≡ true → IsSteady stanza (after r (all_of (steps_of (ArchivePushAsync (t ∷ [])) r))) d
  turn_ends is = record { fixed = ended.fixed; places = ended.places; represents = λ f leaves. by f (subst (λ (w : Bool). RepresentsAfter stanza r (entry t w ∷ []) f) is (ended.represents f leaves)) }
    where
      by : (f : Content) → RepresentsAfter stanza r (entry t true ∷ []) f → Represents stanza f (after r (all_of (steps_of (ArchivePushAsync (t ∷ [])) r)))
      by f x =
          let l = subst (λ (m : Repository). Leads (entry t true) m x.repository) x.reached.1 x.reached.2 in
          subst (λ (m : Repository). Represents stanza f m) (l.1 ∙ ap (after r) l.2) x.represents
