-- What the receipts of a drain are of, whatever else the repository holds.
use Rattle.std.proofs.Common.{◌≡◌, ⊎_elim, inl, inr, true, List, [], ◌∷◌, ◌++◌, map, Option, Some, None, refl, ap, sym, subst, arith}
use Rattle.std.specs.Prelude.{ℕ, IfSome, IsSome}
use Rattle.std.proofs.lemmas.Bool.{and_parts}
use Rattle.sha1.specs.Sha1.{sha1}
use Rattle.base_devices.specs.Content.{Content}
use Rattle.base_devices.specs.Crash.{Leaves}
use Rattle.base_devices.specs.DataFolder.{Nodes, file_bytes}
use Rattle.base_devices.specs.Moments.{View}
use Rattle.base_devices.specs.Order.{are_after, are_in_order, is_before}
use Rattle.base_devices.proofs.Nows.{known_as}
use Rattle.base_disk.proofs.Images.{Law}
use Rattle.base_model.specs.declared.wal.ArchiveId.{ArchiveId}
use Rattle.base_model.specs.declared.wal.ArchiveName.{ArchiveName}
use Rattle.base_model.specs.Names.{wal_text}
use Rattle.base_model.specs.Steps.{Named}
use Rattle.base_model.specs.Text.{Text, In}
use Rattle.archive_lookup.specs.Stored.{StoresOnly}
use Rattle.archive_lookup.specs.Turns.{HadReceipt}
use Rattle.archive_lookup.proofs.Orders.{not_itself}
use Rattle.archive_lookup.proofs.Picked.{each_after}
use Rattle.archive_store.proofs.AlikeFiles.{alike_only}
use Rattle.cmd_archive_push.specs.WalPath.{wal_path}
use Rattle.archive_spool.specs.Marks.{GivesMarks}
use Rattle.archive_spool.proofs.Receipts.{marks_receipts}
use Rattle.cmd_archive_push_async.specs.Draining.{AreOf}
use Rattle.cmd_archive_push_async.specs.Fates.{Entry, Fate, absent, saved, refused, AreFound, IsFate, kept_files, kept_of}
use Rattle.cmd_archive_push_async.specs.Keeping.{GivesHeld, IsHeld}
use Rattle.cmd_archive_push_async.specs.Putting.{AreApart, PutsFrom}
use Rattle.cmd_archive_push_async.specs.Ready.{AreReady, IsReadyAs, ready_path}
use Rattle.cmd_archive_push_async.proofs.Goings.{in_either}
use Rattle.cmd_archive_push_async.proofs.Putting.{of_name}

-- ---- the files of names

rest_order : (to : ArchiveName → Text) (x : ArchiveName) (xs : List ArchiveName) → are_in_order (map to (x ∷ xs)) ≡ true → are_in_order (map to xs) ≡ true
rest_order to x [] h = refl
rest_order to x (y ∷ ys) h = (and_parts (is_before (to x) (to y)) (are_after (to y) (map to ys)) h).1

order_apart : (to : ArchiveName → Text) (names : List ArchiveName) → are_in_order (map to names) ≡ true → AreApart names
order_apart to [] h = tt
order_apart to (x ∷ xs) h = (λ at. not_itself (to x) (each_after to (to x) xs h x at), order_apart to xs (rest_order to x xs h))

-- what is ready is there once
pub ready_apart : (f : Nodes) (names : List ArchiveName) → AreReady f names → AreApart names
ready_apart f names ready = order_apart ready_path names ready.order

-- the data folder has the bytes of files of names
of_bytes : (f : Nodes) (names : List ArchiveName) (files : List Named) → AreOf f names files → (m : Named) → In m files → file_bytes (f (wal_path (wal_text m.name))) ≡ Some m.bytes
of_bytes f [] files of m at = absurd (subst (λ (l : List Named). In m l) of at)
of_bytes f (name ∷ names) files (inl of) m at = of_bytes f names files of m at
of_bytes f (name ∷ names) files (inr of) m at = ⊎_elim
    (λ (e : m ≡ record { name = name; bytes = of.0 }). subst (λ (k : Named). file_bytes (f (wal_path (wal_text k.name))) ≡ Some k.bytes) (sym e) of.3)
    (λ (i : In m of.1). of_bytes f names of.1 of.4 m i)
    (subst (λ (l : List Named). In m l) of.2 at)

pub ready_as : (f : Nodes) (names : List ArchiveName) (files : List Named) → AreOf f names files → ((name : ArchiveName) → In name names → IsSome (file_bytes (f (ready_path name)))) → (m : Named) → In m files → IsReadyAs f m
ready_as f names files of each m at = record { ready = each m.name (of_name f names files of m at); has = of_bytes f names files of m at }

-- ---- what is held of each that was stored

module _ (stanza : Text) (id : ArchiveId) (system : ℕ) (f : Nodes) where
  one_kept : (g : Content) (name : ArchiveName) (fate : Fate) → IsFate f (StoresOnly stanza id name g) (StoresOnly stanza id name g) system name fate → (n : Named) → In n (kept_of name fate) → StoresOnly stanza id n.name g (sha1 n.bytes)
  one_kept g name absent h n at = absurd at
  one_kept g name (saved bytes) (inl lacks) n at = let e : saved bytes ≡ absent = lacks.1 in cc
  one_kept g name (saved bytes) (inr has) n (inl e) =
      subst (λ (k : Named). StoresOnly stanza id k.name g (sha1 k.bytes)) (sym e) (subst (λ (b : Text). StoresOnly stanza id name g (sha1 b)) (sym has.2.0) has.2.2)
  one_kept g name (saved bytes) (inr has) n (inr none) = absurd none
  one_kept g name (refused code line) h n at = absurd at

  kept_found : (g : Content) (es : List Entry) → AreFound f stanza id system g es → (n : Named) → In n (kept_files es) → StoresOnly stanza id n.name g (sha1 n.bytes)
  kept_found g [] h n at = absurd at
  kept_found g (e ∷ es) h n at = ⊎_elim
      (λ (here : In n (kept_of e.name e.fate)). one_kept g e.name e.fate h.0 n here)
      (λ (later : In n (kept_files es)). kept_found g es h.1 n later)
      (in_either n (kept_of e.name e.fate) (kept_files es) at)

  module _ (names : List ArchiveName) (entries : List Entry) (more : List Named) (repo new_repo : View) (p : PutsFrom stanza id system f names entries more repo new_repo) (apart : AreApart names) where
    now_held : (n : Named) → In n (kept_files entries) → (o : Option Content) → IfSome o (λ g. AreFound f stanza id system g entries) → IfSome o (λ g. StoresOnly stanza id n.name g (sha1 n.bytes))
    now_held n at None h = tt
    now_held n at (Some g) h = kept_found g entries h n at

    held : IsSome repo.now → (n : Named) → In n (kept_files entries) → IsHeld stanza id n.name (sha1 n.bytes) repo new_repo
    held some n at =
        let now = now_held n at new_repo.now (p.found apart some) in record {
          now = now;
          lasts = λ synced g leaves.
              let h = known_as new_repo.now (p.puts.now.known some) in
              let only : StoresOnly stanza id n.name h.0 (sha1 n.bytes) = subst (λ (o : Option Content). IfSome o (λ g. StoresOnly stanza id n.name g (sha1 n.bytes))) h.1 now in
              alike_only stanza id n.name h.0 g (λ m is. p.alike apart synced some n at h.0 g h.1 leaves m is) (sha1 n.bytes) only;
        }

    pub gives_held : (spool new_spool : View) → Law spool → Law new_spool → GivesMarks stanza (kept_files entries) spool new_spool → GivesHeld stanza id repo new_repo spool new_spool
    gives_held spool new_spool law new_law marks = record {
      each = λ some known fixed m f lo hi leaves name sum fits receipt. ⊎_elim
          (λ (had : HadReceipt stanza spool name sum). inl had)
          (λ (x : (n : Named) × In n (kept_files entries) × (n.name ≡ name) × (sha1 n.bytes ≡ sum)).
          inr (subst (λ (k : ArchiveName). IsHeld stanza id k sum repo new_repo) x.2 (subst (λ (t : Text). IsHeld stanza id x.0.name t repo new_repo) x.3 (held some x.0 x.1))))
          (marks_receipts stanza (kept_files entries) spool new_spool law new_law marks known fixed m f lo hi leaves name sum fits receipt);
    }

-- no receipt is given
pub gives_none : (stanza : Text) (id : ArchiveId) (repo new_repo spool : View) → GivesHeld stanza id repo new_repo spool spool
gives_none stanza id repo new_repo spool = record {
  each = λ some known fixed m f lo hi leaves name sum fits receipt. inl (f, subst (λ (k : ℕ). Leaves spool k f) (let e : m ≡ spool.moment = omega (arith, lo, hi) in e) leaves, receipt);
}
