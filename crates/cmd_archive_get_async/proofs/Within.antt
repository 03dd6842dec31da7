-- Calls that change nothing but names of one kind.
use Rattle.std.proofs.Common.{◌≡◌, ⊎_elim, inl, ℕ, Bool, true, false, [], ◌∷◌, ◌++◌, get_or, length, take, drop, None, refl, ap, ◌∙◌, sym, subst, append_assoc, arith}
use Rattle.std.specs.Prelude.{bytes_eq, codes, nat_eq, IsTrue, option_map}
use Rattle.std.specs.List.{starts_with}
use Rattle.std.proofs.lemmas.List.{append_cancel_left, take-append-drop, take_at}
use Rattle.std.proofs.lemmas.Slice.Eq.{bytes_eq-Decides}
use Rattle.base_devices.specs.Content.{Name, at, is_below, SameBut}
use Rattle.base_devices.specs.Moments.{View, GrowsBy, LeavesNoMore}
use Rattle.base_devices.specs.States.{DiskState, OnlyReads}
use Rattle.base_devices.proofs.Steps.{goes_on, goes_wide}
use Rattle.base_disk.specs.Dropped.{Drops}
use Rattle.base_model.specs.declared.wal.Segment.{Segment}
use Rattle.base_model.specs.Names.{archive_folder, segment_text, wal_text, is_of_stanza}
use Rattle.base_model.specs.Text.{Text}
use Rattle.base_text.specs.Sum.{sum_text}
use Rattle.base_crash_lists.specs.Beside.{StaysBeside}
use Rattle.base_crash_lists.proofs.Named.{in_archive}
use Rattle.archive_spool.specs.Marks.{AddsMarks, GivesMarks, IsNoReceipt}
use Rattle.cmd_archive_get_async.specs.Names.{ahead_folder, ahead_prefix, ahead_name, ChangesWithin, ChangesAhead}

both_ways : {X : Type 0} (b : Bool) → b ≡ true → b ≡ false → X
both_ways b is out = let u : ◌≡◌ {A = Bool} true false = sym is ∙ out in cc

by_test : (b : Bool) → (b ≡ true → ⊥) → b ≡ false
by_test true off = absurd (off refl)
by_test false off = refl

-- ---- one call after another

module _ (these : Name → Bool) where
  abbrev These : Name → Type 0
  These n = IsTrue (these n)

  pub within_rests : (a b : View) → LeavesNoMore a b → b.now ≡ a.now → ChangesWithin these a b
  within_rests a b rests same = record {
    now = λ n off. ap (at n) same;
    time = goes_wide (λ _ _. ⊥) (λ n _. These n) (λ _. ⊥) These a b (λ n v h. absurd h) (λ n h. absurd h) rests;
  }

  pub within_none : (a : View) → ChangesWithin these a a
  within_none a = record {
    now = λ n off. refl;
    time = record {
      later = omega arith;
      same = λ t n v le k. k;
      stays = λ t n v le k. k;
      same_unsynced = λ t n le. refl;
      grows = λ t n v lo hi k. inl (let e : t ≡ a.moment = omega arith in subst (λ (m : ℕ). a.kept m n v) e k);
      unsyncs = λ t n lo hi l. inl (let e : t ≡ a.moment = omega arith in subst (λ (m : ℕ). a.unsynced m n ≡ true) e l);
    };
  }

  pub within_on : (a b c : View) → ChangesWithin these a b → ChangesWithin these b c → ChangesWithin these a c
  within_on a b c p q = record {
    now = λ n off. q.now n off ∙ p.now n off;
    time = goes_on (λ n _. These n) These a b c p.time q.time;
  }

  -- a file was written at one of the names
  pub within_one : (name : Name) → these name ≡ true → (a b : View) → SameBut name a.now b.now → GrowsBy (λ _ _. ⊥) (λ n. n ≡ name) a b → ChangesWithin these a b
  within_one name is a b same goes = record {
    now = λ n off. same n (λ e. both_ways (these n) (ap these e ∙ is) off);
    time = goes_wide (λ _ _. ⊥) (λ n _. These n) (λ n. n ≡ name) These a b (λ n v h. absurd h) (λ n e. ap these e ∙ is) goes;
  }

  -- names were removed
  pub within_drops : (a b : View) → Drops these a.now b.now → GrowsBy (λ n v. IsTrue (these n) × (v ≡ None)) (λ _. ⊥) a b → ChangesWithin these a b
  within_drops a b drops goes = record {
    now = λ n off. ⊎_elim (λ e. e) (λ (h : IsTrue (these n) × (at n b.now ≡ option_map (λ _. None) a.now)). both_ways (these n) h.0 off) (drops n);
    time = goes_wide (λ n v. IsTrue (these n) × (v ≡ None)) (λ n _. These n) (λ _. ⊥) These a b (λ n v h. h.0) (λ n h. absurd h) goes;
  }

pub within_wide : (these those : Name → Bool) → ((n : Name) → these n ≡ true → those n ≡ true) → (a b : View) → ChangesWithin these a b → ChangesWithin those a b
within_wide these those wider a b p = record {
  now = λ n off. p.now n (by_test (these n) (λ is. both_ways (those n) (wider n is) off));
  time = goes_wide (λ n _. IsTrue (these n)) (λ n _. IsTrue (those n)) (λ n. IsTrue (these n)) (λ n. IsTrue (those n)) a b (λ n v h. wider n h) (λ n h. wider n h) p.time;
}

-- ---- the names

pub prefix_split : (prefix n : Name) → starts_with nat_eq n prefix ≡ true → n ≡ prefix ++ drop (length prefix) n
prefix_split prefix n is = sym (take-append-drop (length prefix) n) ∙ ap (λ (t : Text). t ++ drop (length prefix) n) (sym ((bytes_eq-Decides prefix (take (length prefix) n)).0 is))

pub prefix_starts : (prefix rest n : Name) → n ≡ prefix ++ rest → starts_with nat_eq n prefix ≡ true
prefix_starts prefix rest n is = ap (λ (m : Name). bytes_eq prefix (take (length prefix) m)) is ∙ ap (bytes_eq prefix) (take_at prefix rest (length prefix) refl) ∙ (bytes_eq-Decides prefix prefix).1 refl

module _ (stanza : Text) where
  abbrev below : Name
  below = ahead_folder stanza ++ 47 ∷ []

  in_folder : (n : Name) → is_below (ahead_folder stanza) n ≡ true → n ≡ archive_folder stanza ++ 47 ∷ (codes "in/" ++ drop (length below) n)
  in_folder n is =
      let rest = drop (length below) n in
      prefix_split below n is ∙ append_assoc (ahead_folder stanza) (47 ∷ []) rest ∙ append_assoc (archive_folder stanza) (47 ∷ codes "in") (47 ∷ rest)

  no_receipt : (n : Name) → is_below (ahead_folder stanza) n ≡ true → IsNoReceipt stanza n
  no_receipt n is name fits e =
      let rest = drop (length below) n in
      let out = wal_text name ++ codes ".ok" in
      let same : 47 ∷ (codes "in/" ++ rest) ≡ 47 ∷ (codes "out/" ++ out) = append_cancel_left (archive_folder stanza) (47 ∷ (codes "in/" ++ rest)) (47 ∷ (codes "out/" ++ out)) (sym (in_folder n is) ∙ e) in
      let u : ◌≡◌ {A = ℕ} 105 111 = ap (λ (t : Text). get_or t 1 0) same in
      omega arith

  -- no receipt is given
  pub ahead_marks : (a b : View) → ChangesAhead stanza a b → GivesMarks stanza [] a b
  ahead_marks a b p = goes_wide (λ n _. IsTrue (is_below (ahead_folder stanza) n)) (AddsMarks stanza []) (λ n. IsTrue (is_below (ahead_folder stanza) n)) (IsNoReceipt stanza) a b
      (λ n v h name fits e. absurd (no_receipt n h name fits e)) (λ n h. no_receipt n h) p.time

  -- it keeps to its stanza
  of_stanza : (n : Name) → is_below (ahead_folder stanza) n ≡ true → is_of_stanza stanza n ≡ true
  of_stanza n is = in_archive stanza n (codes "in/" ++ drop (length below) n) (in_folder n is)

  pub ahead_beside : (a b : View) → ChangesAhead stanza a b → StaysBeside stanza a b
  ahead_beside a b p = record {
    now = λ n out. p.now n (by_test (is_below (ahead_folder stanza) n) (λ is. both_ways (is_of_stanza stanza n) (of_stanza n is) out));
    time = goes_wide (λ n _. IsTrue (is_below (ahead_folder stanza) n)) (λ n _. is_of_stanza stanza n ≡ true) (λ n. IsTrue (is_below (ahead_folder stanza) n)) (λ n. is_of_stanza stanza n ≡ true) a b
        (λ n v h. of_stanza n h) (λ n h. of_stanza n h) p.time;
  }

  -- the names of a segment lie there
  pub prefix_below : (segment : Segment) (n : Name) → starts_with nat_eq n (ahead_prefix stanza segment) ≡ true → is_below (ahead_folder stanza) n ≡ true
  prefix_below segment n is =
      let dashed = segment_text segment ++ codes "-" in
      let rest = drop (length (ahead_prefix stanza segment)) n in
      prefix_starts below (dashed ++ rest) n
      (prefix_split (ahead_prefix stanza segment) n is ∙ append_assoc (ahead_folder stanza) (47 ∷ dashed) rest ∙ sym (append_assoc (ahead_folder stanza) (47 ∷ []) (dashed ++ rest)))

  pub name_below : (segment : Segment) (sum : Text) → is_below (ahead_folder stanza) (ahead_name stanza segment sum) ≡ true
  name_below segment sum = prefix_below segment (ahead_name stanza segment sum) (prefix_starts (ahead_prefix stanza segment) (sum_text sum) (ahead_name stanza segment sum) refl)

  -- the names of a segment alone change, after a call that only reads
  pub taken_only : (segment : Segment) (a b d : DiskState) → OnlyReads a b → ChangesWithin (λ n. starts_with nat_eq n (ahead_prefix stanza segment)) b.view d.view → ChangesWithin (λ n. starts_with nat_eq n (ahead_prefix stanza segment)) a.view d.view
  taken_only segment a b d looks only =
      let these : Name → Bool = λ n. starts_with nat_eq n (ahead_prefix stanza segment) in
      within_on these a.view b.view d.view (within_rests these a.view b.view looks.time looks.now) only

  pub taken_ahead : (segment : Segment) (a b d : DiskState) → OnlyReads a b → ChangesWithin (λ n. starts_with nat_eq n (ahead_prefix stanza segment)) b.view d.view → ChangesAhead stanza a.view d.view
  taken_ahead segment a b d looks only =
      within_wide (λ n. starts_with nat_eq n (ahead_prefix stanza segment)) (is_below (ahead_folder stanza)) (prefix_below segment) a.view d.view (taken_only segment a b d looks only)
