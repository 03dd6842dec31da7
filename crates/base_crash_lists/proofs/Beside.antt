-- A call that keeps to its stanza leaves the logs of all others unchanged.
use Rattle.std.proofs.Common.{◌≡◌, ◌≢◌, ◌⊎◌, inl, inr, ⊎_elim, ℕ, ◌≤◌, Bool, true, false, List, [], ◌++◌, Option, Some, None, refl, sym, ◌∙◌, ap, subst, arith}
use Rattle.std.specs.Prelude.{IsSome, IsTrue, codes, bytes_eq, if◌then◌else◌}
use Rattle.std.proofs.lemmas.Slice.Eq.{bytes_eq-Decides}
use Rattle.base_devices.specs.Content.{Name, Value, Content, Holds, at}
use Rattle.base_devices.specs.Moments.{View, IsImage, MayKeep, is_unsynced}
use Rattle.base_devices.specs.Crash.{Leaves}
use Rattle.base_model.specs.declared.wal.ArchiveName.{ArchiveName}
use Rattle.base_model.specs.Text.{Text, ◌⫽◌}
use Rattle.base_model.specs.Names.{is_of_stanza, receipt_name, wal_text}
use Rattle.base_model.specs.Repository.{Repository}
use Rattle.base_model.specs.Log.{Done, RepresentsAfter, KeepsRepository, KeepsSpool}
use Rattle.base_model.specs.Steady.{LeavesOnly}
use Rattle.base_model.proofs.Frame.{Agrees, represents_same, place_past, past, beside as pairs_beside}
use Rattle.base_model.proofs.Below.{fixed_of, places_of}
use Rattle.base_crash_lists.proofs.Named.{in_archive}
use Rattle.base_crash_lists.proofs.Apart.{beside as names_beside}
use Rattle.base_crash_lists.specs.Beside.{IsStanza, StaysBeside, KeepsOthers}
use Rattle.base_crash_lists.specs.Trace.{IsFair, HasReceiptsOf}

-- ---- an image of the old disk that has what g has at some names

-- g at the names of the test; elsewhere what f has, or any bytes where a crash may leave any
abbrev pub filled : (Name → Bool) → (Name → Bool) → Content → Content → Content
filled test unsynced f g n = if test n then g n else (if unsynced n then Some [] else f n)

module _ (v : View) (fair : IsFair v) (f g : Content) (now : v.now ≡ Some f) (test : Name → Bool)
    (left : (n : Name) → test n ≡ true → MayKeep v n (g n) ⊎ (IsTrue (is_unsynced v n) × IsSome (g n))) where
  held : (n : Name) → Holds v.now n (f n)
  held n = subst (λ (o : Option Content). Holds o n (f n)) (sym now) refl

  beside_it : (n : Name) (l : Bool) → is_unsynced v n ≡ l → MayKeep v n (if l then Some [] else f n) ⊎ (IsTrue (is_unsynced v n) × IsSome (if l then Some [] else f n))
  beside_it n true e = inr (e, refl)
  beside_it n false e = ⊎_elim (λ k. inl k) (λ (l : is_unsynced v n ≡ true). let u : ◌≡◌ {A = Bool} false true = sym e ∙ l in cc) (fair n (f n) (held n))

  at_name : (n : Name) (b : Bool) → test n ≡ b → MayKeep v n (if b then g n else (if is_unsynced v n then Some [] else f n)) ⊎ (IsTrue (is_unsynced v n) × IsSome (if b then g n else (if is_unsynced v n then Some [] else f n)))
  at_name n true e = left n e
  at_name n false e = beside_it n (is_unsynced v n) refl

  pub filled_image : IsImage v v.moment (filled test (is_unsynced v) f g)
  filled_image n = at_name n (test n) refl

pub filled_there : (test unsynced : Name → Bool) (f g : Content) (n : Name) → test n ≡ true → g n ≡ filled test unsynced f g n
filled_there test unsynced f g n is = sym (ap (λ (b : Bool). if b then g n else (if unsynced n then Some [] else f n)) is)

-- ---- another stanza

some_of : (o : Option Content) → IsSome o → (f : Content) × (o ≡ Some f)
some_of None known = cc
some_of (Some f) known = (f, refl)

-- a and b are the disk before and after; s is a stanza of which no name is one of c's
module _ (c s : Text) (far : (n : Name) → is_of_stanza s n ≡ true → is_of_stanza c n ≡ false) (a b : View) (fair : IsFair a) (known : IsSome a.now) (stays : StaysBeside c a b) where
  not_of : {X : Type 0} (n : Name) → is_of_stanza s n ≡ true → is_of_stanza c n ≡ true → X
  not_of n in_s in_c = let u : ◌≡◌ {A = Bool} false true = sym (far n in_s) ∙ in_c in cc

  -- whatever may be left at a moment has at the names of s what might have been left before
  module _ (t : ℕ) (g : Content) (lo : a.moment ≤ t) (hi : t ≤ b.moment) where
    old_left : IsImage b t g → (n : Name) → is_of_stanza s n ≡ true → MayKeep a n (g n) ⊎ (IsTrue (is_unsynced a n) × IsSome (g n))
    old_left image n in_s = ⊎_elim
        (λ k. ⊎_elim (λ o. inl o) (λ in_c. not_of n in_s in_c) (stays.time.grows t n (g n) lo hi k))
        (λ l. ⊎_elim (λ o. inr (o, l.1)) (λ in_c. not_of n in_s in_c) (stays.time.unsyncs t n lo hi l.0)) (image n)

    pub came : Leaves b t g → (f : Content) × Leaves a a.moment f × ((n : Name) → is_of_stanza s n ≡ true → g n ≡ f n)
    came leaves =
        let x = some_of a.now known in
        ⊎_elim
        (λ (now : b.now ≡ Some g). (x.0, inl x.1, λ n in_s. same_now x.0 x.1 now n in_s))
        (λ (image : IsImage b t g). (filled (is_of_stanza s) (is_unsynced a) x.0 g, inr (filled_image a fair x.0 g x.1 (is_of_stanza s) (old_left image)), filled_there (is_of_stanza s) (is_unsynced a) x.0 g)) leaves
      where
        same_now : (f : Content) → a.now ≡ Some f → b.now ≡ Some g → (n : Name) → is_of_stanza s n ≡ true → g n ≡ f n
        same_now f old new n in_s =
            let e : ◌≡◌ {A = Option Value} (Some (g n)) (Some (f n)) = sym (ap (at n) new) ∙ stays.now n (far n in_s) ∙ ap (at n) old in cc

  agree : (f g : Content) → ((n : Name) → is_of_stanza s n ≡ true → g n ≡ f n) → Agrees s f g
  agree f g same = record { fixed = λ n h. same n (fixed_of s n h); places = λ n h. same n (places_of s f n h) }

  still_synced : (n : Name) → is_of_stanza s n ≡ true → is_unsynced a n ≡ false → is_unsynced b n ≡ false
  still_synced n in_s was = go (is_unsynced b n) refl
    where
      go : (l : Bool) → is_unsynced b n ≡ l → is_unsynced b n ≡ false
      go false e = e
      go true e = ⊎_elim (λ (o : is_unsynced a n ≡ true). let u : ◌≡◌ {A = Bool} false true = sym was ∙ o in cc) (λ in_c. not_of n in_s in_c) (stays.time.unsyncs b.moment n stays.time.later (omega arith) e)

  module _ (q : Repository) (log : List Done) where
    still_represents : (f g : Content) → ((n : Name) → is_of_stanza s n ≡ true → g n ≡ f n) → RepresentsAfter s q log f → RepresentsAfter s q log g
    still_represents f g same x = record { repository = x.repository; reached = x.reached; sound = x.sound; represents = represents_same s f g (agree f g same) x.repository x.represents }

    pub others_between : KeepsRepository s q log a → LeavesOnly (RepresentsAfter s q log) a b
    others_between keeps t g lo hi leaves = let x = came t g lo hi leaves in still_represents x.0 g x.2 (keeps.represents x.0 x.1)

    pub others_keep : KeepsRepository s q log a → KeepsRepository s q log b
    others_keep keeps = record {
      fixed = λ n h. still_synced n (fixed_of s n h) (keeps.fixed n h);
      places = λ g leaves n p. let x = came b.moment g stays.time.later (omega arith) leaves in
          still_synced n (places_of s g n p) (keeps.places x.0 x.1 n (place_past s x.0 g (past s x.0 g (pairs_beside s x.0 g (agree x.0 g x.2))) n p));
      represents = λ g leaves. others_between keeps b.moment g stays.time.later (omega arith) leaves;
    }

    -- the spool: a receipt is one name
    receipt_of : (name : ArchiveName) → is_of_stanza s (receipt_name s name) ≡ true
    receipt_of name = in_archive s (receipt_name s name) (codes "out" ⫽ (wal_text name ++ codes ".ok")) refl

    pub others_receipts : KeepsSpool s q log a → LeavesOnly (HasReceiptsOf s q log) a b
    others_receipts keeps t g lo hi leaves name sum fits has =
        let x = came t g lo hi leaves in
        keeps.receipts x.0 x.1 name sum fits (has.0, sym (x.2 (receipt_name s name) (receipt_of name)) ∙ has.1)

    pub others_spool : KeepsSpool s q log a → KeepsSpool s q log b
    others_spool keeps = record {
      fixed = λ name fits. still_synced (receipt_name s name) (receipt_of name) (keeps.fixed name fits);
      receipts = λ g leaves. others_receipts keeps b.moment g stays.time.later (omega arith) leaves;
    }

-- a call that keeps to its stanza keeps the logs of all others
module _ (c : Text) (is_c : IsStanza c) (a b : View) (fair : IsFair a) (stays : StaysBeside c a b) where
  differs : (s : Text) → s ≢ c → bytes_eq s c ≡ false
  differs s apart = go (bytes_eq s c) refl
    where
      go : (e : Bool) → bytes_eq s c ≡ e → bytes_eq s c ≡ false
      go false is = is
      go true is = absurd (apart ((bytes_eq-Decides s c).0 is))

  pub keeps_others : KeepsOthers c a b
  keeps_others = record {
    keeps = λ s is_s apart q log known keeps. others_keep c s (names_beside s c is_s is_c (differs s apart)) a b fair known stays q log keeps;
    between = λ s is_s apart q log known keeps. others_between c s (names_beside s c is_s is_c (differs s apart)) a b fair known stays q log keeps;
  }
