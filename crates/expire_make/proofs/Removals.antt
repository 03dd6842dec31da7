-- Files of the archive that are removed one by one, by the listings of folders.
use Rattle.std.proofs.Common.{◌≡◌, ◌⊎◌, ⊎_elim, inl, inr, ℕ, ◌+◌, ◌<◌, ◌≤◌, Bool, true, false, List, ◌∷◌, map, length, get_or, drop, Option, Result, Ok, Err, Some, None, refl, ap, ◌∙◌, sym, subst, arith, string_bytes, IsTrue}
use Rattle.std.specs.Prelude.{IfSome, IsSome, option_map}
use Rattle.base_devices.specs.declared.disk.Found.{Found}
use Rattle.base_devices.specs.Content.{Name, Value, Content, Holds, at, put, Changes, is_below, IsListing}
use Rattle.base_devices.specs.Moments.{View, GrowsBy, MayKeep, is_unsynced}
use Rattle.base_devices.specs.States.{DiskState, OnlyReads, Works}
use Rattle.base_disk.specs.Dropped.{IsAbsent}
use Rattle.base_disk.proofs.Images.{put_same, put_other, by_name}
use Rattle.base_model.specs.Text.{Text, In, ◌⫽◌}
use Rattle.repo_keys.proofs.Seeking.{opened, ended}
use Rattle.archive_lookup.proofs.Looked.{pair_of, found_at}
use Rattle.expire_rules.specs.declared.rules.KeptFiles.{KeptFiles}
use Rattle.repo_keys.proofs.Numbers.{in_map}
use Rattle.expire_make.specs.Losing.{Drops, TakesAway, names_of}
use Rattle.expire_make.specs.Unneeded.{IsForgotten, Forgets, prefix_of}
use Rattle.expire_make.proofs.Losses.{takes_wide}

-- ---- names that stay absent

unknown_absent : (o : Option Content) (n : Name) → at n o ≡ None → IsAbsent o n
unknown_absent None n e = tt
unknown_absent (Some f) n e = let no : ◌≡◌ {A = Option Value} (Some (f n)) None = e in cc

none_absent : (o : Option Content) (n : Name) → at n o ≡ Some None → IsAbsent o n
none_absent None n e = tt
none_absent (Some f) n e = let is : ◌≡◌ {A = Option Value} (Some (f n)) (Some None) = e in let same : f n ≡ None = cc in same

pub absent_stays : (these : Name → Type 0) (a b : DiskState) (n : Name) → TakesAway these a b → IsAbsent a.view.now n → IsAbsent b.view.now n
absent_stays these a b n p h = by a.view.now refl (p.now n) h
  where
    by : (o : Option Content) → a.view.now ≡ o → (at n b.view.now ≡ at n a.view.now) ⊎ (these n × (at n b.view.now ≡ option_map (λ _. None) a.view.now)) → IsAbsent a.view.now n → IsAbsent b.view.now n
    by None e (inl same) k = unknown_absent b.view.now n (same ∙ ap (at n) e)
    by None e (inr x) k = unknown_absent b.view.now n (x.1 ∙ ap (option_map (λ (f : Content). let none : Value = None in none)) e)
    by (Some f) e (inl same) k = let none : IsAbsent (Some f) n = subst (λ (o : Option Content). IsAbsent o n) e k in none_absent b.view.now n (same ∙ ap (at n) e ∙ ap (λ (v : Value). Some v) none)
    by (Some f) e (inr x) k = none_absent b.view.now n (x.1 ∙ ap (option_map (λ (f : Content). let none : Value = None in none)) e)

-- ---- one name

dropped_whole : (name : Name) (old new : Option Content) → new ≡ option_map (put name None) old → Drops (λ n. n ≡ name) old new
dropped_whole name None new is = λ n. inl (ap (at n) is)
dropped_whole name (Some f) new is = λ n. by_name name n (λ (v : Value). (at n new ≡ Some (f n)) ⊎ ((n ≡ name) × (at n new ≡ Some None))) None (f n)
    (λ e. inr (sym e, ap (at n) is ∙ ap (λ (k : Name). Some (put name None f k)) (sym e) ∙ ap (λ (v : Value). Some v) (put_same name None f)))
    (λ off. inl (ap (at n) is ∙ ap (λ (v : Value). Some v) (put_other name None f n off)))

dropped : {T E : Type 0} (result : Result T E) (name : Name) (old new : Option Content) → Changes result (put name None) old new → Drops (λ n. n ≡ name) old new
dropped (Ok x) name old new is = dropped_whole name old new is
dropped (Err e) name old new (inl is) = λ n. inl (ap (at n) is)
dropped (Err e) name old new (inr is) = dropped_whole name old new is

pub removed_takes : {T E : Type 0} (result : Result T E) (these : Name → Type 0) (name : Name) (a b : DiskState) → these name → Works (λ n v. (n ≡ name) × (v ≡ None)) (λ _. ⊥) a b → Changes result (put name None) a.view.now b.view.now → TakesAway these a b
removed_takes result these name a b one works changes =
    let p : TakesAway (λ n. n ≡ name) a b = record { works = works; now = dropped result name a.view.now b.view.now changes } in
    takes_wide (λ n. n ≡ name) these a b (λ n e. subst these (sym e) one) p

pub absent_new : (name : Name) (old new : Option Content) → new ≡ option_map (put name None) old → IsAbsent new name
absent_new name None new is = subst (λ (o : Option Content). IsAbsent o name) (sym is) tt
absent_new name (Some f) new is = subst (λ (o : Option Content). IsAbsent o name) (sym is) (put_same name None f)

-- ---- the files of a listing

-- each that isn't kept is absent, or still to come
abbrev pub GoneBut : Text → KeptFiles → List Found → ℕ → Option Content → Type 0
GoneBut prefix kept found i now = (stanza : Text) → prefix ≡ prefix_of stanza → (n : Name) → In n (names_of found) → IsForgotten stanza kept n → IsAbsent now n ⊎ In n (names_of (drop i found))

module _ (prefix : Text) (kept : KeptFiles) where
  pub gone_next : (found : List Found) (i : ℕ) (x : Found) (name : Name) (a b : DiskState) → i < length found → x ≡ get_or found i x → name ≡ string_bytes x.name → TakesAway (Forgets prefix kept) a b
      → ((stanza : Text) → prefix ≡ prefix_of stanza → IsForgotten stanza kept name → IsAbsent b.view.now name) → GoneBut prefix kept found i a.view.now → GoneBut prefix kept found (i + 1) b.view.now
  gone_next found i x name a b low is named takes one gone stanza prefix_is n at off = ⊎_elim
      (λ absent. inl (absent_stays (Forgets prefix kept) a b n takes absent))
      (λ (j : In n (names_of (drop i found))). ⊎_elim
      (λ (e : n ≡ string_bytes x.name). inl (subst (λ (k : Name). IsAbsent b.view.now k) (named ∙ sym e) (one stanza prefix_is (subst (IsForgotten stanza kept) (e ∙ sym named) off))))
      (λ k. inr k)
      (subst (λ (l : List Found). In n (names_of l)) (opened (λ (y : Found). string_bytes y.name) found i x low is) j))
      (gone stanza prefix_is n at off)

  pub gone_last : (found : List Found) (i : ℕ) (now : Option Content) → length found ≤ i → GoneBut prefix kept found i now → (stanza : Text) → prefix ≡ prefix_of stanza → (n : Name) → In n (names_of found) → IsForgotten stanza kept n → IsAbsent now n
  gone_last found i now end gone stanza prefix_is n at off = ⊎_elim (λ h. h) (λ (j : In n (names_of (drop i found))). absurd (subst (λ (l : List Found). In n (names_of l)) (ended (λ (y : Found). string_bytes y.name) found i end) j)) (gone stanza prefix_is n at off)

-- what the listing doesn't report is absent
pub found_gone : (these : Name → Type 0) (place : Name) (found : List Found) (a m b : DiskState) → OnlyReads a m → IfSome a.view.now (λ f. IsListing place f (map pair_of found)) → TakesAway these m b
    → (n : Name) → IsTrue (is_below place n) → (In n (names_of found) → IsAbsent b.view.now n) → IsAbsent b.view.now n
found_gone these place found a m b looks listing takes n below gone = by a.view.now refl listing
  where
    by : (o : Option Content) → a.view.now ≡ o → IfSome o (λ f. IsListing place f (map pair_of found)) → IsAbsent b.view.now n
    by None e l = absent_stays these m b n takes (subst (λ (o : Option Content). IsAbsent o n) (sym (looks.now ∙ e)) tt)
    by (Some f) e l = there (f n) refl
      where
        there : (v : Value) → f n ≡ v → IsAbsent b.view.now n
        there None none = absent_stays these m b n takes (subst (λ (o : Option Content). IsAbsent o n) (sym (looks.now ∙ e)) none)
        there (Some bytes) some =
            let x = found_at place f found l n below (subst (λ (v : Value). IsSome v) (sym some) refl) in
            gone (subst (λ (k : Name). In k (names_of found)) x.2 (in_map (λ (y : Found). string_bytes y.name) found x.0 x.1))

-- ---- folders within a place

abbrev pub GoneWithin : Text → KeptFiles → Text → List Text → List Text → Option Content → Type 0
GoneWithin prefix kept place all ahead now = (stanza : Text) → prefix ≡ prefix_of stanza → (n x : Name) → In x all → IsTrue (is_below (place ⫽ x) n) → IsForgotten stanza kept n → IsAbsent now n ⊎ In x ahead

module _ (prefix : Text) (kept : KeptFiles) (place : Text) (all : List Text) where
  pub within_next : (y : Text) (rest : List Text) (a b : DiskState) → TakesAway (Forgets prefix kept) a b
      → ((stanza : Text) → prefix ≡ prefix_of stanza → (n : Name) → IsTrue (is_below (place ⫽ y) n) → IsForgotten stanza kept n → IsAbsent b.view.now n) → GoneWithin prefix kept place all (y ∷ rest) a.view.now → GoneWithin prefix kept place all rest b.view.now
  within_next y rest a b takes one gone stanza prefix_is n x at below off = ⊎_elim
      (λ absent. inl (absent_stays (Forgets prefix kept) a b n takes absent))
      (λ j. ⊎_elim (λ (e : x ≡ y). inl (one stanza prefix_is n (subst (λ (t : Text). IsTrue (is_below (place ⫽ t) n)) e below) off)) (λ k. inr k) j)
      (gone stanza prefix_is n x at below off)

-- ---- synced

still_synced : (these : Name → Type 0) (a b : View) (n : Name) → GrowsBy (λ n v. these n × (v ≡ None)) (λ _. ⊥) a b → is_unsynced a n ≡ false → is_unsynced b n ≡ false
still_synced these a b n goes synced = cases (b.unsynced b.moment n) refl
  where
    cases : (l : Bool) → b.unsynced b.moment n ≡ l → b.unsynced b.moment n ≡ false
    cases false e = e
    cases true e = ⊎_elim (λ (was : a.unsynced a.moment n ≡ true). let u : ◌≡◌ {A = Bool} false true = sym synced ∙ was in cc) (λ none. absurd none) (goes.unsyncs b.moment n goes.later (omega arith) e)

pub settled_as : (these : Name → Type 0) (folder text : Name) (a b c : View) → folder ≡ text → GrowsBy (λ n v. these n × (v ≡ None)) (λ _. ⊥) a b → c.now ≡ b.now
    → ((n : Name) (v : Value) → IsTrue (is_below folder n) → is_unsynced b n ≡ false → MayKeep c n v → Holds b.now n v)
    → (n : Name) (v : Value) → IsTrue (is_below text n) → is_unsynced a n ≡ false → MayKeep c n v → Holds c.now n v
settled_as these folder text a b c is goes same settled n v below synced keep =
    subst (λ (o : Option Content). Holds o n v) (sym same) (settled n v (subst (λ (t : Name). IsTrue (is_below t n)) (sym is) below) (still_synced these a b n goes synced) keep)
