-- Bytes that are staged and then given a name.
use Rattle.std.specs.Prelude.{◌≡◌, ◌≢◌, ◌⊎◌, ℕ, false, List, [], ◌∷◌, ◌++◌, Option, Result, Some, None, Ok, Err, IsSome, refl, option_map}
use Rattle.std.proofs.Common.{sym, ◌∙◌, ap, subst, inl, inr, arith, ⊎_elim}
use Rattle.base_devices.specs.Content.{Name, Value, Content, put, moved, Holds, Changes, SameBut, at}
use Rattle.base_devices.specs.Moments.{View, GrowsBy, is_unsynced, MayKeep}
use Rattle.base_devices.specs.Crash.{IsTemporary, Alike, Crash, Ends, NowChanges, AllOf, FirstOf}
use Rattle.base_devices.proofs.Steps.{goes_on, goes_wide}
use Rattle.base_disk.specs.Store.{ChangesOnly}
use Rattle.base_disk.proofs.Images.{Law, by_name, put_other, put_same, apart_from, Added, Unsynced, stays_synced, crash_of, ends_of}

-- a disk whose contents are known stays so
known_as_same : (temp : Name) (old new : Option Content) → SameBut temp old new → IsSome old → IsSome new
known_as_same temp None new same s = cc
known_as_same temp (Some f) (Some g) same s = refl
known_as_same temp (Some f) None same s = let e : ◌≡◌ {A = Option Value} None (Some (f (temp ++ 0 ∷ []))) = same (temp ++ 0 ∷ []) (longer temp) in cc
  where
    longer : (t : Name) → t ++ 0 ∷ [] ≢ t
    longer [] e = cc
    longer (x ∷ t) e = longer t (ap rest e)
      where
        rest : Name → Name
        rest [] = []
        rest (y ∷ ys) = ys

-- a disk whose contents are unknown stays so
pub unknown_same : (temp : Name) (old new : Option Content) → SameBut temp old new → old ≡ None → new ≡ None
unknown_same temp old None same none = refl
unknown_same temp None (Some g) same none = let s = known_as_same temp (Some g) None (λ q apart. sym (same q apart)) refl in cc
unknown_same temp (Some f) (Some g) same none = cc

pub unknown_on : {T E : Type 0} (result : Result T E) (change : Content → Content) (mid new : Option Content) → mid ≡ None → Changes result change mid new → new ≡ None
unknown_on (Ok x) change mid new none is = is ∙ ap (option_map change) none
unknown_on (Err e) change mid new none (inl is) = is ∙ none
unknown_on (Err e) change mid new none (inr is) = is ∙ ap (option_map change) none

alike_same : (temp : Name) (old new : Option Content) → IsTemporary temp → SameBut temp old new → (f g : Content) → old ≡ Some f → new ≡ Some g → Alike f g
alike_same temp old new is_temp same f g is now = record { same = λ n apart. some (same n (apart_from temp is_temp n apart)) }
  where
    some : {n : Name} → at n new ≡ at n old → g n ≡ f n
    some {n} e = let u : ◌≡◌ {A = Option Value} (Some (g n)) (Some (f n)) = sym (ap (at n) now) ∙ e ∙ ap (at n) is in cc

-- what the staged name holds
holds_staged : (temp : Name) (bytes : List ℕ) (o o1 : Option Content) (s : Name) → o1 ≡ option_map (put temp (Some bytes)) o → s ≡ temp → (v : Value) → Holds o1 s v → v ≡ Some bytes
holds_staged temp bytes None o1 s is e v h = let x : Holds None s v = subst (λ (q : Option Content). Holds q s v) is h in absurd x
holds_staged temp bytes (Some f) o1 s is e v h =
    let x : Holds (Some (put temp (Some bytes) f)) s v = subst (λ (q : Option Content). Holds q s v) is h in
    x ∙ ap (put temp (Some bytes) f) e ∙ put_same temp (Some bytes) f

module _ (temp name : Name) (bytes : List ℕ) (is_temp : IsTemporary temp) (lasting : ¬ IsTemporary name) where
  -- staged but not published
  staged_alike : (f : Content) → Alike f (put temp (Some bytes) f)
  staged_alike f = record { same = λ n apart. put_other temp (Some bytes) f n (apart_from temp is_temp n apart) }

  published_alike : (f : Content) (s : Name) → s ≡ temp → Alike (put name (Some bytes) f) (moved s name (put temp (Some bytes) f))
  published_alike f s e = record {
    same = λ n apart. by_name name n (λ (v : Value). put name (put temp (Some bytes) f s) (put s None (put temp (Some bytes) f)) n ≡ v) (Some bytes) (f n)
        (λ (p : name ≡ n). ap (put name (put temp (Some bytes) f s) (put s None (put temp (Some bytes) f))) (sym p) ∙ put_same name (put temp (Some bytes) f s) (put s None (put temp (Some bytes) f)) ∙ ap (put temp (Some bytes) f) e ∙ put_same temp (Some bytes) f)
        (λ off. put_other name _ (put s None (put temp (Some bytes) f)) n off ∙ put_other s None (put temp (Some bytes) f) n (λ q. apart_from temp is_temp n apart (q ∙ e)) ∙ put_other temp (Some bytes) f n (apart_from temp is_temp n apart));
  }

  now_is : (o o1 : Option Content) (f g : Content) (change : Content → Content) → o1 ≡ option_map change o → o ≡ Some f → o1 ≡ Some g → g ≡ change f
  now_is o o1 f g change is old new = let e : ◌≡◌ {A = Option Content} (Some g) (Some (change f)) = sym new ∙ is ∙ ap (option_map change) old in cc

  alike_at : (f g h : Content) → Alike f g → h ≡ g → Alike f h
  alike_at f g h p e = subst (λ (x : Content). Alike f x) (sym e) p

  -- what was staged, and then moved
  whole_now : (old mid new : Option Content) (s : Name) → s ≡ temp → mid ≡ option_map (put temp (Some bytes)) old → new ≡ option_map (moved s name) mid → (f g : Content) → old ≡ Some f → new ≡ Some g → Alike (put name (Some bytes) f) g
  whole_now old mid new s e is ch f g was now =
      let m : mid ≡ Some (put temp (Some bytes) f) = is ∙ ap (option_map (put temp (Some bytes))) was in
      alike_at (put name (Some bytes) f) (moved s name (put temp (Some bytes) f)) g (published_alike f s e) (now_is mid new (put temp (Some bytes) f) g (moved s name) ch m now)

  known_map : (change : Content → Content) (old new : Option Content) → new ≡ option_map change old → IsSome old → IsSome new
  known_map change None new is some = cc
  known_map change (Some f) new is some = subst (λ (o : Option Content). IsSome o) (sym is) refl

  pub published_whole : (old mid new : Option Content) (s : Name) → s ≡ temp → mid ≡ option_map (put temp (Some bytes)) old → new ≡ option_map (moved s name) mid → NowChanges (AllOf ((name, bytes) ∷ [])) old new
  published_whole old mid new s e is ch = record {
    known = λ some. known_map (moved s name) mid new ch (known_map (put temp (Some bytes)) old mid is some);
    goes = whole_now old mid new s e is ch;
  }

  some_whole : (old new : Option Content) → NowChanges (AllOf ((name, bytes) ∷ [])) old new → NowChanges (FirstOf ((name, bytes) ∷ [])) old new
  some_whole old new p = record { known = p.known; goes = λ f g was now. inr (p.goes f g was now) }

  pub published_now : {T E : Type 0} (r : Result T E) (old mid new : Option Content) (s : Name) → s ≡ temp → mid ≡ option_map (put temp (Some bytes)) old → Changes r (moved s name) mid new → NowChanges (FirstOf ((name, bytes) ∷ [])) old new
  published_now (Ok y) old mid new s e is ch = some_whole old new (published_whole old mid new s e is ch)
  published_now (Err y) old mid new s e is (inr ch) = some_whole old new (published_whole old mid new s e is ch)
  published_now (Err y) old mid new s e is (inl ch) = record {
    known = λ some. known_map (put temp (Some bytes)) old new (ch ∙ is) some;
    goes = λ f g was now. inl (alike_at f (put temp (Some bytes) f) g (staged_alike f) (now_is old new f g (put temp (Some bytes)) (ch ∙ is) was now));
  }

  -- staged at most
  pub staged_now : (old new : Option Content) → SameBut temp old new → NowChanges (FirstOf ((name, bytes) ∷ [])) old new
  staged_now old new same = record {
    known = known_as_same temp old new same;
    goes = λ f g was now. inl (alike_same temp old new is_temp same f g was now);
  }

  -- the time of the first call, and of both
  staged_go : (a b : View) → GrowsBy (λ n _. n ≡ temp) (λ n. n ≡ temp) a b → GrowsBy (Added temp name bytes) (Unsynced temp name bytes) a b
  staged_go a b p = goes_wide (λ n _. n ≡ temp) (Added temp name bytes) (λ n. n ≡ temp) (Unsynced temp name bytes) a b (λ n v x. inr x) (λ n x. x) p

  module _ (a b c : View) (s : Name) (e : s ≡ temp) (is : b.now ≡ option_map (put temp (Some bytes)) a.now)
      (p : GrowsBy (λ n _. n ≡ temp) (λ n. n ≡ temp) a b)
      (q : GrowsBy (λ n v. ((n ≡ name) × Holds b.now s v) ⊎ ((n ≡ s) × (v ≡ None))) (λ _. ⊥) b c) where
    both_go : GrowsBy (Added temp name bytes) (Unsynced temp name bytes) a c
    both_go = goes_on (Added temp name bytes) (Unsynced temp name bytes) a b c
        (staged_go a b p)
        (goes_wide (λ n v. ((n ≡ name) × Holds b.now s v) ⊎ ((n ≡ s) × (v ≡ None))) (Added temp name bytes) (λ _. ⊥) (Unsynced temp name bytes) b c
        (λ n v x. ⊎_elim (λ (y : (n ≡ name) × Holds b.now s v). inl (y.0, holds_staged temp bytes a.now b.now s is e v y.1)) (λ (y : (n ≡ s) × (v ≡ None)). inr (y.0 ∙ e)) x) (λ n x. absurd x) q)

    module _ (law : Law a) (synced : is_unsynced a name ≡ false) where
      pub published_crash : {T E : Type 0} (r : Result T E) → Changes r (moved s name) b.now c.now → Crash (FirstOf ((name, bytes) ∷ [])) a c
      published_crash r ch = crash_of temp name bytes a c is_temp lasting law both_go synced (published_now r a.now b.now c.now s e is ch)

      pub published_ends : c.now ≡ option_map (moved s name) b.now → (is_unsynced b name ≡ false → (v : Value) → MayKeep c name v → Holds b.now s v) → Ends (AllOf ((name, bytes) ∷ [])) a c
      published_ends ch only = ends_of temp name bytes a c is_temp lasting law both_go synced
          (λ v k. holds_staged temp bytes a.now b.now s is e v (only still v k)) (published_whole a.now b.now c.now s e is ch)
        where
          still : is_unsynced b name ≡ false
          still = stays_synced temp name bytes a b is_temp lasting law (staged_go a b p) synced b.moment name p.later (omega arith) lasting synced

  pub staged_crash : (a b : View) → Law a → is_unsynced a name ≡ false → GrowsBy (λ n _. n ≡ temp) (λ n. n ≡ temp) a b → SameBut temp a.now b.now → Crash (FirstOf ((name, bytes) ∷ [])) a b
  staged_crash a b law synced p same = crash_of temp name bytes a b is_temp lasting law
      (staged_go a b p)
      synced (staged_now a.now b.now same)

  -- ---- the names that change

  -- the temporary name and the other one
  abbrev These : Name → Type 0
  These n = (n ≡ temp) ⊎ (n ≡ name)

  staged_time : (a b : View) → GrowsBy (λ n _. n ≡ temp) (λ n. n ≡ temp) a b → GrowsBy (λ n _. These n) (λ n. These n × IsTemporary n) a b
  staged_time a b p = goes_wide (λ n _. n ≡ temp) (λ n _. These n) (λ n. n ≡ temp) (λ n. These n × IsTemporary n) a b
      (λ n v e. inl e) (λ n e. (inl e, subst (λ (k : Name). IsTemporary k) (sym e) is_temp)) p

  pub staged_only : (a b : View) → GrowsBy (λ n _. n ≡ temp) (λ n. n ≡ temp) a b → SameBut temp a.now b.now → ChangesOnly (λ n. (n ≡ temp) ⊎ (n ≡ name)) a b
  staged_only a b p same = record { now = λ n off. same n (λ e. off (inl e)); time = staged_time a b p }

  moved_other : (s n : Name) (o : Option Content) → n ≢ s → n ≢ name → at n (option_map (moved s name) o) ≡ at n o
  moved_other s n None off_from off_to = refl
  moved_other s n (Some f) off_from off_to = ap (λ (v : Value). Some v) (put_other name (f s) (put s None f) n off_to ∙ put_other s None f n off_from)

  changed_other : {T E : Type 0} (r : Result T E) (s n : Name) (mid new : Option Content) → n ≢ s → n ≢ name → Changes r (moved s name) mid new → at n new ≡ at n mid
  changed_other (Ok y) s n mid new off_from off_to is = ap (at n) is ∙ moved_other s n mid off_from off_to
  changed_other (Err y) s n mid new off_from off_to (inl is) = ap (at n) is
  changed_other (Err y) s n mid new off_from off_to (inr is) = ap (at n) is ∙ moved_other s n mid off_from off_to

  pub published_only : {T E : Type 0} (r : Result T E) (a b c : View) (s : Name) → s ≡ temp → GrowsBy (λ n _. n ≡ temp) (λ n. n ≡ temp) a b → SameBut temp a.now b.now
      → GrowsBy (λ n v. ((n ≡ name) × Holds b.now s v) ⊎ ((n ≡ s) × (v ≡ None))) (λ _. ⊥) b c → Changes r (moved s name) b.now c.now → ChangesOnly (λ n. (n ≡ temp) ⊎ (n ≡ name)) a c
  published_only r a b c s e p same q ch = record {
    now = λ n off. changed_other r s n b.now c.now (λ h. off (inl (h ∙ e))) (λ h. off (inr h)) ch ∙ same n (λ h. off (inl h));
    time = goes_on (λ n _. These n) (λ n. These n × IsTemporary n) a b c (staged_time a b p)
        (goes_wide (λ n v. ((n ≡ name) × Holds b.now s v) ⊎ ((n ≡ s) × (v ≡ None))) (λ n _. These n) (λ _. ⊥) (λ n. These n × IsTemporary n) b c
        (λ n v x. ⊎_elim (λ (y : (n ≡ name) × Holds b.now s v). inr y.0) (λ (y : (n ≡ s) × (v ≡ None)). inl (y.0 ∙ e)) x) (λ n x. absurd x) q);
  }
