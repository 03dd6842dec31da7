-- Stores of files one after the other, by what they do to a repository.
use Rattle.std.proofs.Common.{◌≡◌, ◌⊎◌, ⊎_elim, inl, inr, ℕ, ◌≤◌, List, [], ◌∷◌, ◌++◌, map, Option, Some, true, refl, ◌∙◌, sym, subst, arith, append_assoc}
use Rattle.std.specs.Prelude.{IsSome}
use Rattle.std.proofs.lemmas.List.{append-nil}
use Rattle.base_devices.specs.Content.{Content}
use Rattle.base_devices.specs.Moments.{View, LeavesNoMore, IsImage}
use Rattle.base_model.specs.declared.wal.ArchiveId.{ArchiveId}
use Rattle.base_model.specs.Text.{Text, In}
use Rattle.base_model.specs.Repository.{Stanza, Repository}
use Rattle.base_model.specs.Represents.{Represents}
use Rattle.base_model.specs.Steps.{Step, One, Named, IsPartOf, after}
use Rattle.base_model.specs.Now.{NowRepresents}
use Rattle.base_model.specs.Steady.{IsSteady, EachImage}
use Rattle.base_model.proofs.Done.{part_none}
use Rattle.base_model.proofs.Steady.{steady_rests, rests_moves}
use Rattle.archive_lookup.proofs.Noted.{all_keep_notes, note_of}
use Rattle.cmd_archive_push_async.specs.Storing.{store_steps, stored, IsPartOfStores, NowPartOfStores, IsArchivedIn, GoesByStores}
use Rattle.cmd_archive_push_async.proofs.Stores.{stored_after, stores_first, stores_after, stays_archived}

either : (t s : ℕ) → (t ≤ s) ⊎ (s ≤ t)
either t s = grind arith

-- one way of a command after another
pub moves_on : (stanza : Text) (P Q U : Content → Type 0) (a b c : View) → EachImage stanza P a b → EachImage stanza Q b c → ((g : Content) → P g → U g) → ((g : Content) → Q g → U g) → EachImage stanza U a c
moves_on stanza P Q U a b c p q first second = record {
  later = omega (arith, p.later, q.later);
  past = λ t n v le h. p.past t n v le (q.past t n v (omega (arith, le, p.later)) h);
  past_unsynced = λ t n le. q.past_unsynced t n (omega (arith, le, p.later)) ∙ p.past_unsynced t n le;
  known = q.known;
  fixed = q.fixed;
  places = q.places;
  leaves = λ t g lo hi leaves. ⊎_elim
      (λ (now : c.now ≡ Some g). second g (q.leaves c.moment g q.later (omega arith) (inl now)))
      (λ (image : IsImage c t g). ⊎_elim
      (λ (le : t ≤ b.moment). first g (p.leaves t g lo le (inr (λ n. ⊎_elim (λ k. inl (q.past t n (g n) le k)) (λ l. inr (sym (q.past_unsynced t n le) ∙ l.0, l.1)) (image n)))))
      (λ (ge : b.moment ≤ t). second g (q.leaves t g ge hi (inr image)))
      (either t b.moment)) leaves;
}

-- one way with a wider property
pub moves_as : (stanza : Text) (P U : Content → Type 0) (a b : View) → ((g : Content) → P g → U g) → EachImage stanza P a b → EachImage stanza U a b
moves_as stanza P U a b wider m = record {
  later = m.later;
  past = m.past;
  past_unsynced = m.past_unsynced;
  known = m.known;
  fixed = m.fixed;
  places = m.places;
  leaves = λ t g lo hi leaves. wider g (m.leaves t g lo hi leaves);
}

-- a file that is archived stays so while others are stored
pub held_on : (stanza : Text) (s : Stanza) (id : ArchiveId) (fs : List Named) (n : Named) → IsArchivedIn stanza s id n → IsArchivedIn stanza (stored s id fs) id n
held_on stanza s id fs n h = record { file = h.file; archived = stays_archived h.file s id fs h.archived; lies = h.lies; sum = h.sum }

pub in_either : {X : Type 0} (x : X) (xs ys : List X) → In x (xs ++ ys) → In x xs ⊎ In x ys
in_either x [] ys h = inr h
in_either x (z ∷ xs) ys h = ⊎_elim (λ (e : x ≡ z). inl (inl e)) (λ k. ⊎_elim (λ i. inl (inr i)) (λ i. inr i) (in_either x xs ys k)) h

module _ (stanza : Text) (id : ArchiveId) where
  -- ---- where nothing is written

  pub stores_none : (a b : View) → LeavesNoMore a b → b.now ≡ a.now → GoesByStores stanza id [] [] a b
  stores_none a b rests same = record {
    known = λ some. subst (λ (o : Option Content). IsSome o) (sym same) some;
    now = λ s some now. ([], refl, subst (λ (o : Option Content). NowRepresents stanza (Some s) o) (sym same) now);
    moves = λ s steady some. rests_moves stanza (Some s) (IsPartOfStores stanza s id []) a b rests same steady some (λ g h. ([], refl, h));
    ends = λ s steady some g leaves. ([], refl, (steady_rests stanza (Some s) a b rests same steady).represents g leaves);
    held = λ s steady some n at. absurd at;
    noted = λ s some now n at. absurd at;
  }

  pub rests_self : (a : View) → LeavesNoMore a a
  rests_self a = record {
    later = omega arith;
    same = λ t n v le h. h;
    stays = λ t n v le h. h;
    same_unsynced = λ t n le. refl;
    grows = λ t n v lo hi h. inl (subst (λ (m : ℕ). a.kept m n v) (let e : t ≡ a.moment = omega (arith, lo, hi) in e) h);
    unsyncs = λ t n lo hi h. inl (subst (λ (m : ℕ). a.unsynced m n ≡ true) (let e : t ≡ a.moment = omega (arith, lo, hi) in e) h);
  }

  pub stores_still : (a : View) → GoesByStores stanza id [] [] a a
  stores_still a = stores_none a a (rests_self a) refl

  -- what leaves the repository unchanged, as healing a pair does
  pub stores_same : (a b : View) → (IsSome a.now → IsSome b.now) → ((s : Stanza) → IsSome a.now → NowRepresents stanza (Some s) a.now → NowRepresents stanza (Some s) b.now)
      → ((s : Stanza) → IsSteady stanza (Some s) a → IsSome a.now → EachImage stanza (λ g. Represents stanza g (Some s)) a b) → GoesByStores stanza id [] [] a b
  stores_same a b known now moves = record {
    known = known;
    now = λ s some represents. ([], refl, now s some represents);
    moves = λ s steady some. moves_as stanza (λ g. Represents stanza g (Some s)) (IsPartOfStores stanza s id []) a b (λ g h. ([], refl, h)) (moves s steady some);
    ends = λ s steady some g leaves. let m = moves s steady some in ([], refl, m.leaves b.moment g m.later (omega arith) leaves);
    held = λ s steady some n at. absurd at;
    noted = λ s some now n at. absurd at;
  }

  -- ---- with more files, of which nothing may be done

  pub stores_wide : (files more : List Named) (a b : View) → GoesByStores stanza id files [] a b → GoesByStores stanza id files more a b
  stores_wide files more a b p = record {
    known = p.known;
    now = λ s some now. let x = p.now s some now in (x.0, subst (λ (d : List Step). IsPartOf d (map One (store_steps (stored s id files) id more))) (sym x.1) (part_none (map One (store_steps (stored s id files) id more))), x.2);
    moves = λ s steady some. moves_as stanza (IsPartOfStores stanza s id (files ++ [])) (IsPartOfStores stanza s id (files ++ more)) a b
        (λ g h. stores_first stanza s id files more g (subst (λ (l : List Named). IsPartOfStores stanza s id l g) (append-nil files) h)) (p.moves s steady some);
    ends = λ s steady some g leaves. let x = p.ends s steady some g leaves in (x.0, subst (λ (d : List Step). IsPartOf d (map One (store_steps (stored s id files) id more))) (sym x.1) (part_none (map One (store_steps (stored s id files) id more))), x.2);
    held = p.held;
    noted = p.noted;
  }

  -- ---- one after the other

  none_done : (s : Stanza) (stanza_of : Repository → Type 0) (done : List Step) → done ≡ [] → stanza_of (after (Some s) done) → stanza_of (Some s)
  none_done s stanza_of done e h = subst (λ (d : List Step). stanza_of (after (Some s) d)) e h

  -- where all of the stores were done, all that is left represents the stanza with the files
  pub stores_steady : (files : List Named) (a b : View) → GoesByStores stanza id files [] a b → (s : Stanza) → IsSteady stanza (Some s) a → IsSome a.now → IsSteady stanza (Some (stored s id files)) b
  stores_steady files a b p s steady some = record {
    fixed = (p.moves s steady some).fixed;
    places = (p.moves s steady some).places;
    represents = λ g leaves. let x = p.ends s steady some g leaves in none_done (stored s id files) (λ (r : Repository). Represents stanza g r) x.0 x.1 x.2;
  }

  pub stores_now : (files : List Named) (a b : View) → GoesByStores stanza id files [] a b → (s : Stanza) → IsSome a.now → NowRepresents stanza (Some s) a.now → NowRepresents stanza (Some (stored s id files)) b.now
  stores_now files a b p s some now = let x = p.now s some now in none_done (stored s id files) (λ (r : Repository). NowRepresents stanza r b.now) x.0 x.1 x.2

  module _ (fs gs more : List Named) (a b c : View) (p : GoesByStores stanza id fs [] a b) (q : GoesByStores stanza id gs more b c) where
    steady_b : (s : Stanza) → IsSteady stanza (Some s) a → IsSome a.now → IsSteady stanza (Some (stored s id fs)) b
    steady_b s steady some = stores_steady fs a b p s steady some

    as_both : (s : Stanza) → stored (stored s id fs) id gs ≡ stored s id (fs ++ gs)
    as_both s = sym (stored_after s id fs gs)

    assoc : (fs ++ gs) ++ more ≡ fs ++ (gs ++ more)
    assoc = append_assoc fs gs more

    held_both : (s : Stanza) → IsSteady stanza (Some s) a → IsSome a.now → (n : Named) → In n (fs ++ gs) → IsArchivedIn stanza (stored s id (fs ++ gs)) id n
    held_both s steady some n at = subst (λ (x : Stanza). IsArchivedIn stanza x id n) (as_both s) (⊎_elim
        (λ (i : In n fs). held_on stanza (stored s id fs) id gs n (p.held s steady some n i))
        (λ (i : In n gs). q.held (stored s id fs) (steady_b s steady some) (p.known some) n i)
        (in_either n fs gs at))

    noted_both : (s : Stanza) → IsSome a.now → NowRepresents stanza (Some s) a.now → (n : Named) → In n (fs ++ gs) → In (note_of n) (stored s id (fs ++ gs)).drained
    noted_both s some now n at = subst (λ (x : Stanza). In (note_of n) x.drained) (as_both s) (⊎_elim
        (λ (i : In n fs). all_keep_notes (note_of n) (store_steps (stored s id fs) id gs) (stored s id fs) (p.noted s some now n i))
        (λ (i : In n gs). q.noted (stored s id fs) (p.known some) (stores_now fs a b p s some now) n i)
        (in_either n fs gs at))

    pub stores_on : GoesByStores stanza id (fs ++ gs) more a c
    stores_on = record {
      known = λ some. q.known (p.known some);
      now = λ s some now. subst (λ (x : Stanza). NowPartOfStores stanza x id more c.now) (as_both s) (q.now (stored s id fs) (p.known some) (stores_now fs a b p s some now));
      moves = λ s steady some. subst (λ (l : List Named). EachImage stanza (IsPartOfStores stanza s id l) a c) (sym assoc)
          (moves_on stanza (IsPartOfStores stanza s id (fs ++ [])) (IsPartOfStores stanza (stored s id fs) id (gs ++ more)) (IsPartOfStores stanza s id (fs ++ (gs ++ more))) a b c
          (p.moves s steady some) (q.moves (stored s id fs) (steady_b s steady some) (p.known some))
          (λ g h. stores_first stanza s id fs (gs ++ more) g (subst (λ (l : List Named). IsPartOfStores stanza s id l g) (append-nil fs) h))
          (λ g h. stores_after stanza s id fs (gs ++ more) g h));
      ends = λ s steady some g leaves. subst (λ (x : Stanza). IsPartOfStores stanza x id more g) (as_both s) (q.ends (stored s id fs) (steady_b s steady some) (p.known some) g leaves);
      held = held_both;
      noted = noted_both;
    }
