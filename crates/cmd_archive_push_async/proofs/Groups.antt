-- A part of the stores of files, as the first of them whole: a note shows in no name, so a file that was pushed counts
-- as stored.
use Rattle.std.proofs.Common.{◌≡◌, ◌⊎◌, ⊎_elim, inl, inr, Bool, true, false, List, [], ◌∷◌, ◌++◌, map, Some, refl, ap, ◌∙◌, sym, subst}
use Rattle.std.specs.Prelude.{if◌then◌else◌}
use Rattle.std.proofs.lemmas.List.{append-nil}
use Rattle.sha1.specs.Sha1.{sha1}
use Rattle.base_model.specs.declared.wal.ArchiveId.{ArchiveId}
use Rattle.base_model.specs.Repository.{Archived, Drained, Stanza, Repository}
use Rattle.base_model.specs.Steps.{Step, Push, Note, One, Named, IsPartOf, IsSomeOf, after, after_all, changed, push_of, store_of, stores_of, archived_of, is_archived}
use Rattle.base_model.proofs.Done.{part_none}
use Rattle.base_model.proofs.Logged.{one_part}
use Rattle.base_model.proofs.PushDone.{after_some}
use Rattle.base_model.proofs.Turned.{store_either}
use Rattle.base_model.proofs.Waited.{all_after}
use Rattle.cmd_archive_push_async.specs.Storing.{store_steps}
use Rattle.cmd_archive_push_async.proofs.Stores.{part_first, part_following, part_split, all_is_part, after_following}

nothing_of : (groups : List (List Step)) → IsSomeOf [] groups
nothing_of [] = refl
nothing_of (g ∷ groups) = inl (nothing_of groups)

nothing_or_push : (s : Stanza) (a : Archived) (done : List Step) → IsPartOf done (map One (push_of s a)) → (done ≡ []) ⊎ (done ≡ push_of s a)
nothing_or_push s a done p = by (is_archived a s.archived) p
  where
    by : (archived : Bool) → IsPartOf done (map One (if archived then [] else Push a ∷ [])) → (done ≡ []) ⊎ (done ≡ (if archived then [] else Push a ∷ []))
    by true p = inl p
    by false p = one_part (Push a) done p

-- P is what holds of a repository, and notes don't matter to it
module _ (P : Repository → Type 0) (noted : (d : Drained) (s : Stanza) → P (Some s) → P (Some (changed (Note d) s))) where
  -- the first of the stores, whole
  pub record IsFirst (s : Stanza) (id : ArchiveId) (fs : List Named) : Type 0 where
    pub done : List Step
    pub some : IsSomeOf done (stores_of s id fs)
    pub part : IsPartOf done (map One (store_steps s id fs))
    pub holds : P (after (Some s) done)

  module _ (s : Stanza) (id : ArchiveId) (n : Named) (fs : List Named) where
    abbrev push : List Step
    push = push_of s (archived_of id n)

    abbrev note : Drained
    note = record { name = n.name; sum = sha1 n.bytes }

    abbrev s1 : Stanza
    s1 = after_all s (store_of s id n)

    nothing : P (Some s) → IsFirst s id (n ∷ fs)
    nothing h = record { done = []; some = nothing_of (stores_of s id (n ∷ fs)); part = part_none (map One (store_steps s id (n ∷ fs))); holds = h }

    whole : P (after (Some s) (store_of s id n)) → IsFirst s id (n ∷ fs)
    whole h = record {
      done = store_of s id n;
      some = inr ([], sym (append-nil (store_of s id n)), nothing_of (stores_of s1 id fs));
      part = part_first (store_of s id n) (store_of s id n) (store_steps s1 id fs) (all_is_part (store_of s id n));
      holds = h;
    }

    -- the push, and the note
    abbrev both : List Step
    both = push ++ Note note ∷ []

    pushed : store_of s id n ≡ both → P (after (Some s) push) → IsFirst s id (n ∷ fs)
    pushed is h = whole (subst P (sym (after_some s (store_of s id n) ∙ ap (λ (x : Stanza). Some x) (ap (after_all s) is ∙ all_after s push (Note note ∷ [])))) (noted note (after_all s push) (subst P (after_some s push) h)))

    more : (done : List Step) → IsFirst s1 id fs → IsFirst s id (n ∷ fs)
    more done x = record {
      done = store_of s id n ++ x.done;
      some = inr (x.done, refl, x.some);
      part = part_following (store_of s id n) (store_steps s1 id fs) x.done x.part;
      holds = subst P (ap (λ (r : Repository). after r x.done) (sym (after_some s (store_of s id n))) ∙ sym (after_following (Some s) (store_of s id n) x.done)) x.holds;
    }

    of_both : store_of s id n ≡ both → (done : List Step) → IsPartOf done (map One both) → P (after (Some s) done) → IsFirst s id (n ∷ fs)
    of_both is done p h = ⊎_elim
        (λ (q : IsPartOf done (map One push)). ⊎_elim (λ (e : done ≡ []). nothing (subst (λ (d : List Step). P (after (Some s) d)) e h))
        (λ (e : done ≡ push). pushed is (subst (λ (d : List Step). P (after (Some s) d)) e h)) (nothing_or_push s (archived_of id n) done q))
        (λ (q : (rest : List Step) × (done ≡ push ++ rest) × IsPartOf rest (map One (Note note ∷ []))). ⊎_elim
        (λ (e : q.0 ≡ []). pushed is (subst (λ (d : List Step). P (after (Some s) d)) (q.1 ∙ ap (λ (l : List Step). push ++ l) e ∙ append-nil push) h))
        (λ (e : q.0 ≡ Note note ∷ []). whole (subst (λ (d : List Step). P (after (Some s) d)) (q.1 ∙ ap (λ (l : List Step). push ++ l) e ∙ sym is) h))
        (one_part (Note note) q.0 q.2))
        (part_split done push (Note note ∷ []) p)

    of_store : (done : List Step) → IsPartOf done (map One (store_of s id n)) → P (after (Some s) done) → IsFirst s id (n ∷ fs)
    of_store done p h = ⊎_elim
        (λ (e : store_of s id n ≡ []).
        let none : done ≡ [] = subst (λ (l : List Step). IsPartOf done (map One l)) e p in
        nothing (subst (λ (d : List Step). P (after (Some s) d)) none h))
        (λ (e : store_of s id n ≡ both). of_both e done (subst (λ (l : List Step). IsPartOf done (map One l)) e p) h)
        (store_either id n s)

  pub first_of : (fs : List Named) (s : Stanza) (id : ArchiveId) (done : List Step) → IsPartOf done (map One (store_steps s id fs)) → P (after (Some s) done) → IsFirst s id fs
  first_of [] s id done p h = record { done = []; some = refl; part = refl; holds = subst (λ (d : List Step). P (after (Some s) d)) p h }
  first_of (n ∷ fs) s id done p h = ⊎_elim
      (λ (q : IsPartOf done (map One (store_of s id n))). of_store s id n fs done q h)
      (λ (q : (rest : List Step) × (done ≡ store_of s id n ++ rest) × IsPartOf rest (map One (store_steps (after_all s (store_of s id n)) id fs))).
      more s id n fs done (first_of fs (after_all s (store_of s id n)) id q.0 q.2
      (subst P (ap (λ (d : List Step). after (Some s) d) q.1 ∙ after_following (Some s) (store_of s id n) q.0 ∙ ap (λ (r : Repository). after r q.0) (after_some s (store_of s id n))) h)))
      (part_split done (store_of s id n) (store_steps (after_all s (store_of s id n)) id fs) p)
