-- Steps of others keep a repository sound.
use Rattle.std.proofs.Common.{◌≡◌, ⊎_elim, List, [], ◌∷◌, ◌++◌, Some, None, refl, sym, ap, ◌∙◌, subst, Bool, true, false}
use Rattle.std.specs.Prelude.{IsSome, if◌then◌else◌}
use Rattle.std.specs.List.{flat_map}
use Rattle.std.proofs.lemmas.List.{append-nil}
use Rattle.sha1.specs.Sha1.{sha1}
use Rattle.base_devices.specs.Moments.{View}
use Rattle.base_model.specs.declared.clusters.Cluster.{Cluster}
use Rattle.base_model.specs.declared.wal.ArchiveId.{ArchiveId}
use Rattle.base_model.specs.Text.{Text, In}
use Rattle.base_model.specs.Repository.{Archived, Stanza, Repository, IsSound, IsSoundStanza, id_of}
use Rattle.base_model.specs.Steps.{Step, Move, Note, Push, Turn, Named, ArchivePushAsync, after, after_all, all_of, steps_of, is_archived, push_of, store_of, stores_of, archived_of}
use Rattle.base_model.specs.Now.{NowRepresents, NowEffect}
use Rattle.base_model.proofs.PushDone.{after_some}
use Rattle.base_model.proofs.Turned.{turn_with, turn_sound, store_either}
use Rattle.base_model.proofs.Waited.{all_after, steps, own, own_all, leads_both}
use Rattle.archive_lookup.specs.Turns.{IsUnder}

-- ---- one file after another

module _ (s : Stanza) (id : ArchiveId) (n : Named) where
  abbrev store : Turn
  store = turn_with id n true

  store_all : all_of (steps_of (ArchivePushAsync (store ∷ [])) (Some s)) ≡ store_of s id n
  store_all = ap all_of (append-nil (own s store)) ∙ own_all s store ∙ append-nil (store_of s id n)

  stored : (c : Cluster) → IsSoundStanza s → In c s.history → id ≡ id_of c → IsSoundStanza (after_all s (store_of s id n))
  stored c sound at under = subst IsSound (after_some s (store_of s id n)) (turn_sound id n s true sound c at under true (store_of s id n) (sym store_all))

  push_leaves : (a : Archived) → (after_all s (push_of s a)).history ≡ s.history
  push_leaves a = by (is_archived a s.archived)
    where
      by : (b : Bool) → (after_all s (if b then [] else Push a ∷ [])).history ≡ s.history
      by true = refl
      by false = refl

  store_leaves : (after_all s (store_of s id n)).history ≡ s.history
  store_leaves = ⊎_elim
      (λ (e : store_of s id n ≡ []). ap (λ (l : List Step). (after_all s l).history) e)
      (λ (e : store_of s id n ≡ push_of s (archived_of id n) ++ Note (record { name = n.name; sum = sha1 n.bytes }) ∷ []).
      ap (λ (l : List Step). (after_all s l).history) e
      ∙ ap (λ (x : Stanza). x.history) (all_after s (push_of s (archived_of id n)) (Note (record { name = n.name; sum = sha1 n.bytes }) ∷ [])) ∙ push_leaves (archived_of id n))
      (store_either id n s)

stores_sound : (s : Stanza) (id : ArchiveId) (c : Cluster) (ns : List Named) → IsSoundStanza s → In c s.history → id ≡ id_of c → IsSoundStanza (after_all s (flat_map (λ g. g) (stores_of s id ns)))
stores_sound s id c [] sound at under = sound
stores_sound s id c (n ∷ ns) sound at under =
    let next = after_all s (store_of s id n) in
    subst IsSoundStanza (sym (all_after s (store_of s id n) (flat_map (λ g. g) (stores_of next id ns))))
    (stores_sound next id c ns (stored s id n c sound at under) (subst (λ (cs : List Cluster). In c cs) (sym (store_leaves s id n)) at) under)

-- ---- a step of others

module _ (t : Turn) where
  turn_keeps : (s : Stanza) → IsSoundStanza s → IsUnder (Some s) t → IsSoundStanza (after_all s (steps s t))
  turn_keeps s sound under = ⊎_elim
      (λ (none : t.pushed ≡ []). subst (λ (ns : List Named). IsSoundStanza (after_all s (flat_map (λ g. g) (stores_of s t.id ns)))) (sym none) sound)
      (λ (x : (c : Cluster) × In c s.history × (t.id ≡ id_of c)). stores_sound s t.id x.0 t.pushed sound x.1 x.2) under

  -- whether it succeeded or not
  pub turn_stays : (r : Repository) → IsSound r → IsUnder r t → IsSound (after r (all_of (steps_of (ArchivePushAsync (t ∷ [])) r)))
  turn_stays None sound under = tt
  turn_stays (Some s) sound under = subst (λ (l : List Step). IsSound (after (Some s) l)) (sym (ap all_of (append-nil (own s t)) ∙ own_all s t))
      (subst IsSound (sym (after_some s (steps s t))) (turn_keeps s sound under))

-- ---- steps of others, and then more of them

module _ (ts us : List Turn) (r : Repository) where
  abbrev mid : Repository
  mid = after r (all_of (steps_of (ArchivePushAsync ts) r))

  pub turns_stay : IsSound (after mid (all_of (steps_of (ArchivePushAsync us) mid))) → IsSound (after r (all_of (steps_of (ArchivePushAsync (ts ++ us)) r)))
  turns_stay sound =
      let x = leads_both ts us true r mid (after mid (all_of (steps_of (ArchivePushAsync us) mid))) (all_of (steps_of (ArchivePushAsync ts) r), refl, refl) (all_of (steps_of (ArchivePushAsync us) mid), refl, refl) in
      subst IsSound (x.1 ∙ ap (after r) x.2) sound
