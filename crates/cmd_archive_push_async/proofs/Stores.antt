-- Stores one after the other, and parts of them.
use Rattle.std.proofs.Common.{◌≡◌, ◌⊎◌, ⊎_elim, inl, inr, Bool, true, false, List, [], ◌∷◌, ◌++◌, map, Some, refl, ap, ◌∙◌, sym, subst, append_assoc}
use Rattle.std.specs.Prelude.{if◌then◌else◌}
use Rattle.std.proofs.lemmas.List.{append-nil}
use Rattle.sha1.specs.Sha1.{sha1}
use Rattle.base_devices.specs.Content.{Content}
use Rattle.base_model.specs.declared.wal.ArchiveId.{ArchiveId}
use Rattle.base_model.specs.Text.{Text, In}
use Rattle.base_model.specs.Repository.{Archived, Stanza, Repository}
use Rattle.base_model.specs.Represents.{Represents}
use Rattle.base_model.specs.Steps.{Step, Create, Upgrade, Push, Note, AddBackup, Condemn, Forget, One, Named, IsPartOf, after, after_all, changed, step, push_of, store_of, archived_of, is_archived, has_other}
use Rattle.base_model.proofs.Done.{part_none}
use Rattle.base_model.proofs.PushDone.{after_some}
use Rattle.base_model.proofs.Pushed.{new_no_other}
use Rattle.base_model.proofs.Turned.{store_both, store_either}
use Rattle.base_model.proofs.Waited.{all_after}
use Rattle.cmd_archive_push_async.specs.Storing.{store_steps, stored, IsPartOfStores}

-- ---- parts of steps that come one after another

pub part_first : (done xs ys : List Step) → IsPartOf done (map One xs) → IsPartOf done (map One (xs ++ ys))
part_first done [] ys p = subst (λ (d : List Step). IsPartOf d (map One ys)) (sym p) (part_none (map One ys))
part_first done (t ∷ xs) ys p = ⊎_elim (λ (e : done ≡ []). inl e) (λ (q : (rest : List Step) × (done ≡ t ∷ rest) × IsPartOf rest (map One xs)). inr (q.0, q.1, part_first q.0 xs ys q.2)) p

pub part_following : (xs ys done : List Step) → IsPartOf done (map One ys) → IsPartOf (xs ++ done) (map One (xs ++ ys))
part_following [] ys done p = p
part_following (t ∷ xs) ys done p = inr (xs ++ done, refl, part_following xs ys done p)

-- a part of both is one of the first, or all of the first and a part of the second
pub part_split : (done xs ys : List Step) → IsPartOf done (map One (xs ++ ys)) → IsPartOf done (map One xs) ⊎ ((rest : List Step) × (done ≡ xs ++ rest) × IsPartOf rest (map One ys))
part_split done [] ys p = inr (done, refl, p)
part_split done (t ∷ xs) ys p = ⊎_elim (λ (e : done ≡ []). inl (inl e))
    (λ (q : (rest : List Step) × (done ≡ t ∷ rest) × IsPartOf rest (map One (xs ++ ys))). ⊎_elim
    (λ (r : IsPartOf q.0 (map One xs)). inl (inr (q.0, q.1, r)))
    (λ (r : (rest : List Step) × (q.0 ≡ xs ++ rest) × IsPartOf rest (map One ys)). inr (r.0, q.1 ∙ ap (λ (l : List Step). t ∷ l) r.1, r.2))
    (part_split q.0 xs ys q.2)) p

pub all_is_part : (xs : List Step) → IsPartOf xs (map One xs)
all_is_part [] = refl
all_is_part (t ∷ xs) = inr (xs, refl, all_is_part xs)

pub after_following : (r : Repository) (xs ys : List Step) → after r (xs ++ ys) ≡ after (after r xs) ys
after_following r [] ys = refl
after_following r (t ∷ xs) ys = after_following (step r t) xs ys

-- ---- stores after stores

pub steps_after : (s : Stanza) (id : ArchiveId) (fs gs : List Named) → store_steps s id (fs ++ gs) ≡ store_steps s id fs ++ store_steps (stored s id fs) id gs
steps_after s id [] gs = refl
steps_after s id (n ∷ fs) gs =
    let s1 = after_all s (store_of s id n) in
    ap (λ (l : List Step). store_of s id n ++ l) (steps_after s1 id fs gs)
    ∙ sym (append_assoc (store_of s id n) (store_steps s1 id fs) (store_steps (stored s1 id fs) id gs))
    ∙ ap (λ (x : Stanza). (store_of s id n ++ store_steps s1 id fs) ++ store_steps x id gs) (sym (all_after s (store_of s id n) (store_steps s1 id fs)))

pub stored_after : (s : Stanza) (id : ArchiveId) (fs gs : List Named) → stored s id (fs ++ gs) ≡ stored (stored s id fs) id gs
stored_after s id fs gs = ap (after_all s) (steps_after s id fs gs) ∙ all_after s (store_steps s id fs) (store_steps (stored s id fs) id gs)

module _ (stanza : Text) (s : Stanza) (id : ArchiveId) (fs gs : List Named) where
  -- a part of the first stores is a part of all
  pub stores_first : (g : Content) → IsPartOfStores stanza s id fs g → IsPartOfStores stanza s id (fs ++ gs) g
  stores_first g p = (
    p.0,
    subst (λ (l : List Step). IsPartOf p.0 (map One l)) (sym (steps_after s id fs gs)) (part_first p.0 (store_steps s id fs) (store_steps (stored s id fs) id gs) p.1),
    p.2,
  )

  pub after_done : (done : List Step) → IsPartOf done (map One (store_steps (stored s id fs) id gs)) → IsPartOf (store_steps s id fs ++ done) (map One (store_steps s id (fs ++ gs)))
  after_done done p = subst (λ (l : List Step). IsPartOf (store_steps s id fs ++ done) (map One l)) (sym (steps_after s id fs gs)) (part_following (store_steps s id fs) (store_steps (stored s id fs) id gs) done p)

  pub following_after : (done : List Step) → after (Some (stored s id fs)) done ≡ after (Some s) (store_steps s id fs ++ done)
  following_after done = ap (λ (r : Repository). after r done) (sym (after_some s (store_steps s id fs))) ∙ sym (after_following (Some s) (store_steps s id fs) done)

  -- and so are all of the first with a part of the others
  pub stores_after : (g : Content) → IsPartOfStores stanza (stored s id fs) id gs g → IsPartOfStores stanza s id (fs ++ gs) g
  stores_after g p = (store_steps s id fs ++ p.0, after_done p.0 p.1, subst (λ (r : Repository). Represents stanza g r) (following_after p.0) p.2)

-- ---- what stays archived

pub in_left : {X : Type 0} (x : X) (xs ys : List X) → In x xs → In x (xs ++ ys)
in_left x [] ys h = absurd h
in_left x (z ∷ xs) ys h = ⊎_elim (λ (e : x ≡ z). inl e) (λ k. inr (in_left x xs ys k)) h

pub in_right : {X : Type 0} (x : X) (xs ys : List X) → In x ys → In x (xs ++ ys)
in_right x [] ys h = h
in_right x (z ∷ xs) ys h = inr (in_right x xs ys h)

-- steps that remove no file
abbrev pub IsStore : Step → Type 0
IsStore (Create c) = ⊥
IsStore (Upgrade c) = ⊥
IsStore (Push a) = Unit {0}
IsStore (Note d) = Unit {0}
IsStore (AddBackup b) = ⊥
IsStore (Condemn t) = ⊥
IsStore (Forget a) = ⊥

one_keeps : (a : Archived) (t : Step) (s : Stanza) → IsStore t → In a s.archived → In a (changed t s).archived
one_keeps a (Create c) s is at = absurd is
one_keeps a (Upgrade c) s is at = absurd is
one_keeps a (Push b) s is at = in_left a s.archived (b ∷ []) at
one_keeps a (Note d) s is at = at
one_keeps a (AddBackup b) s is at = absurd is
one_keeps a (Condemn t) s is at = absurd is
one_keeps a (Forget b) s is at = absurd is

abbrev pub AreStores : List Step → Type 0
AreStores [] = Unit {0}
AreStores (t ∷ steps) = IsStore t × AreStores steps

all_keep : (a : Archived) (steps : List Step) (s : Stanza) → AreStores steps → In a s.archived → In a (after_all s steps).archived
all_keep a [] s are at = at
all_keep a (t ∷ steps) s are at = all_keep a steps (changed t s) are.1 (one_keeps a t s are.0 at)

stores_all : (xs ys : List Step) → AreStores xs → AreStores ys → AreStores (xs ++ ys)
stores_all [] ys p q = q
stores_all (t ∷ xs) ys p q = (p.0, stores_all xs ys p.1 q)

push_stores : (a : Archived) (archived : Bool) → AreStores (if archived then [] else Push a ∷ [])
push_stores a true = tt
push_stores a false = (tt, tt)

store_stores : (s : Stanza) (id : ArchiveId) (n : Named) → AreStores (store_of s id n)
store_stores s id n = ⊎_elim
    (λ (e : store_of s id n ≡ []). subst AreStores (sym e) tt)
    (λ (e : store_of s id n ≡ push_of s (archived_of id n) ++ Note (record { name = n.name; sum = sha1 n.bytes }) ∷ []). subst AreStores (sym e)
    (stores_all (push_of s (archived_of id n)) (Note (record { name = n.name; sum = sha1 n.bytes }) ∷ []) (push_stores (archived_of id n) (is_archived (archived_of id n) s.archived)) (tt, tt)))
    (store_either id n s)

pub steps_store : (s : Stanza) (id : ArchiveId) (fs : List Named) → AreStores (store_steps s id fs)
steps_store s id [] = tt
steps_store s id (n ∷ fs) = stores_all (store_of s id n) (store_steps (after_all s (store_of s id n)) id fs) (store_stores s id n) (steps_store (after_all s (store_of s id n)) id fs)

-- what is archived stays so while files are stored
pub stays_archived : (a : Archived) (s : Stanza) (id : ArchiveId) (fs : List Named) → In a s.archived → In a (stored s id fs).archived
stays_archived a s id fs at = all_keep a (store_steps s id fs) s (steps_store s id fs) at

part_stores : (done xs : List Step) → AreStores xs → IsPartOf done (map One xs) → AreStores done
part_stores done [] are p = subst AreStores (sym p) tt
part_stores done (t ∷ xs) are p = ⊎_elim (λ (e : done ≡ []). subst AreStores (sym e) tt)
    (λ (q : (rest : List Step) × (done ≡ t ∷ rest) × IsPartOf rest (map One xs)). subst AreStores (sym q.1) (are.0, part_stores q.0 xs are.1 q.2)) p

-- also after a part
pub part_archived : (a : Archived) (s : Stanza) (id : ArchiveId) (fs : List Named) (done : List Step) → IsPartOf done (map One (store_steps s id fs)) → In a s.archived → In a (after_all s done).archived
part_archived a s id fs done p at = all_keep a done s (part_stores done (store_steps s id fs) (steps_store s id fs) p) at

-- ---- one file

module _ (s : Stanza) (id : ArchiveId) (n : Named) where
  abbrev push : List Step
  push = push_of s (archived_of id n)

  abbrev note : Step
  note = Note (record { name = n.name; sum = sha1 n.bytes })

  pub one_steps : has_other (archived_of id n) s.archived ≡ false → store_steps s id (n ∷ []) ≡ push_of s (archived_of id n) ++ Note (record { name = n.name; sum = sha1 n.bytes }) ∷ []
  one_steps off = append-nil (store_of s id n) ∙ store_both id n s off

  pub one_stored : has_other (archived_of id n) s.archived ≡ false → stored s id (n ∷ []) ≡ changed (Note (record { name = n.name; sum = sha1 n.bytes })) (after_all s (push_of s (archived_of id n)))
  one_stored off = ap (after_all s) (one_steps off) ∙ all_after s push (note ∷ [])

  -- a part of its push is a part of its store
  pub one_part : (done : List Step) → IsPartOf done (map One (push_of s (archived_of id n))) → IsPartOf done (map One (store_steps s id (n ∷ [])))
  one_part done p = by (is_archived (archived_of id n) s.archived) refl
    where
      by : (archived : Bool) → is_archived (archived_of id n) s.archived ≡ archived → IsPartOf done (map One (store_steps s id (n ∷ [])))
      by true e =
          let none : done ≡ [] = subst (λ (b : Bool). IsPartOf done (map One (if b then [] else Push (archived_of id n) ∷ []))) e p in
          subst (λ (d : List Step). IsPartOf d (map One (store_steps s id (n ∷ [])))) (sym none) (part_none (map One (store_steps s id (n ∷ []))))
      by false e = subst (λ (l : List Step). IsPartOf done (map One l)) (sym (one_steps (new_no_other (archived_of id n) s.archived e))) (part_first done push (note ∷ []) p)
