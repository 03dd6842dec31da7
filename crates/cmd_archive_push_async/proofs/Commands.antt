-- The commands that store files under the id of the current cluster: a drain, and a wait for the drain as a step of
-- others.
use Rattle.std.proofs.Common.{◌≡◌, Bool, true, false, List, [], ◌∷◌, ◌++◌, map, Option, Some, inl, inr, refl, ap, ◌∙◌, sym, subst}
use Rattle.std.specs.List.{flat_map}
use Rattle.std.specs.Option.{option_map_or}
use Rattle.std.proofs.lemmas.List.{append-nil}
use Rattle.base_model.specs.declared.clusters.Cluster.{Cluster}
use Rattle.base_model.specs.declared.wal.ArchiveId.{ArchiveId}
use Rattle.base_model.specs.Repository.{Drained, Stanza, Repository, id_of}
use Rattle.base_model.specs.Steps.{Step, Note, Move, One, Named, Command, ArchivePushAsync, ArchivePushDrain, IsPartOf, after, all_of, changed, steps_of, stores_of}
use Rattle.base_model.specs.Log.{IsDone}
use Rattle.base_model.proofs.PushDone.{all_one}
use Rattle.cmd_archive_push_async.specs.Keeping.{IsCurrentId}
use Rattle.cmd_archive_push_async.specs.Storing.{store_steps}
use Rattle.cmd_archive_push_async.proofs.Stores.{all_is_part}
use Rattle.cmd_archive_push_async.proofs.Groups.{first_of}

-- what holds after a part of the stores holds after a part of the command, which is one of the stores too
pub record PartAs (id : ArchiveId) (fs : List Named) (command : Command) (s : Stanza) (P : Repository → Type 0) : Type 0 where
  pub done : List Step
  pub of_stores : IsPartOf done (map One (store_steps s id fs))
  pub of_command : IsPartOf done (steps_of command (Some s))
  pub holds : P (after (Some s) done)

-- all that the command does is to store these files under the id of the current cluster; notes don't matter to what
-- holds of a part
pub record StoresAs (id : ArchiveId) (fs : List Named) (command : Command) : Type 1 where
  pub all : (whole : Bool) (s : Stanza) → IsCurrentId s id → IsDone whole (store_steps s id fs) (steps_of command (Some s))
  pub part : (P : Repository → Type 0) → ((d : Drained) (s : Stanza) → P (Some s) → P (Some (changed (Note d) s))) → (s : Stanza) → IsCurrentId s id
      → (done : List Step) → IsPartOf done (map One (store_steps s id fs)) → P (after (Some s) done) → PartAs id fs command s P

module _ (id : ArchiveId) (fs : List Named) where
  same_steps : (command : Command) → ((s : Stanza) → IsCurrentId s id → steps_of command (Some s) ≡ map One (store_steps s id fs)) → StoresAs id fs command
  same_steps command steps = record {
    all = λ whole s at. by whole s (steps s at);
    part = λ P noted s at done p h. record { done = done; of_stores = p; of_command = subst (λ (m : List Move). IsPartOf done m) (sym (steps s at)) p; holds = h };
  }
    where
      by : (whole : Bool) (s : Stanza) → steps_of command (Some s) ≡ map One (store_steps s id fs) → IsDone whole (store_steps s id fs) (steps_of command (Some s))
      by true s e = sym (ap all_of e ∙ all_one (store_steps s id fs))
      by false s e = subst (λ (m : List Move). IsPartOf (store_steps s id fs) m) (sym e) (all_is_part (store_steps s id fs))

  pub drain_as : StoresAs id fs (ArchivePushDrain fs)
  drain_as = same_steps (ArchivePushDrain fs) (λ s at.
      ap (λ (o : Option Cluster). option_map_or (λ (k : Cluster). map One (store_steps s (id_of k) fs)) o []) at.1
      ∙ ap (λ (i : ArchiveId). map One (store_steps s i fs)) (sym at.2))

  abbrev waits : Bool → Command
  waits ended = ArchivePushAsync (record { id = id; pushed = fs; ended = ended } ∷ [])

  -- a step of others that succeeded has stored all of its files, and another any of them
  pub turn_as : (ended : Bool) → StoresAs id fs (waits ended)
  turn_as true = same_steps (waits true) (λ s at. append-nil (map One (store_steps s id fs)))
  turn_as false = record {
    all = λ whole s at. by whole s;
    part = λ P noted s at done p h. let x = first_of P noted fs s id done p h in record { done = x.done; of_stores = x.part; of_command = inl x.some; holds = x.holds };
  }
    where
      by : (whole : Bool) (s : Stanza) → IsDone whole (store_steps s id fs) (steps_of (waits false) (Some s))
      by true s = sym (append-nil (flat_map (λ g. g) (stores_of s id fs)))
      by false s = inr ([], sym (append-nil (flat_map (λ g. g) (stores_of s id fs))), refl)
