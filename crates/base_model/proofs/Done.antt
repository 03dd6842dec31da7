-- Steps that are done.
use Rattle.std.proofs.Common.{◌≡◌, ◌⊎◌, ⊎_elim, inl, inr, List, [], ◌∷◌, Option, Some, None, true, false, refl, sym, subst}
use Rattle.std.specs.Prelude.{IsSome}
use Rattle.base_devices.specs.Content.{Content}
use Rattle.base_model.specs.declared.clusters.Cluster.{Cluster}
use Rattle.base_model.specs.Text.{Text}
use Rattle.base_model.specs.Repository.{Repository}
use Rattle.base_model.specs.Steps.{Step, Create, Move, One, Any, Command, StanzaCreate, IsPartOf, IsSomeOf, step, after, steps_of}
use Rattle.base_model.specs.Log.{IsDone}
use Rattle.base_model.specs.Now.{NowRepresents, NowEffect}

nothing_of : (groups : List (List Step)) → IsSomeOf [] groups
nothing_of [] = refl
nothing_of (g ∷ groups) = inl (nothing_of groups)

-- nothing is a part of any moves
pub part_none : (moves : List Move) → IsPartOf [] moves
part_none [] = refl
part_none (One t ∷ moves) = inl refl
part_none (Any groups ∷ moves) = inl (nothing_of groups)

-- what stays unchanged has done nothing of a command
pub nothing_done : (stanza : Text) (command : Command) (old new : Option Content) → new ≡ old → NowEffect stanza command false old new
nothing_done stanza command old new same = record {
  known = λ s. subst (λ (o : Option Content). IsSome o) (sym same) s;
  does = λ r from some now. ([], part_none (steps_of command r), subst (λ (o : Option Content). NowRepresents stanza r o) (sym same) now);
}

module _ (stanza : Text) (c : Cluster) (old mid new : Option Content) (same : mid ≡ old) (known : IsSome mid → IsSome new) where
  from_mid : (r : Repository) → NowRepresents stanza r old → NowRepresents stanza r mid
  from_mid r now = subst (λ (o : Option Content). NowRepresents stanza r o) (sym same) now

  some_mid : IsSome old → IsSome mid
  some_mid s = subst (λ (o : Option Content). IsSome o) (sym same) s

  -- a stanza that may have been made
  pub create_part : ((r : Repository) → IsSome mid → NowRepresents stanza r mid → NowRepresents stanza r new ⊎ NowRepresents stanza (step r (Create c)) new) → NowEffect stanza (StanzaCreate (Some c)) false old new
  create_part part = record { known = λ s. known (some_mid s); does = does }
    where
      does : (r : Repository) → Unit {0} → IsSome old → NowRepresents stanza r old → (done : List Step) × IsPartOf done (steps_of (StanzaCreate (Some c)) r) × NowRepresents stanza (after r done) new
      does None from some now = ⊎_elim (λ s. ([], inl refl, s)) (λ s. (Create c ∷ [], inr ([], refl, refl), s)) (part None (some_mid some) (from_mid None now))
      does (Some s) from some now = ([], refl, ⊎_elim (λ x. x) (λ x. x) (part (Some s) (some_mid some) (from_mid (Some s) now)))

  -- a stanza that was made
  pub create_whole : ((r : Repository) → IsSome mid → NowRepresents stanza r mid → (r ≡ None) × NowRepresents stanza (step r (Create c)) new) → NowEffect stanza (StanzaCreate (Some c)) true old new
  create_whole whole = record { known = λ s. known (some_mid s); does = does }
    where
      does : (r : Repository) → Unit {0} → IsSome old → NowRepresents stanza r old → (done : List Step) × IsDone true done (steps_of (StanzaCreate (Some c)) r) × NowRepresents stanza (after r done) new
      does None from some now = (Create c ∷ [], refl, (whole None (some_mid some) (from_mid None now)).1)
      does (Some s) from some now = ([], refl, (whole (Some s) (some_mid some) (from_mid (Some s) now)).1)
