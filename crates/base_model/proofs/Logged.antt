-- A log continues by a command.
use Rattle.std.proofs.Common.{◌≡◌, ◌⊎◌, ⊎_elim, inl, inr, ◌≤◌, List, [], ◌∷◌, Option, Some, None, refl, ap, ◌∙◌, sym, subst, arith, Bool, true, false}
use Rattle.std.specs.Prelude.{IfSome}
use Rattle.base_devices.specs.Content.{Content}
use Rattle.base_devices.specs.Moments.{View, LeavesNoMore, IsImage}
use Rattle.base_model.specs.declared.clusters.Cluster.{Cluster}
use Rattle.base_model.specs.declared.wal.ArchiveName.{ArchiveName}
use Rattle.base_model.specs.Text.{Text}
use Rattle.base_model.specs.Repository.{Stanza, Repository, IsSound, IsSoundStanza}
use Rattle.base_model.specs.Represents.{Represents}
use Rattle.base_model.specs.Steps.{Step, One, Command, StanzaCreate, Create, IsPartOf, all_of, after, step, steps_of, new_stanza}
use Rattle.base_model.specs.Log.{Done, KeepsRepository, KeepsSpool, RepresentsAfter, Reaches, IsDone, IsDrained}
use Rattle.base_model.specs.Steady.{IsSteady, IsBegun, EachImage, LeavesOnly}
use Rattle.base_model.proofs.Done.{part_none}
use Rattle.base_model.proofs.Begun.{either, between_image, old_leaves, still_synced}

-- what a command's moves lead to is sound
abbrev pub KeepsSound : Command → Type 0
KeepsSound command = (r : Repository) (whole : Bool) (done : List Step) → IsSound r → IsDone whole done (steps_of command r) → IsSound (after r done)

-- g represents r after a part of the command's steps
abbrev pub IsPart : Text → Command → Repository → Content → Type 0
IsPart stanza command r g = (done : List Step) × IsPartOf done (steps_of command r) × Represents stanza g (after r done)

-- reading calls leave a disk that keeps a log unchanged
pub rests_still : (stanza : Text) (q : Repository) (log : List Done) (a b : View) → LeavesNoMore a b → b.now ≡ a.now → KeepsRepository stanza q log a → KeepsRepository stanza q log b
rests_still stanza q log a b rests same keeps = record {
  fixed = λ n h. still_synced a b rests n (keeps.fixed n h);
  places = λ f leaves n h. still_synced a b rests n (keeps.places f (old_leaves a b rests f same leaves) n h);
  represents = λ f leaves. keeps.represents f (old_leaves a b rests f same leaves);
}

module _ (stanza : Text) (command : Command) (q : Repository) (log : List Done) where
  abbrev undone : Done
  undone = record { command = command; acknowledged = false }

  abbrev acknowledged : Done
  acknowledged = record { command = command; acknowledged = true }

  still_after : (f : Content) → RepresentsAfter stanza q log f → RepresentsAfter stanza q (undone ∷ log) f
  still_after f s = record { repository = s.repository; reached = (s.repository, s.reached, ([], refl, part_none (steps_of command s.repository))); sound = s.sound; represents = s.represents }

  -- where nothing was done
  module _ (a b : View) (rests : LeavesNoMore a b) (same : b.now ≡ a.now) (keeps : KeepsRepository stanza q log a) where
    pub rests_keeps : KeepsRepository stanza q (undone ∷ log) b
    rests_keeps = let k = rests_still stanza q log a b rests same keeps in record { fixed = k.fixed; places = k.places; represents = λ f leaves. still_after f (k.represents f leaves) }

    pub rests_between : LeavesOnly (RepresentsAfter stanza q (undone ∷ log)) a b
    rests_between t f lo hi leaves = still_after f (keeps.represents f (⊎_elim (λ (now : b.now ≡ Some f). inl (sym same ∙ now)) (λ image. inr (between_image a b rests t f lo hi image)) leaves))

    -- a part of the command, or all of it, where that keeps the repository sound
    module _ (begun : IsBegun stanza q log b) (sound : (whole : Bool) (done : List Step) → IsDone whole done (steps_of command begun.repository) → IsSound (after begun.repository done))
        (P : Content → Type 0) (part : (g : Content) → P g → IsPart stanza command begun.repository g) (d : View) (moves : EachImage stanza P b d) where
      by_part : (g : Content) → P g → RepresentsAfter stanza q (undone ∷ log) g
      by_part g p = let x = part g p in record {
        repository = after begun.repository x.0;
        reached = (begun.repository, begun.reached, (x.0, refl, x.1));
        sound = sound false x.0 x.1;
        represents = x.2;
      }

      pub part_keeps : KeepsRepository stanza q (undone ∷ log) d
      part_keeps = record { fixed = moves.fixed; places = moves.places; represents = λ f leaves. by_part f (moves.leaves d.moment f moves.later (omega arith) leaves) }

      pub part_between : LeavesOnly (RepresentsAfter stanza q (undone ∷ log)) a d
      part_between t f lo hi leaves = ⊎_elim
          (λ (now : d.now ≡ Some f). by_part f (moves.leaves d.moment f moves.later (omega arith) (inl now)))
          (λ (image : IsImage d t f). ⊎_elim
          (λ (le : t ≤ b.moment). still_after f (keeps.represents f (inr (between_image a b rests t f lo le (λ n. ⊎_elim (λ k. inl (moves.past t n (f n) le k)) (λ l. inr (sym (moves.past_unsynced t n le) ∙ l.0, l.1)) (image n))))))
          (λ (ge : b.moment ≤ t). by_part f (moves.leaves t f ge hi (inr image)))
          (either t b.moment)) leaves

      pub whole_keeps : IsSteady stanza (after begun.repository (all_of (steps_of command begun.repository))) d → KeepsRepository stanza q (acknowledged ∷ log) d
      whole_keeps s = record {
        fixed = s.fixed;
        places = s.places;
        represents = λ f leaves. record {
          repository = after begun.repository (all_of (steps_of command begun.repository));
          reached = (begun.repository, begun.reached, (all_of (steps_of command begun.repository), refl, refl));
          sound = sound true (all_of (steps_of command begun.repository)) refl;
          represents = s.represents f leaves;
        };
      }

    -- the same for a command that keeps every repository sound
    module _ (begun : IsBegun stanza q log b) (keeps_sound : KeepsSound command) (P : Content → Type 0) (part : (g : Content) → P g → IsPart stanza command begun.repository g)
        (d : View) (moves : EachImage stanza P b d) where
      sound_here : (whole : Bool) (done : List Step) → IsDone whole done (steps_of command begun.repository) → IsSound (after begun.repository done)
      sound_here whole done is = keeps_sound begun.repository whole done begun.sound is

      pub moves_keep : KeepsRepository stanza q (undone ∷ log) d
      moves_keep = part_keeps begun sound_here P part d moves

      pub moves_between : LeavesOnly (RepresentsAfter stanza q (undone ∷ log)) a d
      moves_between = part_between begun sound_here P part d moves

      pub moves_done : IsSteady stanza (after begun.repository (all_of (steps_of command begun.repository))) d → KeepsRepository stanza q (acknowledged ∷ log) d
      moves_done s = whole_keeps begun sound_here P part d moves s

-- stanza-create
pub one_part : (t : Step) (done : List Step) → IsPartOf done (One t ∷ []) → (done ≡ []) ⊎ (done ≡ t ∷ [])
one_part t done p = ⊎_elim inl (λ (q : (rest : List Step) × (done ≡ t ∷ rest) × (rest ≡ [])). inr (q.1 ∙ ap (λ x. t ∷ x) q.2)) p

pub no_step : (r : Repository) (done : List Step) → IsSound r → done ≡ [] → IsSound (after r done)
no_step r done sound none = subst (λ d. IsSound (after r d)) (sym none) sound

new_is_sound : (c : Cluster) → c.id ≡ 1 → IsSoundStanza (new_stanza c)
new_is_sound c first = record {
  some = omega arith;
  numbers = (first, tt);
  neighbours = tt;
  ids = λ a at. absurd at;
  apart = tt;
  backups = tt;
}

created : (c : Cluster) (done : List Step) → c.id ≡ 1 → done ≡ Create c ∷ [] → IsSound (after None done)
created c done first is = subst (λ d. IsSound (after None d)) (sym is) (new_is_sound c first)

pub create_sound : (cluster : Option Cluster) → IfSome cluster (λ c. c.id ≡ 1) → KeepsSound (StanzaCreate cluster)
create_sound None first r true done sound is = no_step r done sound is
create_sound None first r false done sound is = no_step r done sound is
create_sound (Some c) first None true done sound is = created c done first is
create_sound (Some c) first None false done sound is = ⊎_elim (no_step None done sound) (created c done first) (one_part (Create c) done is)
create_sound (Some c) first (Some s) true done sound is = no_step (Some s) done sound is
create_sound (Some c) first (Some s) false done sound is = no_step (Some s) done sound is

pub create_part : (stanza : Text) (c : Cluster) (r : Repository) (g : Content) → Represents stanza g r ⊎ Represents stanza g (step r (Create c)) → IsPart stanza (StanzaCreate (Some c)) r g
create_part stanza c None g p = ⊎_elim (λ s. ([], inl refl, s)) (λ s. (Create c ∷ [], inr ([], refl, refl), s)) p
create_part stanza c (Some s) g p = ⊎_elim (λ h. ([], refl, h)) (λ h. ([], refl, h)) p

pub create_whole : (stanza : Text) (c : Cluster) (r : Repository) (d : View) → IsSteady stanza (step r (Create c)) d → IsSteady stanza (after r (all_of (steps_of (StanzaCreate (Some c)) r))) d
create_whole stanza c None d s = s
create_whole stanza c (Some s) d h = h

-- ---- the spool

-- stanza-create stores no file, and removes none
in_a_stanza : (cluster : Option Cluster) (s : Stanza) (whole : Bool) → IsDone whole [] (steps_of (StanzaCreate cluster) (Some s))
in_a_stanza None s true = refl
in_a_stanza None s false = refl
in_a_stanza (Some c) s true = refl
in_a_stanza (Some c) s false = refl

still_drained : (cluster : Option Cluster) (whole : Bool) (q : Repository) (log : List Done) (name : ArchiveName) (sum : Text) (r : Repository) → Reaches q log r → IsDrained r name sum →
    (x : Repository) × Reaches q (record { command = StanzaCreate cluster; acknowledged = whole } ∷ log) x × IsDrained x name sum
still_drained cluster whole q log name sum None reached drained = absurd drained
still_drained cluster whole q log name sum (Some s) reached drained = (Some s, (Some s, reached, ([], refl, in_a_stanza cluster s whole)), drained)

pub create_spool : (stanza : Text) (cluster : Option Cluster) (whole : Bool) (q : Repository) (log : List Done) (v : View) → KeepsSpool stanza q log v → KeepsSpool stanza q (record { command = StanzaCreate cluster; acknowledged = whole } ∷ log) v
create_spool stanza cluster whole q log v keeps = record {
  fixed = keeps.fixed;
  receipts = λ f leaves name sum fits receipt. let x = keeps.receipts f leaves name sum fits receipt in still_drained cluster whole q log name sum x.0 x.1 x.2;
}
