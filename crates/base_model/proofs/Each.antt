-- A log continues by a command that is done to each image.
use Rattle.std.proofs.Common.{◌≡◌, List, ◌∷◌, Option, Some, refl, sym, subst, inl, true, false, arith}
use Rattle.std.specs.Prelude.{IsSome}
use Rattle.base_devices.specs.Content.{Content}
use Rattle.base_devices.specs.Moments.{View}
use Rattle.base_devices.specs.Crash.{Leaves, Ends}
use Rattle.base_devices.proofs.Nows.{known_as}
use Rattle.base_model.specs.Text.{Text}
use Rattle.base_model.specs.Repository.{Repository}
use Rattle.base_model.specs.Represents.{Represents}
use Rattle.base_model.specs.Steps.{Command, after, all_of, steps_of}
use Rattle.base_model.specs.Log.{Done, KeepsRepository, RepresentsAfter}
use Rattle.base_model.specs.Steady.{IsSteady, EachImage, LeavesOnly, CarriesOn, PassesOnly}
use Rattle.base_model.specs.Walks.{IsSynced, Walks, DoesPart, DoesAll, RepresentsStill, RepresentsNow, GoesEach, EndsEach}
use Rattle.base_model.proofs.Logged.{KeepsSound, IsPart}

pub keeps_synced : (stanza : Text) (q : Repository) (log : List Done) (v : View) → KeepsRepository stanza q log v → IsSynced stanza v
keeps_synced stanza q log v keeps = record { fixed = keeps.fixed; places = keeps.places }

pub keeps_now : (stanza : Text) (q : Repository) (log : List Done) (v : View) → IsSome v.now → KeepsRepository stanza q log v → RepresentsNow stanza v
keeps_now stanza q log v some keeps = let f = known_as v.now some in let s = keeps.represents f.0 (inl f.1) in record { content = f.0; now = f.1; repository = s.repository; represents = s.represents }

module _ (stanza : Text) (command : Command) (sound : KeepsSound command) (a d : View) where
  module _ (q : Repository) (log : List Done) (keeps : KeepsRepository stanza q log a) where
    abbrev undone : Done
    undone = record { command = command; acknowledged = false }

    abbrev acknowledged : Done
    acknowledged = record { command = command; acknowledged = true }

    by_part : (f g : Content) → Leaves a a.moment f → DoesPart stanza command f g → RepresentsAfter stanza q (undone ∷ log) g
    by_part f g at does =
        let s = keeps.represents f at in
        let x = does s.repository s.represents in
        record {
          repository = after s.repository x.0;
          reached = (s.repository, s.reached, (x.0, refl, x.1));
          sound = sound s.repository false x.0 s.sound x.1;
          represents = x.2;
        }

    by_all : (f g : Content) → Leaves a a.moment f → DoesAll stanza command f g → RepresentsAfter stanza q (acknowledged ∷ log) g
    by_all f g at does =
        let s = keeps.represents f at in
        let steps = all_of (steps_of command s.repository) in
        record {
          repository = after s.repository steps;
          reached = (s.repository, s.reached, (steps, refl, refl));
          sound = sound s.repository true steps s.sound refl;
          represents = does s.repository s.represents;
        }

    walks_between : Walks stanza (DoesPart stanza command) a d → LeavesOnly (RepresentsAfter stanza q (undone ∷ log)) a d
    walks_between w t g lo hi leaves = let x = w.comes t g lo hi leaves in by_part x.0 g x.1 x.2

    walks_keep : Walks stanza (DoesPart stanza command) a d → KeepsRepository stanza q (undone ∷ log) d
    walks_keep w = record { fixed = w.synced.fixed; places = w.synced.places; represents = λ g leaves. walks_between w d.moment g w.later (omega arith) leaves }

    walks_done : Walks stanza (DoesPart stanza command) a d → Ends (DoesAll stanza command) a d → IsSome a.now → KeepsRepository stanza q (acknowledged ∷ log) d
    walks_done w ends known = record {
      fixed = w.synced.fixed;
      places = w.synced.places;
      represents = λ g leaves. let x = ends.comes known g leaves in by_all x.0 g x.1 x.2;
    }

  module _ (goes : GoesEach stanza command a d) where
    pub each_carries : CarriesOn stanza command false a d
    each_carries = record { keeps = λ q log some keeps. walks_keep q log keeps (goes.goes (keeps_synced stanza q log a keeps) (keeps_now stanza q log a some keeps)) }

    pub each_passes : PassesOnly stanza command a d
    each_passes = record { between = λ q log some keeps. walks_between q log keeps (goes.goes (keeps_synced stanza q log a keeps) (keeps_now stanza q log a some keeps)) }

    pub each_carried : EndsEach stanza command a d → CarriesOn stanza command true a d
    each_carried ends = record {
      keeps = λ q log some keeps. let t = keeps_synced stanza q log a keeps in let now = keeps_now stanza q log a some keeps in walks_done q log keeps (goes.goes t now) (ends.ends t now) some;
    }

-- A command that begins from one repository, over a disk of which all that is left represents what the disk
-- represents.
pub steady_goes : (stanza : Text) (command : Command) (b d : View) → ((f g : Content) → b.now ≡ Some f → Leaves b b.moment g → RepresentsStill stanza f g)
    → ((r : Repository) → IsSteady stanza r b → IsSome b.now → EachImage stanza (IsPart stanza command r) b d) → GoesEach stanza command b d
steady_goes stanza command b d settled moves = record {
  goes = λ synced now.
      let known : IsSome b.now = subst (λ (o : Option Content). IsSome o) (sym now.now) refl in
      let m = moves now.repository (by_record synced now now.repository now.represents) known in
      record {
        later = m.later;
        past = m.past;
        past_unsynced = m.past_unsynced;
        known = m.known;
        synced = record { fixed = m.fixed; places = m.places };
        comes = λ t g lo hi leaves. (now.content, inl now.now, λ r h. (moves r (by_record synced now r h) known).leaves t g lo hi leaves);
      };
}
  where
    by_record : IsSynced stanza b → (now : RepresentsNow stanza b) → (r : Repository) → Represents stanza now.content r → IsSteady stanza r b
    by_record synced now r h = record { fixed = synced.fixed; places = synced.places; represents = λ f leaves. settled now.content f now.now leaves r h }
