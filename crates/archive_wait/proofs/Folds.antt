-- Steps of others one after another, as the repository changes by them.
use Rattle.std.proofs.Common.{◌≡◌, List, [], ◌∷◌, ◌++◌, Some, None, refl, sym, ap, ◌∙◌, subst, Bool, true, false}
use Rattle.std.specs.Prelude.{Option, IsSome, ◌&&◌}
use Rattle.std.proofs.Math.Bool.{and-true}
use Rattle.base_devices.specs.Content.{Content}
use Rattle.base_devices.specs.Moments.{View, LeavesNoMore}
use Rattle.base_model.specs.Text.{Text}
use Rattle.base_model.specs.Repository.{Repository, IsSound}
use Rattle.base_model.specs.Steps.{Step, Turn, ArchivePushAsync, after, all_of, steps_of}
use Rattle.base_model.specs.Log.{Done, RepresentsAfter}
use Rattle.base_model.specs.Now.{NowRepresents, NowEffect}
use Rattle.base_model.specs.Steady.{CarriesOn}
use Rattle.base_model.proofs.Logged.{rests_still, rests_between}
use Rattle.base_model.proofs.Waited.{turns_carry, turns_pass}
use Rattle.archive_lookup.specs.Stored.{ChangesArchive}
use Rattle.archive_lookup.specs.Turns.{GoesByTurn}
use Rattle.archive_wait.specs.TurnsDone.{all_ended, GoesByTurns}
use Rattle.archive_wait.proofs.EachImage.{turns_do}
use Rattle.archive_wait.proofs.Sounds.{turn_stays, turns_stay}

-- ---- no step of others

pub no_moves : (r : Repository) → steps_of (ArchivePushAsync []) r ≡ []
no_moves None = refl
no_moves (Some s) = refl

pub still_goes : (stanza : Text) (a b : View) → LeavesNoMore a b → b.now ≡ a.now → GoesByTurns stanza [] a b
still_goes stanza a b rests same = record {
  does = record {
    known = λ some. subst (λ (o : Option Content). IsSome o) (sym same) some;
    does = λ r from some now. ([], sym (ap all_of (no_moves r)), subst (λ (o : Option Content). NowRepresents stanza r o) (sym same) now);
  };
  carries = record {
    keeps = λ q log some keeps.
        let k = rests_still stanza q log a b rests same keeps in
        record { fixed = k.fixed; places = k.places; represents = λ f leaves. one_more q log f (k.represents f leaves) };
  };
  between = record { between = λ q log some keeps. rests_between stanza (ArchivePushAsync []) q log a b rests same keeps };
  sound = λ r some now sound. subst (λ (l : List Step). IsSound (after r l)) (sym (ap all_of (no_moves r))) sound;
}
  where
    one_more : (q : Repository) (log : List Done) (f : Content) → RepresentsAfter stanza q log f →
        RepresentsAfter stanza q (record { command = ArchivePushAsync []; acknowledged = true } ∷ log) f
    one_more q log f x = record {
      repository = x.repository;
      reached = (x.repository, x.reached, ([], refl, sym (ap all_of (no_moves x.repository))));
      sound = x.sound;
      represents = x.represents;
    }

-- ---- one step of others

pub one_goes : (stanza : Text) (t : Turn) (a b : View) → GoesByTurn stanza t a b → GoesByTurns stanza (t ∷ []) a b
one_goes stanza t a b goes = record {
  does = subst (λ (w : Bool). NowEffect stanza (ArchivePushAsync (t ∷ [])) w a.now b.now) (sym (and-true t.ended)) goes.does;
  carries = subst (λ (w : Bool). CarriesOn stanza (ArchivePushAsync (t ∷ [])) w a b) (sym (and-true t.ended)) goes.carries;
  between = goes.between;
  sound = λ r some now sound. turn_stays t r sound (goes.under r some sound now);
}

-- ---- steps of others, and then more of them

pub ended_on : (ts us : List Turn) → all_ended ts ≡ true → all_ended us ≡ all_ended (ts ++ us)
ended_on [] us e = refl
ended_on (t ∷ ts) us e = by t.ended (all_ended ts) (all_ended us) (all_ended (ts ++ us)) (ended_on ts us) e
  where
    by : (w x y z : Bool) → (x ≡ true → y ≡ z) → (w && x) ≡ true → y ≡ (w && z)
    by true x y z on h = on h
    by false x y z on h = cc

module _ (stanza : Text) (ts us : List Turn) (a b c : View) (ended : all_ended ts ≡ true) where
  pub goes_after : GoesByTurns stanza ts a b → GoesByTurns stanza us b c → ChangesArchive stanza b c →
      GoesByTurns stanza (ts ++ us) a c
  goes_after p q only =
      let does = subst (λ (w : Bool). NowEffect stanza (ArchivePushAsync ts) w a.now b.now) ended p.does in
      let carries = subst (λ (w : Bool). CarriesOn stanza (ArchivePushAsync ts) w a b) ended p.carries in
      let known : IsSome a.now → IsSome b.now = p.does.known in
      record {
        does = subst (λ (w : Bool). NowEffect stanza (ArchivePushAsync (ts ++ us)) w a.now c.now) (ended_on ts us ended)
            (turns_do stanza ts us (all_ended us) a.now b.now c.now does q.does);
        carries = subst (λ (w : Bool). CarriesOn stanza (ArchivePushAsync (ts ++ us)) w a c) (ended_on ts us ended)
            (turns_carry stanza ts us (all_ended us) a b c known carries q.carries);
        between = turns_pass stanza ts us a b c known only.time.later only.time.same only.time.same_unsynced carries
            p.between q.between;
        sound = λ r some now sound. (
            let x = does.does r tt some now in
            let mid = after r (all_of (steps_of (ArchivePushAsync ts) r)) in
            turns_stay ts us r (q.sound mid (known some) (subst (λ (l : List Step). NowRepresents stanza (after r l) b.now) x.1 x.2) (p.sound r some now sound))
            );
      }

  pub both_ended : all_ended us ≡ true → all_ended (ts ++ us) ≡ true
  both_ended e = sym (ended_on ts us ended) ∙ e
