-- Calls that take the repository on, one after another.
use Rattle.std.proofs.Common.{◌≡◌, inr, Bool, List, [], ◌∷◌, Result, Ok, Err, Option, refl, sym, subst}
use Rattle.std.specs.Prelude.{IsSome}
use Rattle.base_devices.specs.Content.{Content}
use Rattle.base_devices.specs.Moments.{View, LeavesNoMore}
use Rattle.base_model.specs.Text.{Text}
use Rattle.base_model.specs.Steps.{Command, Then, Reading, Move, One, Any, IsPartOf, after, all_of, steps_of}
use Rattle.base_model.specs.Now.{NowRepresents}
use Rattle.base_model.proofs.Steady.{rests_moves, steady_rests}
use Rattle.expire_make.proofs.Ways.{moves_on}
use Rattle.cmd_types.specs.declared.stages.outcome.Outcome.{Outcome}
use Rattle.cmd_types.specs.declared.stages.outcome.Outcome.TheVariants.{Finished, Absent, FindingsFound}
use Rattle.cmd_types.specs.declared.stages.plan.SyncScope.{SyncScope}
use Rattle.cmd_types.specs.declared.stages.plan.SyncScope.TheVariants.{Whole}
use Rattle.cmd_types.specs.Reached.{OnFinished, reached_by}
use Rattle.cmd_types.specs.DisksEffect.{IsPart, DoesPart, DoesWhole, RepoEffect}
use Rattle.cmd_types.proofs.Doing.{rests_part, rests_whole}
use Rattle.cmd_rehearse.specs.Advancing.{Advances, Carries}
use Rattle.cmd_rehearse.proofs.Thens.{prefix_does, back_does, back_whole, sound_both}

-- where a disk whose contents are unknown says nothing
pub part_known : (stanza : Text) (command : Command) (a d : View) → (IsSome a.now → DoesPart Whole stanza command a d) → DoesPart Whole stanza command a d
part_known stanza command a d h = record {
  part = record { known = λ some. (h some).part.known some; does = λ r from some now. (h some).part.does r from some now };
  goes = λ r some steady sound. (h some).goes r some steady sound;
}

pub whole_known : (stanza : Text) (command : Command) (a d : View) → (IsSome a.now → DoesWhole Whole stanza command a d) → DoesWhole Whole stanza command a d
whole_known stanza command a d h = record {
  done = record { known = λ some. (h some).done.known some; does = λ r from some now. (h some).done.does r from some now };
  ends = λ r some steady sound. (h some).ends r some steady sound;
}

module _ {T E : Type 0} (stanza : Text) (first second : Command) (a m : View) where
  -- the first reached no end
  pub first_stops : {U : Type 0} {F : Type 0} (e : E) (f : F) → Advances {T = T} stanza first (Err e) a m → Advances {T = U} stanza (Then first second) (Err f) a m
  first_stops e f h = record { part = prefix_does first second stanza a m h.part; whole = tt; sound = tt }

  -- it reached its end, and the second did what it did
  pub goes_on : {U : Type 0} {F : Type 0} (x : T) (result : Result U F) (d : View) → Advances {E = E} stanza first (Ok x) a m → Advances stanza second result m d → Advances stanza (Then first second) result a d
  goes_on x (Err f) d h k = record { part = back_does first second stanza a m d h.part h.whole h.sound k.part; whole = tt; sound = tt }
  goes_on x (Ok y) d h k = record {
    part = back_does first second stanza a m d h.part h.whole h.sound k.part;
    whole = back_whole first second stanza a m d h.part h.whole h.sound k.whole;
    sound = sound_both first second stanza a.now m.now h.whole.done h.sound k.sound;
  }

-- nothing was done
pub stays_part : {T E : Type 0} (stanza : Text) (command : Command) (e : E) (a d : View) → LeavesNoMore a d → d.now ≡ a.now → Advances {T = T} stanza command (Err e) a d
stays_part stanza command e a d rests same = record { part = rests_part Whole stanza command a d rests same; whole = tt; sound = tt }

pub stays_whole : {T E : Type 0} (stanza : Text) (result : Result T E) (a d : View) → LeavesNoMore a d → d.now ≡ a.now → Advances stanza Reading result a d
stays_whole stanza (Err e) a d rests same = stays_part stanza Reading e a d rests same
stays_whole stanza (Ok x) a d rests same = record { part = rests_part Whole stanza Reading a d rests same; whole = rests_whole Whole stanza a d rests same; sound = λ r some now sound. sound }

-- ---- calls that only read, after a command that reached its end

all_is_part : (moves : List Move) → IsPartOf (all_of moves) moves
all_is_part [] = refl
all_is_part (One t ∷ moves) = inr (all_of moves, refl, all_is_part moves)
all_is_part (Any groups ∷ moves) = inr (all_of moves, refl, all_is_part moves)

module _ (stanza : Text) (command : Command) (a m d : View) (part : DoesPart Whole stanza command a m) (whole : DoesWhole Whole stanza command a m) (rests : LeavesNoMore m d) (same : d.now ≡ m.now) where
  some_on : IsSome m.now → IsSome d.now
  some_on some = subst (λ (o : Option Content). IsSome o) (sym same) some

  pub still_part : DoesPart Whole stanza command a d
  still_part = record {
    part = record { known = λ some. some_on (part.part.known some); does = λ r from some now. let x = part.part.does r from some now in (x.0, x.1, subst (λ (o : Option Content). NowRepresents stanza (after r x.0) o) (sym same) x.2) };
    goes = λ r some steady sound.
        let e = whole.ends r some steady sound in
        moves_on stanza (IsPart stanza command r) a m d (part.goes r some steady sound)
        (rests_moves stanza (after r (all_of (steps_of command r))) (IsPart stanza command r) m d rests same e.0 (whole.done.known some)
        (λ g represents. (all_of (steps_of command r), all_is_part (steps_of command r), represents, e.1)));
  }

  pub still_whole : DoesWhole Whole stanza command a d
  still_whole = record {
    done = record { known = λ some. some_on (whole.done.known some); does = λ r from some now. let x = whole.done.does r from some now in (x.0, x.1, subst (λ (o : Option Content). NowRepresents stanza (after r x.0) o) (sym same) x.2) };
    ends = λ r some steady sound. let e = whole.ends r some steady sound in (steady_rests stanza (after r (all_of (steps_of command r))) m d rests same e.0, e.1);
  }

pub still_on : {T E U F : Type 0} (stanza : Text) (command : Command) (x : T) (result : Result U F) (a m d : View) → Advances {E = E} stanza command (Ok x) a m → LeavesNoMore m d → d.now ≡ m.now → Advances stanza command result a d
still_on stanza command x (Err f) a m d h rests same = record { part = still_part stanza command a m d h.part h.whole rests same; whole = tt; sound = tt }
still_on stanza command x (Ok y) a m d h rests same = record { part = still_part stanza command a m d h.part h.whole rests same; whole = still_whole stanza command a m d h.part h.whole rests same; sound = h.sound }

-- ---- what a command's own part did, that succeeded with lines

pub finished_whole : {E : Type 0} (how : SyncScope) (stanza : Text) (command : Command) (early : E → Bool) (o : Outcome) (P : Text → Type 0) (a d : View) → OnFinished o P → RepoEffect how stanza command (reached_by early (Ok o)) a d → DoesWhole how stanza command a d
finished_whole how stanza command early (Finished lines) P a d ended h = h.whole
finished_whole how stanza command early (Absent name) P a d ended h = absurd ended
finished_whole how stanza command early (FindingsFound lines count) P a d ended h = absurd ended

-- the second wasn't begun
pub stops_between : {T E U F : Type 0} (stanza : Text) (first second : Command) (x : T) (f : F) (a m : View) → Advances {E = E} stanza first (Ok x) a m → Advances {T = U} stanza (Then first second) (Err f) a m
stops_between stanza first second x f a m h = record { part = prefix_does first second stanza a m h.part; whole = tt; sound = tt }

-- the last of them, after which a repository need not be known to be sound
pub ends_with : {T E U F : Type 0} (stanza : Text) (first second : Command) (x : T) (result : Result U F) (a m d : View) → Advances {E = E} stanza first (Ok x) a m → Carries stanza second result m d → Carries stanza (Then first second) result a d
ends_with stanza first second x (Err f) a m d h k = record { part = back_does first second stanza a m d h.part h.whole h.sound k.part; whole = tt }
ends_with stanza first second x (Ok y) a m d h k = record { part = back_does first second stanza a m d h.part h.whole h.sound k.part; whole = back_whole first second stanza a m d h.part h.whole h.sound k.whole }

pub first_ends : {T E U F : Type 0} (stanza : Text) (first second : Command) (e : E) (f : F) (a m : View) → Advances {T = T} stanza first (Err e) a m → Carries {T = U} stanza (Then first second) (Err f) a m
first_ends stanza first second e f a m h = record { part = prefix_does first second stanza a m h.part; whole = tt }

-- calls after it that only read
pub carries_still : {T E U F : Type 0} (stanza : Text) (command : Command) (x : T) (result : Result U F) (a m d : View) → Carries {E = E} stanza command (Ok x) a m → LeavesNoMore m d → d.now ≡ m.now → Carries stanza command result a d
carries_still stanza command x (Err f) a m d h rests same = record { part = still_part stanza command a m d h.part h.whole rests same; whole = tt }
carries_still stanza command x (Ok y) a m d h rests same = record { part = still_part stanza command a m d h.part h.whole rests same; whole = still_whole stanza command a m d h.part h.whole rests same }

pub carries_err : {T E U F : Type 0} (stanza : Text) (command : Command) (e : E) (f : F) (a m : View) → Carries {T = T} stanza command (Err e) a m → Carries {T = U} stanza command (Err f) a m
carries_err stanza command e f a m h = record { part = h.part; whole = tt }

-- ---- the same with another value

pub err_other : {T U E F : Type 0} (stanza : Text) (command : Command) (e : E) (f : F) (a d : View) → Advances {T = T} stanza command (Err e) a d → Advances {T = U} stanza command (Err f) a d
err_other stanza command e f a d h = record { part = h.part; whole = tt; sound = tt }

pub carries_ok : {T U E F : Type 0} (stanza : Text) (command : Command) (x : T) (y : U) (a d : View) → Carries {E = E} stanza command (Ok x) a d → Carries {E = F} stanza command (Ok y) a d
carries_ok stanza command x y a d h = record { part = h.part; whole = h.whole }
