-- One change more is noted, besides a map that it made.
use Rattle.std.proofs.Common.{◌≡◌, ℕ, Bool, true, false, cond, List, [], ◌∷◌, ◌++◌, String, Vec, refl, sym, ◌∙◌, ap, subst}
use Rattle.std.specs.declared.alloc.Global.{Global}
use Rattle.base_devices.specs.Content.{Content}
use Rattle.memory_devices.specs.declared.change.Change.{Change}
use Rattle.memory_devices.specs.declared.held.Held.{Held}
use Rattle.memory_devices.specs.State.{State, step, after, first_state, Adds}
use Rattle.memory_devices.specs.Agrees.{Agrees, bytes_at}
use Rattle.memory_devices.specs.Held.{Notes}
use Rattle.memory_devices.proofs.Maps.{Map}
use Rattle.memory_devices.proofs.Time.{adds_push}

added : (first : State) (cs ds : List Change) (c : Change) (next : State → State) → ds ≡ cs ++ c ∷ [] → step c ≡ next → Adds first next cs ds
added first cs ds c next more is = subst (λ (n : State → State). Adds first n cs ds) is (adds_push first cs ds c more)

pub noted : (old new : Held) (c : Change) (next : State → State) → new.given.items ≡ old.given.items → new.changes.items ≡ old.changes.items ++ c ∷ [] → step c ≡ next → Notes next old new
noted old new c next given more is = record {
  given = given;
  adds = added (first_state old.given.items) old.changes.items new.changes.items c next more is;
}

-- a map that was changed as the change says agrees with the longer record
pub agreed : (given : List (String Global × Vec ℕ Global)) (m n : Map) (cs ds : List Change) (c : Change) (next : State → State) (f : Content → Content) → ds ≡ cs ++ c ∷ [] → step c ≡ next
    → ((s : State) → (next s).now ≡ f s.now) → bytes_at n ≡ f (bytes_at m) → Agrees given m cs → Agrees given n ds
agreed given m n cs ds c next f more is now changed agrees =
    changed ∙ ap f agrees ∙ sym (now (after (first_state given) cs)) ∙ sym (ap (λ (s : State). s.now) (added (first_state given) cs ds c next more is).last)

-- a change that leaves what is held, whether it was noted or not
pub agreed_still : (given : List (String Global × Vec ℕ Global)) (m : Map) (cs ds : List Change) (c : Change) (b : Bool) → ((s : State) → (step c s).now ≡ s.now) → ds ≡ cond b (cs ++ c ∷ []) cs → Agrees given m cs → Agrees given m ds
agreed_still given m cs ds c true still is agrees = agreed given m m cs ds c (step c) (λ f. f) is refl still refl agrees
agreed_still given m cs ds c false still is agrees = subst (λ (l : List Change). Agrees given m l) (sym is) agrees
