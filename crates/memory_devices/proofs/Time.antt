-- One change more.
use Rattle.std.proofs.Common.{◌≡◌, ◌⊎◌, inl, inr, ⊎_elim, ℕ, ◌≤◌, true, List, [], ◌∷◌, ◌++◌, length, String, refl, sym, ◌∙◌, ap, subst, arith, length-append}
use Rattle.std.specs.declared.alloc.Global.{Global}
use Rattle.std.proofs.lemmas.List.{take-append-le, take_all}
use Rattle.base_devices.specs.Content.{Name, Value}
use Rattle.base_devices.specs.Moments.{GrowsBy}
use Rattle.memory_devices.specs.declared.change.Change.{Change}
use Rattle.memory_devices.specs.declared.change.Change.TheVariants.{Swept}
use Rattle.memory_devices.specs.declared.change.Sweep.{Sweep}
use Rattle.memory_devices.specs.declared.change.Sweep.TheVariants.{SyncFolders, SyncFolder, Sync}
use Rattle.memory_devices.specs.State.{State, step, after, Among, state_at, view_at, Adds}

-- a sweep leaves what is held
pub still_swept : (sweep : Sweep) (folder : String Global) (s : State) → (step (Swept sweep folder) s).now ≡ s.now
still_swept SyncFolders folder s = refl
still_swept SyncFolder folder s = refl
still_swept Sync folder s = refl

after_push : (s : State) (cs : List Change) (c : Change) → after s (cs ++ c ∷ []) ≡ step c (after s cs)
after_push s [] c = refl
after_push s (x ∷ cs) c = after_push (step x s) cs c

module _ (first : State) where
  pub adds_push : (cs ds : List Change) (c : Change) → ds ≡ cs ++ c ∷ [] → Adds first (step c) cs ds
  adds_push cs ds c is = subst (λ (l : List Change). Adds first (step c) cs l) (sym is) (record {
    one = omega (arith, length-append cs (c ∷ []));
    past = λ t le. ap (after first) (take-append-le t cs (c ∷ []) le);
    last = after_push first cs c;
  })

  pub whole : (cs : List Change) (t : ℕ) → length cs ≤ t → state_at first cs t ≡ after first cs
  whole cs t le = ap (after first) (take_all t cs le)

  -- what the change adds is all that is new
  pub goes_adds : (cs ds : List Change) (next : State → State) (added : Name → Value → Type 0) (newly_unsynced : Name → Type 0) → Adds first next cs ds
      → ((n : Name) (v : Value) → Among v ((next (after first cs)).kept n) → Among v ((after first cs).kept n) ⊎ added n v)
      → ((n : Name) → (next (after first cs)).unsynced n ≡ true → ((after first cs).unsynced n ≡ true) ⊎ newly_unsynced n)
      → GrowsBy added newly_unsynced (view_at first cs) (view_at first ds)
  goes_adds cs ds next added newly_unsynced adds grow unsync = record {
    later = omega (arith, adds.one);
    same = λ t n v le had. subst (λ (s : State). Among v (s.kept n)) (adds.past t le) had;
    stays = λ t n v le had. subst (λ (s : State). Among v (s.kept n)) (sym (adds.past t le)) had;
    same_unsynced = λ t n le. ap (λ (s : State). s.unsynced n) (adds.past t le);
    grows = λ t n v lo hi had. ⊎_elim
        (λ (le : t ≤ length cs). inl (subst (λ (s : State). Among v (s.kept n)) (adds.past t le ∙ whole cs t lo ∙ sym (whole cs (length cs) (omega arith))) had))
        (λ (gt : length ds ≤ t). ⊎_elim
        (λ old. inl (subst (λ (s : State). Among v (s.kept n)) (sym (whole cs (length cs) (omega arith))) old))
        (λ new. inr new)
        (grow n v (subst (λ (s : State). Among v (s.kept n)) (whole ds t gt ∙ adds.last) had)))
        (now_or_past t hi);
    unsyncs = λ t n lo hi is. ⊎_elim
        (λ (le : t ≤ length cs). inl (sym (ap (λ (s : State). s.unsynced n) (adds.past t le ∙ whole cs t lo ∙ sym (whole cs (length cs) (omega arith)))) ∙ is))
        (λ (gt : length ds ≤ t). ⊎_elim
        (λ old. inl (ap (λ (s : State). s.unsynced n) (whole cs (length cs) (omega arith)) ∙ old))
        (λ new. inr new)
        (unsync n (sym (ap (λ (s : State). s.unsynced n) (whole ds t gt ∙ adds.last)) ∙ is)))
        (now_or_past t hi);
  }
    where
      now_or_past : (t : ℕ) → t ≤ length ds → (t ≤ length cs) ⊎ (length ds ≤ t)
      now_or_past t hi = grind (arith, adds.one)
