-- What a call of a disk in memory did, as it is known.
use Rattle.std.proofs.Common.{◌≡◌, ◌⊎◌, inl, inr, ℕ, Bool, true, false, cond, List, [], ◌∷◌, take, length, Result, Ok, Err, None, refl, sym, ◌∙◌, ap, subst, arith}
use Rattle.std.specs.Prelude.{OnOk, OnErr, IsErrOf, IsTrue, ◌&&◌, not, is_some}
use Rattle.base_devices.specs.declared.device_error.DeviceError.{DeviceError}
use Rattle.base_devices.specs.declared.device_error.DeviceError.TheVariants.{Failed, NoMemory}
use Rattle.base_devices.specs.Content.{Name, Value, Holds, HasBytes}
use Rattle.base_devices.specs.Moments.{GrowsBy, LeavesNoMore, SyncsFolders, is_unsynced}
use Rattle.memory_devices.specs.declared.held.Held.{Held}
use Rattle.memory_devices.specs.State.{State, after, first_state, Among, view_at, begun, appended, after_sync, renamed, removed, settled, all_synced}
use Rattle.memory_devices.specs.Held.{state_of, view_of, Notes, IsAsBefore, FailsAt}
use Rattle.memory_devices.specs.Fair.{fair_after, fair_first, set_same}
use Rattle.memory_devices.proofs.Time.{whole}
use Rattle.memory_devices.proofs.Calls.{goes_same, goes_unsynced, goes_begun, goes_appended, goes_synced, goes_renamed, goes_removed, goes_settled, goes_all_synced}

module _ (old new : Held) where
  abbrev first : State
  first = first_state old.given.items

  -- the view, in terms of what the old disk started with
  abbrev Lifted : (Name → Value → Type 0) → (Name → Type 0) → Type 0
  Lifted A L = GrowsBy A L (view_of old) (view_at first new.changes.items)

  lift : (A : Name → Value → Type 0) (L : Name → Type 0) → new.given.items ≡ old.given.items → Lifted A L → GrowsBy A L (view_of old) (view_of new)
  lift A L given goes = subst (λ g. GrowsBy A L (view_of old) (view_at (first_state g) new.changes.items)) (sym given) goes

  pub now_next : (next : State → State) → Notes next old new → state_of new ≡ next (state_of old)
  now_next next n = ap (λ g. after (first_state g) new.changes.items) n.given ∙ n.adds.last

  pub now_same : IsAsBefore old new → state_of new ≡ state_of old
  now_same s = ap (λ g. after (first_state g) new.changes.items) s.given ∙ ap (after first) s.changes

  pub as_before : (A : Name → Value → Type 0) (L : Name → Type 0) → IsAsBefore old new → GrowsBy A L (view_of old) (view_of new)
  as_before A L s = lift A L s.given (goes_same first old.changes.items new.changes.items A L s.changes)

  -- a begin, an append or a sync
  pub unsyncing : {T : Type 0} (A : Name → Value → Type 0) (name : Name) (b : Bool) (next : State → State) (result : Result T DeviceError)
      → (Notes next old new → GrowsBy A (λ q. q ≡ name) (view_of old) (view_of new))
      → OnOk result (Notes next old new) → (IsErrOf result Failed → FailsAt name b old new) → (IsErrOf result NoMemory → IsAsBefore old new)
      → GrowsBy A (λ q. q ≡ name) (view_of old) (view_of new)
  unsyncing A name b next (Ok x) goes ok failed memory = goes ok
  unsyncing A name true next (Err Failed) goes ok failed memory = let n = failed refl in lift A (λ q. q ≡ name) n.given (goes_unsynced first old.changes.items new.changes.items name n.adds A)
  unsyncing A name false next (Err Failed) goes ok failed memory = as_before A (λ q. q ≡ name) (failed refl)
  unsyncing A name b next (Err NoMemory) goes ok failed memory = as_before A (λ q. q ≡ name) (memory refl)

  -- another call that changes something
  pub changing : {T : Type 0} (A : Name → Value → Type 0) (L : Name → Type 0) (next : State → State) (result : Result T DeviceError)
      → (Notes next old new → GrowsBy A L (view_of old) (view_of new))
      → OnOk result (Notes next old new) → OnErr result (IsAsBefore old new) → GrowsBy A L (view_of old) (view_of new)
  changing A L next (Ok x) goes ok err = goes ok
  changing A L next (Err e) goes ok err = as_before A L err

  pub begun_goes : (n : Name) → Notes (begun n) old new → GrowsBy (λ _ _. ⊥) (λ q. q ≡ n) (view_of old) (view_of new)
  begun_goes n notes = lift (λ _ _. ⊥) (λ q. q ≡ n) notes.given (goes_begun first old.changes.items new.changes.items n notes.adds)

  pub appended_goes : (n : Name) (bytes : List ℕ) → Notes (appended n bytes) old new → GrowsBy (λ _ _. ⊥) (λ q. q ≡ n) (view_of old) (view_of new)
  appended_goes n bytes notes = lift (λ _ _. ⊥) (λ q. q ≡ n) notes.given (goes_appended first old.changes.items new.changes.items n bytes notes.adds)

  pub synced_goes : (n : Name) → Notes (after_sync n) old new → GrowsBy (λ q v. (q ≡ n) × Holds (view_of old).now q v) (λ q. q ≡ n) (view_of old) (view_of new)
  synced_goes n notes = lift _ (λ q. q ≡ n) notes.given (goes_synced first old.changes.items new.changes.items n notes.adds)

  pub renamed_goes : (a b : Name) → Notes (renamed a b) old new → GrowsBy (λ n v. ((n ≡ b) × Holds (view_of old).now a v) ⊎ ((n ≡ a) × (v ≡ None))) (λ n. (n ≡ b) × IsTrue (is_unsynced (view_of old) a)) (view_of old) (view_of new)
  renamed_goes a b notes = lift _ _ notes.given (goes_renamed first old.changes.items new.changes.items a b notes.adds)

  pub removed_goes : (n : Name) → Notes (removed n) old new → GrowsBy (λ q v. (q ≡ n) × (v ≡ None)) (λ _. ⊥) (view_of old) (view_of new)
  removed_goes n notes = lift _ (λ _. ⊥) notes.given (goes_removed first old.changes.items new.changes.items n notes.adds)

  pub settled_goes : (these : Name → Bool) → Notes (settled these) old new → LeavesNoMore (view_of old) (view_of new)
  settled_goes these notes = lift (λ _ _. ⊥) (λ _. ⊥) notes.given (goes_settled first old.changes.items new.changes.items (fair_after old.changes.items first (fair_first old.given.items)) these notes.adds)

  pub all_synced_goes : (these : Name → Bool) → Notes (all_synced these) old new → GrowsBy (λ q v. IsTrue (these q) × Holds (view_of old).now q v) (λ q. IsTrue (these q)) (view_of old) (view_of new)
  all_synced_goes these notes = lift _ (λ q. IsTrue (these q)) notes.given (goes_all_synced first old.changes.items new.changes.items these notes.adds)

  -- the state at the end of the new disk's moments
  at_end : (next : State → State) → Notes next old new → after (first_state new.given.items) (take (length new.changes.items) new.changes.items) ≡ next (state_of old)
  at_end next notes = whole (first_state new.given.items) new.changes.items (length new.changes.items) (omega arith) ∙ now_next next notes

  pub synced_synced : (n : Name) → Notes (after_sync n) old new → is_unsynced (view_of new) n ≡ false
  synced_synced n notes = ap (λ (s : State). s.unsynced n) (at_end (after_sync n) notes) ∙ set_same n false (state_of old).unsynced

  -- what is unsynced at the end of the old disk's moments
  was_unsynced : (n : Name) → is_unsynced (view_of old) n ≡ (state_of old).unsynced n
  was_unsynced n = ap (λ (s : State). s.unsynced n) (whole first old.changes.items (length old.changes.items) (omega arith))

  pub all_synced_synced : (these : Name → Bool) → Notes (all_synced these) old new → (n : Name) → IsTrue (these n) → HasBytes (view_of old).now n → is_unsynced (view_of new) n ≡ false
  all_synced_synced these notes n inside has = ap (λ (s : State). s.unsynced n) (at_end (all_synced these) notes) ∙ synced (these n) ((state_of old).unsynced n) (is_some ((state_of old).now n)) inside has
    where
      synced : (a unsynced has : Bool) → a ≡ true → has ≡ true → cond (a && (unsynced && has)) false unsynced ≡ false
      synced true true true inside is = refl
      synced true false has inside is = refl
      synced false unsynced has inside is = cc
      synced a unsynced false inside is = cc

  pub settled_settles : (these : Name → Bool) → Notes (settled these) old new → SyncsFolders (λ n. IsTrue (these n)) (view_of old) (view_of new)
  settled_settles these notes n v inside synced may = one (these n) ((state_of old).unsynced n) inside (sym (was_unsynced n) ∙ synced) (subst (λ (s : State). Among v (s.kept n)) (at_end (settled these) notes) may)
    where
      one : (a b : Bool) → a ≡ true → b ≡ false → Among v (cond (a && not b) ((state_of old).now n ∷ []) ((state_of old).kept n)) → v ≡ (state_of old).now n
      one true false below synced (inl is) = is
      one true false below synced (inr none) = absurd none
      one true true below synced h = cc
      one false b below synced h = cc
