-- How time continues in each call.
use Rattle.std.proofs.Common.{◌≡◌, ◌⊎◌, inl, inr, ⊎_elim, ℕ, Bool, true, false, cond, ◌||◌, ◌&&◌, not, List, [], ◌∷◌, ◌++◌, length, Some, None, refl, sym, ◌∙◌, ap, subst, arith}
use Rattle.std.specs.Prelude.{IsTrue, is_some}
use Rattle.base_devices.specs.Content.{Name, Value, set_at, Holds}
use Rattle.base_devices.specs.Moments.{GrowsBy}
use Rattle.memory_devices.specs.declared.change.Change.{Change}
use Rattle.memory_devices.specs.State.{State, after, Among, view_at, kept_at, has_unsynced_at, Adds, begun, appended, newly_unsynced, after_sync, renamed, removed, settled, all_synced}
use Rattle.memory_devices.specs.Fair.{IsFair, set_cases, among_push, set_mark, more_kept}
use Rattle.memory_devices.proofs.Time.{goes_adds, whole}

module _ (first : State) (cs ds : List Change) where
  abbrev old : State
  old = after first cs

  pub goes_same : (added : Name → Value → Type 0) (unsyncs : Name → Type 0) → ds ≡ cs → GrowsBy added unsyncs (view_at first cs) (view_at first ds)
  goes_same added unsyncs is = subst (λ (l : List Change). GrowsBy added unsyncs (view_at first cs) (view_at first l)) (sym is) (record {
    later = omega arith;
    same = λ t n v le had. had;
    stays = λ t n v le had. had;
    same_unsynced = λ t n le. refl;
    grows = λ t n v lo hi had. let e : t ≡ length cs = omega arith in inl (subst (λ (u : ℕ). kept_at first cs u n v) e had);
    unsyncs = λ t n lo hi is. let e : t ≡ length cs = omega arith in inl (subst (λ (u : ℕ). has_unsynced_at first cs u n ≡ true) e is);
  })

  pub goes_unsynced : (n : Name) → Adds first (newly_unsynced n) cs ds → (added : Name → Value → Type 0) → GrowsBy added (λ q. q ≡ n) (view_at first cs) (view_at first ds)
  goes_unsynced n adds added = goes_adds first cs ds (newly_unsynced n) added (λ q. q ≡ n) adds (λ q v had. inl had) (λ q is. ⊎_elim (λ h. inl h) (λ h. inr h.0) (set_mark n true old.unsynced q is))

  pub goes_begun : (n : Name) → Adds first (begun n) cs ds → GrowsBy (λ _ _. ⊥) (λ q. q ≡ n) (view_at first cs) (view_at first ds)
  goes_begun n adds = goes_adds first cs ds (begun n) (λ _ _. ⊥) (λ q. q ≡ n) adds (λ q v had. inl had) (λ q is. ⊎_elim (λ h. inl h) (λ h. inr h.0) (set_mark n true old.unsynced q is))

  pub goes_appended : (n : Name) (bytes : List ℕ) → Adds first (appended n bytes) cs ds → GrowsBy (λ _ _. ⊥) (λ q. q ≡ n) (view_at first cs) (view_at first ds)
  goes_appended n bytes adds = goes_adds first cs ds (appended n bytes) (λ _ _. ⊥) (λ q. q ≡ n) adds (λ q v had. inl had) (λ q is. ⊎_elim (λ h. inl h) (λ h. inr h.0) (set_mark n true old.unsynced q is))

  pub goes_synced : (n : Name) → Adds first (after_sync n) cs ds → GrowsBy (λ q v. (q ≡ n) × Holds (Some old.now) q v) (λ q. q ≡ n) (view_at first cs) (view_at first ds)
  goes_synced n adds = goes_adds first cs ds (after_sync n) (λ q v. (q ≡ n) × Holds (Some old.now) q v) (λ q. q ≡ n) adds
      (λ q v had. ⊎_elim (λ h. inl h) (λ h. inr (h.0, h.1 ∙ ap old.now (sym h.0))) (more_kept n (old.now n) old.kept q v had))
      (λ q is. ⊎_elim (λ h. inl h) (λ h. inr h.0) (set_mark n false old.unsynced q is))

  pub goes_removed : (n : Name) → Adds first (removed n) cs ds → GrowsBy (λ q v. (q ≡ n) × (v ≡ None)) (λ _. ⊥) (view_at first cs) (view_at first ds)
  goes_removed n adds = goes_adds first cs ds (removed n) (λ q v. (q ≡ n) × (v ≡ None)) (λ _. ⊥) adds (λ q v had. more_kept n None old.kept q v had) (λ q is. inl is)

  both_marks : (a b : Bool) → (a || b) ≡ true → (a ≡ true) ⊎ (b ≡ true)
  both_marks true b is = inl refl
  both_marks false b is = inr is

  mark_now : (n : Name) → old.unsynced n ≡ true → has_unsynced_at first cs (length cs) n ≡ true
  mark_now n is = ap (λ (s : State). s.unsynced n) (whole first cs (length cs) (omega arith)) ∙ is

  pub goes_renamed : (a b : Name) → Adds first (renamed a b) cs ds → GrowsBy (λ n v. ((n ≡ b) × Holds (Some old.now) a v) ⊎ ((n ≡ a) × (v ≡ None))) (λ n. (n ≡ b) × IsTrue (has_unsynced_at first cs (length cs) a)) (view_at first cs) (view_at first ds)
  goes_renamed a b adds = goes_adds first cs ds (renamed a b) _ _ adds
      (λ q v had. ⊎_elim
      (λ h. ⊎_elim
      (λ was. inl (subst (λ (n : Name). Among v (old.kept n)) h.0 was))
      (λ new. inr (inl (sym h.0, new)))
      (among_push v (old.kept b) (old.now a) (subst (λ (l : List Value). Among v l) h.1 had)))
      (λ h. ⊎_elim (λ was. inl was) (λ new. inr (inr new)) (more_kept a None old.kept q v (subst (λ (l : List Value). Among v l) h had)))
      (set_cases b (old.kept b ++ old.now a ∷ []) (set_at a (old.kept a ++ None ∷ []) old.kept) q))
      (λ q is. ⊎_elim
      (λ h. inl h)
      (λ h. ⊎_elim (λ was. inl (ap old.unsynced h.0 ∙ was)) (λ from. inr (h.0, mark_now a from)) (both_marks (old.unsynced b) (old.unsynced a) h.1))
      (set_mark b (old.unsynced b || old.unsynced a) old.unsynced q is))

among_settled : (b : Bool) (now v : Value) (kept : List Value) → Among v (cond b (now ∷ []) kept) → ((b ≡ true) × (v ≡ now)) ⊎ Among v kept
among_settled true now v kept (inl is) = inl (refl, is)
among_settled true now v kept (inr none) = absurd none
among_settled false now v kept had = inr had

not_unsynced : (a b : Bool) → (a && not b) ≡ true → b ≡ true → ⊥
not_unsynced true true h l = cc
not_unsynced true false h l = cc
not_unsynced false b h l = cc

module _ (first : State) (cs ds : List Change) (fair : IsFair (after first cs)) where
  pub goes_settled : (these : Name → Bool) → Adds first (settled these) cs ds → GrowsBy (λ _ _. ⊥) (λ _. ⊥) (view_at first cs) (view_at first ds)
  goes_settled these adds = let s = after first cs in goes_adds first cs ds (settled these) (λ _ _. ⊥) (λ _. ⊥) adds
      (λ q v had. ⊎_elim
      (λ h. ⊎_elim (λ l. absurd (not_unsynced (these q) (s.unsynced q) h.0 l)) (λ a. inl (subst (λ (x : Value). Among x (s.kept q)) (sym h.1) a)) (fair q))
      (λ old. inl old)
      (among_settled (these q && not (s.unsynced q)) (s.now q) v (s.kept q) had))
      (λ q is. inl is)

among_synced : (a b : Bool) (now v : Value) (kept : List Value) → Among v (cond (a && b) (kept ++ now ∷ []) kept) → Among v kept ⊎ ((a ≡ true) × (v ≡ now))
among_synced true true now v kept had = ⊎_elim (λ h. inl h) (λ h. inr (refl, h)) (among_push v kept now had)
among_synced true false now v kept had = inl had
among_synced false b now v kept had = inl had

still_unsynced : (b unsynced : Bool) → cond b false unsynced ≡ true → unsynced ≡ true
still_unsynced true unsynced is = cc
still_unsynced false unsynced is = is

module _ (first : State) (cs ds : List Change) where
  pub goes_all_synced : (these : Name → Bool) → Adds first (all_synced these) cs ds → GrowsBy (λ q v. IsTrue (these q) × Holds (Some (after first cs).now) q v) (λ q. IsTrue (these q)) (view_at first cs) (view_at first ds)
  goes_all_synced these adds = let s = after first cs in goes_adds first cs ds (all_synced these) (λ q v. IsTrue (these q) × Holds (Some s.now) q v) (λ q. IsTrue (these q)) adds
      (λ q v had. among_synced (these q) (s.unsynced q && is_some (s.now q)) (s.now q) v (s.kept q) had)
      (λ q is. inl (still_unsynced (these q && (s.unsynced q && is_some (s.now q))) (s.unsynced q) is))
