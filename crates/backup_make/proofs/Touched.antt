-- Calls that change only some names, one after another; and which names a backup changes.
use Rattle.std.proofs.Common.{◌≡◌, inl, inr, Bool, true, false, ◌∷◌, refl, ◌∙◌, ap, subst, append_assoc}
use Rattle.std.specs.Prelude.{codes}
use Rattle.base_devices.specs.Content.{Name, at}
use Rattle.base_devices.specs.Moments.{View, LeavesNoMore}
use Rattle.base_devices.specs.Crash.{IsTemporary}
use Rattle.base_devices.proofs.Steps.{goes_on, goes_wide}
use Rattle.base_disk.specs.Store.{ChangesOnly}
use Rattle.base_model.specs.declared.labels.Label.{Label}
use Rattle.base_model.specs.Text.{Text}
use Rattle.base_model.specs.Names.{backup_info, label_folder, manifest_name}
use Rattle.base_model.proofs.Below.{below_prefix}
use Rattle.repo_pair.specs.Member.{IsOfPair}
use Rattle.backup_sink.specs.Keeping.{is_own}
use Rattle.backup_sink.specs.Relation.{Touches, goes_same}
use Rattle.backup_sink.proofs.Synced.{own_below}
use Rattle.backup_make.specs.Touched.{TouchesOnly, IsOfBackup}

-- ---- any names

-- no call
pub touched_none : (these : Name → Type 0) (a : View) → TouchesOnly these a a
touched_none these a = record { now = λ n off. refl; time = goes_same (λ n _. these n) these a }

-- a call that only reads
pub touched_rests : (these : Name → Type 0) (a b : View) → LeavesNoMore a b → b.now ≡ a.now → TouchesOnly these a b
touched_rests these a b rests same = record {
  now = λ n off. ap (at n) same;
  time = goes_wide (λ _ _. ⊥) (λ n _. these n) (λ _. ⊥) these a b (λ n v h. absurd h) (λ n h. absurd h) rests;
}

-- one call after another
pub touched_on : (these : Name → Type 0) (a b c : View) → TouchesOnly these a b → TouchesOnly these b c → TouchesOnly these a c
touched_on these a b c p q = record {
  now = λ n off. q.now n off ∙ p.now n off;
  time = goes_on (λ n _. these n) these a b c p.time q.time;
}

-- a call that changes fewer
pub touched_wide : (these those : Name → Type 0) (a b : View) → ((n : Name) → these n → those n) → TouchesOnly these a b → TouchesOnly those a b
touched_wide these those a b wider p = record {
  now = λ n off. p.now n (λ h. off (wider n h));
  time = goes_wide (λ n _. these n) (λ n _. those n) these those a b (λ n v h. wider n h) (λ n h. wider n h) p.time;
}

-- a call of which only temporary ones become unsynced
pub touched_only : (these those : Name → Type 0) (a b : View) → ((n : Name) → these n → those n) → ChangesOnly these a b → TouchesOnly those a b
touched_only these those a b wider p = record {
  now = λ n off. p.now n (λ h. off (wider n h));
  time = goes_wide (λ n _. these n) (λ n _. those n) (λ n. these n × IsTemporary n) those a b (λ n v h. wider n h) (λ n h. wider n h.0) p.time;
}

-- ---- those of a backup

module _ (stanza : Text) (label : Label) where
  own_of : (n : Name) → is_own (label_folder stanza label) n ≡ true → IsOfBackup stanza label n
  own_of n h = inl (own_below (label_folder stanza label) n h)

  manifest_of : (n : Name) → IsOfPair (manifest_name stanza label) n → IsOfBackup stanza label n
  manifest_of n (inl e) = inl (below_prefix (label_folder stanza label) (codes "backup.manifest.pgbackrest.tmp") n (e ∙ append_assoc (label_folder stanza label) (47 ∷ codes "backup.manifest") (codes ".pgbackrest.tmp")))
  manifest_of n (inr (inl e)) = inl (below_prefix (label_folder stanza label) (codes "backup.manifest") n e)
  manifest_of n (inr (inr e)) = inl (below_prefix (label_folder stanza label) (codes "backup.manifest.copy") n (e ∙ append_assoc (label_folder stanza label) (47 ∷ codes "backup.manifest") (codes ".copy")))

  -- its bytes are stored
  pub own_touched : (a b : View) → Touches (is_own (label_folder stanza label)) a b → TouchesOnly (IsOfBackup stanza label) a b
  own_touched a b touches = record {
    now = λ n off. touches.now n (outside n off (is_own (label_folder stanza label) n) refl);
    time = goes_wide (λ n _. is_own (label_folder stanza label) n ≡ true) (λ n _. IsOfBackup stanza label n) (λ n. is_own (label_folder stanza label) n ≡ true) (IsOfBackup stanza label) a b
        (λ n v h. own_of n h) (λ n h. own_of n h) touches.time;
  }
    where
      outside : (n : Name) → ¬ IsOfBackup stanza label n → (o : Bool) → is_own (label_folder stanza label) n ≡ o → is_own (label_folder stanza label) n ≡ false
      outside n off false e = e
      outside n off true e = absurd (off (own_of n e))

  -- its manifest is saved
  pub saved_touched : (a b : View) (own : Label) → own ≡ label → ChangesOnly (IsOfPair (manifest_name stanza own)) a b → TouchesOnly (IsOfBackup stanza label) a b
  saved_touched a b own is p = touched_only (IsOfPair (manifest_name stanza label)) (IsOfBackup stanza label) a b manifest_of
      (subst (λ (l : Label). ChangesOnly (IsOfPair (manifest_name stanza l)) a b) is p)

  -- and then the stanza's list, at the name that it was given
  pub listed_touched : (a b c : View) (own : Label) → own ≡ label → ChangesOnly (IsOfPair (manifest_name stanza own)) a b
      → (name : Name) → name ≡ backup_info stanza → ChangesOnly (IsOfPair name) b c → TouchesOnly (IsOfBackup stanza label) a c
  listed_touched a b c own same p name is q = touched_on (IsOfBackup stanza label) a b c (saved_touched a b own same p)
      (touched_only (IsOfPair (backup_info stanza)) (IsOfBackup stanza label) b c (λ n h. inr h) (subst (λ (n : Name). ChangesOnly (IsOfPair n) b c) is q))
