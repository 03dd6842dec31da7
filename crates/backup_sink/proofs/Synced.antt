-- The two folders of a backup that are synced.
use Rattle.std.proofs.Common.{◌≡◌, ◌≤◌, ◌⊎◌, ◌++◌, ◌∷◌, [], ℕ, Bool, true, false, List, Option, length, take, drop, refl, sym, ◌∙◌, ap, subst, arith, inl, inr, ⊎_elim, append_assoc, take-append-drop}
use Rattle.std.specs.Prelude.{IsTrue, codes, ◌||◌}
use Rattle.std.proofs.lemmas.Bool.{false_from_ne_true}
use Rattle.std.proofs.lemmas.Slice.Eq.{bytes_eq-Decides}
use Rattle.base_devices.specs.Content.{Name, Value, Content, HasBytes, Holds, is_below, at}
use Rattle.base_devices.specs.Moments.{View, GrowsBy, LeavesNoMore, SyncsFolders, is_unsynced}
use Rattle.base_devices.proofs.Steps.{goes_wide}
use Rattle.base_disk.proofs.Below.{below_prefix}
use Rattle.base_model.specs.Text.{◌⫽◌}
use Rattle.backup_sink.specs.Keeping.{is_own}
use Rattle.backup_sink.specs.Relation.{Touches}
use Rattle.backup_sink.specs.Sealed.{IsSealed}

-- a name that no call makes unsynced stays synced
pub stays : (A : Name → Value → Type 0) (L : Name → Type 0) (a b : View) (n : Name) → GrowsBy A L a b → ¬ L n → is_unsynced a n ≡ false → is_unsynced b n ≡ false
stays A L a b n goes far synced = false_from_ne_true (is_unsynced b n) (λ (is : is_unsynced b n ≡ true). ⊎_elim (λ (was : a.unsynced a.moment n ≡ true). let both : ◌≡◌ {A = Bool} true false = sym was ∙ synced in cc) far (goes.unsyncs b.moment n goes.later (omega arith) is))

-- ---- the two folders

-- a name below a folder of the folder is below the folder
below_in : (folder rest n : Name) → is_below (folder ++ 47 ∷ rest) n ≡ true → is_below folder n ≡ true
below_in folder rest n h =
    let prefix = (folder ++ 47 ∷ rest) ++ 47 ∷ [] in
    let same : prefix ≡ take (length prefix) n = (bytes_eq-Decides prefix (take (length prefix) n)).0 h in
    let whole : n ≡ prefix ++ drop (length prefix) n = sym (take-append-drop (length prefix) n) ∙ ap (λ (l : List ℕ). l ++ drop (length prefix) n) (sym same) in
    below_prefix folder ((rest ++ 47 ∷ []) ++ drop (length prefix) n) n
    (whole ∙ ap (λ (l : List ℕ). l ++ drop (length prefix) n) (append_assoc folder (47 ∷ rest) (47 ∷ [])) ∙ append_assoc folder ((47 ∷ rest) ++ 47 ∷ []) (drop (length prefix) n))

either : (a b : Bool) → (a || b) ≡ true → (a ≡ true) ⊎ (b ≡ true)
either true b e = inl refl
either false b e = inr e

left_own : (a b : Bool) → a ≡ true → (a || b) ≡ true
left_own a b e = ap (λ (x : Bool). x || b) e

right_own : (a b : Bool) → b ≡ true → (a || b) ≡ true
right_own true b e = refl
right_own false b e = e

pub own_below : (folder n : Name) → is_own folder n ≡ true → is_below folder n ≡ true
own_below folder n h = ⊎_elim (below_in folder (codes "pg_data") n) (below_in folder (codes "bundle") n) (either (is_below (folder ⫽ codes "pg_data") n) (is_below (folder ⫽ codes "bundle") n) h)

module _ (folder : Name) where
  abbrev files : Name
  files = folder ⫽ codes "pg_data"

  abbrev bundles : Name
  bundles = folder ⫽ codes "bundle"

  -- a sync of all that lies below one of them
  pub touches_below : (part : Name) (a b : View) → ((n : Name) → is_below part n ≡ true → is_own folder n ≡ true) → b.now ≡ a.now → GrowsBy (λ n v. IsTrue (is_below part n) × Holds a.now n v) (λ n. IsTrue (is_below part n)) a b → Touches (is_own folder) a b
  touches_below part a b own now time = record {
    now = λ q no. ap (at q) now;
    time = goes_wide (λ n v. IsTrue (is_below part n) × Holds a.now n v) (λ n _. is_own folder n ≡ true) (λ n. IsTrue (is_below part n)) (λ n. is_own folder n ≡ true) a b (λ n v h. own n h.0) (λ n h. own n h) time;
  }

  pub files_own : (n : Name) → is_below (folder ⫽ codes "pg_data") n ≡ true → is_own folder n ≡ true
  files_own n h = left_own (is_below files n) (is_below bundles n) h

  pub bundles_own : (n : Name) → is_below (folder ⫽ codes "bundle") n ≡ true → is_own folder n ≡ true
  bundles_own n h = right_own (is_below files n) (is_below bundles n) h

  pub touches_rests : (a b : View) → b.now ≡ a.now → LeavesNoMore a b → Touches (is_own folder) a b
  touches_rests a b now rests = record {
    now = λ q no. ap (at q) now;
    time = goes_wide (λ _ _. ⊥) (λ n _. is_own folder n ≡ true) (λ _. ⊥) (λ n. is_own folder n ≡ true) a b (λ n v h. absurd h) (λ n h. absurd h) rests;
  }

  -- both are synced, and so is the folder
  pub sealed : (a b c d : View) → b.now ≡ a.now → c.now ≡ b.now → d.now ≡ c.now
      → ((n : Name) → IsTrue (is_below (folder ⫽ codes "pg_data") n) → HasBytes a.now n → is_unsynced b n ≡ false)
      → GrowsBy (λ n v. IsTrue (is_below (folder ⫽ codes "bundle") n) × Holds b.now n v) (λ n. IsTrue (is_below (folder ⫽ codes "bundle") n)) b c
      → ((n : Name) → IsTrue (is_below (folder ⫽ codes "bundle") n) → HasBytes b.now n → is_unsynced c n ≡ false)
      → LeavesNoMore c d → SyncsFolders (λ n. IsTrue (is_below folder n)) c d → IsSealed (is_own folder) d
  sealed a b c d ab bc cd first time second rests settled = record {
    synced = λ n own has. stays (λ _ _. ⊥) (λ _. ⊥) c d n rests (λ h. h) (synced n own has);
    only = λ n x own has keep. subst (λ (o : Option Content). Holds o n x) (sym cd) (settled n x (own_below folder n own) (synced n own has) keep);
  }
    where
      back_to : (o : Option Content) → d.now ≡ o → (n : Name) → HasBytes d.now n → HasBytes o n
      back_to o e n h = subst (λ (x : Option Content). HasBytes x n) e h

      synced : (n : Name) → is_own folder n ≡ true → HasBytes d.now n → is_unsynced c n ≡ false
      synced n own has = go (is_below (folder ⫽ codes "bundle") n) refl
        where
          go : (t : Bool) → is_below (folder ⫽ codes "bundle") n ≡ t → is_unsynced c n ≡ false
          go true e = second n e (back_to b.now (cd ∙ bc) n has)
          go false e = stays (λ n v. IsTrue (is_below (folder ⫽ codes "bundle") n) × Holds b.now n v) (λ n. IsTrue (is_below (folder ⫽ codes "bundle") n)) b c n time
              (λ (h : is_below (folder ⫽ codes "bundle") n ≡ true). let both : ◌≡◌ {A = Bool} false true = sym e ∙ h in cc)
              (first n (⊎_elim (λ h. h) (λ (h : is_below (folder ⫽ codes "bundle") n ≡ true). let both : ◌≡◌ {A = Bool} false true = sym e ∙ h in cc) (either (is_below (folder ⫽ codes "pg_data") n) (is_below (folder ⫽ codes "bundle") n) own)) (back_to a.now (cd ∙ bc ∙ ab) n has))
