-- After the folders are synced all that a crash leaves is what the disk represents.
use Rattle.std.proofs.Common.{◌≡◌, ◌⊎◌, ⊎_elim, inl, inr, ℕ, ◌≤◌, List, Option, Some, None, refl, ◌∙◌, sym, subst, arith, Bool, true, false, IsTrue}
use Rattle.std.specs.Prelude.{IsSome}
use Rattle.base_devices.specs.Content.{Name, Content, Holds}
use Rattle.base_devices.specs.Moments.{View, IsImage, LeavesNoMore, SyncsFolders, is_unsynced}
use Rattle.base_devices.specs.Crash.{Leaves}
use Rattle.base_model.specs.Text.{Text}
use Rattle.base_model.specs.Repository.{Repository}
use Rattle.base_model.specs.Represents.{Represents}
use Rattle.base_model.specs.Log.{Done, KeepsRepository, IsFixed, IsPlaceOf}
use Rattle.base_model.specs.Steady.{IsSteady, IsBegun}
use Rattle.base_model.proofs.Frame.{Agrees, represents_same}

-- of two moments one isn't later than the other
pub either : (t s : ℕ) → (t ≤ s) ⊎ (s ≤ t)
either t s = grind arith

-- time in which nothing was added
module _ (a b : View) (rests : LeavesNoMore a b) where
  -- an image of a moment between is one of old
  pub between_image : (t : ℕ) (f : Content) → a.moment ≤ t → t ≤ b.moment → IsImage b t f → IsImage a a.moment f
  between_image t f lo hi image n = ⊎_elim
      (λ k. ⊎_elim (λ o. inl o) (λ x. absurd x) (rests.grows t n (f n) lo hi k))
      (λ l. ⊎_elim (λ o. inr (o, l.1)) (λ x. absurd x) (rests.unsyncs t n lo hi l.0)) (image n)

  pub old_image : (f : Content) → IsImage b b.moment f → IsImage a a.moment f
  old_image f image = between_image b.moment f rests.later (omega arith) image

  pub still_synced : (n : Name) → is_unsynced a n ≡ false → is_unsynced b n ≡ false
  still_synced n was = cases (b.unsynced b.moment n) refl
    where
      cases : (l : Bool) → b.unsynced b.moment n ≡ l → b.unsynced b.moment n ≡ false
      cases false e = e
      cases true e = ⊎_elim (λ (o : a.unsynced a.moment n ≡ true). let u : ◌≡◌ {A = Bool} false true = sym was ∙ o in cc) (λ x. absurd x) (rests.unsyncs b.moment n rests.later (omega arith) e)

  pub old_leaves : (f : Content) → b.now ≡ a.now → Leaves b b.moment f → Leaves a a.moment f
  old_leaves f same leaves = ⊎_elim (λ (e : b.now ≡ Some f). inl (sym same ∙ e)) (λ i. inr (old_image f i)) leaves

  module _ (stanza : Text) (q : Repository) (log : List Done) (below : Name → Bool) (same : b.now ≡ a.now)
      (settled : SyncsFolders (λ n. IsTrue (below n)) a b) (f0 : Content) (now : a.now ≡ Some f0) (keeps : KeepsRepository stanza q log a)
      (of_fixed : (n : Name) → IsFixed stanza n → IsTrue (below n)) (of_places : (f : Content) (n : Name) → IsPlaceOf stanza f n → IsTrue (below n)) where
    kept_now : (f : Content) (n : Name) → IsImage b b.moment f → IsTrue (below n) → is_unsynced a n ≡ false → f n ≡ f0 n
    kept_now f n image is_below synced = ⊎_elim
        (λ k. let h : Holds (Some f0) n (f n) = subst (λ (o : Option Content). Holds o n (f n)) now (settled n (f n) is_below synced k) in h)
        (λ (l : IsTrue (b.unsynced b.moment n) × IsSome (f n)). let u : ◌≡◌ {A = Bool} false true = sym (still_synced n synced) ∙ l.0 in cc) (image n)

    agrees : (f : Content) → IsImage b b.moment f → Agrees stanza f0 f
    agrees f image = record {
      fixed = λ n h. kept_now f n image (of_fixed n h) (keeps.fixed n h);
      places = λ n h. kept_now f n image (of_places f0 n h) (keeps.places f0 (inl now) n h);
    }

    pub steady : IsSteady stanza (keeps.represents f0 (inl now)).repository b
    steady = record {
      fixed = λ n h. still_synced n (keeps.fixed n h);
      places = λ f leaves n h. still_synced n (keeps.places f (old_leaves f same leaves) n h);
      represents = λ f leaves. ⊎_elim
          (λ (e : b.now ≡ Some f). let P : Content → Type 0 = λ g. Represents stanza g (keeps.represents f0 (inl now)).repository in subst P (some_same f0 f (sym now ∙ sym same ∙ e)) (keeps.represents f0 (inl now)).represents)
          (λ i. represents_same stanza f0 f (agrees f i) (keeps.represents f0 (inl now)).repository (keeps.represents f0 (inl now)).represents) leaves;
    }
      where
        some_same : (f g : Content) → ◌≡◌ {A = Option Content} (Some f) (Some g) → f ≡ g
        some_same f g e = cc

pub begun : (a b : View) → LeavesNoMore a b → (stanza : Text) (q : Repository) (log : List Done) (below : Name → Bool) → b.now ≡ a.now → SyncsFolders (λ n. IsTrue (below n)) a b →
    ((n : Name) → IsFixed stanza n → IsTrue (below n)) → ((f : Content) (n : Name) → IsPlaceOf stanza f n → IsTrue (below n)) →
    KeepsRepository stanza q log a → IsSome a.now → IsBegun stanza q log b
begun a b rests stanza q log below same settled of_fixed of_places keeps known = go (a.now) refl known
  where
    go : (o : Option Content) → a.now ≡ o → IsSome o → IsBegun stanza q log b
    go None e s = cc
    go (Some f0) e s = record {
      repository = (keeps.represents f0 (inl e)).repository;
      reached = (keeps.represents f0 (inl e)).reached;
      sound = (keeps.represents f0 (inl e)).sound;
      steady = steady a b rests stanza q log below same settled f0 e keeps of_fixed of_places;
    }
