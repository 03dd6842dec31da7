-- A way from old to new, image by image.
use Rattle.std.proofs.Common.{◌≡◌, ⊎_elim, inl, inr, ℕ, ◌≤◌, Option, Some, refl, ◌∙◌, sym, subst, arith, Bool, true, false, IsTrue}
use Rattle.std.specs.Prelude.{IsSome}
use Rattle.base_devices.specs.Content.{Name, Content, Holds}
use Rattle.base_devices.specs.Moments.{View, LeavesNoMore, IsImage, SyncsFolders, is_unsynced}
use Rattle.base_devices.specs.Crash.{Leaves, Crash, Ends}
use Rattle.base_model.specs.Text.{Text}
use Rattle.base_model.specs.Repository.{Repository}
use Rattle.base_model.specs.Represents.{Represents}
use Rattle.base_model.specs.Steady.{IsSteady, EachImage}
use Rattle.base_model.specs.Walks.{IsSynced, Walks}
use Rattle.base_model.proofs.Begun.{either, between_image, old_leaves, still_synced}
use Rattle.base_model.proofs.Temporary.{fixed_lasts}
use Rattle.base_model.proofs.Frame.{AgreesPast, place_past, place_lasts}

-- ---- calls that only read

module _ (stanza : Text) (a b : View) (rests : LeavesNoMore a b) (same : b.now ≡ a.now) where
  pub rests_synced : IsSynced stanza a → IsSynced stanza b
  rests_synced synced = record {
    fixed = λ n h. still_synced a b rests n (synced.fixed n h);
    places = λ f leaves n h. still_synced a b rests n (synced.places f (old_leaves a b rests f same leaves) n h);
  }

  pub rests_walks : (Step : Content → Content → Type 0) → ((f : Content) → Step f f) → IsSome a.now → IsSynced stanza a → Walks stanza Step a b
  rests_walks Step still known synced = record {
    later = rests.later;
    past = rests.same;
    past_unsynced = rests.same_unsynced;
    known = subst (λ (o : Option Content). IsSome o) (sym same) known;
    synced = rests_synced synced;
    comes = λ t g lo hi leaves. (g, ⊎_elim (λ (now : b.now ≡ Some g). inl (sym same ∙ now)) (λ image. inr (between_image a b rests t g lo hi image)) leaves, still g);
  }

  pub rests_ends : (Step : Content → Content → Type 0) → ((f : Content) → Step f f) → Ends Step a b
  rests_ends Step still = record { comes = λ known g leaves. (g, old_leaves a b rests g same leaves, still g) }

-- ---- another step, by what may be left before it

pub walks_with : (stanza : Text) (Step Other : Content → Content → Type 0) (a b : View) → ((f g : Content) → Leaves a a.moment f → Step f g → Other f g) → Walks stanza Step a b → Walks stanza Other a b
walks_with stanza Step Other a b with_it w = record {
  later = w.later;
  past = w.past;
  past_unsynced = w.past_unsynced;
  known = w.known;
  synced = w.synced;
  comes = λ t g lo hi leaves. let x = w.comes t g lo hi leaves in (x.0, x.1, with_it x.0 g x.1 x.2);
}

-- ---- a way with another after it

module _ (stanza : Text) (First Second Step : Content → Content → Type 0) (one : (f g : Content) → First f g → Step f g) (both : (f g h : Content) → First f g → Second g h → Step f h)
    (a b d : View) (first : Walks stanza First a b) (second : Walks stanza Second b d) where
  -- what is left after the first way
  after_first : (h : Content) → ((g : Content) × Leaves b b.moment g × Second g h) → (f : Content) × Leaves a a.moment f × Step f h
  after_first h x = let y = first.comes b.moment x.0 first.later (omega arith) x.1 in (y.0, y.1, both y.0 x.0 h y.2 x.2)

  -- an image of the time before is one of the first way
  first_image : (t : ℕ) (g : Content) → t ≤ b.moment → IsImage d t g → IsImage b t g
  first_image t g hi image n = ⊎_elim (λ k. inl (second.past t n (g n) hi k)) (λ l. inr (sym (second.past_unsynced t n hi) ∙ l.0, l.1)) (image n)

  pub walks_on : Walks stanza Step a d
  walks_on = record {
    later = omega (arith, first.later, second.later);
    past = λ t n v le k. first.past t n v le (second.past t n v (omega (arith, le, first.later)) k);
    past_unsynced = λ t n le. second.past_unsynced t n (omega (arith, le, first.later)) ∙ first.past_unsynced t n le;
    known = second.known;
    synced = second.synced;
    comes = λ t g lo hi leaves. ⊎_elim
        (λ (now : d.now ≡ Some g). after_first g (second.comes d.moment g second.later (omega arith) (inl now)))
        (λ image. ⊎_elim
        (λ (le : t ≤ b.moment). let y = first.comes t g lo le (inr (first_image t g le image)) in (y.0, y.1, one y.0 g y.2))
        (λ (ge : b.moment ≤ t). after_first g (second.comes t g ge hi (inr image)))
        (either t b.moment)) leaves;
  }

-- the ends of the two
pub ends_on : (stanza : Text) (First Second Step : Content → Content → Type 0) → ((f g h : Content) → First f g → Second g h → Step f h) → (a b d : View) → Walks stanza First a b → Ends Second b d → Ends Step a d
ends_on stanza First Second Step both a b d first second = record {
  comes = λ known g leaves.
      let x = second.comes first.known g leaves in
      let y = first.comes b.moment x.0 first.later (omega arith) x.1 in
      (y.0, y.1, both y.0 x.0 g y.2 x.2);
}

-- ---- of a call

module _ (stanza : Text) (Step : Content → Content → Type 0) (b d : View) (synced : IsSynced stanza b) (known : IsSome b.now) (crash : Crash Step b d) (past : (f g : Content) → Step f g → AgreesPast stanza f g) where
  pub crash_walks : (Other : Content → Content → Type 0) → ((f g : Content) → Leaves b b.moment f → Step f g → Other f g) → Walks stanza Other b d
  crash_walks Other with_it = record {
    later = crash.later;
    past = crash.past;
    past_unsynced = crash.past_unsynced;
    known = crash.known known;
    synced = record {
      fixed = λ n h. crash.synced d.moment n crash.later (omega arith) (fixed_lasts stanza n h) (synced.fixed n h);
      places = λ g leaves n p.
          let x = crash.comes known d.moment g crash.later (omega arith) leaves in
          crash.synced d.moment n crash.later (omega arith) (place_lasts stanza g n p) (synced.places x.0 x.1 n (place_past stanza x.0 g (past x.0 g x.2) n p));
    };
    comes = λ t g lo hi leaves. let x = crash.comes known t g lo hi leaves in (x.0, x.1, with_it x.0 g x.1 x.2);
  }

pub ends_with : (Step Other : Content → Content → Type 0) (b d : View) → Ends Step b d → ((f g : Content) → Leaves b b.moment f → Step f g → Other f g) → Ends Other b d
ends_with Step Other b d ends with_it = record { comes = λ known g leaves. let x = ends.comes known g leaves in (x.0, x.1, with_it x.0 g x.1 x.2) }

-- ---- what was synced

module _ (these : Name → Type 0) (a b : View) (rests : LeavesNoMore a b) (same : b.now ≡ a.now) (settles : SyncsFolders these a b) (synced : (n : Name) → these n → is_unsynced a n ≡ false) (f0 : Content) (now : a.now ≡ Some f0) where
  some_same : (f g : Content) → ◌≡◌ {A = Option Content} (Some f) (Some g) → g ≡ f
  some_same f g e = cc

  -- all that a crash leaves has there what the disk holds
  pub settled_same : (f : Content) → Leaves b b.moment f → (n : Name) → these n → f n ≡ f0 n
  settled_same f leaves n is = ⊎_elim
      (λ (e : b.now ≡ Some f). subst (λ (g : Content). g n ≡ f0 n) (sym (some_same f0 f (sym now ∙ sym same ∙ e))) refl)
      (λ (image : IsImage b b.moment f). ⊎_elim
      (λ k. let h : Holds (Some f0) n (f n) = subst (λ (o : Option Content). Holds o n (f n)) now (settles n (f n) is (synced n is) k) in h)
      (λ (l : IsTrue (b.unsynced b.moment n) × IsSome (f n)). let u : ◌≡◌ {A = Bool} false true = sym (still_synced a b rests n (synced n is)) ∙ l.0 in cc) (image n)) leaves

-- what is synced stays so while only is read
pub settles_on : (these : Name → Type 0) (a b d : View) → SyncsFolders these a b → LeavesNoMore b d → SyncsFolders these a d
settles_on these a b d settles rests n v is synced k = settles n v is synced (⊎_elim (λ o. o) (λ x. absurd x) (rests.grows d.moment n v rests.later (omega arith) k))

-- ---- from a disk that represents one repository

pub steady_synced : (stanza : Text) (r : Repository) (v : View) → IsSteady stanza r v → IsSynced stanza v
steady_synced stanza r v steady = record { fixed = steady.fixed; places = steady.places }

module _ (stanza : Text) (r : Repository) (Step : Content → Content → Type 0) (a d : View) (steady : IsSteady stanza r a) (walks : Walks stanza Step a d) where
  pub walks_moves : (P : Content → Type 0) → ((f g : Content) → Represents stanza f r → Step f g → P g) → EachImage stanza P a d
  walks_moves P part = record {
    later = walks.later;
    past = walks.past;
    past_unsynced = walks.past_unsynced;
    known = walks.known;
    fixed = walks.synced.fixed;
    places = walks.synced.places;
    leaves = λ t g lo hi leaves. let x = walks.comes t g lo hi leaves in part x.0 g (steady.represents x.0 x.1) x.2;
  }

  pub ends_steady : (Whole : Content → Content → Type 0) → IsSome a.now → Ends Whole a d → (s : Repository) → ((f g : Content) → Represents stanza f r → Whole f g → Represents stanza g s) → IsSteady stanza s d
  ends_steady Whole known ends s whole = record {
    fixed = walks.synced.fixed;
    places = walks.synced.places;
    represents = λ g leaves. let x = ends.comes known g leaves in whole x.0 g (steady.represents x.0 x.1) x.2;
  }
