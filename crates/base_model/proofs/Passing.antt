-- From what a call may leave to a command's way.
use Rattle.std.proofs.Common.{◌≡◌, false, arith}
use Rattle.std.specs.Prelude.{IsSome}
use Rattle.base_devices.specs.Content.{Content}
use Rattle.base_devices.specs.Moments.{View, is_unsynced}
use Rattle.base_devices.specs.Crash.{Leaves, Crash, Ends}
use Rattle.base_model.specs.Text.{Text}
use Rattle.base_model.specs.Repository.{Repository}
use Rattle.base_model.specs.Represents.{Represents}
use Rattle.base_model.specs.Log.{IsFixed, IsPlaceOf}
use Rattle.base_model.specs.Steady.{IsSteady, EachImage}
use Rattle.base_model.proofs.Temporary.{fixed_lasts}
use Rattle.base_model.proofs.Frame.{AgreesPast, place_past, place_lasts}

-- Step is how the call's contents come.
module _ (stanza : Text) (r : Repository) (Step : Content → Content → Type 0) (b d : View) (steady : IsSteady stanza r b) (known : IsSome b.now) (crash : Crash Step b d) where
  pub crash_fixed : (n : Text) → IsFixed stanza n → is_unsynced d n ≡ false
  crash_fixed n h = crash.synced d.moment n crash.later (omega arith) (fixed_lasts stanza n h) (steady.fixed n h)

  -- a place of what may be left is one of what might have been left before
  pub crash_places : ((f g : Content) → Step f g → AgreesPast stanza f g) → (g : Content) → Leaves d d.moment g → (n : Text) → IsPlaceOf stanza g n → is_unsynced d n ≡ false
  crash_places agree g leaves n p =
      let x = crash.comes known d.moment g crash.later (omega arith) leaves in
      crash.synced d.moment n crash.later (omega arith) (place_lasts stanza g n p) (steady.places x.0 x.1 n (place_past stanza x.0 g (agree x.0 g x.2) n p))

  pub crash_moves : (P : Content → Type 0) → ((f g : Content) → Represents stanza f r → Step f g → P g) → ((g : Content) → Leaves d d.moment g → (n : Text) → IsPlaceOf stanza g n → is_unsynced d n ≡ false) → EachImage stanza P b d
  crash_moves P part places = record {
    later = crash.later;
    past = crash.past;
    past_unsynced = crash.past_unsynced;
    known = crash.known known;
    fixed = crash_fixed;
    places = places;
    leaves = λ t g lo hi leaves. let x = crash.comes known t g lo hi leaves in part x.0 g (steady.represents x.0 x.1) x.2;
  }

  -- at its end it represents the repository after all of it
  pub crash_steady : (Whole : Content → Content → Type 0) → Ends Whole b d → (after : Repository) → ((f g : Content) → Represents stanza f r → Whole f g → Represents stanza g after)
      → ((g : Content) → Leaves d d.moment g → (n : Text) → IsPlaceOf stanza g n → is_unsynced d n ≡ false) → IsSteady stanza after d
  crash_steady Whole ends after whole places = record {
    fixed = crash_fixed;
    places = places;
    represents = λ g leaves. let x = ends.comes known g leaves in whole x.0 g (steady.represents x.0 x.1) x.2;
  }
