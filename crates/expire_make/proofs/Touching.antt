-- What an expiry touches: nothing where only was read.
use Rattle.std.proofs.Common.{ℕ, ◌∙◌}
use Rattle.base_devices.specs.Moments.{View}
use Rattle.base_disk.proofs.Changes.{only_on, only_rests}
use Rattle.base_model.specs.Text.{Text}
use Rattle.archive_store.specs.Still.{IsStill, still_self, still_on}
use Rattle.expire_rules.specs.declared.rules.Rules.{Rules}
use Rattle.expire_make.specs.Expiry.{IsTouchedBy, Touches, TouchesNow}

module _ (stanza : Text) (rules : Rules) (moment : ℕ) where
  -- where only was read
  pub touches_still : (a b : View) → IsStill a b → Touches stanza rules moment a b
  touches_still a b still = record {
    listed = λ f archive list is has. only_rests (IsTouchedBy stanza rules moment archive list) a b still.time still.now;
    unlisted = λ f is no. still;
  }

  pub touches_none : (a : View) → Touches stanza rules moment a a
  touches_none a = touches_still a a (still_self a)

  -- after calls that only read
  pub touches_on : (a b c : View) → IsStill a b → Touches stanza rules moment b c → Touches stanza rules moment a c
  touches_on a b c still h = record {
    listed = λ f archive list is has.
        let these : Text → Type 0 = IsTouchedBy stanza rules moment archive list in
        only_on these a b c (only_rests these a b still.time still.now) (h.listed f archive list (still.now ∙ is) has);
    unlisted = λ f is no. still_on a b c still (h.unlisted f (still.now ∙ is) no);
  }

  -- of what the disk holds
  pub touches_now : (a b : View) → Touches stanza rules moment a b → TouchesNow stanza rules moment a.now b.now
  touches_now a b h = record {
    listed = λ f archive list is has. (h.listed f archive list is has).now;
    unlisted = λ f is no. (h.unlisted f is no).now;
  }
