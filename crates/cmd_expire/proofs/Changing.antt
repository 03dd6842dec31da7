-- What an expiry may change: nothing where only was read, and the same after calls that only read.
use Rattle.std.proofs.Common.{◌≡◌, ◌⊎◌, inl, inr, ℕ, Option, Some, None, ap, ◌∙◌}
use Rattle.base_devices.specs.Content.{Name, at}
use Rattle.base_devices.specs.Moments.{View}
use Rattle.base_disk.specs.Store.{ChangesOnly}
use Rattle.base_disk.proofs.Changes.{only_on, only_rests, only_wide}
use Rattle.base_model.specs.Text.{Text}
use Rattle.archive_store.specs.Still.{IsStill, still_self}
use Rattle.expire_rules.specs.declared.rules.Rules.{Rules}
use Rattle.expire_make.specs.Expiry.{IsTouchedBy}
use Rattle.expire_make.specs.Losing.{MayExpire}
use Rattle.expire_make.proofs.Touching.{touches_now, touches_still, touches_on}
use Rattle.cmd_expire.specs.Changing.{ChangesBoth, Expires, Frame, ThenExpires}
use Rattle.cmd_expire.proofs.Moments.{some_moment, moment_from}

module _ (stanza : Text) (rules : Rules) (least : ℕ) where
  pub expires_still : (a b : View) → IsStill a b → Expires stanza rules least a b
  expires_still a b still =
      let m = some_moment rules.full least least in
      record {
        only = only_rests (MayExpire stanza) a b still.time still.now;
        moment = m.0;
        may_be = moment_from rules.full least least m.0 m.1;
        touches = touches_still stanza rules m.0 a b still;
      }

  pub expires_on : (a b c : View) → IsStill a b → Expires stanza rules least b c → Expires stanza rules least a c
  expires_on a b c still h = record {
    only = only_on (MayExpire stanza) a b c (only_rests (MayExpire stanza) a b still.time still.now) h.only;
    moment = h.moment;
    may_be = h.may_be;
    touches = touches_on stanza rules h.moment a b c still h.touches;
  }

-- ---- after another command

-- What is needed of saying that outside of some names nothing changes.
pub record IsFrame (Outside : Frame) : Type 1 where
  pub of : (these : Name → Type 0) (a b : View) → ChangesOnly these a b → Outside these a b
  pub now : (these : Name → Type 0) (a b : View) → Outside these a b → (n : Name) → ¬ these n → at n b.now ≡ at n a.now
  pub wide : (these those : Name → Type 0) (a b : View) → ((n : Name) → these n → those n) → Outside these a b → Outside those a b
  pub on : (these : Name → Type 0) (a b c : View) → Outside these a b → Outside these b c → Outside these a c

pub changes_frame : IsFrame ChangesOnly
changes_frame = record {
  of = λ these a b h. h;
  now = λ these a b h. h.now;
  wide = only_wide;
  on = only_on;
}

module _ (stanza : Text) (least : ℕ) (Outside : Frame) (laws : IsFrame Outside) (these : Name → Type 0) where
  -- an expiry after it
  pub both_change : (rules : Rules) (a b c : View) → Outside these a b → Expires stanza rules least b c → ChangesBoth stanza rules least Outside these a c
  both_change rules a b c first h = record {
    only = joined (MayExpire stanza) h.only;
    between = b.now;
    made = laws.now these a b first;
    moment = h.moment;
    may_be = h.may_be;
    listed = λ f archive list is has. joined (IsTouchedBy stanza rules h.moment archive list) (h.touches.listed f archive list is has);
    unlisted = λ f is no. laws.on these a b c first (laws.of these b c (only_rests these b c (h.touches.unlisted f is no).time (h.touches.unlisted f is no).now));
    expired = touches_now stanza rules h.moment b c h.touches;
  }
    where
      joined : (those : Name → Type 0) → ChangesOnly those b c → Outside (λ n. these n ⊎ those n) a c
      joined those h = laws.on (λ n. these n ⊎ those n) a b c (laws.wide these (λ n. these n ⊎ those n) a b (λ n x. inl x) first)
          (laws.of (λ n. these n ⊎ those n) b c (only_wide those (λ n. these n ⊎ those n) b c (λ n x. inr x) h))

  -- where no expiry follows
  pub none_then : (rules : Option Rules) (a b : View) → Outside these a b → ThenExpires rules stanza least Outside these a b
  none_then None a b h = h
  none_then (Some rules) a b h = both_change rules a b b h (expires_still stanza rules least b b (still_self b))

  -- after calls that only read
  pub then_on : (rules : Option Rules) (a b c : View) → IsStill a b → ThenExpires rules stanza least Outside these b c → ThenExpires rules stanza least Outside these a c
  then_on None a b c still h = laws.on these a b c (laws.of these a b (only_rests these a b still.time still.now)) h
  then_on (Some rules) a b c still h = record {
    only = after (λ n. these n ⊎ MayExpire stanza n) h.only;
    between = h.between;
    made = λ n off. h.made n off ∙ ap (at n) still.now;
    moment = h.moment;
    may_be = h.may_be;
    listed = λ f archive list is has. after (λ n. these n ⊎ IsTouchedBy stanza rules h.moment archive list n) (h.listed f archive list is has);
    unlisted = λ f is no. after these (h.unlisted f is no);
    expired = h.expired;
  }
    where
      after : (those : Name → Type 0) → Outside those b c → Outside those a c
      after those h = laws.on those a b c (laws.of those a b (only_rests those a b still.time still.now)) h
