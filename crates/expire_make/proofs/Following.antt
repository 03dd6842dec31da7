-- An expiry after other moves, as after a backup, and after calls that only read.
use Rattle.std.proofs.Common.{◌≡◌, ℕ, List, ◌++◌, Option, Some, ap, ◌∙◌, sym, subst}
use Rattle.std.specs.Prelude.{IfOk, IsSome, Result}
use Rattle.base_devices.specs.Content.{Content}
use Rattle.base_devices.specs.Moments.{View}
use Rattle.base_model.specs.Now.{NowRepresents}
use Rattle.base_model.specs.Text.{Text}
use Rattle.base_model.specs.Repository.{Stanza, Repository}
use Rattle.base_model.specs.Represents.{Represents}
use Rattle.base_model.specs.Steps.{Step, Move, Retention, IsPartOf, after, all_of, expiry_moves}
use Rattle.base_model.specs.Steady.{IsSteady}
use Rattle.base_model.proofs.Waited.{all_following, part_following, after_following}
use Rattle.expire_rules.specs.declared.rules.Rules.{Rules}
use Rattle.expire_rules.specs.Condemned.{condemned_labels}
use Rattle.expire_make.specs.declared.expiry_run.Expired.{Expired}
use Rattle.expire_make.specs.Expiry.{IsPartOfExpiry, listed}
use Rattle.expire_make.specs.Removed.{CountsGone}

-- a part of an expiry after moves that are done
module _ (stanza : Text) (k : Retention) (s made : Stanza) (prefix : List Move) (is : after (Some s) (all_of prefix) ≡ Some made) where
  pub expiry_after : (g : Content) → IsPartOfExpiry stanza k made g → (done : List Step) × IsPartOf done (prefix ++ expiry_moves k made) × Represents stanza g (after (Some s) done)
  expiry_after g p = (
    all_of prefix ++ p.0,
    part_following prefix (expiry_moves k made) p.0 p.1,
    subst (λ (r : Repository). Represents stanza g r) (sym (after_following (Some s) (all_of prefix) p.0 ∙ ap (λ (r : Repository). after r p.0) is)) p.2,
  )

  -- and all of it
  pub whole_following : (d : View) → IsSteady stanza (after (Some made) (all_of (expiry_moves k made))) d → IsSteady stanza (after (Some s) (all_of (prefix ++ expiry_moves k made))) d
  whole_following d steady = subst (λ (r : Repository). IsSteady stanza r d) (sym (ap (after (Some s)) (all_following prefix (expiry_moves k made)) ∙ after_following (Some s) (all_of prefix) (all_of (expiry_moves k made)) ∙ ap (λ (r : Repository). after r (all_of (expiry_moves k made))) is)) steady

-- ---- after calls that only read

module _ (stanza : Text) (rules : Rules) (moment : ℕ) (old mid : Option Content) (same : mid ≡ old) where
  pub labels_after : {E : Type 0} (result : Result Expired E) → IfOk result (λ e. (s : Stanza) → IsSome mid → NowRepresents stanza (Some s) mid → e.labels.items ≡ condemned_labels rules moment (listed s))
      → IfOk result (λ e. (s : Stanza) → IsSome old → NowRepresents stanza (Some s) old → e.labels.items ≡ condemned_labels rules moment (listed s))
  labels_after {E} result h = subst (λ (o : Option Content). IfOk result (λ e. (s : Stanza) → IsSome o → NowRepresents stanza (Some s) o → e.labels.items ≡ condemned_labels rules moment (listed s))) same h

pub removed_after : (stanza : Text) (old mid new : Option Content) → mid ≡ old → {E : Type 0} (result : Result Expired E) → IfOk result (λ e. CountsGone stanza e.removed mid new) → IfOk result (λ e. CountsGone stanza e.removed old new)
removed_after stanza old mid new same result h = subst (λ (o : Option Content). IfOk result (λ e. CountsGone stanza e.removed o new)) same h
