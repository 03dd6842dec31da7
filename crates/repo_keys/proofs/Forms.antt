-- What a fault of sections reports.
use Rattle.std.proofs.Common.{◌≡◌, sym, subst}
use Rattle.std.specs.Prelude.{string_bytes, IfErr, Result, Ok, Err}
use Rattle.base_model.specs.Text.{Text}
use Rattle.repo_keys.specs.declared.fault.PartsFault.{PartsFault}
use Rattle.repo_keys.specs.declared.fault.PartsFault.TheVariants.{Form, NoMemory}
use Rattle.repo_keys.specs.Fault.{IfForm}

-- what holds of a section and a key holds where the fault reports them
pub form_as : (e : PartsFault) (section key : Text) (P : Text → Text → Type 0) → IfForm e (λ s k. (s ≡ section) × (k ≡ key)) → P section key → IfForm e P
form_as (Form s k) section key P known p = subst (λ (x : Text). P x (string_bytes k)) (sym known.0) (subst (λ (y : Text). P section y) (sym known.1) p)
form_as NoMemory section key P known p = tt

pub form_wide : (e : PartsFault) (P Q : Text → Text → Type 0) → IfForm e P → ((section key : Text) → P section key → Q section key) → IfForm e Q
form_wide (Form s k) P Q h wide = wide (string_bytes s) (string_bytes k) h
form_wide NoMemory P Q h wide = tt

pub err_wide : {X : Type 0} (r : Result X PartsFault) (P Q : Text → Text → Type 0) → IfErr r (λ e. IfForm e P) → ((section key : Text) → P section key → Q section key) → IfErr r (λ e. IfForm e Q)
err_wide (Ok x) P Q h wide = tt
err_wide (Err e) P Q h wide = form_wide e P Q h wide
