-- Why a pair has no value.
use Rattle.std.proofs.Common.{◌≡◌, ℕ, List, Option, Some, None, refl, subst, sym}
use Rattle.std.specs.Prelude.{IfSome}
use Rattle.base_devices.specs.Content.{Content}
use Rattle.base_model.specs.Text.{Text}
use Rattle.base_model.specs.Names.{copy_of}
use Rattle.base_model.specs.InfoText.{Section}
use Rattle.repo_info.specs.declared.fault.MemberFault.{MemberFault}
use Rattle.repo_info.specs.declared.fault.MemberFault.TheVariants.{Absent, TooLong, Syntax, Sum, Form}
use Rattle.repo_pair.specs.declared.fault.InfoFault.{InfoFault}
use Rattle.repo_pair.specs.Causes.{IsMemberFault, HasFault, AreDamaged, PairCause}
use Rattle.repo_pair.specs.Reading.{of_both}

module _ {V : Type 0} (IsTextOf : V → Text → Type 0) (IsForm : List Section → Text → Text → Type 0) (limit : ℕ) where
  abbrev Is : Option Text → MemberFault → Type 0
  Is = IsMemberFault IsTextOf IsForm limit

  absent : (x : Option Text) → Is x Absent → x ≡ None
  absent None h = refl
  absent (Some bytes) h = absurd h.1

  present : (x : Option Text) (e : MemberFault) → (e ≡ Absent → ⊥) → Is x e → x ≡ None → ⊥
  present None Absent other h is = other refl
  present None TooLong other h is = h
  present None (Syntax line) other h is = h
  present None (Sum known found) other h is = h
  present None (Form section key) other h is = h
  present (Some bytes) e other h is = cc

  module _ (f : Content) (name : Text) (rose : Type 0) where
    abbrev Cause : InfoFault → Type 0
    Cause = PairCause IsTextOf IsForm limit name (Some f) rose

    main_there : (main copy : MemberFault) → (main ≡ Absent → ⊥) → HasFault IsTextOf IsForm limit f name main → HasFault IsTextOf IsForm limit f (copy_of name) copy → AreDamaged IsTextOf IsForm limit f name main copy
    main_there main copy other h g = record { some = λ both. present (f name) main other h.is both.0; main = h; copy = g }

    copy_there : (main copy : MemberFault) → (copy ≡ Absent → ⊥) → HasFault IsTextOf IsForm limit f name main → HasFault IsTextOf IsForm limit f (copy_of name) copy → AreDamaged IsTextOf IsForm limit f name main copy
    copy_there main copy other h g = record { some = λ both. present (f (copy_of name)) copy other g.is both.1; main = h; copy = g }

    both_cause : (main copy : MemberFault) → HasFault IsTextOf IsForm limit f name main → HasFault IsTextOf IsForm limit f (copy_of name) copy → Cause (of_both main copy)
    both_cause Absent Absent h g = (absent (f name) h.is, absent (f (copy_of name)) g.is)
    both_cause Absent TooLong h g = copy_there Absent TooLong (λ e. cc) h g
    both_cause Absent (Syntax line) h g = copy_there Absent (Syntax line) (λ e. cc) h g
    both_cause Absent (Sum known found) h g = copy_there Absent (Sum known found) (λ e. cc) h g
    both_cause Absent (Form section key) h g = copy_there Absent (Form section key) (λ e. cc) h g
    both_cause TooLong copy h g = main_there TooLong copy (λ e. cc) h g
    both_cause (Syntax line) copy h g = main_there (Syntax line) copy (λ e. cc) h g
    both_cause (Sum known found) copy h g = main_there (Sum known found) copy (λ e. cc) h g
    both_cause (Form section key) copy h g = main_there (Form section key) copy (λ e. cc) h g

  unknown_cause : (name : Text) (rose : Type 0) (main copy : MemberFault) → PairCause IsTextOf IsForm limit name None rose (of_both main copy)
  unknown_cause name rose Absent Absent = tt
  unknown_cause name rose Absent TooLong = tt
  unknown_cause name rose Absent (Syntax line) = tt
  unknown_cause name rose Absent (Sum known found) = tt
  unknown_cause name rose Absent (Form section key) = tt
  unknown_cause name rose TooLong copy = tt
  unknown_cause name rose (Syntax line) copy = tt
  unknown_cause name rose (Sum known found) copy = tt
  unknown_cause name rose (Form section key) copy = tt

  -- the faults of both members are that of the pair
  pub cause_of : (now : Option Content) (name given : Text) (rose : Type 0) (main copy : MemberFault) (fault : InfoFault) → fault ≡ of_both main copy → given ≡ copy_of name
      → IfSome now (λ f. HasFault IsTextOf IsForm limit f name main) → IfSome now (λ f. HasFault IsTextOf IsForm limit f given copy) → PairCause IsTextOf IsForm limit name now rose fault
  cause_of None name given rose main copy fault is same h g = subst (PairCause IsTextOf IsForm limit name None rose) (sym is) (unknown_cause name rose main copy)
  cause_of (Some f) name given rose main copy fault is same h g = subst (PairCause IsTextOf IsForm limit name (Some f) rose) (sym is) (both_cause f name rose main copy h (subst (λ (n : Text). HasFault IsTextOf IsForm limit f n copy) same g))
