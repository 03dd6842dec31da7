-- What a text has no value for, whichever its kind.
use Rattle.std.proofs.Common.{◌≡◌, ◌≢◌, List, sym, ◌∙◌}
use Rattle.std.specs.Prelude.{Err}
use Rattle.base_model.specs.Text.{Text}
use Rattle.base_model.specs.InfoText.{Section, IsInfo, info_text}
use Rattle.repo_ini.proofs.OneText.{one_sections}
use Rattle.repo_info.specs.declared.fault.MemberFault.{MemberFault}
use Rattle.repo_info.specs.declared.fault.MemberFault.TheVariants.{Absent, TooLong, Syntax, Sum, Form}
use Rattle.repo_info.specs.Reading.{IsFormFault}
use Rattle.repo_info.specs.Reading.{SectionsAre, TextGives}

-- a text of a value is that of its sections
pub record IsOfSections {V : Type 0} (IsTextOf : V → Text → Type 0) (sections : V → List Section) : Type 0 where
  pub info : (v : V) (b : Text) → IsTextOf v b → IsInfo (sections v)
  pub spelled : (v : V) (b : Text) → IsTextOf v b → b ≡ info_text (sections v)

module _ {X V : Type 0} (IsTextOf : V → Text → Type 0) (IsForm : List Section → Text → Text → Type 0) (value : X → V) (sections : V → List Section) (of : IsOfSections IsTextOf sections) where
  -- a text that is no info text
  pub unread : (text : Text) (fault : MemberFault) → SectionsAre text (Err fault) → TextGives IsTextOf IsForm value text (Err fault)
  unread text Absent h = absurd h
  unread text TooLong h = absurd h
  unread text (Syntax line) h = (h.0, λ w t. h.1 (sections w) (of.info w text t) (of.spelled w text t))
  unread text (Sum known found) h = (h.0, λ w t. h.1 (sections w) (of.info w text t) (of.spelled w text t))
  unread text (Form section key) h = absurd h

  -- a text of sections that are those of no value
  pub misfit : (text : Text) (ss : List Section) (section key : Text) → IsInfo ss → text ≡ info_text ss → IsForm ss section key → ((w : V) → IsTextOf w text → sections w ≢ ss) → IsFormFault IsForm text section key × ((w : V) → ¬ IsTextOf w text)
  misfit text ss section key info spelled form none = (
    record { sections = ss; info = info; spelled = spelled; form = form },
    λ w t. none w t (one_sections (sections w) ss (of.info w text t) info (sym (of.spelled w text t) ∙ spelled)),
  )
