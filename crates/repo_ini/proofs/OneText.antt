-- A text is of one list of sections.
use Rattle.std.proofs.Common.{◌≡◌, List, Result, Ok, refl, sym, ◌∙◌}
use Rattle.base_model.specs.InfoText.{Section, IsInfo, info_text}
use Rattle.repo_ini.specs.Form.{Fault}
use Rattle.repo_ini.proofs.Laws.{read_text-only}

pub one_sections : (ss ts : List Section) → IsInfo ss → IsInfo ts → info_text ss ≡ info_text ts → ss ≡ ts
one_sections ss ts h g same =
    let e : ◌≡◌ {A = Result (List Section) Fault} (Ok ss) (Ok ts) = sym (read_text-only (info_text ss) ss h refl) ∙ read_text-only (info_text ss) ts g same in
    cc
