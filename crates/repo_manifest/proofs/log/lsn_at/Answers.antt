use Rattle.std.proofs.Common.{ℕ, List, sym, ◌∙◌, subst}
use Rattle.base_model.specs.ManifestText.{lsn_text}
use Rattle.repo_names.specs.Lsn.{IsLsn}
use Rattle.repo_manifest.proofs.LsnTexts.{lsn_is, one_lsn}
use Rattle.repo_manifest.proofs.log.lsn_at.Goals as goal

pub returns-in-Some-clause-read : goal.returns-in-Some-clause-read
returns-in-Some-clause-read c = λ y h i.
    let text = c.as_bytes.result.now in
    let is = c.as_bytes.ensures.value ∙ c.text_at.ensures (lsn_text y) i in
    one_lsn text c.in-Some.at.0 y c.in-Some.ensures.value (subst (λ (t : List ℕ). IsLsn t y) (sym is) (lsn_is y h))

pub returns-in-None-clause-read : goal.returns-in-None-clause-read
returns-in-None-clause-read c = λ y h i.
    let is = c.as_bytes.ensures.value ∙ c.text_at.ensures (lsn_text y) i in
    absurd (c.in-None.ensures.none y (subst (λ (t : List ℕ). IsLsn t y) (sym is) (lsn_is y h)))
