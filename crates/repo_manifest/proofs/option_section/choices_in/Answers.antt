use Rattle.std.proofs.Common.{List, map, sym, ap, ◌∙◌, subst}
use Rattle.std.specs.Prelude.{codes}
use Rattle.std.specs.List.{AllByRecursion}
use Rattle.base_model.specs.InfoText.{Section, IsKey}
use Rattle.base_model.specs.Fields.{Field}
use Rattle.repo_ini.specs.Parts.{key_of, sections_of}
use Rattle.repo_keys.specs.Agree.{IsKeysOf, IsFirstDifference}
use Rattle.repo_manifest.specs.ManifestForm.{IsManifestForm}
use Rattle.repo_manifest.proofs.Chosen.{wrong_choice}
use Rattle.repo_keys.proofs.Forms.{form_as}
use Rattle.repo_manifest.proofs.ManifestRules.{choice_keys}
use Rattle.repo_manifest.proofs.Wrongs.{form_of}
use Rattle.base_model.specs.declared.labels.Choices.{Choices}
use Rattle.repo_manifest.proofs.option_section.choices_in.Goals as goal

pub first_difference-requires-clause-keys : goal.first_difference-requires-clause-keys
first_difference-requires-clause-keys c =
    let o : Choices = record { bundle = c.truth_at.result; delta = c.truth_at-2.result } in
    let is = ap (map key_of) c.deref.ensures.value ∙ ap (λ (s : Section). s.keys) c.in_ok-expected.ensures in
    subst (AllByRecursion IsKey) (sym is) (choice_keys o c.args.online)

pub returns-in-Some-clause-fault : goal.returns-in-Some-clause-fault
returns-in-Some-clause-fault c =
    let ss = sections_of c.args.parts.now in
    let ks = map key_of c.keys_at-keys.result.now in
    let o : Choices = record { bundle = c.truth_at.result; delta = c.truth_at-2.result } in
    let key = c.in-Some.key.now in
    let expected = ap (map key_of) c.deref.ensures.value ∙ ap (λ (s : Section). s.keys) c.in_ok-expected.ensures in
    let differ = subst (λ (xs : List Field). IsFirstDifference xs ks key) expected (rw c.in-Some.is at c.in_ok-key.ensures.some) in
    let wrong = wrong_choice ss c.requires.info ks c.keys_at-keys.ensures.is o c.args.online c.truth_at.ensures c.truth_at-2.ensures c.requires.online key differ in
    form_as c.form.result (codes "backup:option") key (IsManifestForm ss) c.form.ensures (form_of ss (codes "backup:option") key wrong)

pub returns-clause-known : goal.returns-clause-known
returns-clause-known c =
    let ss = sections_of c.args.parts.now in
    let expected = ap (map key_of) c.deref.ensures.value ∙ ap (λ (s : Section). s.keys) c.in_ok-expected.ensures in
    let same = sym expected ∙ (rw c.in-None.is at c.in_ok-key.ensures.none) in
    subst (IsKeysOf ss (codes "backup:option")) (sym same) c.keys_at-keys.ensures.is
