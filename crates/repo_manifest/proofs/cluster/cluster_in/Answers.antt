use Rattle.std.proofs.Common.{List, map, refl, sym, ap, ◌∙◌, subst}
use Rattle.std.specs.Prelude.{codes}
use Rattle.std.specs.List.{AllByRecursion}
use Rattle.base_model.specs.InfoText.{Section, IsKey}
use Rattle.base_model.specs.Fields.{Field}
use Rattle.repo_ini.specs.Parts.{key_of, sections_of}
use Rattle.repo_keys.specs.Agree.{IsKeysOf, IsFirstDifference, IsOrdered}
use Rattle.repo_keys.proofs.Forms.{form_as}
use Rattle.repo_info.proofs.BackupRules.{db_rules}
use Rattle.repo_manifest.specs.ManifestForm.{IsManifestForm}
use Rattle.repo_manifest.proofs.Clustered.{wrong_cluster}
use Rattle.repo_manifest.proofs.Wrongs.{form_of}
use Rattle.repo_manifest.proofs.cluster.cluster_in.Goals as goal

pub first_difference-requires-clause-keys : goal.first_difference-requires-clause-keys
first_difference-requires-clause-keys c =
    let is = ap (map key_of) c.deref.ensures.value ∙ ap (λ (s : Section). s.keys) c.in_ok-expected.ensures in
    subst (AllByRecursion IsKey) (sym is) (db_rules c.cluster_of-cluster.result c.cluster_of-cluster.ensures.rules).keys

pub first_difference-requires-clause-ordered : goal.first_difference-requires-clause-ordered
first_difference-requires-clause-ordered c =
    let is = ap (map key_of) c.deref.ensures.value ∙ ap (λ (s : Section). s.keys) c.in_ok-expected.ensures in
    subst IsOrdered (sym is) refl

pub returns-in-Some-clause-fault : goal.returns-in-Some-clause-fault
returns-in-Some-clause-fault c =
    let ss = sections_of c.args.parts.now in
    let ks = map key_of c.keys_at-keys.result.now in
    let key = c.in-Some.key.now in
    let expected = ap (map key_of) c.deref.ensures.value ∙ ap (λ (s : Section). s.keys) c.in_ok-expected.ensures in
    let differ = subst (λ (xs : List Field). IsFirstDifference xs ks key) expected (rw c.in-Some.is at c.in_ok-key.ensures.some) in
    let wrong = wrong_cluster ss c.requires ks c.keys_at-keys.ensures.is c.cluster_of-cluster.result c.cluster_of-cluster.ensures.read key differ in
    form_as c.form.result (codes "backup:db") key (IsManifestForm ss) c.form.ensures (form_of ss (codes "backup:db") key wrong)

pub returns-clause-known : goal.returns-clause-known
returns-clause-known c =
    let ss = sections_of c.args.parts.now in
    let expected = ap (map key_of) c.deref.ensures.value ∙ ap (λ (s : Section). s.keys) c.in_ok-expected.ensures in
    let same = sym expected ∙ (rw c.in-None.is at c.in_ok-key.ensures.none) in
    subst (IsKeysOf ss (codes "backup:db")) (sym same) c.keys_at-keys.ensures.is
