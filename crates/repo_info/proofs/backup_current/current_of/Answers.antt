use Rattle.std.proofs.Common.{◌≡◌, List, String, Global, map, refl, sym, ap, ◌∙◌, subst, arith}
use Rattle.std.specs.List.{AllByRecursion}
use Rattle.serde_json.specs.declared.value.Value.{Value}
use Rattle.base_model.specs.InfoText.{Section, IsKey}
use Rattle.base_model.specs.Fields.{Field}
use Rattle.base_model.specs.InfoFiles.{IsCluster}
use Rattle.repo_ini.specs.Parts.{key_of}
use Rattle.repo_keys.specs.Agree.{db as db_name, IsOrdered, IsFirstDifference}
use Rattle.repo_info.specs.BackupForm.{IsWrongCluster}
use Rattle.repo_info.proofs.BackupRules.{db_rules}
use Rattle.repo_info.proofs.ClusterKeys.{IsCandidate, wrong_cluster}
use Rattle.repo_keys.proofs.Forms.{form_as}
use Rattle.repo_info.proofs.backup_current.current_of.Goals as goal

abbrev Keys : Type 0
Keys = List (String Global × Value)

pub first_difference-requires-clause-keys : goal.first_difference-requires-clause-keys
first_difference-requires-clause-keys c =
    let cluster = c.candidate-cluster.result in
    let rules : IsCluster cluster = record { id = omega arith; system = omega arith; version = omega arith; control = omega arith; catalog = omega arith } in
    let is = ap (map key_of) c.deref.ensures.value ∙ ap (λ (s : Section). s.keys) c.in_ok-expected.ensures in
    subst (AllByRecursion IsKey) (sym is) (db_rules cluster rules).keys

pub first_difference-requires-clause-ordered : goal.first_difference-requires-clause-ordered
first_difference-requires-clause-ordered c =
    let is = ap (map key_of) c.deref.ensures.value ∙ ap (λ (s : Section). s.keys) c.in_ok-expected.ensures in
    subst IsOrdered (sym is) refl

pub returns-in-Some-clause-fault : goal.returns-in-Some-clause-fault
returns-in-Some-clause-fault c =
    let cluster = c.candidate-cluster.result in
    let found = c.candidate-cluster.ensures in
    let ks = map key_of c.args.keys.now in
    let rules : IsCluster cluster = record { id = omega arith; system = omega arith; version = omega arith; control = omega arith; catalog = omega arith } in
    let is : IsCandidate ks cluster = record { rules = rules; low = found.low; catalog = found.catalog; control = found.control; id = found.id; system = found.system; version = found.version } in
    let expected = ap (map key_of) c.deref.ensures.value ∙ ap (λ (s : Section). s.keys) c.in_ok-expected.ensures in
    let key = c.in-Some.key.now in
    let at = subst (λ (xs : List Field). IsFirstDifference xs ks key) expected (rw c.in-Some.is at c.in_ok-key.ensures.some) in
    form_as c.form.result db_name key (λ section k. (section ≡ db_name) × IsWrongCluster ks k) c.form.ensures (refl, wrong_cluster ks cluster is key at)
