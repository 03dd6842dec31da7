use Rattle.std.proofs.Common.{ℕ, ◌<◌, ◌≤◌, ◌^◌, List, String, Global, map, codes, subst, arith}
use Rattle.serde_json.specs.Data.{Data}
use Rattle.serde_json.specs.declared.value.Value.{Value}
use Rattle.base_model.specs.Text.{Text, In}
use Rattle.base_model.specs.Fields.{Field, whole}
use Rattle.base_model.specs.InfoFiles.{version_value}
use Rattle.repo_ini.specs.Parts.{key_of, keys_of}
use Rattle.repo_info.specs.ArchiveForm.{cluster_keys}
use Rattle.repo_info.proofs.CurrentRules.{wrong_id, wrong_system, wrong_version, wrong_foreign, fields_are}
use Rattle.repo_info.proofs.archive_current.current_of.Goals as goal

abbrev Keys : Type 0
Keys = List (String Global × Value)

abbrev Has : Text → Data → Keys → Type 0
Has key d ks = In (key, d) (map key_of ks)

pub returns-in_default-clause-fault : goal.returns-in_default-clause-fault
returns-in_default-clause-fault c =
    wrong_id (keys_of c.args.part.now) c.form.result c.form.ensures
    (subst (λ (ks : Keys). (n : ℕ) → n < 2 ^ 32 → 1 ≤ n → ¬ Has (codes "db-id") (whole n) ks) c.deref.ensures.value c.in_default.ensures.none)

pub returns-in_default-whole_at-clause-fault : goal.returns-in_default-whole_at-clause-fault
returns-in_default-whole_at-clause-fault c =
    wrong_system (keys_of c.args.part.now) c.form-in_default-whole_at.result c.form-in_default-whole_at.ensures
    (subst (λ (ks : Keys). (n : ℕ) → ¬ Has (codes "db-system-id") (whole n) ks) c.deref-2.ensures.value c.in_default-whole_at.ensures.none)

pub returns-in_default-version_at-clause-fault : goal.returns-in_default-version_at-clause-fault
returns-in_default-version_at-clause-fault c =
    wrong_version (keys_of c.args.part.now) c.form-in_default-version_at.result c.form-in_default-version_at.ensures
    (subst (λ (ks : Keys). (n : ℕ) → n < 2 ^ 32 → ¬ Has (codes "db-version") (version_value n) ks) c.deref-3.ensures.value c.in_default-version_at.ensures.none)

pub returns-in-Some-foreign_key-clause-fault : goal.returns-in-Some-foreign_key-clause-fault
returns-in-Some-foreign_key-clause-fault c =
    let found = c.in-Some-foreign_key.ensures.some in
    let key = c.in-Some-foreign_key.key.now in
    wrong_foreign (keys_of c.args.part.now) c.form-in-Some-foreign_key.result key found.0.0 c.form-in-Some-foreign_key.ensures (subst (λ (ks : Keys). Has key found.0.0 ks) c.deref-4.ensures.value found.0.1) found.1

pub returns-clause-cluster : goal.returns-clause-cluster
returns-clause-cluster c =
    let id = c.in-Some.id in
    let system = c.in-Some-whole_at.system in
    let version = c.in-Some-version_at.version in (
      record { id = omega arith; system = omega arith; version = omega arith },
      c.in-Some.ensures.some.0,
      fields_are (keys_of c.args.part.now) (record { id = id; system = system; version = version }) c.requires.order
          (subst (λ (ks : Keys). Has (codes "db-id") (whole id) ks) c.deref.ensures.value c.in-Some.ensures.some.1)
          (subst (λ (ks : Keys). Has (codes "db-system-id") (whole system) ks) c.deref-2.ensures.value c.in-Some-whole_at.ensures.some)
          (subst (λ (ks : Keys). Has (codes "db-version") (version_value version) ks) c.deref-3.ensures.value c.in-Some-version_at.ensures.some)
          (subst (λ (ks : Keys). (k : Field) → In k (map key_of ks) → In k.0 cluster_keys) c.deref-4.ensures.value c.in_default-foreign_key.ensures.none),
    )
