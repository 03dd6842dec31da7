-- The cluster whose values the keys have, as far as they have a cluster's.
use Rattle.std.proofs.Common.{◌≡◌, inl, inr, ℕ, ◌<◌, ◌≤◌, ◌^◌, List, refl, sym, ap, ◌∙◌, subst, arith}
use Rattle.std.specs.Prelude.{codes}
use Rattle.serde_json.specs.Data.{Data}
use Rattle.base_model.specs.declared.clusters.Cluster.{Cluster}
use Rattle.base_model.specs.Text.{Text, In}
use Rattle.base_model.specs.Fields.{Field, whole}
use Rattle.base_model.specs.InfoFiles.{IsCluster, cluster_fields, version_value}
use Rattle.repo_keys.specs.Agree.{KeysAgree, IsOrdered, IsFirstDifference}
use Rattle.repo_info.specs.BackupForm.{IsWrongCluster}

-- what a candidate has of the keys
pub record IsCandidate (ks : List Field) (c : Cluster) : Type 0 where
  pub rules : IsCluster c
  pub low : 1 ≤ c.id
  pub catalog : (n : ℕ) → n < 2 ^ 32 → In (codes "db-catalog-version", whole n) ks → c.catalog ≡ n
  pub control : (n : ℕ) → n < 2 ^ 32 → In (codes "db-control-version", whole n) ks → c.control ≡ n
  pub id : (n : ℕ) → n < 2 ^ 32 → 1 ≤ n → In (codes "db-id", whole n) ks → c.id ≡ n
  pub system : (n : ℕ) → In (codes "db-system-id", whole n) ks → c.system ≡ n
  pub version : (n : ℕ) → n < 2 ^ 32 → In (codes "db-version", version_value n) ks → c.version ≡ n

module _ (ks : List Field) (c : Cluster) (is : IsCandidate ks c) (e : Cluster) (rules : IsCluster e) (low : 1 ≤ e.id) (key : Text) (agree : KeysAgree (cluster_fields e) ks key) where
  moved : (k : Text) (x y : Data) → In (k, x) (cluster_fields e) → (In (k, x) ks → y ≡ x) → (d : Data) → (let f : Field = (key, d) in f) ≡ (k, y) → In (key, d) (cluster_fields e)
  moved k x y i same d at =
      let named : key ≡ k = ap (λ (f : Field). f.0) at in
      let value : d ≡ y = ap (λ (f : Field). f.1) at in
      let there = subst (λ (n : Text). In (n, x) ks) named (agree.there x (subst (λ (n : Text). In (n, x) (cluster_fields e)) (sym named) i)) in
      let whole_is : d ≡ x = value ∙ same there in
      subst (λ (n : Text). In (n, d) (cluster_fields e)) (sym named) (subst (λ (z : Data). In (k, z) (cluster_fields e)) (sym whole_is) i)

  to_other : (d : Data) → In (key, d) (cluster_fields c) → In (key, d) (cluster_fields e)
  to_other d (inl at) = moved (codes "db-catalog-version") (whole e.catalog) (whole c.catalog) (inl refl) (λ j. ap whole (is.catalog e.catalog rules.catalog j)) d at
  to_other d (inr (inl at)) = moved (codes "db-control-version") (whole e.control) (whole c.control) (inr (inl refl)) (λ j. ap whole (is.control e.control rules.control j)) d at
  to_other d (inr (inr (inl at))) = moved (codes "db-id") (whole e.id) (whole c.id) (inr (inr (inl refl))) (λ j. ap whole (is.id e.id rules.id low j)) d at
  to_other d (inr (inr (inr (inl at)))) = moved (codes "db-system-id") (whole e.system) (whole c.system) (inr (inr (inr (inl refl)))) (λ j. ap whole (is.system e.system j)) d at
  to_other d (inr (inr (inr (inr (inl at))))) = moved (codes "db-version") (version_value e.version) (version_value c.version) (inr (inr (inr (inr (inl refl))))) (λ j. ap version_value (is.version e.version rules.version j)) d at
  to_other d (inr (inr (inr (inr (inr none))))) = absurd none

  taken : (k : Text) (x y : Data) → In (k, y) (cluster_fields c) → (In (k, x) ks → y ≡ x) → (d : Data) → In (key, d) ks → (let f : Field = (key, d) in f) ≡ (k, x) → In (key, d) (cluster_fields c)
  taken k x y i same d j at =
      let there = subst (λ (f : Field). In f ks) at j in
      subst (λ (f : Field). In f (cluster_fields c)) (ap (λ (z : Data). let f : Field = (k, z) in f) (same there) ∙ sym at) i

  from_keys : (d : Data) → In (key, d) ks → In (key, d) (cluster_fields e) → In (key, d) (cluster_fields c)
  from_keys d j (inl at) = taken (codes "db-catalog-version") (whole e.catalog) (whole c.catalog) (inl refl) (λ k. ap whole (is.catalog e.catalog rules.catalog k)) d j at
  from_keys d j (inr (inl at)) = taken (codes "db-control-version") (whole e.control) (whole c.control) (inr (inl refl)) (λ k. ap whole (is.control e.control rules.control k)) d j at
  from_keys d j (inr (inr (inl at))) = taken (codes "db-id") (whole e.id) (whole c.id) (inr (inr (inl refl))) (λ k. ap whole (is.id e.id rules.id low k)) d j at
  from_keys d j (inr (inr (inr (inl at)))) = taken (codes "db-system-id") (whole e.system) (whole c.system) (inr (inr (inr (inl refl)))) (λ k. ap whole (is.system e.system k)) d j at
  from_keys d j (inr (inr (inr (inr (inl at))))) = taken (codes "db-version") (version_value e.version) (version_value c.version) (inr (inr (inr (inr (inl refl))))) (λ k. ap version_value (is.version e.version rules.version k)) d j at
  from_keys d j (inr (inr (inr (inr (inr none))))) = absurd none

  candidate_agrees : KeysAgree (cluster_fields c) ks key
  candidate_agrees = record { there = λ d i. agree.there d (to_other d i); back = λ d j. from_keys d j (agree.back d j) }

-- where the candidate differs first, no cluster has what is
pub wrong_cluster : (ks : List Field) (c : Cluster) → IsCandidate ks c → (key : Text) → IsFirstDifference (cluster_fields c) ks key → IsWrongCluster ks key
wrong_cluster ks c is key at = record {
  known = (c, is.rules, is.low, at.before);
  wrong = λ e rules low agree. at.here (candidate_agrees ks c is e rules low key agree);
}
