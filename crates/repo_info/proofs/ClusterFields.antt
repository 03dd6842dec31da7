-- A field of `backup.info`'s history is of one cluster.
use Rattle.std.proofs.Common.{◌≡◌, ◌<◌, ◌^◌, ℕ, zero, suc, List, [], ◌∷◌, refl, ap, arith, decimal, lit≤}
use Rattle.serde_json.specs.Data.{Data, number, unsigned, string, null, object, member}
use Rattle.base_model.specs.declared.clusters.Cluster.{Cluster}
use Rattle.base_model.specs.InfoText.{IsKey}
use Rattle.base_model.specs.Fields.{Field}
use Rattle.base_model.specs.InfoFiles.{IsCluster, cluster_fields, cluster_field}
use Rattle.base_text.proofs.Decimals.{IsUtf8-decimal}
use Rattle.repo_ini.proofs.Keys.{IsKey-built}
use Rattle.repo_info.specs.History.{AreNumbered}
use Rattle.repo_info.proofs.Clusters.{built_cluster}
use Rattle.repo_keys.proofs.Numbers.{same_digits}
use Rattle.repo_info.proofs.PlainTexts.{is_key-decimal}

-- the value of the first member, the second and so on
abbrev first : Data → Data
first (object (member k d ms)) = d
first d = d

abbrev rest : Data → Data
rest (object (member k d ms)) = object ms
rest d = d

whole_is : (n m : ℕ) → ◌≡◌ {A = Data} (number (unsigned n)) (number (unsigned m)) → n ≡ m
whole_is n m e = cc

digits_are : (n m : ℕ) → n < 2 ^ 32 → m < 2 ^ 32 → ◌≡◌ {A = Data} (string (decimal n)) (string (decimal m)) → n ≡ m
digits_are n m h g e = let d : decimal n ≡ decimal m = cc in same_digits n m h g d

pub same_parts : (c e : Cluster) → c.id ≡ e.id → c.system ≡ e.system → c.version ≡ e.version → c.control ≡ e.control → c.catalog ≡ e.catalog → c ≡ e
same_parts c e id system version control catalog =
    let r : ◌≡◌ {A = Cluster} (record { id = c.id; system = c.system; version = c.version; control = c.control; catalog = c.catalog }) (record { id = e.id; system = e.system; version = e.version; control = e.control; catalog = e.catalog }) = rw (id, system, version, control, catalog) refl in
    r

pub same_field : (c e : Cluster) → IsCluster c → IsCluster e → cluster_field c ≡ cluster_field e → c ≡ e
same_field c e h g same =
    let value = ap (λ (k : Field). k.1) same in
    same_parts c e
    (same_digits c.id e.id h.id g.id (ap (λ (k : Field). k.0) same))
    (whole_is c.system e.system (ap (λ (d : Data). first (rest (rest d))) value))
    (digits_are c.version e.version h.version g.version (ap (λ (d : Data). first (rest (rest (rest d)))) value))
    (whole_is c.control e.control (ap (λ (d : Data). first (rest d)) value))
    (whole_is c.catalog e.catalog (ap first value))

key_rules : (c : Cluster) → IsCluster c → IsKey (cluster_field c)
key_rules c h = IsKey-built (decimal c.id) (cluster_field c).1 (is_key-decimal c.id (omega arith)) (IsUtf8-decimal c.id (omega arith)) (built_cluster c h) (lit≤ tt)

pub clusters_are_numbered : AreNumbered IsCluster (λ (c : Cluster). c.id) cluster_field
clusters_are_numbered = record { named = λ c. refl; small = λ c h. h.id; key = key_rules; one = same_field }

-- ---- the current cluster

abbrev at : ℕ → List Field → Data
at n [] = null
at zero (k ∷ ks) = k.1
at (suc n) (k ∷ ks) = at n ks

-- five keys are of one cluster
pub same_cluster : (c e : Cluster) → IsCluster c → IsCluster e → cluster_fields c ≡ cluster_fields e → c ≡ e
same_cluster c e h g same =
    same_parts c e
    (whole_is c.id e.id (ap (at 2) same))
    (whole_is c.system e.system (ap (at 3) same))
    (digits_are c.version e.version h.version g.version (ap (at 4) same))
    (whole_is c.control e.control (ap (at 1) same))
    (whole_is c.catalog e.catalog (ap (at 0) same))
