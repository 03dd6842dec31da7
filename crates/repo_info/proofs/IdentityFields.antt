-- A field of `archive.info`'s history is of one cluster.
use Rattle.std.proofs.Common.{◌≡◌, refl, ap, arith, decimal, lit≤}
use Rattle.serde_json.specs.Data.{Data, number, unsigned, string, object, member}
use Rattle.base_model.specs.declared.clusters.ClusterId.{ClusterId}
use Rattle.base_model.specs.InfoText.{IsKey}
use Rattle.base_model.specs.Fields.{Field}
use Rattle.base_model.specs.InfoFiles.{IsClusterId, cluster_id_field}
use Rattle.base_text.proofs.Decimals.{IsUtf8-decimal}
use Rattle.repo_ini.proofs.Keys.{IsKey-built}
use Rattle.repo_info.specs.History.{AreNumbered}
use Rattle.repo_info.proofs.Clusters.{built_identity}
use Rattle.repo_keys.proofs.Numbers.{same_digits}
use Rattle.repo_info.proofs.PlainTexts.{is_key-decimal}

abbrev system_in : Data → Data
system_in (object (member k d ms)) = d
system_in d = d

abbrev version_in : Data → Data
version_in (object (member k d (member l e ms))) = e
version_in d = d

-- a field is of one cluster
pub same_field : (c e : ClusterId) → IsClusterId c → IsClusterId e → cluster_id_field c ≡ cluster_id_field e → c ≡ e
same_field c e h g same =
    let id : c.id ≡ e.id = same_digits c.id e.id h.id g.id (ap (λ (k : Field). k.0) same) in
    let whole : ◌≡◌ {A = Data} (number (unsigned c.system)) (number (unsigned e.system)) = ap (λ (k : Field). system_in k.1) same in
    let system : c.system ≡ e.system = cc in
    let text : ◌≡◌ {A = Data} (string (decimal c.version)) (string (decimal e.version)) = ap (λ (k : Field). version_in k.1) same in
    let digits : decimal c.version ≡ decimal e.version = cc in
    let version = same_digits c.version e.version h.version g.version digits in
    let same_record : ◌≡◌ {A = ClusterId} (record { id = c.id; system = c.system; version = c.version }) (record { id = e.id; system = e.system; version = e.version }) = rw (id, system, version) refl in
    same_record

pub key_rules : (c : ClusterId) → IsClusterId c → IsKey (cluster_id_field c)
key_rules c h = IsKey-built (decimal c.id) (cluster_id_field c).1 (is_key-decimal c.id (omega arith)) (IsUtf8-decimal c.id (omega arith)) (built_identity c h) (lit≤ tt)

pub identities_are_numbered : AreNumbered IsClusterId (λ (c : ClusterId). c.id) cluster_id_field
identities_are_numbered = record { named = λ c. refl; small = λ c h. h.id; key = key_rules; one = same_field }
