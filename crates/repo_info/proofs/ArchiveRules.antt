-- A value of `archive.info` within its rules has a text.
use Rattle.std.proofs.Common.{◌≡◌, ◌<◌, ◌^◌, true, List, [], ◌∷◌, map, length, codes, decimal, Some, refl, sym, subst, arith, lit≤}
use Rattle.json.proofs.Printed.Utf8.{IsUtf8-are_ascii}
use Rattle.base_model.specs.declared.clusters.ClusterId.{ClusterId}
use Rattle.base_model.specs.Text.{Text}
use Rattle.base_model.specs.InfoText.{Section, IsKey, IsSection, IsInfo, has_keys}
use Rattle.base_model.specs.Fields.{Field, by_key, section, at_number, whole}
use Rattle.base_model.specs.InfoFiles.{IsClusterId, cluster_id_fields, cluster_id_field, version_value, archive_sections, IsArchiveInfo}
use Rattle.base_model.specs.Values.{ArchiveInfo}
use Rattle.base_text.proofs.Decimals.{IsUtf8-decimal}
use Rattle.repo_ini.proofs.Keys.{IsKey-built}
use Rattle.repo_keys.proofs.ByKey.{history_rules, some_key}
use Rattle.repo_info.proofs.Clusters.{built_identity_fields, built_identity}
use Rattle.repo_info.proofs.Found.{found}
use Rattle.repo_info.proofs.PlainTexts.{is_key-decimal}

abbrev pub db : ClusterId → Section
db c = record { name = codes "db"; keys = cluster_id_fields c }

abbrev pub history : List ClusterId → Section
history cs = record { name = codes "db:history"; keys = by_key (map cluster_id_field cs) }

db_rules : (c : ClusterId) → IsClusterId c → IsSection (db c)
db_rules c h =
    let built = built_identity_fields c h in
    record {
      name = refl;
      utf8 = IsUtf8-are_ascii (codes "db") refl;
      some = refl;
      keys = (
        IsKey-built (codes "db-id") (whole c.id) refl (IsUtf8-are_ascii (codes "db-id") refl) built.0 (lit≤ tt),
        (
          IsKey-built (codes "db-system-id") (whole c.system) refl (IsUtf8-are_ascii (codes "db-system-id") refl) built.1.0 (lit≤ tt),
          (IsKey-built (codes "db-version") (version_value c.version) refl (IsUtf8-are_ascii (codes "db-version") refl) built.1.1.0 (lit≤ tt), tt),
        ),
      );
      order = refl;
    }

key_rules : (c : ClusterId) → IsClusterId c → IsKey (cluster_id_field c)
key_rules c h = IsKey-built (decimal c.id) (cluster_id_field c).1 (is_key-decimal c.id (omega arith)) (IsUtf8-decimal c.id (omega arith)) (built_identity c h) (lit≤ tt)

small : (c : ClusterId) → IsClusterId c → c.id < 2 ^ 64
small c h = omega arith

pub some_section : (name : Text) (ks : List Field) → has_keys ks ≡ true → section name ks ≡ record { name = name; keys = ks } ∷ []
some_section name [] h = cc h
some_section name (k ∷ ks) h = refl

-- the two sections
pub archive_sections_are : (v : ArchiveInfo) (c : ClusterId) → 0 < length v.history → at_number v.current v.history ≡ Some c → archive_sections v ≡ db c ∷ history v.history ∷ []
unfolding archive_sections
archive_sections_are v c some at =
    let keys = some_key IsClusterId (λ (c : ClusterId). c.id) cluster_id_field (λ c. refl) small key_rules v.history some in
    rw (at, some_section (codes "db:history") (by_key (map cluster_id_field v.history)) keys) refl

pub archive_is_info : (v : ArchiveInfo) → IsArchiveInfo v → IsInfo (archive_sections v)
archive_is_info v h =
    let (c, at, rules) = found IsClusterId v.history v.current h.clusters h.current.0 h.current.1 in
    let kept : 0 < length v.history = omega arith in
    let past = history_rules IsClusterId (λ (c : ClusterId). c.id) cluster_id_field (λ c. refl) small key_rules v.history kept h.clusters h.numbers in
    let info : IsInfo (db c ∷ history v.history ∷ []) = record { sections = (db_rules c rules, (past, tt)); order = refl } in
    subst IsInfo (sym (archive_sections_are v c kept at)) info
