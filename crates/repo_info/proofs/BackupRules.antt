-- A value of `backup.info` within its rules has a text.
use Rattle.std.proofs.Common.{◌≡◌, ℕ, ◌<◌, ◌^◌, true, List, [], ◌∷◌, ◌++◌, map, length, codes, decimal, Some, refl, sym, subst, append_assoc, arith, lit≤}
use Rattle.json.proofs.Printed.Utf8.{IsUtf8-are_ascii}
use Rattle.base_devices.specs.Order.{are_in_order}
use Rattle.base_model.specs.declared.clusters.Cluster.{Cluster}
use Rattle.base_model.specs.InfoText.{Section, IsKey, IsSection, IsInfo}
use Rattle.base_model.specs.Fields.{by_key, section, at_number, whole}
use Rattle.base_model.specs.InfoFiles.{IsCluster, cluster_fields, cluster_field, version_value, entry_field, AreListed, backup_sections, IsBackupInfo}
use Rattle.base_model.specs.Names.{label_text}
use Rattle.base_model.specs.Values.{Entry, BackupInfo}
use Rattle.base_text.proofs.Decimals.{IsUtf8-decimal}
use Rattle.repo_ini.proofs.Keys.{IsKey-built}
use Rattle.repo_info.proofs.ArchiveRules.{some_section}
use Rattle.repo_keys.proofs.ByKey.{history_rules, some_key}
use Rattle.repo_info.proofs.Clusters.{built_cluster_fields, built_cluster}
use Rattle.repo_info.proofs.EntryRules.{listed_rules}
use Rattle.repo_info.proofs.Found.{found}
use Rattle.repo_info.proofs.PlainTexts.{is_key-decimal}

abbrev pub listed : List Entry → List Section
listed es = section (codes "backup:current") (map entry_field es)

abbrev pub db : Cluster → Section
db c = record { name = codes "db"; keys = cluster_fields c }

abbrev pub history : List Cluster → Section
history cs = record { name = codes "db:history"; keys = by_key (map cluster_field cs) }

pub db_rules : (c : Cluster) → IsCluster c → IsSection (db c)
db_rules c h =
    let built = built_cluster_fields c h in
    let (catalog, (control, (id, (system, (version, none))))) = built in
    record {
      name = refl;
      utf8 = IsUtf8-are_ascii (codes "db") refl;
      some = refl;
      keys = (
        IsKey-built (codes "db-catalog-version") (whole c.catalog) refl (IsUtf8-are_ascii (codes "db-catalog-version") refl) catalog (lit≤ tt),
        (
          IsKey-built (codes "db-control-version") (whole c.control) refl (IsUtf8-are_ascii (codes "db-control-version") refl) control (lit≤ tt),
          (
            IsKey-built (codes "db-id") (whole c.id) refl (IsUtf8-are_ascii (codes "db-id") refl) id (lit≤ tt),
            (
              IsKey-built (codes "db-system-id") (whole c.system) refl (IsUtf8-are_ascii (codes "db-system-id") refl) system (lit≤ tt),
              (IsKey-built (codes "db-version") (version_value c.version) refl (IsUtf8-are_ascii (codes "db-version") refl) version (lit≤ tt), tt),
            ),
          ),
        ),
      );
      order = refl;
    }

key_rules : (c : Cluster) → IsCluster c → IsKey (cluster_field c)
key_rules c h = IsKey-built (decimal c.id) (cluster_field c).1 (is_key-decimal c.id (omega arith)) (IsUtf8-decimal c.id (omega arith)) (built_cluster c h) (lit≤ tt)

small : (c : Cluster) → IsCluster c → c.id < 2 ^ 64
small c h = omega arith

-- the listed backups, where there are some, and the other two sections
pub backup_sections_are : (v : BackupInfo) (c : Cluster) → 0 < length v.history → at_number v.current v.history ≡ Some c → backup_sections v ≡ listed v.backups ++ db c ∷ history v.history ∷ []
unfolding backup_sections
backup_sections_are v c some at =
    let keys = some_key IsCluster (λ (c : Cluster). c.id) cluster_field (λ c. refl) small key_rules v.history some in
    rw (at, some_section (codes "db:history") (by_key (map cluster_field v.history)) keys) (append_assoc (listed v.backups) (db c ∷ []) (history v.history ∷ []))

with_listed : (clusters : ℕ) (es : List Entry) (d h : Section) → AreListed clusters [] es → are_in_order (map (λ e. label_text e.label) es) ≡ true → d.name ≡ codes "db" → h.name ≡ codes "db:history" → IsSection d → IsSection h → IsInfo (listed es ++ d ∷ h ∷ [])
with_listed clusters [] d h listed order dn hn dr hr = record { sections = (dr, (hr, tt)); order = rw (dn, hn) refl }
with_listed clusters (e ∷ es) d h listed order dn hn dr hr = record { sections = (listed_rules clusters e es listed order, (dr, (hr, tt))); order = rw (dn, hn) refl }

pub backup_is_info : (v : BackupInfo) → IsBackupInfo v → IsInfo (backup_sections v)
backup_is_info v h =
    let (c, at, rules) = found IsCluster v.history v.current h.clusters h.current.0 h.current.1 in
    let kept : 0 < length v.history = omega arith in
    let past = history_rules IsCluster (λ (c : Cluster). c.id) cluster_field (λ c. refl) small key_rules v.history kept h.clusters h.numbers in
    let info = with_listed (length v.history) v.backups (db c) (history v.history) h.backups h.order refl refl (db_rules c rules) past in
    subst IsInfo (sym (backup_sections_are v c kept at)) info
