-- A value of `backup.info` without the last cluster of its history.
use Rattle.std.proofs.Common.{◌≡◌, ◌≢◌, ℕ, ◌+◌, ◌≤◌, true, List, [], ◌∷◌, ◌++◌, map, length, inl, inr, refl, ap, ◌∙◌, sym, subst, arith, codes, length-append}
use Rattle.std.specs.List.{AllByRecursion, flat_map}
use Rattle.base_devices.specs.Order.{are_in_order}
use Rattle.base_model.specs.declared.clusters.Cluster.{Cluster}
use Rattle.base_model.specs.Text.{In}
use Rattle.base_model.specs.Names.{label_text}
use Rattle.base_model.specs.InfoText.{Section, key_line, section_text, info_text}
use Rattle.base_model.specs.InfoFiles.{IsCluster, AreFrom, AreListed, IsListedEntry, IsBackupInfo, backup_sections, cluster_fields, cluster_field, entry_field}
use Rattle.base_model.specs.Fields.{Field, by_key, section}
use Rattle.base_model.specs.Values.{BackupInfo, Entry}
use Rattle.repo_info.proofs.BackupRules.{listed, db, history, backup_sections_are}
use Rattle.repo_info.proofs.Found.{found}
use Rattle.repo_stanza.proofs.Lengths.{flat_length, keys_length, history_length, section_length, fewer_bytes, current_length}

all_prefix : {X : Type 0} (P : X → Type 0) (xs : List X) (x : X) → AllByRecursion P (xs ++ x ∷ []) → AllByRecursion P xs
all_prefix P [] x h = tt
all_prefix P (y ∷ ys) x h = (h.0, all_prefix P ys x h.1)

abbrev id_of : Cluster → ℕ
id_of c = c.id

from_prefix : (xs : List Cluster) (x : Cluster) (m : ℕ) → AreFrom m (map id_of (xs ++ x ∷ [])) → AreFrom m (map id_of xs)
from_prefix [] x m h = tt
from_prefix (y ∷ ys) x m h = (h.0, from_prefix ys x (m + 1) h.1)

-- the last cluster has the last number
pub last_number : (xs : List Cluster) (x : Cluster) (m : ℕ) → AreFrom m (map id_of (xs ++ x ∷ [])) → x.id ≡ m + length xs
last_number [] x m h = let e : x.id ≡ m = h.0 in omega arith
last_number (y ∷ ys) x m h = let e = last_number ys x (m + 1) h.1 in omega (arith, e)

entry_less : (n m : ℕ) (earlier : List Entry) (e : Entry) → n ≡ m + 1 → e.db ≢ n → IsListedEntry n earlier e → IsListedEntry m earlier e
entry_less n m earlier e one other h = record {
  label = h.label;
  kind = h.kind;
  prior = h.prior;
  references = h.references;
  reference_order = h.reference_order;
  db = (h.db.0, omega (arith, one, other, h.db.1), h.db.2);
  span = h.span;
  start = h.start;
  stop = h.stop;
  size = h.size;
  stored = h.stored;
}

listed_less : (n m : ℕ) (earlier es : List Entry) → n ≡ m + 1 → ((e : Entry) → In e es → e.db ≢ n) → AreListed n earlier es → AreListed m earlier es
listed_less n m earlier [] one unused h = tt
listed_less n m earlier (e ∷ es) one unused h = (entry_less n m earlier e one (unused e (inl refl)) h.0, listed_less n m (earlier ++ e ∷ []) es one (λ x at. unused x (inr at)) h.1)

module _ (v w : BackupInfo) (last : Cluster) (rules : IsBackupInfo v) (is_whole : v.history ≡ w.history ++ last ∷ []) (current : w.current ≡ length w.history) (some : 1 ≤ length w.history) where
  one_more : length v.history ≡ length w.history + 1
  one_more = omega (arith, ap length is_whole, length-append w.history (last ∷ []))

  clusters : AllByRecursion IsCluster w.history
  clusters = all_prefix IsCluster w.history last (subst (AllByRecursion IsCluster) is_whole rules.clusters)

  pub shorter_rules : w.backups ≡ v.backups → ((e : Entry) → In e v.backups → e.db ≢ length v.history) → IsBackupInfo w
  shorter_rules backups unused = record {
    clusters = clusters;
    numbers = from_prefix w.history last 1 (subst (λ (cs : List Cluster). AreFrom 1 (map id_of cs)) is_whole rules.numbers);
    current = (omega arith, omega arith);
    backups = subst (λ (es : List Entry). AreListed (length w.history) [] es) (sym backups) (listed_less (length v.history) (length w.history) [] v.backups one_more unused rules.backups);
    order = subst (λ (es : List Entry). are_in_order (map (λ e. label_text e.label) es) ≡ true) (sym backups) rules.order;
  }

  sections_length : (u : BackupInfo) (c : Cluster) → backup_sections u ≡ listed u.backups ++ db c ∷ history u.history ∷ [] → length (flat_map section_text (backup_sections u)) ≡ length (flat_map section_text (listed u.backups)) + 20 + keys_length (cluster_fields c) + keys_length (by_key (map cluster_field u.history))
  sections_length u c is = ap (λ (ss : List Section). length (flat_map section_text ss)) is
      ∙ (omega (arith, flat_length section_text (listed u.backups) (db c ∷ history u.history ∷ []), length-append (section_text (db c)) (flat_map section_text (history u.history ∷ [])), length-append (section_text (history u.history)) [], section_length (db c), section_length (history u.history)))

  -- its text isn't longer
  pub shorter_text : map entry_field w.backups ≡ map entry_field v.backups → length (info_text (backup_sections w)) ≤ length (info_text (backup_sections v))
  shorter_text fields =
      let (c, at_c, rules_c) = found IsCluster v.history v.current rules.clusters rules.current.0 rules.current.1 in
      let (d, at_d, rules_d) = found IsCluster w.history w.current clusters (omega arith) (omega arith) in
      let first = sections_length v c (backup_sections_are v c (omega (arith, one_more)) at_c) in
      let second = sections_length w d (backup_sections_are w d (omega arith) at_d) in
      let more : keys_length (by_key (map cluster_field v.history)) ≡ keys_length (by_key (map cluster_field w.history)) + length (key_line (cluster_field last)) = ap (λ (cs : List Cluster). keys_length (by_key (map cluster_field cs))) is_whole ∙ history_length w.history last in
      let same : length (flat_map section_text (listed w.backups)) ≡ length (flat_map section_text (listed v.backups)) = ap (λ (ks : List Field). length (flat_map section_text (section (codes "backup:current") ks))) fields in
      fewer_bytes (backup_sections w) (backup_sections v) (omega (arith, first, second, more, same, current_length c d last rules_d))
