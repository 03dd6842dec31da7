-- A text of `backup.info` is of one history, and of one list of fields for its backups.
use Rattle.std.proofs.Common.{◌≡◌, ⊎_elim, inl, inr, ℕ, zero, suc, ◌+◌, ◌≤◌, List, [], ◌∷◌, ◌++◌, map, length, refl, sym, ap, ◌∙◌, subst, arith, decimal}
use Rattle.std.specs.List.{AllByRecursion}
use Rattle.std.proofs.lemmas.List.{length-map}
use Rattle.serde_json.specs.Data.{Data, number, unsigned, string, object, member}
use Rattle.base_devices.specs.Content.{Content}
use Rattle.base_model.specs.declared.clusters.Cluster.{Cluster}
use Rattle.base_model.specs.Text.{Text, In}
use Rattle.base_model.specs.Pair.{PairIs}
use Rattle.base_model.specs.InfoText.{Section, info_text}
use Rattle.base_model.specs.Fields.{Field, by_key}
use Rattle.base_model.specs.InfoFiles.{IsCluster, cluster_field, entry_field, AreFrom, backup_sections, IsBackupInfo, IsBackupText}
use Rattle.base_model.specs.Values.{BackupInfo, Entry}
use Rattle.repo_ini.proofs.OneText.{one_sections}
use Rattle.repo_info.proofs.BackupRules.{listed, db, history, backup_sections_are, backup_is_info}
use Rattle.repo_info.proofs.Found.{found}
use Rattle.repo_keys.proofs.Numbers.{all_in, map_in, same_digits}
use Rattle.repo_pair.proofs.HealsPair.{same_text}
use Rattle.repo_keys.proofs.Sorted.{by_key_in, in_by_key, length_by_key}

-- ---- the clusters

abbrev id_of : Cluster → ℕ
id_of c = c.id

abbrev catalog_in : Data → Data
catalog_in (object (member k d ms)) = d
catalog_in d = d

abbrev control_in : Data → Data
control_in (object (member k d (member l e ms))) = e
control_in d = d

abbrev system_in : Data → Data
system_in (object (member k d (member l e (member m f ms)))) = f
system_in d = d

abbrev version_in : Data → Data
version_in (object (member k d (member l e (member m f (member n g ms))))) = g
version_in d = d

-- a field is of one cluster
same_field : (c e : Cluster) → IsCluster c → IsCluster e → cluster_field c ≡ cluster_field e → c ≡ e
same_field c e h g same =
    let id : c.id ≡ e.id = same_digits c.id e.id h.id g.id (ap (λ (k : Field). k.0) same) in
    let catalog_data : ◌≡◌ {A = Data} (number (unsigned c.catalog)) (number (unsigned e.catalog)) = ap (λ (k : Field). catalog_in k.1) same in
    let catalog : c.catalog ≡ e.catalog = cc in
    let control_data : ◌≡◌ {A = Data} (number (unsigned c.control)) (number (unsigned e.control)) = ap (λ (k : Field). control_in k.1) same in
    let control : c.control ≡ e.control = cc in
    let system_data : ◌≡◌ {A = Data} (number (unsigned c.system)) (number (unsigned e.system)) = ap (λ (k : Field). system_in k.1) same in
    let system : c.system ≡ e.system = cc in
    let text : ◌≡◌ {A = Data} (string (decimal c.version)) (string (decimal e.version)) = ap (λ (k : Field). version_in k.1) same in
    let digits : decimal c.version ≡ decimal e.version = cc in
    let version = same_digits c.version e.version h.version g.version digits in
    let same_record : ◌≡◌ {A = Cluster} (record { id = c.id; system = c.system; version = c.version; control = c.control; catalog = c.catalog }) (record { id = e.id; system = e.system; version = e.version; control = e.control; catalog = e.catalog }) = rw (id, system, version, control, catalog) refl in
    same_record

id_low : (h : List Cluster) (m : ℕ) (c : Cluster) → AreFrom m (map id_of h) → In c h → m ≤ c.id
id_low [] m c from i = absurd i
id_low (x ∷ xs) m c from (inl e) = let is : c.id ≡ m = ap id_of e ∙ from.0 in omega arith
id_low (x ∷ xs) m c from (inr i) = let low = id_low xs (m + 1) c from.1 i in omega (arith, low)

-- histories with the same fields are the same
alike : (xs ys : List Cluster) (m : ℕ) → AllByRecursion IsCluster xs → AllByRecursion IsCluster ys → AreFrom m (map id_of xs) → AreFrom m (map id_of ys) → length xs ≡ length ys → ((z : Field) → In z (map cluster_field xs) → In z (map cluster_field ys)) → xs ≡ ys
alike [] [] m h g p q long all = refl
alike [] (y ∷ ys) m h g p q long all = absurd (omega (arith, long))
alike (x ∷ xs) [] m h g p q long all = absurd (omega (arith, long))
alike (x ∷ xs) (y ∷ ys) m h g p q long all = ap (λ (c : Cluster). c ∷ xs) first ∙ ap (λ (cs : List Cluster). y ∷ cs) (alike xs ys (m + 1) h.1 g.1 p.1 q.1 (omega (arith, long)) rest)
  where
    first : x ≡ y
    first = ⊎_elim
        (λ (e : cluster_field x ≡ cluster_field y). same_field x y h.0 g.0 e)
        (λ (i : In (cluster_field x) (map cluster_field ys)).
        let (c, j, e) = map_in cluster_field ys (cluster_field x) i in
        let same : x ≡ c = same_field x c h.0 (all_in IsCluster ys c g.1 j) e in
        let low = id_low ys (m + 1) c q.1 j in
        let id : c.id ≡ m = ap id_of (sym same) ∙ p.0 in
        absurd (omega (arith, low, id)))
        (all (cluster_field x) (inl refl))

    rest : (z : Field) → In z (map cluster_field xs) → In z (map cluster_field ys)
    rest z i = ⊎_elim
        (λ (e : z ≡ cluster_field y).
        let (c, j, f) = map_in cluster_field xs z i in
        let same : c ≡ y = same_field c y (all_in IsCluster xs c h.1 j) g.0 (sym f ∙ e) in
        let low = id_low xs (m + 1) c p.1 j in
        let id : c.id ≡ m = ap id_of same ∙ q.0 in
        absurd (omega (arith, low, id)))
        (λ (j : In z (map cluster_field ys)). j)
        (all z (inr i))

same_history : (xs ys : List Cluster) → AllByRecursion IsCluster xs → AllByRecursion IsCluster ys → AreFrom 1 (map id_of xs) → AreFrom 1 (map id_of ys) → by_key (map cluster_field xs) ≡ by_key (map cluster_field ys) → xs ≡ ys
same_history xs ys h g p q same =
    let count = sym (length-map xs cluster_field) ∙ sym (length_by_key (map cluster_field xs)) ∙ ap length same ∙ length_by_key (map cluster_field ys) ∙ length-map ys cluster_field in
    alike xs ys 1 h g p q count (λ z i. in_by_key (map cluster_field ys) z (subst (λ (ks : List Field). In z ks) same (by_key_in (map cluster_field xs) z i)))

-- ---- the sections

abbrev keys_at : ℕ → List Section → List Field
keys_at n [] = []
keys_at zero (s ∷ ss) = s.keys
keys_at (suc n) (s ∷ ss) = keys_at n ss

parts : (xs ys : List Entry) (c d : Cluster) (hs gs : List Cluster) → listed xs ++ db c ∷ history hs ∷ [] ≡ listed ys ++ db d ∷ history gs ∷ []
    → (map entry_field xs ≡ map entry_field ys) × (by_key (map cluster_field hs) ≡ by_key (map cluster_field gs))
parts [] [] c d hs gs e = (refl, ap (keys_at 1) e)
parts [] (y ∷ ys) c d hs gs e = let l : ◌≡◌ {A = ℕ} 2 3 = ap length e in absurd (omega (arith, l))
parts (x ∷ xs) [] c d hs gs e = let l : ◌≡◌ {A = ℕ} 3 2 = ap length e in absurd (omega (arith, l))
parts (x ∷ xs) (y ∷ ys) c d hs gs e = (ap (keys_at 0) e, ap (keys_at 2) e)

-- what two values of a text have in common
pub record Agree (v w : BackupInfo) : Type 0 where
  pub entries : map entry_field v.backups ≡ map entry_field w.backups
  pub history : v.history ≡ w.history

pub same_value : (v w : BackupInfo) → IsBackupInfo v → IsBackupInfo w → info_text (backup_sections v) ≡ info_text (backup_sections w) → Agree v w
same_value v w h g same =
    let sections = one_sections (backup_sections v) (backup_sections w) (backup_is_info v h) (backup_is_info w g) same in
    let (c, at_c, rules_c) = found IsCluster v.history v.current h.clusters h.current.0 h.current.1 in
    let (d, at_d, rules_d) = found IsCluster w.history w.current g.clusters g.current.0 g.current.1 in
    let first = backup_sections_are v c (omega (arith, h.current)) at_c in
    let second = backup_sections_are w d (omega (arith, g.current)) at_d in
    let p = parts v.backups w.backups c d v.history w.history (sym first ∙ sections ∙ second) in
    record { entries = p.0; history = same_history v.history w.history h.clusters g.clusters h.numbers g.numbers p.1 }

-- ---- a pair

pub backup_rules : (f : Content) (name : Text) (v : BackupInfo) → PairIs IsBackupText f name v → IsBackupInfo v
backup_rules f name v (inl m) = m.2.rules
backup_rules f name v (inr q) = q.1.2.rules

pub same_backup_text : (f : Content) (name : Text) (v w : BackupInfo) → PairIs IsBackupText f name v → PairIs IsBackupText f name w → info_text (backup_sections v) ≡ info_text (backup_sections w)
same_backup_text f name v w = same_text IsBackupText (λ (v : BackupInfo). info_text (backup_sections v)) (λ v b is. is.spelled) f name v w

pub pair_agrees : (f : Content) (name : Text) (v w : BackupInfo) → PairIs IsBackupText f name v → PairIs IsBackupText f name w → Agree v w
pair_agrees f name v w p q = same_value v w (backup_rules f name v p) (backup_rules f name w q) (same_backup_text f name v w p q)
