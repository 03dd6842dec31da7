-- A value with these backups and this cluster.
use Rattle.std.proofs.Common.{◌≡◌, ℕ, zero, suc, ◌+◌, ◌-◌, ◌<◌, ◌≤◌, ◌^◌, List, [], ◌∷◌, ◌++◌, map, length, Some, refl, ap, arith}
use Rattle.std.specs.Prelude.{slice_get}
use Rattle.std.specs.List.{AllByRecursion}
use Rattle.base_model.specs.declared.clusters.Cluster.{Cluster}
use Rattle.base_model.specs.InfoFiles.{IsCluster, IsListedEntry, AreListed, AreFrom, IsBackupInfo}
use Rattle.base_model.specs.Values.{Entry, BackupInfo}
use Rattle.repo_info.specs.BackupForm.{own_id, highest, IsList}
use Rattle.repo_info.proofs.ListedKeys.{many}

-- this many clusters from a number on, with this one at its number
pub copies_from : ℕ → ℕ → Cluster → List Cluster
copies_from m zero c = []
copies_from m (suc n) c = (record { id = m; system = c.system; version = c.version; control = c.control; catalog = c.catalog }) ∷ copies_from (m + 1) n c

pub copies_length : (m n : ℕ) (c : Cluster) → length (copies_from m n c) ≡ n
unfolding copies_from
copies_length m zero c = refl
copies_length m (suc n) c = let e = copies_length (m + 1) n c in omega (arith, e)

copies_rules : (m n : ℕ) (c : Cluster) → IsCluster c → m + n ≤ 2 ^ 32 → AllByRecursion IsCluster (copies_from m n c)
unfolding copies_from
copies_rules m zero c h top = tt
copies_rules m (suc n) c h top = (record { id = omega arith; system = h.system; version = h.version; control = h.control; catalog = h.catalog }, copies_rules (m + 1) n c h (omega arith))

copies_numbers : (m n : ℕ) (c : Cluster) → AreFrom m (map own_id (copies_from m n c))
unfolding copies_from
copies_numbers m zero c = tt
copies_numbers m (suc n) c = (refl, copies_numbers (m + 1) n c)

pub copies_at : (m n i : ℕ) (c : Cluster) → i < n → c.id ≡ m + i → slice_get (copies_from m n c) i ≡ Some c
unfolding copies_from
copies_at m zero i c h is = absurd (omega arith)
copies_at m (suc n) zero c h is =
    let e : m ≡ c.id = omega (arith, is) in
    let r : ◌≡◌ {A = Cluster} (record { id = m; system = c.system; version = c.version; control = c.control; catalog = c.catalog }) (record { id = c.id; system = c.system; version = c.version; control = c.control; catalog = c.catalog }) = rw e refl in
    ap (λ (x : Cluster). Some x) r
copies_at m (suc n) (suc i) c h is =
    copies_at (m + 1) n i c (omega arith) (omega (arith, is))

abbrev pub built : List Entry → Cluster → ℕ → BackupInfo
built es c n = record { current = c.id; history = copies_from 1 n c; backups = es }

with_db : (m clusters : ℕ) (earlier : List Entry) (e : Entry) → e.db ≤ m → IsListedEntry clusters earlier e → IsListedEntry m earlier e
with_db m clusters earlier e few h = record {
  label = h.label;
  kind = h.kind;
  prior = h.prior;
  references = h.references;
  reference_order = h.reference_order;
  db = (h.db.0, few, h.db.2);
  span = h.span;
  start = h.start;
  stop = h.stop;
  size = h.size;
  stored = h.stored;
}

-- the list is one of each history that has its numbers
pub listed_as : (m clusters : ℕ) (earlier es : List Entry) → highest es ≤ m → AreListed clusters earlier es → AreListed m earlier es
listed_as m clusters earlier [] few h = tt
listed_as m clusters earlier (e ∷ es) few h = (with_db m clusters earlier e (omega (arith, few)) h.0, listed_as m clusters (earlier ++ e ∷ []) es (omega (arith, few)) h.1)

pub listed_wide : (clusters : ℕ) (earlier es : List Entry) → AreListed clusters earlier es → AreListed many earlier es
listed_wide clusters earlier [] h = tt
listed_wide clusters earlier (e ∷ es) h = let db = h.0.db in (with_db many clusters earlier e (omega (arith, db.2)) h.0, listed_wide clusters (earlier ++ e ∷ []) es h.1)

pub highest_within : (clusters : ℕ) (earlier es : List Entry) → AreListed clusters earlier es → highest es ≤ clusters
highest_within clusters earlier [] h = omega arith
highest_within clusters earlier (e ∷ es) h = let db = h.0.db in let more = highest_within clusters (earlier ++ e ∷ []) es h.1 in omega (arith, db.1, more)

pub highest_small : (clusters : ℕ) (earlier es : List Entry) → AreListed clusters earlier es → highest es < 2 ^ 32
highest_small clusters earlier [] h = omega arith
highest_small clusters earlier (e ∷ es) h = let db = h.0.db in let more = highest_small clusters (earlier ++ e ∷ []) es h.1 in omega (arith, db.2, more)

pub built_rules : (es : List Entry) (c : Cluster) (n : ℕ) → IsList es → IsCluster c → 1 ≤ c.id → c.id ≤ n → highest es ≤ n → n < 2 ^ 32 → IsBackupInfo (built es c n)
built_rules es c n list h low within few small =
    let long = copies_length 1 n c in
    record {
      clusters = copies_rules 1 n c h (omega (arith, small));
      numbers = copies_numbers 1 n c;
      current = (low, omega (arith, long, within));
      backups = listed_as (length (copies_from 1 n c)) many [] es (omega (arith, long, few)) list.backups;
      order = list.order;
    }
