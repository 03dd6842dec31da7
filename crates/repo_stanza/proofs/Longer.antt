-- Values of the two info files with one cluster more.
use Rattle.std.proofs.Common.{◌≡◌, ℕ, ◌+◌, ◌≤◌, ◌<◌, ◌^◌, List, [], ◌∷◌, ◌++◌, map, length, refl, ap, ◌∙◌, sym, subst, arith, length-append}
use Rattle.std.specs.List.{AllByRecursion}
use Rattle.base_model.specs.declared.clusters.ClusterId.{ClusterId}
use Rattle.base_model.specs.declared.clusters.Cluster.{Cluster}
use Rattle.base_model.specs.InfoFiles.{IsClusterId, IsCluster, AreFrom, AreListed, IsListedEntry, IsArchiveInfo, IsBackupInfo}
use Rattle.base_model.specs.Repository.{identity_of}
use Rattle.base_model.specs.Values.{ArchiveInfo, BackupInfo, Entry}
use Rattle.base_model.proofs.Upgraded.{from_end}
use Rattle.repo_stanza.specs.Upgrading.{longer_archive, longer_list}

all_end : {X : Type 0} (P : X → Type 0) (xs : List X) (x : X) → AllByRecursion P xs → P x → AllByRecursion P (xs ++ x ∷ [])
all_end P [] x h p = (p, tt)
all_end P (y ∷ ys) x h p = (h.0, all_end P ys x h.1 p)

entry_more : (n m : ℕ) (earlier : List Entry) (e : Entry) → n ≤ m → IsListedEntry n earlier e → IsListedEntry m earlier e
entry_more n m earlier e le h = record {
  label = h.label;
  kind = h.kind;
  prior = h.prior;
  references = h.references;
  reference_order = h.reference_order;
  db = (h.db.0, omega (arith, le, h.db.1), h.db.2);
  span = h.span;
  start = h.start;
  stop = h.stop;
  size = h.size;
  stored = h.stored;
}

listed_more : (n m : ℕ) (earlier es : List Entry) → n ≤ m → AreListed n earlier es → AreListed m earlier es
listed_more n m earlier [] le h = tt
listed_more n m earlier (e ∷ es) le h = (entry_more n m earlier e le h.0, listed_more n m (earlier ++ e ∷ []) es le h.1)

pub longer_list_rules : (w : BackupInfo) (c : Cluster) → IsBackupInfo w → IsCluster c → c.id ≡ length w.history + 1 → IsBackupInfo (longer_list w c)
longer_list_rules w c rules is number = record {
  clusters = all_end IsCluster w.history c rules.clusters is;
  numbers = from_end (λ (x : Cluster). x.id) w.history c 1 rules.numbers (omega (arith, number));
  current = (omega (arith, number), omega (arith, number, length-append w.history (c ∷ [])));
  backups = listed_more (length w.history) (length (w.history ++ c ∷ [])) [] w.backups (omega (arith, length-append w.history (c ∷ []))) rules.backups;
  order = rules.order;
}

pub longer_archive_rules : (a : ArchiveInfo) (c : Cluster) → IsArchiveInfo a → IsCluster c → c.id ≡ length a.history + 1 → IsArchiveInfo (longer_archive a c)
longer_archive_rules a c rules is number = record {
  clusters = all_end IsClusterId a.history (identity_of c) rules.clusters (record { id = is.id; system = is.system; version = is.version });
  numbers = from_end (λ (x : ClusterId). x.id) a.history (identity_of c) 1 rules.numbers (omega (arith, number));
  current = (omega (arith, number), omega (arith, number, length-append a.history (identity_of c ∷ [])));
}

-- no listed backup is of a number behind the history
pub none_behind : (n : ℕ) (earlier es : List Entry) → AreListed n earlier es → AllByRecursion (λ (e : Entry). e.db ≤ n) es
none_behind n earlier [] h = tt
none_behind n earlier (e ∷ es) h = (h.0.db.1, none_behind n (earlier ++ e ∷ []) es h.1)
