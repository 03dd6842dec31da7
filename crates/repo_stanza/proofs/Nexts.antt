-- The values of a stanza's two pairs with the cluster that is given are those of the upgraded stanza.
use Rattle.std.proofs.Common.{◌≡◌, ◌≢◌, ◌⊎◌, ⊎_elim, inl, inr, ℕ, zero, suc, ◌+◌, ◌-◌, ◌≤◌, List, [], ◌∷◌, ◌++◌, map, length, Option, Some, None, refl, ap, ◌∙◌, sym, subst, arith, Bool, true, false, length-append}
use Rattle.std.specs.Prelude.{nat_eq, slice_get, ◌&&◌, option_map}
use Rattle.std.specs.List.{AllByRecursion}
use Rattle.std.specs.Option.{option_map_or}
use Rattle.std.proofs.lemmas.Bool.{eq-eqb, eqb-true, and_parts, and_from, false≢true}
use Rattle.std.proofs.lemmas.List.{length-map, map-append}
use Rattle.base_devices.specs.Content.{Content}
use Rattle.base_model.specs.declared.clusters.ClusterId.{ClusterId}
use Rattle.base_model.specs.declared.clusters.Cluster.{Cluster}
use Rattle.base_model.specs.Text.{Text, In}
use Rattle.base_model.specs.Names.{archive_info, backup_info}
use Rattle.base_model.specs.Fields.{Field, at_number}
use Rattle.base_model.specs.InfoText.{info_text}
use Rattle.base_model.specs.InfoFiles.{IsArchiveText, IsBackupText, IsArchiveInfo, IsBackupInfo, IsCluster, backup_sections, entry_field, info_limit}
use Rattle.base_model.specs.Pair.{PairIs}
use Rattle.base_model.specs.Repository.{Stanza, Backup, Repository, identity_of, current_number}
use Rattle.base_model.specs.Represents.{Represents, HasStanza, IsPending, archive_value, backup_value}
use Rattle.base_model.specs.Steps.{Upgrade, changed, is_same_cluster, is_current, next_cluster}
use Rattle.base_model.specs.Values.{ArchiveInfo, BackupInfo, Entry}
use Rattle.repo_keys.proofs.Numbers.{map_in, in_map}
use Rattle.repo_info.proofs.OneArchive.{one_archive_pair}
use Rattle.repo_stanza.specs.declared.control.Control.{Control}
use Rattle.repo_stanza.specs.declared.fault.Identity.{Identity}
use Rattle.repo_stanza.specs.ControlFile.{first_cluster}
use Rattle.repo_stanza.specs.Pairs.{identity_known, identity_kept, HasPending}
use Rattle.repo_stanza.specs.Judging.{HasList, Validates, As, Without, IsOf, KeepsStanza}
use Rattle.repo_stanza.specs.HealingPair.{archive_text, backup_text}
use Rattle.repo_stanza.specs.Upgrading.{longer_archive, longer_list, stated_next, longer_backup_text, longer_archive_text}
use Rattle.repo_stanza.proofs.OneBackup.{pair_agrees}
use Rattle.repo_stanza.proofs.Settled.{same_prefix, has_stanza}
use Rattle.repo_stanza.proofs.SameStanza.{get_map, sections_by, without_text, backup_text_is, archive_text_is}
use Rattle.repo_stanza.proofs.Longer.{longer_list_rules, longer_archive_rules, none_behind}

all_in : {X : Type 0} (P : X → Type 0) (xs : List X) (x : X) → AllByRecursion P xs → In x xs → P x
all_in P [] x h at = absurd at
all_in P (y ∷ ys) x h (inl same) = subst P (sym same) h.0
all_in P (y ∷ ys) x h (inr at) = all_in P ys x h.1 at

module _ (stanza : Text) (known : Control) (f : Content) (a : ArchiveInfo) (w : BackupInfo) (l : HasList stanza f a w) where
  -- the repository has a stanza
  pub has_some : (r : Repository) → Represents stanza f r → (s : Stanza) × (r ≡ Some s) × HasStanza stanza f s
  has_some r stands = has_stanza stanza f a l.pairs.archive r stands

  -- where it is the current one
  pub keeps : IsOf known a → KeepsStanza stanza known f a w
  keeps of = record { backup = l.backup; pairs = l.pairs; settles = l.settles; of = of }

  module _ (s : Stanza) (h : HasStanza stanza f s) where
    archive_is : a ≡ archive_value s
    archive_is = one_archive_pair f (archive_info stanza) a (archive_value s) l.pairs.archive h.archive_pair

    same_count : length a.history ≡ length s.history
    same_count = ap (λ (v : ArchiveInfo). length v.history) archive_is ∙ length-map s.history identity_of

    archive_rules : IsArchiveInfo (archive_value s)
    archive_rules = (archive_text_is f (archive_info stanza) (archive_value s) h.archive_pair).rules

    some : 1 ≤ length s.history
    some = let c = archive_rules.current in omega (arith, c)

    -- ---- the cluster

    abbrev added : Cluster
    added = stated_next known a

    pub added_is : added ≡ next_cluster (first_cluster known) s
    added_is = ap (λ (n : ℕ). (let c : Cluster = record { id = n + 1; system = known.system; version = known.version; control = known.control; catalog = known.catalog } in c)) same_count

    pub number : added.id ≡ length s.history + 1
    number = omega (arith, same_count)

    -- the current one is the one that is given, or isn't
    current_at : (x : ClusterId) → at_number a.current a.history ≡ Some x → (c : Cluster) × (at_number (current_number s) s.history ≡ Some c) × (x ≡ identity_of c)
    current_at x at =
        let e : at_number (current_number s) (map identity_of s.history) ≡ Some x = ap (λ (v : ArchiveInfo). at_number v.current v.history) (sym archive_is) ∙ at in
        get_map identity_of s.history (current_number s - 1) x e

    pub is_current_known : IsOf known a → is_current (first_cluster known) s ≡ true
    is_current_known of =
        let (c, at, is) = current_at of.current of.is_current in
        let same : identity_kept (identity_of c) ≡ identity_known known = ap identity_kept (sym is) ∙ of.same in
        let system : known.system ≡ c.system = sym (ap (λ (i : Identity). i.system) same) in
        let version : known.version ≡ c.version = sym (ap (λ (i : Identity). i.version) same) in
        ap (λ (o : Option Cluster). option_map_or (is_same_cluster (first_cluster known)) o false) at
        ∙ and_from (nat_eq known.system c.system) (nat_eq known.version c.version) (eq-eqb known.system c.system system) (eq-eqb known.version c.version version)

    pub is_other_known : ¬ IsOf known a → is_current (first_cluster known) s ≡ false
    is_other_known none = go (is_current (first_cluster known) s) refl
      where
        of_it : (o : Option Cluster) → at_number (current_number s) s.history ≡ o → option_map_or (is_same_cluster (first_cluster known)) o false ≡ true → IsOf known a
        of_it None at e = absurd (false≢true e)
        of_it (Some c) at e =
            let both = and_parts (nat_eq known.system c.system) (nat_eq known.version c.version) e in
            let system = eqb-true known.system c.system both.0 in
            let version = eqb-true known.version c.version both.1 in
            let here : slice_get (map identity_of s.history) (current_number s - 1) ≡ Some (identity_of c) = map_get identity_of s.history (current_number s - 1) c at in
            record {
              current = identity_of c;
              is_current = ap (λ (v : ArchiveInfo). at_number v.current v.history) archive_is ∙ here;
              same = rw (system, version) refl;
            }
          where
            map_get : {X Y : Type 0} (g : X → Y) (xs : List X) (n : ℕ) (x : X) → slice_get xs n ≡ Some x → slice_get (map g xs) n ≡ Some (g x)
            map_get {X} {Y} g [] n x e = let no : ◌≡◌ {A = Option X} None (Some x) = e in cc
            map_get {X} {Y} g (y ∷ ys) zero x e = let is : ◌≡◌ {A = Option X} (Some y) (Some x) = e in ap (λ (o : Option X). option_map g o) is
            map_get g (y ∷ ys) (suc n) x e = map_get g ys n x e

        go : (q : Bool) → is_current (first_cluster known) s ≡ q → is_current (first_cluster known) s ≡ false
        go false e = e
        go true e = absurd (none (of_it (at_number (current_number s) s.history) refl e))

    -- ---- the list

    record IsListOf : Type 0 where
      history : w.history ≡ s.history
      entries : map entry_field w.backups ≡ map entry_field (map (λ (b : Backup). b.entry) s.backups)

    list_by : Validates a l.backup w → (x : Option Cluster) → PairIs IsBackupText f (backup_info stanza) (backup_value s x) → IsListOf
    list_by (As same is) None pair =
        let agree = pair_agrees f (backup_info stanza) l.backup (backup_value s None) l.pairs.backup pair in
        record { history = ap (λ (v : BackupInfo). v.history) is ∙ agree.history; entries = ap (λ (v : BackupInfo). map entry_field v.backups) is ∙ agree.entries }
    list_by (As same is) (Some p) pair =
        let agree = pair_agrees f (backup_info stanza) l.backup (backup_value s (Some p)) l.pairs.backup pair in
        absurd (omega (arith, ap length same, length-map l.backup.history identity_of, ap length agree.history, length-append s.history (p ∷ []), same_count))
    list_by (Without p is) None pair =
        let agree = pair_agrees f (backup_info stanza) l.backup (backup_value s None) l.pairs.backup pair in
        absurd (omega (arith, ap length agree.history, ap length p.whole, ap length p.same, length-map p.earlier identity_of, length-append p.earlier (p.last ∷ []), same_count))
    list_by (Without p is) (Some c) pair =
        let agree = pair_agrees f (backup_info stanza) l.backup (backup_value s (Some c)) l.pairs.backup pair in
        record {
          history = ap (λ (v : BackupInfo). v.history) is ∙ same_prefix p.earlier s.history p.last c (sym p.whole ∙ agree.history);
          entries = ap (λ (v : BackupInfo). map entry_field v.backups) is ∙ agree.entries;
        }

    list_is : IsListOf
    list_is = list_by l.settles h.pending h.backup_pair

    none_rules_of : (x : Option Cluster) → IsPending s x → PairIs IsBackupText f (backup_info stanza) (backup_value s x) → IsBackupInfo (backup_value s None)
    none_rules_of None fits pair = (backup_text_is f (backup_info stanza) (backup_value s None) pair).rules
    none_rules_of (Some c) fits pair = (without_text s c some fits (backup_text_is f (backup_info stanza) (backup_value s (Some c)) pair)).rules

    none_rules : IsBackupInfo (backup_value s None)
    none_rules = none_rules_of h.pending h.is_pending h.backup_pair

    pub not_used : IsPending s (Some added)
    not_used b at same =
        let le = all_in (λ (e : Entry). e.db ≤ length s.history) (map (λ (b : Backup). b.entry) s.backups) b.entry
        (none_behind (length s.history) [] (map (λ (b : Backup). b.entry) s.backups) none_rules.backups) (in_map (λ (b : Backup). b.entry) s.backups b at) in
        omega (arith, le, same, number)

    -- ---- the texts

    pub list_text_is : IsCluster added → length (longer_backup_text known a w) ≤ info_limit → IsBackupText (backup_value s (Some added)) (longer_backup_text known a w)
    list_text_is is_cluster within = record {
      rules = longer_list_rules (backup_value s None) added none_rules is_cluster number;
      spelled =
          ap (λ (cs : List Cluster). (let v : BackupInfo = record { current = added.id; history = cs ++ added ∷ []; backups = w.backups } in backup_text v)) list_is.history
          ∙ ap info_text (sections_by added.id (s.history ++ added ∷ []) w.backups (map (λ (b : Backup). b.entry) s.backups) list_is.entries);
      within = within;
    }

    archive_next : archive_value (changed (Upgrade added) s) ≡ longer_archive a added
    archive_next =
        let n : length (s.history ++ added ∷ []) ≡ added.id = omega (arith, number, length-append s.history (added ∷ [])) in
        let cs : map identity_of (s.history ++ added ∷ []) ≡ a.history ++ identity_of added ∷ [] = map-append identity_of s.history (added ∷ []) ∙ ap (λ (v : ArchiveInfo). v.history ++ identity_of added ∷ []) (sym archive_is) in
        ap (λ (k : ℕ). (let v : ArchiveInfo = record { current = k; history = map identity_of (s.history ++ added ∷ []) } in v)) n
        ∙ ap (λ (xs : List ClusterId). (let v : ArchiveInfo = record { current = added.id; history = xs } in v)) cs

    pub archive_text_next : IsCluster added → length (longer_archive_text known a) ≤ info_limit → IsArchiveText (archive_value (changed (Upgrade added) s)) (longer_archive_text known a)
    archive_text_next is_cluster within =
        let rules : IsArchiveInfo (longer_archive a added) = longer_archive_rules a added (subst IsArchiveInfo (sym archive_is) archive_rules) is_cluster refl in
        subst (λ (v : ArchiveInfo). IsArchiveText v (longer_archive_text known a)) (sym archive_next) (record { rules = rules; spelled = refl; within = within })
